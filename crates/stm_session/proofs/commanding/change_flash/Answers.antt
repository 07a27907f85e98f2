use Rattle.std.proofs.Common.{◌≡◌, ◌∙◌, ◌+◌, ◌++◌, ◌∷◌, [], List, ℕ, Result, Ok, Err, true, ap, append_assoc, subst, sym, length, refl}
use Rattle.stm_wire.proofs.Names.{ChipData, Device, page_count, RigState}
use Rattle.stm_journal.specs.declared.entry.Entry.{Entry}
use Rattle.stm_journal.specs.declared.entry.Entry.TheVariants.{Ends}
use Rattle.stm_session.proofs.Names.{Adds, Are, AreBegunTurns, Begin, begins, cause_of, Change, Changes, closing, command_of, depth_at, DoesSteps, ends, Fault, flash_after, Goes, is_named_at}
use Rattle.stm_session.proofs.Names.{is_unfinished_at, IsClosedInPart, IsMade, IsOneSegment, IsSegmentBegun, IsSteady, KeepsErased, opening_entries, page_entries_below, SameMake, Step, StopsBy, turns}
use Rattle.stm_session.proofs.Commandings.{begin_fails, changes_as, end_fails, end_goes, pages_fail, pages_go, turned_make}
use Rattle.stm_session.proofs.Keeping.{depth_text, unfinished_text}
use Rattle.stm_journal.proofs.Names.{begin_entries, Loaded}
use Rattle.stm_session.proofs.CutShort.{part_stops, then_stops}
use Rattle.stm_session.proofs.KeptErased.{each_then, keep_begin, keep_end, keep_still}
use Rattle.stm_session.proofs.Orders.{does_then}
use Rattle.stm_session.proofs.commanding.change_flash.Given as given
use Rattle.stm_session.proofs.commanding.change_flash.Goals as goal
use Rattle.stm_session.proofs.commanding.change_flash.Goals.{After-end_segment}

-- pages are turned as from the flash before the segment
turned_from : (k : ChipData) (change : Change) (flashes : List (List ℕ)) (l2 l3 : Loaded)
    (a b d : RigState) (r : Result ℕ Fault) → b.device ≡ a.device → a.device.chip ≡ k
    → IsSteady (a.device.flash ∷ flashes) l2 b
    → ((fs : List (List ℕ)) → IsSteady fs l2 b → b.device.chip ≡ k
    → Goes fs (page_entries_below (page_count k) k b.device.flash
    (flash_after k b.device.flash (command_of change))) l3 b d r
    (λ y. IsMade k change b.device.flash d.device.flash y))
    → Goes (a.device.flash ∷ flashes) (page_entries_below (page_count k) k a.device.flash
    (flash_after k a.device.flash (command_of change))) l3 b d r
    (λ y. IsMade k change a.device.flash d.device.flash y)
turned_from k change flashes l2 l3 a b d r same chip steady gives =
    let G : List ℕ → Type 0 = λ f. Goes {T = ℕ} (a.device.flash ∷ flashes)
    (page_entries_below (page_count k) k f (flash_after k f (command_of change))) l3 b d r
    (λ y. IsMade k change f d.device.flash y) in
    subst G (ap (λ (x : Device). x.flash) same)
    (gives (a.device.flash ∷ flashes) steady (ap (λ (x : Device). x.chip) same ∙ chip))

-- What the exits behind end_segment share.
module _ (g : given.Over) (c : goal.After-end_segment g) (flashes : List (List ℕ)) where
  abbrev old : RigState
  old = g.R.Rig.view c.args.rig.now

  abbrev turned : RigState
  turned = g.R.Rig.view c.turn_pages.new.rig

  abbrev after : List ℕ
  after = flash_after c.args.chip.now old.device.flash (command_of c.args.change.now)

  abbrev begins_by : List Entry
  begins_by =
      opening_entries (is_named_at old.journal) c.args.chip.now.id c.args.chip.now.unique
      (depth_at old.journal + 1)

  abbrev turns_by : List Entry
  turns_by = page_entries_below (page_count c.args.chip.now) c.args.chip.now old.device.flash after

  -- the segment has begun, and its pages are turned
  record AllTurned : Type 0 where
    whole : Changes flashes (begins_by ++ turns_by) after c.turn_pages.new.journal old turned
        (Ok c.in_ok-pages.pages)
        (λ y. IsMade c.args.chip.now c.args.change.now old.device.flash turned.device.flash y)
    make : SameMake old.device turned.device
    lines : (begins_by ++ turns_by) ++ Ends (depth_at turned.journal) ∷ []
        ≡ begins_by ++ (turns_by ++ Ends (depth_at old.journal + 1) ∷ [])

  all_turned : IsSteady flashes c.args.journal.now old → old.device.chip ≡ c.args.chip.now
      → AllTurned
  all_turned steady chip =
      let b = g.R.Rig.view c.begin_segment.new.rig in
      let l2 = c.begin_segment.new.journal in
      let l3 = c.turn_pages.new.journal in
      let first = c.in_ok-segment.ensures.honest flashes after steady chip in
      let unfinished : is_unfinished_at b.journal ≡ true =
      sym (unfinished_text l2 b.journal first.steady.loaded)
      ∙ c.in_ok-segment.ensures.begun.unfinished in
      let goes = turned_from c.args.chip.now c.args.change.now flashes l2 l3 old b turned
      (Ok c.in_ok-pages.pages) first.done chip first.steady c.in_ok-pages.ensures.honest in
      let deep : depth_at turned.journal ≡ depth_at old.journal + 1 =
      sym (depth_text l3 turned.journal goes.steady.loaded) ∙ c.in_ok-pages.ensures.depth
      ∙ c.in_ok-segment.ensures.begun.depth
      ∙ ap (λ (n : ℕ). n + 1) (depth_text c.args.journal.now old.journal steady.loaded) in
      record {
        whole = pages_go flashes begins_by turns_by after l2 old b turned c.in_ok-segment.segment
            first first.done unfinished l3 c.in_ok-pages.pages goes;
        make = turned_make flashes begins_by turns_by after l2 old b turned
            c.in_ok-segment.segment first first.done unfinished l3 c.in_ok-pages.pages
            (g.met.R.Rig.model c.turn_pages.new.rig goes.honest) goes;
        lines = append_assoc begins_by turns_by (Ends (depth_at turned.journal) ∷ [])
            ∙ ap (λ (n : ℕ). begins_by ++ (turns_by ++ Ends n ∷ [])) deep;
      }

pub returns-in_err-segment-clause-honest : goal.returns-in_err-segment-clause-honest
returns-in_err-segment-clause-honest g c flashes steady chip =
    let V = g.R.Rig.view in
    let a = V c.args.rig.now in
    let b = V c.begin_segment.new.rig in
    let k = c.args.chip.now in
    let after = flash_after k a.device.flash (command_of c.args.change.now) in
    let xs : List Entry = opening_entries (is_named_at a.journal) k.id k.unique (depth_at a.journal + 1) in
    let rest : List Entry = page_entries_below (page_count k) k a.device.flash after ++ Ends (depth_at a.journal + 1) ∷ [] in
    begin_fails flashes xs rest after c.begin_segment.new.journal c.begin_segment.new.journal a b _ c.from_residual.result (c.in_err-segment.ensures.honest flashes after steady chip) c.from_residual.ensures.1

pub returns-in_err-pages-clause-honest : goal.returns-in_err-pages-clause-honest
returns-in_err-pages-clause-honest g c flashes steady chip =
    let V = g.R.Rig.view in
    let a = V c.args.rig.now in
    let b = V c.begin_segment.new.rig in
    let d = V c.turn_pages.new.rig in
    let l2 = c.begin_segment.new.journal in
    let l3 = c.turn_pages.new.journal in
    let k = c.args.chip.now in
    let after = flash_after k a.device.flash (command_of c.args.change.now) in
    let xs : List Entry =
    opening_entries (is_named_at a.journal) k.id k.unique (depth_at a.journal + 1) in
    let ys : List Entry = page_entries_below (page_count k) k a.device.flash after in
    let zs : List Entry = Ends (depth_at a.journal + 1) ∷ [] in
    let first = c.in_ok-segment.ensures.honest flashes after steady chip in
    let unfinished : is_unfinished_at b.journal ≡ true =
    sym (unfinished_text l2 b.journal first.steady.loaded)
    ∙ c.in_ok-segment.ensures.begun.unfinished in
    let goes = turned_from k c.args.change.now flashes l2 l3 a b d (Err c.in_err-pages.field-0.0)
    first.done chip first.steady c.in_err-pages.ensures.honest in
    changes_as flashes ((xs ++ ys) ++ zs) (xs ++ (ys ++ zs)) after l3 a d
    c.from_residual-in_err-pages.result (append_assoc xs ys zs)
    (pages_fail flashes xs ys after l2 a b d c.in_ok-segment.segment first first.done unfinished zs l3
    l3 _ c.from_residual-in_err-pages.result goes c.from_residual-in_err-pages.ensures.1)

pub returns-in_err-end_segment-clause-honest : goal.returns-in_err-end_segment-clause-honest
returns-in_err-end_segment-clause-honest g c flashes steady chip =
    let last = (goal.at.returns-in_err-end_segment-clause-honest g c).After-end_segment in
    let all = all_turned g last flashes steady chip in
    let a = old g last flashes in
    let d = turned g last flashes in
    let e = g.R.Rig.view c.end_segment.new.rig in
    let l4 = c.end_segment.new.journal in
    let ws = begins_by g last flashes ++ turns_by g last flashes in
    let zs : List Entry = Ends (depth_at d.journal) ∷ [] in
    changes_as flashes (ws ++ zs) _ (after g last flashes) l4 a e
    c.from_residual-in_err-end_segment.result all.lines
    (end_fails flashes ws zs (after g last flashes) c.turn_pages.new.journal l4 a d e
    c.in_ok-pages.pages all.whole all.make all.whole.done.flash l4 _
    c.from_residual-in_err-end_segment.result
    (c.in_err-end_segment.ensures.honest (a.device.flash ∷ flashes) all.whole.steady
    (all.make.chip ∙ chip))
    c.from_residual-in_err-end_segment.ensures.1)

pub returns-clause-honest : goal.returns-clause-honest
returns-clause-honest g c flashes steady chip =
    let last = (goal.at.returns-clause-honest g c).After-end_segment in
    let all = all_turned g last flashes steady chip in
    let a = old g last flashes in
    let d = turned g last flashes in
    let e = g.R.Rig.view c.end_segment.new.rig in
    let l4 = c.end_segment.new.journal in
    let ws = begins_by g last flashes ++ turns_by g last flashes in
    let zs : List Entry = Ends (depth_at d.journal) ∷ [] in
    let closes =
    c.in_ok-end_segment.ensures.honest (a.device.flash ∷ flashes) all.whole.steady
    (all.make.chip ∙ chip) in
    let made = all.whole.done in
    let flash = ap (λ (x : Device). x.flash) closes.same_device ∙ made.flash in
    changes_as flashes (ws ++ zs) _ (after g last flashes) l4 a e _ all.lines
    (end_goes flashes ws zs (after g last flashes) c.turn_pages.new.journal l4 a d e
    c.in_ok-pages.pages all.whole all.make made.flash (tt {0})
    (c.in_ok-segment.segment, c.in_ok-pages.pages) closes
    (record { flash = flash; counts = made.counts }))

pub returns-clause-order : goal.returns-clause-order
returns-clause-order g c =
    let V = g.R.Rig.view in
    let chip = c.args.chip.now in
    let l = c.args.journal.now in
    let l2 = c.begin_segment.new.journal in
    let l3 = c.turn_pages.new.journal in
    let l4 = c.end_segment.new.journal in
    let a = V c.args.rig.now in
    let b = V c.begin_segment.new.rig in
    let d = V c.turn_pages.new.rig in
    let e = V c.end_segment.new.rig in
    let first : List Step = Adds (begin_entries chip.id chip.unique l.state) ∷ [] in
    let turned = c.in_ok-pages.ensures.order in
    let deep : length l3.state.stack ≡ length l.state.stack + 1 = c.in_ok-pages.ensures.depth ∙ c.in_ok-segment.ensures.begun.depth in
    let E : ℕ → Type 0 = λ m. DoesSteps (closing chip ++ Adds (Ends m ∷ []) ∷ []) l3 l4 d e in
    let last : List Step = closing chip ++ Adds (Ends (length l.state.stack + 1) ∷ []) ∷ [] in
    let all = does_then first (turned.0 ++ last) l l2 l4 a b e c.in_ok-segment.ensures.order (does_then turned.0 last l2 l3 l4 b d e turned.2 (subst E deep c.in_ok-end_segment.ensures.order)) in
    let done : IsOneSegment chip c.args.change.now l.state (first ++ (turned.0 ++ last)) = record { turned = turned.0; are_turned = turned.1.0; is = refl } in
    let s = l4.state in
    let still = keep_still l3.state s turned.0 (λ m h. c.in_ok-end_segment.ensures.ended.same.keeps m ∙ h) turned.1.1 in
    let keeps = each_then (KeepsErased s) first (turned.0 ++ last) (keep_begin s l.state chip) (each_then (KeepsErased s) turned.0 last still (keep_end s chip (length l.state.stack + 1))) in
    (first ++ (turned.0 ++ last), (done, keeps), all)

pub returns-in_err-segment-clause-stops : goal.returns-in_err-segment-clause-stops
returns-in_err-segment-clause-stops g c =
    let V = g.R.Rig.view in
    let chip = c.args.chip.now in
    let s = c.args.journal.now.state in
    let own : List Step = Adds (begin_entries chip.id chip.unique s) ∷ [] in
    part_stops (Begin (Are own)) (IsSegmentBegun chip c.args.change.now s) c.args.journal.now.is_torn (V c.args.rig.now) (V c.begin_segment.new.rig) _ c.from_residual.result c.from_residual.ensures.1
    (λ xs begun. begins begun) c.in_err-segment.ensures.stops

pub returns-in_err-pages-clause-stops : goal.returns-in_err-pages-clause-stops
returns-in_err-pages-clause-stops g c =
    let V = g.R.Rig.view in
    let chip = c.args.chip.now in
    let change = c.args.change.now in
    let l = c.args.journal.now in
    let own : List Step = Adds (begin_entries chip.id chip.unique l.state) ∷ [] in
    then_stops (AreBegunTurns chip change) (IsSegmentBegun chip change l.state) own l c.begin_segment.new.journal (V c.args.rig.now) (V c.begin_segment.new.rig) (V c.turn_pages.new.rig) _
    c.from_residual-in_err-pages.result c.from_residual-in_err-pages.ensures.1 c.in_ok-segment.ensures.order c.in_err-pages.ensures.stops (λ ys begun. turns ys begun refl)

pub returns-in_err-end_segment-clause-stops : goal.returns-in_err-end_segment-clause-stops
returns-in_err-end_segment-clause-stops g c =
    let V = g.R.Rig.view in
    let chip = c.args.chip.now in
    let change = c.args.change.now in
    let l = c.args.journal.now in
    let l2 = c.begin_segment.new.journal in
    let l3 = c.turn_pages.new.journal in
    let a = V c.args.rig.now in
    let b = V c.begin_segment.new.rig in
    let d = V c.turn_pages.new.rig in
    let e = V c.end_segment.new.rig in
    let own : List Step = Adds (begin_entries chip.id chip.unique l.state) ∷ [] in
    let turned = c.in_ok-pages.ensures.order in
    let before : List Step = own ++ turned.0 in
    let deep : length l3.state.stack ≡ length l.state.stack + 1 = c.in_ok-pages.ensures.depth ∙ c.in_ok-segment.ensures.begun.depth in
    let Part : ℕ → List Step → Type 0 = λ k. IsClosedInPart chip (Begin (Are (Adds (Ends k ∷ []) ∷ []))) in
    let P : ℕ → Type 0 = λ k. StopsBy (Part k) (cause_of c.in_err-end_segment.field-0.0) l3.is_torn d e in
    then_stops (Part (length l.state.stack + 1)) (IsSegmentBegun chip change l.state) before l l3 a d e _ c.from_residual-in_err-end_segment.result c.from_residual-in_err-end_segment.ensures.1
    (does_then own turned.0 l l2 l3 a b d c.in_ok-segment.ensures.order turned.2) (subst P deep c.in_err-end_segment.ensures.stops)
    (λ ys part. ends turned.0 ys turned.1.0 part refl)
