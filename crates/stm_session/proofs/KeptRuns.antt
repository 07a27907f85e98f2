-- What a run does keeps each page before it changes it.
use Rattle.std.proofs.Common.{◌≡◌, Contains, inl, inr, ℕ, zero, ◌+◌, ◌/◌, ◌<◌, ◌≤◌, ◌==◌, ◌&&◌, Bool, true, false, not, if◌then◌else◌, List, [], ◌∷◌, ◌++◌, length, Option, Some, None, refl, sym, ◌∙◌, subst, arith}
use Rattle.std.specs.Prelude.{⊤, bytes_eq, is_none}
use Rattle.std.specs.List.{AllByRecursion, list_any}
use Rattle.std.proofs.lemmas.Bool.{and_parts, false≢true}
use Rattle.std.proofs.lemmas.List.{length-replicate}
use Rattle.stm_image.specs.Lay.{lay}
use Rattle.stm_image.specs.Pairs.{Pairs}
use Rattle.stm_wire.proofs.Names.{ChipData, erased_byte, erased_page, GoesOn, page_count, page_offset, page_size, RigState}
use Rattle.stm_wire.specs.lemmas.DialogueLaws.{GoesOn-weaker}
use Rattle.stm_journal.specs.declared.entry.Entry.TheVariants.{Names, Opens, Keeps, Ends}
use Rattle.stm_journal.proofs.Names.{begin_entries, IsSound, Loaded, StateData, version_for}
use Rattle.stm_session.proofs.Names.{Adds, AreAllTurned, AreBegun, AreCutShort, AreDoneInOrder, AreTurned, asking_steps, begins, Cause, cause_of, Change, closing, CommandData, confirmed_at}
use Rattle.stm_session.proofs.Names.{contact_way, content, ends, Fault, has_companion, is_change, IsAfter, IsBegunIf, IsChangedUnless, IsConfirmedInPart, IsDoneIf, IsLookedAgain, IsOneSegment}
use Rattle.stm_session.proofs.Names.{IsReading, IsSaved, IsSavedWith, IsSegmentBegun, IsTurnOf, KeepsFirst, looks, none, OutcomeData, page_address, page_reads, ReachesAndDoes, ReachesAndStops}
use Rattle.stm_session.proofs.Names.{RunKeeps, RunsInOrder, RunStops, RunStopsKept, Session, SettlesThen, Step, turns, Way}
use Rattle.stm_session.specs.declared.change.Change.TheVariants as change
use Rattle.stm_session.specs.ChangeOrder.{more}
use Rattle.stm_session.specs.RunOrder.{none as nothing_done, more as more_done}
use Rattle.stm_session.specs.Kept.{reads}
use Rattle.stm_session.specs.lemmas.ClosingLaws.{closing_is_looked, goes_on, looked_by}
use Rattle.stm_session.proofs.KeptSteps.{Leads, here, later as further, keeps_front, keeps_then, leads_nothing, leads_reads, leads_rewrite, leads_then}

-- a session that does such steps does others, where these are such of its journal and chip
pub as_session : (table : List ChipData) (old : RigState) (P Q : ChipData → Loaded → Type 0) → ((chip : ChipData) (l : Loaded) → IsSound l.state → P chip l → Q chip l) → Session table old P → Session table old Q
as_session table old P Q weaker x = record { journal = x.journal; loaded = x.loaded; sound = x.sound; chip = x.chip; listed = x.listed; board = x.board; does = weaker x.chip x.journal x.sound x.does }

pub does_as : (way : Way) (id : ℕ) (torn : Bool) (P Q : List Step → Type 0) (old new : RigState) → ((xs : List Step) → P xs → Q xs) → ReachesAndDoes way id torn P old new → ReachesAndDoes way id torn Q old new
does_as way id torn P Q old new weaker (version, codes, steps, allowed, calls) = (version, codes, steps, weaker steps allowed, calls)

pub stops_as : (way : Way) (id : ℕ) (torn : Bool) (P Q : List Step → Type 0) (cause : Cause) (old new : RigState) → ((xs : List Step) → P xs → Q xs) → ReachesAndStops way id torn P cause old new → ReachesAndStops way id torn Q cause old new
stops_as way id torn P Q cause old new weaker (version, codes, calls) =
    let Cut : (List Step → Type 0) → List Step → Type 0 = λ R asked. GoesOn (SettlesThen way (AreCutShort (IsAfter asked R) cause torn)) old.calls new.calls in
    let at : Cut Q (asking_steps version codes id) = GoesOn-weaker _ _ old.calls new.calls calls
    (λ all x. let cut = x.5 in (x.0, x.1, x.2, x.3, x.4, record { done = cut.done; failed = cut.failed; allowed = (cut.allowed.0, cut.allowed.1, weaker cut.allowed.0 cut.allowed.2); last = cut.last; fails = cut.fails; is = cut.is })) in
    (version, codes, at)

-- behind the question whether the board is still the chip's
pub after_as : (these : List Step) (P Q : List Step → Type 0) → ((xs : List Step) → P xs → Q xs) → (xs : List Step) → IsAfter these P xs → IsAfter these Q xs
after_as these P Q weaker xs (own, is, p) = (own, is, weaker own p)

pub confirmed_as : (chip : ChipData) (P Q : List Step → Type 0) → ((xs : List Step) → P xs → Q xs) → (xs : List Step) → IsConfirmedInPart chip P xs → IsConfirmedInPart chip Q xs
confirmed_as chip P Q weaker xs (inl asked) = inl asked
confirmed_as chip P Q weaker xs (inr (own, is, p)) = inr (own, is, weaker own p)

-- the first lines of a segment
begun_lines : (chip : ChipData) (s : StateData) → Leads chip None (Adds (begin_entries chip.id chip.unique s) ∷ []) (Some [])
begun_lines chip s = by_none (is_none s.header)
  where
    by_none : (none : Bool) → Leads chip None (Adds (if none then Names (version_for chip.unique) chip.id chip.unique ∷ Opens (length s.stack + 1) ∷ [] else Opens (length s.stack + 1) ∷ []) ∷ []) (Some [])
    by_none true = record { keeps = ((tt, (tt, tt)), tt); behind = refl }
    by_none false = record { keeps = ((tt, tt), tt); behind = refl }

-- frames that read
readings_lead : (chip : ChipData) (kept : Option (List ℕ)) (steps : List Step) → AllByRecursion (IsReading chip) steps → Leads chip kept steps kept
readings_lead chip kept [] are = leads_nothing chip kept
readings_lead chip kept (step ∷ steps) (is, are) =
    let P : Step → Type 0 = λ x. Leads chip kept (x ∷ []) kept in
    leads_then chip kept kept kept (step ∷ []) steps (subst P (sym is.is) (record { keeps = (reads is.address is.answer refl, tt); behind = refl })) (readings_lead chip kept steps are)

-- steps behind pages that were kept, behind which these are kept, and all that were before
record Leaves (chip : ChipData) (pages : List ℕ) (steps : List Step) (P : List ℕ → Type 0) : Type 0 where
  later : List ℕ
  leads : Leads chip (Some pages) steps (Some later)
  still : (m : ℕ) → Contains pages m → Contains later m
  holds : P later

leaves_nothing : (chip : ChipData) (pages : List ℕ) (P : List ℕ → Type 0) → P pages → Leaves chip pages [] P
leaves_nothing chip pages P p = record { later = pages; leads = leads_nothing chip (Some pages); still = λ m is. is; holds = p }

leaves_as : (chip : ChipData) (pages : List ℕ) (xs ys : List Step) (P : List ℕ → Type 0) → ys ≡ xs → Leaves chip pages xs P → Leaves chip pages ys P
leaves_as chip pages xs ys P is p = let Q : List Step → Type 0 = λ zs. Leaves chip pages zs P in subst Q (sym is) p

leaves_one : (chip : ChipData) (pages : List ℕ) (n : ℕ) (held : List ℕ) (P : List ℕ → Type 0) → P (n ∷ pages) → Leaves chip pages (Adds (Keeps n held ∷ []) ∷ []) P
leaves_one chip pages n held P p = record { later = n ∷ pages; leads = record { keeps = ((tt, tt), tt); behind = refl }; still = λ m is. further m n pages is; holds = p }

leaves_then : (chip : ChipData) (pages : List ℕ) (xs ys : List Step) (P Q : List ℕ → Type 0) → Leaves chip pages xs P → ((later : List ℕ) → P later → Leaves chip later ys Q) → Leaves chip pages (xs ++ ys) Q
leaves_then chip pages xs ys P Q p next =
    let q = next p.later p.holds in
    record {
      later = q.later;
      leads = leads_then chip (Some pages) (Some p.later) (Some q.later) xs ys p.leads q.leads;
      still = λ m is. q.still m (p.still m is);
      holds = q.holds;
    }

leaves_reads : (chip : ChipData) (pages : List ℕ) (n : ℕ) (held : List ℕ) (P : List ℕ → Type 0) → P pages → Leaves chip pages (page_reads chip n held) P
leaves_reads chip pages n held P p = record { later = pages; leads = leads_reads chip (Some pages) (page_address chip n) (page_size chip n / 256) held; still = λ m is. is; holds = p }

-- page n is kept, and page 257 where page 1 is
abbrev Has : ChipData → ℕ → List ℕ → Type 0
Has chip n pages = Contains pages n × (n ≡ 1 → has_companion chip ≡ true → Contains pages 257)

saved_with : (both : Bool) (chip : ChipData) (n : ℕ) (held : List ℕ) (pages : List ℕ) (steps : List Step) → (n == 1 && has_companion chip) ≡ both → IsSavedWith both chip n held steps → Leaves chip pages steps (Has chip n)
saved_with true chip n held pages steps both saved =
    let first = saved.is_first in
    let Q : List ℕ → Type 0 = λ later. Contains later 257 in
    leaves_as chip pages (saved.first ++ Adds (Keeps n held ∷ []) ∷ []) steps (Has chip n) saved.is
    (leaves_then chip pages saved.first (Adds (Keeps n held ∷ []) ∷ []) Q (Has chip n)
    (leaves_as chip pages (page_reads chip 257 first.other ++ Adds (Keeps 257 first.other ∷ []) ∷ []) saved.first Q first.is
    (leaves_then chip pages (page_reads chip 257 first.other) (Adds (Keeps 257 first.other ∷ []) ∷ []) (λ _. ⊤) Q (leaves_reads chip pages 257 first.other (λ _. ⊤) tt)
    (λ later _. leaves_one chip later 257 first.other Q (here 257 later))))
    (λ later is. leaves_one chip later n held (Has chip n) (here n later, λ one has. further 257 n later is)))
saved_with false chip n held pages steps both saved =
    leaves_as chip pages (Adds (Keeps n held ∷ []) ∷ []) steps (Has chip n) saved (leaves_one chip pages n held (Has chip n) (here n pages, λ one has. absurd (alone one has both)))
  where
    alone : n ≡ 1 → has_companion chip ≡ true → (n == 1 && has_companion chip) ≡ false → ⊥
    alone one has is =
        let yes : (1 == 1 && true) ≡ false = subst (λ (b : Bool). (1 == 1 && b) ≡ false) has (subst (λ (m : ℕ). (m == 1 && has_companion chip) ≡ false) one is) in
        false≢true (sym yes)

saved_unless : (kept : Bool) (chip : ChipData) (n : ℕ) (held : List ℕ) (pages : List ℕ) (steps : List Step) → (kept ≡ true → Has chip n pages) → IsSaved kept chip n held steps → Leaves chip pages steps (Has chip n)
saved_unless true chip n held pages steps already saved = leaves_as chip pages [] steps (Has chip n) saved (leaves_nothing chip pages (Has chip n) (already refl))
saved_unless false chip n held pages steps already saved = saved_with (n == 1 && has_companion chip) chip n held pages steps refl saved

-- behind a turn, page 257 is kept where page 1 was changed
abbrev Behind : ChipData → ℕ → Bool → List ℕ → Type 0
Behind chip n changed pages = n ≡ 1 → changed ≡ true → has_companion chip ≡ true → Contains pages 257

changed_unless : (same kept : Bool) (chip : ChipData) (n : ℕ) (held page pages : List ℕ) (changed : Bool) (steps : List Step) → changed ≡ not same → length page ≡ page_size chip n → (kept ≡ true → Has chip n pages)
    → IsChangedUnless same kept chip n held page steps → Leaves chip pages steps (Behind chip n changed)
changed_unless true kept chip n held page pages changed steps counts size already is =
    leaves_as chip pages [] steps (Behind chip n changed) is (leaves_nothing chip pages (Behind chip n changed) (λ one yes has. absurd (false≢true (sym counts ∙ yes))))
changed_unless false kept chip n held page pages changed steps counts size already is =
    leaves_as chip pages (is.saved ++ _) steps (Behind chip n changed) is.is
    (leaves_then chip pages is.saved _ (Has chip n) (Behind chip n changed) (saved_unless kept chip n held pages is.saved already is.is_saved)
    (λ later has. record { later = later; leads = leads_rewrite chip n later page has.0 size; still = λ m among. among; holds = λ one yes companion. has.1 one companion }))

module _ (lengths : (set : Pairs) (address : ℕ) (bytes : List ℕ) → length (lay set address bytes) ≡ length bytes) where
  pub length-content : (chip : ChipData) (c : Change) (n : ℕ) (held : List ℕ) → length held ≡ page_size chip n → length (content chip c n held) ≡ page_size chip n
  length-content chip (change.Write image) n held size = lengths image.now (chip.base + page_offset chip n) held ∙ size
  length-content chip (change.Erase pages) n held size = by_named (list_any (λ m. m == n) pages.now)
    where
      by_named : (named : Bool) → length (if named then erased_page chip n else held) ≡ page_size chip n
      by_named true = length-replicate {A = ℕ} (page_size chip n) (erased_byte chip)
      by_named false = size

  turn_leaves : (kept : Bool) (chip : ChipData) (c : Change) (n : ℕ) (changed : Bool) (pages : List ℕ) (steps : List Step) → (kept ≡ true → Has chip n pages) → IsTurnOf kept chip c n changed steps
      → Leaves chip pages steps (Behind chip n changed)
  turn_leaves kept chip c n changed pages steps already (inl left) =
      leaves_as chip pages [] steps (Behind chip n changed) left.is (leaves_nothing chip pages (Behind chip n changed) (λ one yes has. absurd (false≢true (sym left.unchanged ∙ yes))))
  turn_leaves kept chip c n changed pages steps already (inr turn) =
      leaves_as chip pages (page_reads chip n turn.held ++ turn.later) steps (Behind chip n changed) turn.is
      (leaves_then chip pages (page_reads chip n turn.held) turn.later (λ later. kept ≡ true → Has chip n later) (Behind chip n changed) (leaves_reads chip pages n turn.held (λ later. kept ≡ true → Has chip n later) already)
      (λ later has. changed_unless (bytes_eq turn.held (content chip c n turn.held)) kept chip n turn.held (content chip c n turn.held) later changed turn.later turn.counts (length-content chip c n turn.held turn.size) has turn.is_changed))

  -- what was kept before page 257
  before_turn : (chip : ChipData) (n : ℕ) (was : Bool) (pages : List ℕ) → n < page_count chip → (was ≡ true → has_companion chip ≡ true → Contains pages 257) → (n == 257 && was) ≡ true → Has chip n pages
  before_turn chip n was pages here kept is =
      let parts = and_parts (n == 257) was is in
      let number : n ≡ 257 = grind (arith, parts.0) in
      let has : has_companion chip ≡ true = grind (arith, number, here) in
      let P : ℕ → Type 0 = λ m. Has chip m pages in
      let other : (m : ℕ) → m ≡ 257 → m ≡ 1 → ⊥ = λ m a b. omega (arith, a, b) in
      subst P (sym number) (kept parts.1 has, λ one companion. kept parts.1 has)

  abbrev Turned : ChipData → Bool → List ℕ → Type 0
  Turned chip first pages = first ≡ true → has_companion chip ≡ true → Contains pages 257

  turned_leave : (chip : ChipData) (c : Change) (n : ℕ) (first : Bool) (steps : List Step) → n ≤ page_count chip → AreTurned chip c n first steps → Leaves chip [] steps (Turned chip first)
  turned_leave chip c zero false [] le none = leaves_nothing chip [] (Turned chip false) (λ yes has. absurd (false≢true yes))
  turned_leave chip c _ _ _ le (more n was changed before own are turn) =
      let so_far = turned_leave chip c n was before (omega (arith, le)) are in
      let here : n < page_count chip = omega (arith, le) in
      let first = if n == 1 then changed else was in
      leaves_then chip [] before own (Turned chip was) (Turned chip first) so_far
      (λ later kept.
      let own_leaves = turn_leaves (n == 257 && was) chip c n changed later own (before_turn chip n was later here kept) turn in
      record { later = own_leaves.later; leads = own_leaves.leads; still = own_leaves.still; holds = by_first n was changed own_leaves.later (λ yes has. own_leaves.still 257 (kept yes has)) own_leaves.holds })
    where
      by_first : (n : ℕ) (was changed : Bool) (later : List ℕ) → Turned chip was later → Behind chip n changed later → Turned chip (if n == 1 then changed else was) later
      by_first n was changed later kept behind = at (n == 1) refl
        where
          at : (one : Bool) → (n == 1) ≡ one → Turned chip (if one then changed else was) later
          at true is = behind (grind (arith, is))
          at false is = kept

  -- a segment, whatever came of the question behind its pages
  asked_segment : (chip : ChipData) (c : Change) (s : StateData) (turned asked : List Step) → AreAllTurned chip c turned → IsLookedAgain (confirmed_at chip) asked
      → Leads chip None (Adds (begin_entries chip.id chip.unique s) ∷ (turned ++ (asked ++ Adds (Ends (length s.stack + 1) ∷ []) ∷ []))) None
  asked_segment chip c s turned asked are looked =
      let pages = turned_leave chip c (page_count chip) are.0 turned (omega arith) are.1 in
      let kept = Some pages.later in
      let asks = looked_by (λ xs. Leads chip kept xs kept) (confirmed_at chip) asked (leads_nothing chip kept) (λ place frame later at look p. record { keeps = (looks place look, p.keeps); behind = p.behind }) looked in
      leads_then chip None (Some []) None (Adds (begin_entries chip.id chip.unique s) ∷ []) _ (begun_lines chip s)
      (leads_then chip (Some []) kept None turned _ pages.leads (leads_then chip kept kept None asked _ asks (record { keeps = ((tt, tt), tt); behind = refl })))

  one_segment : (chip : ChipData) (c : Change) (s : StateData) (steps : List Step) → IsOneSegment chip c s steps → Leads chip None steps None
  one_segment chip c s steps segment =
      let P : List Step → Type 0 = λ xs. Leads chip None xs None in
      subst P (sym segment.is) (asked_segment chip c s segment.turned (closing chip) segment.are_turned (closing_is_looked chip))

  segment_begun : (chip : ChipData) (c : Change) (s : StateData) (steps : List Step) → IsSegmentBegun chip c s steps → KeepsFirst chip None steps
  segment_begun chip c s steps (begins (rest, is)) =
      let P : List Step → Type 0 = λ xs. KeepsFirst chip None xs in
      keeps_front chip None steps rest (subst P (sym is) (begun_lines chip s).keeps)
  segment_begun chip c s steps (turns pages begun is) =
      let turned = turned_leave chip c begun.page begun.first begun.before (omega (arith, begun.exists)) begun.are_turned in
      let already = before_turn chip begun.page begun.first turned.later begun.exists turned.holds in
      let rest = begun.is_begun.0 in
      let turn = begun.is_begun.1 in
      let own = turn_leaves (begun.page == 257 && begun.first) chip c begun.page turn.0 turned.later (begun.own ++ rest) already turn.1 in
      let P : List Step → Type 0 = λ xs. KeepsFirst chip None xs in
      let Q : Option (List ℕ) → Type 0 = λ kept. KeepsFirst chip kept pages in
      let R : List Step → Type 0 = λ xs. KeepsFirst chip (Some []) xs in
      let S : Option (List ℕ) → Type 0 = λ kept. KeepsFirst chip kept begun.own in
      let in_pages : R pages =
      subst R (sym begun.is) (keeps_then chip (Some []) begun.before begun.own turned.leads.keeps (subst S (sym turned.leads.behind) (keeps_front chip (Some turned.later) begun.own rest own.leads.keeps))) in
      let first = begun_lines chip s in
      subst P (sym is) (keeps_then chip None (Adds (begin_entries chip.id chip.unique s) ∷ []) pages first.keeps (subst Q (sym first.behind) in_pages))
  segment_begun chip c s steps (ends turned own are part is) =
      let on = goes_on chip (Adds (Ends (length s.stack + 1) ∷ []) ∷ []) (Adds (begin_entries chip.id chip.unique s) ∷ turned) own steps part is in
      let P : List Step → Type 0 = λ xs. KeepsFirst chip None xs in
      keeps_front chip None steps on.1 (subst P (sym on.3) (asked_segment chip c s turned on.0 are on.2).keeps)

  -- commands
  done_by : (changes : Bool) (chip : ChipData) (c : CommandData) (s : StateData) (steps : List Step) → IsDoneIf changes chip c s steps → Leads chip None steps None
  done_by true chip c s steps (change, is, segment) = one_segment chip change s steps segment
  done_by false chip c s steps are = readings_lead chip None steps are

  done_leads : (chip : ChipData) (commands : List CommandData) (outcomes : List OutcomeData) (s last : StateData) (steps : List Step) → AreDoneInOrder chip commands outcomes s last steps → Leads chip None steps None
  done_leads chip _ _ _ _ _ (nothing_done s) = leads_nothing chip None
  done_leads chip _ _ _ _ _ (more_done commands c outcomes said s mid last before own are is depth) =
      leads_then chip None None None before own (done_leads chip commands outcomes s mid before are) (done_by (is_change c) chip c mid own is.0)

  begun_by : (changes : Bool) (chip : ChipData) (c : CommandData) (s : StateData) (steps : List Step) → IsBegunIf changes chip c s steps → KeepsFirst chip None steps
  begun_by true chip c s steps (change, is, segment) = segment_begun chip change s steps segment
  begun_by false chip c s steps are = (readings_lead chip None steps are).keeps

  begun_keep : (fault : Fault) (chip : ChipData) (commands : List CommandData) (s : StateData) (steps : List Step) → AreBegun fault chip commands s steps → KeepsFirst chip None steps
  begun_keep fault chip commands s steps (inl is) = let P : List Step → Type 0 = λ xs. KeepsFirst chip None xs in subst P (sym is) tt
  begun_keep fault chip commands s steps (inr begun) =
      let P : List Step → Type 0 = λ xs. KeepsFirst chip None xs in
      let Q : Option (List ℕ) → Type 0 = λ kept. KeepsFirst chip kept begun.own in
      let before = done_leads chip begun.earlier begun.outcomes s begun.mid begun.before begun.are_done in
      subst P (sym begun.is) (keeps_then chip None begun.before begun.own before.keeps (subst Q (sym before.behind) (begun_by (is_change begun.command) chip begun.command begun.mid begun.own begun.is_begun)))

  -- runs
  pub run_keeps : (table : List ChipData) (commands : List CommandData) (old new : RigState) → RunsInOrder table commands old new → RunKeeps table old new
  run_keeps table commands old new =
      as_session table old _ _ (λ chip l sound. does_as contact_way chip.id l.is_torn _ _ old new (after_as _ _ _ (λ steps are. let leads = done_leads chip commands are.0 l.state are.1 steps are.2 in (leads.keeps, leads.behind))))

  pub run_stops_kept : (table : List ChipData) (commands : List CommandData) (old new : RigState) (fault : Fault) → RunStops table commands old new fault → RunStopsKept table old new fault
  run_stops_kept table commands old new fault (inl unreached) = inl unreached
  run_stops_kept table commands old new fault (inr cut) = inr (as_session table old _ _ (λ chip l sound. stops_as contact_way chip.id l.is_torn _ _ (cause_of fault) old new (confirmed_as chip _ _ (λ steps are. begun_keep fault chip commands l.state steps are))) cut)
