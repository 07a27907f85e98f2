-- A page is erased and written, as a list of deeds.
use Rattle.std.proofs.Common.{◌≡◌, ◌∙◌, ℕ, ◌+◌, ◌<◌, ◌≤◌, List, [], ◌∷◌, ◌++◌, length, map, take, drop}
use Rattle.std.proofs.Common.{Result, Ok, Err, IsTrue, ap, arith, refl, subst, sym}
use Rattle.std.specs.Borrow.{Bor}
use Rattle.std.specs.Prelude.{OnOk, flat_map, fold}
use Rattle.std.proofs.lemmas.Grind.{flat_map-append}
use Rattle.std.proofs.lemmas.List.{length-replicate, map-append}
use Rattle.std.proofs.lemmas.List.Sums.{fold-append}
use Rattle.stm_wire.specs.declared.intent.Intent.{Intent}
use Rattle.stm_wire.specs.declared.intent.Intent.TheVariants.{Program}
use Rattle.stm_wire.proofs.Names.{ChipData, erased_byte, erased_page, flash_size, IsModel, page_count, page_offset, page_size, RigState, with_page}
use Rattle.stm_wire.specs.lemmas.PageLaws.{page_within, put_in}
use Rattle.stm_chip.specs.declared.plan.Frame.{Frame}
use Rattle.stm_chip.specs.Plan.{AreFrames, written}
use Rattle.stm_journal.specs.declared.entry.Entry.{Entry}
use Rattle.stm_journal.specs.declared.entry.Entry.TheVariants.{Erases, Programs}
use Rattle.stm_journal.proofs.Names.{HasIntended, KeepsSame, Loaded, newest_is_open, newest_keeps, StateData}
use Rattle.stm_journal.specs.lemmas.NewestLaws.{KeepsSame-trans}
use Rattle.stm_session.proofs.Names.{Adds, AllSuit, Are, Deed, DoesDeeds, erase_steps, Fault, flash_with, HasDoneAll, IsRewrittenBehind, IsUnder, lines_of_deed, MayDoAll, Performs, program_entries}
use Rattle.stm_session.proofs.Names.{rewrite_deeds, rewrite_steps, Step, step_of_deed, write_deeds, write_step, write_steps}
use Rattle.stm_session.specs.declared.deed.Deed.TheVariants as deed
use Rattle.stm_session.proofs.DeedRuns.{done_both, may_both, suit_both}
use Rattle.stm_session.proofs.Frames.{IsErasedFrom, all_erased, erased_behind, framed, from_zero}
use Rattle.stm_session.proofs.Frames.{length-framed, length-part, part_erased, part_put}
use Rattle.stm_session.proofs.Performing.{performs_as}

under : {n : ℕ} {i : Intent} {s s2 : StateData} → HasIntended n i s s2 → IsUnder n i s2
under has = record { kept = has.keeps; newest = has.newest; unfinished = has.unfinished }

module _ (chip : ChipData) (n : ℕ) (page : Bor (List ℕ)) where
  -- The frames.

  writes_done : (frames : List Frame) (s s2 : StateData)
      → HasDoneAll (write_deeds n page frames) s s2 → s2 ≡ s
  writes_done [] s s2 same = same
  writes_done (f ∷ frames) s s2 (t, same, rest) = writes_done frames t s2 rest ∙ same

  writes_steps : (frames : List Frame)
      → map (step_of_deed chip) (write_deeds n page frames) ≡ write_steps chip n page.now frames
  writes_steps [] = refl
  writes_steps (f ∷ frames) =
      ap (λ (l : List Step). write_step chip n page.now f ∷ l) (writes_steps frames)

  writes_lines : (frames : List Frame) → flat_map lines_of_deed (write_deeds n page frames) ≡ []
  writes_lines [] = refl
  writes_lines (f ∷ frames) = writes_lines frames

  module _ (exists : n < page_count chip) (size : length page.now ≡ page_size chip n) where
    writes_may : (frames : List Frame) (from : ℕ) (s : StateData)
        → AreFrames from (length page.now) frames → IsUnder n (Program n) s
        → MayDoAll chip (write_deeds n page frames) s
    writes_may [] from s are under = tt
    writes_may (f ∷ frames) from s are under = (
      (exists, size, from_zero from (length page.now) f are.0, under),
      λ s2 same.
          let M : StateData → Type 0 = λ t. MayDoAll chip (write_deeds n page frames) t in
          subst M (sym same) (writes_may frames (f.offset + 256) s are.1 under),
    )

    -- over what is erased from this place on
    writes_suit : (base : List ℕ) → length base ≡ flash_size chip → (frames : List Frame) (from : ℕ)
        (held : List ℕ) → length held ≡ length page.now → AreFrames from (length page.now) frames
        → IsErasedFrom (erased_byte chip) from held
        → AllSuit chip (with_page chip n held base) (write_deeds n page frames)
        × (fold (flash_with chip) (with_page chip n held base) (write_deeds n page frames)
        ≡ with_page chip n (written page.now frames held) base)
    unfolding written
    writes_suit base whole [] from held same are erased = (tt, refl)
    writes_suit base whole (f ∷ frames) from held same are erased =
        let frame = are.0 in
        let own = take f.length (drop f.offset page.now) in
        let part = length-part page.now f (omega (arith, frame.inside, frame.limit)) in
        let fits : page_offset chip n + length held ≤ length base =
        omega (arith, same, size, whole, page_within chip.sizes n) in
        let next : with_page chip n (framed page.now f held) base
        ≡ flash_with chip (with_page chip n held base) (deed.Write n f page) =
        sym (put_in (page_offset chip n) f.offset own held base fits
        (omega (arith, part, same, frame.inside, frame.limit))) in
        let rest = writes_suit base whole frames (f.offset + 256) (framed page.now f held)
        (length-framed page.now held f same (from_zero from (length page.now) f frame)) are.1
        (erased_behind (erased_byte chip) from page.now held f same frame erased) in
        let S : List ℕ → Type 0 = λ g. AllSuit chip g (write_deeds n page frames) in (
          (
            part_put (page_offset chip n) f.offset f.length held base fits
                (omega (arith, frame.inside, frame.limit, same))
                ∙ part_erased (erased_byte chip) from f.offset f.length held erased frame.after
                (omega (arith, same, frame.inside, frame.limit)),
            subst S next rest.0,
          ),
          ap (λ (g : List ℕ). fold (flash_with chip) g (write_deeds n page frames)) (sym next)
              ∙ rest.1,
        )

    -- The page.

    rewrite_may : (frames : List Frame) (s : StateData) → IsTrue (newest_keeps n s)
        → AreFrames 0 (length page.now) frames → MayDoAll chip (rewrite_deeds n page frames) s
    rewrite_may [] s kept are =
        ((exists, kept), λ s1 has. ((exists, under has), λ s2 same. tt))
    rewrite_may (f ∷ frames) s kept are = (
      (exists, kept),
      λ s1 has. (
        (exists, under has),
        λ s2 same. (
          (exists, ap (λ (t : StateData). newest_keeps n t) same ∙ has.keeps),
          λ s3 program. writes_may (f ∷ frames) 0 s3 are (under program),
        ),
      ),
    )

    rewrite_suit : (frames : List Frame) (flash : List ℕ) → length flash ≡ flash_size chip
        → AreFrames 0 (length page.now) frames
        → written page.now frames (erased_page chip n) ≡ page.now
        → AllSuit chip flash (rewrite_deeds n page frames)
        × (fold (flash_with chip) flash (rewrite_deeds n page frames)
        ≡ with_page chip n page.now flash)
    unfolding written
    rewrite_suit [] flash whole are gives =
        ((tt, (tt, tt)), ap (λ (xs : List ℕ). with_page chip n xs flash) gives)
    rewrite_suit (f ∷ frames) flash whole are gives =
        let held = erased_page chip n in
        let e = erased_byte chip in
        let writes = writes_suit flash whole (f ∷ frames) 0 held
        (length-replicate {A = ℕ} (page_size chip n) e ∙ sym size) are
        (all_erased e (page_size chip n)) in (
          (tt, (tt, (tt, writes.0))),
          writes.1 ∙ ap (λ (xs : List ℕ). with_page chip n xs flash) gives,
        )

  rewrite_done : (frames : List Frame) (s s2 : StateData)
      → HasDoneAll (rewrite_deeds n page frames) s s2
      → KeepsSame s s2 × (newest_is_open s2 ≡ newest_is_open s)
  rewrite_done [] s s2 (t, has, (u, same, last)) =
      let P : StateData → Type 0 = λ x. KeepsSame s x × (newest_is_open x ≡ newest_is_open s) in
      subst P (sym (last ∙ same)) (has.same, has.is_open)
  rewrite_done (f ∷ frames) s s2 (t, has, (u, same, (v, program, rest))) =
      let P : StateData → Type 0 = λ x. KeepsSame s x × (newest_is_open x ≡ newest_is_open s) in
      let Q : StateData → Type 0 = λ x. HasIntended n (Program n) x v in
      let last = subst Q same program in
      subst P (sym (writes_done (f ∷ frames) v s2 rest))
      (KeepsSame-trans s t v has.same last.same, last.is_open ∙ has.is_open)

  rewrite_are : (frames : List Frame) → map (step_of_deed chip) (rewrite_deeds n page frames)
      ≡ rewrite_steps chip n page.now frames
  rewrite_are [] = refl
  rewrite_are (f ∷ frames) =
      let before : List Step = erase_steps chip n ++ Adds (Programs n ∷ []) ∷ [] in
      ap (λ (l : List Step). before ++ l) (writes_steps (f ∷ frames))

  rewrite_lines : (frames : List Frame) → flat_map lines_of_deed (rewrite_deeds n page frames)
      ≡ Erases n ∷ program_entries n frames
  rewrite_lines [] = refl
  rewrite_lines (f ∷ frames) =
      ap (λ (l : List Entry). Erases n ∷ Programs n ∷ l) (writes_lines (f ∷ frames))

  -- behind others
  module _ (first : List Deed) (frames : List Frame) (deeds : List Deed)
      (is : deeds ≡ first ++ rewrite_deeds n page frames) where
    pub plan_may : (s : StateData) → n < page_count chip → length page.now ≡ page_size chip n
        → AreFrames 0 (length page.now) frames → MayDoAll chip first s
        → ((s2 : StateData) → HasDoneAll first s s2 → IsTrue (newest_keeps n s2))
        → MayDoAll chip deeds s
    plan_may s exists size are may kept =
        let P : List Deed → Type 0 = λ ds. MayDoAll chip ds s in
        subst P (sym is)
        (may_both chip first (rewrite_deeds n page frames) s may
        (λ s2 done. rewrite_may exists size frames s2 (kept s2 done) are))

    pub plan_done : (s s2 : StateData) (r : Result (Unit {0}) Fault)
        → OnOk r (HasDoneAll deeds s s2) → OnOk r (IsRewrittenBehind first s s2)
    plan_done s s2 (Ok y) done =
        let P : List Deed → Type 0 = λ ds. HasDoneAll ds s s2 in
        let both = done_both first (rewrite_deeds n page frames) s s2 (subst P is done) in
        let own = rewrite_done frames both.0 s2 both.2 in
        record { between = both.0; done = both.1; same = own.0; is_open = own.1 }
    plan_done s s2 (Err e) done = tt

    pub plan_performs : {l l2 : Loaded} {a b : RigState} {r : Result (Unit {0}) Fault}
        → n < page_count chip → length page.now ≡ page_size chip n
        → AreFrames 0 (length page.now) frames
        → written page.now frames (erased_page chip n) ≡ page.now → (a.is_honest → IsModel a)
        → DoesDeeds chip deeds l l2 a b r
        → Performs (Are (map (step_of_deed chip) first ++ rewrite_steps chip n page.now frames))
        (flat_map lines_of_deed first ++ Erases n ∷ program_entries n frames)
        ((a.device.chip ≡ chip) × AllSuit chip a.device.flash first
        × (fold (flash_with chip) a.device.flash first ≡ a.device.flash))
        (λ y. b.device.flash ≡ with_page chip n page.now a.device.flash) l l2 a b r
    plan_performs {l} {l2} {a} {b} {r} exists size are gives model does =
        let own = rewrite_deeds n page frames in
        let P : List Deed → Type 0 = λ ds. DoesDeeds chip ds l l2 a b r in
        let flash = a.device.flash in
        let suit : a.is_honest → a.device.chip ≡ chip → AllSuit chip flash own
        × (fold (flash_with chip) flash own ≡ with_page chip n page.now flash) =
        λ h same. rewrite_suit exists size frames flash
        ((model h).device.size ∙ ap (λ (k : ChipData). flash_size k) same) are gives in
        performs_as (subst P is does)
        (λ ss made. made ∙ map-append (step_of_deed chip) first own
        ∙ ap (λ (l : List Step). map (step_of_deed chip) first ++ l) (rewrite_are frames))
        (flat_map-append lines_of_deed first own
        ∙ ap (λ (l : List Entry). flat_map lines_of_deed first ++ l) (rewrite_lines frames))
        (λ h may.
        let S : List ℕ → Type 0 = λ f. AllSuit chip f own in
        (may.0, suit_both chip first own flash may.1 (subst S (sym may.2) (suit h may.0).0)))
        (λ h may y done. done ∙ fold-append (flash_with chip) flash first own
        ∙ ap (λ (f : List ℕ). fold (flash_with chip) f own) may.2 ∙ (suit h may.0).1)
