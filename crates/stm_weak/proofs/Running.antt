-- The steps of a run may come where no page may be weak.
use Rattle.std.proofs.Common.{◌≡◌, inl, inr, ℕ, zero, ◌+◌, ◌/◌, ◌==◌, ◌&&◌, Bool, true, false}
use Rattle.std.proofs.Common.{if◌then◌else◌, List, [], ◌∷◌, ◌++◌, length, refl, sym, ◌∙◌, subst}
use Rattle.std.specs.Prelude.{bytes_eq}
use Rattle.std.specs.List.{AllByRecursion, list_any}
use Rattle.std.proofs.lemmas.List.{length-replicate}
use Rattle.stm_image.specs.Lay.{lay}
use Rattle.stm_image.specs.Pairs.{Pairs}
use Rattle.stm_wire.proofs.Names.{ChipData, erased_byte, erased_page, page_count, page_offset, page_size}
use Rattle.stm_chip.specs.Plan.{frames_of}
use Rattle.stm_journal.specs.declared.entry.Entry.TheVariants.{Keeps, Ends}
use Rattle.stm_journal.proofs.Names.{begin_entries, StateData}
use Rattle.stm_session.specs.declared.change.Change.{Change}
use Rattle.stm_session.specs.declared.change.Change.TheVariants as change
use Rattle.stm_session.specs.declared.fault.Fault.{Fault}
use Rattle.stm_session.proofs.Names.{Adds, AreBegun, AreDoneInOrder, AreTurned, begins, CommandData, confirmed_at, content, ends, has_companion, is_change, IsBegunIf, IsChangedUnless, IsDoneIf}
use Rattle.stm_session.proofs.Names.{IsReading, IsSaved, IsSavedWith, IsSegmentBegun, IsTurnOf, none, OutcomeData, page_reads, rewrite_steps, Step, turns}
use Rattle.stm_session.specs.ChangeOrder.{more}
use Rattle.stm_session.specs.RunOrder.{none as nothing_done, more as more_done}
use Rattle.stm_session.specs.lemmas.ClosingLaws.{goes_on, segment_is_begun}
use Rattle.stm_weak.specs.Believed.{reads}
use Rattle.stm_weak.proofs.Pieces.{free_page, free_rewrite}
use Rattle.stm_weak.proofs.Sessions.{looked_goes}
use Rattle.stm_weak.proofs.Walking.{Free, Goes, free_as, free_front, free_lines, free_nothing}
use Rattle.stm_weak.proofs.Walking.{free_then}

module _ (lengths : (set : Pairs) (address : ℕ) (bytes : List ℕ) → length
    (lay set address bytes) ≡ length bytes) (chip : ChipData) (both : Bool) where
  length-content : (c : Change) (n : ℕ) (held : List ℕ) → length held ≡ page_size chip n
      → length (content chip c n held) ≡ page_size chip n
  length-content (change.Write image) n held size =
      lengths image.now (chip.base + page_offset chip n) held ∙ size
  length-content (change.Erase pages) n held size =
      by_named (list_any (λ m. m == n) pages.now)
    where
      by_named : (named : Bool)
          → length (if named then erased_page chip n else held) ≡ page_size chip n
      by_named true = length-replicate {A = ℕ} (page_size chip n) (erased_byte chip)
      by_named false = size

  saved_with : (two : Bool) (n : ℕ) (held : List ℕ) (steps : List Step)
      → IsSavedWith two chip n held steps → Free chip both steps
  saved_with true n held steps saving =
      let first = saving.is_first in
      let line : List Step = Adds (Keeps 257 first.other ∷ []) ∷ [] in
      free_as chip both (saving.first ++ Adds (Keeps n held ∷ []) ∷ []) steps saving.is
      (free_then chip both saving.first (Adds (Keeps n held ∷ []) ∷ [])
      (free_as chip both (page_reads chip 257 first.other ++ line) saving.first first.is
      (free_then chip both (page_reads chip 257 first.other) line
      (free_page chip both 257 first.other)
      (free_lines chip both (Keeps 257 first.other ∷ []))))
      (free_lines chip both (Keeps n held ∷ [])))
  saved_with false n held steps saving =
      free_as chip both (Adds (Keeps n held ∷ []) ∷ []) steps saving
      (free_lines chip both (Keeps n held ∷ []))

  saved_unless : (kept : Bool) (n : ℕ) (held : List ℕ) (steps : List Step)
      → IsSaved kept chip n held steps → Free chip both steps
  saved_unless true n held steps saving =
      free_as chip both [] steps saving (free_nothing chip both)
  saved_unless false n held steps saving =
      saved_with (n == 1 && has_companion chip) n held steps saving

  changed_unless : (same kept : Bool) (n : ℕ) (held page : List ℕ) (steps : List Step)
      → length page ≡ page_size chip n → IsChangedUnless same kept chip n held page steps
      → Free chip both steps
  changed_unless true kept n held page steps size is =
      free_as chip both [] steps is (free_nothing chip both)
  changed_unless false kept n held page steps size is =
      let frames = frames_of (erased_byte chip) page (length page / 256) in
      free_as chip both (is.saved ++ rewrite_steps chip n page frames) steps is.is
      (free_then chip both is.saved (rewrite_steps chip n page frames)
      (saved_unless kept n held is.saved is.is_saved) (free_rewrite chip both n page size))

  turn_free : (kept : Bool) (c : Change) (n : ℕ) (changed : Bool) (steps : List Step)
      → IsTurnOf kept chip c n changed steps → Free chip both steps
  turn_free kept c n changed steps (inl left) =
      free_as chip both [] steps left.is (free_nothing chip both)
  turn_free kept c n changed steps (inr turn) =
      let page = content chip c n turn.held in
      free_as chip both (page_reads chip n turn.held ++ turn.later) steps turn.is
      (free_then chip both (page_reads chip n turn.held) turn.later
      (free_page chip both n turn.held)
      (changed_unless (bytes_eq turn.held page) kept n turn.held page turn.later
      (length-content c n turn.held turn.size) turn.is_changed))

  turned_free : (c : Change) (n : ℕ) (first : Bool) (steps : List Step)
      → AreTurned chip c n first steps → Free chip both steps
  turned_free c zero false [] none = free_nothing chip both
  turned_free c _ _ _ (more n was changed before own are turn) =
      free_then chip both before own (turned_free c n was before are)
      (turn_free (n == 257 && was) c n changed own turn)

  segment_begun : (c : Change) (s : StateData) (steps : List Step)
      → IsSegmentBegun chip c s steps → Free chip both steps
  segment_begun c s steps (begins (rest, is)) =
      free_front chip both steps rest
      (free_as chip both _ (steps ++ rest) is
      (free_lines chip both (begin_entries chip.id chip.unique s)))
  segment_begun c s steps (turns pages begun is) =
      let first : List Step = Adds (begin_entries chip.id chip.unique s) ∷ [] in
      let rest = begun.is_begun.0 in
      let turn = begun.is_begun.1 in
      let own =
      turn_free (begun.page == 257 && begun.first) c begun.page turn.0 (begun.own ++ rest) turn.1
      in
      free_as chip both (first ++ pages) steps is
      (free_then chip both first pages
      (free_lines chip both (begin_entries chip.id chip.unique s))
      (free_as chip both (begun.before ++ begun.own) pages begun.is
      (free_then chip both begun.before begun.own
      (turned_free c begun.page begun.first begun.before begun.are_turned)
      (free_front chip both begun.own rest own))))
  segment_begun c s steps (ends turned own are part is) =
      let first : List Step = Adds (begin_entries chip.id chip.unique s) ∷ [] in
      let line : List Step = Adds (Ends (length s.stack + 1) ∷ []) ∷ [] in
      let on = goes_on chip line (first ++ turned) own steps part is in
      free_front chip both steps on.1
      (free_as chip both _ (steps ++ on.1) on.3
      (free_then chip both first (turned ++ (on.0 ++ line))
      (free_lines chip both (begin_entries chip.id chip.unique s))
      (free_then chip both turned (on.0 ++ line) (turned_free c (page_count chip) are.0 turned are.1)
      (free_then chip both on.0 line
      (λ W o none. looked_goes chip both W o (confirmed_at chip) on.0 refl on.2)
      (free_lines chip both (Ends (length s.stack + 1) ∷ []))))))

  readings_free : (steps : List Step) → AllByRecursion (IsReading chip) steps
      → Free chip both steps
  readings_free [] are = free_nothing chip both
  readings_free (step ∷ steps) (is, are) =
      free_then chip both (step ∷ []) steps
      (λ W o none.
      (let P : Step → Type 0 = λ x. Goes chip both W o (x ∷ []) in
      subst P (sym is.is) (reads is.address is.answer none refl, tt)))
      (readings_free steps are)

  done_by : (changes : Bool) (c : CommandData) (s : StateData) (steps : List Step)
      → IsDoneIf changes chip c s steps → Free chip both steps
  done_by true c s steps (change, is, segment) =
      segment_begun change s steps (segment_is_begun chip change s steps segment)
  done_by false c s steps are = readings_free steps are

  pub done_free : (commands : List CommandData) (outcomes : List OutcomeData) (s last : StateData)
      (steps : List Step) → AreDoneInOrder chip commands outcomes s last steps → Free chip both steps
  done_free _ _ _ _ _ (nothing_done s) = free_nothing chip both
  done_free _ _ _ _ _ (more_done commands c outcomes said s mid last before own are is depth) =
      free_then chip both before own (done_free commands outcomes s mid before are)
      (done_by (is_change c) c mid own is.0)

  begun_by : (changes : Bool) (c : CommandData) (s : StateData) (steps : List Step)
      → IsBegunIf changes chip c s steps → Free chip both steps
  begun_by true c s steps (change, is, segment) = segment_begun change s steps segment
  begun_by false c s steps are = readings_free steps are

  pub begun_free : (fault : Fault) (commands : List CommandData) (s : StateData) (steps : List Step)
      → AreBegun fault chip commands s steps → Free chip both steps
  begun_free fault commands s steps (inl is) =
      free_as chip both [] steps is (free_nothing chip both)
  begun_free fault commands s steps (inr begun) =
      free_as chip both _ steps begun.is
      (free_then chip both begun.before begun.own
      (done_free begun.earlier begun.outcomes s begun.mid begun.before begun.are_done)
      (begun_by (is_change begun.command) begun.command begun.mid begun.own begun.is_begun))
