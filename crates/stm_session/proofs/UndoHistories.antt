-- What an undo leaves, wherever it is stopped, follows from its contract.
use Rattle.std.proofs.Common.{◌≡◌, ◌≤◌, ℕ, zero, suc, false, ◌==◌, List, [], ◌∷◌, length, drop, Option, Some, None, IsSome, Result, Ok, Err, IfOk, sym, refl, ◌∙◌, ap, subst, arith, ⊎_elim, length-drop}
use Rattle.std.proofs.lemmas.Bool.{eqb-true, ne_eqb, not-false}
use Rattle.stm_wire.proofs.Names.{ChipData, Device, RigState}
use Rattle.stm_chip.specs.Document.{IsNewId}
use Rattle.stm_journal.proofs.Names.{good, is_unfinished, IsUntouched, journal_of, JournalData, names_other, SegmentData, StateData}
use Rattle.stm_journal.specs.declared.header.JournalHeader.{JournalHeader}
use Rattle.stm_session.proofs.Names.{AmidUndo, depth_at, Fault, flash_undone, grown, is_unfinished_at, Knows, now_of, RefusesUnsent, SameMake, state_at, Stops, taken_count, undo_refusal, Undoable}
use Rattle.stm_session.proofs.Names.{UndoContract, Undoes, UndoHolds, UndoLeaves, World}
use Rattle.stm_session.specs.declared.fault.Fault.TheVariants as faults
use Rattle.stm_session.proofs.Openings.{lacks_chip}
use Rattle.stm_session.proofs.RunHistories.{Laws, depth-is, lost-make, taken-within, untouched-keeps}

-- a journal without a segment isn't unfinished
empty-finished : (stack : List SegmentData) (s : StateData) → s.stack ≡ stack → length stack ≡ 0 → is_unfinished s ≡ false
empty-finished [] s e none = let F : List SegmentData → Type 0 = λ k. is_unfinished (record { header = s.header; stack = k }) ≡ false in subst F (sym e) refl
empty-finished (segment ∷ below) s e none = absurd (no_segment none)
  where
    no_segment : suc (length below) ≡ 0 → ⊥
    no_segment h = omega (arith, h)

pub none-finished : (journal : List ℕ) → depth_at journal ≡ 0 → is_unfinished_at journal ≡ false
none-finished journal none = empty-finished (state_at journal).stack (state_at journal) refl none

-- without the device's chip in the table a journal that has segments is refused
unknown-said : (journal : List ℕ) (id : ℕ) (table : List ChipData) (header : JournalHeader) (k : ℕ) → journal_of journal ≡ good (state_at journal) → names_other id (state_at journal) ≡ false → IsNewId table id
    → depth_at journal ≡ suc k → (state_at journal).header ≡ Some header → undo_refusal (journal_of journal) table ≡ Some (faults.UnknownChip header.id)
unknown-said journal id table header k is_good own new_id some is =
    let N : Option JournalHeader → Type 0 = λ h. names_other id (record { header = h; stack = (state_at journal).stack }) ≡ false in
    let own_id : header.id ≡ id = eqb-true header.id id (not-false (header.id == id) (subst N is own)) in
    let new : IsNewId table header.id = subst (IsNewId table) (sym own_id) new_id in
    ap (λ (j : JournalData). undo_refusal j table) is_good ∙ rw (ne_eqb (depth_at journal) 0 (λ none. omega (arith, none, some)), is, lacks_chip table header.id new) refl

module _ (laws : Laws) where
  -- what an undo leaves at any moment
  pub record UndoLeft (flashes : List (List ℕ)) (s t : World) : Type 0 where
    pub undone : ℕ
    pub within : undone ≤ length flashes
    pub make : SameMake s.device t.device
    pub undoable : Undoable (drop undone flashes) t.device t.journal
    pub finished : is_unfinished_at t.journal ≡ false → t.device.flash ≡ flash_undone undone s.device.flash flashes

  amid-left : (count : ℕ) (flashes : List (List ℕ)) (old : RigState) (t : World) → AmidUndo (taken_count count (length flashes)) flashes old t.device t.journal → UndoLeft flashes (now_of old) t
  amid-left count flashes old t amid =
      record { undone = amid.undone; within = omega (arith, amid.within, taken-within count (length flashes)); make = amid.make; undoable = amid.undoable; finished = amid.finished }

  untouched-left : (flashes : List (List ℕ)) (old : RigState) (t : World) → Undoable flashes old.device old.journal → IsUntouched old t.device t.journal → UndoLeft flashes (now_of old) t
  untouched-left flashes old t u same =
      record { undone = 0; within = omega arith; make = lost-make old.device t.device same.1; undoable = untouched-keeps laws flashes old t.device t.journal u same; finished = λ e. ap (λ (d : Device). d.flash) same.1.1 }

  pub undo-undone : (flashes : List (List ℕ)) (s t : World) → Undoable flashes s.device s.journal → (left : UndoLeft flashes s t) → grown t s ≡ left.undone
  undo-undone flashes s t u left =
      omega (arith, left.within, depth-is flashes s.device s.journal u, depth-is (drop left.undone flashes) t.device t.journal left.undoable, length-drop left.undone flashes)

  pub undo-leaves : (flashes : List (List ℕ)) (s t : World) → Undoable flashes s.device s.journal → UndoLeft flashes s t → UndoLeaves s t flashes
  undo-leaves flashes s t u left e =
      left.finished e ∙ ap (λ (n : ℕ). flash_undone n s.device.flash flashes) (sym (undo-undone flashes s t u left))

  pub undo-starts : (flashes : List (List ℕ)) (s t : World) → Undoable flashes s.device s.journal → UndoLeft flashes s t → Undoable (drop (grown t s) flashes) t.device t.journal
  undo-starts flashes s t u left =
      let U : ℕ → Type 0 = λ n. Undoable (drop n flashes) t.device t.journal in
      subst U (sym (undo-undone flashes s t u left)) left.undoable

  undo-taken : (count n : ℕ) (flashes : List (List ℕ)) (old new : RigState) → Undoable flashes old.device old.journal
      → Undoes (taken_count count (length flashes)) flashes old new (Ok n) → UndoHolds count n (now_of old) (now_of new) flashes
  undo-taken count n flashes old new u undoes =
      record {
        answer = undoes.answer ∙ ap (λ k. taken_count count k) (sym (depth-is flashes old.device old.journal u));
        segments = omega (
          arith,
          undoes.answer,
          taken-within count (length flashes),
          depth-is flashes old.device old.journal u,
          depth-is (drop (taken_count count (length flashes)) flashes) new.device new.journal undoes.done.undoable,
          length-drop (taken_count count (length flashes)) flashes,
        );
        finished = undoes.done.finished;
        flash = undoes.done.flash ∙ ap (λ k. flash_undone k old.device.flash flashes) (sym undoes.answer);
      }

  -- with no segment to undo nothing is done, and it is held
  nothing-holds : (count n : ℕ) (flashes : List (List ℕ)) (old new : RigState) → n ≡ 0 → depth_at old.journal ≡ 0 → IsUntouched old new.device new.journal → UndoHolds count n (now_of old) (now_of new) flashes
  nothing-holds count n flashes old new none empty same =
      let depth : depth_at new.journal ≡ depth_at old.journal = ap (λ j. depth_at j) same.0 in
      record {
        answer = omega (arith, none, empty, taken-within count (depth_at old.journal));
        segments = omega (arith, none, depth);
        finished = none-finished new.journal (depth ∙ empty);
        flash = ap (λ (d : Device). d.flash) same.1.1 ∙ ap (λ k. flash_undone k old.device.flash flashes) (sym none);
      }

  module _ (table : List ChipData) (count : ℕ) (flashes : List (List ℕ)) (old new : RigState) (result : Result ℕ Fault) (honest : old.is_honest)
      (u : Undoable flashes old.device old.journal) (contract : UndoContract table count old new result) where
    -- the table hasn't the device's id: nothing is touched, and it succeeds only where there was nothing to undo
    record UndoRefused : Type 0 where
      each : (t : World) → Stops old new t → IsUntouched old t.device t.journal
      left : IsUntouched old new.device new.journal
      stays : new.is_honest
      answer : IfOk result (λ n. (n ≡ 0) × (depth_at old.journal ≡ 0))

    by-answer : depth_at old.journal ≡ 0 → (r : Result ℕ Fault) → IfOk r (λ n. n ≡ 0) → IfOk r (λ n. (n ≡ 0) × (depth_at old.journal ≡ 0))
    by-answer empty (Ok n) is = (is, empty)
    by-answer empty (Err e) is = tt

    refused-answer : (e : Fault) (r : Result ℕ Fault) → RefusesUnsent (IsUntouched old) e old new r → IfOk r (λ n. (n ≡ 0) × (depth_at old.journal ≡ 0))
    refused-answer e (Ok n) refused = absurd refused.answers
    refused-answer e (Err f) refused = tt

    unknown-id : IsNewId table old.device.chip.id → (k : ℕ) → depth_at old.journal ≡ k → UndoRefused
    unknown-id new_id zero empty =
        let nothing = contract.nothing honest (state_at old.journal) u.good_journal empty in
        record { each = λ t left. nothing.moments.each t.device t.journal left; left = nothing.left; stays = nothing.honest; answer = by-answer empty result nothing.answer }
    unknown-id new_id (suc k) some =
        by-header (state_at old.journal).header refl ((laws.sound old.journal (state_at old.journal) u.good_journal).named (omega (arith, some)))
      where
        by-header : (o : Option JournalHeader) → (state_at old.journal).header ≡ o → IsSome (state_at old.journal).header → UndoRefused
        by-header None is named = absurd (let H : Option JournalHeader → Type 0 = λ h. IsSome h in let none : H None = subst H is named in cc)
        by-header (Some header) is named =
            let refused = contract.refused honest (faults.UnknownChip header.id) (unknown-said old.journal old.device.chip.id table header k u.good_journal u.own new_id some is) in
            record { each = λ t left. refused.moments.each t.device t.journal left; left = refused.left; stays = refused.honest; answer = refused-answer (faults.UnknownChip header.id) result refused }

    pub undo-left : Knows table (now_of old) → ((t : World) → Stops old new t → UndoLeft flashes (now_of old) t) × UndoLeft flashes (now_of old) (now_of new)
    undo-left knows =
        ⊎_elim
        (λ new_id.
        let refused = unknown-id new_id (depth_at old.journal) refl in
        (λ t left. untouched-left flashes old t u (refused.each t left), untouched-left flashes old (now_of new) u refused.left))
        (λ tabled.
        let undoes = contract.undoes honest flashes u tabled in
        (λ t left. amid-left count flashes old t (undoes.moments.each t.device t.journal left), amid-left count flashes old (now_of new) undoes.left))
        knows

    -- another call can begin on the Rig
    pub undo-honest : Knows table (now_of old) → new.is_honest
    undo-honest knows = ⊎_elim (λ new_id. (unknown-id new_id (depth_at old.journal) refl).stays) (λ tabled. (contract.undoes honest flashes u tabled).honest) knows

    pub undo-held : Knows table (now_of old) → (n : ℕ) → result ≡ Ok n → UndoHolds count n (now_of old) (now_of new) flashes
    undo-held knows n is =
        ⊎_elim
        (λ new_id.
        let refused = unknown-id new_id (depth_at old.journal) refl in
        let A : Result ℕ Fault → Type 0 = λ r. IfOk r (λ k. (k ≡ 0) × (depth_at old.journal ≡ 0)) in
        let answer = subst A is refused.answer in
        nothing-holds count n flashes old new answer.0 answer.1 refused.left)
        (λ tabled.
        let D : Result ℕ Fault → Type 0 = λ r. Undoes (taken_count count (length flashes)) flashes old new r in
        undo-taken count n flashes old new u (subst D is (contract.undoes honest flashes u tabled)))
        knows
