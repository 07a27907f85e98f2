-- The headline follows from the contracts of run, info, identify, undo and unprotect_fresh.
use Rattle.std.proofs.Common.{◌≡◌, ℕ, true, false, List, [], ◌∷◌, Result, Ok, Err, refl, sym, ◌∙◌, ap, subst, ⊎_elim}
use Rattle.std.proofs.lemmas.Bool.{cases_Bool}
use Rattle.stm_wire.proofs.Names.{ChipData, Device, LeavesOnly, reset, RigState}
use Rattle.stm_journal.proofs.Names.{IsUntouched}
use Rattle.stm_session.proofs.Names.{CommandData, depth_at, EachCanFollow, Event, Fault, FollowsUnprotect, Headline, Holds, identified, identify_stopped, IdentifyContract, Info, info_stopped}
use Rattle.stm_session.proofs.Names.{InfoContract, informed, is_unfinished_at, IsHonestAfter, IsReset, IsUnbegun, kept, Knows, Leads, LeavesAlone, left_refused, LeftByUnprotecting, lost_owed}
use Rattle.stm_session.proofs.Names.{lost_power, now_of, OutcomeData, ran, refusal_stopped, run_stopped, RunContract, SameMake, starts_after, Stops, themselves, Told, undid, undo_stopped, Undoable}
use Rattle.stm_session.proofs.Names.{UndoContract, unprotect_stopped, unprotected, was_reset, World}
use Rattle.stm_session.specs.declared.fault.Fault.TheVariants as faults
use Rattle.stm_session.proofs.RunHistories.{Laws, goes-on, lost-make, run-holds, run-leaves, run-honest, run-left, run-starts, unbegun-keeps, untouched-keeps, waits}
use Rattle.stm_session.proofs.UndoHistories.{undo-held, undo-honest, undo-leaves, undo-left, undo-starts}

module _ (laws : Laws) {R : Type 0} (view : R → RigState) where
  -- what one event gives
  abbrev pub Gives : Event R → List (List ℕ) → World → World → Type 0
  Gives event starts t s = Undoable starts s.device s.journal → Undoable (starts_after event s t starts) t.device t.journal × SameMake s.device t.device × Holds event s t starts

  ran-gives : (table : List ChipData) (commands : List CommandData) (starts : List (List ℕ)) (a b : R) (result : Result (List OutcomeData) Fault) → (view a).is_honest → Knows table (now_of (view a))
      → RunContract table commands (view a) (view b) result themselves → Gives (ran table commands a b result) starts (now_of (view b)) (now_of (view a))
  ran-gives table commands starts a b (Ok outcomes) honest knows contract u =
      let l = (run-left laws table commands starts (view a) (view b) (Ok outcomes) honest u knows contract).1 in
      (run-starts laws table commands starts (now_of (view a)) (now_of (view b)) u l, l.make, run-holds laws table commands starts (view a) (view b) outcomes honest u knows contract)
  ran-gives table commands starts a b (Err e) honest knows contract u =
      let l = (run-left laws table commands starts (view a) (view b) (Err e) honest u knows contract).1 in
      (run-starts laws table commands starts (now_of (view a)) (now_of (view b)) u l, l.make, run-leaves laws table commands starts (now_of (view a)) (now_of (view b)) u l)

  stopped-gives : (table : List ChipData) (commands : List CommandData) (starts : List (List ℕ)) (a b : R) (result : Result (List OutcomeData) Fault) (t : World) → (view a).is_honest → Knows table (now_of (view a))
      → RunContract table commands (view a) (view b) result themselves → Stops (view a) (view b) t → Gives (run_stopped table commands a b result) starts t (now_of (view a))
  stopped-gives table commands starts a b result t honest knows contract left u =
      let l = (run-left laws table commands starts (view a) (view b) result honest u knows contract).0 t left in
      (run-starts laws table commands starts (now_of (view a)) t u l, l.make, run-leaves laws table commands starts (now_of (view a)) t u l)

  -- what leaves flash and journal alone
  record AloneLeft (flashes : List (List ℕ)) (s t : World) : Type 0 where
    undoable : Undoable flashes t.device t.journal
    make : SameMake s.device t.device
    alone : LeavesAlone s t

  untouched-alone : (flashes : List (List ℕ)) (old : RigState) (t : World) → Undoable flashes old.device old.journal → IsUntouched old t.device t.journal → AloneLeft flashes (now_of old) t
  untouched-alone flashes old t u same =
      record { undoable = untouched-keeps laws flashes old t.device t.journal u same; make = lost-make old.device t.device same.1; alone = (ap (λ (d : Device). d.flash) same.1.1, same.0) }

  unbegun-alone : (flashes : List (List ℕ)) (old : RigState) (t : World) → is_unfinished_at old.journal ≡ false → Undoable flashes old.device old.journal → IsUnbegun old t.device t.journal → AloneLeft flashes (now_of old) t
  unbegun-alone flashes old t over u b =
      record { undoable = unbegun-keeps laws flashes old t.device t.journal over u b; make = b.make; alone = (b.flash, b.journal_same) }

  -- a Write Unprotect, whichever of its bytes were sent, and the reset behind it
  unprotect-alone : (flashes : List (List ℕ)) (old : RigState) (left : Device) (journal : List ℕ) (t : World) → Undoable flashes old.device old.journal → LeftByUnprotecting old left journal → t.journal ≡ journal
      → FollowsUnprotect old.device left t.device → AloneLeft flashes (now_of old) t
  unprotect-alone flashes old left journal t u by same_journal follows =
      let flash : t.device.flash ≡ old.device.flash = ⊎_elim (λ same. follows.same same) (λ whole. follows.unprotected whole) by.1 in
      let device : t.device ≡ reset old.device = follows.is_reset ∙ ap (λ (bytes : List ℕ). let d : Device = record (reset old.device) { flash = bytes } in d) flash in
      let kept_journal : t.journal ≡ old.journal = same_journal ∙ by.0 in
      let D : Device → Type 0 = λ d. Undoable flashes d old.journal in
      let J : List ℕ → Type 0 = λ j. Undoable flashes t.device j in
      record {
        undoable = subst J (sym kept_journal) (subst D (sym device) (laws.resets flashes old.device old.journal u));
        make = record { chip = ap (λ (d : Device). d.chip) device; version = ap (λ (d : Device). d.version) device; codes = ap (λ (d : Device). d.codes) device };
        alone = (flash, kept_journal);
      }

  -- A question: it leaves an unfinished journal and its device as they are, and with another one it begins no segment.
  record IsQuestion (old new : RigState) : Type 0 where
    untouched : is_unfinished_at old.journal ≡ true → LeavesOnly (IsUntouched old) old new × IsUntouched old new.device new.journal × new.is_honest
    unbegun : is_unfinished_at old.journal ≡ false → LeavesOnly (IsUnbegun old) old new × IsUnbegun old new.device new.journal × new.is_honest

  question-left : (flashes : List (List ℕ)) (old new : RigState) → Undoable flashes old.device old.journal → IsQuestion old new
      → ((t : World) → Stops old new t → AloneLeft flashes (now_of old) t) × AloneLeft flashes (now_of old) (now_of new)
  question-left flashes old new u question =
      ⊎_elim
      (λ still_open.
      let same = question.untouched still_open in
      (λ t left. untouched-alone flashes old t u (same.0.each t.device t.journal left), untouched-alone flashes old (now_of new) u same.1))
      (λ over.
      let asked = question.unbegun over in
      (λ t left. unbegun-alone flashes old t over u (asked.0.each t.device t.journal left), unbegun-alone flashes old (now_of new) over u asked.1))
      (cases_Bool (is_unfinished_at old.journal))

  question-honest : (old new : RigState) → IsQuestion old new → new.is_honest
  question-honest old new question = ⊎_elim (λ still_open. (question.untouched still_open).2) (λ over. (question.unbegun over).2) (cases_Bool (is_unfinished_at old.journal))

  info-asks : (table : List ChipData) (flashes : List (List ℕ)) (old new : RigState) (result : Result Info Fault) → old.is_honest → Undoable flashes old.device old.journal → InfoContract table old new result → IsQuestion old new
  info-asks table flashes old new result honest u contract =
      record {
        untouched = λ still_open.
            let unsent = contract.unsent honest faults.Unfinished (waits laws old u.good_journal still_open) in
            (unsent.moments, unsent.left, unsent.honest);
        unbegun = λ over.
            let informs = contract.informs honest (laws.safe flashes old.device old.journal u over) in
            (informs.moments, informs.left, informs.honest);
      }

  identify-asks : (flashes : List (List ℕ)) (old new : RigState) (result : Result Told Fault) → old.is_honest → Undoable flashes old.device old.journal → IdentifyContract old new result → IsQuestion old new
  identify-asks flashes old new result honest u contract =
      record {
        untouched = λ still_open.
            let unsent = contract.unsent honest faults.Unfinished (waits laws old u.good_journal still_open) in
            (unsent.moments, unsent.left, unsent.honest);
        unbegun = λ over.
            let tells = contract.tells honest (laws.safe flashes old.device old.journal u over) (goes-on laws old u.good_journal over) in
            (tells.moments, tells.left, tells.honest);
      }

  undid-gives : (table : List ChipData) (count : ℕ) (starts : List (List ℕ)) (a b : R) (result : Result ℕ Fault) → (view a).is_honest → Knows table (now_of (view a)) → UndoContract table count (view a) (view b) result
      → Gives (undid table count a b result) starts (now_of (view b)) (now_of (view a))
  undid-gives table count starts a b (Ok n) honest knows contract u =
      let l = (undo-left laws table count starts (view a) (view b) (Ok n) honest u contract knows).1 in
      (undo-starts laws starts (now_of (view a)) (now_of (view b)) u l, l.make, undo-held laws table count starts (view a) (view b) (Ok n) honest u contract knows n refl)
  undid-gives table count starts a b (Err e) honest knows contract u =
      let l = (undo-left laws table count starts (view a) (view b) (Err e) honest u contract knows).1 in (
        undo-starts laws starts (now_of (view a)) (now_of (view b)) u l,
        l.make,
        (λ tabled. (contract.undoes honest starts u tabled).fails, undo-leaves laws starts (now_of (view a)) (now_of (view b)) u l),
      )

  undo-stopped-gives : (table : List ChipData) (count : ℕ) (starts : List (List ℕ)) (a b : R) (result : Result ℕ Fault) (t : World) → (view a).is_honest → Knows table (now_of (view a)) → UndoContract table count (view a) (view b) result
      → Stops (view a) (view b) t → Gives (undo_stopped table count a b result) starts t (now_of (view a))
  undo-stopped-gives table count starts a b result t honest knows contract left u =
      let l = (undo-left laws table count starts (view a) (view b) result honest u contract knows).0 t left in
      (undo-starts laws starts (now_of (view a)) t u l, l.make, undo-leaves laws starts (now_of (view a)) t u l)

  pub gives : (event : Event R) (starts : List (List ℕ)) (s t : World) → Leads view event s t → Gives event starts t s
  gives (ran table commands old new result) starts s t (begins, knows, contract, returns) =
      let A : World → Type 0 = λ x. Knows table x → Gives (ran table commands old new result) starts t x in
      let B : World → Type 0 = λ y. Gives (ran table commands old new result) starts y (now_of (view old)) in
      subst A begins.1 (λ known. subst B returns (ran-gives table commands starts old new result begins.0 known contract)) knows
  gives (run_stopped table commands old new result) starts s t (begins, knows, contract, left) =
      let A : World → Type 0 = λ x. Knows table x → Gives (run_stopped table commands old new result) starts t x in
      subst A begins.1 (λ known. stopped-gives table commands starts old new result t begins.0 known contract left) knows
  gives (informed table old new result) starts s t (begins, contract, returns) =
      let A : World → Type 0 = λ x. Gives (informed table old new result) starts t x in
      let B : World → Type 0 = λ y. Gives (informed table old new result) starts y (now_of (view old)) in
      subst A begins.1 (subst B returns (λ u. let l = (question-left starts (view old) (view new) u (info-asks table starts (view old) (view new) result begins.0 u contract)).1 in (l.undoable, l.make, l.alone)))
  gives (info_stopped table old new result) starts s t (begins, contract, left) =
      let A : World → Type 0 = λ x. Gives (info_stopped table old new result) starts t x in
      subst A begins.1 (λ u. let l = (question-left starts (view old) (view new) u (info-asks table starts (view old) (view new) result begins.0 u contract)).0 t left in (l.undoable, l.make, l.alone))
  gives (identified old new result) starts s t (begins, contract, returns) =
      let A : World → Type 0 = λ x. Gives (identified old new result) starts t x in
      let B : World → Type 0 = λ y. Gives (identified old new result) starts y (now_of (view old)) in
      subst A begins.1 (subst B returns (λ u. let l = (question-left starts (view old) (view new) u (identify-asks starts (view old) (view new) result begins.0 u contract)).1 in (l.undoable, l.make, l.alone)))
  gives (identify_stopped old new result) starts s t (begins, contract, left) =
      let A : World → Type 0 = λ x. Gives (identify_stopped old new result) starts t x in
      subst A begins.1 (λ u. let l = (question-left starts (view old) (view new) u (identify-asks starts (view old) (view new) result begins.0 u contract)).0 t left in (l.undoable, l.make, l.alone))
  gives (undid table count old new result) starts s t (begins, knows, contract, returns) =
      let A : World → Type 0 = λ x. Knows table x → Gives (undid table count old new result) starts t x in
      let B : World → Type 0 = λ y. Gives (undid table count old new result) starts y (now_of (view old)) in
      subst A begins.1 (λ known. subst B returns (undid-gives table count starts old new result begins.0 known contract)) knows
  gives (undo_stopped table count old new result) starts s t (begins, knows, contract, left) =
      let A : World → Type 0 = λ x. Knows table x → Gives (undo_stopped table count old new result) starts t x in
      subst A begins.1 (λ known. undo-stopped-gives table count starts old new result t begins.0 known contract left) knows
  gives (left_refused refusal old new result) starts s t (begins, said, refuses, returns) =
      let A : World → Type 0 = λ x. Gives (left_refused refusal old new result) starts t x in
      let B : World → Type 0 = λ y. Gives (left_refused refusal old new result) starts y (now_of (view old)) in
      subst A begins.1 (subst B returns (λ u. let l = untouched-alone starts (view old) (now_of (view new)) u refuses.left in (l.undoable, l.make, l.alone)))
  gives (refusal_stopped refusal old new result) starts s t (begins, said, refuses, left) =
      let A : World → Type 0 = λ x. Gives (refusal_stopped refusal old new result) starts t x in
      subst A begins.1 (λ u. let l = untouched-alone starts (view old) t u (refuses.moments.each t.device t.journal left) in (l.undoable, l.make, l.alone))
  gives (unprotected old new result) starts s t (begins, fresh, contract, follows, returns) =
      let A : World → Type 0 = λ x. IsReset x.device → FollowsUnprotect x.device (view new).device t.device → Gives (unprotected old new result) starts t x in
      subst A begins.1
      (λ is goes u. let l = unprotect-alone starts (view old) (view new).device (view new).journal t u (contract.left begins.0 is) returns goes in (l.undoable, l.make, l.alone))
      fresh follows
  gives (unprotect_stopped old new result) starts s t (begins, fresh, contract, stopped) =
      let A : World → Type 0 = λ x. IsReset x.device → FollowsUnprotect x.device stopped.left t.device → Gives (unprotect_stopped old new result) starts t x in
      subst A begins.1
      (λ is goes u.
      let l = unprotect-alone starts (view old) stopped.left t.journal t u ((contract.moments begins.0 is).each stopped.left t.journal stopped.stops) refl goes in (l.undoable, l.make, l.alone))
      fresh stopped.follows
  gives kept starts s t (finished, same, empty) = λ u.
      let G : Device → List ℕ → Type 0 = λ d j. Undoable [] d j × SameMake s.device d × ((d.flash ≡ s.device.flash) × (depth_at j ≡ 0)) in
      let D : Device → Type 0 = λ d. G d [] in
      let J : List ℕ → Type 0 = λ j. G t.device j in
      subst J (sym empty) (subst D (sym same) (laws.empties s.device (laws.safe starts s.device s.journal u finished), record { chip = refl; version = refl; codes = refl }, (refl, refl)))
  gives was_reset starts s t e = λ u.
      let G : World → Type 0 = λ x. Undoable starts x.device x.journal × SameMake s.device x.device × ((x.device.flash ≡ s.device.flash) × (x.journal ≡ s.journal)) in
      subst G (sym e) (laws.resets starts s.device s.journal u, record { chip = refl; version = refl; codes = refl }, (refl, refl))
  gives lost_owed starts s t (lost, e) = λ u.
      let U : List ℕ → Type 0 = λ j. Undoable starts t.device j in
      (subst U (sym e) (laws.loses starts s.device t.device s.journal u lost), lost-make s.device t.device lost, (ap (λ (d : Device). d.flash) lost.1, e))
  gives lost_power starts s t (lost, e) = λ u.
      let U : List ℕ → Type 0 = λ j. Undoable starts t.device j in
      (subst U (sym e) (laws.loses_power starts s.device t.device s.journal u lost), lost.make, λ finished. (laws.loses_nothing s.device t.device s.journal finished lost, e))

  honest-after : (event : Event R) (starts : List (List ℕ)) (s t : World) → Undoable starts s.device s.journal → Leads view event s t → IsHonestAfter view event
  honest-after (ran table commands old new result) starts s t u (begins, knows, contract, returns) =
      let A : World → Type 0 = λ x. Undoable starts x.device x.journal → Knows table x → (view new).is_honest in
      subst A begins.1 (λ here known. run-honest laws table commands starts (view old) (view new) result begins.0 here known contract) u knows
  honest-after (run_stopped table commands old new result) starts s t u (begins, knows, contract, left) =
      let A : World → Type 0 = λ x. Undoable starts x.device x.journal → Knows table x → (view new).is_honest in
      subst A begins.1 (λ here known. run-honest laws table commands starts (view old) (view new) result begins.0 here known contract) u knows
  honest-after (informed table old new result) starts s t u (begins, contract, returns) =
      let A : World → Type 0 = λ x. Undoable starts x.device x.journal → (view new).is_honest in
      subst A begins.1 (λ here. question-honest (view old) (view new) (info-asks table starts (view old) (view new) result begins.0 here contract)) u
  honest-after (info_stopped table old new result) starts s t u (begins, contract, left) =
      let A : World → Type 0 = λ x. Undoable starts x.device x.journal → (view new).is_honest in
      subst A begins.1 (λ here. question-honest (view old) (view new) (info-asks table starts (view old) (view new) result begins.0 here contract)) u
  honest-after (identified old new result) starts s t u (begins, contract, returns) =
      let A : World → Type 0 = λ x. Undoable starts x.device x.journal → (view new).is_honest in
      subst A begins.1 (λ here. question-honest (view old) (view new) (identify-asks starts (view old) (view new) result begins.0 here contract)) u
  honest-after (identify_stopped old new result) starts s t u (begins, contract, left) =
      let A : World → Type 0 = λ x. Undoable starts x.device x.journal → (view new).is_honest in
      subst A begins.1 (λ here. question-honest (view old) (view new) (identify-asks starts (view old) (view new) result begins.0 here contract)) u
  honest-after (undid table count old new result) starts s t u (begins, knows, contract, returns) =
      let A : World → Type 0 = λ x. Undoable starts x.device x.journal → Knows table x → (view new).is_honest in
      subst A begins.1 (λ here known. undo-honest laws table count starts (view old) (view new) result begins.0 here contract known) u knows
  honest-after (undo_stopped table count old new result) starts s t u (begins, knows, contract, left) =
      let A : World → Type 0 = λ x. Undoable starts x.device x.journal → Knows table x → (view new).is_honest in
      subst A begins.1 (λ here known. undo-honest laws table count starts (view old) (view new) result begins.0 here contract known) u knows
  honest-after (left_refused refusal old new result) starts s t u (begins, said, refuses, returns) = refuses.honest
  honest-after (refusal_stopped refusal old new result) starts s t u (begins, said, refuses, left) = refuses.honest
  honest-after (unprotected old new result) starts s t u (begins, fresh, contract, follows, returns) =
      let A : World → Type 0 = λ x. IsReset x.device → (view new).is_honest in
      subst A begins.1 (λ is. (contract.leaves begins.0 is).honest) fresh
  honest-after (unprotect_stopped old new result) starts s t u (begins, fresh, contract, stopped) =
      let A : World → Type 0 = λ x. IsReset x.device → (view new).is_honest in
      subst A begins.1 (λ is. (contract.leaves begins.0 is).honest) fresh
  honest-after event starts s t u leads = tt

  pub can-follow : EachCanFollow view
  can-follow event starts s t u leads = record { make = (gives event starts s t leads u).1; honest = honest-after event starts s t u leads }

  pub headline : Headline view
  headline [] start starts u all = u
  headline (x ∷ history) start starts u (first, rest) =
      let g = gives x.event starts start x.after first u in
      (u, g.2, headline history x.after (starts_after x.event start x.after starts) g.0 rest)
