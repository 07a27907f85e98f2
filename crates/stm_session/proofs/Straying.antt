-- A device that may not be the journal's, while it is settled and asked.
use Rattle.std.proofs.Common.{◌≡◌, inl, ℕ, ◌==◌, List, [], ◌∷◌, Result, Ok, Err, IsErrAnd, sym, ◌∙◌, ap, subst, arith}
use Rattle.stm_wire.specs.declared.fault.WireFault.{WireFault}
use Rattle.stm_wire.specs.declared.fault.WireFault.TheVariants.{Line}
use Rattle.stm_wire.proofs.Names.{ChipData, Device, is_listed, IsModel, IsSettled, KeepsSettling, LeavesOnly, LeftBySettling, RigState, SameOutside}
use Rattle.stm_wire.specs.lemmas.MomentLaws.{joined, weaker}
use Rattle.stm_session.proofs.Names.{Asks, byte_at_journal, erase_code, Fault, fault_of, first_refusal, IsElsewhere, IsOutsideFault, IsStill, Meets, refused_unless, risked_at, SameMake, StepLaws}
use Rattle.stm_session.proofs.Names.{Strays, undo_misfit}
use Rattle.stm_session.specs.declared.fault.Fault.TheVariants as fault
use Rattle.stm_session.proofs.Going.{at_exit, line_outside}
use Rattle.stm_session.proofs.Standing.{makes_then}

module _ (old new : RigState) (keeps : KeepsSettling (byte_at_journal old.journal) (risked_at old.journal) old.device old new) (model : IsModel new) where
  stray_moments : LeavesOnly (IsElsewhere old) old new
  stray_moments =
      weaker (LeftBySettling (byte_at_journal old.journal) (risked_at old.journal) old.device old.journal) (IsElsewhere old) old new keeps.moments
      (λ d journal here. record {
        journal_same = here.0;
        make = record { chip = here.1.same_chip; version = here.1.same_version; codes = here.1.same_codes };
        flash = here.1.flash;
        harmless = here.1.harmless;
        awaits = λ most least. here.1.awaits most (omega (arith, least));
        owed = here.1.owed;
      })

  pub strays_settled : {T : Type 0} (x : T) → IsSettled new.device → Strays old new (Ok x)
  strays_settled x settled = record { moments = stray_moments; honest = keeps.honest; left = at_exit (IsElsewhere old) old new model stray_moments; settled = settled; fails = tt }

  pub strays_stopped : {T : Type 0} {fault : WireFault} (result : Result T Fault) → fault ≡ Line → IsErrAnd result (λ e. e ≡ fault_of fault) → Strays old new result
  strays_stopped (Ok x) line is = absurd is
  strays_stopped {fault = fault} (Err e) line is =
      record { moments = stray_moments; honest = keeps.honest; left = at_exit (IsElsewhere old) old new model stray_moments; settled = tt; fails = subst IsOutsideFault (sym is) (line_outside fault line) }

-- a question afterwards
asked_at : (laws : StepLaws) (old b : RigState) → IsElsewhere old b.device b.journal → (d : Device) (journal : List ℕ) → IsStill b d journal → IsElsewhere old d journal
asked_at laws old b left d journal still =
    let Out : List ℕ → Type 0 = λ flash. SameOutside old.device.chip (risked_at old.journal) old.device.flash flash in
    record {
      journal_same = still.journal_same ∙ left.journal_same;
      make = makes_then old.device b.device d left.make still.make;
      flash = subst Out (sym still.flash) left.flash;
      harmless = laws.more_pages d (byte_at_journal old.journal) [] (risked_at old.journal) (λ n here c. absurd (omega (arith, c.1))) (still.harmless (byte_at_journal old.journal));
      awaits = λ most least w. laws.more_suffice d (byte_at_journal old.journal) 267 most least (still.awaits (byte_at_journal old.journal));
      owed = still.owed;
    }

misfit_made : (chip : ChipData) (id : ℕ) (a b : Device) → SameMake a b → undo_misfit chip id b ≡ undo_misfit chip id a
misfit_made chip id a b make =
    ap (λ (codes : List ℕ). first_refusal (refused_unless (is_listed codes (erase_code chip.kind)) fault.NoErase ∷ refused_unless (b.chip.id == id) fault.OtherDevice ∷ [])) make.codes
    ∙ ap (λ (c : ChipData). first_refusal (refused_unless (is_listed a.codes (erase_code chip.kind)) fault.NoErase ∷ refused_unless (c.id == id) fault.OtherDevice ∷ [])) make.chip

pub misfit_was : (chip : ChipData) (old b : RigState) → IsElsewhere old b.device b.journal → undo_misfit chip chip.id b.device ≡ undo_misfit chip chip.id old.device
misfit_was chip old b left = misfit_made chip chip.id old.device b.device left.make

pub strays_failed : {T U : Type 0} (chip : ChipData) (old new : RigState) (e : Fault) (result : Result U Fault) → Strays {T = T} old new (Err e) → IsErrAnd result (λ x. x ≡ e) → Meets chip old new result
strays_failed chip old new e (Ok x) strays is = absurd is
strays_failed chip old new e (Err x) strays is = record { moments = strays.moments; honest = strays.honest; left = strays.left; accepted = tt; refused = inl (subst IsOutsideFault (sym is) strays.fails) }

module _ (laws : StepLaws) (chip : ChipData) (old b c : RigState) {T : Type 0} (x : T) (first : Strays old b (Ok x)) (model : IsModel c) where
  pub strays_asked : {U : Type 0} {Done : U → Type 0} (second : Result U Fault) → Asks b c second Done → LeavesOnly (IsElsewhere old) old c × IsElsewhere old c.device c.journal
  strays_asked second asks =
      let moments = joined (IsElsewhere old) (IsStill b) (IsElsewhere old) old b c first.moments asks.moments (λ d journal e. e) (asked_at laws old b first.left) in
      (moments, at_exit (IsElsewhere old) old c model moments)

  pub strays_unasked : {U W : Type 0} {Done : U → Type 0} (e : Fault) (result : Result W Fault) → Asks b c (Err e) Done → IsErrAnd result (λ y. y ≡ e) → Meets chip old c result
  strays_unasked e (Ok y) asks is = absurd is
  strays_unasked e (Err y) asks is =
      let kept = strays_asked (Err e) asks in
      record { moments = kept.0; honest = asks.honest; left = kept.1; accepted = tt; refused = inl (subst IsOutsideFault (sym is) asks.fails) }
