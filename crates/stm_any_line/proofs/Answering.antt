-- What a run did, at Ok and at a fault.
use Rattle.std.proofs.Common.{inl, inr, List, [], Result, Ok, Err, refl}
use Rattle.std.specs.Prelude.{OnOk, IfErr}
use Rattle.stm_wire.specs.declared.chip.EraseKind.TheVariants.{Page}
use Rattle.stm_wire.proofs.Names.{chip_of, ChipData, RigState}
use Rattle.stm_journal.proofs.Names.{empty_loaded, Loaded}
use Rattle.stm_session.specs.declared.fault.Fault.{Fault}
use Rattle.stm_session.proofs.Names.{CommandData, RunStops}
use Rattle.stm_any_line.specs.Calls.{IsOfIfAny}

-- what is so at Ok and at each fault
pub either_way : {T : Type 0} (result : Result T Fault) (A Z : Type 0) (B : Fault → Type 0)
    → OnOk result A → IfErr result B → (A → Z) → ((fault : Fault) → B fault → Z) → Z
either_way (Ok x) A Z B done stopped f g = f done
either_way (Err fault) A Z B done stopped f g = g fault stopped

-- a run that stopped is of the chip that it found, if any
pub record Own (table : List ChipData) (commands : List CommandData)
    (old new : RigState) (fault : Fault) (stop : RunStops table commands old new fault) : Type 0 where
  pub chip : ChipData
  pub journal : Loaded
  pub own : IsOfIfAny chip journal stop

pub own_of : (table : List ChipData) (commands : List CommandData) (old new : RigState)
    (fault : Fault) (stop : RunStops table commands old new fault)
    → Own table commands old new fault stop
own_of table commands old new fault (inl unreached) =
    record { chip = chip_of 0 0 [] Page 0; journal = empty_loaded; own = tt }
own_of table commands old new fault (inr session) =
    record { chip = session.chip; journal = session.journal; own = (refl, refl) }
