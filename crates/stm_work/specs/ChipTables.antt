-- The chips of tables of which one goes over the other, and what is told of one that is refused.
use Rattle.std.specs.Prelude.{◌≡◌, ◌⊎◌, ℕ, Bool, true, false, List, [], ◌∷◌, ◌++◌}
use Rattle.std.specs.Borrow.{Bor}
use Rattle.stm_wire.specs.Chip.{ChipData}
use Rattle.stm_chip.specs.Document.{IsTableFaultOf, IsTableOf}
use Rattle.stm_chip.specs.Over.{IsOver}
use Rattle.stm_chip.specs.declared.fault.TableFault.{TableFault}
use Rattle.stm_work.specs.declared.chip_tables.TableText.{TableText}
use Rattle.stm_work.specs.declared.failure.Failure.{Failure}
use Rattle.stm_work.specs.declared.failure.Failure.TheVariants.{Memory}
use Rattle.stm_work.specs.declared.failure.Failure.TheVariants.{StandingTable, Table}
use Rattle.stm_work.specs.TriedBoards.{table_bytes}

-- the texts of tables, the lowest first, say these chips: each goes over those below it
pub data AreChips : List (List ℕ) → List ChipData → Type 0 where
  lowest : (text : List ℕ) (chips : List ChipData) → IsTableOf text chips
      → AreChips (text ∷ []) chips
  over : {texts : List (List ℕ)} {below : List ChipData} (text : List ℕ)
      (own chips : List ChipData) → AreChips texts below → IsTableOf text own
      → IsOver own below chips → AreChips (texts ++ text ∷ []) chips

-- of a table that a word names it is told what is refused, of any other which it is, too
abbrev pub told_fault : Bool → Bor (List ℕ) → TableFault → Failure
told_fault true name fault = Table fault
told_fault false name fault = StandingTable name fault

-- this text is refused as that of the table of this name, or there was no memory for it
abbrev pub IsTextRefused : Bool → Bor (List ℕ) → List ℕ → Failure → Type 0
IsTextRefused is_named name text failure = (failure ≡ Memory)
    ⊎ ((fault : TableFault) × IsTableFaultOf text fault × (failure ≡ told_fault is_named name fault))

abbrev pub IsTableRefused : TableText → Failure → Type 0
IsTableRefused table failure = IsTextRefused table.is_named table.name (table_bytes table) failure
