-- On any line: whose board's journal a session had loaded that changed something.
use Rattle.std.specs.Prelude.{◌≡◌, ℕ, Bool, true, false, List}
use Rattle.stm_wire.specs.Chip.{ChipData}
use Rattle.stm_wire.specs.Dialogue.{GoesOn}
use Rattle.stm_wire.specs.Rig.{RigState}
use Rattle.stm_chip.specs.Document.{IsChipWith}
use Rattle.stm_journal.specs.Journals.{Loaded, IsLoaded, good, journal_of}
use Rattle.stm_journal.specs.States.{StateData, names_other_board}
use Rattle.stm_session.specs.declared.fault.Fault.{Fault}
use Rattle.stm_session.specs.Fault.{cause_of}
use Rattle.stm_session.specs.Fresh.{contact_way}
use Rattle.stm_session.specs.Reaching.{ReachesInPart}

-- The journal that was loaded names no other board than that of this chip of the table.
pub record IsOfItsBoard (table : List ChipData) (old : RigState) : Type 0 where
  pub journal : Loaded
  pub loaded : old.is_honest → IsLoaded journal old.journal
  pub chip : ChipData
  pub listed : IsChipWith table chip.id chip
  pub board : names_other_board chip.unique journal.state ≡ false

-- the device was settled by 7F and asked, or a part of that, and nothing else was sent or appended
abbrev pub OnlyAsks : RigState → RigState → Fault → Type 0
OnlyAsks old new fault = (torn : Bool)
    → GoesOn (ReachesInPart contact_way (cause_of fault) torn) old.calls new.calls

-- the journal names a board, and no chip of the table is of that one
pub record IsForeign (table : List ChipData) (journal : List ℕ) : Type 0 where
  pub state : StateData
  pub means : journal_of journal ≡ good state
  pub others : (chip : ChipData) → IsChipWith table chip.id chip
      → names_other_board chip.unique state ≡ true
