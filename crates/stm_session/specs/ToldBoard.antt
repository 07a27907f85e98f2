-- What a device that follows the model tells of its board, and what that makes of a table's chip.
use Rattle.std.specs.Prelude.{◌≡◌, ◌⊎◌, ℕ, ◌==◌, if◌then◌else◌, List, [], length, Option, Some}
use Rattle.std.specs.Prelude.{None, Result, IfErr, IfOk, OnOk}
use Rattle.stm_wire.specs.declared.places.UniquePlace.{UniquePlace}
use Rattle.stm_wire.specs.Chip.{ChipData, flash_size, of_board}
use Rattle.stm_wire.specs.Cut.{cut_to}
use Rattle.stm_wire.specs.Device.{IsSettled}
use Rattle.stm_wire.specs.Moments.{LeavesOnly}
use Rattle.stm_wire.specs.Rig.{RigState}
use Rattle.stm_wire.specs.Telling.{kib_bytes}
use Rattle.stm_chip.specs.Document.{IsChipWith}
use Rattle.stm_journal.specs.Journals.{journal_of}
use Rattle.stm_session.specs.declared.asking_board.Board.{Board}
use Rattle.stm_session.specs.declared.fault.Fault.{Fault}
use Rattle.stm_session.specs.AskingBoard.{places_in, size_told, unique_told}
use Rattle.stm_session.specs.Fault.{IsOutsideFault}
use Rattle.stm_session.specs.Moments.{IsUnbegun}
use Rattle.stm_session.specs.Refusal.{unsent_refusal}
use Rattle.stm_session.specs.Unasked.{asking_refusal}
use Rattle.stm_session.specs.Undoes.{AmidUndo}

-- the unique id that a device tells at this place, which has one of so many bytes
abbrev pub unique_at : Option UniquePlace → List ℕ → List ℕ
unique_at None unique = []
unique_at (Some place) unique =
    if length unique == place.length then unique_told (Some unique) else []

abbrev pub unique_of : ChipData → List ℕ
unique_of chip = unique_at chip.places.unique chip.unique

-- how many KiB it tells of a flash of so many bytes
abbrev pub size_at : Option ℕ → ℕ → Option ℕ
size_at None size = None
size_at (Some address) size = size_told (Some (kib_bytes size))

abbrev pub size_of : ChipData → Option ℕ
size_of chip = size_at chip.places.size (flash_size chip)

-- This was told by a device of this chip: its id, and, where the table has its places, its unique
-- id and its size.
pub record IsBoardOf (table : List ChipData) (chip : ChipData) (board : Board) : Type 0 where
  pub id : board.id ≡ chip.id
  pub unique : places_in table chip.id ≡ chip.places → board.unique ≡ unique_of chip
  pub size : places_in table chip.id ≡ chip.places → board.size ≡ size_of chip

-- a chip cut to a size that was told, and whole where none was
abbrev pub cut_as_told : Option ℕ → ChipData → ChipData
cut_as_told None chip = chip
cut_as_told (Some kib) chip = cut_to kib chip

-- the table's chip, as the chip of this board
abbrev pub chip_of_board : ChipData → Board → ChipData
chip_of_board chip board = of_board board.unique (cut_as_told board.size chip)

-- A device of the kind that the table describes: it has the pages of the table's chip that lie
-- inside the size that it tells, and a unique id that it tells, or none.
abbrev pub IsPartOf : ChipData → ChipData → Type 0
IsPartOf listed chip = chip ≡ of_board (unique_of chip) (cut_as_told (size_of chip) listed)

-- What such a device told makes of the table's chip the device's own.
abbrev pub ToldBoardIsTheDevices : Type 0
ToldBoardIsTheDevices = (table : List ChipData) (listed chip : ChipData) (board : Board)
    → places_in table chip.id ≡ chip.places → IsPartOf listed chip → IsBoardOf table chip board
    → chip_of_board listed board ≡ chip

-- the table's chip with the device's id is erased as the device is
pub record NamesKind (table : List ChipData) (chip : ChipData) : Type 0 where
  pub listed : ChipData
  pub is : IsChipWith table chip.id listed
  pub kind : chip.kind ≡ listed.kind

-- With a finished journal, on a device that 7F settles without harm: no segment is begun at any
-- moment. At Ok the device is settled, and this is what it told.
pub record AsksFinished (table : List ChipData) (old new : RigState)
    (result : Result Board Fault) : Type 0 where
  pub moments : LeavesOnly (IsUnbegun old) old new
  pub honest : new.is_honest
  pub left : IsUnbegun old new.device new.journal
  pub settled : OnOk result (IsSettled new.device)
  pub told : IfOk result (IsBoardOf table old.device.chip)
  pub fails : IfErr result (λ fault. IsOutsideFault fault
      ⊎ (unsent_refusal (journal_of old.journal) ≡ Some fault))

-- With an unfinished one, on a device from which it can be undone: each moment is one of an
-- undo that has undone nothing yet; a fault comes from outside, or the table has a chip of which no
-- board can be the journal's.
pub record AsksUnfinished (table : List ChipData) (flashes : List (List ℕ)) (old new : RigState)
    (result : Result Board Fault) : Type 0 where
  pub moments : LeavesOnly (AmidUndo 0 flashes old) old new
  pub honest : new.is_honest
  pub left : AmidUndo 0 flashes old new.device new.journal
  pub settled : OnOk result (IsSettled new.device)
  pub told : IfOk result (IsBoardOf table old.device.chip)
  pub fails : IfErr result (λ fault. IsOutsideFault fault
      ⊎ (asking_refusal (journal_of old.journal) table ≡ Some fault))
