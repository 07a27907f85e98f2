-- What one call leaves at Ok, in the words of who makes it: `write -v --keep --go ADDRESS IMAGE`.
-- Each step has its contract, and each is done only behind one that answered Ok: `Steps` says so.
-- Here stands what these come to together. The way there:
-- 1. The image is placed. Bytes without a place lie where the flash begins, which the device is
--    asked; asking leaves its chip and its flash, and the table's chip is its own.
-- 2. The write, and the verify of what it kept, answered Ok. So nothing of them is refused, the
--    journal can be undone, and what a run of both promises holds: the flash is the old one with
--    the image laid over it; and each byte of the image was seen.
-- 3. The journal is kept, or stays. The flash is the same, and the device waits for a command as
--    it did behind the run, so that 7F does it no harm.
-- 4. Go answered Ok. So the journal had no segment, and the frame was sent whole to a settled
--    device with that flash; nothing but settling bytes came before it.
use Rattle.std.specs.Prelude.{◌≡◌, ℕ, Bool, true, false, List, [], ◌∷◌, Option, Some, None}
use Rattle.std.specs.Prelude.{IsTrue, Ok}
use Rattle.stm_image.specs.Lay.{AgreesWith, lay}
use Rattle.stm_image.specs.Pairs.{Pairs, raw_pairs}
use Rattle.stm_wire.specs.Chip.{ChipData}
use Rattle.stm_wire.specs.Device.{Device, Gone, IsSettled}
use Rattle.stm_wire.specs.Dialogue.{GoesOn}
use Rattle.stm_wire.specs.Frames.{go_frame, go_turns}
use Rattle.stm_wire.specs.Moments.{FedAndTaken, LeavesOnly}
use Rattle.stm_wire.specs.Rig.{RigState}
use Rattle.stm_chip.specs.Document.{IsChipWith}
use Rattle.stm_session.specs.declared.asking_board.Board.{Board}
use Rattle.stm_session.specs.Leaving.{IsSettledThen, LeftByLeaving}
use Rattle.stm_session.specs.Moments.{IsSafe}
use Rattle.stm_session.specs.RunOrder.{RunsInOrder}
use Rattle.stm_session.specs.Seen.{SeesImage}
use Rattle.stm_session.specs.Undoable.{is_unfinished_at}
use Rattle.stm_session.specs.VerifiedWrite.{written_then}
use Rattle.stm_words.specs.declared.sequel.Sequel.{Sequel}
use Rattle.stm_files.specs.Ending.{EndsJournal}
use Rattle.stm_work.specs.declared.action.Action.TheVariants as action
use Rattle.stm_work.specs.declared.content.Content.{Content}
use Rattle.stm_work.specs.declared.content.Content.TheVariants.{Placed, AtBase}
use Rattle.stm_work.specs.declared.steps.Steps.{Steps}
use Rattle.stm_work.specs.declared.work.Work.TheVariants as work
use Rattle.stm_work.specs.Action.{MayBeLetGo}
use Rattle.stm_work.specs.Steps.{TakesKnown}

-- the image that a content is on this chip: bytes without a place lie where its flash begins
abbrev pub image_on : ChipData → Content → Pairs
image_on chip (Placed image names) = image
image_on chip (AtBase bytes names) = raw_pairs chip.base bytes.items

-- The Rig follows the model, 7F settles its device without harm, and the table has its chip.
pub record CanCall (table : List ChipData) (old : RigState) : Type 0 where
  pub honest : old.is_honest
  pub safe : IsSafe old.device
  pub knows : IsChipWith table old.device.chip.id old.device.chip

-- On a device of this chip with this flash an image was written, and each byte of it was read, and
-- was right, after the last change to its page: the image is in its places, every other byte is as it
-- was, and the journal is finished.
pub record IsWritten {R : Type 0} (view : R → RigState) (table : List ChipData) (image : Pairs)
    (chip : ChipData) (flash : List ℕ) (new : R) : Type 0 where
  pub begun : R
  pub chip_found : (view begun).device.chip ≡ chip
  pub flash_found : (view begun).device.flash ≡ flash
  pub part : Pairs
  pub done : RunsInOrder table (written_then image part) (view begun) (view new)
  pub seen : SeesImage table image (view begun) (view new)
  pub flash_is : (view new).device.flash ≡ lay image chip.base flash
  pub agrees : AgreesWith image chip.base (view new).device.flash
  pub chip_is : (view new).device.chip ≡ chip
  pub settled : IsSettled (view new).device
  pub finished : is_unfinished_at (view new).journal ≡ false
  pub honest : (view new).is_honest

-- the journal is kept, or stays as it is
abbrev pub IsJournalKept : {R : Type 0} → (R → RigState) → Bool → R → R → Type 0
IsJournalKept view true written kept = EndsJournal (view written) (view kept)
IsJournalKept view false written kept = kept ≡ written

-- The frame of Go was sent whole, to a settled device that had this flash, and behind it nothing:
-- no call but those that read the journal, settle the device, and send the frame. At each moment
-- the device was sent a beginning of it at most. One that lists Go, and has the address in its
-- flash, has left its bootloader.
pub record HasGone (flash : List ℕ) (address : ℕ) (kept new : RigState) : Type 0 where
  pub calls : GoesOn (IsSettledThen (go_turns address)) kept.calls new.calls
  pub moments : LeavesOnly (LeftByLeaving (go_frame address) kept) kept new
  pub last : Device
  pub settled : IsSettled last
  pub flash_is : last.flash ≡ flash
  pub sent : FedAndTaken (go_frame address) last new.device
  pub left : MayBeLetGo address kept.device → new.device.phase ≡ Gone
  pub journal : new.journal ≡ kept.journal

-- it was let go from this flash, or has it still
abbrev pub EndsLetGo : {R : Type 0} → (R → RigState) → List ℕ → Option ℕ → R → R → Type 0
EndsLetGo view flash None kept new = (new ≡ kept) × ((view new).device.flash ≡ flash)
EndsLetGo view flash (Some address) kept new = HasGone flash address (view kept) (view new)

-- What was asked for was done, each step on what the one before left.
pub record EndsAsAsked {R : Type 0} (view : R → RigState) (table : List ChipData)
    (content : Content) (sequel : Sequel) (chip : ChipData) (flash : List ℕ) (new : R)
    : Type 0 where
  pub written : R
  pub writes : IsWritten view table (image_on chip content) chip flash written
  pub kept : R
  pub keeps : IsJournalKept view sequel.keeps written kept
  pub ends : EndsLetGo view (lay (image_on chip content) chip.base flash) sequel.go kept new
  -- where the journal is kept, it is empty
  pub empty : IsTrue sequel.keeps → (view new).journal ≡ []

-- A write that is verified, and what follows it, answered Ok, and no step failed.
abbrev pub CallsEndAsAsked : (R : Type 0) → (R → RigState) → Type 0
CallsEndAsAsked R view =
    (table : List ChipData) (board : Option Board) (content : Content) (sequel : Sequel)
    (old new : R) (steps : Steps) → CanCall table (view old) → steps.failure ≡ None
    → TakesKnown view table board (work.Act (action.WriteAndVerify content)) sequel old new
    (Ok steps)
    → EndsAsAsked view table content sequel (view old).device.chip (view old).device.flash new
