-- What a session puts on any line, honest or not, and in how many calls.
use Rattle.std.specs.Prelude.{◌≡◌, ◌⊎◌, ℕ, ◌+◌, ◌*◌, ◌<◌, ◌≤◌, Bool, true, false, List, [], ◌++◌}
use Rattle.std.specs.Prelude.{Option, Some, None, Result, Ok, Err, IfOk}
use Rattle.stm_wire.specs.declared.intent.Intent.{Intent}
use Rattle.stm_wire.specs.Call.{Call}
use Rattle.stm_wire.specs.declared.fault.WireFault.{WireFault}
use Rattle.stm_wire.specs.Chip.{ChipData}
use Rattle.stm_wire.specs.Dialogue.{Turn, GoesOn, IsBrokenOff, calls_of}
use Rattle.stm_wire.specs.Parts.{AreFew, IsPart, IsSession}
use Rattle.stm_wire.specs.Rig.{RigState}
use Rattle.stm_wire.specs.Settling.{SettlesWithin}
use Rattle.stm_chip.specs.Document.{IsChipWith}
use Rattle.stm_journal.specs.Calls.{AreFetches}
use Rattle.stm_session.specs.declared.fault.Fault.{Fault}
use Rattle.stm_session.specs.Fault.{Cause, of_line, of_protocol, cause_of}
use Rattle.stm_session.specs.Fresh.{Settles, Way, byte_of, limit_of, settling_way}

-- puts and gets of one command at most: each byte of the greatest flash, read by a frame of its own
abbrev pub most_of_command : ℕ
most_of_command = 13 * 2097152

-- of a session with so many commands: settling, Get and Get ID, and the commands
abbrev pub most_calls : ℕ → ℕ
most_calls n = 4100 * 131076 + 268 + n * most_of_command

-- of the question whether a device is still the board that it was: a read of 32 bytes at most
abbrev pub most_of_confirming : ℕ
most_of_confirming = 44

-- of the question behind the last frame: Get ID, and that read
abbrev pub most_of_closing : ℕ
most_of_closing = 7 + most_of_confirming

-- of settling with so many bytes at most, Get and Get ID
abbrev pub most_of_reaching : ℕ → ℕ
most_of_reaching limit = 4100 * (limit + 4) + 268

-- of a run of so many commands
abbrev pub most_of_run : ℕ → ℕ
most_of_run n = most_of_reaching 131072 + (most_of_confirming + n * most_of_command)

-- of an undo of so many segments, once its device is known: the pages at work are written first, and
-- together they are no larger than the greatest flash
abbrev pub most_of_undo : ℕ → ℕ
most_of_undo taken = 3 * 2097152 + taken * most_of_command

-- only the line, or a device that doesn't follow the protocol, breaks a frame off
abbrev pub leaves_whole : Cause → Bool
leaves_whole of_line = false
leaves_whole of_protocol = false
leaves_whole _ = true

abbrev pub is_whole_at : Fault → Bool
is_whole_at e = leaves_whole (cause_of e)

abbrev pub is_whole : {T : Type 0} → Result T Fault → Bool
is_whole (Ok x) = true
is_whole (Err e) = is_whole_at e

-- calls that put frames of this chip alone, of which a fault may break the last off, and few
abbrev pub PutsAtMost : {T : Type 0} → ChipData → ℕ → RigState → RigState → Result T Fault → Type 0
PutsAtMost chip most old new result =
    GoesOn (IsPart (Some chip) (is_whole result) most) old.calls new.calls

-- the chip of the frames, where there are any that name a place, is one of the table
abbrev pub IsOfTable : List ChipData → Option ChipData → Type 0
IsOfTable table None = Unit {0}
IsOfTable table (Some chip) = IsChipWith table chip.id chip

-- Settling with 7F, and then frames of one chip of the table, in few calls.
pub record SendsAsRun (table : List ChipData) (whole : Bool) (n : ℕ) (old new : RigState)
    : Type 0 where
  pub chip : Option ChipData
  pub listed : IsOfTable table chip
  pub calls : GoesOn (IsSession chip 0x7F 131072 whole (most_of_run n)) old.calls new.calls

-- how an undo settles its device, whose journal is one of this chip; where there is none
-- it sends no settling byte
abbrev pub way_of_undo : Option ChipData → Bool → Option Intent → Way
way_of_undo None greeted intent = Settles 0x7F 0
way_of_undo (Some chip) greeted intent = settling_way chip.kind greeted intent

-- Settling by some intent, as often as its journal's chip needs at most, and then frames of that
-- chip, which is one of the table, in the calls of so many segments undone: no more than were
-- asked for, and at Ok those that the answer tells.
pub record SendsAsUndo (table : List ChipData) (count : ℕ) (old new : RigState)
    (result : Result ℕ Fault) : Type 0 where
  pub chip : Option ChipData
  pub listed : IsOfTable table chip
  pub greeted : Bool
  pub intent : Option Intent
  pub taken : ℕ
  pub limit : taken ≤ 65535
  pub asked : 0 < count → taken ≤ count
  pub told : IfOk result (λ n. n ≡ taken)
  pub calls : let way = way_of_undo chip greeted intent in
      GoesOn (IsSession chip (byte_of way) (limit_of way) (is_whole result)
      (most_of_reaching (limit_of way) + (most_of_confirming + most_of_undo taken)))
      old.calls new.calls

-- nothing of a dialogue, or all of it, or it was broken off
abbrev pub IsBegun : List Turn → List Call → Type 0
IsBegun turns calls =
    (calls ≡ [])
    ⊎ ((calls ≡ calls_of turns) ⊎ ((fault : WireFault) × IsBrokenOff fault turns calls))

-- The journal was read; then came a beginning of settling with 7F, and then a
-- beginning of this dialogue.
pub record IsLeaving (turns : List Turn) (calls : List Call) : Type 0 where
  pub fetches : List Call
  pub are_fetches : AreFetches fetches
  pub settling : List Call
  pub settles : SettlesWithin 0x7F 131072 settling
  pub said : List Call
  pub begun : IsBegun turns said
  pub is : calls ≡ fetches ++ (settling ++ said)
  pub few : AreFew (most_calls 0) calls
