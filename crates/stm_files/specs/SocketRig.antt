-- A device behind a socket with a journal in a file, as contracts see it.
use Rattle.std.specs.Prelude.{ℕ, Some, length}
use Rattle.stm_wire.specs.Rig.{RigState}
use Rattle.stm_files.specs.CallRecord.{Past}
use Rattle.stm_files.specs.JournalFile.{JournalBytes}
use Rattle.stm_files.specs.SocketLine.{LineState}
use Rattle.stm_sim.specs.Unmodelled.{unmodelled}

pub record Failures : Type 0 where
  -- of put and get, and of append and fetch
  pub line : ℕ
  pub journal : ℕ

-- What a journal alone tells of itself: it has no line, and keeps no record.
abbrev pub journal_rig_state : Failures → RigState
journal_rig_state s = unmodelled s.line s.journal

pub record SocketState : Type 0 where
  pub failures : Failures
  pub line : LineState
  pub file : JournalBytes
  pub past : Past

-- What it tells of itself. No proof says what a socket or a file gives or takes, so it doesn't
-- claim to follow the model; but it keeps a record of its calls, which always has room.
abbrev pub socket_state : SocketState → RigState
socket_state s =
    record (unmodelled s.failures.line s.failures.journal) {
      moment = length s.past.calls;
      calls = Some s.past.calls;
      has_room = Unit {0};
      long_gets = Some s.past.long_gets;
      told = Some s.past.told;
    }
