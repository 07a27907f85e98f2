-- How long a line waits: each read of its socket as long as the get's kind asks for, and when the
-- device is given up.
use Rattle.std.specs.Prelude.{◌≡◌, ◌⊎◌, ◌<◌, ◌*◌, ◌-◌, ◌^◌, ◌==◌, ℕ, Bool, true, false, if◌then◌else◌}
use Rattle.std.specs.Prelude.{min, [], Option, Some, None, length}
use Rattle.stm_wire.specs.declared.rig.Patience.{Patience}
use Rattle.stm_wire.specs.declared.rig.Patience.TheVariants.{Brief, Long}
use Rattle.stm_files.specs.ReplyTime.{no_reply, reply_asked, reply_put, reply_wait, silence_then}
use Rattle.stm_files.specs.ShortWaits.{is_over_at, is_over_in, no_waits, with_get, with_spare}
use Rattle.stm_files.specs.ShortWaits.{one_put_more as one_more_put}
use Rattle.stm_files.specs.Silence.{SilenceData, at_first, beyond_now, wait_now, with_put}
use Rattle.stm_files.specs.SocketLine.{LineState}

-- what the system's own socket shows of a time that was set: nothing
abbrev pub IsTimeAskedFor : Type 0
IsTimeAskedFor = Unit {0}

-- how many milliseconds a get of this kind waits: a brief one by the silence, a long one as long as
-- the reply to the command that was sent may take
abbrev pub time_of : Patience → LineState → ℕ
time_of Brief line = wait_now line.silence
time_of Long line = reply_wait line.reply

-- the time in which the device is given up, in milliseconds; at 0 seconds it never is
abbrev pub give_up_limit : ℕ → Option ℕ
give_up_limit seconds = if seconds == 0 then None else Some (min (seconds * 1000) (2 ^ 64 - 1))

-- the same in nanoseconds
abbrev pub row_limit_of : ℕ → Option ℕ
row_limit_of seconds = if seconds == 0 then None else Some (seconds * 10 ^ 9)

-- A new line: nothing was set at its socket, a brief get waits so many milliseconds, longer behind
-- many bytes by the line's speed, it may be known to be quiet, and the device is given up after so
-- many seconds.
pub record IsNewLine (brief : ℕ) (baud : Option ℕ) (is_quiet : Bool) (give_up : ℕ)
    (line : LineState) : Type 0 where
  pub waits : line.waits ≡ None
  pub silence : line.silence ≡ at_first brief baud is_quiet
  pub row : line.row ≡ no_waits (row_limit_of give_up)
  pub reply : line.reply ≡ no_reply (give_up_limit give_up) brief
  pub has_given_up : line.has_given_up ≡ false

-- the device was given up, and all else is as it was
abbrev pub given_up : LineState → LineState
given_up line = record line { has_given_up = true }

-- so many milliseconds are set at the socket
abbrev pub waiting_for : ℕ → LineState → LineState
waiting_for time line = record line { waits = Some time }

-- more is known of the bytes that the device may owe
abbrev pub having_heard : SilenceData → LineState → LineState
having_heard silence line = record line { silence = silence }

-- by what gets wait is as it was
pub record HasSameTimes (old new : LineState) : Type 0 where
  pub silence : new.silence ≡ old.silence
  pub row : new.row ≡ old.row
  pub reply : new.reply ≡ old.reply

-- a byte was put, as far as times go
pub record PutsInTime (byte : ℕ) (old new : LineState) : Type 0 where
  pub silence : new.silence ≡ with_put old.silence
  pub row : new.row ≡ one_more_put old.row
  pub reply : new.reply ≡ reply_put byte old.reply

-- what was put is asked for
abbrev pub asked : LineState → LineState
asked line = record line { reply = reply_asked line.reply }

-- where no byte was held the socket was read, which waited as long as this kind of get asks for
abbrev pub WaitsInTime : Patience → LineState → LineState → Type 0
WaitsInTime patience old new = old.held ≡ [] → new.waits ≡ Some (time_of patience (asked old))

-- It was silent for too long: in a row of brief gets at some time, of which this one began at some
-- time, and which goes on longer behind many bytes; or in one long one, with what counts of the
-- silence before it.
abbrev pub IsSilent : Patience → LineState → Type 0
IsSilent Brief line = (began : Option ℕ) × (now : ℕ)
    × (is_over_at now (with_spare (beyond_now line.silence) (with_get Brief began line.row)) ≡ true)
IsSilent Long line = is_over_in (silence_then (asked line).reply * 10 ^ 6) line.row.limit ≡ true

-- A device is given up only where it was given up before, where bytes that were to be sent weren't
-- taken, or where it was silent for too long.
abbrev pub GivesUp : Patience → LineState → LineState → Type 0
GivesUp patience old new = new.has_given_up ≡ true
    → (old.has_given_up ≡ true) ⊎ (0 < length old.waiting) ⊎ IsSilent patience old
