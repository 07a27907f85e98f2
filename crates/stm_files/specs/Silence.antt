-- How long a brief get waits for a byte, by what is known of the bytes that a device may still owe.
use Rattle.std.specs.Prelude.{ℕ, ◌+◌, ◌-◌, ◌*◌, ◌^◌, ◌==◌, ◌&&◌, ◌||◌, if◌then◌else◌, min, max, nat_le}
use Rattle.std.specs.Prelude.{Bool, false, Option, Some, None}
use Rattle.stm_wire.specs.Reply.{ack, nack}
use Rattle.stm_wire.specs.declared.rig.Patience.{Patience}
use Rattle.stm_wire.specs.declared.rig.Patience.TheVariants.{Brief, Long}
use Rattle.stm_files.specs.BatchWait.{time_beyond, wait_behind}
use Rattle.stm_files.specs.declared.silence.Known.{Known}
use Rattle.stm_files.specs.declared.silence.Known.TheVariants.{Nothing, Batched, Paired, Quiet}
use Rattle.stm_files.specs.declared.silence.Known.TheVariants.{Answered, Rested, Begun}

pub record SilenceData : Type 0 where
  -- the whole wait, in milliseconds
  pub whole : ℕ
  pub known : Known
  -- the bytes put since the last get; 2 stands for more too
  pub puts : ℕ
  -- how many milliseconds a brief get waited at most for a byte, where one came, and the long one for
  -- the reply to a lone byte
  pub longest : Option ℕ
  -- how many bits a second the line has, where that is known
  pub baud : Option ℕ
  -- the bytes put since the last get that stayed quiet, or was of the patience that waits long, but for
  -- those of a batch that were refused
  pub bytes : ℕ

-- A device that was just reset owes nothing, so that its line is quiet from the start.
abbrev pub at_first : ℕ → Option ℕ → Bool → SilenceData
at_first whole baud is_quiet =
    record {
      whole = whole;
      known = (if is_quiet then Quiet else Nothing);
      puts = 0;
      longest = None;
      baud = baud;
      bytes = 0;
    }

abbrev pub with_put : SilenceData → SilenceData
with_put s = record s { puts = min (s.puts + 1) 2; bytes = min (s.bytes + 1) (2 ^ 32 - 1) }

-- What is waited where silence is due: four times the longest answer and 20 ms, and no more than the
-- whole wait, which it is where no answer was measured.
abbrev pub due_wait : ℕ → Option ℕ → ℕ
due_wait whole None = whole
due_wait whole (Some longest) = min whole (4 * longest + 20)

-- Behind an answer nothing more is due. A device at rest owes nothing, and on a quiet line a whole wait
-- is over, so that what is there is only looked at; and a device at rest is silent to one byte, the
-- first of a pair. Elsewhere it is waited for whole, and longer behind many bytes.
abbrev pub wait_of : Known → ℕ → ℕ → Option ℕ → ℕ → ℕ
wait_of Answered puts whole longest behind = if puts == 0 then due_wait whole longest else behind
wait_of Quiet puts whole longest behind = if puts == 0 then min whole 1 else behind
wait_of Rested puts whole longest behind =
    if puts == 0 then min whole 1
    else if puts == 1 then due_wait whole longest else behind
wait_of other puts whole longest behind = behind

abbrev pub wait_now : SilenceData → ℕ
wait_now s = wait_of s.known s.puts s.whole s.longest (wait_behind s.whole s.baud s.bytes)

-- how much longer than otherwise a draining may go on now
abbrev pub beyond_now : SilenceData → ℕ
beyond_now s = time_beyond s.whole s.baud s.bytes

-- what is known behind a get that stayed quiet, where at most one byte was put before it
abbrev pub quiet_after : Known → ℕ → Known
quiet_after Answered puts = if puts == 0 then Rested else Quiet
quiet_after Rested puts = if puts == 0 then Rested else Begun
quiet_after other puts = Quiet

-- what a byte answers that was put to a quiet line: 79, or 1F
abbrev pub is_reply : ℕ → Known
is_reply byte = if byte == ack || byte == nack then Answered else Nothing

-- what the second byte of a pair is answered by: 1F, behind which nothing is due
abbrev pub is_refusal : ℕ → Known
is_refusal byte = if byte == nack then Rested else Nothing

-- what is known behind a byte that came; any other one came unawaited
abbrev pub known_after : Known → ℕ → ℕ → Known
known_after Quiet puts byte = if puts == 1 then is_reply byte else Nothing
known_after Begun puts byte = if puts == 1 then is_refusal byte else Nothing
known_after other puts byte = Nothing

abbrev pub after_get : Known → ℕ → Option ℕ → Known
after_get known puts None = quiet_after known puts
after_get known puts (Some byte) = known_after known puts byte

-- Behind a batch nothing is known, until a command was answered.
abbrev pub unless_batched : Known → Known → Known
unless_batched Batched known = Batched
unless_batched Paired known = Batched
unless_batched other known = known

abbrev pub known_behind : Known → ℕ → Known → Known
known_behind before puts known = if nat_le 2 puts then Batched else unless_batched before known

abbrev pub longer_of : Option ℕ → Option ℕ → Option ℕ
longer_of None taken = taken
longer_of (Some longest) None = Some longest
longer_of (Some longest) (Some taken) = Some (max longest taken)

-- Of a batch that is put to a device at rest each two bytes are refused by one 1F, and nothing else
-- comes. Whether a byte that came refuses two of them, where so many aren't refused yet.
abbrev pub refuses_pair : Known → ℕ → ℕ → ℕ → Bool
refuses_pair Rested puts bytes byte = nat_le 2 puts && byte == nack
refuses_pair Paired puts bytes byte = puts == 0 && (nat_le 2 bytes && byte == nack)
refuses_pair other puts bytes byte = false

-- Then nothing more is due once they all were.
abbrev pub rest_of_pairs : ℕ → Known
rest_of_pairs bytes = if nat_le bytes 2 then Answered else Paired

abbrev pub known_heard : Known → ℕ → ℕ → Option ℕ → Known
known_heard known puts bytes None = known_behind known puts (after_get known puts None)
known_heard known puts bytes (Some byte) =
    if refuses_pair known puts bytes byte then rest_of_pairs bytes
    else known_behind known puts (after_get known puts (Some byte))

-- Bytes that were put are on their way until a get stayed quiet, or they were refused.
abbrev pub bytes_heard : Known → ℕ → ℕ → Option ℕ → ℕ
bytes_heard known puts bytes None = 0
bytes_heard known puts bytes (Some byte) =
    if refuses_pair known puts bytes byte then bytes - 2 else bytes

-- A brief get that had to wait answered a byte after so many milliseconds, or stayed quiet.
abbrev pub with_answer : Option ℕ → Option ℕ → SilenceData → SilenceData
with_answer answer taken s =
    record s {
      known = known_heard s.known s.puts s.bytes answer;
      puts = 0;
      longest = longer_of s.longest taken;
      bytes = bytes_heard s.known s.puts s.bytes answer;
    }

-- A get that waits long, as each step of a command has one, was answered or stayed quiet. Behind an
-- answer to a frame, of two bytes or more, the device is in step with its host, and what follows that
-- is brief begins the next session. 79 for the one byte that was put to a quiet line is an answer as
-- behind a brief get: the second 79 of some bootloaders follows it at once, and nothing else is due.
abbrev pub is_lone_ack : Known → ℕ → ℕ → Option ℕ → Bool
is_lone_ack known puts bytes None = false
is_lone_ack Quiet puts bytes (Some byte) = puts == 1 && (bytes == 1 && byte == ack)
is_lone_ack Batched puts bytes (Some byte) = puts == 1 && (bytes == 1 && byte == ack)
is_lone_ack other puts bytes (Some byte) = false

abbrev pub known_unmeasured : Known → ℕ → Option ℕ → Known
known_unmeasured known puts None = unless_batched known Nothing
known_unmeasured known puts (Some byte) =
    if nat_le 2 puts then Rested
    else if puts == 0 then known else unless_batched known Nothing

abbrev pub known_long : Known → ℕ → ℕ → Option ℕ → Known
known_long known puts bytes answer =
    if is_lone_ack known puts bytes answer then Answered else known_unmeasured known puts answer

-- How long a command's reply took tells nothing of the line: an erase takes long.
abbrev pub with_long : Option ℕ → Option ℕ → SilenceData → SilenceData
with_long answer taken s =
    record s {
      known = known_long s.known s.puts s.bytes answer;
      puts = 0;
      longest =
          (if is_lone_ack s.known s.puts s.bytes answer then longer_of s.longest taken
          else s.longest);
      bytes = 0;
    }

-- A get answered a byte that was there: it came before what was put was sent, and is no answer to it.
abbrev pub known_held : Patience → Known → ℕ → ℕ → ℕ → Known
known_held Brief known puts bytes byte =
    if puts == 0 && refuses_pair known puts bytes byte then rest_of_pairs bytes
    else known_behind known puts Nothing
known_held Long known puts bytes byte =
    if puts == 0 then known else unless_batched known Nothing

abbrev pub bytes_held : Patience → Known → ℕ → ℕ → ℕ → ℕ
bytes_held Brief known puts bytes byte =
    if puts == 0 && refuses_pair known puts bytes byte then bytes - 2 else bytes
bytes_held Long known puts bytes byte = 0

abbrev pub with_held : Patience → ℕ → SilenceData → SilenceData
with_held patience byte s =
    record s {
      known = known_held patience s.known s.puts s.bytes byte;
      puts = 0;
      bytes = bytes_held patience s.known s.puts s.bytes byte;
    }
