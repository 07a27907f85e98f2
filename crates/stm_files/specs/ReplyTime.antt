-- How long the reply to a command is waited for.
use Rattle.std.specs.Prelude.{ℕ, ◌+◌, ◌-◌, ◌^◌, ◌==◌, ◌&&◌, ◌||◌, if◌then◌else◌, min, max, not}
use Rattle.std.specs.Prelude.{Bool, true, false, Option, Some, None}
use Rattle.stm_wire.specs.Exchange.{complement}
use Rattle.stm_wire.specs.Reply.{ack}

pub record ReplyData : Type 0 where
  -- how many milliseconds a reply that comes at once may take; None: as many as any
  pub limit : Option ℕ
  -- how many milliseconds late a reply may be
  pub late : ℕ
  -- of the bytes put since the last get: the first, how many they are, of which 255 stand for more
  -- too, and whether they are two, the second of them the complement of the first
  pub first : ℕ
  pub puts : ℕ
  pub is_pair : Bool
  -- how many bytes were put before the last get
  pub sent : ℕ
  -- the address of a read was acknowledged, so that a pair behind it is no code
  pub has_address : Bool
  -- the command at work erases, writes or protects
  pub is_slow : Bool
  -- how many milliseconds were waited in vain since the first byte was asked for, or since the last one
  -- that came; None: nothing was put yet
  pub silent : Option ℕ

abbrev pub no_reply : Option ℕ → ℕ → ReplyData
no_reply limit late =
    record {
      limit = limit;
      late = late;
      first = 0;
      puts = 0;
      is_pair = false;
      sent = 0;
      has_address = false;
      is_slow = false;
      silent = None;
    }

abbrev pub reply_put : ℕ → ReplyData → ReplyData
reply_put byte r =
    record r {
      first = (if r.puts == 0 then byte else r.first);
      puts = min (r.puts + 1) 255;
      is_pair = r.puts == 1 && byte == complement r.first;
    }

-- the codes of the commands that write, erase or protect
abbrev pub is_slow_code : ℕ → Bool
is_slow_code code =
    code == 0x31 || (code == 0x43 || (code == 0x44 || (code == 0x63 || (code == 0x73
    || (code == 0x82 || code == 0x92)))))

-- A pair is the code of a command, unless it is how many bytes are read; one byte alone ends what
-- was begun.
abbrev pub slow_behind : ReplyData → Bool
slow_behind r =
    if r.is_pair && not r.has_address then is_slow_code r.first
    else (if r.puts == 1 then false else r.is_slow)

-- the silence counts from the first byte on
abbrev pub begun_silence : Option ℕ → Option ℕ
begun_silence None = Some 0
begun_silence (Some silent) = Some silent

-- a get waits for what was put
abbrev pub reply_asked : ReplyData → ReplyData
reply_asked r =
    if r.puts == 0 then r
    else record r {
      puts = 0;
      is_pair = false;
      sent = r.puts;
      has_address = false;
      is_slow = slow_behind r;
      silent = begun_silence r.silent;
    }

abbrev pub is_ack : Option ℕ → Bool
is_ack None = false
is_ack (Some byte) = byte == ack

-- a number of 64 bits stays at its greatest
abbrev pub sum_of_times : ℕ → ℕ → ℕ
sum_of_times a b = min (a + b) (2 ^ 64 - 1)

abbrev pub silent_behind : Option ℕ → ℕ → Option ℕ → Option ℕ
silent_behind answer waited None = None
silent_behind None waited (Some silent) = Some (sum_of_times silent waited)
silent_behind (Some byte) waited (Some silent) = Some 0

-- This came, or nothing did for so many milliseconds. Behind the five bytes of an address, with its
-- check, the rest of a read follows.
abbrev pub reply_came : Option ℕ → ℕ → ReplyData → ReplyData
reply_came answer waited r =
    record r {
      sent = 0;
      has_address = r.sent == 5 && (not r.is_slow && is_ack answer);
      silent = silent_behind answer waited r.silent;
    }

-- the slowest command may take 40 seconds
abbrev pub reply_limit : Option ℕ → Bool → ℕ
reply_limit limit true = 40000
reply_limit None false = 40000
reply_limit (Some limit) false = min 40000 limit

-- Where 7F alone was sent, how long it was silent before counts.
abbrev pub is_connecting : ReplyData → Bool
is_connecting r = r.sent == 1 && r.first == 0x7F

abbrev pub counted_of : Bool → Option ℕ → ℕ
counted_of true (Some silent) = silent
counted_of true None = 0
counted_of false silent = 0

abbrev pub silence_before : ReplyData → ℕ
silence_before r = counted_of (is_connecting r) r.silent

-- What is left of the limit, but no less than a reply may be late.
abbrev pub left_limit : Option ℕ → ℕ → ℕ → Option ℕ
left_limit None late silent = None
left_limit (Some limit) late silent = Some (max (limit - silent) (min late limit))

abbrev pub reply_wait : ReplyData → ℕ
reply_wait r = reply_limit (left_limit r.limit r.late (silence_before r)) r.is_slow

-- for how long it was silent, as far as that counts, once this wait was in vain too
unfoldable pub silence_then : ReplyData → ℕ
silence_then r = sum_of_times (silence_before r) (reply_wait r)
