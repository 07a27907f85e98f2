-- How long silence is waited for behind bytes that were put, in milliseconds.
use Rattle.std.specs.Prelude.{ℕ, ◌+◌, ◌-◌, ◌*◌, ◌^◌, min, max, Option, Some, None}
use Rattle.std.specs.Int.{div_ceil}

-- a number of 64 bits stays at its greatest
abbrev pub held : ℕ → ℕ
held n = min n (2 ^ 64 - 1)

-- How long so many bytes are on a line of so many baud: each is 11 bits, with its parity.
abbrev pub line_time : ℕ → ℕ → ℕ
line_time baud bytes = div_ceil (bytes * 11 * 1000) (max baud 1)

-- Where the line's speed is known, a reply may come a whole wait behind the last byte. Where it isn't,
-- each 256 bytes that were begun have a whole wait.
abbrev pub wait_behind : ℕ → Option ℕ → ℕ → ℕ
wait_behind whole (Some baud) bytes = held (whole + line_time baud bytes)
wait_behind whole None bytes = held (whole * max (div_ceil bytes 256) 1)

-- How much longer than otherwise a draining behind so many bytes may go on: while their replies
-- come, and then for the silence behind them.
abbrev pub time_beyond : ℕ → Option ℕ → ℕ → ℕ
time_beyond whole baud bytes = held (2 * (wait_behind whole baud bytes - whole))
