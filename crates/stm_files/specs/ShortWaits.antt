-- How long short waits on a line may go on.
use Rattle.std.specs.Prelude.{ℕ, ◌+◌, ◌-◌, ◌*◌, ◌^◌, ◌&&◌, if◌then◌else◌, min, max, nat_le, Bool}
use Rattle.std.specs.Prelude.{false, Option, Some, None, option_map}
use Rattle.std.specs.Option.{option_or}
use Rattle.stm_wire.specs.declared.rig.Patience.{Patience}
use Rattle.stm_wire.specs.declared.rig.Patience.TheVariants.{Brief, Long}

pub record WaitsData : Type 0 where
  -- how many nanoseconds they may go on; None: for ever
  pub limit : Option ℕ
  -- the bytes put since the last get
  pub puts : ℕ
  -- the gets of the row, and when the first of them began that had to wait
  pub gets : ℕ
  pub since : Option ℕ
  -- how many nanoseconds longer the row may go on, behind many bytes
  pub spare : ℕ

abbrev pub no_waits : Option ℕ → WaitsData
no_waits limit = record { limit = limit; puts = 0; gets = 0; since = None; spare = 0 }

-- counts stay at 2^32 - 1
abbrev pub one_more : ℕ → ℕ
one_more n = min (n + 1) (2 ^ 32 - 1)

abbrev pub one_put_more : WaitsData → WaitsData
one_put_more w = record w { puts = one_more w.puts }

-- A short get behind one byte, or none, goes on with the row; one behind a batch ends
-- it, and so does a long one.
abbrev pub with_get : Patience → Option ℕ → WaitsData → WaitsData
with_get Long at w = no_waits w.limit
with_get Brief at w =
    if nat_le w.puts 1
    then record w { puts = 0; gets = one_more w.gets; since = option_or w.since at }
    else no_waits w.limit

-- the row may go on for so many milliseconds longer, or for as long as before
abbrev pub with_spare : ℕ → WaitsData → WaitsData
with_spare millis w = record w { spare = max w.spare (millis * 1000000) }

-- they are over where there were 9 gets and they have gone on for so long
abbrev pub is_over_after : Option ℕ → ℕ → Option ℕ → ℕ → Bool
is_over_after None gets time spare = false
is_over_after (Some limit) gets None spare = false
is_over_after (Some limit) gets (Some time) spare = nat_le 9 gets && nat_le (limit + spare) time

abbrev pub is_over_at : ℕ → WaitsData → Bool
is_over_at now w =
    is_over_after w.limit w.gets (option_map (λ start. now - start) w.since) w.spare

-- one long wait that stays quiet is over by itself where it was no shorter
abbrev pub is_over_in : ℕ → Option ℕ → Bool
is_over_in time None = false
is_over_in time (Some limit) = nat_le limit time
