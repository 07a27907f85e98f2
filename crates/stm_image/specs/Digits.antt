-- Digits read by a table.
use Rattle.std.specs.Prelude.{ℕ, ◌≡◌, ◌<◌, ◌+◌, ◌*◌, false, List, length, slice_index, Option, Some}
use Rattle.std.specs.Prelude.{None}
use Rattle.hex.specs.Hex.{hex_digit_value, is_hex_digit}

-- what the table has of a byte: the value of the digit, or 255
abbrev pub table_value : Option ℕ → ℕ
table_value (Some v) = v
table_value None = 255

pub record IsTable (values : List ℕ) : Type 0 where
  pub long : length values ≡ 256
  pub each : (c : ℕ) → c < 256 → slice_index values c ≡ table_value (hex_digit_value c)

-- two digits have this byte
pub record IsPair (first second byte : ℕ) : Type 0 where
  pub high : ℕ
  pub low : ℕ
  pub first_is : hex_digit_value first ≡ Some high
  pub second_is : hex_digit_value second ≡ Some low
  pub is : byte ≡ high * 16 + low

-- a byte is no digit
pub record HasOther (digits : List ℕ) : Type 0 where
  pub place : ℕ
  pub within : place < length digits
  pub other : is_hex_digit (slice_index digits place) ≡ false
