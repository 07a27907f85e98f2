-- A record of Intel HEX, and what stands where one may begin.
use Rattle.std.specs.Prelude.{ℕ, ◌+◌, ◌-◌, ◌*◌, ◌%◌, nat_le, ◌==◌, ◌||◌, Bool, true, if◌then◌else◌}
use Rattle.std.specs.Prelude.{List, [], ◌∷◌, length, take, drop, slice_index, sum, Option, Some}
use Rattle.std.specs.Prelude.{None}
use Rattle.std.specs.List.{prefix_len}
use Rattle.hex.specs.Hex.{is_hex_digit, decode_of}
use Rattle.std.specs.Result.{result_unwrap_or}

-- CR, LF, space or tab
abbrev pub is_blank : ℕ → Bool
is_blank b = b == 13 || b == 10 || b == 32 || b == 9

-- the bytes of some digits
abbrev pub digits_bytes : List ℕ → List ℕ
digits_bytes digits = result_unwrap_or (decode_of digits) []

-- how many digits a record has: two until these tell its length
abbrev pub digits_needed : List ℕ → ℕ
digits_needed text =
    if nat_le 2 (prefix_len is_hex_digit text)
    then 2 * (slice_index (digits_bytes (take 2 text)) 0 + 5) else 2

-- what stands where a record may begin: nothing; another byte than a colon; a colon and too few
-- digits, with another byte or the end after them; a record's bytes, and the text after them
pub data Scan : Type 0 where
  Ended : Scan
  Stray : Scan
  Broken : Scan
  Cut : Scan
  Whole : List ℕ → List ℕ → Scan

abbrev pub ends_digits : List ℕ → Scan
ends_digits [] = Cut
ends_digits (_ ∷ _) = Broken

-- after a colon
unfoldable pub scan_digits : List ℕ → Scan
scan_digits text =
    if nat_le (digits_needed text) (prefix_len is_hex_digit text)
    then Whole (digits_bytes (take (digits_needed text) text)) (drop (digits_needed text) text)
    else ends_digits (drop (prefix_len is_hex_digit text) text)

abbrev pub scan_begun : List ℕ → Scan
scan_begun [] = Ended
scan_begun (b ∷ rest) = if b == 58 then scan_digits rest else Stray

unfoldable pub scan : List ℕ → Scan
scan text = scan_begun (drop (prefix_len is_blank text) text)

-- the parts of a record's bytes
abbrev pub kind_of : List ℕ → ℕ
kind_of record_bytes = slice_index record_bytes 3

abbrev pub offset_of : List ℕ → ℕ
offset_of record_bytes = slice_index record_bytes 1 * 256 + slice_index record_bytes 2

abbrev pub data_of : List ℕ → List ℕ
data_of record_bytes = take (length record_bytes - 5) (drop 4 record_bytes)

-- the number in a record of two data bytes
abbrev pub record_number : List ℕ → ℕ
record_number record_bytes = slice_index record_bytes 4 * 256 + slice_index record_bytes 5

-- whether a kind may have so many data bytes
abbrev pub has_length : ℕ → ℕ → Bool
has_length kind count =
    if kind == 0 then true
    else if kind == 1 then count == 0
    else if kind == 2 || kind == 4 then count == 2
    else count == 4

-- why a whole record is refused by itself
pub data Flaw : Type 0 where
  BadSum : Flaw
  BadKind : Flaw
  BadLength : Flaw

unfoldable pub flaw_of : List ℕ → Option Flaw
flaw_of record_bytes =
    if sum record_bytes % 256 == 0
    then (if nat_le (kind_of record_bytes) 5
    then
    (if has_length (kind_of record_bytes) (length record_bytes - 5) then None else Some BadLength)
    else Some BadKind)
    else Some BadSum
