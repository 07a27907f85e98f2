-- What a device makes of a whole list of bytes that came to it since its last verdict. No proper
-- beginning of a list with a verdict has one, and a list with no verdict at any beginning is open:
-- the device waits for more.
use Rattle.std.specs.Prelude.{◌≡◌, ℕ, ◌+◌, ◌-◌, ◌*◌, Bool, ◌&&◌, nat_lt, nat_le}
use Rattle.std.specs.Prelude.{◌==◌, if◌then◌else◌, List, [], ◌∷◌, ◌++◌, length}
use Rattle.std.specs.Prelude.{take, slice_index, fold, bit_xor, Option, Some, None}
use Rattle.std.specs.List.{list_all, list_any}
use Rattle.stm_wire.specs.declared.verdict.Verdict.{Verdict}
use Rattle.stm_wire.specs.declared.verdict.Verdict.TheVariants.{Done, Refused, Loose}
use Rattle.stm_wire.specs.Chip.{ChipData, page_count, fits_inside, is_inside}
use Rattle.stm_wire.specs.Telling.{can_read, is_readable}

-- the byte with each of its bits turned over, by which it is checked
abbrev pub complement : ℕ → ℕ
complement byte = 255 - byte

-- the exclusive-or of all bytes
abbrev pub xor : List ℕ → ℕ
xor bytes = fold bit_xor 0 bytes

-- the number of four bytes, the highest first
abbrev pub number_of : ℕ → ℕ → ℕ → ℕ → ℕ
number_of a b c d = ((a * 256 + b) * 256 + c) * 256 + d

-- the number of two bytes, the higher first
abbrev pub pair_of : ℕ → ℕ → ℕ
pair_of high low = high * 256 + low

-- the two-byte numbers of a list
abbrev pub two_byte_numbers : List ℕ → List ℕ
two_byte_numbers (high ∷ low ∷ rest) = pair_of high low ∷ two_byte_numbers rest
two_byte_numbers rest = []

-- the code is one of these
abbrev pub is_listed : List ℕ → ℕ → Bool
is_listed codes code = list_any (λ c. c == code) codes

-- the chip has each of these pages
abbrev pub all_exist : ChipData → List ℕ → Bool
all_exist chip pages = list_all (λ n. nat_lt n (page_count chip)) pages

-- done where the test passes, else refused
abbrev pub done_if : Bool → Verdict
done_if test = if test then Done else Refused

-- this verdict, where the list ends here
abbrev pub at_end : Verdict → List ℕ → Option Verdict
at_end v [] = Some v
at_end v (byte ∷ rest) = None

-- an address that is taken, its check, and what this says of the rest
abbrev pub after_address : (ℕ → Bool) → (ℕ → List ℕ → Option Verdict) → List ℕ → Option Verdict
after_address takes next (a ∷ b ∷ c ∷ d ∷ check ∷ rest) =
    if check == xor (a ∷ b ∷ c ∷ d ∷ []) && takes (number_of a b c d)
    then next (number_of a b c d) rest
    else at_end Refused rest
after_address takes next bytes = None

-- n, ~n
abbrev pub read_verdict : ChipData → ℕ → List ℕ → Option Verdict
read_verdict chip address (n ∷ check ∷ rest) =
    at_end (done_if (check == complement n && can_read chip address (n + 1))) rest
read_verdict chip address bytes = None

-- n, n + 1 bytes, a check
abbrev pub write_verdict : ChipData → ℕ → List ℕ → Option Verdict
write_verdict chip address (n ∷ rest) =
    if length rest == n + 2
    then Some (done_if (slice_index rest (n + 1) == xor (n ∷ take (n + 1) rest)
    && fits_inside chip address (n + 1)))
    else None
write_verdict chip address [] = None

-- after a count that names all pages: 0
abbrev pub all_verdict : List ℕ → Option Verdict
all_verdict (check ∷ rest) = at_end (done_if (check == 0)) rest
all_verdict [] = None

-- n, n + 1 pages, a check
abbrev pub erase_verdict : ChipData → List ℕ → Option Verdict
erase_verdict chip (n ∷ rest) =
    if n == 0xFF
    then all_verdict rest
    else
    (if length rest == n + 2
    then Some (done_if (slice_index rest (n + 1) == xor (n ∷ take (n + 1) rest)
    && all_exist chip (take (n + 1) rest)))
    else None)
erase_verdict chip [] = None

-- after this count: size bytes with the pages' numbers of two bytes, a check
abbrev pub pages_verdict : ChipData → List ℕ → ℕ → List ℕ → Option Verdict
pages_verdict chip count size rest =
    if length rest == size + 1
    then Some (done_if (slice_index rest size == xor (count ++ take size rest)
    && all_exist chip (two_byte_numbers (take size rest))))
    else None

-- the same with numbers of two bytes; of the counts from FFF0 on only FFFF is promised
abbrev pub extended_verdict : ChipData → List ℕ → Option Verdict
extended_verdict chip (high ∷ low ∷ rest) =
    if pair_of high low == 0xFFFF
    then all_verdict rest
    else
    (if nat_le 0xFFF0 (pair_of high low)
    then (if length rest == 1 then Some Loose else None)
    else
    pages_verdict chip (high ∷ low ∷ []) (2 * (pair_of high low + 1)) rest)
extended_verdict chip bytes = None

-- what follows a listed code and its complement
abbrev pub command_verdict : ChipData → ℕ → List ℕ → Option Verdict
command_verdict chip code rest =
    if code == 0x00 then at_end Done rest
    else (if code == 0x02 then at_end Done rest
    else (if code == 0x11 then after_address (is_readable chip) (read_verdict chip) rest
    else (if code == 0x21 then after_address (is_inside chip) (λ address end. at_end Done end) rest
    else (if code == 0x31 then after_address (is_inside chip) (write_verdict chip) rest
    else (if code == 0x43 then erase_verdict chip rest
    else (if code == 0x44 then extended_verdict chip rest
    else at_end Loose rest))))))

-- the verdict on a whole list, of a device with this chip and these codes
abbrev pub verdict : ChipData → List ℕ → List ℕ → Option Verdict
verdict chip codes (code ∷ check ∷ rest) =
    if check == complement code && is_listed codes code
    then command_verdict chip code rest
    else at_end Refused rest
verdict chip codes bytes = None

-- no beginning of the list has a verdict
abbrev pub IsOpen : ChipData → List ℕ → List ℕ → Type 0
IsOpen chip codes bytes = (n : ℕ) → verdict chip codes (take n bytes) ≡ None
