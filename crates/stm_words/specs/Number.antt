-- Numbers as words give them: `0x` and 1 to 8 hexadecimal digits of either case, or decimal
-- digits without leading zeros.
use Rattle.std.specs.Prelude.{ℕ, ◌+◌, ◌-◌, ◌*◌, ◌^◌, Bool, false, ◌&&◌, ◌||◌, ◌==◌, nat_lt, nat_le}
use Rattle.std.specs.Prelude.{nat_eq, not, if◌then◌else◌, codes, List, [], ◌∷◌, length, drop, fold}
use Rattle.std.specs.Prelude.{Option, Some, None}
use Rattle.std.specs.List.{list_all, starts_with}

abbrev pub is_decimal_digit : ℕ → Bool
is_decimal_digit c = nat_le 48 c && nat_le c 57

abbrev pub is_hex_digit : ℕ → Bool
is_hex_digit c =
    is_decimal_digit c || ((nat_le 65 c && nat_le c 70) || (nat_le 97 c && nat_le c 102))

-- the value of a digit
abbrev pub digit_value : ℕ → ℕ
digit_value c = if nat_le 97 c then c - 87 else (if nat_le 65 c then c - 55 else c - 48)

-- the number that these digits write, the highest first
abbrev pub number_of_digits : ℕ → List ℕ → ℕ
number_of_digits base digits = fold (λ n c. n * base + digit_value c) 0 digits

abbrev pub hex_number : List ℕ → Option ℕ
hex_number digits =
    if nat_le 1 (length digits) && nat_le (length digits) 8 && list_all is_hex_digit digits
    then Some (number_of_digits 16 digits) else None

abbrev pub has_leading_zero : List ℕ → Bool
has_leading_zero [] = false
has_leading_zero (c ∷ digits) = c == 48 && nat_le 1 (length digits)

-- the largest has 10 digits
abbrev pub decimal_number : List ℕ → Option ℕ
decimal_number digits =
    if nat_le 1 (length digits) && nat_le (length digits) 10 && list_all is_decimal_digit digits
    && not (has_leading_zero digits)
    && nat_lt (number_of_digits 10 digits) (2 ^ 32)
    then Some (number_of_digits 10 digits) else None

-- the number that a word gives
abbrev pub word_number : List ℕ → Option ℕ
word_number word =
    if starts_with nat_eq word (codes "0x") then hex_number (drop 2 word) else decimal_number word
