-- How a text is printed within one line: what stands in place of its control characters.
use Rattle.std.specs.Prelude.{◌≡◌, ◌≢◌, ℕ, ◌≤◌, ◌/◌, ◌%◌, ◌==◌, if◌then◌else◌, false, List, [], ◌∷◌}
use Rattle.std.specs.Char.{digit_char, is_control}
use Rattle.std.specs.List.{All, flat_map}
use Rattle.std.specs.Str.{IsUtf8, chars, encode_utf8_all}

-- a backslash and this letter
abbrev pub short_escape : ℕ → List ℕ
short_escape letter = 0x5C ∷ letter ∷ []

-- a backslash, x and two digits in base 16
abbrev pub number_escape : ℕ → List ℕ
number_escape c = 0x5C ∷ 0x78 ∷ digit_char (c / 16) ∷ digit_char (c % 16) ∷ []

-- The characters that stand for one: a control character (U+0000 to U+001F, U+007F to U+009F) is
-- shown as \n, \t, \r, or by its number; any other is itself.
abbrev pub shown : ℕ → List ℕ
shown c =
    if c == 0x0A then short_escape 0x6E
    else if c == 0x09 then short_escape 0x74
    else if c == 0x0D then short_escape 0x72
    else if is_control c then number_escape c
    else c ∷ []

-- a text, with each of its characters shown so
abbrev pub escaped : List ℕ → List ℕ
escaped text = encode_utf8_all (flat_map shown (chars text))

-- a byte that ends no line and moves no cursor
pub record IsPrinted (byte : ℕ) : Type 0 where
  pub high : 0x20 ≤ byte
  pub kept : byte ≢ 0x7F

-- No byte is one of ASCII's control characters, and no character is a control character.
pub record IsOneLine (text : List ℕ) : Type 0 where
  pub bytes : All IsPrinted text
  pub characters : All (λ c. is_control c ≡ false) (chars text)

-- so is each text that is escaped
abbrev pub EscapedIsOneLine : Type 0
EscapedIsOneLine = (text : List ℕ) → IsUtf8 text → IsOneLine (escaped text)
