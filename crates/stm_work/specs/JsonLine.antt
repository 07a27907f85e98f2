-- A line of JSON (RFC 8259): one object, whose values are texts, numbers and lists of texts.
use Rattle.std.specs.Prelude.{ℕ, ◌/◌, ◌%◌, ◌+◌, ◌==◌, List, [], ◌∷◌, ◌++◌}
use Rattle.std.specs.Prelude.{codes, decimal}
use Rattle.std.specs.Prelude.{if◌then◌else◌, nat_lt}
use Rattle.std.specs.List.{flat_map}
use Rattle.stm_work.specs.Numbers.{numbers_text}

-- a digit in base 16, in small letters
abbrev pub hex_digit : ℕ → ℕ
hex_digit n = if nat_lt n 10 then 48 + n else 87 + n

-- a control character by its number: \u00 and two digits
abbrev pub by_number : ℕ → List ℕ
by_number byte = codes "\\u00" ++ (hex_digit (byte / 16) ∷ hex_digit (byte % 16) ∷ [])

-- what stands for a byte of a text within quotation marks
abbrev pub quoted_byte : ℕ → List ℕ
quoted_byte byte =
    if byte == 0x22 then 0x5C ∷ byte ∷ []
    else if byte == 0x5C then 0x5C ∷ byte ∷ []
    else if nat_lt byte 0x20 then by_number byte
    else byte ∷ []

-- a text within quotation marks
abbrev pub quoted : List ℕ → List ℕ
quoted = flat_map quoted_byte

-- a text with its quotation marks
abbrev pub text_value : List ℕ → List ℕ
text_value text = 0x22 ∷ (quoted text ++ 0x22 ∷ [])

-- a member whose value is a text, behind another
abbrev pub text_member : List ℕ → List ℕ → List ℕ
text_member name text = 0x2C ∷ (text_value name ++ (0x3A ∷ text_value text))

-- a member whose value is a number, behind another
abbrev pub number_member : List ℕ → ℕ → List ℕ
number_member name number = 0x2C ∷ (text_value name ++ (0x3A ∷ decimal number))

-- a member whose value is JSON already, behind another
abbrev pub made_member : List ℕ → List ℕ → List ℕ
made_member name value = 0x2C ∷ (text_value name ++ (0x3A ∷ value))

-- a line, but no empty one
abbrev pub unless_empty : List ℕ → List (List ℕ)
unless_empty [] = []
unless_empty (byte ∷ bytes) = (byte ∷ bytes) ∷ []

-- the lines of a text that aren't empty, the first of which begins with these bytes
abbrev pub lines_from : List ℕ → List ℕ → List (List ℕ)
lines_from line [] = unless_empty line
lines_from line (byte ∷ bytes) =
    if byte == 0x0A then unless_empty line ++ lines_from [] bytes
    else lines_from (line ++ byte ∷ []) bytes

-- the rest of a list of texts, which goes on with this mark: [ where none was told yet, else a
-- comma
abbrev pub list_from : ℕ → List (List ℕ) → List ℕ
list_from mark [] = if mark == 0x5B then 0x5B ∷ 0x5D ∷ [] else 0x5D ∷ []
list_from mark (text ∷ texts) = mark ∷ (text_value text ++ list_from 0x2C texts)

-- a member whose value is the list of a text's lines, but those that are empty, behind another
abbrev pub lines_member : List ℕ → List ℕ → List ℕ
lines_member name text =
    0x2C ∷ (text_value name ++ (0x3A ∷ list_from 0x5B (lines_from [] text)))

-- a member whose value is a list of numbers, behind another
abbrev pub numbers_member : List ℕ → List ℕ → List ℕ
numbers_member name numbers =
    0x2C ∷ (text_value name
    ++ (0x3A ∷ (0x5B ∷ (numbers_text (0x2C ∷ []) numbers ++ 0x5D ∷ []))))

-- an object that begins with this member
abbrev pub object_of : List ℕ → List ℕ → List ℕ
object_of name text = 0x7B ∷ (text_value name ++ (0x3A ∷ text_value text))

-- the end of an object, and of the line
abbrev pub line_end : List ℕ
line_end = 0x7D ∷ 0x0A ∷ []
