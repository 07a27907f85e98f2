-- What a line of the journal can say.
use Rattle.std.specs.Prelude.{ℕ, ◌+◌, ◌-◌, ◌*◌, ◌/◌, ◌%◌, Bool, ◌&&◌, ◌||◌, ◌==◌, nat_le, nat_lt}
use Rattle.std.specs.Prelude.{if◌then◌else◌, List, [], ◌∷◌, ◌++◌, length, take, drop, fold, codes}
use Rattle.std.specs.Prelude.{decimal, bytes_eq, Option, Some, None, option_map, option_and_then}
use Rattle.std.specs.Prelude.{position, slice_index}
use Rattle.std.specs.List.{list_all}
use Rattle.std.specs.Result.{result_ok}
use Rattle.hex.specs.Hex.{encode_upper, decode_of}
use Rattle.stm_wire.specs.UniqueId.{is_unique_length}
use Rattle.stm_journal.specs.declared.entry.Entry.{Entry}
use Rattle.stm_journal.specs.declared.entry.Entry.TheVariants.{Names, Opens, Keeps, Erases}
use Rattle.stm_journal.specs.declared.entry.Entry.TheVariants.{Programs, Ends, Undoes}

-- the digits of hexadecimal numbers: `0` to `9` and `A` to `F`
abbrev pub is_upper_digit : ℕ → Bool
is_upper_digit c = (nat_le 48 c && nat_le c 57) || (nat_le 65 c && nat_le c 70)

-- one digit more, of a number that may be 65,535 at most
abbrev pub with_digit : Option ℕ → ℕ → Option ℕ
with_digit None c = None
with_digit (Some n) c =
    if (nat_le 48 c && nat_le c 57) && nat_le (n * 10 + (c - 48)) 65535
    then Some (n * 10 + (c - 48)) else None

-- a decimal number of at most 65,535: digits without a leading zero, but for `0` itself
abbrev pub decimal_of : List ℕ → Option ℕ
decimal_of digits =
    if length digits == 0 || (nat_lt 1 (length digits) && slice_index digits 0 == 48) then None
    else fold with_digit (Some 0) digits

-- upper-case digits alone, at least one
abbrev pub are_upper_digits : List ℕ → Bool
are_upper_digits digits = nat_lt 0 (length digits) && list_all is_upper_digit digits

-- the bytes that such digits say, two digits a byte; none for other text or an odd number
abbrev pub hex_bytes_of : List ℕ → Option (List ℕ)
hex_bytes_of digits = if are_upper_digits digits then result_ok (decode_of digits) else None

-- the number of two bytes
abbrev pub number_of_pair : List ℕ → Option ℕ
number_of_pair (high ∷ low ∷ []) = Some (high * 256 + low)
number_of_pair bytes = None

-- what follows the word, where the line begins with it
abbrev pub behind : List ℕ → List ℕ → Option (List ℕ)
behind word line =
    if bytes_eq (take (length word) line) word then Some (drop (length word) line) else None

-- the page that is kept, where its number and its bytes could both be read
abbrev pub page_of_fields : Option ℕ → Option (List ℕ) → Option Entry
page_of_fields (Some n) (Some bytes) = Some (Keeps n bytes)
page_of_fields (Some n) None = None
page_of_fields None bytes = None

-- a page in a text with its first space in this place: the number before it, the bytes behind
abbrev pub page_at : List ℕ → Option ℕ → Option Entry
page_at rest None = None
page_at rest (Some i) = page_of_fields (decimal_of (take i rest)) (hex_bytes_of (drop (i + 1) rest))

-- what follows `page `: the page's number, a space, its bytes
abbrev pub kept_entry_of : List ℕ → Option Entry
kept_entry_of rest = page_at rest (position (λ b. b == 32) rest)

-- a product id: four digits
abbrev pub id_of : List ℕ → Option ℕ
id_of digits = option_and_then number_of_pair (hex_bytes_of digits)

-- a unique id: the digits of 8 to 32 bytes
abbrev pub unique_id_of : List ℕ → Option (List ℕ)
unique_id_of digits =
    option_and_then (λ bytes. if is_unique_length (length bytes) then Some bytes else None)
    (hex_bytes_of digits)

-- the device of a journal of version 1 or 2
abbrev pub header_of : ℕ → List ℕ → Option Entry
header_of version rest = option_map (λ id. Names version id []) (id_of rest)

-- the device of a journal of version 3, where its id and its unique id could both be read
abbrev pub board_of_fields : Option ℕ → Option (List ℕ) → Option Entry
board_of_fields (Some id) (Some unique) = Some (Names 3 id unique)
board_of_fields (Some id) None = None
board_of_fields None unique = None

-- the same in a text with its first space in this place: the id before it, the unique id behind
abbrev pub board_at : List ℕ → Option ℕ → Option Entry
board_at rest None = None
board_at rest (Some i) = board_of_fields (id_of (take i rest)) (unique_id_of (drop (i + 1) rest))

-- what follows `stmjournal 3 `: the device's id, a space, its unique id
abbrev pub board_header_of : List ℕ → Option Entry
board_header_of rest = board_at rest (position (λ b. b == 32) rest)

-- what follows one of these words, and else what the other reading says
abbrev pub worded : List ℕ → (List ℕ → Option Entry) → List ℕ → Option Entry → Option Entry
worded word said line other =
    elim (behind word line) as (λ _. Option Entry) [ None ↦ other | Some rest ↦ said rest ]

-- a line of a word and a decimal number: `open`, `erase`, `program`, `end` or `undone`
abbrev pub numbered_entry_of : List ℕ → Option Entry
numbered_entry_of line =
    worded (codes "open ") (λ rest. option_map (λ n. Opens n) (decimal_of rest)) line
    (worded (codes "erase ") (λ rest. option_map (λ n. Erases n) (decimal_of rest)) line
    (worded (codes "program ") (λ rest. option_map (λ n. Programs n) (decimal_of rest)) line
    (worded (codes "end ") (λ rest. option_map (λ n. Ends n) (decimal_of rest)) line
    (worded (codes "undone ") (λ rest. option_map (λ n. Undoes n) (decimal_of rest)) line None))))

-- what a whole line says, if it says anything
abbrev pub entry_of : List ℕ → Option Entry
entry_of line =
    worded (codes "page ") kept_entry_of line
    (worded (codes "stmjournal 1 ") (header_of 1) line
    (worded (codes "stmjournal 2 ") (header_of 2) line
    (worded (codes "stmjournal 3 ") board_header_of line (numbered_entry_of line))))

-- what a header begins with
abbrev pub header_word : ℕ → List ℕ
header_word version =
    if version == 3 then codes "stmjournal 3 "
    else if version == 2 then codes "stmjournal 2 "
    else codes "stmjournal 1 "

-- the four digits of a product id
abbrev pub id_digits : ℕ → List ℕ
id_digits id = encode_upper (id / 256 ∷ id % 256 ∷ [])

-- the device that a header names: its id, and in version 3 its unique id
abbrev pub device_text : ℕ → ℕ → List ℕ → List ℕ
device_text version id unique =
    if version == 3 then id_digits id ++ 32 ∷ encode_upper unique else id_digits id

-- the line that says it
abbrev pub line_of : Entry → List ℕ
line_of (Names version id unique) = header_word version ++ device_text version id unique
line_of (Opens k) = codes "open " ++ decimal k
line_of (Keeps n bytes) = codes "page " ++ (decimal n ++ 32 ∷ encode_upper bytes)
line_of (Erases n) = codes "erase " ++ decimal n
line_of (Programs n) = codes "program " ++ decimal n
line_of (Ends k) = codes "end " ++ decimal k
line_of (Undoes k) = codes "undone " ++ decimal k

-- with the LF that ends it
abbrev pub line_text : Entry → List ℕ
line_text e = line_of e ++ 10 ∷ []
