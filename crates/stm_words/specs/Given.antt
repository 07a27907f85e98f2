-- The values that were given for words, by their ids, and what a word stands for.
use Rattle.std.specs.Prelude.{◌≡◌, ℕ, ◌%◌, Bool, true, false, ◌&&◌, ◌==◌, bytes_eq, nat_eq, nat_le, codes}
use Rattle.std.specs.Prelude.{if◌then◌else◌, List, [], length, not, Option, Some, None, option_and_then}
use Rattle.std.specs.Prelude.{option_map, unwrap_or}
use Rattle.std.specs.Borrow.{Bor}
use Rattle.std.specs.List.{after_first, before_first, list_all, position_or_len, starts_with}
use Rattle.std.specs.Option.{option_map_or}
use Rattle.clap.specs.Matches.{first_value, matched_of, raw_values}
use Rattle.clap.specs.declared.parser.matches.Found.{Found}
use Rattle.clap.specs.declared.parser.matches.ValueSource.{ValueSource}
use Rattle.clap.specs.declared.parser.matches.ValueSource.TheVariants.{CommandLine}
use Rattle.stm_words.specs.declared.range.Range.{Range}
use Rattle.stm_words.specs.Number.{hex_number, is_hex_digit, number_of_digits, word_number}

-- the flag was given
abbrev pub has : Found → List ℕ → Bool
has given id = option_map_or (λ word. bytes_eq word (codes "true")) (first_value given id) false

-- the word that was given reads so; there is no value just where none was given
abbrev pub Gives : {A : Type 0} → (List ℕ → Option A) → Found → List ℕ → Option A → Type 0
Gives read given id value = option_map read (first_value given id) ≡ option_map Some value

-- the same, where 0 stands for a word that wasn't given
abbrev pub GivesOrZero : (List ℕ → Option ℕ) → Found → List ℕ → ℕ → Type 0
GivesOrZero read given id n = option_map_or read (first_value given id) (Some 0) ≡ Some n

-- this is the word that was given, or there is none
abbrev pub NamesText : Found → List ℕ → Option (Bor (List ℕ)) → Type 0
NamesText given id text = first_value given id ≡ option_map (λ s. s.now) text

-- all words that were given under this id
abbrev pub texts_of : Found → List ℕ → List (List ℕ)
texts_of given id = unwrap_or (option_map raw_values (matched_of given id)) []

abbrev pub is_from_words : Option ValueSource → Bool
is_from_words (Some CommandLine) = true
is_from_words _ = false

-- the value of this id is a word, and does not stand for one
abbrev pub is_word : Found → List ℕ → Bool
is_word given id = is_from_words (option_and_then (λ a. a.source) (matched_of given id))

-- the same text, where it counts
abbrev pub NamesWhere : Bool → Found → List ℕ → Option (Bor (List ℕ)) → Type 0
NamesWhere true given id text = NamesText given id text
NamesWhere false given id text = text ≡ None

-- the board: a word that says that none is wanted goes before the environment
abbrev pub NamesBoard : Found → Option (Bor (List ℕ)) → Type 0
NamesBoard given = NamesWhere
    (not (has given (codes "no-board") && not (is_word given (codes "board")))) given (codes "board")

-- a number from 1 to a limit
abbrev pub number_to : ℕ → List ℕ → Option ℕ
number_to limit word = option_and_then
    (λ n. if nat_le 1 n && nat_le n limit then Some n else None) (word_number word)

-- what stands before the first byte c of a text, and what behind it
abbrev pub cut_at : ℕ → List ℕ → Option (List ℕ × List ℕ)
cut_at c text = if position_or_len (λ b. b == c) text == length text then None
    else Some (before_first (λ b. b == c) text, after_first (λ b. b == c) text)

-- the part of a flash that `START` names, which goes to its end, or `START:LENGTH`
abbrev pub range_between : List ℕ → Option (List ℕ × List ℕ) → Option Range
range_between word None =
    option_map (λ start. record { start = start; length = None }) (word_number word)
range_between word (Some parts) = option_and_then (λ start. option_map
    (λ n. record { start = start; length = Some n }) (word_number parts.1)) (word_number parts.0)

abbrev pub range_of : List ℕ → Option Range
range_of word = range_between word (cut_at 58 word)

-- the part begins at a word of 4 bytes, and has whole words where it has a length
abbrev pub is_whole_words : Range → Bool
is_whole_words range = range.start % 4 == 0 && unwrap_or range.length 0 % 4 == 0

abbrev pub word_range_of : List ℕ → Option Range
word_range_of word = option_and_then
    (λ range. if is_whole_words range then Some range else None) (range_of word)

-- the id of a chip, in four hexadecimal digits
abbrev pub chip_id_of : List ℕ → Option ℕ
chip_id_of text = if length text == 4 then hex_number text else None

-- the id and the file of `ID:FILE`
abbrev pub simulator_of : Option (List ℕ × List ℕ) → Option (ℕ × List ℕ)
simulator_of None = None
simulator_of (Some parts) = if length parts.1 == 0 then None
    else option_map {U = ℕ × List ℕ} (λ id. (id, parts.1)) (chip_id_of parts.0)

-- the word begins as one of a simulator in the process does
abbrev pub is_of_simulator : List ℕ → Bool
is_of_simulator word = starts_with nat_eq word (codes "sim:")

abbrev pub is_octal_digit : ℕ → Bool
is_octal_digit c = nat_le 48 c && nat_le c 55

-- the mode of a file, in 1 to 3 octal digits
abbrev pub mode_of : List ℕ → Option ℕ
mode_of text =
    if nat_le 1 (length text) && nat_le (length text) 3 && list_all is_octal_digit text
    then Some (number_of_digits 8 text) else None

-- 1 to 64 hexadecimal digits, of either case, which name a board
abbrev pub are_board_digits : List ℕ → Bool
are_board_digits text =
    nat_le 1 (length text) && nat_le (length text) 64 && list_all is_hex_digit text

-- the digits of 8 to 32 bytes, which are a device's unique id
abbrev pub are_unique_digits : List ℕ → Bool
are_unique_digits text =
    nat_le 16 (length text) && (length text % 2 == 0) && are_board_digits text
