-- What an entry says of the boards that were tried.
use Rattle.std.specs.Prelude.{ℕ, Bool, false, ◌&&◌, nat_le, not, List, [], length, count_by}
use Rattle.std.specs.Prelude.{Option, None, Some, codes, option_and_then, option_map}
use Rattle.toml.specs.Data.{Data, as_array, as_bool, as_str, get}
use Rattle.stm_chip.specs.Items.{each_of}
use Rattle.stm_chip.specs.declared.tried.TriedBoard.{TriedBoard}

-- a text of 1 to 80 bytes
abbrev pub is_short_text : List ℕ → Bool
is_short_text text = nat_le 1 (length text) && nat_le (length text) 80

-- whether the text at a key is a short one
abbrev pub short_at : List ℕ → Data → Option Bool
short_at key board = option_map is_short_text (option_and_then as_str (get key board))

abbrev pub each_short : Option Bool → Option Bool → Option Bool → Option Bool → Option Bool
    → Option Bool → Option Bool
each_short (Some part) (Some version) (Some who) (Some day) (Some verdict) (Some file) =
    Some (part && version && who && day && verdict && file)
each_short _ _ _ _ _ _ = None

-- whether the texts that a board has to have are short ones
abbrev pub are_short : Data → Option Bool
are_short board =
    each_short (short_at (codes "part") board) (short_at (codes "version") board)
    (short_at (codes "who") board) (short_at (codes "when") board)
    (short_at (codes "verdict") board) (short_at (codes "file") board)

-- whether it was a simulated board: not, where the key is absent
abbrev pub simulated_of : Option Data → Option Bool
simulated_of (Some value) = as_bool value
simulated_of None = Some false

abbrev pub board_with : Bool → Bool → TriedBoard
board_with are_short is_simulated =
    record { are_short = are_short; is_simulated = is_simulated }

abbrev pub board_from : Option Bool → Option Bool → Option TriedBoard
board_from (Some are_short) (Some is_simulated) = Some (board_with are_short is_simulated)
board_from _ _ = None

-- a board that was tried
abbrev pub tried_board_of : Data → Option TriedBoard
tried_board_of board = board_from (are_short board) (simulated_of (get (codes "simulated") board))

-- the boards that were tried: an array of them, or none where the key is absent
abbrev pub tried_of : Option Data → Option (List TriedBoard)
tried_of (Some value) = option_and_then (each_of tried_board_of) (as_array value)
tried_of None = Some []

abbrev pub is_real : TriedBoard → Bool
is_real board = not board.is_simulated

-- how many of them were real boards
abbrev pub real_boards : List TriedBoard → ℕ
real_boards boards = count_by is_real boards

-- the same, where the entry has the key
abbrev pub told_boards : Option Data → List TriedBoard → Option ℕ
told_boards (Some value) boards = Some (real_boards boards)
told_boards None boards = None
