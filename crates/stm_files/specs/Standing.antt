-- Where a simulator stands between two runs, and the line of its file that says so: `fresh`,
-- `idle`, `gone`, or `rest` and the bytes since the last verdict as upper-case digits, at
-- least one byte; then LF.
use Rattle.std.specs.Prelude.{ℕ, ◌-◌, Bool, true, false, ◌&&◌, ◌||◌, nat_le, nat_lt, if◌then◌else◌}
use Rattle.std.specs.Prelude.{List, [], ◌∷◌, ◌++◌, length, take, drop, codes, bytes_eq, Option}
use Rattle.std.specs.Prelude.{Some, None, option_map, option_and_then}
use Rattle.std.specs.List.{list_all}
use Rattle.std.specs.Result.{result_ok}
use Rattle.hex.specs.Hex.{decode_of, encode_upper}
use Rattle.stm_wire.specs.Device.{Phase, Fresh, Connected, Gone}
use Rattle.stm_files.specs.declared.standing.Standing.{Standing}
use Rattle.stm_files.specs.declared.standing.Standing.TheVariants.{Fresh as StandsFresh}
use Rattle.stm_files.specs.declared.standing.Standing.TheVariants.{Connected as StandsConnected}
use Rattle.stm_files.specs.declared.standing.Standing.TheVariants.{Gone as StandsGone}

abbrev pub standing_phase : Standing → Phase
standing_phase StandsFresh = Fresh
standing_phase (StandsConnected rest) = Connected rest.items
standing_phase StandsGone = Gone

-- of a device that is gone, or else connected with this rest, or else fresh
abbrev pub phase_from : Bool → Option (List ℕ) → Phase
phase_from true rest = Gone
phase_from false None = Fresh
phase_from false (Some rest) = Connected rest

abbrev pub is_upper_hex : ℕ → Bool
is_upper_hex c = (nat_le 48 c && nat_le c 57) || (nat_le 65 c && nat_le c 70)

abbrev pub are_upper_pairs : List ℕ → Bool
are_upper_pairs digits = nat_lt 0 (length digits) && list_all is_upper_hex digits

abbrev pub rest_of_digits : List ℕ → Option Phase
rest_of_digits digits =
    if are_upper_pairs digits then option_map Connected (result_ok (decode_of digits)) else None

-- what follows the word, where the text begins with it
abbrev pub behind_word : List ℕ → List ℕ → Option (List ℕ)
behind_word word text =
    if bytes_eq (take (length word) text) word then Some (drop (length word) text) else None

-- what stands before the last byte, where that is LF
abbrev pub before_end : List ℕ → Option (List ℕ)
before_end text =
    if bytes_eq (drop (length text - 1) text) (10 ∷ [])
    then Some (take (length text - 1) text) else None

-- what a line says, if it says anything
abbrev pub standing_of : List ℕ → Option Phase
standing_of line =
    if bytes_eq line (codes "fresh" ++ 10 ∷ []) then Some Fresh
    else (if bytes_eq line (codes "idle" ++ 10 ∷ []) then Some (Connected [])
    else (if bytes_eq line (codes "gone" ++ 10 ∷ []) then Some Gone
    else option_and_then (λ words. option_and_then rest_of_digits (behind_word (codes "rest ") words))
    (before_end line)))

-- the line that says it
abbrev pub standing_line : Phase → List ℕ
standing_line Fresh = codes "fresh" ++ 10 ∷ []
standing_line (Connected []) = codes "idle" ++ 10 ∷ []
standing_line (Connected (byte ∷ rest)) = codes "rest " ++ encode_upper (byte ∷ rest) ++ 10 ∷ []
standing_line Gone = codes "gone" ++ 10 ∷ []
