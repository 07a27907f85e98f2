use Rattle.std.proofs.Common.{ℕ, ◌≡◌, ◌≤◌, ◌+◌, List, length}
use Rattle.stm_image.specs.Pieces.{AllStand, pairs_in}
use Rattle.stm_image.specs.Text.{RecordsPrecede, all_pairs, form_of}
use Rattle.stm_image.specs.declared.place.Form.TheVariants.{Linear}
use Rattle.stm_image.proofs.reader.read_pieces.Given as goal

-- the records so far, and what they gave
abbrev pub invariant-records : goal.invariant-records
invariant-records l =
    (records : List (List ℕ)) × RecordsPrecede l.text records l.rest × (pairs_in l.pieces ≡ all_pairs records) × (l.form ≡ form_of (Linear 0) records)
    × (l.number ≡ length records + 1) × (l.number + length l.rest ≤ length l.text + 1) × AllStand l.pieces

abbrev pub decreases-records : goal.decreases-records
decreases-records l = length l.rest
