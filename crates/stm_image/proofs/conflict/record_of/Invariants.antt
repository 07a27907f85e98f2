use Rattle.std.proofs.Common.{ℕ, ◌≡◌, ◌≤◌, ◌+◌, List, length}
use Rattle.stm_image.specs.Text.{RecordsPrecede, all_pairs}
use Rattle.stm_image.proofs.conflict.record_of.Given as goal

-- the records so far, which have as many bytes as were counted
abbrev pub invariant-records : goal.invariant-records
invariant-records l =
    (records : List (List ℕ)) × RecordsPrecede l.text records l.rest × (l.number ≡ length records + 1) × (l.number + length l.rest ≤ length l.text + 1)
    × (length (all_pairs records) + l.left ≡ l.place)

abbrev pub decreases-records : goal.decreases-records
decreases-records l = length l.rest
