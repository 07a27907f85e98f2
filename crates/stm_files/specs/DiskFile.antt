-- A file of which nobody says that its disk follows the model.
use Rattle.std.specs.Prelude.{ℕ, List, [], Option}
use Rattle.stm_disk.specs.GrowingFile.{FileState}

-- a file that tells its bytes at the most
abbrev pub told_file : Option (List ℕ) → FileState
told_file known = record {
  is_honest = ⊥;
  seen = [];
  synced = 0;
  moment = 0;
  left_since = λ t left. Unit {0};
  known = known;
}
