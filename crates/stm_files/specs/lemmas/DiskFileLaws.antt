-- A file of the system's vouches for nothing.
use Rattle.std.specs.Prelude.{ℕ, List, Option}
use Rattle.stm_disk.specs.GrowingFile.{FollowsFileModel}
use Rattle.stm_files.specs.DiskFile.{told_file}

-- it vouches for nothing
pub never_honest : (known : Option (List ℕ)) → (told_file known).is_honest
    → FollowsFileModel (told_file known)
never_honest known honest = absurd honest
