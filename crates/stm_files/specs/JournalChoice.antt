-- By which of a folder's journals a device is begun with, before it has told which board it is.
use Rattle.std.specs.Prelude.{ℕ, Bool, ◌==◌, not, if◌then◌else◌, List, length}
use Rattle.std.specs.List.{list_any}
use Rattle.stm_files.specs.declared.journal_choice.Looked.{Looked}
use Rattle.stm_files.specs.declared.journal_choice.Choice.{Choice}
use Rattle.stm_files.specs.declared.journal_choice.Choice.TheVariants.{Ask, Connect, Refuse, Take}

-- a journal of these is unfinished
abbrev pub has_unfinished : List Looked → Bool
has_unfinished looked = list_any (λ one. one.is_unfinished) looked

-- A device is settled with 7F where no journal of the folder is unfinished, or where it is said to
-- be fresh from reset; else only as the board that is wanted, all of whose digits were said, by that
-- one's own journal.
abbrev pub chosen : List Looked → List ℕ → Bool → Choice
chosen looked wanted is_fresh =
    if has_unfinished looked
    then if not (length wanted == 0) then Take else if is_fresh then Connect else Refuse
    else Ask
