-- Whose a file is, and who else may write it.
use Rattle.std.specs.Prelude.{◌&&◌, ◌||◌, ◌==◌, ◌/◌, ◌%◌, Bool, ℕ, None, Option, Some, not}
use Rattle.std.specs.Prelude.{if◌then◌else◌}
use Rattle.stm_files.specs.declared.owners.Doubt.{Doubt}
use Rattle.stm_files.specs.declared.owners.Doubt.TheVariants.{Owner, Writable}
use Rattle.stm_files.specs.declared.owners.Rights.{Rights}
use Rattle.stm_files.specs.declared.owners.Users.{Users}

-- root, who runs the program, or who called sudo for it
abbrev pub is_ours : Users → ℕ → Bool
is_ours users user = (user == 0) || (user == users.own) || (user == users.caller)

-- whether a mode has a bit, a power of 2
abbrev pub has_bit : ℕ → ℕ → Bool
has_bit mode bit = mode / bit % 2 == 1

-- a group that has its user's number, or one of ours, is one user's alone
abbrev pub is_private : Users → Rights → Bool
is_private users file = (file.group == file.user) || is_ours users file.group

-- bit 2: all may write it; bit 16: its group may
abbrev pub may_others_write : Users → Rights → Bool
may_others_write users file =
    has_bit file.mode 2 || (has_bit file.mode 16 && not (is_private users file))

-- bit 512, sticky: a file is replaced by its own user alone
abbrev pub is_replaceable : Users → Rights → Bool
is_replaceable users folder = may_others_write users folder && not (has_bit folder.mode 512)

-- why a file isn't used, by its own rights
abbrev pub doubt_of : Users → Rights → Option Doubt
doubt_of users file =
    if not (is_ours users file.user) then Some (Owner file.user)
    else if may_others_write users file then Some Writable
    else None
