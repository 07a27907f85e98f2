-- Which chip tables are read where neither a word nor a variable names one.
use Rattle.std.specs.Prelude.{◌≡◌, ◌⊎◌, ◌++◌, ℕ, List, [], ◌∷◌, codes}
use Rattle.std.specs.Prelude.{Err, IfSome, None, Ok, Option, Result, Some}
use Rattle.std.specs.Borrow.{Bor}
use Rattle.std.specs.declared.alloc.AllocError.{AllocError}
use Rattle.stmflash.specs.declared.variable.Variable.{Variable}
use Rattle.stmflash.specs.Variable.{folder_of}

-- in the folder of what users set, by the variable that names it, or else by the user's own folder
abbrev pub IsInFolder : Result (Option (List ℕ)) AllocError
    → Result (Option (List ℕ)) AllocError → Option (List ℕ) → Type 0
IsInFolder (Ok (Some folder)) home name = name ≡ Some (folder ++ codes "/stmflash/chips.toml")
IsInFolder (Ok None) (Ok (Some home)) name =
    name ≡ Some (home ++ codes "/.config/stmflash/chips.toml")
IsInFolder (Ok None) (Ok None) name = name ≡ None
IsInFolder (Ok None) (Err fault) name = ⊥
IsInFolder (Err fault) home name = ⊥

-- the name of the user's own table
abbrev pub IsUsersName : Variable → Variable → Option (List ℕ) → Type 0
IsUsersName config_home home name = IsInFolder (folder_of config_home) (folder_of home) name

-- this name
abbrev pub IsNamed : List ℕ → Bor (List ℕ) → Type 0
IsNamed name found = found.now ≡ name

-- an installed table
abbrev pub IsInstalled : Bor (List ℕ) → Type 0
IsInstalled found = IsNamed (codes "/usr/local/share/stmflash/chips.toml") found
    ⊎ IsNamed (codes "/usr/share/stmflash/chips.toml") found

-- a name that there may be
abbrev pub listed : Option (Bor (List ℕ)) → List (Bor (List ℕ))
listed (Some name) = name ∷ []
listed None = []

-- the user's, where there is a name of it
abbrev pub IsUsers : Option (List ℕ) → Option (Bor (List ℕ)) → Type 0
IsUsers (Some name) own = IfSome own (IsNamed name)
IsUsers None own = own ≡ None

-- The installed one, the machine's and the user's, in this order, each of which may be left out.
abbrev pub AreStanding : Option (List ℕ) → List (Bor (List ℕ)) → Type 0
AreStanding users names = (installed machines own : Option (Bor (List ℕ)))
    × IfSome installed IsInstalled
    × IfSome machines (IsNamed (codes "/etc/stmflash/chips.toml"))
    × IsUsers users own
    × (names ≡ listed installed ++ listed machines ++ listed own)
