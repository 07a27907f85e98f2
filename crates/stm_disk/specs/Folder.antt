-- A name in a folder that leads to a file or to none, the lock on that file, and what programs do
-- to them. Nobody else is there: no other renames, removes or writes.
use Rattle.std.specs.Prelude.{◌≡◌, ◌⊎◌, ℕ, List, [], ◌∷◌, ◌++◌, length, Bool, true, false}
use Rattle.std.specs.Prelude.{Option, Some, None, map}
use Rattle.std.specs.Option.{option_map}
use Rattle.stm_disk.specs.Crash.{MayBeLeft}

pub record Folder : Type 0 where
  -- the name leads to a file
  pub is_there : Bool
  -- and a sync of the folder has answered since that file was made
  pub is_kept : Bool
  -- the program that holds the file's lock, of which there is one at the most
  pub holder : Option ℕ
  -- the file's bytes, and how many of them a sync of the file has answered for
  pub seen : List ℕ
  pub synced : ℕ

-- what a program does
pub data Doing : Type 0 where
  -- makes the file, where the name leads to none
  Makes : Doing
  -- is given the lock, until it lets go or ends
  Locks : Doing
  LetsGo : Doing
  SyncsFolder : Doing
  -- so many of the bytes that it wanted to add are there
  Adds : List ℕ → Doing
  SyncsFile : Doing

-- which program, by a number, does what
pub record FolderStep : Type 0 where
  pub who : ℕ
  pub doing : Doing

abbrev pub done : ℕ → Doing → Folder → Folder
done who Makes f =
    record { is_there = true; is_kept = false; holder = None; seen = []; synced = 0 }
done who Locks f = record f { holder = Some who }
done who LetsGo f = record f { holder = None }
done who SyncsFolder f = record f { is_kept = f.is_there }
done who (Adds bytes) f = record f { seen = f.seen ++ bytes }
done who SyncsFile f = record f { synced = length f.seen }

-- What the system lets happen. It gives a lock to one program at a time, and lets any program add.
abbrev pub IsLet : ℕ → Doing → Folder → Type 0
IsLet who Makes f = f.is_there ≡ false
IsLet who Locks f = (f.is_there ≡ true) × (f.holder ≡ None)
IsLet who LetsGo f = f.holder ≡ Some who
IsLet who SyncsFolder f = Unit {0}
IsLet who (Adds bytes) f = f.is_there ≡ true
IsLet who SyncsFile f = f.is_there ≡ true

-- What a program of ours keeps to: it adds where it holds the lock, and the name is kept.
abbrev pub IsCareful : ℕ → Doing → Folder → Type 0
IsCareful who Makes f = Unit {0}
IsCareful who Locks f = Unit {0}
IsCareful who LetsGo f = Unit {0}
IsCareful who SyncsFolder f = Unit {0}
IsCareful who (Adds bytes) f = (f.holder ≡ Some who) × (f.is_kept ≡ true)
IsCareful who SyncsFile f = Unit {0}

-- what the steps of several programs, in whichever order, leave
abbrev pub after : List FolderStep → Folder → Folder
after [] f = f
after (x ∷ steps) f = after steps (done x.who x.doing f)

-- they can happen, and each program keeps to it
abbrev pub CanHappen : List FolderStep → Folder → Type 0
CanHappen [] f = Unit {0}
CanHappen (x ∷ steps) f =
    (IsLet x.who x.doing f × IsCareful x.who x.doing f) × CanHappen steps (done x.who x.doing f)

-- no byte is under a name that isn't kept, or leads to no file
pub record IsEmptyUnlessKept (f : Folder) : Type 0 where
  pub unkept : f.is_kept ≡ false → f.seen ≡ []
  pub none : f.is_there ≡ false → f.seen ≡ []

abbrev pub IsStepAmong : List FolderStep → FolderStep → Type 0
IsStepAmong [] x = ⊥
IsStepAmong (y ∷ steps) x = (y ≡ x) ⊎ IsStepAmong steps x

abbrev pub folder_step : ℕ → Doing → FolderStep
folder_step who doing = record { who = who; doing = doing }

-- the same steps, all of one program
abbrev pub of_one : FolderStep → FolderStep
of_one x = record { who = 0; doing = x.doing }

abbrev pub held_by_one : Folder → Folder
held_by_one f = record f { holder = option_map (λ who. 0) f.holder }

-- Programs that keep to it are as one program that does all their steps.
abbrev pub ProgramsAreOne : Type 0
ProgramsAreOne = (steps : List FolderStep) (f : Folder) → CanHappen steps f
    → CanHappen (map of_one steps) (held_by_one f)
    × (after (map of_one steps) (held_by_one f) ≡ held_by_one (after steps f))

-- Two programs don't add in between one another's bytes: where one adds behind another, that one
-- has let go since, and this one has got the lock.
abbrev pub ProgramsTakeTurns : Type 0
ProgramsTakeTurns = (before between : List FolderStep) (p q : ℕ) (bytes more : List ℕ) (f : Folder)
    → CanHappen (before ++ folder_step p (Adds bytes) ∷ (between ++ folder_step q (Adds more) ∷ [])) f
    → (p ≡ q) ⊎ (IsStepAmong between (folder_step p LetsGo) × IsStepAmong between (folder_step q Locks))

-- Before a byte is added, that program got the lock, and where the name wasn't kept at first, the
-- folder was synced: so a file that was just made is locked, and its name stays.
abbrev pub LockedBeforeTheFirstByte : Type 0
LockedBeforeTheFirstByte = (before : List FolderStep) (who : ℕ) (bytes : List ℕ) (f : Folder)
    → f.holder ≡ None → CanHappen (before ++ folder_step who (Adds bytes) ∷ []) f
    → IsStepAmong before (folder_step who Locks)
    × ((f.is_kept ≡ true) ⊎ ((other : ℕ) × IsStepAmong before (folder_step other SyncsFolder)))

-- what a crash of the PC leaves: of a name that isn't kept perhaps none
abbrev pub MayBeFound : Folder → Option (List ℕ) → Type 0
MayBeFound f None = f.is_kept ≡ false
MayBeFound f (Some left) = (f.is_there ≡ true) × MayBeLeft f.synced f.seen left

-- A crash at any moment leaves the file, or one that has no byte, under its name or not.
abbrev pub UnkeptIsEmpty : Type 0
UnkeptIsEmpty = (steps : List FolderStep) (f : Folder) (found : Option (List ℕ))
    → IsEmptyUnlessKept f → CanHappen steps f → MayBeFound (after steps f) found
    → (((after steps f).is_kept ≡ true)
    × ((left : List ℕ) × (found ≡ Some left)
    × MayBeLeft (after steps f).synced (after steps f).seen left))
    ⊎ ((found ≡ None) ⊎ (found ≡ Some []))
