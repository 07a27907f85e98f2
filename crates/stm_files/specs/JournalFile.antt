-- The file of a journal, as contracts see it.
use Rattle.std.specs.Prelude.{◌≡◌, ◌⊎◌, ◌||◌, ℕ, List, [], Option, Some, None, Bool, true, false, OnOk, Result}
use Rattle.std.specs.Prelude.{option_map}
use Rattle.stm_files.specs.Locks.{HeldFile, IsHeld, IsHeldIfThere}
use Rattle.stm_files.specs.PageSeal.{AppendsSealed, names_board}
use Rattle.stm_files.specs.declared.journal_file.Writing.{Writing}
use Rattle.stm_files.specs.declared.journal_file.Writing.TheVariants.{Unopened, Open, Failed}

pub record JournalBytes : Type 0 where
  -- the bytes that the file holds, where its runtime tells them; the system's tells nothing
  pub known : Option (List ℕ)
  -- an append failed, so that nothing is known of the file's end, and nothing more is added
  pub has_failed : Bool
  -- the bytes that reads will give from here on, where the runtime tells them; a file
  -- that isn't there has none
  pub ahead : Option (List ℕ)
  -- whether the system gave a lock on the file; none where the file isn't there
  pub lock : Option Bool
  -- it was said that no other program has the file, so that it needs no lock
  pub without_lock : Bool
  -- it names its board, so that behind each page that is added stands the line of its CRC
  pub names_board : Bool

-- what reads of a file will give, where there is one
abbrev pub ahead_of : Option HeldFile → Option (List ℕ)
ahead_of None = Some []
ahead_of (Some file) = file.ahead

-- whether it is locked, where there is one
abbrev pub lock_of : Option HeldFile → Option Bool
lock_of = option_map (λ file. file.is_locked)

-- the bytes of an open file, where it tells them
abbrev pub known_bytes : {F : Type 0} → (F → Option (List ℕ)) → Writing F → Option (List ℕ)
known_bytes contents Unopened = None
known_bytes contents (Open file) = contents file
known_bytes contents Failed = None

abbrev pub is_failed : {F : Type 0} → Writing F → Bool
is_failed Unopened = false
is_failed (Open file) = false
is_failed Failed = true

-- nothing was added to it yet, and no other program has it, if it's there
pub record IsNew (without_lock : Bool) (journal : JournalBytes) : Type 0 where
  pub known : journal.known ≡ None
  pub has_failed : journal.has_failed ≡ false
  pub held : IsHeldIfThere without_lock journal.lock

-- An append answers Ok only where the file took just these bytes and what seals them, none failed
-- before, and no other program has the file.
pub record AppendsIfTaken {E : Type 0} (bytes : List ℕ) (result : Result (Unit {0}) E)
    (old new : JournalBytes) : Type 0 where
  pub added : OnOk result (AppendsSealed new.names_board old.known new.known bytes)
  pub board : OnOk result (new.names_board ≡ (old.names_board || names_board bytes))
  pub ok : OnOk result ((old.has_failed ≡ false) × (new.has_failed ≡ false))
  pub held : OnOk result (IsHeld old.without_lock new.lock)

-- Void lines were added, and all that was known holds still; or nothing was; or that failed, and nothing more
-- is added.
abbrev pub IsNoted : List ℕ → JournalBytes → JournalBytes → Type 0
IsNoted lines old new =
    (new.has_failed ≡ true) ⊎ ((new ≡ old) ⊎ AppendsSealed new.names_board old.known new.known lines)
