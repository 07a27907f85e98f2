-- How a page changes in a command: what is kept first, and the lines of it.
use Rattle.std.specs.Prelude.{◌≡◌, ◌≢◌, ℕ, Bool, true, false, ◌&&◌, ◌==◌, if◌then◌else◌, List, []}
use Rattle.std.specs.Prelude.{◌∷◌, ◌++◌, length, bytes_eq, IsTrue, Result, Vec, IfOk, vec_len}
use Rattle.std.specs.declared.alloc.Global.{Global}
use Rattle.stm_wire.specs.Chip.{ChipData, page_of, page_size}
use Rattle.stm_wire.specs.Rig.{RigState}
use Rattle.stm_journal.specs.Journals.{Loaded}
use Rattle.stm_session.specs.declared.fault.Fault.{Fault}
use Rattle.stm_session.specs.Order.{Step, Begin, DoesSteps, FaultEnds, page_reads}
use Rattle.stm_session.specs.Steps.{Goes, IsSteady}
use Rattle.stm_journal.specs.declared.entry.Entry.{Entry}
use Rattle.stm_journal.specs.declared.entry.Entry.TheVariants.{Keeps}
use Rattle.stm_journal.specs.States.{StateData, newest_is_open, newest_keeps, newest_may_keep}
use Rattle.stm_session.specs.Lines.{rewrite_entries}
use Rattle.stm_session.specs.Undoable.{has_companion}

-- page 257 is kept before page 1, where the chip has both
abbrev pub both_entries : ChipData → List ℕ → ℕ → List Entry
both_entries chip flash n =
    if n == 1 && has_companion chip
    then Keeps 257 (page_of chip flash 257) ∷ Keeps 1 (page_of chip flash 1) ∷ []
    else Keeps n (page_of chip flash n) ∷ []

-- what is kept before a page changes that was kept before, or wasn't
abbrev pub save_entries : Bool → ChipData → List ℕ → ℕ → List Entry
save_entries kept chip flash n = if kept then [] else both_entries chip flash n

-- a page is given these bytes; of one that holds them nothing is said
abbrev pub change_entries : Bool → ChipData → List ℕ → ℕ → List ℕ → List Entry
change_entries kept chip flash n page =
    if bytes_eq (page_of chip flash n) page then []
    else save_entries kept chip flash n ++ rewrite_entries chip n page

-- The newest segment, which is open, keeps page n more.
pub record HasSaved (n : ℕ) (old new : StateData) : Type 0 where
  pub depth : length new.stack ≡ length old.stack
  pub is_open : IsTrue (newest_is_open new)
  pub keeps : IsTrue (newest_keeps n new)
  pub still : (m : ℕ) → IsTrue (newest_keeps m old) → IsTrue (newest_keeps m new)
  pub free : (m : ℕ) → m ≢ n → newest_may_keep m new ≡ newest_may_keep m old

-- Page n was changed or wasn't, and was kept before that: of every other page the newest segment is
-- as it was, but for page 257 where page 1 was changed.
pub record HasTurned (kept changed : Bool) (chip : ChipData) (n : ℕ)
    (old new : StateData) : Type 0 where
  pub depth : length new.stack ≡ length old.stack
  pub is_open : IsTrue (newest_is_open old) → IsTrue (newest_is_open new)
  pub still : (m : ℕ) → IsTrue (newest_keeps m old) → IsTrue (newest_keeps m new)
  pub free : (m : ℕ) → m ≢ n → m ≢ 257 → newest_may_keep m new ≡ newest_may_keep m old
  pub companion : changed ≡ true → kept ≡ false → n ≡ 1 → IsTrue (has_companion chip)
      → IsTrue (newest_keeps 257 new)
  pub alone : n ≢ 257 → n ≢ 1 → newest_may_keep 257 new ≡ newest_may_keep 257 old
  pub keeps : changed ≡ true → IsTrue (newest_keeps n new)
  pub none : changed ≡ false → newest_may_keep 257 new ≡ newest_may_keep 257 old

-- A page is read where it is due; otherwise nothing is done.
abbrev pub reads_if : Bool → ChipData → ℕ → List ℕ → List Step
reads_if due chip n held = if due then page_reads chip n held else []

abbrev pub AreReadsIf : Bool → ChipData → ℕ → List Step → Type 0
AreReadsIf due chip n steps = (held : List ℕ) × (due ≡ true → length held ≡ page_size chip n)
    × (steps ≡ reads_if due chip n held)

pub record ReadsIf (due : Bool) (chip : ChipData) (n : ℕ) (l : Loaded) (old new : RigState)
    (result : Result (Vec ℕ Global) Fault) : Type 0 where
  pub size : IfOk result (λ held. due ≡ true → vec_len held ≡ page_size chip n)
  pub order : IfOk result (λ held. DoesSteps (reads_if due chip n held.items) l l old new)
  pub stops : FaultEnds (Begin (AreReadsIf due chip n)) l.is_torn old new result
  pub honest : (flashes : List (List ℕ)) → IsSteady flashes l old → old.device.chip ≡ chip
      → Goes flashes [] l old new result (λ held. (new.device ≡ old.device)
      × (due ≡ true → held.items ≡ page_of chip old.device.flash n))
