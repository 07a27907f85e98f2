-- That each byte of an image was read and was right, on any line, after the last change to its page.
use Rattle.std.specs.Prelude.{◌≡◌, ◌≢◌, ℕ, ◌+◌, ◌-◌, ◌<◌, ◌≤◌, Contains, List, ◌∷◌, ◌++◌, length}
use Rattle.std.specs.Prelude.{slice_index}
use Rattle.std.specs.List.{AllByRecursion}
use Rattle.stm_image.specs.Pairs.{Pairs}
use Rattle.stm_wire.specs.Chip.{ChipData}
use Rattle.stm_wire.specs.Frames.{read_turns}
use Rattle.stm_wire.specs.Intents.{InPage}
use Rattle.stm_wire.specs.Rig.{RigState}
use Rattle.stm_session.specs.Kept.{MaySend}
use Rattle.stm_session.specs.Order.{Step, Adds, Sends}
use Rattle.stm_session.specs.RunOrder.{RunDoes}

-- a step erases and writes no other pages than some among which this one isn't
abbrev pub SparesPage : ChipData → ℕ → Step → Type 0
SparesPage chip n (Adds entries) = Unit {0}
SparesPage chip n (Sends turns) = MaySend chip (λ m. m ≢ n) turns

-- Some block was read, in which this byte came at its place; from then on its page was left alone.
pub record IsByteSeen (chip : ChipData) (p : ℕ × ℕ) (steps : List Step) : Type 0 where
  pub page : ℕ
  pub in_page : InPage chip page p.0 1
  pub before : List Step
  pub address : ℕ
  pub answer : List ℕ
  pub from : address ≤ p.0
  pub within : p.0 < address + length answer
  pub came : slice_index answer (p.0 - address) ≡ p.1
  pub later : List Step
  pub alone : AllByRecursion (SparesPage chip page) later
  pub is : steps ≡ before ++ Sends (read_turns address answer) ∷ later

-- and so was each of an image, in one session
abbrev pub SeesImage : List ChipData → Pairs → RigState → RigState → Type 0
SeesImage table image old new = RunDoes (λ chip s steps. (p : ℕ × ℕ) → Contains image p
    → IsByteSeen chip p steps) table old new
