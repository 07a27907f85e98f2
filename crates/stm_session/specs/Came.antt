-- What came in the reads of a verify and of a read, on any line, and what these tell of it.
use Rattle.std.specs.Prelude.{◌≡◌, ℕ, ◌+◌, List, [], ◌∷◌, ◌++◌, length, Option, Some, None}
use Rattle.stm_image.specs.Pairs.{Pairs, HasNone, IsNext}
use Rattle.stm_wire.specs.Chip.{ChipData}
use Rattle.stm_wire.specs.Frames.{read_turns}
use Rattle.stm_session.specs.Answers.{OutcomeData, was_read, first_difference}
use Rattle.stm_session.specs.Meaning.{CommandData, writes, erases, verifies, reads}
use Rattle.stm_session.specs.declared.fault.Fault.{Fault}
use Rattle.stm_session.specs.declared.fault.Fault.TheVariants as fault
use Rattle.stm_session.specs.Order.{Step, Adds, Sends}

-- Blocks are read from an address on, each behind the one before it, and none twice; what came,
-- joined, is these bytes.
abbrev pub ComeInBlocks : ℕ → List ℕ → List Step → Type 0
ComeInBlocks start bytes [] = bytes ≡ []
ComeInBlocks start bytes (Adds entries ∷ steps) = ⊥
ComeInBlocks start bytes (Sends turns ∷ steps) = (answer : List ℕ) × (later : List ℕ)
    × (turns ≡ read_turns start answer) × (bytes ≡ answer ++ later)
    × ComeInBlocks (start + length answer) later steps

-- Blocks are read from an address on to another one, each once; each begins at the next place that
-- the image names, and in each came the image's bytes.
abbrev pub AgreeInBlocks : Pairs → ℕ → ℕ → List Step → Type 0
AgreeInBlocks image from to [] = from ≡ to
AgreeInBlocks image from to (Adds entries ∷ steps) = ⊥
AgreeInBlocks image from to (Sends turns ∷ steps) = (next : ℕ × ℕ) × (answer : List ℕ)
    × IsNext image from next × (turns ≡ read_turns next.0 answer)
    × (first_difference image next.0 answer ≡ None)
    × AgreeInBlocks image (next.0 + length answer) to steps

-- and the image names no place behind them
abbrev pub AllCameAgree : Pairs → ℕ → List Step → Type 0
AllCameAgree image from steps = (to : ℕ) × HasNone image to × AgreeInBlocks image from to steps

-- or one block more was read, in which another byte came, first for this address
pub record OneDiffers (image : Pairs) (from address : ℕ) (steps : List Step) : Type 0 where
  pub to : ℕ
  pub before : List Step
  pub agree : AgreeInBlocks image from to before
  pub next : ℕ × ℕ
  pub is_next : IsNext image to next
  pub answer : List ℕ
  pub differs : first_difference image next.0 answer ≡ Some address
  pub is : steps ≡ before ++ Sends (read_turns next.0 answer) ∷ []

-- what a comparison found
abbrev pub CameFor : Pairs → ℕ → Option ℕ → List Step → Type 0
CameFor image from None steps = AllCameAgree image from steps
CameFor image from (Some address) steps = OneDiffers image from address steps

-- A fault that tells a difference tells what came, where a verify ends with it.
abbrev pub DiffersBy : ChipData → CommandData → ℕ → List Step → Type 0
DiffersBy chip (writes image) address steps = Unit {0}
DiffersBy chip (erases pages) address steps = Unit {0}
DiffersBy chip (verifies image) address steps = OneDiffers image chip.base address steps
DiffersBy chip (reads start size) address steps = Unit {0}

abbrev pub FaultTells : Fault → ChipData → CommandData → List Step → Type 0
FaultTells (fault.Differs address) chip c steps = DiffersBy chip c address steps
FaultTells _ chip c steps = Unit {0}

-- what a command tells is just that; of a write and an erase their segment tells
abbrev pub TellsWhatCame : ChipData → CommandData → OutcomeData → List Step → Type 0
TellsWhatCame chip (writes image) said steps = Unit {0}
TellsWhatCame chip (erases pages) said steps = Unit {0}
TellsWhatCame chip (verifies image) said steps = AllCameAgree image chip.base steps
TellsWhatCame chip (reads start size) said steps =
    (bytes : List ℕ) × (said ≡ was_read bytes) × ComeInBlocks start bytes steps
