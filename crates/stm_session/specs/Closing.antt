-- The question behind the last frame, and before the line that ends a segment or says that it is
-- undone: whether the board is still the one that was asked first.
use Rattle.std.specs.Prelude.{◌≡◌, ◌⊎◌, ℕ, List, [], ◌∷◌, Option, Some, None}
use Rattle.stm_wire.specs.declared.places.UniquePlace.{UniquePlace}
use Rattle.stm_wire.specs.Chip.{ChipData}
use Rattle.stm_wire.specs.Dialogue.{Turn}
use Rattle.stm_wire.specs.Frames.{get_id_turns, read_turns}
use Rattle.stm_wire.specs.Refused.{IsRefusedRead}
use Rattle.stm_session.specs.Order.{Step, Begin, IsAfter, Sends}
use Rattle.stm_session.specs.Reaching.{IsConfirming, confirm_steps, confirmed_at, id_turns}

-- where it told its unique id it tells just the chip's number, and that id
abbrev pub closing_steps : Option UniquePlace → ChipData → List Step
closing_steps None chip = []
closing_steps (Some place) chip = Sends (id_turns chip.id) ∷ confirm_steps (Some place) chip.unique

abbrev pub closing : ChipData → List Step
closing chip = closing_steps (confirmed_at chip) chip

-- or whatever comes
abbrev pub IsLookedAgain : Option UniquePlace → List Step → Type 0
IsLookedAgain None steps = steps ≡ []
IsLookedAgain (Some place) steps = (high low : ℕ)
    × IsAfter (Sends (get_id_turns high low) ∷ []) (IsConfirming (Some place)) steps

-- a frame of it
pub data IsLook (place : UniquePlace) (turns : List Turn) : Type 0 where
  names : (high low : ℕ) → turns ≡ get_id_turns high low → IsLook place turns
  tells : (answer : List ℕ) → turns ≡ read_turns place.address answer → IsLook place turns
  refuses : (frame : List ℕ) → IsRefusedRead place.address place.length frame turns
      → IsLook place turns

-- Steps that are allowed behind it, where its answer was that; else it alone, or a beginning of it.
abbrev pub IsClosedInPart : ChipData → (List Step → Type 0) → List Step → Type 0
IsClosedInPart chip P steps =
    Begin (IsLookedAgain (confirmed_at chip)) steps ⊎ IsAfter (closing chip) P steps
