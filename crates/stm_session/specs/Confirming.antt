-- What a device tells that is asked for its unique id once more.
use Rattle.std.specs.Prelude.{◌≡◌, ℕ, ◌==◌, Bool, true, false, List, [], ◌∷◌, length, Some}
use Rattle.stm_wire.specs.declared.places.UniquePlace.{UniquePlace}
use Rattle.stm_wire.specs.Chip.{ChipData}
use Rattle.stm_wire.specs.Dialogue.{GoesOn}
use Rattle.stm_wire.specs.Frames.{read_turns}
use Rattle.stm_wire.specs.Rig.{RigState}
use Rattle.stm_session.specs.Order.{Step, IsInOrder, Sends}
use Rattle.stm_session.specs.Reaching.{IsConfirming}

-- on any line: just this number came; or else whatever came
abbrev pub TellsAgain : Bool → UniquePlace → List ℕ → Bool → RigState → RigState → Type 0
TellsAgain true place unique torn old new =
    GoesOn (IsInOrder torn (Sends (read_turns place.address unique) ∷ [])) old.calls new.calls
TellsAgain false place unique torn old new = (steps : List Step)
    × IsConfirming (Some place) steps × GoesOn (IsInOrder torn steps) old.calls new.calls

-- a device of this chip has this number at this place
pub record HasAgain (place : UniquePlace) (unique : List ℕ) (chip : ChipData) : Type 0 where
  pub known : chip.places.unique ≡ Some place
  pub has : chip.unique ≡ unique
  pub long : (length unique == place.length) ≡ true
