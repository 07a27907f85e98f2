-- How a session reaches a device, on any line: it settles it, asks who it is, and whether it is
-- still the board that its chip is of; and then come the steps for which it was reached.
use Rattle.std.specs.Prelude.{◌≡◌, ◌⊎◌, ℕ, ◌/◌, ◌%◌, ◌<◌, Bool, ◌==◌, false, if◌then◌else◌, List}
use Rattle.std.specs.Prelude.{[], ◌∷◌, ◌++◌, length, Option, Some, None, Result, IfErr}
use Rattle.stm_wire.specs.declared.places.UniquePlace.{UniquePlace}
use Rattle.stm_wire.specs.Call.{Call}
use Rattle.stm_wire.specs.Chip.{ChipData}
use Rattle.stm_wire.specs.Dialogue.{Turn, GoesOn}
use Rattle.stm_wire.specs.Frames.{get_id_turns, get_turns, read_turns}
use Rattle.stm_wire.specs.Refused.{IsRefusedRead}
use Rattle.stm_wire.specs.Rig.{RigState}
use Rattle.stm_wire.specs.Settling.{SettlesWithin}
use Rattle.stm_session.specs.Fresh.{EndsWell, Way, byte_of, limit_of}
use Rattle.stm_chip.specs.Document.{IsChipWith}
use Rattle.stm_journal.specs.Journals.{Loaded, IsLoaded}
use Rattle.stm_journal.specs.States.{StateData, IsSound, names_other_board}
use Rattle.stm_session.specs.declared.fault.Fault.{Fault}
use Rattle.stm_session.specs.Fault.{Cause, IsOfTalking, cause_of}
use Rattle.stm_session.specs.Order.{Step, Sends, AreCutShort, Begin, IsAfter, IsInOrder, acts_of}
use Rattle.stm_session.specs.Order.{acts_of_steps}

-- a device was settled, and it showed that it is; and then came such calls
abbrev pub SettlesThen : Way → (List Call → Type 0) → List Call → Type 0
SettlesThen way Then calls =
    (settling rest : List Call) × SettlesWithin (byte_of way) (limit_of way) settling
    × EndsWell way settling × (acts_of calls ≡ settling ++ rest) × Then rest

-- and then these steps
abbrev pub SettlesFirst : Way → Bool → List Step → List Call → Type 0
SettlesFirst way torn steps calls = SettlesThen way (λ rest. rest ≡ acts_of_steps torn steps) calls

-- which commands the device has: Get, and what it answers, whose codes are counted by one byte
pub record IsGet (steps : List Step) : Type 0 where
  pub version : ℕ
  pub codes : List ℕ
  pub few : length codes < 256
  pub is : steps ≡ Sends (get_turns version codes) ∷ []

-- what it is: Get ID, and what it answers
pub record IsGetId (steps : List Step) : Type 0 where
  pub high : ℕ
  pub low : ℕ
  pub is : steps ≡ Sends (get_id_turns high low) ∷ []

-- both
pub record IsAsking (steps : List Step) : Type 0 where
  pub first : List Step
  pub is_get : IsGet first
  pub second : List Step
  pub is_get_id : IsGetId second
  pub is : steps ≡ first ++ second

-- where it answers this number
abbrev pub id_turns : ℕ → List Turn
id_turns id = get_id_turns (id / 256) (id % 256)

abbrev pub asking_steps : ℕ → List ℕ → ℕ → List Step
asking_steps version codes id = Sends (get_turns version codes) ∷ Sends (id_turns id) ∷ []

abbrev pub AsksInOrder : ℕ → Bool → RigState → RigState → Type 0
AsksInOrder id torn old new = (version : ℕ) × (codes : List ℕ)
    × GoesOn (IsInOrder torn (asking_steps version codes id)) old.calls new.calls
    × (length codes < 256)

-- the device was settled so, and answered this number
abbrev pub ReachesInOrder : Way → ℕ → Bool → RigState → RigState → Type 0
ReachesInOrder way id torn old new = (version : ℕ) × (codes : List ℕ)
    × GoesOn (SettlesFirst way torn (asking_steps version codes id)) old.calls new.calls
    × (length codes < 256)

-- Of a session that reached no device, or was told that it is another, this was done: nothing;
-- or it was settled in part, which the line or the device ended; or it was settled, and then
-- asked, or asked in part.
abbrev pub ReachesInPart : Way → Cause → Bool → List Call → Type 0
ReachesInPart way cause torn calls =
    (acts_of calls ≡ [])
    ⊎ ((IsOfTalking cause × SettlesWithin (byte_of way) (limit_of way) (acts_of calls))
    ⊎ SettlesThen way (AreCutShort (Begin IsAsking) cause torn) calls)

abbrev pub StopsShort : {T : Type 0} → Way → Bool → RigState → RigState → Result T Fault → Type 0
StopsShort way torn old new result =
    IfErr result (λ fault. GoesOn (ReachesInPart way (cause_of fault) torn) old.calls new.calls)

-- Whether the board is still the one that the chip is of:

-- so many bytes are asked for at an address, in one frame: these come, or the device refuses
abbrev pub IsAsked : ℕ → ℕ → Option (List ℕ) → List Step → Type 0
IsAsked address count (Some bytes) steps =
    (length bytes ≡ count) × (steps ≡ Sends (read_turns address bytes) ∷ [])
IsAsked address count None steps = (frame : List ℕ) × (turns : List Turn)
    × IsRefusedRead address count frame turns × (steps ≡ Sends turns ∷ [])

-- a unique id of as many bytes as stand at its place
abbrev pub place_of_bytes : Option UniquePlace → List ℕ → Option UniquePlace
place_of_bytes None unique = None
place_of_bytes (Some place) unique = if length unique == place.length then Some place else None

-- where a device is asked once more: where it told its unique id before, which is the chip's
abbrev pub confirmed_at : ChipData → Option UniquePlace
confirmed_at chip = place_of_bytes chip.places.unique chip.unique

-- it tells just this
abbrev pub confirm_steps : Option UniquePlace → List ℕ → List Step
confirm_steps None unique = []
confirm_steps (Some place) unique = Sends (read_turns place.address unique) ∷ []

abbrev pub confirming : ChipData → List Step
confirming chip = confirm_steps (confirmed_at chip) chip.unique

-- or whatever comes
abbrev pub IsConfirming : Option UniquePlace → List Step → Type 0
IsConfirming None steps = steps ≡ []
IsConfirming (Some place) steps = (came : Option (List ℕ))
    × IsAsked place.address place.length came steps

-- Steps that are allowed behind the question, where its answer was that; else it alone, or a
-- beginning of it.
abbrev pub IsConfirmedInPart : ChipData → (List Step → Type 0) → List Step → Type 0
IsConfirmedInPart chip P steps =
    Begin (IsConfirming (confirmed_at chip)) steps ⊎ IsAfter (confirming chip) P steps

-- Which steps a session may do goes by its chip and by the journal's state.
abbrev pub StepsOf : Type 1
StepsOf = ChipData → StateData → List Step → Type 0

-- A device was settled so, and answered this number; and such steps were done,
abbrev pub ReachesAndDoes : Way → ℕ → Bool → (List Step → Type 0) → RigState → RigState → Type 0
ReachesAndDoes way id torn P old new = (version : ℕ) × (codes : List ℕ) × (steps : List Step)
    × P steps × GoesOn (SettlesFirst way torn (asking_steps version codes id ++ steps))
    old.calls new.calls

-- or such were broken off
abbrev pub ReachesAndStops : Way → ℕ → Bool → (List Step → Type 0) → Cause → RigState → RigState
    → Type 0
ReachesAndStops way id torn P cause old new = (version : ℕ) × (codes : List ℕ)
    × GoesOn (SettlesThen way (AreCutShort (IsAfter (asking_steps version codes id) P) cause torn))
    old.calls new.calls

-- A session loaded a journal, whose state is sound as that of each journal without a bad line, and
-- took it for one of this chip of the table, whose header names no other board; and this is so of
-- both.
pub record Session (table : List ChipData) (old : RigState)
    (Does : ChipData → Loaded → Type 0) : Type 0 where
  pub journal : Loaded
  pub loaded : old.is_honest → IsLoaded journal old.journal
  pub sound : IsSound journal.state
  pub chip : ChipData
  pub listed : IsChipWith table chip.id chip
  pub board : names_other_board chip.unique journal.state ≡ false
  pub does : Does chip journal
