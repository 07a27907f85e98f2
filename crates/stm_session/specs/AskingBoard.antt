-- Which board a device is, how that is asked, on any line, and what it does to a device that
-- follows the model.
use Rattle.std.specs.Prelude.{◌≡◌, ◌⊎◌, ℕ, ◌+◌, ◌*◌, Bool, true, false, ◌==◌, ◌||◌, get_or}
use Rattle.std.specs.Prelude.{if◌then◌else◌, List, [], ◌∷◌, ◌++◌, Option, Some, None}
use Rattle.std.specs.Prelude.{option_map, Result, IfErr, IfOk}
use Rattle.std.specs.List.{list_all}
use Rattle.stm_wire.specs.declared.places.BoardPlaces.{BoardPlaces}
use Rattle.stm_wire.specs.declared.places.UniquePlace.{UniquePlace}
use Rattle.stm_wire.specs.Call.{Call}
use Rattle.stm_wire.specs.Chip.{ChipData}
use Rattle.stm_wire.specs.Device.{IsSettled}
use Rattle.stm_wire.specs.Dialogue.{GoesOn}
use Rattle.stm_wire.specs.Frames.{get_id_turns, get_turns}
use Rattle.stm_wire.specs.Parts.{AreFew}
use Rattle.stm_wire.specs.Places.{no_places}
use Rattle.stm_wire.specs.Rig.{RigState}
use Rattle.stm_journal.specs.Calls.{AreFetches}
use Rattle.stm_journal.specs.Journals.{Loaded, IsLoaded}
use Rattle.stm_journal.specs.States.{intent_of, is_unfinished}
use Rattle.stm_chip.specs.Document.{IsChipWith}
use Rattle.stm_session.specs.declared.asking_board.Board.{Board}
use Rattle.stm_session.specs.declared.fault.Fault.{Fault}
use Rattle.stm_session.specs.Asking.{Asks}
use Rattle.stm_session.specs.Fault.{Cause, HasSessionCause, IsOfTalking, IsOfLine, cause_of}
use Rattle.stm_session.specs.Fresh.{Way, byte_of, contact_way, limit_of, settling_way}
use Rattle.stm_session.specs.Order.{Step, AreCutShort, Begin, IsInOrder, Sends, FaultEnds, acts_of}
use Rattle.stm_session.specs.Reaching.{IsAsked, SettlesFirst, SettlesThen}
use Rattle.stm_session.specs.Refusal.{chip_with}
use Rattle.stm_session.specs.Unasked.{unasked_refusal}
use Rattle.stm_session.specs.Unwritten.{AppendsNothing}
use Rattle.stm_wire.specs.Settling.{SettlesWithin}

-- What came of a place, and what that tells:

-- FF alone, or 00 alone: nobody has written there
abbrev pub is_unwritten : List ℕ → Bool
is_unwritten bytes = list_all (λ byte. byte == 0xFF) bytes || list_all (λ byte. byte == 0) bytes

-- the bytes that came, or none where the device refused
abbrev pub came_in : Bool → List ℕ → Option (List ℕ)
came_in true bytes = Some bytes
came_in false bytes = None

-- a unique id: these bytes, or none
abbrev pub unique_told : Option (List ℕ) → List ℕ
unique_told None = []
unique_told (Some bytes) = if is_unwritten bytes then [] else bytes

-- how many KiB: the number of two bytes, the lower one first; not 0, nor FFFF
abbrev pub size_in : ℕ → Option ℕ
size_in kib = if kib == 0 || kib == 0xFFFF then None else Some kib

abbrev pub size_told : Option (List ℕ) → Option ℕ
size_told None = None
size_told (Some bytes) = size_in (get_or bytes 0 0 + 256 * get_or bytes 1 0)

-- The steps:

-- the place of a unique id is asked once, where it is known, and tells this
abbrev pub AsksUnique : Option UniquePlace → List ℕ → List Step → Type 0
AsksUnique None unique steps = (steps ≡ []) × (unique ≡ [])
AsksUnique (Some place) unique steps = (came : Option (List ℕ))
    × IsAsked place.address place.length came steps × (unique ≡ unique_told came)

-- and so is the place of the size
abbrev pub AsksSize : Option ℕ → Option ℕ → List Step → Type 0
AsksSize None size steps = (steps ≡ []) × (size ≡ None)
AsksSize (Some address) size steps = (came : Option (List ℕ))
    × IsAsked address 2 came steps × (size ≡ size_told came)

-- where a chip tells its board
abbrev pub places_of : Option ChipData → BoardPlaces
places_of None = no_places
places_of (Some chip) = chip.places

-- where a device with this id does, by the table
abbrev pub places_in : List ChipData → ℕ → BoardPlaces
places_in table id = places_of (chip_with table id)

-- Get, Get ID, and the places of the table's chip with that id; this is what came.
pub record IsAnswered (table : List ChipData) (board : Board) (steps : List Step) : Type 0 where
  pub version : ℕ
  pub codes : List ℕ
  pub high : ℕ
  pub low : ℕ
  pub id : board.id ≡ 256 * high + low
  pub first : List Step
  pub unique : AsksUnique (places_in table board.id).unique board.unique first
  pub second : List Step
  pub size : AsksSize (places_in table board.id).size board.size second
  pub is : steps ≡ (Sends (get_turns version codes) ∷ Sends (get_id_turns high low) ∷ [])
      ++ (first ++ second)

-- whatever came
abbrev pub AsksBoard : List ChipData → List Step → Type 0
AsksBoard table steps = (board : Board) × IsAnswered table board steps

-- A settled device is asked: nothing is appended, and so many bytes are put and got at most; at Ok
-- the steps are those that tell this, a fault is of the line and ends a beginning of such; and of a
-- device that follows the model this is told.
pub record AsksSettled {T : Type 0} (most : ℕ) (Asked : T → List Step → Type 0) (Told : T → Type 0)
    (old new : RigState) (result : Result T Fault) : Type 0 where
  pub unwritten : GoesOn AppendsNothing old.calls new.calls
  pub cause : HasSessionCause old new result
  pub few : GoesOn (AreFew most) old.calls new.calls
  pub order : (torn : Bool) → IfOk result (λ told. (steps : List Step) × Asked told steps
      × GoesOn (IsInOrder torn steps) old.calls new.calls)
  pub stops : (torn : Bool)
      → FaultEnds (Begin (λ steps. (told : T) × Asked told steps)) torn old new result
  pub sent : IfErr result IsOfLine
  pub kept : old.is_honest → new.journal ≡ old.journal
  pub honest : old.is_honest → IsSettled old.device → Asks old new result Told

-- How the device is settled, by the journal: where that is finished, with 7F; else by the journal's
-- intent, as one of the chip that it names, of which a board may be the journal's.
pub data IsWayOf (table : List ChipData) (l : Loaded) (way : Way) : Type 0 where
  finished : is_unfinished l.state ≡ false → way ≡ contact_way → IsWayOf table l way
  unfinished : (chip : ChipData) → is_unfinished l.state ≡ true → IsChipWith table chip.id chip
      → option_map (λ header. header.id) l.state.header ≡ Some chip.id
      → unasked_refusal chip l.state ≡ None
      → way ≡ settling_way chip.kind l.is_greeted (intent_of l.state)
      → IsWayOf table l way

-- A journal was loaded, and the device is settled so.
pub record AsksForBoard (table : List ChipData) (old : RigState) (Does : Way → Bool → Type 0)
    : Type 0 where
  pub journal : Loaded
  pub loaded : old.is_honest → IsLoaded journal old.journal
  pub way : Way
  pub is_way : IsWayOf table journal way
  pub does : Does way journal.is_torn

-- It was settled, and asked; this was answered.
abbrev pub AnswersInOrder : List ChipData → Board → Way → Bool → RigState → RigState → Type 0
AnswersInOrder table board way torn old new = (steps : List Step) × IsAnswered table board steps
    × GoesOn (SettlesFirst way torn steps) old.calls new.calls

-- It was settled in part, which the line or the device ended; or settled, and then asked in part.
abbrev pub AsksInPart : List ChipData → Way → Cause → Bool → List Call → Type 0
AsksInPart table way cause torn calls =
    (IsOfTalking cause × SettlesWithin (byte_of way) (limit_of way) (acts_of calls))
    ⊎ SettlesThen way (AreCutShort (Begin (AsksBoard table)) cause torn) calls

-- at a fault: nothing was done but reading the journal, or that
abbrev pub AskingStops : List ChipData → RigState → RigState → Fault → Type 0
AskingStops table old new fault = GoesOn AreFetches old.calls new.calls
    ⊎ AsksForBoard table old (λ way torn.
    GoesOn (AsksInPart table way (cause_of fault) torn) old.calls new.calls)

-- puts and gets of Get, Get ID, and of reads of 32 and of 2 bytes
abbrev pub most_of_asking : ℕ
most_of_asking = 326

abbrev pub most_of_board : ℕ
most_of_board = 4100 * 131076 + most_of_asking
