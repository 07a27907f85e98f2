-- What a whole call leaves at Ok, in which the device may be asked first which board it is.
use Rattle.std.specs.Prelude.{◌≡◌, Bool, true, false, List, None, Result, Ok}
use Rattle.stm_wire.specs.Chip.{ChipData}
use Rattle.stm_wire.specs.Rig.{RigState}
use Rattle.stm_chip.specs.Document.{IsChipWith}
use Rattle.stm_session.specs.AskingBoard.{places_in}
use Rattle.stm_session.specs.Moments.{IsSafe}
use Rattle.stm_session.specs.ToldBoard.{IsPartOf}
use Rattle.stm_session.specs.Undoable.{is_unfinished_at}
use Rattle.stm_words.specs.declared.sequel.Sequel.{Sequel}
use Rattle.stm_work.specs.declared.action.Action.TheVariants as action
use Rattle.stm_work.specs.declared.board.Question.{Question}
use Rattle.stm_work.specs.declared.content.Content.{Content}
use Rattle.stm_work.specs.declared.failure.Failure.{Failure}
use Rattle.stm_work.specs.declared.steps.Steps.{Steps}
use Rattle.stm_work.specs.declared.work.Work.{Work}
use Rattle.stm_work.specs.declared.work.Work.TheVariants as work
use Rattle.stm_work.specs.OneCall.{EndsAsAsked}
use Rattle.stm_work.specs.Steps.{TakesSteps}

-- What the device tells of its board makes a chip of the table its own: its kind is in the table,
-- with the places where the device tells that.
pub record SuitsBoard (table : List ChipData) (chip : ChipData) : Type 0 where
  pub listed : ChipData
  pub is : IsChipWith table chip.id listed
  pub places : places_in table chip.id ≡ chip.places
  pub part : IsPartOf listed chip

-- the table has the device's chip, or one that becomes its own once the device was asked
abbrev pub KnowsChip : Bool → List ChipData → ChipData → Type 0
KnowsChip true table chip = SuitsBoard table chip
KnowsChip false table chip = IsChipWith table chip.id chip

-- The same, with a finished journal, of a device that is asked first which board it is, or isn't.
pub record CanAsk (is_asked : Bool) (table : List ChipData) (old : RigState) : Type 0 where
  pub honest : old.is_honest
  pub safe : IsSafe old.device
  pub finished : is_unfinished_at old.journal ≡ false
  pub knows : KnowsChip is_asked table old.device.chip

-- The same of the whole call, in which the device may be asked first: its session has the table of
-- its board then.
abbrev pub WholeCallsEndAsAsked : (R : Type 0) → (R → RigState) → Type 0
WholeCallsEndAsAsked R view =
    (table : List ChipData) (question : Question) (content : Content) (sequel : Sequel)
    (old new : R) (steps : Steps)
    → CanAsk question.is_asked table (view old) → steps.failure ≡ None
    → TakesSteps view table question (work.Act (action.WriteAndVerify content)) sequel old new
    (Ok steps)
    → (own : List ChipData)
    × EndsAsAsked view own content sequel (view old).device.chip (view old).device.flash new

-- The same of one call of what is asked for: where that is a write that is verified, and it
-- answered Ok with no failure, it was done.
abbrev pub WritesAsAsked : {R : Type 0} → (R → RigState) → List ChipData → Question → Work → Sequel
    → R → R → Result Steps Failure → Type 0
WritesAsAsked view table question does sequel old new result =
    (content : Content) (steps : Steps) → does ≡ work.Act (action.WriteAndVerify content)
    → CanAsk question.is_asked table (view old) → result ≡ Ok steps
    → steps.failure ≡ None
    → (own : List ChipData)
    × EndsAsAsked view own content sequel (view old).device.chip (view old).device.flash new
