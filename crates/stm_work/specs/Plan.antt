-- The plan of one use of a device, by the words and the tables of one call; and what is told of steps
-- that were taken.
use Rattle.std.specs.Prelude.{◌≡◌, ◌&&◌, ◌||◌, ℕ, Bool, true, false, not, is_none, is_some}
use Rattle.std.specs.Prelude.{List, None, Result, IfOk, MatchResult}
use Rattle.stm_wire.specs.Chip.{ChipData}
use Rattle.stm_words.specs.declared.options.Options.{Options}
use Rattle.stm_words.specs.declared.sequel.Sequel.{Sequel}
use Rattle.stm_work.specs.declared.action.Action.TheVariants as action
use Rattle.stm_work.specs.declared.board.Question.{Question}
use Rattle.stm_work.specs.declared.failure.Failure.{Failure}
use Rattle.stm_work.specs.declared.plan.Plan.{Plan}
use Rattle.stm_work.specs.declared.steps.Steps.{Steps}
use Rattle.stm_work.specs.declared.watching.Watching.{Watching}
use Rattle.stm_work.specs.declared.watching.Watching.TheVariants.{FromBoard, FromId}
use Rattle.stm_work.specs.declared.watching.Watching.TheVariants.{Not as Unwatched}
use Rattle.stm_work.specs.declared.work.Work.{Work}
use Rattle.stm_work.specs.declared.work.Work.TheVariants as work
use Rattle.stm_work.specs.ChipTables.{AreChips}

-- Go, and the protections that want a journal without segments
abbrev pub leaves : Work → Bool
leaves (work.Act (action.Go address)) = true
leaves (work.Act (action.Protect kind)) = true
leaves does = false

-- A device is asked where its chip may tell its board; before Go and a protection in any case, where
-- no board is wanted. Where it was said that it isn't asked, it never is.
abbrev pub is_asked : Options → Work → Bool → Bool
is_asked options does is_told =
    (is_told || (leaves does && is_none options.board)) && not options.without_board

-- a session begins to be watched at the question which board it is, or, where that isn't asked, at
-- the one who it is; one that is wanted and isn't asked is sent nothing
abbrev pub IsBegunAt : Bool → Bool → Watching → Type 0
IsBegunAt true is_wanted watching = watching ≡ FromBoard
IsBegunAt false true watching = watching ≡ Unwatched
IsBegunAt false false watching = (bare : List ChipData) × (watching ≡ FromId bare)

-- how it is watched, where that is asked for; else it isn't
abbrev pub IsWatching : Bool → Question → Watching → Type 0
IsWatching true question watching =
    IsBegunAt question.is_asked (is_some question.wanted) watching
IsWatching false question watching = watching ≡ Unwatched

-- What one use does: just this work and what follows it, beside the journal that the options name,
-- with the chips that the tables say; the device is asked and watched as the options say.
pub record IsUsePlan (options : Options) (texts : List (List ℕ)) (is_told : Bool) (does : Work)
    (sequel : Sequel) (plan : Plan) : Type 0 where
  pub work_is : plan.job.work ≡ does
  pub sequel_is : plan.job.sequel ≡ sequel
  pub journal_is : plan.job.journal ≡ options.journal
  pub chips_are : AreChips texts plan.table
  pub asked : plan.question.is_asked ≡ is_asked options does is_told
  pub wanted : plan.question.wanted ≡ options.board
  pub watched : IsWatching options.watches plan.question plan.watching

-- Steps that are told of those that were taken: all that they say was done is so, and where none of
-- them failed none did that was taken. Why one failed may be told otherwise.
pub record AreTold (taken told : Steps) : Type 0 where
  pub board : told.board ≡ taken.board
  pub answer : told.answer ≡ taken.answer
  pub kept : told.kept ≡ taken.kept
  pub whole : told.failure ≡ None → told ≡ taken

-- the steps of a session that answered some
abbrev pub AreToldOf : Result Steps Failure → Steps → Type 0
AreToldOf done told = MatchResult done (λ taken. AreTold taken told) (λ failure. ⊥)

-- what came of steps is told
abbrev pub TellsSteps : Result Steps Failure → Result Steps Failure → Type 0
TellsSteps done told = IfOk told (AreToldOf done)
