-- Which journals may be kept for good.
use Rattle.std.specs.Prelude.{◌≡◌, ◌-◌, ℕ, List, Some, None, false}
use Rattle.stm_journal.specs.Journals.{journal_of, good}
use Rattle.stm_journal.specs.States.{StateData, depth, is_unfinished}
use Rattle.stm_work.specs.declared.answer.Answer.{Answer}
use Rattle.stm_work.specs.declared.answer.Answer.TheVariants as answer

-- The journal is good, no write or erase of it is unfinished, and it has so many of them: the
-- newest is ended, with no page at work, and those below it always are.
pub record IsFinished (journal : List ℕ) (count : ℕ) : Type 0 where
  pub state : StateData
  pub means : journal_of journal ≡ good state
  pub ended : is_unfinished state ≡ false
  pub count_is : depth state ≡ count

-- a journal was given up, none of whose writes and erases is unfinished; so many it had
pub record IsGivenUp (state : StateData) (told : Answer) : Type 0 where
  pub ended : is_unfinished state ≡ false
  pub count : told ≡ answer.Kept (depth state) None

-- and it was given up but for the newest, so many, which can be undone
pub record IsCutTo (last : ℕ) (state : StateData) (told : Answer) : Type 0 where
  pub ended : is_unfinished state ≡ false
  pub count : told ≡ answer.Kept (depth state - last) (Some (depth state - (depth state - last)))
