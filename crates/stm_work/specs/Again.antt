-- How a write is done again whose line or protocol failed: which acts there were, one behind the
-- other, each with its answer.
--
-- The journal is read, and the write is done. Where it failed by its line or its protocol, the
-- journal is read once more, and just the segments that came since are undone. Where that
-- answered Ok the same write is done once more; an undo that failed by its line or its protocol
-- is tried again in the next turn. Each turn is told, and there are so many at the most. What failed
-- otherwise ends it; behind a failure it is told what stands.
use Rattle.std.specs.Prelude.{◌≡◌, ℕ, ◌+◌, ◌≤◌, ◌⊎◌, true, false, List, [], ◌∷◌, ◌++◌}
use Rattle.std.specs.Prelude.{Option, Some, None, Result, Ok, Err, IfOk}
use Rattle.stm_work.specs.declared.failure.Failure.{Failure}
use Rattle.stm_work.specs.declared.failure.Failure.TheVariants.{Memory}
use Rattle.stm_work.specs.declared.left_standing.Standing.{Standing}
use Rattle.stm_work.specs.declared.steps.Steps.{Steps}
use Rattle.stm_work.specs.declared.work.Work.{Work}
use Rattle.stm_work.specs.BrokenOff.{is_broken_off}
use Rattle.stm_work.specs.LeftStanding.{begun_since}
use Rattle.stm_work.specs.Action.{IsDoneAgain}

-- one act, and what it answered
pub data Act : Type 0 where
  -- what the journal says was read
  Read : Result Standing Failure → Act
  -- a work was done once, with what follows it
  Attempted : Work → Result Steps Failure → Act
  -- the newest segments were undone, so many
  Undone : ℕ → Result ℕ Failure → Act
  -- it was told that this turn of so many is done, by which failure, and what was undone
  ToldTurn : ℕ → ℕ → Failure → Result ℕ Failure → Act
  -- it was told what stands now behind what stood before
  ToldStanding : Standing → Standing → Act

-- acts lead from one state to another, one behind the other, and nothing else is done
abbrev pub LeadTo : {A : Type 0} → (Act → A → A → Type 0) → List Act → A → A → Type 0
LeadTo Does [] old new = new ≡ old
LeadTo {A} Does (act ∷ acts) old new = (mid : A) × Does act old mid × LeadTo Does acts mid new

-- Just the segments that came since are undone: none is where none came, and none of those that
-- stood before is.
pub data UndoesSince (before : Standing) : List Act → Result ℕ Failure → Type 0 where
  unread : (failure : Failure) → UndoesSince before (Read (Err failure) ∷ []) (Err failure)
  nothing : (now : Standing) → begun_since now before ≡ 0
      → UndoesSince before (Read (Ok now) ∷ []) (Ok 0)
  undone : (now : Standing) (count : ℕ) (taken : Result ℕ Failure) → 1 ≤ count
      → before.depth + count ≡ now.depth
      → UndoesSince before (Read (Ok now) ∷ Undone count taken ∷ []) taken

-- Behind an undo that answered Ok the same work is done once more; or there was no memory for
-- it, or it is none that is done again, so that its failure stays. Behind one that failed nothing
-- is done.
pub data Retries (work : Work) (failure : Failure) : Result ℕ Failure → List Act
    → Result Steps Failure → Type 0 where
  again : (count : ℕ) (same : Work) (came : Result Steps Failure) → IsDoneAgain work (Some same)
      → Retries work failure (Ok count) (Attempted same came ∷ []) came
  no_memory : (count : ℕ) → Retries work failure (Ok count) [] (Err Memory)
  not_again : (count : ℕ) → IsDoneAgain work None → Retries work failure (Ok count) [] (Err failure)
  not_taken : (why : Failure) → Retries work failure (Err why) [] (Err why)

-- One turn, behind a failure: what came since is undone, that is told, and the same work is
-- done once more.
pub record IsTurn (work : Work) (before : Standing) (turn most : ℕ) (failure : Failure)
    (acts : List Act) (came : Result Steps Failure) : Type 0 where
  pub back : List Act
  pub taken : Result ℕ Failure
  pub undoes : UndoesSince before back taken
  pub next : List Act
  pub retries : Retries work failure taken next came
  pub acts_are : acts ≡ back ++ ToldTurn turn most failure taken ∷ next

-- The work was done once, and so many turns followed, each behind a failure of its line or its
-- protocol: which acts there were, and what came of the last.
pub data Turns (work : Work) (before : Standing) (most : ℕ) : ℕ → List Act
    → Result Steps Failure → Type 0 where
  first : (same : Work) (came : Result Steps Failure) → IsDoneAgain work (Some same)
      → Turns work before most 0 (Attempted same came ∷ []) came
  more : (turn : ℕ) (acts next : List Act) (failure : Failure) (came : Result Steps Failure)
      → Turns work before most turn acts (Err failure) → is_broken_off failure ≡ true
      → IsTurn work before (turn + 1) most failure next came
      → Turns work before most (turn + 1) (acts ++ next) came

-- No turn follows: all is done, or the failure is another, or there were as many as there may be.
abbrev pub IsLast : ℕ → ℕ → Result Steps Failure → Type 0
IsLast most turns (Ok steps) = Unit {0}
IsLast most turns (Err failure) = (turns ≡ most) ⊎ (is_broken_off failure ≡ false)

-- The work was done, and behind each failure of its line or its protocol a turn followed, until
-- none may follow.
pub record InTurns {A : Type 0} (Does : Act → A → A → Type 0) (work : Work) (before : Standing)
    (most : ℕ) (old new : A) (came : Result Steps Failure) : Type 0 where
  pub acts : List Act
  pub lead : LeadTo Does acts old new
  pub turns : ℕ
  pub done : Turns work before most turns acts came
  pub within : turns ≤ most
  pub last : IsLast most turns came

-- behind a failure it is told what stands, where the journal can be read
pub data TellsStanding (before : Standing) : List Act → Result Steps Failure → Type 0 where
  nothing : (steps : Steps) → TellsStanding before [] (Ok steps)
  told : (failure : Failure) (now : Standing)
      → TellsStanding before (Read (Ok now) ∷ ToldStanding before now ∷ []) (Err failure)
  unread : (failure why : Failure) → TellsStanding before (Read (Err why) ∷ []) (Err failure)

-- All acts, and the answer.
pub data AreActsDone (work : Work) (most : ℕ) : List Act → Result Steps Failure → Type 0 where
  unread : (failure : Failure) → AreActsDone work most (Read (Err failure) ∷ []) (Err failure)
  no_memory : (before : Standing) → AreActsDone work most (Read (Ok before) ∷ []) (Err Memory)
  -- what isn't done again is done once
  once : (before : Standing) (came : Result Steps Failure) → IsDoneAgain work None
      → AreActsDone work most (Read (Ok before) ∷ Attempted work came ∷ []) came
  in_turns : (before : Standing) (turns : ℕ) (acts tells : List Act) (came : Result Steps Failure)
      → Turns work before most turns acts came → turns ≤ most → IsLast most turns came
      → TellsStanding before tells came
      → AreActsDone work most (Read (Ok before) ∷ acts ++ tells) came

-- how many attempts there were
abbrev pub attempts : List Act → ℕ
attempts [] = 0
attempts (Attempted work came ∷ acts) = attempts acts + 1
attempts (act ∷ acts) = attempts acts

-- what the last attempt answered, where there was this one before
abbrev pub last_behind : Option (Result Steps Failure) → List Act → Option (Result Steps Failure)
last_behind last [] = last
last_behind last (Attempted work came ∷ acts) = last_behind (Some came) acts
last_behind last (act ∷ acts) = last_behind last acts

-- What was done, and what that comes to.
pub record DoesAgain {A : Type 0} (Does : Act → A → A → Type 0) (work : Work) (most : ℕ)
    (old new : A) (came : Result Steps Failure) : Type 0 where
  pub acts : List Act
  pub lead : LeadTo Does acts old new
  pub done : AreActsDone work most acts came
  -- there were so many attempts at the most
  pub few : attempts acts ≤ most + 1
  -- at Ok the last of them answered just this
  pub ok : IfOk came (λ steps. last_behind None acts ≡ Some (Ok steps))
