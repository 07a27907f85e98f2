-- How far back an undo goes, by the journal as it is before it, and which of the segments that it
-- undoes had changed nothing: the journal keeps no page of theirs.
use Rattle.std.specs.Prelude.{◌≡◌, ◌⊎◌, ◌+◌, ◌-◌, ◌==◌, ◌<◌, ◌≤◌, ℕ, Bool, true, false, List}
use Rattle.std.specs.Prelude.{Result, Err, MatchResult}
use Rattle.std.specs.List.{filter, range_with_len}
use Rattle.stm_wire.specs.Dialogue.{GoesOn}
use Rattle.stm_wire.specs.Rig.{RigState}
use Rattle.stm_journal.specs.declared.fault.JournalFault.{JournalFault}
use Rattle.stm_journal.specs.Calls.{AreFetches, HasJournalCause, Loads}
use Rattle.stm_journal.specs.Journals.{Loaded}
use Rattle.stm_journal.specs.KeptPlaces.{kept_count}
use Rattle.stm_journal.specs.States.{StateData, depth}
use Rattle.stm_session.specs.declared.fault.Fault.{Fault}
use Rattle.stm_session.specs.declared.fault.Fault.TheVariants.{Memory}
use Rattle.stm_session.specs.Fault.{fault_of_journal}
use Rattle.stm_session.specs.Undoes.{taken_count}
use Rattle.stm_words.specs.declared.extent.Extent.{Extent}
use Rattle.stm_words.specs.declared.extent.Extent.TheVariants.{Newest, ToChange}
use Rattle.stm_work.specs.declared.action.Action.{Action}
use Rattle.stm_work.specs.declared.action.Action.TheVariants as action
use Rattle.stm_work.specs.declared.answer.Answer.{Answer}
use Rattle.stm_work.specs.declared.answer.Answer.TheVariants as answer
use Rattle.stm_work.specs.declared.way_back.WayBack.{WayBack}

-- The oldest of the newest segments, so many, changed something, and none of the newer ones did. So it
-- is the least number of which that is so; or all, where none but the oldest of all may have. Segment k
-- is the oldest of so many as k and their number come to one more than there are.
pub record IsToChange (s : StateData) (count : ℕ) : Type 0 where
  pub within : count ≤ depth s
  pub newer : (k : ℕ) → depth s + 1 < k + count → k ≤ depth s → kept_count s k ≡ 0
  pub oldest : (count ≡ depth s) ⊎ ((k : ℕ) × (k + count ≡ depth s + 1) × (0 < kept_count s k))

-- how many of the newest segments an undo takes that goes back so far
abbrev pub IsCount : Extent → StateData → ℕ → Type 0
IsCount (Newest count) s taken = taken ≡ taken_count count (depth s)
IsCount ToChange s taken = IsToChange s taken

-- those of these segments that changed nothing, by their numbers
abbrev pub unchanged_in : StateData → List ℕ → List ℕ
unchanged_in s = filter (λ k. kept_count s k == 0)

-- the same of the segments above the oldest, so many, the oldest first
abbrev pub unchanged_above : StateData → ℕ → List ℕ
unchanged_above s left = unchanged_in s (range_with_len (left + 1) (depth s - left))

-- what a journal says of an undo that goes back so far
pub record IsWayBack (extent : Extent) (s : StateData) (way : WayBack) : Type 0 where
  pub count : IsCount extent s way.count
  pub left : way.left ≡ depth s - way.count
  pub unchanged : way.unchanged.items ≡ unchanged_above s way.left

-- The journal of a Rig says it, which is read, and nothing more.
pub record FindsWay (extent : Extent) (old new : RigState) (found : Result WayBack Fault) : Type 0
  where
    pub journal : Result Loaded JournalFault
    pub quiet : GoesOn AreFetches old.calls new.calls
    pub cause : HasJournalCause old new journal
    pub loads : old.is_honest → Loads old new journal
    pub is : MatchResult journal
        (λ l. MatchResult found (IsWayBack extent l.state) (λ fault. fault ≡ Memory))
        (λ fault. found ≡ Err (fault_of_journal fault))

-- the undo of so many, verified or not
abbrev pub undo_of : ℕ → Bool → Action
undo_of count true = action.UndoVerified count
undo_of count false = action.Undo count

-- the answer of the undo, with what the journal said before it
abbrev pub beside_way : WayBack → Answer → Answer
beside_way way (answer.Undone count bytes) = answer.UndoneBeside count bytes way.unchanged way.left
beside_way way other = other
