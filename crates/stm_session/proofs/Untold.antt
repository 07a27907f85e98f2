-- What an undo did in order, with the bytes that the journal told for its pages, it did in order.
use Rattle.std.proofs.Common.{ℕ, Bool, inl, inr, ⊎_elim, ◌++◌, List, length}
use Rattle.stm_wire.proofs.Names.{ChipData, RigState}
use Rattle.stm_journal.proofs.Names.{intent_of, pages_of_segments, StateData}
use Rattle.stm_session.proofs.Names.{AreGivenBackTold, AreTakenAs, AreTakenWhole, AreUndoneInOrder, Begin, BeginTaking, BeginTakingTold, BeginTold, behind_confirming, cause_of, Fault}
use Rattle.stm_session.proofs.Names.{GivesBackInOrder, GivesBackTold, pages_at_work, Returned, settling_way, so_far, Step, Tells, ToldBy, UndoStopsAs, UndoStopsToldAs, untold}
use Rattle.stm_session.proofs.KeptRuns.{as_session, confirmed_as, stops_as}
use Rattle.stm_session.proofs.KeptUndoes.{undo_does_as}
use Rattle.stm_session.proofs.Misreads.{may_as}
use Rattle.stm_session.proofs.Tellings.{all_as}

untold_steps : (again : Bool) (chip : ChipData) (s : StateData) (Told : Tells) (taken : ℕ) (steps : List Step) → AreTakenAs again Told taken chip s steps → AreUndoneInOrder again taken chip s steps
untold_steps again chip s Told taken steps = all_as again chip Told untold (pages_at_work s.stack) taken (pages_of_segments s.stack) steps (λ ys page told. tt)

pub given_in_order : {R : Type 0} (view : R → RigState) (again : Bool) (table : List ChipData) (returned : Returned) (a b : RigState) → GivesBackTold view again table returned a b → GivesBackInOrder again table returned a b
given_in_order view again table returned a b =
    let Told = ToldBy view a b in
    undo_does_as table a b (AreGivenBackTold again Told returned) (AreTakenWhole again untold returned) (λ chip s steps are. (untold_steps again chip s (behind_confirming chip Told) returned.segments steps are.0, are.1))

pub stops_in_order : {R : Type 0} (view : R → RigState) (again : Bool) (table : List ChipData) (count : ℕ) (a b : RigState) (fault : Fault) → UndoStopsToldAs view again table count a b fault → UndoStopsAs again table count a b fault
stops_in_order view again table count a b fault (inl fetched) = inl fetched
stops_in_order view again table count a b fault (inr cut) =
    let Told = ToldBy view a b in
    inr (as_session table a _ _ (λ chip l sound. ⊎_elim (λ reached. inl reached)
    (λ stopped.
    let Own = behind_confirming chip Told in
    let weaker : (steps : List Step) → BeginTakingTold again Told count chip l.state steps → BeginTaking again count chip l.state steps = λ steps begun. (
      begun.0,
      begun.1,
      begun.2,
      may_as again chip (BeginTold (λ T. AreTakenAs again T begun.0 chip l.state) Own) (Begin (AreUndoneInOrder again begun.0 chip l.state))
          (λ xs own. (own.0, untold_steps again chip l.state (so_far (length xs) Own) begun.0 (xs ++ own.0) own.1)) steps begun.3,
    ) in
    inr (stops_as (settling_way chip.kind l.is_greeted (intent_of l.state)) chip.id l.is_torn _ _ (cause_of fault) a b (confirmed_as chip (BeginTakingTold again Told count chip l.state) (BeginTaking again count chip l.state) weaker) stopped))) cut)
