-- A session that changes something has loaded a journal of its chip's board.
use Rattle.std.proofs.Common.{◌≡◌, ◌⊎◌, inl, inr, ℕ, Bool, List, sym, ◌∙◌, ap}
use Rattle.std.proofs.lemmas.Bool.{true≢false}
use Rattle.stm_wire.proofs.Names.{ChipData, GoesOn, RigState}
use Rattle.stm_journal.proofs.Names.{AreFetches, Loaded, names_other_board, StateData}
use Rattle.stm_session.proofs.Names.{CommandData, Fault, GivesBackInOrder, good_state, IsForeign, IsOfItsBoard, OnlyAsks, Returned, RunsInOrder, RunStops, Session, UndoesInOrder, UndoStopsAs}

own_session : (table : List ChipData) (old : RigState) (Does : ChipData → Loaded → Type 0) → Session table old Does → IsOfItsBoard table old
own_session table old Does x = record { journal = x.journal; loaded = x.loaded; chip = x.chip; listed = x.listed; board = x.board }

pub run_own : (table : List ChipData) (commands : List CommandData) (old new : RigState) → RunsInOrder table commands old new → IsOfItsBoard table old
run_own table commands old new runs = own_session table old _ runs

pub run_stops_own : (table : List ChipData) (commands : List CommandData) (old new : RigState) (fault : Fault) → RunStops table commands old new fault → OnlyAsks old new fault ⊎ IsOfItsBoard table old
run_stops_own table commands old new fault (inl asks) = inl asks
run_stops_own table commands old new fault (inr does) = inr (own_session table old _ does)

pub undo_own : (table : List ChipData) (taken : ℕ) (old new : RigState) → UndoesInOrder table taken old new → IsOfItsBoard table old
undo_own table taken old new does = own_session table old _ does

pub return_own : (again : Bool) (table : List ChipData) (returned : Returned) (old new : RigState) → GivesBackInOrder again table returned old new → IsOfItsBoard table old
return_own again table returned old new does = own_session table old _ does

pub undo_stops_own : (again : Bool) (table : List ChipData) (count : ℕ) (old new : RigState) (fault : Fault) → UndoStopsAs again table count old new fault → GoesOn AreFetches old.calls new.calls ⊎ IsOfItsBoard table old
undo_stops_own again table count old new fault (inl fetches) = inl fetches
undo_stops_own again table count old new fault (inr does) = inr (own_session table old _ does)

-- none is of its board that is foreign
pub foreign_none : (table : List ChipData) (old : RigState) → old.is_honest → IsForeign table old.journal → IsOfItsBoard table old → ⊥
foreign_none table old honest foreign own =
    let loaded = own.loaded honest in
    let text : loaded.text ≡ foreign.state = ap good_state (sym loaded.means ∙ foreign.means) in
    let N : StateData → Bool = λ s. names_other_board own.chip.unique s in
    true≢false (sym (ap N loaded.state ∙ ap N text ∙ foreign.others own.chip own.listed) ∙ own.board)
