use Rattle.std.proofs.Common.{true, false}
use Rattle.stm_session.proofs.Foreign.{foreign_none, return_own, run_own, run_stops_own, undo_own, undo_stops_own}
use Rattle.stm_session.proofs.laws.a_session_changes_only_its_own_board.Goals as goal

pub returns-clause-run : goal.returns-clause-run
returns-clause-run g c table commands old new does = let V = g.R.Rig.view in run_own table commands (V old) (V new) does

pub returns-clause-run_stops : goal.returns-clause-run_stops
returns-clause-run_stops g c table commands old new fault stops = let V = g.R.Rig.view in run_stops_own table commands (V old) (V new) fault stops

pub returns-clause-undo : goal.returns-clause-undo
returns-clause-undo g c table taken old new does = let V = g.R.Rig.view in undo_own table taken (V old) (V new) does

pub returns-clause-undo_stops : goal.returns-clause-undo_stops
returns-clause-undo_stops g c table count old new fault stops = let V = g.R.Rig.view in undo_stops_own false table count (V old) (V new) fault stops

pub returns-clause-verified : goal.returns-clause-verified
returns-clause-verified g c table returned old new does = let V = g.R.Rig.view in return_own true table returned (V old) (V new) does

pub returns-clause-verified_stops : goal.returns-clause-verified_stops
returns-clause-verified_stops g c table count old new fault stops = let V = g.R.Rig.view in undo_stops_own true table count (V old) (V new) fault stops

pub returns-clause-foreign : goal.returns-clause-foreign
returns-clause-foreign g c table old honest foreign own = let V = g.R.Rig.view in foreign_none table (V old) honest foreign own
