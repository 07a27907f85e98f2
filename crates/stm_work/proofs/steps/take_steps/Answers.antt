use Rattle.stm_work.proofs.WholeCalls.{writes-as-asked}
use Rattle.stm_work.proofs.steps.take_steps.Goals as goal

pub returns-clause-ends : goal.returns-clause-ends
returns-clause-ends g c =
    writes-as-asked g.L.Rig.view c.a_whole_call_ends_as_asked.ensures _ _ _ _ _ _ _
    c.ask_and_take.ensures
