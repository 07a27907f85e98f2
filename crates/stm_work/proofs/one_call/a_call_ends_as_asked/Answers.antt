use Rattle.stm_work.proofs.OneCall.{calls-end-as-asked}
use Rattle.stm_work.proofs.one_call.a_call_ends_as_asked.Goals as goal

pub returns : goal.returns
returns g c =
    calls-end-as-asked g.L.Rig.view (record {
      model = g.met.L.Rig.model;
      unrefused = c.an_unrefused_journal_can_be_undone.ensures.run;
      ready = c.a_ready_device_can_begin.ensures.safe;
      long = c.laying_by_parts.ensures.length;
      laid = c.laying_keeps_places.ensures.each;
    })
