use Rattle.std.proofs.Common.{◌∙◌, ap}
use Rattle.stmflash.proofs.DeviceUse.{begun-inner, stays-as, takes-as, tells-again}
use Rattle.stmflash.proofs.planned_session.take_on.Goals as goal

pub returns : goal.returns
returns g c =
    let inner = ap (λ x. x.inner) c.new-rig.ensures.inner ∙ c.new.ensures in
    record {
      old = c.new-rig.result;
      new = c.take_greeted-done.new.rig;
      done = c.take_greeted-done.result;
      takes = takes-as _ _ _ _ _ _ _ c.greeting_for-greeting.ensures c.take_greeted-done.ensures;
      within = inner;
      begins = begun-inner g.L.Rig.view _ _ _ _ _ _ _ c.new-rig.ensures.watch
          c.new-rig.ensures.refusal inner;
      left = stays-as g.L.Rig.view _ _ _ _ (ap (λ x. x.inner) c.into_inner-rig.ensures)
          c.note_left.ensures c.finish-rig.ensures;
      tells = tells-again _ _ _ c.done_watched-done.ensures c.failed_on-done.ensures;
    }
