use Rattle.stm_weak.proofs.Dealing.{histories_are_ordinary}
use Rattle.stm_weak.proofs.FedDealing.{fed_histories_are_ordinary}
use Rattle.stm_weak.proofs.device.a_history_is_that_of_an_ordinary_device.Goals as goal

pub returns : goal.returns
returns g c = record {
  ordinary = histories_are_ordinary g.R.Rig.view
      c.weak_pages_are_at_work.ensures.heal;
  fed = fed_histories_are_ordinary g.R.Rig.view c.weak_pages_are_at_work.ensures.heal;
}
