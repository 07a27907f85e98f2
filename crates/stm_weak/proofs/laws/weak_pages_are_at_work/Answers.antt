use Rattle.stm_weak.proofs.Histories.{histories_heal}
use Rattle.stm_weak.proofs.laws.weak_pages_are_at_work.Goals as goal

pub returns : goal.returns
returns g c =
    record {
      heal = histories_heal c.laying_by_parts.ensures.length
          c.a_journal_of_the_chip_is_not_refused.ensures.work g.R.Rig.view;
    }
