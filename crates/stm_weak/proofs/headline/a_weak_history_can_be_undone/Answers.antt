use Rattle.stm_weak.proofs.Heading.{weak_headline, weak_sessions}
use Rattle.stm_weak.proofs.headline.a_weak_history_can_be_undone.Goals as goal

pub returns : goal.returns
returns g c = record {
  undone = weak_headline g.R.Rig.view c.weak_pages_are_at_work.ensures.heal
      c.a_session_can_be_undone.ensures.whole;
  sessions = weak_sessions g.R.Rig.view c.weak_pages_are_at_work.ensures.heal;
}
