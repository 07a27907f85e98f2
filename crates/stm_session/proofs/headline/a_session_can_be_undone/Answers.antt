use Rattle.stm_session.proofs.Histories.{can-follow, headline}
use Rattle.stm_session.proofs.RunHistories.{Laws}
use Rattle.stm_session.proofs.Whole.{all-undone, writes-whole}
use Rattle.stm_session.proofs.headline.a_session_can_be_undone.Given.{Over}
use Rattle.stm_session.proofs.headline.a_session_can_be_undone.Goals.{After-asking_keeps_what_can_be_undone}
use Rattle.stm_session.proofs.headline.a_session_can_be_undone.Goals as goal

-- the laws that were called
laws : (g : Over) → After-asking_keeps_what_can_be_undone g → Laws
laws g c =
    record {
      loses = c.lost_bytes_keep_what_can_be_undone.ensures;
      resets = c.a_reset_keeps_what_can_be_undone.ensures;
      loses_power = c.a_power_loss_keeps_what_can_be_undone.ensures.undoable;
      loses_nothing = c.a_power_loss_keeps_what_can_be_undone.ensures.finished;
      safe = c.asking_keeps_what_can_be_undone.ensures.safe;
      unbegun = c.asking_keeps_what_can_be_undone.ensures.undoable;
      empties = c.a_ready_device_can_begin.ensures.empty;
      sound = c.a_journal_is_sound.ensures;
    }

pub returns-clause-headline : goal.returns-clause-headline
returns-clause-headline g c =
    let at = goal.at.returns-clause-headline g c in
    headline (laws g at.After-asking_keeps_what_can_be_undone) g.R.Rig.view

pub returns-clause-whole : goal.returns-clause-whole
returns-clause-whole g c =
    let at = goal.at.returns-clause-whole g c in
    all-undone (laws g at.After-asking_keeps_what_can_be_undone) g.R.Rig.view

pub returns-clause-writes : goal.returns-clause-writes
returns-clause-writes g c =
    let at = goal.at.returns-clause-writes g c in
    writes-whole (laws g at.After-asking_keeps_what_can_be_undone) g.R.Rig.view

pub returns-clause-follows : goal.returns-clause-follows
returns-clause-follows g c =
    let at = goal.at.returns-clause-follows g c in
    can-follow (laws g at.After-asking_keeps_what_can_be_undone) g.R.Rig.view
