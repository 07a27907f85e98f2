use Rattle.stm_any_line.proofs.Histories.{history_tracks}
use Rattle.stm_any_line.proofs.laws.a_history_keeps_pages_as_they_were_read.Goals as goal

pub returns : goal.returns
returns g c =
    record { tracks = history_tracks c.laying_by_parts.ensures.length g.R.Rig.view }
