use Rattle.std.proofs.Common.{◌≡◌, ◌+◌, ◌-◌, vec_len}
use Rattle.stm_session.proofs.Names.{IsNotBehind}
use Rattle.stm_session.proofs.Ranges.{IsReadSoFar}
use Rattle.stm_session.proofs.reading.read_range.Given as goal

abbrev pub invariant-loop-done : goal.invariant-loop-done
invariant-loop-done g l =
    (vec_len l.bytes ≡ l.done)
    × IsReadSoFar l.chip l.start l.size l.done l.bytes.items (g.R.Rig.view l.fn.rig) (g.R.Rig.view l.rig)
    × IsNotBehind l.chip (l.start + l.done) l.place

abbrev pub decreases-loop-done : goal.decreases-loop-done
decreases-loop-done g l = l.size - l.done
