use Rattle.std.proofs.Common.{◌-◌, ◌^◌, ◌<◌, length}
use Rattle.stm_files.specs.Checking.{IsCounted}
use Rattle.stm_files.proofs.checking.count_by.Given as goal

abbrev pub invariant-loop-n : goal.invariant-loop-n
invariant-loop-n g l = record {
  some : 0 < length l.buf;
  read : (g.L.Rig.view l.fn.rig).is_honest → IsCounted l.at l.tally (g.L.Rig.view l.fn.rig) (g.L.Rig.view l.rig);
}

abbrev pub decreases-loop-n : goal.decreases-loop-n
decreases-loop-n g l = 2 ^ 63 - l.at
