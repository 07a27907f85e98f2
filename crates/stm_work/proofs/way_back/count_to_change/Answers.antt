use Rattle.std.proofs.Common.{◌-◌, arith}
use Rattle.stm_work.proofs.way_back.count_to_change.Goals as goal

pub loop-newer-init : goal.loop-newer-init
loop-newer-init c = λ k above within. absurd (omega (arith, above, within))
