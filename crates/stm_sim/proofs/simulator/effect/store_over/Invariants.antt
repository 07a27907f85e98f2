use Rattle.std.proofs.Common.{◌≡◌}
use Rattle.stm_sim.proofs.Simulating.{stored_so_far}
use Rattle.stm_sim.proofs.simulator.effect.store_over.Given as goal

abbrev pub invariant-loop-i : goal.invariant-loop-i
invariant-loop-i l = l.part ≡ stored_so_far l.erased l.i l.fn.part l.sent
