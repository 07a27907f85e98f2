use Rattle.std.proofs.Common.{◌≡◌, ◌++◌}
use Rattle.stm_files.proofs.replies.take_reply.Given as goal

abbrev pub invariant-loop : goal.invariant-loop
invariant-loop l = (l.sim ≡ record l.fn.sim { owed = l.sim.owed }) × (l.fn.reply.items ++ l.fn.sim.owed ≡ l.reply.items ++ l.sim.owed)
