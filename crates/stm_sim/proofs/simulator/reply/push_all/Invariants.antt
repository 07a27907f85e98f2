use Rattle.std.proofs.Common.{◌≡◌, ◌+◌, ◌++◌, take}
use Rattle.std.specs.VecDeque.{deque_len, deque_capacity}
use Rattle.stm_sim.proofs.simulator.reply.push_all.Given as goal

abbrev pub invariant-loop-byte : goal.invariant-loop-byte
invariant-loop-byte l =
    (l.owed.items ≡ l.fn.owed.items ++ take l.byte-index l.bytes)
    × (deque_len l.owed ≡ deque_len l.fn.owed + l.byte-index)
    × (deque_capacity l.owed ≡ deque_capacity l.fn.owed)
