use Rattle.std.proofs.Common.{◌≡◌, ◌+◌, ◌-◌, ◌<◌, ◌≤◌, ◌^◌, ◌++◌, List, ℕ, length, take}
use Rattle.stm_journal.proofs.Names.{capped, IsRead}
use Rattle.stm_journal.proofs.load.Loader.take.Given as goal

abbrev pub invariant-loop-lf : goal.invariant-loop-lf
invariant-loop-lf l = record {
  within : l.done ≤ length l.more;
  size : capped l.self.journal.size ≡ capped (l.fn.self.journal.size + l.done);
  read : (bytes : List ℕ) → IsRead l.fn.self.journal l.fn.self.tail bytes → length bytes + length l.more < 2 ^ 63 → IsRead l.self.journal l.self.tail (bytes ++ take l.done l.more);
}

abbrev pub decreases-loop-lf : goal.decreases-loop-lf
decreases-loop-lf l = length l.more - l.done
