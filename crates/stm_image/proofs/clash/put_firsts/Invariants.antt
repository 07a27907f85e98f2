use Rattle.std.proofs.Common.{◌≤◌, length, drop}
use Rattle.stm_image.specs.Pieces.{pairs_at}
use Rattle.stm_image.proofs.Clashing.{IsPutDown}
use Rattle.stm_image.proofs.clash.put_firsts.Given as goal

-- the pieces from here on are put over the set, the first of them last
abbrev pub invariant-pieces : goal.invariant-pieces
invariant-pieces l = record {
  within : l.left ≤ length l.list;
  down : IsPutDown l.set (pairs_at l.bytes l.list) (pairs_at l.bytes (drop l.left l.list));
}

abbrev pub decreases-pieces : goal.decreases-pieces
decreases-pieces l = l.left
