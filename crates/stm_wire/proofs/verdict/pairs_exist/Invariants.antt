use Rattle.std.proofs.Common.{◌≡◌, length}
use Rattle.stm_wire.proofs.Names.{all_exist, two_byte_numbers}
use Rattle.stm_wire.proofs.verdict.pairs_exist.Given as goal

abbrev pub invariant-loop-rest : goal.invariant-loop-rest
invariant-loop-rest l = all_exist l.chip (two_byte_numbers l.bytes) ≡ all_exist l.chip (two_byte_numbers l.rest)

abbrev pub decreases-loop-rest : goal.decreases-loop-rest
decreases-loop-rest l = length l.rest
