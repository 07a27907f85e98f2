use Rattle.std.proofs.Common.{◌≡◌, length}
use Rattle.stm_wire.proofs.Names.{is_listed, two_byte_numbers}
use Rattle.stmflash.proofs.protections.has_pair.Given as goal

abbrev pub invariant-loop-rest : goal.invariant-loop-rest
invariant-loop-rest l = is_listed (two_byte_numbers l.pages) l.n ≡ is_listed (two_byte_numbers l.rest) l.n

abbrev pub decreases-loop-rest : goal.decreases-loop-rest
decreases-loop-rest l = length l.rest
