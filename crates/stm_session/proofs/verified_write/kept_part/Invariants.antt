use Rattle.stm_session.proofs.KeptParts.{IsPartSoFar}
use Rattle.stm_session.proofs.verified_write.kept_part.Given as goal

abbrev pub invariant-loop-n : goal.invariant-loop-n
invariant-loop-n l = IsPartSoFar l.chip l.journal.state l.image l.n l.part
