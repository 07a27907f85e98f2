use Rattle.std.proofs.Common.{◌≡◌}
use Rattle.stm_journal.proofs.Names.{capped, pages_of_segments}
use Rattle.stm_session.proofs.Names.{kept_bytes}
use Rattle.stm_session.proofs.returned_bytes.kept_bytes.Given as goal

-- the bytes of the segments so far
abbrev pub invariant-loop-newer : goal.invariant-loop-newer
invariant-loop-newer l = l.sum ≡ capped (kept_bytes l.chip l.newer (pages_of_segments l.journal.state.stack))
