use Rattle.std.proofs.Common.{◌≡◌, ◌≤◌}
use Rattle.stm_wire.proofs.Names.{page_offset}
use Rattle.stm_session.proofs.reading.page_at.Given as goal

abbrev pub invariant-loop-page : goal.invariant-loop-page
invariant-loop-page l = (l.before ≡ page_offset l.chip l.page) × (l.before ≤ l.offset)
