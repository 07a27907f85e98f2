use Rattle.std.proofs.Common.{◌≡◌, ◌+◌, take}
use Rattle.stm_journal.proofs.Names.{capped}
use Rattle.stm_session.proofs.Names.{bytes_of_pages, segment_pages}
use Rattle.stm_session.proofs.returned_bytes.with_segment.Given as goal

-- the bytes of the pages so far
abbrev pub invariant-loop-i : goal.invariant-loop-i
invariant-loop-i l = l.sum ≡ capped (l.fn.bytes + bytes_of_pages l.chip (take l.i (segment_pages l.journal.state l.k)))
