use Rattle.std.proofs.Common.{◌≡◌, ◌+◌, ◌-◌, ◌≤◌, length, drop}
use Rattle.stm_session.proofs.Names.{first_of, least_with, misfit_lines_of, segment_pages}
use Rattle.stm_session.proofs.Misfits.{below}
use Rattle.stm_session.proofs.check.misfit_line_of.Given as goal

-- the least line of all is that of the pages that are left and the least so far; the numbers that are left bound the index
abbrev pub invariant-loop-n : goal.invariant-loop-n
invariant-loop-n l =
    record {
      line : least_with l.least (misfit_lines_of (first_of l.most l.chip) (segment_pages l.journal.state l.k) (drop l.i (segment_pages l.journal.state l.k))) ≡ least_with l.fn.so_far (misfit_lines_of (first_of l.most l.chip) (segment_pages l.journal.state l.k) (segment_pages l.journal.state l.k));
      count : l.i + below 65536 (drop l.i (segment_pages l.journal.state l.k)) ≤ 65536;
    }

abbrev pub decreases-loop-n : goal.decreases-loop-n
decreases-loop-n l = length (segment_pages l.journal.state l.k) - l.i
