use Rattle.std.proofs.Common.{◌≡◌, ◌++◌, drop}
use Rattle.stm_session.proofs.Names.{first_of, header_misfits, least, least_with, misfit_lines}
use Rattle.stm_session.proofs.check.misfit_line.Given as goal

-- the least line of all is that of the segments that are left and the least so far
abbrev pub invariant-loop-newer : goal.invariant-loop-newer
invariant-loop-newer l = least_with l.least (misfit_lines (first_of l.most l.chip) (drop l.newer l.journal.state.stack)) ≡ least (header_misfits (first_of l.most l.chip) l.journal.state.header ++ misfit_lines (first_of l.most l.chip) l.journal.state.stack)
