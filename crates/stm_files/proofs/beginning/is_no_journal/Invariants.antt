use Rattle.stm_files.specs.Beginning.{ReadsTo}
use Rattle.stm_files.proofs.beginning.is_no_journal.Given as goal

abbrev pub invariant-loop : goal.invariant-loop
invariant-loop g l = ReadsTo (g.S.Read.remaining l.fn.source) (g.S.Read.remaining l.source) l.file
