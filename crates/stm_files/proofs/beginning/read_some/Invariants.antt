use Rattle.std.specs.Io.KnownBytes.{Keeps}
use Rattle.stm_files.proofs.beginning.read_some.Given as goal

abbrev pub invariant-loop : goal.invariant-loop
invariant-loop g l = Keeps (g.S.Read.remaining l.fn.source) (g.S.Read.remaining l.source)
