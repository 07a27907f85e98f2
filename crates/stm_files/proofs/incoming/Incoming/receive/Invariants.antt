use Rattle.std.proofs.Common.{◌≡◌, []}
use Rattle.std.specs.Io.KnownBytes.{Keeps}
use Rattle.stm_files.proofs.incoming.Incoming.receive.Given as goal

abbrev pub invariant-loop : goal.invariant-loop
invariant-loop g l = (l.self ≡ []) × g.S.Timed.waits l.stream l.fn.millis
    × Keeps (g.S.Read.remaining l.fn.stream) (g.S.Read.remaining l.stream)
