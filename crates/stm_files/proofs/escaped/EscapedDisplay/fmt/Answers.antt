use Rattle.std.proofs.Common.{refl, rules}
use Rattle.stm_files.proofs.Escaping.{displays}
use Rattle.stm_files.proofs.escaped.EscapedDisplay.fmt.Goals as goal

pub returns-clause-writes : goal.returns-clause-writes
returns-clause-writes g c =
    displays g.W.Write.write_str_gives (λ s. s.to.ghost_name) (λ s. s.to.now) (g.T.Display.output c.args.self.now.0) _ _ _ _ c.write.result refl (search rules) c.write.ensures.writes
