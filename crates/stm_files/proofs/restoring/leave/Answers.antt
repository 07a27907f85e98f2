use Rattle.std.proofs.Common.{rules}
use Rattle.stm_files.specs.lemmas.SimulatorFileLaws.{gone}
use Rattle.stm_files.proofs.restoring.leave.Goals as goal

pub returns : goal.returns
returns c =
    λ is. gone _ _ c.args.rig.now.device c.args.rig.now c.lengthen.new.rig c.feed.new.rig
    (c.in_ok-lengthen.ensures (search (rules, c.if-not-branch.false))) c.in_ok-feed.ensures (c.is_gone.ensures.0 is)
