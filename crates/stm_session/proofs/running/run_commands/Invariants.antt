use Rattle.stm_session.proofs.RunLoop.{IsRunSoFar}
use Rattle.stm_session.proofs.running.run_commands.Given as goal

abbrev pub invariant-loop-command : goal.invariant-loop-command
invariant-loop-command g l = IsRunSoFar l.chip l.commands l.command-index l.outcomes l.fn.journal l.journal (g.R.Rig.view l.fn.rig) (g.R.Rig.view l.rig)
