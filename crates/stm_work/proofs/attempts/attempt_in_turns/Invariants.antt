use Rattle.std.proofs.Common.{List}
use Rattle.stm_work.specs.Again.{Act, LeadTo, Turns}
use Rattle.stm_work.proofs.attempts.attempt_in_turns.Given as goal

abbrev pub invariant-loop-turn : goal.invariant-loop-turn
invariant-loop-turn g l = (acts : List Act) × LeadTo g.A.Attempts.does acts l.fn.all l.all
    × Turns l.work l.before l.most l.turn acts l.done
