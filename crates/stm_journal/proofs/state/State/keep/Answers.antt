use Rattle.stm_journal.proofs.Pages.{IsSound-kept}
use Rattle.stm_journal.proofs.state.State.keep.Goals as goal
use Rattle.stm_journal.proofs.state.State.keep.Goals.{in-Some, in-None}

pub invariant_of-self : goal.invariant_of-self
invariant_of-self c = elim c.match-self.branch [
  | in-Some w ↦ rw w.self-inside-is (
    tt,
    IsSound-kept w.keep.result c.args.self.now c.self.inside.header c.self.inside.newest w.in-Some.newest w.keep.new.self c.self.inside.below.items c.args.kept
        c.self.view_is w.in-Some.is c.requires c.self.invariant.1 w.keep.ensures.ok w.keep.ensures.err,
  )
  | in-None w ↦ rw w.self-inside-is c.self.invariant
]
