use Rattle.stm_watch.proofs.Passing.{put-done}
use Rattle.stm_watch.proofs.watch_rig.WatchRigRig.put.Goals as goal

pub returns-in-Ok-clause-honest : goal.returns-in-Ok-clause-honest
returns-in-Ok-clause-honest g c =
    let rig = c.args.self.now in
    put-done c.args.byte c.put-answer.result c.in-Ok.field-0 rig.watch c.feed.new.self rig.refusal
    rig.line_failures rig.journal_failures (g.R.Rig.view rig.inner) (g.R.Rig.view
    c.put-answer.new.self)
    c.in-Ok.is c.put-answer.ensures.honest c.feed.ensures
