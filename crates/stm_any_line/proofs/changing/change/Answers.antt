use Rattle.stm_session.proofs.Names.{commands_in, RunsInOrder, RunStops}
use Rattle.stm_any_line.specs.Calls.{RunTracks}
use Rattle.stm_any_line.proofs.Answering.{either_way, own_of}
use Rattle.stm_any_line.proofs.changing.change.Goals as goal

pub returns : goal.returns
returns g c =
    let V = g.R.Rig.view in
    let table = c.args.table.now in
    let commands = commands_in c.args.commands.now in
    let old = c.args.rig.now in
    let new = c.run.new.rig in
    let law = c.a_run_keeps_pages_as_they_were_read.ensures in
    let tracks : RunTracks (V old) (V new) =
    either_way c.run.result (RunsInOrder table commands (V old) (V new)) (RunTracks (V old) (V new))
    (RunStops table commands (V old) (V new)) c.run.ensures.order c.run.ensures.stops
    (λ ran calls before made.
    (ran.chip, ran.journal.is_torn, law.done table commands old new calls before ran made))
    (λ fault stop calls before made.
    let own = own_of table commands (V old) (V new) fault stop in (
      own.chip,
      own.journal.is_torn,
      law.stopped table commands old new fault calls before own.chip own.journal stop own.own made,
    ))
    in
    record { tracks = tracks }
