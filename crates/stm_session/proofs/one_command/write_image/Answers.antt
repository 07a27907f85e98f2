use Rattle.std.proofs.Common.{refl}
use Rattle.stm_session.proofs.Names.{IsBegunBy, IsDoneBy, IsSegmentBegun, outcome_data, was_written}
use Rattle.stm_session.specs.declared.change.Change.TheVariants as change
use Rattle.stm_session.proofs.OneCommands.{change_broken, change_made}
use Rattle.stm_session.specs.Meaning.{writes}
use Rattle.stm_session.proofs.CutShort.{part_stops}
use Rattle.stm_session.proofs.one_command.write_image.Goals as goal

pub returns-in_err-segment-clause-honest : goal.returns-in_err-segment-clause-honest
returns-in_err-segment-clause-honest g c flashes steady chip =
    let V = g.R.Rig.view in
    change_broken flashes (change.Write c.args.image) c.args.chip.now c.args.journal.now c.change_flash.new.journal (V c.args.rig.now) (V c.change_flash.new.rig) refl chip outcome_data _ c.from_residual.result
    (c.in_err-segment.ensures.honest flashes steady chip) c.from_residual.ensures.1

pub returns-clause-honest : goal.returns-clause-honest
returns-clause-honest g c flashes steady chip =
    let V = g.R.Rig.view in
    change_made flashes (change.Write c.args.image) c.args.chip.now c.args.journal.now c.change_flash.new.journal (V c.args.rig.now) (V c.change_flash.new.rig) refl chip
    c.in_ok-segment.segment c.in_ok-segment.pages _ (λ s p. was_written s p) steady c.in_ok-segment.ensures.number (c.in_ok-segment.ensures.honest flashes steady chip) refl refl

pub returns-clause-order : goal.returns-clause-order
returns-clause-order g c =
    let done = c.in_ok-segment.ensures.order in
    let by : IsDoneBy c.args.chip.now (writes c.args.image.now) c.args.journal.now.state done.0 = (change.Write c.args.image, refl, done.1.0) in
    (done.0, ((by, tt), done.1.1), done.2)

pub returns-in_err-segment-clause-stops : goal.returns-in_err-segment-clause-stops
returns-in_err-segment-clause-stops g c =
    let V = g.R.Rig.view in
    let chip = c.args.chip.now in
    let s = c.args.journal.now.state in
    part_stops (IsSegmentBegun chip (change.Write c.args.image) s) (IsBegunBy chip (writes c.args.image.now) s) c.args.journal.now.is_torn (V c.args.rig.now) (V c.change_flash.new.rig) _ c.from_residual.result c.from_residual.ensures.1
    (λ xs begun. (change.Write c.args.image, refl, begun)) c.in_err-segment.ensures.stops
