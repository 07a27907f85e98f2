use Rattle.std.proofs.Common.{ℕ, List, Ok, refl, subst, ap}
use Rattle.stm_session.proofs.Names.{DoesCommand, IsBegunBy, IsDoneBy, IsSegmentBegun, Outcome, outcome_data, was_erased}
use Rattle.stm_session.specs.declared.outcome.Outcome.TheVariants.{Erased}
use Rattle.stm_session.specs.Meaning.{erases}
use Rattle.stm_session.specs.declared.change.Change.TheVariants as change
use Rattle.stm_session.proofs.OneCommands.{change_broken, change_made}
use Rattle.stm_session.proofs.CutShort.{part_stops}
use Rattle.stm_session.proofs.one_command.erase_pages.Goals as goal

pub returns-in_err-segment-clause-honest : goal.returns-in_err-segment-clause-honest
returns-in_err-segment-clause-honest g c flashes steady chip =
    let V = g.R.Rig.view in
    let P : List ℕ → Type 0 = λ ns. DoesCommand flashes (erases ns) c.change_flash.new.journal (V c.args.rig.now) (V c.change_flash.new.rig) c.from_residual.result outcome_data in
    subst P c.as_slice.ensures.value
    (change_broken flashes (change.Erase c.as_slice.result) c.args.chip.now c.args.journal.now c.change_flash.new.journal (V c.args.rig.now) (V c.change_flash.new.rig) refl chip outcome_data _ c.from_residual.result
    (c.in_err-segment.ensures.honest flashes steady chip) c.from_residual.ensures.1)

pub returns-clause-honest : goal.returns-clause-honest
returns-clause-honest g c flashes steady chip =
    let V = g.R.Rig.view in
    let y : Outcome = Erased c.in_ok-segment.segment c.in_ok-segment.pages in
    let P : List ℕ → Type 0 = λ ns. DoesCommand flashes (erases ns) c.change_flash.new.journal (V c.args.rig.now) (V c.change_flash.new.rig) (Ok y) outcome_data in
    subst P c.as_slice.ensures.value
    (change_made flashes (change.Erase c.as_slice.result) c.args.chip.now c.args.journal.now c.change_flash.new.journal (V c.args.rig.now) (V c.change_flash.new.rig) refl chip
    c.in_ok-segment.segment c.in_ok-segment.pages y (λ s p. was_erased s p) steady c.in_ok-segment.ensures.number (c.in_ok-segment.ensures.honest flashes steady chip) refl refl)

pub returns-clause-order : goal.returns-clause-order
returns-clause-order g c =
    let done = c.in_ok-segment.ensures.order in
    let by : IsDoneBy c.args.chip.now (erases c.args.pages.now.items) c.args.journal.now.state done.0 = (change.Erase c.as_slice.result, ap (λ (ns : List ℕ). erases ns) c.as_slice.ensures.value, done.1.0) in
    (done.0, ((by, tt), done.1.1), done.2)

pub returns-in_err-segment-clause-stops : goal.returns-in_err-segment-clause-stops
returns-in_err-segment-clause-stops g c =
    let V = g.R.Rig.view in
    let chip = c.args.chip.now in
    let s = c.args.journal.now.state in
    part_stops (IsSegmentBegun chip (change.Erase c.as_slice.result) s) (IsBegunBy chip (erases c.args.pages.now.items) s) c.args.journal.now.is_torn (V c.args.rig.now) (V c.change_flash.new.rig) _ c.from_residual.result
    c.from_residual.ensures.1 (λ xs begun. (change.Erase c.as_slice.result, ap (λ (ns : List ℕ). erases ns) c.as_slice.ensures.value, begun)) c.in_err-segment.ensures.stops
