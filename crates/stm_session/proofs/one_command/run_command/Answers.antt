use Rattle.std.proofs.Common.{sym, subst, ap}
use Rattle.stm_session.proofs.Names.{Command, command_data, DoesCommand, FaultEnds, Follows, is_change, IsBegunBy, IsBegunTelling, IsDoneTelling, Keeping, outcome_data, StopsTelling, TellsWhatCame}
use Rattle.stm_session.specs.Meaning.{erases, writes}
use Rattle.std.specs.Prelude.{IfOk}
use Rattle.stm_session.proofs.Arrivals.{change_stops}
use Rattle.stm_session.proofs.KeptErased.{done_only, reads_kept}
use Rattle.stm_session.proofs.SentChanges.{change_puts}
use Rattle.stm_session.proofs.one_command.run_command.Goals as goal

pub returns-in-Write-clause-honest : goal.returns-in-Write-clause-honest
returns-in-Write-clause-honest g c flashes steady chip =
    let V = g.R.Rig.view in
    let P : Command → Type 0 = λ k. DoesCommand flashes (command_data k) c.write_image.new.journal (V c.args.rig.now) (V c.write_image.new.rig) c.write_image.result outcome_data in
    subst P (sym c.in-Write.is) (c.write_image.ensures.honest flashes steady chip)

pub returns-in-Erase-clause-honest : goal.returns-in-Erase-clause-honest
returns-in-Erase-clause-honest g c flashes steady chip =
    let V = g.R.Rig.view in
    let P : Command → Type 0 = λ k. DoesCommand flashes (command_data k) c.erase_pages.new.journal (V c.args.rig.now) (V c.erase_pages.new.rig) c.erase_pages.result outcome_data in
    subst P (sym c.in-Erase.is) (c.erase_pages.ensures.honest flashes steady chip)

pub returns-in-Verify-clause-honest : goal.returns-in-Verify-clause-honest
returns-in-Verify-clause-honest g c flashes steady chip =
    let V = g.R.Rig.view in
    let P : Command → Type 0 = λ k. DoesCommand flashes (command_data k) c.args.journal.now (V c.args.rig.now) (V c.verify_image.new.rig) c.verify_image.result outcome_data in
    subst P (sym c.in-Verify.is) (c.verify_image.ensures.honest flashes c.args.journal.now steady chip)

pub returns-in-Read-clause-honest : goal.returns-in-Read-clause-honest
returns-in-Read-clause-honest g c flashes steady chip =
    let V = g.R.Rig.view in
    let P : Command → Type 0 = λ k. DoesCommand flashes (command_data k) c.args.journal.now (V c.args.rig.now) (V c.read_part_of.new.rig) c.read_part_of.result outcome_data in
    subst P (sym c.in-Read.is) (c.read_part_of.ensures.honest flashes c.args.journal.now steady chip)

pub returns-in-Write-clause-order : goal.returns-in-Write-clause-order
returns-in-Write-clause-order g c =
    let V = g.R.Rig.view in
    let P : Command → Type 0 = λ k. IfOk c.write_image.result (λ said. Follows (Keeping c.write_image.new.journal.state (IsDoneTelling c.args.chip.now (command_data k) c.args.journal.now.state (outcome_data said))) c.args.journal.now c.write_image.new.journal (V c.args.rig.now) (V c.write_image.new.rig)) in
    subst P (sym c.in-Write.is) c.write_image.ensures.order

pub returns-in-Erase-clause-order : goal.returns-in-Erase-clause-order
returns-in-Erase-clause-order g c =
    let V = g.R.Rig.view in
    let P : Command → Type 0 = λ k. IfOk c.erase_pages.result (λ said. Follows (Keeping c.erase_pages.new.journal.state (IsDoneTelling c.args.chip.now (command_data k) c.args.journal.now.state (outcome_data said))) c.args.journal.now c.erase_pages.new.journal (V c.args.rig.now) (V c.erase_pages.new.rig)) in
    subst P (sym c.in-Erase.is) c.erase_pages.ensures.order

pub returns-in-Verify-clause-order : goal.returns-in-Verify-clause-order
returns-in-Verify-clause-order g c =
    let V = g.R.Rig.view in
    let P : Command → Type 0 = λ k. IfOk c.verify_image.result (λ said. Follows (Keeping c.args.journal.now.state (IsDoneTelling c.args.chip.now (command_data k) c.args.journal.now.state (outcome_data said))) c.args.journal.now c.args.journal.now (V c.args.rig.now) (V c.verify_image.new.rig)) in
    subst P (sym c.in-Verify.is) (reads_kept c.args.chip.now c.args.journal.now _ (V c.args.rig.now) (V c.verify_image.new.rig) c.verify_image.result (c.verify_image.ensures.order c.args.journal.now))

pub returns-in-Read-clause-order : goal.returns-in-Read-clause-order
returns-in-Read-clause-order g c =
    let V = g.R.Rig.view in
    let P : Command → Type 0 = λ k. IfOk c.read_part_of.result (λ said. Follows (Keeping c.args.journal.now.state (IsDoneTelling c.args.chip.now (command_data k) c.args.journal.now.state (outcome_data said))) c.args.journal.now c.args.journal.now (V c.args.rig.now) (V c.read_part_of.new.rig)) in
    subst P (sym c.in-Read.is) (reads_kept c.args.chip.now c.args.journal.now _ (V c.args.rig.now) (V c.read_part_of.new.rig) c.read_part_of.result (c.read_part_of.ensures.order c.args.journal.now))

pub returns-in-Write-clause-stops : goal.returns-in-Write-clause-stops
returns-in-Write-clause-stops g c =
    let V = g.R.Rig.view in
    let chip = c.args.chip.now in
    let l = c.args.journal.now in
    let a = V c.args.rig.now in
    let b = V c.write_image.new.rig in
    let P : Command → Type 0 = λ k. FaultEnds (IsBegunBy chip (command_data k) l.state) l.is_torn a b c.write_image.result in
    change_stops chip (command_data c.args.command.now) l.state l.is_torn a b c.write_image.result (ap (λ (k : Command). is_change (command_data k)) c.in-Write.is)
    (subst P (sym c.in-Write.is) c.write_image.ensures.stops)

pub returns-in-Erase-clause-stops : goal.returns-in-Erase-clause-stops
returns-in-Erase-clause-stops g c =
    let V = g.R.Rig.view in
    let chip = c.args.chip.now in
    let l = c.args.journal.now in
    let a = V c.args.rig.now in
    let b = V c.erase_pages.new.rig in
    let P : Command → Type 0 = λ k. FaultEnds (IsBegunBy chip (command_data k) l.state) l.is_torn a b c.erase_pages.result in
    change_stops chip (command_data c.args.command.now) l.state l.is_torn a b c.erase_pages.result (ap (λ (k : Command). is_change (command_data k)) c.in-Erase.is)
    (subst P (sym c.in-Erase.is) c.erase_pages.ensures.stops)

pub returns-in-Verify-clause-stops : goal.returns-in-Verify-clause-stops
returns-in-Verify-clause-stops g c =
    let V = g.R.Rig.view in
    let P : Command → Type 0 = λ k. StopsTelling (IsBegunTelling c.args.chip.now (command_data k) c.args.journal.now.state) c.args.journal.now.is_torn (V c.args.rig.now) (V c.verify_image.new.rig) c.verify_image.result in
    subst P (sym c.in-Verify.is) (c.verify_image.ensures.stops c.args.journal.now)

pub returns-in-Read-clause-stops : goal.returns-in-Read-clause-stops
returns-in-Read-clause-stops g c =
    let V = g.R.Rig.view in
    let P : Command → Type 0 = λ k. StopsTelling (IsBegunTelling c.args.chip.now (command_data k) c.args.journal.now.state) c.args.journal.now.is_torn (V c.args.rig.now) (V c.read_part_of.new.rig) c.read_part_of.result in
    subst P (sym c.in-Read.is) (c.read_part_of.ensures.stops c.args.journal.now)

pub returns-in-Write-clause-puts : goal.returns-in-Write-clause-puts
returns-in-Write-clause-puts g c =
    let V = g.R.Rig.view in
    let chip = c.args.chip.now in
    let image = writes c.in-Write.image in
    change_puts c.laying_by_parts.ensures.length chip c.keeps_limits.ensures.chip image (λ said. TellsWhatCame chip image (outcome_data said))
    c.args.journal.now c.write_image.new.journal (V c.args.rig.now) (V c.write_image.new.rig) c.write_image.result
    (done_only c.write_image.new.journal.state (λ said. IsDoneTelling chip image c.args.journal.now.state (outcome_data said)) c.args.journal.now c.write_image.new.journal (V c.args.rig.now) (V c.write_image.new.rig) c.write_image.result c.write_image.ensures.order)
    c.write_image.ensures.stops

pub returns-in-Erase-clause-puts : goal.returns-in-Erase-clause-puts
returns-in-Erase-clause-puts g c =
    let V = g.R.Rig.view in
    let chip = c.args.chip.now in
    let pages = erases c.in-Erase.pages.items in
    change_puts c.laying_by_parts.ensures.length chip c.keeps_limits.ensures.chip pages (λ said. TellsWhatCame chip pages (outcome_data said))
    c.args.journal.now c.erase_pages.new.journal (V c.args.rig.now) (V c.erase_pages.new.rig) c.erase_pages.result
    (done_only c.erase_pages.new.journal.state (λ said. IsDoneTelling chip pages c.args.journal.now.state (outcome_data said)) c.args.journal.now c.erase_pages.new.journal (V c.args.rig.now) (V c.erase_pages.new.rig) c.erase_pages.result c.erase_pages.ensures.order)
    c.erase_pages.ensures.stops
