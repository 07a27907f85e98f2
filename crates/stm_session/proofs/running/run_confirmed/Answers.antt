use Rattle.std.proofs.Common.{rules, ◌≢◌, ◌*◌, length}
use Rattle.stm_session.specs.declared.fault.Fault.TheVariants as faults
use Rattle.stm_session.proofs.Names.{AreBegun, AreDoneInOrder, commands_in, most_of_command}
use Rattle.stm_session.proofs.ConfirmedCommands.{confirm_fails, confirm_then}
use Rattle.stm_session.proofs.Confirmings.{is_no_memory}
use Rattle.stm_session.proofs.Reaching.{at_fault}
use Rattle.stm_session.proofs.running.run_confirmed.Goals as goal

pub returns-in_err-confirm : goal.returns-in_err-confirm
returns-in_err-confirm g c =
    let V = g.R.Rig.view in
    let chip = c.args.chip.now in
    let l = c.args.journal.now in
    let cs = commands_in c.args.commands.now in
    let said = c.in_err-confirm.ensures in
    let is = c.from_residual.ensures.1 in
    confirm_fails c.step_laws.ensures chip c.args.commands.now (length c.args.commands.now * most_of_command) (λ said last. AreDoneInOrder chip cs said l.state last) (λ fault. AreBegun fault chip cs l.state) (λ fault. fault ≢ faults.Memory)
    l l (V c.args.rig.now) (V c.confirm.new.rig) c.from_residual.result (λ outcomes. outcomes.items) c.requires.finished (g.met.R.Rig.model c.args.rig.now) c.in_err-confirm.field-0.0 is said.puts said.stops said.named said.honest (search rules)
    (λ none. at_fault (λ e. e ≢ faults.Memory) _ c.from_residual.result is (is_no_memory _ said.named))

pub returns : goal.returns
returns g c =
    let V = g.R.Rig.view in
    let chip = c.args.chip.now in
    let l = c.args.journal.now in
    let cs = commands_in c.args.commands.now in
    let said = c.in_ok-confirm.ensures in
    confirm_then c.step_laws.ensures chip c.args.commands.now (length c.args.commands.now * most_of_command) (λ said last. AreDoneInOrder chip cs said l.state last) (λ fault. AreBegun fault chip cs l.state) (λ fault. fault ≢ faults.Memory)
    l c.run_commands.new.journal (V c.args.rig.now) (V c.confirm.new.rig) c.run_commands.result (λ outcomes. outcomes.items) c.requires.finished (g.met.R.Rig.model c.args.rig.now) (V c.run_commands.new.rig) said.puts said.order said.honest said.cause c.run_commands.ensures
