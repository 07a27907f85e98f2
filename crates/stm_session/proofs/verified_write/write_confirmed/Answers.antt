use Rattle.std.proofs.Common.{rules, ◌*◌, ◌∷◌, []}
use Rattle.stm_session.specs.declared.command.Command.TheVariants as command
use Rattle.stm_session.proofs.Names.{AreBegun, IsWrittenAndSeen, most_of_command, outcomes_told_by, written_then}
use Rattle.stm_session.proofs.ConfirmedCommands.{confirm_fails, confirm_then}
use Rattle.stm_session.proofs.verified_write.write_confirmed.Goals as goal

pub returns-in_err-confirm : goal.returns-in_err-confirm
returns-in_err-confirm g c =
    let V = g.R.Rig.view in
    let chip = c.args.chip.now in
    let l = c.args.journal.now in
    let image = c.args.image.now in
    let said = c.in_err-confirm.ensures in (
      image,
      record {
        among = λ p held. held;
        counts = search rules;
        does = confirm_fails c.step_laws.ensures chip (command.Write image ∷ (command.Verify image ∷ [])) (2 * most_of_command) (λ said last. IsWrittenAndSeen chip image image said l.state last) (λ fault. AreBegun fault chip (written_then image image) l.state) (λ fault. ⊥)
            l l (V c.args.rig.now) (V c.confirm.new.rig) c.from_residual.result outcomes_told_by c.requires.finished (g.met.R.Rig.model c.args.rig.now) c.in_err-confirm.field-0.0 c.from_residual.ensures.1 said.puts said.stops said.named said.honest (search rules) (λ none. cc);
      },
    )

pub returns : goal.returns
returns g c =
    let V = g.R.Rig.view in
    let chip = c.args.chip.now in
    let l = c.args.journal.now in
    let image = c.args.image.now in
    let said = c.in_ok-confirm.ensures in
    let part = c.write_then_verify.ensures.0 in
    let writes = c.write_then_verify.ensures.1 in (
      part,
      record {
        among = writes.among;
        counts = writes.counts;
        does = confirm_then c.step_laws.ensures chip (command.Write image ∷ (command.Verify part ∷ [])) (2 * most_of_command) (λ said last. IsWrittenAndSeen chip image part said l.state last) (λ fault. AreBegun fault chip (written_then image part) l.state) (λ fault. ⊥)
            l c.write_then_verify.new.journal (V c.args.rig.now) (V c.confirm.new.rig) c.write_then_verify.result outcomes_told_by c.requires.finished (g.met.R.Rig.model c.args.rig.now) (V c.write_then_verify.new.rig) said.puts said.order said.honest said.cause writes.does;
      },
    )
