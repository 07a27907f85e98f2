use Rattle.stm_session.proofs.Names.{AreBegun, AreDoneInOrder, AreDoneSomehow, Command, commands_in, contact_way, Fault, is_whole, most_of_command, most_of_confirming, most_of_reaching, most_of_run}
use Rattle.stm_session.proofs.Names.{outcome_data, outcomes_in, RunStops, SendsAsRun}
use Rattle.std.proofs.Common.{◌≡◌, ◌≢◌, ◌+◌, ◌*◌, [], List, ◌∷◌, Bool, None, Some, length, map, true, arith, refl, inl}
use Rattle.stm_wire.specs.lemmas.PartLaws.{session_joins, session_longer, session_of_any, session_weaker}
use Rattle.stm_wire.proofs.Names.{GoesOn, IsSession}
use Rattle.stm_session.proofs.RunContracts.{contract_ran, contract_refused, contract_unopened, runs_err, runs_ok}
use Rattle.stm_session.proofs.Sending.{same_fault}
use Rattle.stm_session.specs.declared.fault.Fault.TheVariants as faults
use Rattle.stm_session.proofs.Reaching.{at_fault, told_stops}
use Rattle.stm_journal.proofs.Names.{StateData}
use Rattle.stm_session.proofs.VerifiedWrites.{session_does, session_stops}
use Rattle.stm_session.proofs.running.run.Goals as goal

no_commands : (commands : List Command) → commands_in commands ≡ [] → commands ≡ []
no_commands [] e = refl
no_commands (c ∷ commands) e = cc

pub returns-in_err-opened-clause-promised : goal.returns-in_err-opened-clause-promised
returns-in_err-opened-clause-promised g c =
    let V = g.R.Rig.view in
    contract_unopened c.args.table.now (commands_in c.args.commands.now) (V c.args.rig.now) (V c.open.new.rig) _ c.from_residual.result outcomes_in c.in_err-opened.ensures.unsent c.in_err-opened.ensures.unsent_calls
    c.in_err-opened.ensures.honest c.in_err-opened.ensures.memory c.from_residual.ensures.1

pub returns-in_err-check_commands-clause-promised : goal.returns-in_err-check_commands-clause-promised
returns-in_err-check_commands-clause-promised g c =
    let V = g.R.Rig.view in
    contract_refused c.args.table.now (commands_in c.args.commands.now) (V c.args.rig.now) (V c.open.new.rig) c.in_ok-opened.opened c.in_ok-opened.ensures.coherent c.in_ok-opened.ensures.unsent c.in_ok-opened.ensures.honest
    _ c.from_residual-in_err-check_commands.result outcomes_in c.in_ok-opened.ensures.unsent_calls c.in_err-check_commands.ensures.refusal c.in_err-check_commands.ensures.named c.from_residual-in_err-check_commands.ensures.1

pub returns-in_err-outcomes-clause-promised : goal.returns-in_err-outcomes-clause-promised
returns-in_err-outcomes-clause-promised g c =
    let V = g.R.Rig.view in
    let commands = commands_in c.args.commands.now in
    let mid = V c.open.new.rig in
    let new = V c.run_confirmed.new.rig in
    contract_ran c.args.table.now commands (V c.args.rig.now) mid c.in_ok-opened.opened c.in_ok-opened.ensures.coherent c.in_ok-opened.ensures.unsent c.in_ok-opened.ensures.honest
    new c.from_residual-in_err-outcomes.result outcomes_in c.in_ok-check_commands.ensures.refusal
    (λ flashes steady chip. runs_err commands flashes mid new _ c.from_residual-in_err-outcomes.result (λ outcomes. map outcome_data outcomes.items) outcomes_in c.from_residual-in_err-outcomes.ensures.1 (c.in_err-outcomes.ensures.honest flashes steady chip))
    (λ none. at_fault (λ e. e ≢ faults.Memory) _ c.from_residual-in_err-outcomes.result c.from_residual-in_err-outcomes.ensures.1 (c.in_err-outcomes.ensures.none (no_commands c.args.commands.now none)))

pub returns-clause-promised : goal.returns-clause-promised
returns-clause-promised g c =
    let V = g.R.Rig.view in
    let commands = commands_in c.args.commands.now in
    let mid = V c.open.new.rig in
    let new = V c.run_confirmed.new.rig in
    contract_ran c.args.table.now commands (V c.args.rig.now) mid c.in_ok-opened.opened c.in_ok-opened.ensures.coherent c.in_ok-opened.ensures.unsent c.in_ok-opened.ensures.honest
    new _ outcomes_in c.in_ok-check_commands.ensures.refusal
    (λ flashes steady chip. runs_ok commands flashes mid new _ _ (λ outcomes. map outcome_data outcomes.items) outcomes_in refl (c.in_ok-outcomes.ensures.honest flashes steady chip))
    (λ none. tt)

pub returns-in_err-check_commands-clause-puts : goal.returns-in_err-check_commands-clause-puts
returns-in_err-check_commands-clause-puts g c =
    let V = g.R.Rig.view in
    let a = (V c.args.rig.now).calls in
    let b = (V c.open.new.rig).calls in
    let n = length c.args.commands.now in
    record { chip = None; listed = tt; calls = session_weaker None 0x7F 131072 (is_whole c.from_residual-in_err-check_commands.result) (most_of_reaching 131072) (most_of_run n) a b (omega arith) c.in_ok-opened.ensures.puts }

pub returns-in_err-outcomes-clause-puts : goal.returns-in_err-outcomes-clause-puts
returns-in_err-outcomes-clause-puts g c =
    let V = g.R.Rig.view in
    let a = (V c.args.rig.now).calls in
    let b = (V c.open.new.rig).calls in
    let d = (V c.run_confirmed.new.rig).calls in
    let n = length c.args.commands.now in
    let chip = Some c.in_ok-opened.opened.chip.now in
    let P : Bool → Type 0 = λ w. SendsAsRun c.args.table.now w n (V c.args.rig.now) (V c.run_confirmed.new.rig) in
    same_fault P _ c.from_residual-in_err-outcomes.result c.from_residual-in_err-outcomes.ensures.1
    (record {
      chip = chip;
      listed = c.in_ok-opened.ensures.coherent.chip;
      calls = session_joins chip 0x7F 131072 _ (most_of_reaching 131072) (most_of_confirming + n * most_of_command) a b d (session_of_any chip 0x7F 131072 true (most_of_reaching 131072) a b c.in_ok-opened.ensures.puts) c.in_err-outcomes.ensures.puts;
    })

pub returns-clause-puts : goal.returns-clause-puts
returns-clause-puts g c =
    let V = g.R.Rig.view in
    let a = (V c.args.rig.now).calls in
    let b = (V c.open.new.rig).calls in
    let d = (V c.run_confirmed.new.rig).calls in
    let n = length c.args.commands.now in
    let chip = Some c.in_ok-opened.opened.chip.now in
    record {
      chip = chip;
      listed = c.in_ok-opened.ensures.coherent.chip;
      calls = session_joins chip 0x7F 131072 true (most_of_reaching 131072) (most_of_confirming + n * most_of_command) a b d (session_of_any chip 0x7F 131072 true (most_of_reaching 131072) a b c.in_ok-opened.ensures.puts) c.in_ok-outcomes.ensures.puts;
    }

pub returns-clause-order : goal.returns-clause-order
returns-clause-order g c =
    let V = g.R.Rig.view in
    let opened = c.in_ok-opened.ensures in
    let done = c.in_ok-outcomes.ensures.order in
    session_does c.args.table.now (V c.args.rig.now) (V c.open.new.rig) c.in_ok-opened.opened opened.coherent opened.loaded c.in_ok-check_commands.ensures.sound opened.order
    (AreDoneSomehow (commands_in c.args.commands.now)) c.run_confirmed.new.journal (V c.run_confirmed.new.rig)
    (done.0, (done.1.0, done.1.1, (map outcome_data c.in_ok-outcomes.outcomes.items, c.run_confirmed.new.journal.state, done.1.2)), done.2)

pub returns-clause-told : goal.returns-clause-told
returns-clause-told g c =
    let V = g.R.Rig.view in
    let opened = c.in_ok-opened.ensures in
    let done = c.in_ok-outcomes.ensures.order in
    session_does c.args.table.now (V c.args.rig.now) (V c.open.new.rig) c.in_ok-opened.opened opened.coherent opened.loaded c.in_ok-check_commands.ensures.sound opened.order
    (λ k s steps. (last : StateData) × AreDoneInOrder k (commands_in c.args.commands.now) (map outcome_data c.in_ok-outcomes.outcomes.items) s last steps) c.run_confirmed.new.journal (V c.run_confirmed.new.rig)
    (done.0, (done.1.0, done.1.1, (c.run_confirmed.new.journal.state, done.1.2)), done.2)

pub returns-in_err-opened-clause-stops : goal.returns-in_err-opened-clause-stops
returns-in_err-opened-clause-stops g c =
    let V = g.R.Rig.view in
    let cs = commands_in c.args.commands.now in
    let P : Fault → Type 0 = λ e. RunStops c.args.table.now cs (V c.args.rig.now) (V c.open.new.rig) e in
    at_fault P _ c.from_residual.result c.from_residual.ensures.1 (inl (λ torn. c.in_err-opened.ensures.stops torn))

pub returns-in_err-check_commands-clause-stops : goal.returns-in_err-check_commands-clause-stops
returns-in_err-check_commands-clause-stops g c =
    let V = g.R.Rig.view in
    let a = V c.args.rig.now in
    let b = V c.open.new.rig in
    let cs = commands_in c.args.commands.now in
    let P : Fault → Type 0 = λ e. RunStops c.args.table.now cs a b e in
    at_fault P _ c.from_residual-in_err-check_commands.result c.from_residual-in_err-check_commands.ensures.1
    (inl (λ torn. told_stops contact_way _ torn _ a b c.in_err-check_commands.ensures.named (c.in_ok-opened.ensures.order torn)))

pub returns-in_err-outcomes-clause-stops : goal.returns-in_err-outcomes-clause-stops
returns-in_err-outcomes-clause-stops g c =
    let V = g.R.Rig.view in
    let opened = c.in_ok-opened.ensures in
    let a = V c.args.rig.now in
    let d = V c.run_confirmed.new.rig in
    let cs = commands_in c.args.commands.now in
    let P : Fault → Type 0 = λ e. RunStops c.args.table.now cs a d e in
    at_fault P _ c.from_residual-in_err-outcomes.result c.from_residual-in_err-outcomes.ensures.1
    (session_stops c.args.table.now a (V c.open.new.rig) c.in_ok-opened.opened opened.coherent opened.loaded c.in_ok-check_commands.ensures.sound opened.order (λ k s. AreBegun c.in_err-outcomes.field-0.0 k cs s) d _ c.in_err-outcomes.ensures.stops)

pub returns-in_err-opened-clause-puts : goal.returns-in_err-opened-clause-puts
returns-in_err-opened-clause-puts g c =
    let V = g.R.Rig.view in
    let a = (V c.args.rig.now).calls in
    let b = (V c.open.new.rig).calls in
    let n = length c.args.commands.now in
    let P : Bool → Type 0 = λ w. GoesOn (IsSession None 0x7F 131072 w (most_of_run n)) a b in
    record { chip = None; listed = tt; calls = same_fault P _ c.from_residual.result c.from_residual.ensures.1 (session_longer None 0x7F 131072 _ (most_of_reaching 131072) (most_of_run n) a b (omega arith) c.in_err-opened.ensures.puts) }
