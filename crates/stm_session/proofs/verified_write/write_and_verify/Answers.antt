use Rattle.std.proofs.Common.{rules, ◌≡◌, ◌∙◌, ◌+◌, ◌*◌, Bool, None, Some, inl, sym, ap, subst, true, arith}
use Rattle.stm_image.specs.Pairs.{Pairs}
use Rattle.stm_wire.proofs.Names.{GoesOn, IsSession}
use Rattle.stm_wire.specs.lemmas.PartLaws.{session_joins, session_longer, session_of_any, session_weaker}
use Rattle.stm_session.specs.declared.command.Command.TheVariants as command
use Rattle.stm_session.proofs.Names.{AreBegun, confirming, contact_way, Fault, first_refusal, is_whole, IsAfter, IsConfirmedInPart, IsWrittenAndSeen, most_of_command, most_of_confirming}
use Rattle.stm_session.proofs.Names.{most_of_reaching, most_of_run, outcomes_seen, RunStops, WritesThen, written_then}
use Rattle.stm_journal.proofs.Names.{StateData}
use Rattle.stm_session.proofs.ConfirmedCommands.{cause_then}
use Rattle.stm_session.proofs.Reaching.{at_fault, told_stops}
use Rattle.stm_session.proofs.RunContracts.{contract_ran, contract_refused, contract_unopened}
use Rattle.stm_session.proofs.Sending.{same_fault}
use Rattle.stm_session.proofs.VerifiedWrites.{on_done, on_fault, on_value, part_refusals, seen_runs, session_does, session_stops}
use Rattle.stm_session.proofs.verified_write.write_and_verify.Goals as goal

pub returns-in_err-opened : goal.returns-in_err-opened
returns-in_err-opened g c =
    let V = g.R.Rig.view in
    let a = V c.args.rig.now in
    let b = V c.open.new.rig in
    let table = c.args.table.now in
    let image = c.args.image in
    let cs = written_then image image in
    let said = c.in_err-opened.ensures in
    let is = c.from_residual.ensures.1 in
    let W : Bool → Type 0 = λ w. GoesOn (IsSession None 0x7F 131072 w (most_of_run 2)) a.calls b.calls in
    let P : Fault → Type 0 = λ e. RunStops table cs a b e in (
      image,
      record {
        among = λ p held. held;
        promised = contract_unopened table cs a b _ c.from_residual.result outcomes_seen said.unsent said.unsent_calls said.honest said.memory is;
        cause = search rules;
        puts = record { chip = None; listed = tt; calls = same_fault W _ c.from_residual.result is (session_longer None 0x7F 131072 _ (most_of_reaching 131072) (most_of_run 2) a.calls b.calls (omega arith) said.puts) };
        silent = search rules;
        order = search rules;
        told = search rules;
        stops = at_fault P _ c.from_residual.result is (inl (λ torn. said.stops torn));
        counts = search rules;
      },
    )

pub returns-in_err-check_commands : goal.returns-in_err-check_commands
returns-in_err-check_commands g c =
    let V = g.R.Rig.view in
    let a = V c.args.rig.now in
    let b = V c.open.new.rig in
    let table = c.args.table.now in
    let image = c.args.image in
    let cs = written_then image image in
    let opened = c.in_ok-opened.opened in
    let said = c.in_ok-opened.ensures in
    let refused = c.in_err-check_commands.ensures in
    let result = c.from_residual-in_err-check_commands.result in
    let is = c.from_residual-in_err-check_commands.ensures.1 in
    let P : Fault → Type 0 = λ e. RunStops table cs a b e in (
      image,
      record {
        among = λ p held. held;
        promised = contract_refused table cs a b opened said.coherent said.unsent said.honest _ result outcomes_seen said.unsent_calls
            (λ d told. ap first_refusal (sym (part_refusals opened.journal.state d opened.chip.now image image (λ p held. held))) ∙ refused.refusal d told) refused.named is;
        cause = search rules;
        puts = record { chip = None; listed = tt; calls = session_weaker None 0x7F 131072 (is_whole result) (most_of_reaching 131072) (most_of_run 2) a.calls b.calls (omega arith) said.puts };
        silent = search rules;
        order = search rules;
        told = search rules;
        stops = at_fault P _ result is (inl (λ torn. told_stops contact_way _ torn _ a b refused.named (said.order torn)));
        counts = search rules;
      },
    )

pub returns : goal.returns
returns g c =
    let V = g.R.Rig.view in
    let a = V c.args.rig.now in
    let b = V c.open.new.rig in
    let d = V c.write_confirmed.new.rig in
    let table = c.args.table.now in
    let image = c.args.image in
    let opened = c.in_ok-opened.opened in
    let chip = opened.chip.now in
    let l = opened.journal in
    let l2 = c.write_confirmed.new.journal in
    let said = c.in_ok-opened.ensures in
    let checked = c.in_ok-check_commands.ensures in
    let result = c.write_confirmed.result in
    let part = c.write_confirmed.ensures.0 in
    let cs = written_then image part in
    let is : command.Write c.in-Write.image ≡ command.Write image = sym c.in-Write.is in
    let same : c.in-Write.image ≡ image = cc in
    let X : Pairs → Type 0 = λ i. WritesThen (most_of_confirming + 2 * most_of_command) (λ said last. IsAfter (confirming chip) (IsWrittenAndSeen chip i part said l.state last))
    (λ fault. IsConfirmedInPart chip (AreBegun fault chip (written_then i part) l.state)) chip i part l l2 b d result in
    let writes = subst X same c.write_confirmed.ensures.1 in
    let does = writes.does in
    let told = on_value result (λ w done. session_does table a b opened said.coherent said.loaded checked.sound said.order (λ k s steps. (last : StateData) × IsWrittenAndSeen k image part (outcomes_seen w) s last steps) l2 d
    (done.0, (done.1.0, done.1.1, (l2.state, done.1.2)), done.2)) does.order in (
      part,
      record {
        among = writes.among;
        promised = contract_ran table cs a b opened said.coherent said.unsent said.honest d result outcomes_seen
            (λ k is. ap first_refusal (sym (part_refusals l.state k chip image part writes.among)) ∙ checked.refusal k is) does.honest (λ none. cc);
        cause = cause_then opened a b d result said.cause does.cause;
        puts = record {
          chip = Some chip;
          listed = said.coherent.chip;
          calls = session_joins (Some chip) 0x7F 131072 (is_whole result) (most_of_reaching 131072) (most_of_confirming + 2 * most_of_command) a.calls b.calls d.calls (session_of_any (Some chip) 0x7F 131072 true (most_of_reaching 131072) a.calls b.calls said.puts) does.puts;
        };
        silent = on_fault result (λ e named is. absurd (named is)) does.named;
        order = on_done result (λ w seen. seen_runs table image part (outcomes_seen w) a d seen) told;
        told = told;
        stops = on_fault result (λ e stops. session_stops table a b opened said.coherent said.loaded checked.sound said.order (λ k s. AreBegun e k cs s) d e stops) does.stops;
        counts = writes.counts;
      },
    )
