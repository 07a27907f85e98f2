use Rattle.std.proofs.Common.{◌<◌, rules, take}
use Rattle.stm_wire.proofs.Names.{WireFault}
use Rattle.stm_wire.proofs.Holding.{on_fault}
use Rattle.stm_wire.proofs.Receiving.{IsBrokenAnswer, broken_at_count, broken_at_version, broken_at_codes, held_codes}
use Rattle.stm_wire.proofs.get_command.receive_commands.Goals as goal

pub returns-in_err-count-clause-broken : goal.returns-in_err-count-clause-broken
returns-in_err-count-clause-broken g c =
    let V = g.R.Rig.view in
    let e = c.in_err-count.field-0.0 in
    let P : WireFault → Type 0 = λ fault. IsBrokenAnswer fault (V c.args.rig.now) (V c.receive.new.rig) in
    on_fault P c.from_residual.result e c.from_residual.ensures.1 (broken_at_count e (V c.args.rig.now) (V c.receive.new.rig) c.in_err-count.ensures.broken)

pub returns-in_err-version-clause-broken : goal.returns-in_err-version-clause-broken
returns-in_err-version-clause-broken g c =
    let V = g.R.Rig.view in
    let small : c.in_ok-count.count < 256 = search rules in
    let e = c.in_err-version.field-0.0 in
    let P : WireFault → Type 0 = λ fault. IsBrokenAnswer fault (V c.args.rig.now) (V c.receive-2.new.rig) in
    on_fault P c.from_residual-in_err-version.result e c.from_residual-in_err-version.ensures.1
    (broken_at_version e c.in_ok-count.count (V c.args.rig.now) (V c.receive.new.rig) (V c.receive-2.new.rig) small c.in_ok-count.ensures.held c.in_err-version.ensures.broken)

pub returns-in_err-receive_codes-clause-broken : goal.returns-in_err-receive_codes-clause-broken
returns-in_err-receive_codes-clause-broken g c =
    let V = g.R.Rig.view in
    let small : c.in_ok-count.count < 256 = search rules in
    let e = c.in_err-receive_codes.field-0.0 in
    let P : WireFault → Type 0 = λ fault. IsBrokenAnswer fault (V c.args.rig.now) (V c.receive_codes.new.rig) in
    on_fault P c.from_residual-in_err-receive_codes.result e c.from_residual-in_err-receive_codes.ensures.1
    (broken_at_codes c.in_ok-count.count c.in_ok-version.version (V c.args.rig.now) (V c.receive.new.rig) (V c.receive-2.new.rig) (V c.receive_codes.new.rig) c.in_ok-count.ensures.held c.in_ok-version.ensures.held e small
    c.in_err-receive_codes.ensures.broken)

pub returns-clause-held : goal.returns-clause-held
returns-clause-held g c =
    let V = g.R.Rig.view in
    held_codes c.in_ok-count.count c.in_ok-version.version (V c.args.rig.now) (V c.receive.new.rig) (V c.receive-2.new.rig) (V c.receive_codes.new.rig) c.in_ok-count.ensures.held c.in_ok-version.ensures.held
    (take c.in_ok-count.count c.receive_codes.new.codes) c.receive_codes.ensures.size c.in_ok-receive_codes.ensures.held
