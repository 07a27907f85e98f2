use Rattle.std.proofs.Common.{[], ◌∷◌, refl, sym, ap, Some}
use Rattle.stm_wire.proofs.Names.{BreaksOff, Expects, Get, Learns, WireFault}
use Rattle.stm_wire.specs.declared.fault.WireFault.TheVariants.{Garbled}
use Rattle.stm_wire.proofs.Holding.{Holds-none, on_fault}
use Rattle.stm_wire.proofs.LineCalls.{Holds-retold, BreaksOff-heard, BreaksOff-retold}
use Rattle.stm_wire.proofs.dialogue.expect_byte.Goals as goal

pub returns-in_err-came-clause-broken : goal.returns-in_err-came-clause-broken
returns-in_err-came-clause-broken g c =
    let V = g.R.Rig.view in
    let e = c.in_err-came.field-0.0 in
    let P : WireFault → Type 0 = λ fault. BreaksOff fault [] (Expects c.args.byte ∷ []) (V c.args.rig.now) (V c.receive.new.rig) in
    on_fault P c.from_residual.result e c.from_residual.ensures.1
    (BreaksOff-retold e 0 (Expects c.args.byte) (V c.args.rig.now) (V c.receive.new.rig) tt (c.in_err-came.ensures.broken 0))

pub returns-then-came-byte-clause-held : goal.returns-then-came-byte-clause-held
returns-then-came-byte-clause-held g c =
    let V = g.R.Rig.view in
    Holds-retold (Learns c.in_ok-came.came) (Expects c.args.byte) (V c.args.rig.now) (V c.receive.new.rig) (ap (λ byte. Get (Some byte)) (sym c.if-came-byte.true)) c.in_ok-came.ensures.held

pub returns-else-came-byte-clause-broken : goal.returns-else-came-byte-clause-broken
returns-else-came-byte-clause-broken g c =
    let V = g.R.Rig.view in
    let none = Holds-none (V c.args.rig.now) (g.met.R.Rig.model c.args.rig.now) in
    BreaksOff-heard Garbled [] [] (Expects c.args.byte) c.in_ok-came.came (V c.args.rig.now) (V c.args.rig.now) (V c.receive.new.rig) (λ e. cc) (c.in_ok-came.came, c.if-came-byte.false, c.if-came-byte.false, refl) none c.in_ok-came.ensures.held
