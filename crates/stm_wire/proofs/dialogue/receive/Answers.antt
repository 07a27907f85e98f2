use Rattle.std.proofs.Common.{ℕ, ◌∷◌, [], None, refl}
use Rattle.stm_wire.proofs.Names.{BreaksOff, Learns, learns, WireFault}
use Rattle.stm_wire.specs.declared.fault.WireFault.TheVariants.{Line, Quiet}
use Rattle.stm_wire.proofs.LineCalls.{Holds-get, BreaksOff-get, BreaksOff-reply}
use Rattle.stm_wire.proofs.Holding.{on_fault}
use Rattle.stm_wire.proofs.dialogue.receive.Goals as goal

pub returns-in_err-byte-clause-broken : goal.returns-in_err-byte-clause-broken
returns-in_err-byte-clause-broken g c =
    let V = g.R.Rig.view in
    let e = c.in_err-byte.ensures in
    let P : WireFault → Type 0 = λ fault. (byte : ℕ) → BreaksOff fault [] (learns (byte ∷ [])) (V c.args.rig.now) (V c.get.new.self) in
    on_fault P c.from_residual.result Line c.from_residual.ensures.1
    (λ byte. BreaksOff-get (Learns byte) c.in_err-byte.field-0.0 (V c.args.rig.now) (V c.get.new.self) refl (g.met.R.Rig.model c.args.rig.now) e.cause e.journal_count e.recorded e.honest)

pub returns-in-Some-clause-held : goal.returns-in-Some-clause-held
returns-in-Some-clause-held g c =
    let V = g.R.Rig.view in
    let e = rw c.in-Some.is at c.in_ok-byte.ensures in
    Holds-get (Learns c.in-Some.byte) c.in-Some.byte (V c.args.rig.now) (V c.get.new.self) refl (g.met.R.Rig.model c.args.rig.now) e.cause e.journal_count e.recorded e.honest

pub returns-in-None-clause-broken : goal.returns-in-None-clause-broken
returns-in-None-clause-broken g c =
    let V = g.R.Rig.view in
    let e = rw c.in-None.is at c.in_ok-byte.ensures in
    λ byte. BreaksOff-reply Quiet (Learns byte) None (V c.args.rig.now) (V c.get.new.self) (λ e. cc) refl (g.met.R.Rig.model c.args.rig.now) e.cause e.journal_count e.recorded e.honest
