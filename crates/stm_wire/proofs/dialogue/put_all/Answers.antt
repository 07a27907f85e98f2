use Rattle.std.proofs.Common.{get_or}
use Rattle.stm_wire.specs.declared.fault.WireFault.TheVariants.{Line}
use Rattle.stm_wire.proofs.Names.{BreaksOff, says, WireFault}
use Rattle.stm_wire.proofs.Holding.{on_fault}
use Rattle.stm_wire.proofs.LineCalls.{Holds-put, BreaksOff-put}
use Rattle.stm_wire.proofs.SentLists.{Holds-more, BreaksOff-more, Fed-more}
use Rattle.stm_wire.proofs.dialogue.put_all.Goals as goal

pub returns-in_err-put-clause-broken : goal.returns-in_err-put-clause-broken
returns-in_err-put-clause-broken g c =
    let V = g.R.Rig.view in
    let e = c.in_err-put.ensures in
    let i = c.loop-byte.byte-index in
    let bytes = c.args.bytes.now in
    let P : WireFault → Type 0 = λ fault. BreaksOff fault bytes (says bytes) (V c.args.rig.now) (V c.put.new.self) in
    let one = BreaksOff-put (Unit {0}) (get_or bytes i 0) c.in_err-put.field-0.0 (V c.loop-byte.rig) (V c.put.new.self) (g.met.R.Rig.model c.loop-byte.rig) e.cause e.journal_count e.recorded e.honest in
    on_fault P c.from_residual.result Line c.from_residual.ensures.1 (BreaksOff-more Line bytes i (V c.args.rig.now) (V c.loop-byte.rig) (V c.put.new.self) c.loop-byte-test.true c.loop-byte.invariant.0 one)

pub loop-byte-preserved : goal.loop-byte-preserved
loop-byte-preserved g c =
    let V = g.R.Rig.view in
    let e = c.in_ok-put.ensures in
    let i = c.loop-byte.byte-index in
    let bytes = c.args.bytes.now in
    let one = Holds-put (get_or bytes i 0) tt (V c.loop-byte.rig) (V c.put.new.self) (g.met.R.Rig.model c.loop-byte.rig) e.cause e.journal_count e.recorded e.honest in (
      Holds-more bytes i (V c.args.rig.now) (V c.loop-byte.rig) (V c.put.new.self) c.loop-byte-test.true c.loop-byte.invariant.0 one,
      λ h. Fed-more bytes i (V c.args.rig.now).device (V c.loop-byte.rig).device (V c.put.new.self).device c.loop-byte-test.true
          (c.loop-byte.invariant.1 h) (e.honest ((c.loop-byte.invariant.0.honestly h).honest)).ok.0,
    )
