use Rattle.std.proofs.Common.{◌≡◌, [], ◌<◌, ℕ, List, length, get_or, arith}
use Rattle.stm_wire.proofs.Names.{BreaksOff, learns, WireFault}
use Rattle.stm_wire.proofs.SentLists.{Holds-learned, BreaksOff-learned, owing-more}
use Rattle.stm_wire.proofs.Holding.{on_fault}
use Rattle.stm_wire.proofs.dialogue.fill.Goals as goal

pub returns-in_err-slot-clause-broken : goal.returns-in_err-slot-clause-broken
returns-in_err-slot-clause-broken g c =
    let V = g.R.Rig.view in
    let i = c.loop-slot.slot-index in
    let buf = c.loop-slot.buf in
    let e = c.in_err-slot.field-0.0 in
    let within : i < length buf = omega arith in
    let same : length buf ≡ length c.args.buf.now = omega arith in
    let P : WireFault → Type 0 = λ fault. (answer : List ℕ) × (length answer ≡ length c.args.buf.now) × BreaksOff fault [] (learns answer) (V c.args.rig.now) (V c.receive.new.rig) in
    on_fault P c.from_residual.result e c.from_residual.ensures.1
    (buf, same, BreaksOff-learned e buf i (V c.args.rig.now) (V c.loop-slot.rig) (V c.receive.new.rig) within c.loop-slot.invariant.0 (c.in_err-slot.ensures.broken (get_or buf i 0)))

pub loop-slot-preserved : goal.loop-slot-preserved
loop-slot-preserved g c =
    let V = g.R.Rig.view in
    let i = c.loop-slot.slot-index in
    let within : i < length c.loop-slot.buf = omega arith in (
      Holds-learned c.loop-slot.buf i c.in_ok-slot.field-0 (V c.args.rig.now) (V c.loop-slot.rig) (V c.receive.new.rig) within c.loop-slot.invariant.0 c.in_ok-slot.ensures.held,
      λ h. owing-more c.loop-slot.buf i c.in_ok-slot.field-0 (V c.args.rig.now).device (V c.loop-slot.rig).device (V c.receive.new.rig).device within
          (c.loop-slot.invariant.1 h) (c.in_ok-slot.ensures.byte (c.loop-slot.invariant.0.honestly h).honest),
    )
