use Rattle.std.proofs.Common.{◌≡◌, ◌<◌, ◌/◌, ◌%◌, ◌∷◌, [], ℕ, arith, sym, subst}
use Rattle.stm_wire.proofs.Names.{ack, BreaksOff, Expects, IsHeldToEnd, Learns, WireFault}
use Rattle.stm_wire.proofs.Holding.{Holds-append, BreaksOff-early, BreaksOff-between, BreaksOff-second, on_fault}
use Rattle.stm_wire.proofs.get_id_command.receive_id.Goals as goal

pub returns-in_err-expect_byte-clause-broken : goal.returns-in_err-expect_byte-clause-broken
returns-in_err-expect_byte-clause-broken g c =
    let V = g.R.Rig.view in
    let e = c.in_err-expect_byte.field-0.0 in
    let P : WireFault → Type 0 = λ fault. (high : ℕ) × (low : ℕ) × BreaksOff fault [] (Expects 1 ∷ Learns high ∷ Learns low ∷ Expects ack ∷ []) (V c.args.rig.now) (V c.expect_byte.new.rig) in
    on_fault P c.from_residual.result e c.from_residual.ensures.1
    (0, 0, BreaksOff-early e [] (Expects 1 ∷ []) (Learns 0 ∷ Learns 0 ∷ Expects ack ∷ []) (V c.args.rig.now) (V c.expect_byte.new.rig) c.in_err-expect_byte.ensures.broken)

pub returns-in_err-high-clause-broken : goal.returns-in_err-high-clause-broken
returns-in_err-high-clause-broken g c =
    let V = g.R.Rig.view in
    let e = c.in_err-high.field-0.0 in
    let P : WireFault → Type 0 = λ fault. (high : ℕ) × (low : ℕ) × BreaksOff fault [] (Expects 1 ∷ Learns high ∷ Learns low ∷ Expects ack ∷ []) (V c.args.rig.now) (V c.receive.new.rig) in
    on_fault P c.from_residual-in_err-high.result e c.from_residual-in_err-high.ensures.1
    (0, 0, BreaksOff-between e (Expects 1 ∷ []) (Learns 0 ∷ []) (Learns 0 ∷ Expects ack ∷ []) (V c.args.rig.now) (V c.expect_byte.new.rig) (V c.receive.new.rig) c.in_ok-expect_byte.ensures.held (c.in_err-high.ensures.broken 0))

pub returns-in_err-low-clause-broken : goal.returns-in_err-low-clause-broken
returns-in_err-low-clause-broken g c =
    let V = g.R.Rig.view in
    let e = c.in_err-low.field-0.0 in
    let high = c.in_ok-high.high in
    let P : WireFault → Type 0 = λ fault. (high : ℕ) × (low : ℕ) × BreaksOff fault [] (Expects 1 ∷ Learns high ∷ Learns low ∷ Expects ack ∷ []) (V c.args.rig.now) (V c.receive-2.new.rig) in
    let first = Holds-append [] [] (Expects 1 ∷ []) (Learns high ∷ []) (V c.args.rig.now) (V c.expect_byte.new.rig) (V c.receive.new.rig) c.in_ok-expect_byte.ensures.held c.in_ok-high.ensures.held in
    on_fault P c.from_residual-in_err-low.result e c.from_residual-in_err-low.ensures.1
    (high, 0, BreaksOff-between e (Expects 1 ∷ Learns high ∷ []) (Learns 0 ∷ []) (Expects ack ∷ []) (V c.args.rig.now) (V c.receive.new.rig) (V c.receive-2.new.rig) first (c.in_err-low.ensures.broken 0))

pub returns-in_err-expect_byte-2-clause-broken : goal.returns-in_err-expect_byte-2-clause-broken
returns-in_err-expect_byte-2-clause-broken g c =
    let V = g.R.Rig.view in
    let e = c.in_err-expect_byte-2.field-0.0 in
    let high = c.in_ok-high.high in
    let low = c.in_ok-low.low in
    let P : WireFault → Type 0 = λ fault. (high : ℕ) × (low : ℕ) × BreaksOff fault [] (Expects 1 ∷ Learns high ∷ Learns low ∷ Expects ack ∷ []) (V c.args.rig.now) (V c.expect_byte-2.new.rig) in
    let first = Holds-append [] [] (Expects 1 ∷ []) (Learns high ∷ []) (V c.args.rig.now) (V c.expect_byte.new.rig) (V c.receive.new.rig) c.in_ok-expect_byte.ensures.held c.in_ok-high.ensures.held in
    let both = Holds-append [] [] (Expects 1 ∷ Learns high ∷ []) (Learns low ∷ []) (V c.args.rig.now) (V c.receive.new.rig) (V c.receive-2.new.rig) first c.in_ok-low.ensures.held in
    on_fault P c.from_residual-in_err-expect_byte-2.result e c.from_residual-in_err-expect_byte-2.ensures.1
    (high, low, BreaksOff-second e [] [] (Expects 1 ∷ Learns high ∷ Learns low ∷ []) (Expects ack ∷ []) (V c.args.rig.now) (V c.receive-2.new.rig) (V c.expect_byte-2.new.rig) both c.in_err-expect_byte-2.ensures.broken)

pub returns-clause-held : goal.returns-clause-held
returns-clause-held g c =
    let V = g.R.Rig.view in
    let high = c.in_ok-high.high in
    let low = c.in_ok-low.low in
    let first = Holds-append [] [] (Expects 1 ∷ []) (Learns high ∷ []) (V c.args.rig.now) (V c.expect_byte.new.rig) (V c.receive.new.rig) c.in_ok-expect_byte.ensures.held c.in_ok-high.ensures.held in
    let both = Holds-append [] [] (Expects 1 ∷ Learns high ∷ []) (Learns low ∷ []) (V c.args.rig.now) (V c.receive.new.rig) (V c.receive-2.new.rig) first c.in_ok-low.ensures.held in
    let all = Holds-append [] [] (Expects 1 ∷ Learns high ∷ Learns low ∷ []) (Expects ack ∷ []) (V c.args.rig.now) (V c.receive-2.new.rig) (V c.expect_byte-2.new.rig) both c.in_ok-expect_byte-2.ensures.held in
    let number = c.read_u16.result in
    let small : low < 256 = omega arith in
    let upper : number / 256 ≡ high = omega (arith, c.read_u16.ensures, small) in
    let lower : number % 256 ≡ low = omega (arith, c.read_u16.ensures, small) in
    let P : ℕ → Type 0 = λ x. IsHeldToEnd [] (Expects 1 ∷ Learns x ∷ Learns low ∷ Expects ack ∷ []) (V c.args.rig.now) (V c.expect_byte-2.new.rig) in
    let Q : ℕ → Type 0 = λ y. IsHeldToEnd [] (Expects 1 ∷ Learns (number / 256) ∷ Learns y ∷ Expects ack ∷ []) (V c.args.rig.now) (V c.expect_byte-2.new.rig) in
    subst Q (sym lower) (subst P (sym upper) all)
