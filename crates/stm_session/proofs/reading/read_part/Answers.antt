use Rattle.std.proofs.Common.{◌≡◌, rules, refl, sym, ◌∙◌, ap, subst, IsTrue, length, take, drop, ℕ, ◌-◌, ◌+◌, Bool, Some, ◌∷◌, []}
use Rattle.stm_wire.proofs.Names.{ChipData, fits_inside, GoesOn, IsPart, read_turns}
use Rattle.stm_wire.specs.Stopped.{read}
use Rattle.stm_session.proofs.Asking.{asked, broken_off}
use Rattle.stm_wire.specs.lemmas.PartLaws.{read_broken, read_held}
use Rattle.stm_session.proofs.Sending.{with_fault}
use Rattle.stm_session.proofs.Names.{Begin, IsReadOf, Sends}
use Rattle.stm_session.proofs.CutShort.{begin_all, command_stops}
use Rattle.stm_session.proofs.Orders.{order_sent}
use Rattle.stm_session.proofs.ToldBoards.{flash_readable}
use Rattle.stm_session.proofs.reading.read_part.Goals as goal

pub returns-in_err-read-clause-honest : goal.returns-in_err-read-clause-honest
returns-in_err-read-clause-honest g c h settled chip fits =
    let V = g.R.Rig.view in
    let P : ChipData → Type 0 = λ p. IsTrue (fits_inside p c.args.address (length c.args.buf.now)) in
    let inside = subst P (sym chip) fits in
    let does = c.in_err-read.ensures.honest h (record { settled = settled; inside = inside }) in
    broken_off c.sending_is_harmless.ensures.asking (V c.args.rig.now) (V c.read.new.rig) c.from_residual.result _ h
    (g.met.R.Rig.model c.args.rig.now h).device settled (read c.args.address (length c.args.buf.now) c.requires.some c.requires.limit (flash_readable (V c.args.rig.now).device.chip c.args.address (length c.args.buf.now) inside) refl) c.in_err-read.ensures.broken.2 does.fails c.from_residual.ensures.1

pub returns-clause-honest : goal.returns-clause-honest
returns-clause-honest g c h settled chip fits =
    let V = g.R.Rig.view in
    let P : ChipData → Type 0 = λ p. IsTrue (fits_inside p c.args.address (length c.args.buf.now)) in
    let inside = subst P (sym chip) fits in
    let does = (c.in_ok-read.ensures.honest h (record { settled = settled; inside = inside })).done in
    let size : length c.read.new.buf ≡ length c.args.buf.now = search rules in
    asked c.sending_is_harmless.ensures.asking (V c.args.rig.now) (V c.read.new.rig) (tt {0}) _ h
    (g.met.R.Rig.model c.args.rig.now h).device settled (read c.args.address (length c.args.buf.now) c.requires.some c.requires.limit (flash_readable (V c.args.rig.now).device.chip c.args.address (length c.args.buf.now) inside) refl) c.in_ok-read.ensures.held does.same
    (does.read ∙ ap (λ (n : ℕ). take n (drop (c.args.address - (V c.args.rig.now).device.chip.base) (V c.args.rig.now).device.flash)) size
    ∙ ap (λ (p : ChipData). take (length c.args.buf.now) (drop (c.args.address - p.base) (V c.args.rig.now).device.flash)) chip)

pub returns-in_err-read-clause-puts : goal.returns-in_err-read-clause-puts
returns-in_err-read-clause-puts g c page within =
    let V = g.R.Rig.view in
    let a = (V c.args.rig.now).calls in
    let b = (V c.read.new.rig).calls in
    let n = length c.args.buf.now in
    let broken = c.in_err-read.ensures.broken in
    let P : Bool → Type 0 = λ w. GoesOn (IsPart (Some c.args.chip.now) w (12 + n)) a b in
    with_fault P _ c.from_residual.result c.from_residual.ensures.1
    (read_broken c.args.chip.now page c.args.address n c.requires.some c.requires.limit within broken.0 _ a b broken.1 broken.2.recorded)

pub returns-clause-puts : goal.returns-clause-puts
returns-clause-puts g c page within =
    let V = g.R.Rig.view in
    let a = (V c.args.rig.now).calls in
    let b = (V c.read.new.rig).calls in
    let size : length c.read.new.buf ≡ length c.args.buf.now = search rules in
    read_held c.args.chip.now page c.args.address (length c.args.buf.now) c.requires.some c.requires.limit within c.read.new.buf a b size c.in_ok-read.ensures.held.recorded

pub returns-clause-order : goal.returns-clause-order
returns-clause-order g c =
    let V = g.R.Rig.view in
    let size : length c.read.new.buf ≡ length c.args.buf.now = search rules in
    record { size = size; sent = λ torn. order_sent torn (read_turns c.args.address c.read.new.buf) (V c.args.rig.now).calls (V c.read.new.rig).calls c.in_ok-read.ensures.held.recorded }

pub returns-in_err-read-clause-stops : goal.returns-in_err-read-clause-stops
returns-in_err-read-clause-stops g c torn =
    let V = g.R.Rig.view in
    let n = length c.args.buf.now in
    let broken = c.in_err-read.ensures.broken in
    let turns = read_turns c.args.address broken.0 in
    let read : IsReadOf c.args.address n (Sends turns ∷ []) = record { answer = broken.0; size = broken.1; is = refl } in
    command_stops (Begin (IsReadOf c.args.address n)) torn _ turns (V c.args.rig.now) (V c.read.new.rig) c.from_residual.result c.from_residual.ensures.1 (begin_all (IsReadOf c.args.address n) (Sends turns ∷ []) read) broken.2.recorded
