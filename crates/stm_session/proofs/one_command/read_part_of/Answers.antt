use Rattle.std.proofs.Common.{ℕ, Ok, refl, sym, ◌∙◌, ap, List}
use Rattle.stm_wire.proofs.Names.{ChipData}
use Rattle.stm_session.proofs.Names.{bytes_at, ComeInBlocks, outcome_data, OutcomeData, was_read}
use Rattle.stm_session.specs.Meaning.{reads}
use Rattle.stm_session.proofs.Doings.{asks_does, asks_fails}
use Rattle.stm_session.proofs.RunOrders.{reads_follow}
use Rattle.stm_session.proofs.Arrivals.{reading_stops}
use Rattle.stm_session.proofs.one_command.read_part_of.Goals as goal

pub returns-in_err-bytes-clause-honest : goal.returns-in_err-bytes-clause-honest
returns-in_err-bytes-clause-honest g c flashes l steady chip =
    let V = g.R.Rig.view in
    asks_fails c.step_laws.ensures flashes (reads c.args.start c.args.length) l (V c.args.rig.now) (V c.read_range.new.rig) refl steady outcome_data l _ c.from_residual.result
    (c.in_err-bytes.ensures.honest steady.honest steady.settled chip) c.from_residual.ensures.1

pub returns-clause-honest : goal.returns-clause-honest
returns-clause-honest g c flashes l steady chip =
    let V = g.R.Rig.view in
    let a = V c.args.rig.now in
    let asks = c.in_ok-bytes.ensures.honest steady.honest steady.settled chip in
    let said : List ℕ → OutcomeData = λ bytes. was_read bytes in
    asks_does c.step_laws.ensures flashes (reads c.args.start c.args.length) l a (V c.read_range.new.rig) refl steady outcome_data c.in_ok-bytes.bytes _ asks
    (ap (λ (p : ChipData). Ok (said (bytes_at p a.device.flash c.args.start c.args.length))) chip ∙ ap (λ (bytes : List ℕ). Ok (said bytes)) (sym asks.done))

pub returns-clause-order : goal.returns-clause-order
returns-clause-order g c l =
    let V = g.R.Rig.view in
    let bytes = c.in_ok-bytes.bytes.items in
    let read = reads_follow c.args.chip.now (ComeInBlocks c.args.start bytes) l (V c.args.rig.now) (V c.read_range.new.rig) c.in_ok-bytes.ensures.reads in
    (read.0, (read.1.0, (bytes, refl, read.1.1)), read.2)

pub returns-in_err-bytes-clause-stops : goal.returns-in_err-bytes-clause-stops
returns-in_err-bytes-clause-stops g c l =
    let V = g.R.Rig.view in
    reading_stops c.args.chip.now (reads c.args.start c.args.length) l.state l.is_torn (V c.args.rig.now) (V c.read_range.new.rig) _ c.from_residual.result refl c.from_residual.ensures.1 c.in_err-bytes.ensures.sent
    (c.in_err-bytes.ensures.reads_stop l.is_torn)
