-- A round of the loop compares a block more.
use Rattle.std.proofs.Common.{rules, ◌≡◌, ◌+◌, ◌-◌, ◌*◌, arith, ap, subst, sym, ◌∙◌, ℕ, Bool, Some, true, false, is_some, refl, drop}
use Rattle.stm_wire.proofs.Names.{GoesOn, IsPart}
use Rattle.stm_wire.specs.lemmas.PartLaws.{nothing_is_part, part_longer}
use Rattle.stm_session.proofs.Names.{AgreeInBlocks, Cause, first_difference, IsReading, most_of_command, StopsBy}
use Rattle.stm_session.proofs.Asking.{asks_failed, asks_ok, nothing_asked}
use Rattle.stm_session.proofs.Comparisons.{block_agrees, block_differs, block_within, compare_asks, compared_part, compared_stop, reads_agree, reads_differ}
use Rattle.std.specs.List.{AllByRecursion}
use Rattle.stm_session.proofs.CutShort.{by_fault}
use Rattle.stm_session.proofs.RunOrders.{reads_nothing}
use Rattle.stm_session.proofs.Sending.{same_fault}
use Rattle.stm_session.proofs.comparing.find_difference.Goals as goal

pub loop-block-init : goal.loop-block-init
loop-block-init g c =
    let V = g.R.Rig.view in (
      record {
        within = omega arith;
        line = refl;
        journal = refl;
        stays = λ h. h;
        parts = nothing_is_part (Some c.args.chip.now) true 0 (V c.args.rig.now).calls;
        reads = reads_nothing c.args.chip.now (AgreeInBlocks c.args.image.now c.args.chip.now.base (c.args.chip.now.base + 0)) (V c.args.rig.now) (omega arith);
        honest = λ h settled chip.
            nothing_asked c.sending_is_harmless.ensures.asking (V c.args.rig.now) (tt {0}) _ h (g.met.R.Rig.model c.args.rig.now h) settled
            (ap (λ (a : ℕ). first_difference c.args.image.now a (V c.args.rig.now).device.flash) (omega arith));
      },
      record { exists = omega arith; before = refl; begins = omega arith },
    )

pub loop-block-preserved : goal.loop-block-preserved
loop-block-preserved g c =
    let V = g.R.Rig.view in
    let so_far = c.loop-block.invariant.0 in
    let chip = c.args.chip.now in
    let image = c.args.image.now in
    let block = c.in-Some.block in
    let a = V c.args.rig.now in
    let b = V c.loop-block.rig in
    let d = V c.compare_block.new.rig in
    let next = c.in-Some.ensures in
    let none : is_some c.in_ok-found.found ≡ false = search (rules, c.is_some.ensures, c.if-is_some.false) in
    let base : c.base.result ≡ chip.base = c.base.ensures in (
      record {
        within = omega (arith, base, block_within chip image c.loop-block.done block a b d so_far next);
        line = c.in_ok-found.ensures.cause.line_done ∙ so_far.line;
        journal = c.in_ok-found.ensures.cause.journal_done ∙ so_far.journal;
        stays = λ h. c.in_ok-found.ensures.cause.honest (so_far.stays h);
        parts = subst (λ (n : ℕ). GoesOn (IsPart (Some chip) true (13 * (block.address - n + block.size))) a.calls d.calls) (sym base)
            (compared_part chip image c.loop-block.done block a b d so_far next true c.in_ok-found.ensures.puts);
        reads =
            let order = c.in_ok-found.ensures.order in
            reads_agree chip image c.loop-block.done block a b d so_far next c.in_ok-found.found order.0 _ (omega (arith, base)) none order.1 order.2;
        honest = λ h settled chip_is.
            compare_asks chip image c.loop-block.done block a b d so_far next c.unnamed_places_agree.ensures.before h settled chip_is _ _ _ c.in_ok-found.ensures.honest
            (λ asks. asks_ok b d c.in_ok-found.found (tt {0}) asks
            (λ told. block_agrees chip image c.loop-block.done block a b d so_far next c.unnamed_places_agree.ensures.before h settled chip_is c.in_ok-found.found none told
            ∙ ap (λ (n : ℕ). first_difference image (chip.base + (block.address - n + block.size)) (drop (block.address - n + block.size) a.device.flash)) (sym base)));
      },
      record { exists = omega (arith, next.place.exists); before = next.place.before; begins = omega (arith, base, next.place.begins) },
    )

pub returns-in_err-found-clause-honest : goal.returns-in_err-found-clause-honest
returns-in_err-found-clause-honest g c h settled chip =
    let V = g.R.Rig.view in
    let b = V c.loop-block.rig in
    let d = V c.compare_block.new.rig in
    compare_asks c.args.chip.now c.args.image.now c.loop-block.done c.in-Some.block (V c.args.rig.now) b d c.loop-block.invariant.0 c.in-Some.ensures c.unnamed_places_agree.ensures.before h settled chip
    _ c.from_residual.result _ c.in_err-found.ensures.honest (λ asks. asks_failed b d _ c.from_residual.result asks c.from_residual.ensures.1)

pub returns-then-is_some-clause-honest : goal.returns-then-is_some-clause-honest
returns-then-is_some-clause-honest g c h settled chip =
    let V = g.R.Rig.view in
    let b = V c.loop-block.rig in
    let d = V c.compare_block.new.rig in
    let some : is_some c.in_ok-found.found ≡ true = search (rules, c.is_some.ensures, c.if-is_some.true) in
    compare_asks c.args.chip.now c.args.image.now c.loop-block.done c.in-Some.block (V c.args.rig.now) b d c.loop-block.invariant.0 c.in-Some.ensures c.unnamed_places_agree.ensures.before h settled chip
    _ _ _ c.in_ok-found.ensures.honest
    (λ asks. asks_ok b d c.in_ok-found.found c.in_ok-found.found asks
    (λ told. block_differs c.args.chip.now c.args.image.now c.loop-block.done c.in-Some.block (V c.args.rig.now) b d c.loop-block.invariant.0 c.in-Some.ensures c.unnamed_places_agree.ensures.before h settled chip
    c.in_ok-found.found some told))

pub returns-in_err-found-clause-puts : goal.returns-in_err-found-clause-puts
returns-in_err-found-clause-puts g c =
    let V = g.R.Rig.view in
    let a = V c.args.rig.now in
    let b = V c.loop-block.rig in
    let d = V c.compare_block.new.rig in
    let chip = c.args.chip.now in
    let block = c.in-Some.block in
    let within = block_within chip c.args.image.now c.loop-block.done block a b d c.loop-block.invariant.0 c.in-Some.ensures in
    let P : Bool → Type 0 = λ w. GoesOn (IsPart (Some chip) w most_of_command) a.calls d.calls in
    same_fault P _ c.from_residual.result c.from_residual.ensures.1
    (part_longer (Some chip) _ (13 * (block.address - chip.base + block.size)) most_of_command a.calls d.calls (omega (arith, within, c.keeps_limits.ensures.chip.size))
    (compared_part chip c.args.image.now c.loop-block.done block a b d c.loop-block.invariant.0 c.in-Some.ensures _ c.in_err-found.ensures.puts))

pub returns-then-is_some-clause-puts : goal.returns-then-is_some-clause-puts
returns-then-is_some-clause-puts g c =
    let V = g.R.Rig.view in
    let a = V c.args.rig.now in
    let b = V c.loop-block.rig in
    let d = V c.compare_block.new.rig in
    let chip = c.args.chip.now in
    let block = c.in-Some.block in
    let within = block_within chip c.args.image.now c.loop-block.done block a b d c.loop-block.invariant.0 c.in-Some.ensures in
    part_longer (Some chip) true (13 * (block.address - chip.base + block.size)) most_of_command a.calls d.calls (omega (arith, within, c.keeps_limits.ensures.chip.size))
    (compared_part chip c.args.image.now c.loop-block.done block a b d c.loop-block.invariant.0 c.in-Some.ensures true c.in_ok-found.ensures.puts)

pub returns-then-is_some-clause-reads : goal.returns-then-is_some-clause-reads
returns-then-is_some-clause-reads g c =
    let V = g.R.Rig.view in
    let some : is_some c.in_ok-found.found ≡ true = search (rules, c.is_some.ensures, c.if-is_some.true) in
    let order = c.in_ok-found.ensures.order in
    reads_differ c.args.chip.now c.args.image.now c.loop-block.done c.in-Some.block (V c.args.rig.now) (V c.loop-block.rig) (V c.compare_block.new.rig) c.loop-block.invariant.0 c.in-Some.ensures c.in_ok-found.found order.0 some order.1 order.2

pub returns-in_err-found-clause-reads_stop : goal.returns-in_err-found-clause-reads_stop
returns-in_err-found-clause-reads_stop g c torn =
    let V = g.R.Rig.view in
    let a = V c.args.rig.now in
    let d = V c.compare_block.new.rig in
    by_fault (λ (k : Cause). StopsBy (AllByRecursion (IsReading c.args.chip.now)) k torn a d) _ c.from_residual.result c.from_residual.ensures.1
    (compared_stop c.args.chip.now c.args.image.now c.loop-block.done c.in-Some.block a (V c.loop-block.rig) d c.loop-block.invariant.0 c.in-Some.ensures _ c.in_err-found.ensures.stops torn)

pub returns-clause-reads : goal.returns-clause-reads
returns-clause-reads g c torn =
    let read = c.loop-block.invariant.0.reads torn in
    (read.0, read.1, (c.args.chip.now.base + c.loop-block.done, c.in_default.ensures, read.2), read.3)
