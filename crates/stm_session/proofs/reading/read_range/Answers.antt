-- A round of the loop reads a block more.
use Rattle.std.proofs.Common.{◌≡◌, ◌≤◌, ◌+◌, ◌-◌, ◌*◌, ◌++◌, ◌∷◌, arith, ap, ◌∙◌, ℕ, Bool, List, Some, [], true, length, refl, subst, sym}
use Rattle.stm_wire.proofs.Names.{GoesOn, IsPart, read_turns}
use Rattle.stm_session.proofs.Names.{AreReadsOf, Begin, bytes_at, Cause, ComeInBlocks, is_whole, IsInOrder, IsReading, most_of_command, Sends, Step, StopsBy}
use Rattle.stm_session.proofs.Arrivals.{come_more}
use Rattle.stm_session.proofs.Asking.{asks_failed, asks_ok, memory_refused, nothing_asked}
use Rattle.stm_session.proofs.Ranges.{block_adds, block_asks, size-limit, block_part, block_read, block_stop, blocks_all, blocks_more, blocks_stop}
use Rattle.stm_wire.specs.lemmas.DialogueLaws.{GoesOn-nothing}
use Rattle.std.specs.List.{AllByRecursion}
use Rattle.stm_session.proofs.CutShort.{by_fault, memory_stops, reads_begin}
use Rattle.stm_wire.specs.lemmas.PartLaws.{nothing_is_part, part_longer}
use Rattle.stm_session.proofs.Sending.{same_fault}
use Rattle.stm_session.proofs.RunOrders.{reads_nothing}
use Rattle.stm_session.proofs.reading.read_range.Goals as goal

pub returns-in_err-bytes-clause-honest : goal.returns-in_err-bytes-clause-honest
returns-in_err-bytes-clause-honest g c h settled chip =
    let V = g.R.Rig.view in
    memory_refused (V c.args.rig.now) (V c.args.rig.now) (tt {0}) c.from_residual.result
    (nothing_asked c.sending_is_harmless.ensures.asking (V c.args.rig.now) (tt {0}) (λ x. Unit {0}) h (g.met.R.Rig.model c.args.rig.now h) settled tt) c.from_residual.ensures.1

pub loop-done-init : goal.loop-done-init
loop-done-init g c =
    let V = g.R.Rig.view in (
      omega (arith, c.in_ok-bytes.ensures.len),
      record {
        within = omega arith;
        line = refl;
        journal = refl;
        stays = λ h. h;
        parts = nothing_is_part (Some c.args.chip.now) true 0 (V c.args.rig.now).calls;
        reads = reads_nothing c.args.chip.now (ComeInBlocks c.args.start c.in_ok-bytes.bytes.items) (V c.args.rig.now) c.in_ok-bytes.ensures.items;
        order = λ page within even torn. record { blocks = 0; is = refl; many = omega (arith, c.in_ok-bytes.ensures.len); steps = GoesOn-nothing (IsInOrder torn []) (V c.args.rig.now).calls refl };
        honest = λ h settled chip. nothing_asked c.sending_is_harmless.ensures.asking (V c.args.rig.now) (tt {0}) _ h (g.met.R.Rig.model c.args.rig.now h) settled c.in_ok-bytes.ensures.items;
      },
      record { exists = omega arith; before = refl; begins = omega arith },
    )

pub loop-done-preserved : goal.loop-done-preserved
loop-done-preserved g c =
    let V = g.R.Rig.view in
    let so_far = c.loop-done.invariant.1 in (
      omega (arith, c.loop-done.invariant.0, c.in_ok-read_block.ensures.size),
      record {
        within = omega (arith, c.block_size-block.ensures.cut, c.loop-done-test.true);
        line = c.in_ok-read_block.ensures.cause.line_done ∙ so_far.line;
        journal = c.in_ok-read_block.ensures.cause.journal_done ∙ so_far.journal;
        stays = λ h. c.in_ok-read_block.ensures.cause.honest (so_far.stays h);
        parts = block_part c.args.chip.now c.args.start c.args.size c.loop-done.done c.block_size-block.result c.loop-done.bytes.items (V c.args.rig.now) (V c.loop-done.rig) (V c.read_block.new.rig) true
            c.loop-done-test.true so_far c.block_size-block.ensures c.in_ok-read_block.ensures.puts;
        reads =
            let start = c.args.start in
            let address = c.args.start + c.loop-done.done in
            let before = c.loop-done.bytes.items in
            let after = c.read_block.new.bytes.items in
            let order = c.in_ok-read_block.ensures.order in
            let at : address ≡ start + length before = omega (arith, c.loop-done.invariant.0) in
            let longer : (xs : List Step) → ComeInBlocks start before xs → ComeInBlocks start after (xs ++ Sends (read_turns address order.0) ∷ []) =
            λ xs came.
            let own : List Step = Sends (read_turns address order.0) ∷ [] in
            let P : List ℕ → Type 0 = λ bytes. ComeInBlocks start bytes (xs ++ own) in
            subst P (sym order.1) (come_more start address before order.0 xs at came) in
            block_read c.args.chip.now (ComeInBlocks start before) (ComeInBlocks start after) address (c.args.size - c.loop-done.done) c.block_size-block.result order.0 (V c.args.rig.now) (V c.loop-done.rig) (V c.read_block.new.rig)
            longer (omega (arith, c.loop-done-test.true)) c.block_size-block.ensures so_far.reads order.2;
        order = λ page within even torn.
            blocks_more c.args.chip.now c.args.start c.args.size c.loop-done.done c.block_size-block.result page torn c.loop-done.bytes.items (V c.args.rig.now) (V c.loop-done.rig) (V c.read_block.new.rig)
            c.loop-done-test.true (so_far.order page within even torn) c.block_size-block.ensures within even c.read_block.new.bytes.items c.in_ok-read_block.ensures.order.0 c.in_ok-read_block.ensures.order.1 c.in_ok-read_block.ensures.order.2;
        honest = λ h settled chip.
            block_asks c.args.chip.now c.args.start c.args.size c.loop-done.done c.block_size-block.result c.loop-done.bytes.items
            (V c.args.rig.now) (V c.loop-done.rig) (V c.read_block.new.rig) so_far c.loop-done-test.true c.requires c.block_size-block.ensures h settled chip
            _ _ _ c.in_ok-read_block.ensures.honest
            (λ asks. asks_ok (V c.loop-done.rig) (V c.read_block.new.rig) _ (tt {0}) asks
            (block_adds c.args.chip.now c.args.start c.args.size c.loop-done.done c.block_size-block.result c.loop-done.bytes.items
            (V c.args.rig.now) (V c.loop-done.rig) (V c.read_block.new.rig) so_far c.loop-done-test.true c.requires c.block_size-block.ensures h settled chip c.read_block.new.bytes.items));
      },
      record { exists = omega (arith, c.page_at-place.ensures.exists); before = c.page_at-place.ensures.before; begins = omega (arith, c.page_at-place.ensures.begins) },
    )

pub returns-in_err-read_block-clause-honest : goal.returns-in_err-read_block-clause-honest
returns-in_err-read_block-clause-honest g c h settled chip =
    let V = g.R.Rig.view in
    block_asks c.args.chip.now c.args.start c.args.size c.loop-done.done c.block_size-block.result c.loop-done.bytes.items
    (V c.args.rig.now) (V c.loop-done.rig) (V c.read_block.new.rig) c.loop-done.invariant.1 c.loop-done-test.true c.requires c.block_size-block.ensures h settled chip
    _ c.from_residual-in_err-read_block.result _ c.in_err-read_block.ensures.honest
    (λ asks. asks_failed (V c.loop-done.rig) (V c.read_block.new.rig) _ c.from_residual-in_err-read_block.result asks c.from_residual-in_err-read_block.ensures.1)

pub returns-clause-honest : goal.returns-clause-honest
returns-clause-honest g c h settled chip =
    let V = g.R.Rig.view in
    let so_far = c.loop-done.invariant.1 in
    let all : c.loop-done.done ≡ c.args.size = omega (arith, so_far.within, c.loop-done-test.false) in
    asks_ok (V c.args.rig.now) (V c.loop-done.rig) (tt {0}) c.loop-done.bytes (so_far.honest h settled chip)
    (λ bytes. bytes ∙ ap (λ (n : ℕ). bytes_at c.args.chip.now (V c.args.rig.now).device.flash c.args.start n) all)

pub returns-in_err-bytes-clause-puts : goal.returns-in_err-bytes-clause-puts
returns-in_err-bytes-clause-puts g c = nothing_is_part (Some c.args.chip.now) (is_whole c.from_residual.result) most_of_command (g.R.Rig.view c.args.rig.now).calls

pub returns-in_err-read_block-clause-puts : goal.returns-in_err-read_block-clause-puts
returns-in_err-read_block-clause-puts g c =
    let V = g.R.Rig.view in
    let a = (V c.args.rig.now).calls in
    let d = (V c.read_block.new.rig).calls in
    let limit : c.args.size ≤ 2097152 = size-limit c.args.chip.now c.args.start c.args.size c.keeps_limits.ensures.chip c.requires in
    let P : Bool → Type 0 = λ w. GoesOn (IsPart (Some c.args.chip.now) w most_of_command) a d in
    same_fault P _ c.from_residual-in_err-read_block.result c.from_residual-in_err-read_block.ensures.1
    (part_longer (Some c.args.chip.now) _ _ most_of_command a d (omega (arith, limit, c.loop-done-test.true, c.block_size-block.ensures.cut))
    (block_part c.args.chip.now c.args.start c.args.size c.loop-done.done c.block_size-block.result c.loop-done.bytes.items (V c.args.rig.now) (V c.loop-done.rig) (V c.read_block.new.rig) _
    c.loop-done-test.true c.loop-done.invariant.1 c.block_size-block.ensures c.in_err-read_block.ensures.puts))

pub returns-clause-puts : goal.returns-clause-puts
returns-clause-puts g c =
    let V = g.R.Rig.view in
    let so_far = c.loop-done.invariant.1 in
    let limit : c.args.size ≤ 2097152 = size-limit c.args.chip.now c.args.start c.args.size c.keeps_limits.ensures.chip c.requires in
    part_longer (Some c.args.chip.now) true (13 * c.loop-done.done) most_of_command (V c.args.rig.now).calls (V c.loop-done.rig).calls (omega (arith, limit, so_far.within)) so_far.parts

pub returns-clause-order : goal.returns-clause-order
returns-clause-order g c page within even torn =
    let V = g.R.Rig.view in
    let so_far = c.loop-done.invariant.1 in
    let all : c.loop-done.done ≡ c.args.size = omega (arith, so_far.within, c.loop-done-test.false) in
    blocks_all c.args.start c.args.size c.loop-done.done c.loop-done.bytes.items torn (V c.args.rig.now) (V c.loop-done.rig) all (so_far.order page within even torn)

pub returns-clause-reads : goal.returns-clause-reads
returns-clause-reads g c = c.loop-done.invariant.1.reads

pub returns-in_err-bytes-clause-order_stops : goal.returns-in_err-bytes-clause-order_stops
returns-in_err-bytes-clause-order_stops g c page within even torn =
    let a = g.R.Rig.view c.args.rig.now in
    memory_stops (Begin (AreReadsOf c.args.start c.args.size)) torn [] a a c.from_residual.result c.from_residual.ensures.1 (reads_begin c.args.start c.args.size) (GoesOn-nothing (IsInOrder torn []) a.calls refl)

pub returns-in_err-read_block-clause-order_stops : goal.returns-in_err-read_block-clause-order_stops
returns-in_err-read_block-clause-order_stops g c page within even torn =
    let V = g.R.Rig.view in
    let a = V c.args.rig.now in
    let d = V c.read_block.new.rig in
    by_fault (λ (k : Cause). StopsBy (Begin (AreReadsOf c.args.start c.args.size)) k torn a d) _ c.from_residual-in_err-read_block.result c.from_residual-in_err-read_block.ensures.1
    (blocks_stop c.args.chip.now c.args.start c.args.size c.loop-done.done c.block_size-block.result page torn c.loop-done.bytes.items a (V c.loop-done.rig) d c.loop-done-test.true
    (c.loop-done.invariant.1.order page within even torn) c.block_size-block.ensures within even _ (c.in_err-read_block.ensures.stops torn))

pub returns-in_err-bytes-clause-reads_stop : goal.returns-in_err-bytes-clause-reads_stop
returns-in_err-bytes-clause-reads_stop g c torn =
    let a = g.R.Rig.view c.args.rig.now in
    memory_stops (AllByRecursion (IsReading c.args.chip.now)) torn [] a a c.from_residual.result c.from_residual.ensures.1 tt (GoesOn-nothing (IsInOrder torn []) a.calls refl)

pub returns-in_err-read_block-clause-reads_stop : goal.returns-in_err-read_block-clause-reads_stop
returns-in_err-read_block-clause-reads_stop g c torn =
    let V = g.R.Rig.view in
    let a = V c.args.rig.now in
    let d = V c.read_block.new.rig in
    by_fault (λ (k : Cause). StopsBy (AllByRecursion (IsReading c.args.chip.now)) k torn a d) _ c.from_residual-in_err-read_block.result c.from_residual-in_err-read_block.ensures.1
    (block_stop c.args.chip.now (ComeInBlocks c.args.start c.loop-done.bytes.items) (c.args.start + c.loop-done.done) (c.args.size - c.loop-done.done) c.block_size-block.result _ a (V c.loop-done.rig) d (omega (arith, c.loop-done-test.true)) c.block_size-block.ensures
    c.loop-done.invariant.1.reads c.in_err-read_block.ensures.stops torn)
