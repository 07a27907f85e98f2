use Rattle.std.proofs.Common.{◌≡◌, ◌∙◌, ◌+◌, ◌<◌, false, sym, arith}
use Rattle.std.specs.Prelude.{is_some}
use Rattle.stm_wire.proofs.Names.{page_count, page_size}
use Rattle.stm_session.proofs.Names.{page_address}
use Rattle.stm_session.proofs.KeptParts.{part_kept, part_left, unplaced}
use Rattle.stm_session.proofs.verified_write.kept_part.Goals as goal
use Rattle.stm_session.proofs.verified_write.kept_part.Goals.{then-is_some+in_ok-part, else-is_some}

pub loop-n-preserved : goal.loop-n-preserved
loop-n-preserved c =
    let chip = c.args.chip.now in
    let s = c.args.journal.now.state in
    let image = c.args.image.now in
    let n = c.loop-n.n in
    let so_far = c.loop-n.invariant in
    let here : n < page_count chip = omega (arith, c.loop-n-test.true, c.pages-n-end.ensures) in
    elim c.if-is_some.branch [
      | then-is_some+in_ok-part w ↦
          let start : c.page_start-start.result ≡ page_address chip n = c.page_start-start.ensures.address in
          let with = rw (start, c.page_size-size.ensures.bytes) at w.in_ok-part.ensures in
          rw w.part-is (part_kept chip s image n here c.loop-n.part so_far _ with)
      | else-is_some w ↦
          let none : is_some c.page.result ≡ false = sym c.is_some.ensures ∙ w.if-is_some.false in
          rw w.part-is (part_left chip s image n here c.loop-n.part so_far (unplaced s c.depth-newest.result n c.page.result c.depth-newest.ensures.value c.page.ensures.place none))
    ]

pub returns-clause-kept : goal.returns-clause-kept
returns-clause-kept c n exists keeps p there =
    c.loop-n.invariant.has n (omega (arith, exists, c.loop-n-test.false, c.loop-n.auto.n-end, c.pages-n-end.ensures)) keeps p there
