-- Each page is touched or not.
use Rattle.std.proofs.Common.{◌≡◌, ◌↔◌, ◌+◌, ◌<◌, true, arith}
use Rattle.stm_wire.proofs.Names.{page_count, page_offset}
use Rattle.stm_chip.specs.Touch.{HasWithin, Touches}
use Rattle.stm_chip.proofs.Touching.{next_offset, touched_all, touched_more, touched_same, touches_page}
use Rattle.stm_chip.proofs.touch.touched.Goals as goal
use Rattle.stm_chip.proofs.touch.touched.Goals.{then-has_within+in_ok-push, else-has_within}

pub loop-n-preserved : goal.loop-n-preserved
loop-n-preserved c =
    let chip = c.args.chip.now in
    let image = c.args.image.now in
    let n = c.loop-n.n in
    let pages = c.loop-n.pages.items in
    let start = c.base.result + c.loop-n.offset in
    let size = c.page_size-size.result in
    let page : n < page_count chip = omega (arith, c.loop-n-test.true, c.pages-n-end.ensures) in
    let start_is : start ≡ chip.base + page_offset chip n = omega (arith, c.base.ensures, c.loop-n.invariant.offset_is) in
    let here : Touches chip image n ↔ HasWithin image start size = touches_page chip image n start size page start_is c.page_size-size.ensures.bytes in
    record {
      pages =
          elim c.if-has_within.branch [
            | then-has_within+in_ok-push w ↦
                let held : Touches chip image n = here.1 (c.has_within.ensures.0 w.if-has_within.true) in
                rw (w.pages-is, w.in_ok-push.ensures.items) (touched_more chip image n pages c.loop-n.invariant.pages held)
            | else-has_within w ↦
                let free : ¬ Touches chip image n = λ held. let t : c.has_within.result ≡ true = c.has_within.ensures.1 (here.0 held) in cc in
                rw w.pages-is (touched_same chip image n pages c.loop-n.invariant.pages free)
          ];
      offset_is = omega (arith, next_offset chip n page, c.page_size-size.ensures.bytes, c.loop-n.invariant.offset_is);
    }

pub returns-clause-pages : goal.returns-clause-pages
returns-clause-pages c =
    touched_all c.args.chip.now c.args.image.now c.loop-n.n c.loop-n.pages.items c.loop-n.invariant.pages (rw (← c.pages-n-end.ensures) c.loop-n-test.false)
