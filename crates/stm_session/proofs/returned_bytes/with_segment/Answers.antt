use Rattle.std.proofs.Common.{◌≡◌, ◌+◌, ◌∙◌, ℕ, List, suc, take, sym, ap, arith}
use Rattle.std.proofs.lemmas.List.{take_all}
use Rattle.stm_wire.proofs.Names.{page_size}
use Rattle.stm_journal.specs.declared.kept.Kept.{Kept}
use Rattle.stm_journal.proofs.Names.{capped}
use Rattle.stm_session.proofs.Names.{bytes_of_pages, segment_pages}
use Rattle.stm_session.proofs.ReturnedBytes.{bytes_next, count_pages, line_at, no_line, page_exists}
use Rattle.stm_session.proofs.returned_bytes.with_segment.Goals as goal

pub unreachable-requires : goal.unreachable-requires
unreachable-requires c =
    let s = c.args.journal.now.state in
    no_line s c.args.k c.loop-i.i (omega (arith, c.loop-i-test.true, c.kept_count-count.ensures, count_pages s c.args.k)) (sym c.in_default.is ∙ c.kept.ensures)

pub page_size-requires : goal.page_size-requires
page_size-requires c = page_exists c.args.chip.now c.args.journal.now.state c.args.k c.loop-i.i c.in-Some.n c.in-Some.field-0-1 c.requires.fits (sym c.in-Some.ensures)

pub loop-i-preserved : goal.loop-i-preserved
loop-i-preserved c =
    let s = c.args.journal.now.state in
    let chip = c.args.chip.now in
    let pages = segment_pages s c.args.k in
    let there = line_at s c.args.k c.loop-i.i c.in-Some.n c.in-Some.field-0-1 (sym c.in-Some.ensures) in
    let one : suc c.loop-i.i ≡ c.loop-i.i + 1 = omega arith in
    let next = sym (ap (λ (m : ℕ). bytes_of_pages chip (take m pages)) one) ∙ bytes_next chip pages c.loop-i.i there.0 there.1 ∙ ap (λ (m : ℕ). bytes_of_pages chip (take c.loop-i.i pages) + page_size chip m) there.2 in
    omega (arith, next, c.loop-i.invariant, c.page_size.ensures.bytes, c.saturating_add-sum.ensures)

pub returns : goal.returns
returns c =
    let s = c.args.journal.now.state in
    let pages = segment_pages s c.args.k in
    let all = take_all c.loop-i.i pages (omega (arith, c.loop-i-test.false, c.kept_count-count.ensures, count_pages s c.args.k)) in
    c.loop-i.invariant ∙ ap (λ (ks : List Kept). capped (c.args.bytes + bytes_of_pages c.args.chip.now ks)) all
