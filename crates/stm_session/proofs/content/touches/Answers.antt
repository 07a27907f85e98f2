use Rattle.std.proofs.Common.{arith, sym, ap, subst, ◌∙◌, ℕ, length, ◌+◌, ◌<◌, ◌≤◌, Bool, if◌then◌else◌}
use Rattle.std.proofs.lemmas.Bool.Decides.{nat_tests}
use Rattle.stm_image.specs.Pairs.{IsNext, HasNone}
use Rattle.stm_wire.proofs.Names.{erased_page, page_offset, page_size}
use Rattle.stm_session.proofs.Names.{Change, content, MayTouch}
use Rattle.stm_session.proofs.content.touches.Goals as goal

pub returns-in-Some-clause-same : goal.returns-in-Some-clause-same
returns-in-Some-clause-same c misses held size =
    let at = c.page_start-start.ensures.address in
    let N : ℕ → Type 0 = λ a. IsNext c.in-Write.image.now a (c.in-Some.address, c.in-Some._byte) in
    let next : IsNext c.in-Write.image.now (c.args.chip.now.base + page_offset c.args.chip.now c.args.n) (c.in-Some.address, c.in-Some._byte) = subst N at c.in-Some.ensures in
    let far : c.args.chip.now.base + page_offset c.args.chip.now c.args.n + length held ≤ c.in-Some.address = grind (arith, nat_tests, misses, size, at, c.page_size-size.ensures.bytes, next.after) in
    ap (λ (k : Change). content c.args.chip.now k c.args.n held) c.in-Write.is
    ∙ c.laying_keeps_places.ensures.before c.in-Write.image.now (c.args.chip.now.base + page_offset c.args.chip.now c.args.n) held (c.in-Some.address, c.in-Some._byte) next far

pub returns-in-None-clause-same : goal.returns-in-None-clause-same
returns-in-None-clause-same c misses held size =
    let N : ℕ → Type 0 = λ a. HasNone c.in-Write.image.now a in
    ap (λ (k : Change). content c.args.chip.now k c.args.n held) c.in-Write.is
    ∙ c.laying_keeps_places.ensures.past c.in-Write.image.now (c.args.chip.now.base + page_offset c.args.chip.now c.args.n) held (subst N c.page_start-start.ensures.address c.in-None.ensures)

pub returns-in-Erase-clause-same : goal.returns-in-Erase-clause-same
returns-in-Erase-clause-same c misses held size =
    ap (λ (k : Change). content c.args.chip.now k c.args.n held) c.in-Erase.is
    ∙ ap (λ (b : Bool). if b then erased_page c.args.chip.now c.args.n else held) (sym c.names.ensures ∙ misses)

pub returns-in-Erase-clause-may : goal.returns-in-Erase-clause-may
returns-in-Erase-clause-may c found = let M : Change → Type 0 = λ k. MayTouch c.args.chip.now k c.args.n in subst M (sym c.in-Erase.is) (sym c.names.ensures ∙ found)

pub returns-in-Some-clause-may : goal.returns-in-Some-clause-may
returns-in-Some-clause-may c found =
    let at = c.page_start-start.ensures.address in
    let next = c.in-Some.ensures in
    let low : c.args.chip.now.base + page_offset c.args.chip.now c.args.n ≤ c.in-Some.address = omega (arith, at, next.after) in
    let high : c.in-Some.address < c.args.chip.now.base + page_offset c.args.chip.now c.args.n + page_size c.args.chip.now c.args.n =
    grind (arith, nat_tests, found, at, c.page_size-size.ensures.bytes, next.after) in
    let M : Change → Type 0 = λ k. MayTouch c.args.chip.now k c.args.n in
    subst M (sym c.in-Write.is) (record { place = (c.in-Some.address, c.in-Some._byte); held = next.held; begins = low; ends = high })
