use Rattle.std.proofs.Common.{◌≡◌, ◌<◌, ◌==◌, true, false, not, ◌&&◌, sym, ◌∙◌, ap, arith}
use Rattle.std.proofs.lemmas.Bool.Decides.{nat_tests}
use Rattle.stm_wire.proofs.Names.{page_count, page_size}
use Rattle.stm_session.proofs.Names.{first_of, lacks_companion, segment_pages}
use Rattle.stm_session.proofs.Misfits.{first_size, fits-beyond, fits-place, fits-none}
use Rattle.stm_session.proofs.check.fits.Goals as goal

pub returns-then-n-pages_of-clause-value : goal.returns-then-n-pages_of-clause-value
returns-then-n-pages_of-clause-value c =
    sym (fits-beyond (first_of c.args.most c.args.chip.now) (segment_pages c.args.journal.now.state c.args.k) c.args.n (omega (arith, c.pages_of.ensures)))

pub returns-then-place-size-clause-value : goal.returns-then-place-size-clause-value
returns-then-place-size-clause-value c =
    let within : c.args.n < page_count (first_of c.args.most c.args.chip.now) = omega (arith, c.pages_of.ensures) in
    let size : c.from-size.result ≡ page_size (first_of c.args.most c.args.chip.now) c.args.n = c.from-size.ensures ∙ c.page_size.ensures.bytes ∙ sym (first_size c.args.most c.args.chip.now c.args.n within) in
    let same : (c.in-Some.place.length == c.from-size.result) ≡ true = grind (arith, nat_tests) in
    let sized : (c.in-Some.place.length == page_size (first_of c.args.most c.args.chip.now) c.args.n) ≡ true = sym (ap (λ m. c.in-Some.place.length == m) size) ∙ same in
    ap (λ b. not b) c.lacks_companion-alone.ensures
    ∙ sym (ap (λ b. b && not (lacks_companion (first_of c.args.most c.args.chip.now) (segment_pages c.args.journal.now.state c.args.k) c.args.n)) sized)
    ∙ sym (fits-place (first_of c.args.most c.args.chip.now) c.args.journal.now.state c.args.k c.args.n c.in-Some.place within c.in-Some.ensures.place)

pub returns-else-place-size-clause-value : goal.returns-else-place-size-clause-value
returns-else-place-size-clause-value c =
    let within : c.args.n < page_count (first_of c.args.most c.args.chip.now) = omega (arith, c.pages_of.ensures) in
    let size : c.from-size.result ≡ page_size (first_of c.args.most c.args.chip.now) c.args.n = c.from-size.ensures ∙ c.page_size.ensures.bytes ∙ sym (first_size c.args.most c.args.chip.now c.args.n within) in
    let other : (c.in-Some.place.length == c.from-size.result) ≡ false = grind (arith, nat_tests) in
    let sized : (c.in-Some.place.length == page_size (first_of c.args.most c.args.chip.now) c.args.n) ≡ false = sym (ap (λ m. c.in-Some.place.length == m) size) ∙ other in
    other
    ∙ sym (ap (λ b. b && not (lacks_companion (first_of c.args.most c.args.chip.now) (segment_pages c.args.journal.now.state c.args.k) c.args.n)) sized)
    ∙ sym (fits-place (first_of c.args.most c.args.chip.now) c.args.journal.now.state c.args.k c.args.n c.in-Some.place within c.in-Some.ensures.place)

pub returns-in-None-clause-value : goal.returns-in-None-clause-value
returns-in-None-clause-value c = sym (fits-none (first_of c.args.most c.args.chip.now) c.args.journal.now.state c.args.k c.args.n c.in-None.ensures.place)
