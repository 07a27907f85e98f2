use Rattle.std.proofs.Common.{◌≡◌, ◌<◌, ◌==◌, ℕ, Bool, true, not, ◌&&◌, Option, Some, None, sym, ◌∙◌, ap, arith}
use Rattle.std.proofs.lemmas.Bool.Decides.{nat_tests}
use Rattle.std.specs.Prelude.{is_none}
use Rattle.std.specs.List.{list_any}
use Rattle.stm_wire.proofs.Names.{ChipData, page_count}
use Rattle.stm_journal.specs.declared.kept.PagePlace.{PagePlace}
use Rattle.stm_journal.proofs.Names.{page_place, StateData}
use Rattle.stm_session.proofs.Names.{first_of, has_companion, lacks_companion, segment_pages}
use Rattle.stm_session.proofs.Misfits.{companion-kept}
use Rattle.stm_session.proofs.check.lacks_companion.Goals as goal

-- page 1 of a chip that has its companion
alone : (chip : ChipData) (s : StateData) (k n : ℕ) (o : Option PagePlace) → n ≡ 1 → 257 < page_count chip → o ≡ page_place s k 257 → is_none o ≡ lacks_companion chip (segment_pages s k) n
alone chip s k n o one many is =
    let absent : Bool = not (list_any (λ kept. kept.page == 257) (segment_pages s k)) in
    let first : (n == 1) ≡ true = grind (arith, nat_tests) in
    let there : has_companion chip ≡ true = grind (arith, nat_tests) in
    ap (λ p. is_none p) is ∙ companion-kept s k 257 ∙ sym (ap (λ b. b && has_companion chip && absent) first ∙ ap (λ b. true && b && absent) there)

pub returns-in-Some : goal.returns-in-Some
returns-in-Some c =
    let many : 257 < page_count (first_of c.args.most c.args.chip.now) = omega (arith, c.pages_of.ensures) in
    let is : Some c.in-Some.field-0 ≡ page_place c.args.journal.now.state c.args.k 257 = c.in-Some.ensures.place in
    alone (first_of c.args.most c.args.chip.now) c.args.journal.now.state c.args.k c.args.n (Some c.in-Some.field-0) (omega arith) many is

pub returns-in-None : goal.returns-in-None
returns-in-None c =
    let many : 257 < page_count (first_of c.args.most c.args.chip.now) = omega (arith, c.pages_of.ensures) in
    let is : None ≡ page_place c.args.journal.now.state c.args.k 257 = c.in-None.ensures.place in
    alone (first_of c.args.most c.args.chip.now) c.args.journal.now.state c.args.k c.args.n None (omega arith) many is
