use Rattle.std.proofs.Common.{◌++◌, ◌∙◌, List, ℕ, ap}
use Rattle.stm_files.proofs.Checks.{page-line-is}
use Rattle.stm_files.proofs.checking.add_page.Goals as goal

pub returns-clause-honest : goal.returns-clause-honest
returns-clause-honest g c =
    λ bytes s tied.
    let got = c.in_ok-sum.ensures.honest bytes s tied in
    let line =
    page-line-is s c.args.journal.now.state c.args.k c.args.i c.in-Some.page c.in-Some.field-0-1 c.in-Some-kept_place.place c.in_ok-sum.sum tied.state c.in-Some.ensures
    c.in-Some-kept_place.ensures.place got.1 in
    (got.0, c.in_ok-add_line.ensures ∙ ap (λ (xs : List ℕ). c.args.out.now.items ++ xs) line)
