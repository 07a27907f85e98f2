use Rattle.std.proofs.Common.{◌≡◌, ◌++◌, ◌∙◌, List, ℕ, ap, arith}
use Rattle.std.specs.List.{flat_map, range_with_len}
use Rattle.stm_journal.proofs.Names.{kept_count}
use Rattle.stm_files.specs.Checking.{page_text}
use Rattle.stm_files.proofs.Checks.{count-is, text-more}
use Rattle.stm_files.proofs.checking.add_pages.Goals as goal

pub loop-i-preserved : goal.loop-i-preserved
loop-i-preserved g c =
    λ bytes s tied.
    let so = c.loop-i.invariant bytes s tied in
    let more = c.in_ok-add_page.ensures.honest bytes s so.0 in
    let i = c.loop-i.i in (
      more.0,
      more.1 ∙ ap (λ (xs : List ℕ). xs ++ page_text s c.args.k i) so.1 ∙ text-more (page_text s c.args.k) c.args.out.now.items 0 i i (omega arith),
    )

pub returns-clause-honest : goal.returns-clause-honest
returns-clause-honest g c =
    λ bytes s tied.
    let so = c.loop-i.invariant bytes s tied in
    let same = count-is s c.args.journal.now.state c.args.k tied.state in
    let all : c.loop-i.i ≡ kept_count s c.args.k = omega (arith, c.loop-i-test.false, c.loop-i.auto.i-end, c.kept_count-i-end.ensures, same) in
    (so.0, so.1 ∙ ap (λ (n : ℕ). c.args.out.now.items ++ flat_map (page_text s c.args.k) (range_with_len 0 n)) all)
