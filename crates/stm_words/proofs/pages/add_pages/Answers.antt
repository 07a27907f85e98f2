use Rattle.std.proofs.Common.{◌≡◌, ℕ, ◌+◌, ◌-◌, ◌≤◌, List, [], ◌∷◌, ◌++◌, refl, ◌∙◌, ap, append_assoc, arith}
use Rattle.std.specs.List.{range_with_len}
use Rattle.stm_words.proofs.NamedPages.{range-to}
use Rattle.stm_words.proofs.pages.add_pages.Goals as goal

pub loop-n-preserved : goal.loop-n-preserved
loop-n-preserved c =
    let a : ℕ = c.in-Some.first in
    let n : ℕ = c.loop-n.n in
    let old : List ℕ = c.args.pages.now.items in
    let le : a ≤ n = omega (arith, c.loop-n.auto.n, c.from-n.ensures) in
    c.in_ok-push.ensures.items
    ∙ ap (λ (xs : List ℕ). xs ++ n ∷ []) c.loop-n.invariant
    ∙ append_assoc old (range_with_len a (n - a)) (n ∷ [])
    ∙ ap (λ (r : List ℕ). old ++ r) (range-to a n le)

pub returns : goal.returns
returns c =
    let a : ℕ = c.in-Some.first in
    let last : ℕ = c.in-Some.last in
    let old : List ℕ = c.args.pages.now.items in
    let ordered : a ≤ last = c.in-Some.ensures.1 in
    let within = c.loop-n.auto.n-end (omega (arith, c.from-n.ensures, c.from-n-end.ensures, ordered)) in
    let end : c.loop-n.n ≡ last + 1 = omega (arith, c.loop-n-test.false, within, c.from-n-end.ensures) in (
      range_with_len a (last + 1 - a),
      record { first = a; last = last; is = c.in-Some.ensures; pages_are = refl },
      c.loop-n.invariant ∙ ap (λ m. old ++ range_with_len a (m - a)) end,
    )
