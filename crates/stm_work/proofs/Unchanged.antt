-- Segments that changed nothing, one number more.
use Rattle.std.proofs.Common.{◌≡◌, ◌+◌, ◌-◌, ◌<◌, ◌≤◌, ℕ, Bool, [], ◌∷◌, ◌++◌, ap, ◌∙◌, sym}
use Rattle.std.proofs.Common.{arith, refl, ⊎_elim}
use Rattle.std.proofs.lemmas.Bool.{cases_lt}
use Rattle.std.specs.List.{filter, range_with_len}
use Rattle.std.proofs.lemmas.List.{map-id}
use Rattle.std.proofs.lemmas.List.Elements.{filter-append}
use Rattle.std.proofs.lemmas.List.FromFn.{map-range_with_len_more}

range-more : (a n : ℕ) → range_with_len a (n + 1) ≡ range_with_len a n ++ (a + n) ∷ []
range-more a n =
    sym (map-id (range_with_len a (n + 1))) ∙ map-range_with_len_more (λ m. m) a n (a + n) refl
    ∙ ap (λ ns. ns ++ (a + n) ∷ []) (map-id (range_with_len a n))

-- those that pass a test, one number more
pub more : (p : ℕ → Bool) (a n : ℕ)
    → filter p (range_with_len a (n + 1)) ≡ filter p (range_with_len a n) ++ filter p ((a + n) ∷ [])
more p a n = ap (filter p) (range-more a n) ∙ filter-append p (range_with_len a n) ((a + n) ∷ [])

-- one segment more, counted from the newest, keeps no page
pub newer : (kept : ℕ → ℕ) (depth n : ℕ) → n < depth
    → ((k : ℕ) → depth < k + n → k ≤ depth → kept k ≡ 0) → kept (depth - n) ≡ 0
    → (k : ℕ) → depth < k + (n + 1) → k ≤ depth → kept k ≡ 0
newer kept depth n below so is k above within =
    ⊎_elim (λ (over : depth < k + n). so k over within)
    (λ (under : k + n ≤ depth).
    let same : k ≡ depth - n = omega (arith, above, under) in ap kept same ∙ is)
    (cases_lt depth (k + n))
