-- The pages of one word more, and one page more of a range.
use Rattle.std.proofs.Common.{◌≡◌, ℕ, ◌+◌, ◌-◌, ◌≤◌, List, [], ◌∷◌, ◌++◌, refl, sym, ◌∙◌, ap, append_assoc, append-nil, arith}
use Rattle.std.specs.List.{range_with_len}
use Rattle.std.proofs.lemmas.List.{map-id}
use Rattle.std.proofs.lemmas.List.FromFn.{map-range_with_len_more}
use Rattle.stm_words.specs.Pages.{NameAll, NamesPages}

pub name_more : (words : List (List ℕ)) (word pages some : List ℕ) → NameAll words pages → NamesPages word some → NameAll (words ++ word ∷ []) (pages ++ some)
name_more [] word pages some all names = (some, [], names, refl, ap (λ ps. ps ++ some) all ∙ sym (append-nil some))
name_more (first ∷ words) word pages some all names =
    let more = name_more words word all.1 some all.3 names in
    (all.0, all.1 ++ some, all.2, more, ap (λ ps. ps ++ some) all.4 ∙ append_assoc all.0 all.1 some)

range-more : (a n : ℕ) → range_with_len a (n + 1) ≡ range_with_len a n ++ (a + n) ∷ []
range-more a n = sym (map-id (range_with_len a (n + 1))) ∙ map-range_with_len_more (λ m. m) a n (a + n) refl ∙ ap (λ ns. ns ++ (a + n) ∷ []) (map-id (range_with_len a n))

-- the pages from a on, and page n
pub range-to : (a n : ℕ) → a ≤ n → range_with_len a (n - a) ++ n ∷ [] ≡ range_with_len a (n + 1 - a)
range-to a n le =
    let there : n ≡ a + (n - a) = omega (arith, le) in
    let more : (n - a) + 1 ≡ n + 1 - a = omega (arith, le) in
    ap (λ m. range_with_len a (n - a) ++ m ∷ []) there ∙ sym (range-more a (n - a)) ∙ ap (range_with_len a) more
