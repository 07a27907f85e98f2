-- The pages of some runs, run by run.
use Rattle.std.proofs.Common.{◌≡◌, ℕ, ◌+◌, ◌^◌, ◌<◌, List, [], ◌∷◌, ◌++◌, length, get_or, take, drop, All, refl, sym, ap, subst, ◌∙◌, arith}
use Rattle.std.specs.List.{flat_map}
use Rattle.std.proofs.lemmas.Grind.{flat_map-append}
use Rattle.std.proofs.lemmas.List.{append-nil, drop_more, length-append, take-append-drop, take_at, take_more}
use Rattle.std.proofs.lemmas.List.Elements.{All-get_or, All-same, All-tail, All-take}
use Rattle.stm_chip.specs.Entry.{PageRun, IsRun, IsPaged, CanAdd, pages_of}

right-All : (P : ℕ → Type 0) (xs ys : List ℕ) → All P (xs ++ ys) → All P ys
right-All P [] ys h = h
right-All P (x ∷ xs) ys h = right-All P xs ys (All-tail P x (xs ++ ys) h)

left-All : (P : ℕ → Type 0) (xs ys : List ℕ) → All P (xs ++ ys) → All P xs
left-All P xs ys h = All-same P xs (take (length xs) (xs ++ ys)) (sym (take_at xs ys (length xs) refl)) (All-take P (length xs) (xs ++ ys) h)

-- one run more
pub pages_more : (runs : List PageRun) (i : ℕ) (d : PageRun) → i < length runs
    → flat_map pages_of (take (i + 1) runs) ≡ flat_map pages_of (take i runs) ++ pages_of (get_or runs i d)
pages_more runs i d h =
    ap (flat_map pages_of) (take_more runs i d h) ∙ flat_map-append pages_of (take i runs) (get_or runs i d ∷ [])
    ∙ ap (λ xs. flat_map pages_of (take i runs) ++ xs) (append-nil (pages_of (get_or runs i d)))

-- where runs leave room for their pages, so does each
pub paged_at : (runs : List PageRun) (i : ℕ) (d : PageRun) → i < length runs → IsPaged runs → CanAdd (flat_map pages_of (take i runs)) (get_or runs i d)
paged_at runs i d h p =
    let before = flat_map pages_of (take i runs) in
    let here = pages_of (get_or runs i d) in
    let after = flat_map pages_of (drop (i + 1) runs) in
    let parts : flat_map pages_of runs ≡ before ++ (here ++ after) =
    ap (flat_map pages_of) (sym (take-append-drop i runs) ∙ ap (λ rest. take i runs ++ rest) (drop_more runs i d h))
    ∙ flat_map-append pages_of (take i runs) (get_or runs i d ∷ drop (i + 1) runs) in
    let rest : All (λ size. size < 2 ^ 32) (here ++ after) =
    right-All (λ size. size < 2 ^ 32) before (here ++ after) (All-same (λ size. size < 2 ^ 32) (before ++ (here ++ after)) (flat_map pages_of runs) (sym parts) p.in_range) in
    record {
      is_run = All-get_or IsRun runs i d h p.each;
      count = omega (arith, p.count, ap length parts, length-append before (here ++ after), length-append here after);
      in_range = left-All (λ size. size < 2 ^ 32) here after rest;
    }

-- no runs leave room where one does not
pub unpaged_at : (runs : List PageRun) (i : ℕ) (d : PageRun) (sizes : List ℕ) → i < length runs → sizes ≡ flat_map pages_of (take i runs)
    → ¬ CanAdd sizes (get_or runs i d) → ¬ IsPaged runs
unpaged_at runs i d sizes h e cannot paged =
    let P : List ℕ → Type 0 = λ xs. CanAdd xs (get_or runs i d) in
    cannot (subst P (sym e) (paged_at runs i d h paged))
