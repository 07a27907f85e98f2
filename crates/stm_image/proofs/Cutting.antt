-- Runs and parts of rising pairs, from their front.
use Rattle.std.proofs.Common.{◌≡◌, ◌≢◌, ℕ, ◌+◌, ◌/◌, ◌%◌, ◌<◌, ◌≤◌, ◌++◌, List, [], ◌∷◌, length, take, drop, get_or, ◌⊎◌, inl, inr, refl, sym, ap, ap₂, ◌∙◌, append_assoc, length-drop, arith}
use Rattle.std.specs.Prelude.{Bool, true, false, ◌==◌, ◌&&◌, not, if◌then◌else◌}
use Rattle.std.proofs.lemmas.Bool.{cases_eq}
use Rattle.std.proofs.lemmas.Bool.Decides.{nat_tests}
use Rattle.std.proofs.lemmas.Grind.{common_steps}
use Rattle.std.proofs.lemmas.List.{take-append-drop, take_all, length-take}
use Rattle.std.proofs.lemmas.List.Elements.{Contains-get_or}
use Rattle.std.proofs.Math.Seq.{take-append_seam, drop-append_seam}
use Rattle.stm_image.specs.Pairs.{Pairs, raw_pairs}
use Rattle.stm_image.specs.Canon.{Run, join, runs_of, parts_of_run, parts_of, lines, line, upper_line}
use Rattle.stm_image.specs.Parts.{IsRecordPart, EndsPart, IsBehind}
use Rattle.stm_image.proofs.Standing.{raw_pairs-append}

-- bytes from a start on before some runs, where `next` is the address after them
abbrev join_at : ℕ → ℕ → List ℕ → List Run → List Run
join_at next s bs [] = (s, bs) ∷ []
join_at next s bs ((t, cs) ∷ runs) = if (t == next) && not (t % 65536 == 0) then (s, bs ++ cs) ∷ runs else (s, bs) ∷ (t, cs) ∷ runs

follows_itself : (s : ℕ) → (s + 1) % 65536 ≢ 0 → ((s + 1 == s + 1) && not ((s + 1) % 65536 == 0)) ≡ true
follows_itself s ne = grind (arith, nat_tests)

join_by_test : (s b next : ℕ) (bs cs : List ℕ) (t : ℕ) (runs : List Run) (v : Bool) → (s + 1) % 65536 ≢ 0
    → join s b (if v then (s + 1, bs ++ cs) ∷ runs else (s + 1, bs) ∷ (t, cs) ∷ runs) ≡ (if v then (s, b ∷ bs ++ cs) ∷ runs else (s, b ∷ bs) ∷ (t, cs) ∷ runs)
join_by_test s b next bs cs t runs true ne = rw (follows_itself s ne) refl
join_by_test s b next bs cs t runs false ne = rw (follows_itself s ne) refl

join_longer : (s b next : ℕ) (bs : List ℕ) (runs : List Run) → (s + 1) % 65536 ≢ 0 → join s b (join_at next (s + 1) bs runs) ≡ join_at next s (b ∷ bs) runs
join_longer s b next bs [] ne = rw (follows_itself s ne) refl
join_longer s b next bs ((t, cs) ∷ runs) ne = join_by_test s b next bs cs t runs ((t == next) && not (t % 65536 == 0)) ne

join_first : (s b : ℕ) (runs : List Run) → join s b runs ≡ join_at (s + 1) s (b ∷ []) runs
join_first s b [] = refl
join_first s b ((t, cs) ∷ runs) = refl

-- consecutive bytes that do not cross a multiple of 65536 are of one run
runs_of-raw : (s b : ℕ) (bs : List ℕ) (rest : Pairs) (next : ℕ) → next ≡ s + length (b ∷ bs) → s % 65536 + length (b ∷ bs) ≤ 65536
    → runs_of (raw_pairs s (b ∷ bs) ++ rest) ≡ join_at next s (b ∷ bs) (runs_of rest)
runs_of-raw s b [] rest next is below = join_first s b (runs_of rest) ∙ ap (λ n. join_at n s (b ∷ []) (runs_of rest)) (sym is)
runs_of-raw s b (c ∷ bs) rest next is below =
    let inside : (s + 1) % 65536 ≢ 0 = λ e. omega arith in
    let later = runs_of-raw (s + 1) c bs rest next (omega arith) (omega arith) in
    ap (join s b) later ∙ join_longer s b next (c ∷ bs) (runs_of rest) inside

-- the first run begins at the first pair
join_head : (a b : ℕ) (runs more : List Run) (t : ℕ) (cs : List ℕ) → join a b runs ≡ (t, cs) ∷ more → a ≡ t
join_head a b [] more t cs e = ap first e
  where
    first : List Run → ℕ
    first [] = 0
    first (r ∷ rs) = r.0
join_head a b ((start, bytes) ∷ runs) more t cs e = of_test ((start == a + 1) && not (start % 65536 == 0)) e
  where
    first : List Run → ℕ
    first [] = 0
    first (r ∷ rs) = r.0

    of_test : (v : Bool) → (if v then (a, b ∷ bytes) ∷ runs else (a, b ∷ []) ∷ (start, bytes) ∷ runs) ≡ (t, cs) ∷ more → a ≡ t
    of_test true e = ap first e
    of_test false e = ap first e

runs_head : (rest : Pairs) (t : ℕ) (cs : List ℕ) (more : List Run) → runs_of rest ≡ (t, cs) ∷ more → (0 < length rest) × ((get_or rest 0 (0, 0)).0 ≡ t)
runs_head [] t cs more e = cc
runs_head ((a, b) ∷ rest) t cs more e = (omega arith, join_head a b (runs_of rest) more t cs e)

-- CUTTING: nothing gives no part, and more steps than needed change nothing
cut_nothing : (steps : List ℕ) (s : ℕ) → parts_of_run steps s [] ≡ []
unfolding parts_of_run
cut_nothing [] s = refl
cut_nothing (x ∷ steps) s = refl

cut_steps : (f g : List ℕ) (s : ℕ) (bytes : List ℕ) → length bytes ≤ length f → length bytes ≤ length g → parts_of_run f s bytes ≡ parts_of_run g s bytes
unfolding parts_of_run
cut_steps f g s [] lf lg = cut_nothing f s ∙ sym (cut_nothing g s)
cut_steps (x ∷ f) (y ∷ g) s (b ∷ bytes) lf lg =
    let shorter = length-drop 16 (b ∷ bytes) in
    ap (λ parts. (s, take 16 (b ∷ bytes)) ∷ parts) (cut_steps f g (s + 16) (drop 16 (b ∷ bytes)) (omega arith) (omega arith))
cut_steps f g s bytes lf lg = absurd (omega arith)

drop_all : (n : ℕ) (xs : List ℕ) → length xs ≤ n → drop n xs ≡ []
drop_all n xs le = grind (arith, common_steps)

cut_one : (s b : ℕ) (bs : List ℕ) → length (b ∷ bs) ≤ 16 → parts_of_run (b ∷ bs) s (b ∷ bs) ≡ (s, b ∷ bs) ∷ []
unfolding parts_of_run
cut_one s b bs short =
    ap₂ (λ front rest. (s, front) ∷ parts_of_run bs (s + 16) rest) (take_all 16 (b ∷ bs) short) (drop_all 16 (b ∷ bs) short) ∙ ap (λ parts. (s, b ∷ bs) ∷ parts) (cut_nothing bs (s + 16))

cut_full : (s b : ℕ) (bs cs : List ℕ) → length (b ∷ bs) ≡ 16 → parts_of_run (b ∷ bs ++ cs) s (b ∷ bs ++ cs) ≡ (s, b ∷ bs) ∷ parts_of_run cs (s + 16) cs
unfolding parts_of_run
cut_full s b bs cs full =
    let front : take 16 ((b ∷ bs) ++ cs) ≡ b ∷ bs = ap (λ n. take n ((b ∷ bs) ++ cs)) (sym full) ∙ take-append_seam (b ∷ bs) cs in
    let back : drop 16 ((b ∷ bs) ++ cs) ≡ cs = ap (λ n. drop n ((b ∷ bs) ++ cs)) (sym full) ∙ drop-append_seam (b ∷ bs) cs in
    ap₂ (λ f r. (s, f) ∷ parts_of_run (bs ++ cs) (s + 16) r) front back ∙ ap (λ parts. (s, b ∷ bs) ∷ parts) (cut_steps (bs ++ cs) cs (s + 16) cs (grind (arith, common_steps)) (omega arith))

-- the bytes are a whole record, or no run goes on from them
abbrev NoneJoins : ℕ → ℕ → Pairs → Type 0
NoneJoins s count rest = (count ≡ 16) ⊎ ((t : ℕ) (cs : List ℕ) (more : List Run) → runs_of rest ≡ (t, cs) ∷ more → ((t == s + count) && not (t % 65536 == 0)) ≡ false)

parts_joined : (s b : ℕ) (bs : List ℕ) (t : ℕ) (cs : List ℕ) (runs : List Run) (v : Bool) → ((t == s + length (b ∷ bs)) && not (t % 65536 == 0)) ≡ v → length (b ∷ bs) ≤ 16
    → (length (b ∷ bs) ≡ 16) ⊎ (v ≡ false)
    → parts_of (if v then (s, b ∷ bs ++ cs) ∷ runs else (s, b ∷ bs) ∷ (t, cs) ∷ runs) ≡ (s, b ∷ bs) ∷ parts_of ((t, cs) ∷ runs)
parts_joined s b bs t cs runs false e short ends = ap (λ parts. parts ++ parts_of ((t, cs) ∷ runs)) (cut_one s b bs short)
parts_joined s b bs t cs runs true e short (inr never) = cc
parts_joined s b bs t cs runs true e short (inl full) =
    let at : t ≡ s + 16 = joined_at e in
    ap (λ parts. parts ++ parts_of runs) (cut_full s b bs cs full ∙ ap (λ n. (s, b ∷ bs) ∷ parts_of_run cs n cs) (sym at))
  where
    joined_at : ((t == s + length (b ∷ bs)) && not (t % 65536 == 0)) ≡ true → t ≡ s + 16
    joined_at e = grind (arith, nat_tests)

parts_front : (s : ℕ) (xs : List ℕ) (rest : Pairs) → 0 < length xs → length xs ≤ 16 → s % 65536 + length xs ≤ 65536 → NoneJoins s (length xs) rest
    → parts_of (runs_of (raw_pairs s xs ++ rest)) ≡ (s, xs) ∷ parts_of (runs_of rest)
parts_front s [] rest some short below ends = absurd (omega arith)
parts_front s (b ∷ bs) rest some short below ends = ap parts_of (runs_of-raw s b bs rest (s + length (b ∷ bs)) refl below) ∙ of_runs (runs_of rest) refl
  where
    of_runs : (runs : List Run) → runs_of rest ≡ runs → parts_of (join_at (s + length (b ∷ bs)) s (b ∷ bs) runs) ≡ (s, b ∷ bs) ∷ parts_of runs
    of_runs [] is = ap (λ parts. parts ++ []) (cut_one s b bs short)
    of_runs ((t, cs) ∷ runs) is = parts_joined s b bs t cs runs ((t == s + length (b ∷ bs)) && not (t % 65536 == 0)) refl short (elim ends [ inl full ↦ inl full | inr none ↦ inr (none t cs runs is) ])

other_address : (t n : ℕ) → t ≢ n → ((t == n) && not (t % 65536 == 0)) ≡ false
other_address t n ne = grind (arith, nat_tests)

at_edge : (t n : ℕ) → n % 65536 ≡ 0 → ((t == n) && not (t % 65536 == 0)) ≡ false
at_edge t n edge = elim (cases_eq t n) [
  | inl e ↦ rw e (edge_test n edge)
  | inr ne ↦ other_address t n ne
]
  where
    edge_test : (n : ℕ) → n % 65536 ≡ 0 → ((n == n) && not (n % 65536 == 0)) ≡ false
    edge_test n edge = grind (arith, nat_tests)

-- THE LINES OF A PART, and then those of what is left
pub lines_part : (upper s count : ℕ) (bytes : List ℕ) (later : Pairs) → IsRecordPart s (length bytes) count → IsBehind (s + length bytes) later
    → lines upper (parts_of (runs_of (raw_pairs s bytes ++ later)))
    ≡ upper_line upper (s / 65536) ++ line (s % 65536) 0 (take count bytes) ++ lines (s / 65536) (parts_of (runs_of (raw_pairs (s + count) (drop count bytes) ++ later)))
unfolding lines
lines_part upper s count bytes later part behind =
    let xs = take count bytes in
    let rest = raw_pairs (s + count) (drop count bytes) ++ later in
    let some = part.some in
    let within = part.within in
    let short = part.short in
    let below = part.below in
    let taken = length-take count bytes in
    let long : length xs ≡ count = omega arith in
    let whole : raw_pairs s bytes ++ later ≡ raw_pairs s xs ++ rest =
    ap (λ bs. raw_pairs s bs ++ later) (sym (take-append-drop count bytes))
    ∙ ap (λ ps. ps ++ later) (raw_pairs-append s xs (drop count bytes) ∙ ap (λ n. raw_pairs s xs ++ raw_pairs (s + n) (drop count bytes)) long)
    ∙ append_assoc (raw_pairs s xs) (raw_pairs (s + count) (drop count bytes)) later in
    let front = parts_front s xs rest (omega arith) (omega arith) (omega arith) (rw long (none part.ends)) in
    ap (λ ps. lines upper (parts_of (runs_of ps))) whole ∙ ap (lines upper) front
  where
    behind_all : count ≡ length bytes → (t : ℕ) (cs : List ℕ) (more : List Run) → runs_of (raw_pairs (s + count) (drop count bytes) ++ later) ≡ (t, cs) ∷ more → s + count < t
    behind_all all t cs more e =
        let nothing : drop count bytes ≡ [] = drop_all count bytes (omega arith) in
        let e_later : runs_of later ≡ (t, cs) ∷ more = ap (λ bs. runs_of (raw_pairs (s + count) bs ++ later)) (sym nothing) ∙ e in
        let head = runs_head later t cs more e_later in
        let up = behind (get_or later 0 (0, 0)) (Contains-get_or later 0 (0, 0) head.0) in
        omega (arith, head.1)

    none : EndsPart s (length bytes) count → NoneJoins s count (raw_pairs (s + count) (drop count bytes) ++ later)
    none (inl full) = inl full
    none (inr (inl edge)) = inr (λ t cs more e. at_edge t (s + count) edge)
    none (inr (inr all)) = inr (λ t cs more e. other_address t (s + count) (λ same. let up = behind_all all t cs more e in omega arith))
