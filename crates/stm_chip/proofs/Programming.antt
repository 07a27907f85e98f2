-- Frames written over an erased page give the new page.
use Rattle.std.proofs.Common.{◌≡◌, ◌⊎◌, inl, inr, ℕ, zero, suc, ◌+◌, ◌-◌, ◌*◌, ◌/◌, ◌%◌, ◌<◌, ◌≤◌, ◌==◌, cond, Bool, true, false, List, [], ◌∷◌, ◌++◌, length, get_or, take, drop, replicate, refl, sym, ap, ap₂, subst, ◌∙◌, add-one, arith, length-take, length-drop}
use Rattle.std.proofs.Math.Seq.{drop-append-add, take-add}
use Rattle.std.proofs.lemmas.List.{append_assoc, append-nil, drop-replicate, replicate-append-replicate, drop_all, drop_at, drop-drop, take_all, take_at, take-append-drop, take-append-le, take_more}
use Rattle.std.proofs.lemmas.Bool.Decides.{nat_tests}
use Rattle.stm_wire.proofs.Names.{with_bytes}
use Rattle.stm_chip.specs.declared.plan.Frame.{Frame}
use Rattle.stm_chip.specs.Plan.{used_before, used_length, cut_length, frame_with, frame_of, block_of, frames_of, written}

with_more : (erased byte used n : ℕ) (test : Bool) → used_before erased byte (cond test used (n + 1)) ≡ cond test (used_before erased byte used) (suc n + 1)
with_more erased byte used n true = refl
with_more erased byte used n false = grind (arith, nat_tests)

-- one byte more at a block's end
used_more : (erased : ℕ) (bytes : List ℕ) (byte : ℕ) → used_length erased (bytes ++ byte ∷ []) ≡ cond (byte == erased) (used_length erased bytes) (length bytes + 1)
unfolding used_length
used_more erased [] byte = refl
used_more erased (b ∷ bytes) byte =
    ap (used_before erased b) (used_more erased bytes byte) ∙ with_more erased b (used_length erased bytes) (length bytes) (byte == erased)

pub used_at : (erased : ℕ) (block : List ℕ) (i : ℕ) → i < length block
    → used_length erased (take (i + 1) block) ≡ cond (get_or block i 0 == erased) (used_length erased (take i block)) (i + 1)
used_at erased block i h =
    let counted : length (take i block) ≡ i = omega (arith, length-take i block) in
    ap (used_length erased) (take_more block i 0 h) ∙ used_more erased (take i block) (get_or block i 0)
    ∙ ap (λ n. cond (get_or block i 0 == erased) (used_length erased (take i block)) (n + 1)) counted

used_before-le : (erased byte used n : ℕ) → used ≤ n → used_before erased byte used ≤ suc n
used_before-le erased byte used n h = grind (arith, nat_tests)

pub used_length-le : (erased : ℕ) (bytes : List ℕ) → used_length erased bytes ≤ length bytes
unfolding used_length
used_length-le erased [] = omega arith
used_length-le erased (b ∷ bytes) = used_before-le erased b (used_length erased bytes) (length bytes) (used_length-le erased bytes)

unused_first : (erased byte used : ℕ) → used_before erased byte used ≤ 0 → (used ≤ 0) × (byte ≡ erased)
unused_first erased byte used h = grind (arith, nat_tests)

used_rest : (erased byte used c : ℕ) → used_before erased byte used ≤ suc c → used ≤ c
used_rest erased byte used c h = grind (arith, nat_tests)

regroup : (a b c d : List ℕ) → (a ++ b) ++ (c ++ d) ≡ (a ++ (b ++ c)) ++ d
regroup a b c d = simp append_assoc

-- behind its used bytes a block has the erased byte alone
unused_tail : (erased : ℕ) (block : List ℕ) (c n : ℕ) → used_length erased block ≤ c → n ≡ length block - c → drop c block ≡ replicate n erased
unfolding used_length
unused_tail erased [] c n h e =
    let none : n ≡ 0 = omega arith in
    drop_all c [] (omega arith) ∙ sym (ap (λ m. replicate m erased) none)
unused_tail erased (b ∷ block) zero n h e =
    let first = unused_first erased b (used_length erased block) h in
    let one : n ≡ suc (length block) = omega arith in
    ap₂ (λ x xs. x ∷ xs) first.1 (unused_tail erased block zero (length block) first.0 (omega arith)) ∙ sym (ap (λ m. replicate m erased) one)
unused_tail erased (b ∷ block) (suc c) n h e = unused_tail erased block c n (used_rest erased b (used_length erased block) c h) (omega arith)

-- a frame, or none, where all is unused
pub frame_cases : (used : ℕ) (frame : Frame) → ((used ≡ 0) × (cond (used == 0) [] (frame ∷ []) ≡ [])) ⊎ ((0 < used) × (cond (used == 0) [] (frame ∷ []) ≡ frame ∷ []))
frame_cases zero frame = inl (refl, refl)
frame_cases (suc used) frame =
    let some_used : (suc used == 0) ≡ false = grind (arith, nat_tests) in
    inr (omega arith, ap (λ b. cond b [] (frame ∷ [])) some_used)

-- the bytes of a page before a block, those of the block and those after it
module _ (erased : ℕ) (front block after : List ℕ) (rest : ℕ) (size : length block ≡ 256) where
  -- a block of which nothing is used is there already
  unused : used_length erased block ≡ 0 → front ++ replicate (256 + rest) erased ≡ (front ++ block) ++ replicate rest erased
  unused none =
      let all : block ≡ replicate 256 erased = unused_tail erased block 0 256 (omega arith) (omega arith) in
      ap (λ xs. front ++ xs) (sym (replicate-append-replicate 256 rest erased) ∙ ap (λ xs. xs ++ replicate rest erased) (sym all))
      ∙ sym (append_assoc front block (replicate rest erased))

  -- a block that is written up to its used bytes
  used : (c : ℕ) → used_length erased block ≤ c → c ≤ 256
      → with_bytes (length front) (take c (drop (length front) (front ++ (block ++ after)))) (front ++ replicate (256 + rest) erased) ≡ (front ++ block) ++ replicate rest erased
  used c enough within =
      let bytes : take c (drop (length front) (front ++ (block ++ after))) ≡ take c block =
      ap (take c) (drop_at front (block ++ after) (length front) refl) ∙ take-append-le c block after (omega arith) in
      let count : length (take c block) ≡ c = omega (arith, length-take c block) in
      let tail : drop c block ≡ replicate (256 - c) erased = unused_tail erased block c (256 - c) enough (omega arith) in
      let behind : drop (length front + length (take c block)) (front ++ replicate (256 + rest) erased) ≡ replicate (256 - c) erased ++ replicate rest erased =
      ap (λ n. drop (length front + n) (front ++ replicate (256 + rest) erased)) count
      ∙ drop-append-add front (replicate (256 + rest) erased) c ∙ drop-replicate c (256 + rest) erased
      ∙ ap (λ n. replicate n erased) (omega arith) ∙ sym (replicate-append-replicate (256 - c) rest erased) in
      let whole : take c block ++ replicate (256 - c) erased ≡ block = ap (λ xs. take c block ++ xs) (sym tail) ∙ take-append-drop c block in
      ap (λ xs. with_bytes (length front) xs (front ++ replicate (256 + rest) erased)) bytes
      ∙ ap₂ (λ xs ys. (xs ++ take c block) ++ ys) (take_at front (replicate (256 + rest) erased) (length front) refl) behind
      ∙ regroup front (take c block) (replicate (256 - c) erased) (replicate rest erased)
      ∙ ap (λ xs. (front ++ xs) ++ replicate rest erased) whole

  -- the block's frame, written
  pub put_block : written (front ++ (block ++ after)) (frame_of erased (length front) block) (front ++ replicate (256 + rest) erased) ≡ (front ++ block) ++ replicate rest erased
  unfolding written
  put_block =
      let page = front ++ replicate (256 + rest) erased in
      let frame = frame_with (length front) (cut_length erased block) in
      let bound : used_length erased block ≤ 256 = omega (arith, used_length-le erased block) in
      let write = λ (frames : List Frame). written (front ++ (block ++ after)) frames page in
      elim (frame_cases (used_length erased block) frame) [
        | inl empty ↦ ap write empty.1 ∙ unused empty.0
        | inr filled ↦ ap write filled.1 ∙ used (cut_length erased block) (omega arith) (omega arith)
      ]

written-append : (new : List ℕ) (xs ys : List Frame) (page : List ℕ) → written new (xs ++ ys) page ≡ written new ys (written new xs page)
unfolding written
written-append new [] ys page = refl
written-append new (x ∷ xs) ys page = written-append new xs ys (with_bytes x.offset (take x.length (drop x.offset new)) page)

-- one block more has its frame more
pub frames_more : (erased : ℕ) (page : List ℕ) (n end : ℕ) → end ≡ 256 * n + 256
    → frames_of erased page (n + 1) ≡ frames_of erased page n ++ frame_of erased (256 * n) (take (end - 256 * n) (drop (256 * n) page))
unfolding frames_of
frames_more erased page n end e =
    let size : 256 ≡ end - 256 * n = omega arith in
    rw add-one (ap (λ m. frames_of erased page n ++ frame_of erased (256 * n) (take m (drop (256 * n) page))) size)

-- after the frames of n blocks the page is new up to there, and erased from there on
written_upto : (erased : ℕ) (new : List ℕ) (n : ℕ) → 256 * n ≤ length new
    → written new (frames_of erased new n) (replicate (length new) erased) ≡ take (256 * n) new ++ replicate (length new - 256 * n) erased
unfolding frames_of written
written_upto erased new zero h = ap (λ m. replicate m erased) (omega arith)
written_upto erased new (suc n) h =
    let front = take (256 * n) new in
    let block = block_of new n in
    let after = drop (256 * n + 256) new in
    let rest = length new - 256 * suc n in
    let front_size : length front ≡ 256 * n = omega (arith, length-take (256 * n) new) in
    let size : length block ≡ 256 = omega (arith, length-take 256 (drop (256 * n) new), length-drop (256 * n) new) in
    let parts : front ++ (block ++ after) ≡ new =
    ap (λ xs. front ++ (block ++ xs)) (sym (drop-drop 256 (256 * n) new)) ∙ ap (λ xs. front ++ xs) (take-append-drop 256 (drop (256 * n) new)) ∙ take-append-drop (256 * n) new in
    let P : ℕ → List ℕ → Type 0 = λ at all. written all (frame_of erased at block) (front ++ replicate (256 + rest) erased) ≡ (front ++ block) ++ replicate rest erased in
    let here : P (256 * n) new = subst (P (256 * n)) parts (let Q : ℕ → Type 0 = λ at. P at (front ++ (block ++ after)) in subst Q front_size (put_block erased front block after rest size)) in
    let before : written new (frames_of erased new n) (replicate (length new) erased) ≡ front ++ replicate (256 + rest) erased =
    written_upto erased new n (omega arith) ∙ ap (λ m. front ++ replicate m erased) (omega arith) in
    let more : 256 * n + 256 ≡ 256 * suc n = omega arith in
    let grown : front ++ block ≡ take (256 * suc n) new = sym (take-add (256 * n) 256 new) ∙ ap (λ m. take m new) more in
    written-append new (frames_of erased new n) (frame_of erased (256 * n) block) (replicate (length new) erased)
    ∙ ap (written new (frame_of erased (256 * n) block)) before ∙ here ∙ ap (λ xs. xs ++ replicate rest erased) grown

-- the frames of all blocks, written over an erased page, give the new page
pub written_all : (erased : ℕ) (new : List ℕ) (n : ℕ) → length new % 256 ≡ 0 → n ≡ length new →
    written new (frames_of erased new (length new / 256)) (replicate n erased) ≡ new
written_all erased new n whole e =
    let blocks : 256 * (length new / 256) ≡ length new = omega arith in
    ap (λ m. written new (frames_of erased new (length new / 256)) (replicate m erased)) e
    ∙ written_upto erased new (length new / 256) (omega arith)
    ∙ ap₂ (λ xs m. xs ++ replicate m erased) (take_all (256 * (length new / 256)) new (omega arith)) (let none : length new - 256 * (length new / 256) ≡ 0 = omega arith in none)
    ∙ append-nil new
