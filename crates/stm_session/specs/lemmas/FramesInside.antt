-- The frames of a page's bytes: each lies in the page, and has some bytes, no more than a block.
use Rattle.std.proofs.Common.{◌≡◌, ℕ, zero, suc, ◌+◌, ◌-◌, ◌*◌, ◌≤◌, ◌==◌, Bool, true, false, if◌then◌else◌, List, [], ◌∷◌, ◌++◌, length, take, drop, refl, arith, length-append, length-take}
use Rattle.std.specs.List.{AllByRecursion}
use Rattle.std.proofs.lemmas.List.{length-drop}
use Rattle.stm_chip.specs.declared.plan.Frame.{Frame}
use Rattle.stm_chip.specs.Plan.{block_of, cut_length, frame_of, frame_with, frames_of, used_length}

-- the frames of a page's bytes lie in it, and have some each, no more than a block
abbrev pub AreInside : ℕ → List Frame → Type 0
AreInside size frames = AllByRecursion (λ (f : Frame). (f.offset + 256 ≤ size) × (4 ≤ f.length) × (f.length ≤ 256)) frames

inside_append : (size : ℕ) (xs ys : List Frame) → AreInside size xs → AreInside size ys → AreInside size (xs ++ ys)
inside_append size [] ys p q = q
inside_append size (x ∷ xs) ys (first, p) q = (first, inside_append size xs ys p q)

-- how many bytes of a block are written
used-few : (erased : ℕ) (bytes : List ℕ) → used_length erased bytes ≤ length bytes
unfolding used_length
used-few erased [] = omega arith
used-few erased (byte ∷ bytes) = at (used_length erased bytes) (used-few erased bytes) (used_length erased bytes == 0) (byte == erased)
  where
    at : (used : ℕ) → used ≤ length bytes → (blank same : Bool) → (if blank then (if same then 0 else 1) else used + 1) ≤ suc (length bytes)
    at used le true true = omega arith
    at used le true false = omega arith
    at used le false same = omega (arith, le)

one_inside : (size erased offset : ℕ) (block : List ℕ) → length block ≤ 256 → offset + 256 ≤ size → AreInside size (frame_of erased offset block)
one_inside size erased offset block few le = by_none (used_length erased block == 0) refl
  where
    by_none : (none : Bool) → (used_length erased block == 0) ≡ none → AreInside size (frame_of erased offset block)
    by_none true is = rw is tt
    by_none false is =
        let some : 1 ≤ used_length erased block = grind (arith, is) in
        let long : 4 ≤ cut_length erased block = omega (arith, some) in
        let short : cut_length erased block ≤ 256 = omega (arith, few, used-few erased block) in
        rw is ((le, long, short), tt)

pub frames_inside : (size erased : ℕ) (page : List ℕ) (blocks : ℕ) → 256 * blocks ≤ size → AreInside size (frames_of erased page blocks)
unfolding frames_of
frames_inside size erased page zero le = tt
frames_inside size erased page (suc blocks) le =
    inside_append size (frames_of erased page blocks) (frame_of erased (256 * blocks) (block_of page blocks)) (frames_inside size erased page blocks (omega (arith, le)))
    (one_inside size erased (256 * blocks) (block_of page blocks) (omega (arith, length-take 256 (drop (256 * blocks) page))) (omega (arith, le)))

-- and are no more than its blocks
pub frames-few : (erased : ℕ) (page : List ℕ) (blocks : ℕ) → length (frames_of erased page blocks) ≤ blocks
unfolding frames_of
frames-few erased page zero = omega arith
frames-few erased page (suc blocks) =
    let before = frames_of erased page blocks in
    let own = frame_of erased (256 * blocks) (block_of page blocks) in
    omega (arith, length-append before own, frames-few erased page blocks, one (used_length erased (block_of page blocks) == 0) (frame_with (256 * blocks) (cut_length erased (block_of page blocks))))
  where
    one : (blank : Bool) (f : Frame) → length (if blank then [] else f ∷ []) ≤ 1
    one true f = omega arith
    one false f = omega arith

-- what a frame writes of a page
pub bytes_inside : (page : List ℕ) (offset count : ℕ) → offset + 256 ≤ length page → 4 ≤ count → (1 ≤ length (take count (drop offset page))) × (offset + length (take count (drop offset page)) ≤ length page)
bytes_inside page offset count le some =
    let left : length (drop offset page) ≡ length page - offset = length-drop offset page in
    let size = length-take count (drop offset page) in
    (omega (arith, left, size, le, some), omega (arith, left, size, le, some))
