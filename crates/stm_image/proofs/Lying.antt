-- Which pairs pieces have.
use Rattle.std.proofs.Common.{◌≡◌, ◌⊎◌, inl, inr, ℕ, zero, suc, ◌+◌, ◌-◌, ◌<◌, ◌≤◌, List, [], ◌∷◌, ◌++◌, length, take, drop, map, get_or, slice_index, refl, sym, ap, ◌∙◌, length-append, length-drop, take-append-drop, drop_of_length-le, drop-drop, arith}
use Rattle.std.specs.Prelude.{Contains, All}
use Rattle.std.proofs.lemmas.List.{length-take, map-append}
use Rattle.std.proofs.lemmas.List.Elements.{All-take, All-drop, All-get_or, Contains-get_or, Contains-append_left, Contains-append_right, Contains-append_cases}
use Rattle.std.proofs.lemmas.List.Kept.{AllPairs-cons}
use Rattle.stm_image.specs.Pairs.{Pairs, AddressesRise, InRange, IsImage, raw_pairs}
use Rattle.stm_image.specs.Pieces.{piece_size, piece_bytes, pairs_of_piece, pairs_at, Stand, Apart, IsWithin}
use Rattle.stm_image.specs.declared.pieces.Piece.{Piece}
use Rattle.stm_image.proofs.Sets.{rises_raw}
use Rattle.stm_image.proofs.Standing.{Stand-le}

-- BYTES AT CONSECUTIVE ADDRESSES: where a pair of them stands
pub record LiesAt (start : ℕ) (bytes : List ℕ) (q : ℕ × ℕ) : Type 0 where
  pub from : start ≤ q.0
  pub to : q.0 < start + length bytes
  pub byte : slice_index bytes (q.0 - start) ≡ q.1

pub raw_lies : (s : ℕ) (bytes : List ℕ) (q : ℕ × ℕ) → Contains (raw_pairs s bytes) q → LiesAt s bytes q
raw_lies s [] q held = absurd (omega (arith, held.1))
raw_lies s (b ∷ bytes) q (zero, lt, is) =
    let at : s ≡ q.0 = ap (λ (p : ℕ × ℕ). p.0) is in
    let none : q.0 - s ≡ 0 = omega arith in
    record { from = omega arith; to = omega arith; byte = ap (slice_index (b ∷ bytes)) none ∙ ap (λ (p : ℕ × ℕ). p.1) is }
raw_lies s (b ∷ bytes) q (suc i, lt, is) =
    let more = raw_lies (s + 1) bytes q (i, omega arith, is) in
    let from = more.from in
    let to = more.to in
    let next : q.0 - s ≡ suc (q.0 - (s + 1)) = omega arith in
    record { from = omega arith; to = omega arith; byte = ap (slice_index (b ∷ bytes)) next ∙ more.byte }

one_more : (p : ℕ × ℕ) (pairs : Pairs) (q : ℕ × ℕ) → Contains pairs q → Contains (p ∷ pairs) q
one_more p pairs q (i, lt, is) = (suc i, omega arith, is)

pub raw_holds : (s : ℕ) (bytes : List ℕ) (i : ℕ) → i < length bytes → Contains (raw_pairs s bytes) (s + i, slice_index bytes i)
raw_holds s [] i lt = absurd (omega arith)
raw_holds s (b ∷ bytes) zero lt = (zero, omega arith, ap (λ n. (n, b)) (let e : s ≡ s + 0 = omega arith in e))
raw_holds s (b ∷ bytes) (suc i) lt =
    let e : s + 1 + i ≡ s + suc i = omega arith in
    rw e at (one_more (s, b) (raw_pairs (s + 1) bytes) (s + 1 + i, slice_index bytes i) (raw_holds (s + 1) bytes i (omega arith)))

pub length-raw : (s : ℕ) (bytes : List ℕ) → length (raw_pairs s bytes) ≡ length bytes
length-raw s [] = refl
length-raw s (b ∷ bytes) = ap (λ n. suc n) (length-raw (s + 1) bytes)

-- RISING, PART BY PART
pub Rises-tail : (p : ℕ × ℕ) (pairs : Pairs) → AddressesRise (p ∷ pairs) → AddressesRise pairs
Rises-tail p pairs rises i j d lt within = rises (suc i) (suc j) d (omega arith) (omega arith)

pub rises_head : (p : ℕ × ℕ) (pairs : Pairs) (q : ℕ × ℕ) → AddressesRise (p ∷ pairs) → Contains pairs q → p.0 < q.0
rises_head p pairs q rises (i, lt, is) =
    let up = rises zero (suc i) q (omega arith) (omega arith) in
    let same : (get_or pairs i q).0 ≡ q.0 = ap (λ (r : ℕ × ℕ). r.0) is in
    omega arith

pub Rises-append : (xs ys : Pairs) → AddressesRise xs → AddressesRise ys → ((p q : ℕ × ℕ) → Contains xs p → Contains ys q → p.0 < q.0) → AddressesRise (xs ++ ys)
Rises-append [] ys rx ry between = ry
Rises-append (x ∷ xs) ys rx ry between =
    AllPairs-cons (λ q r. q.0 < r.0) x (xs ++ ys)
    (λ k d lt. above (get_or (xs ++ ys) k d) (Contains-append_cases xs ys (get_or (xs ++ ys) k d) (Contains-get_or (xs ++ ys) k d lt)))
    (Rises-append xs ys (Rises-tail x xs rx) ry (λ p q hp hq. between p q (one_more x xs p hp) hq))
  where
    above : (q : ℕ × ℕ) → Contains xs q ⊎ Contains ys q → x.0 < q.0
    above q (inl held) = rises_head x xs q rx held
    above q (inr held) = between x q (zero, omega arith, refl) held

pub rises_across : (xs ys : Pairs) (p q : ℕ × ℕ) → AddressesRise (xs ++ ys) → Contains xs p → Contains ys q → p.0 < q.0
rises_across [] ys p q rises hp hq = absurd (omega (arith, hp.1))
rises_across (x ∷ xs) ys p q rises (zero, lt, is) hq =
    let up = rises_head x (xs ++ ys) q rises (Contains-append_right xs ys q hq) in
    let same : x.0 ≡ p.0 = ap (λ (r : ℕ × ℕ). r.0) is in
    omega arith
rises_across (x ∷ xs) ys p q rises (suc i, lt, is) hq = rises_across xs ys p q (Rises-tail x (xs ++ ys) rises) (i, omega arith, is) hq

-- PIECES
pub length-bytes_at : (bytes : List ℕ) (p : Piece) → p.place + piece_size p ≤ length bytes → length (piece_bytes bytes p) ≡ piece_size p
length-bytes_at bytes p within = let dropped = length-drop p.place bytes in let taken = length-take (piece_size p) (drop p.place bytes) in omega arith

pub short-bytes_at : (bytes : List ℕ) (p : Piece) → length (piece_bytes bytes p) ≤ piece_size p
short-bytes_at bytes p = let taken = length-take (piece_size p) (drop p.place bytes) in omega arith

-- the piece of a pair
pub piece_of : (bytes : List ℕ) (ps : List Piece) (q : ℕ × ℕ) → Contains (pairs_at bytes ps) q → (p : Piece) × Contains ps p × Contains (pairs_of_piece bytes p) q
piece_of bytes [] q held = absurd (omega (arith, held.1))
piece_of bytes (p ∷ ps) q held = elim (Contains-append_cases (pairs_of_piece bytes p) (pairs_at bytes ps) q held) [
  | inl here ↦ (p, (zero, omega arith, refl), here)
  | inr later ↦ let found = piece_of bytes ps q later in (found.0, (suc found.1.0, omega (arith, found.1.1), found.1.2), found.2)
]

pub holds_piece : (bytes : List ℕ) (ps : List Piece) (p : Piece) (q : ℕ × ℕ) → Contains ps p → Contains (pairs_of_piece bytes p) q → Contains (pairs_at bytes ps) q
holds_piece bytes [] p q held here = absurd (omega (arith, held.1))
holds_piece bytes (r ∷ ps) p q (zero, lt, is) here =
    Contains-append_left (pairs_of_piece bytes r) (pairs_at bytes ps) q (rw is here)
holds_piece bytes (r ∷ ps) p q (suc i, lt, is) here = Contains-append_right (pairs_of_piece bytes r) (pairs_at bytes ps) q (holds_piece bytes ps p q (i, omega arith, is) here)

-- where the pairs of a piece lie
pub piece_from : (bytes : List ℕ) (p : Piece) (q : ℕ × ℕ) → Contains (pairs_of_piece bytes p) q → p.first ≤ q.0
piece_from bytes p q held = (raw_lies p.first (piece_bytes bytes p) q held).from

pub piece_to : (bytes : List ℕ) (p : Piece) (q : ℕ × ℕ) → Contains (pairs_of_piece bytes p) q → q.0 < p.first + piece_size p
piece_to bytes p q held = let lies = raw_lies p.first (piece_bytes bytes p) q held in let to = lies.to in let short = short-bytes_at bytes p in omega arith

-- the pairs of pieces that are apart lie at the least address or after it, and rise
pub apart_from : (bytes : List ℕ) (from to least : ℕ) (ps : List Piece) (q : ℕ × ℕ) → Stand from to ps → Apart least ps → Contains (pairs_at bytes ps) q → least ≤ q.0
apart_from bytes from to least [] q stand apart held = absurd (omega (arith, held.1))
apart_from bytes from to least (p ∷ ps) q stand apart held = elim (Contains-append_cases (pairs_of_piece bytes p) (pairs_at bytes ps) q held) [
  | inl here ↦ let low = piece_from bytes p q here in omega (arith, apart.0)
  | inr later ↦ let low = apart_from bytes (from + piece_size p) to (p.last + 2) ps q stand.3 apart.1 later in omega (arith, apart.0, stand.1)
]

pub rises_apart : (bytes : List ℕ) (from to least : ℕ) (ps : List Piece) → Stand from to ps → Apart least ps → AddressesRise (pairs_at bytes ps)
rises_apart bytes from to least [] stand apart = λ i j d lt within. absurd (omega arith)
rises_apart bytes from to least (p ∷ ps) stand apart =
    Rises-append (pairs_of_piece bytes p) (pairs_at bytes ps) (rises_raw p.first (piece_bytes bytes p)) (rises_apart bytes (from + piece_size p) to (p.last + 2) ps stand.3 apart.1)
    (λ x y hx hy. let high = piece_to bytes p x hx in let low = apart_from bytes (from + piece_size p) to (p.last + 2) ps y stand.3 apart.1 hy in omega (arith, stand.1))

-- each piece of some that stand
pub stands_within : (from to : ℕ) (ps : List Piece) (p : Piece) → Stand from to ps → Contains ps p → IsWithin to p
stands_within from to [] p stand held = absurd (omega (arith, held.1))
stands_within from to (r ∷ ps) p stand (zero, lt, is) =
    let later = Stand-le (from + piece_size r) to ps stand.3 in
    rw (← is) (record { order = stand.1; fits = stand.2; ends = omega (arith, stand.0) })
stands_within from to (r ∷ ps) p stand (suc i, lt, is) = stands_within (from + piece_size r) to ps p stand.3 (i, omega arith, is)

pub is_image : (bytes : List ℕ) (to : ℕ) (ps : List Piece) → Stand 0 to ps → Apart 0 ps → All (λ b. b < 256) bytes → IsImage (pairs_at bytes ps)
is_image bytes to ps stand apart all = record {
  rises = rises_apart bytes 0 to 0 ps stand apart;
  in_range = λ k d lt. range (get_or (pairs_at bytes ps) k d) (Contains-get_or (pairs_at bytes ps) k d lt);
}
  where
    range : (q : ℕ × ℕ) → Contains (pairs_at bytes ps) q → InRange q
    range q held =
        let found = piece_of bytes ps q held in
        let p = found.0 in
        let within = stands_within 0 to ps p stand found.1 in
        let order = within.order in
        let fits = within.fits in
        let high = piece_to bytes p q found.2 in
        let lies = raw_lies p.first (piece_bytes bytes p) q found.2 in
        let from = lies.from in
        let ends = lies.to in
        let part = All-take (λ b. b < 256) (piece_size p) (drop p.place bytes) (All-drop (λ b. b < 256) p.place bytes all) in
        let small : slice_index (piece_bytes bytes p) (q.0 - p.first) < 256 = All-get_or (λ b. b < 256) (piece_bytes bytes p) (q.0 - p.first) 0 (omega arith) part in
        (omega arith, rw lies.byte at small)

-- how many pairs there are
pub length-pairs_at : (bytes : List ℕ) (from to : ℕ) (ps : List Piece) → Stand from to ps → to ≤ length bytes → from + length (pairs_at bytes ps) ≡ to
length-pairs_at bytes from to [] stand within = omega (arith, stand)
length-pairs_at bytes from to (p ∷ ps) stand within =
    let later = Stand-le (from + piece_size p) to ps stand.3 in
    let more = length-pairs_at bytes (from + piece_size p) to ps stand.3 within in
    let at = stand.0 in
    let own = length-bytes_at bytes p (omega arith) in
    let raw = length-raw p.first (piece_bytes bytes p) in
    let both = length-append (pairs_of_piece bytes p) (pairs_at bytes ps) in
    omega arith

-- the bytes of pieces that stand up to the last of all bytes
raw_values : (s : ℕ) (bytes : List ℕ) → map (λ p. p.1) (raw_pairs s bytes) ≡ bytes
raw_values s [] = refl
raw_values s (b ∷ bytes) = ap (λ (bs : List ℕ). b ∷ bs) (raw_values (s + 1) bytes)

pub values_at : (bytes : List ℕ) (from : ℕ) (ps : List Piece) → Stand from (length bytes) ps → map (λ p. p.1) (pairs_at bytes ps) ≡ drop from bytes
values_at bytes from [] stand = sym (drop_of_length-le bytes (omega (arith, stand)))
values_at bytes from (p ∷ ps) stand =
    let size = piece_size p in
    let at = stand.0 in
    let own = raw_values p.first (piece_bytes bytes p) in
    let more = values_at bytes (from + size) ps stand.3 in
    let rest : drop size (drop from bytes) ≡ drop (from + size) bytes = drop-drop size from bytes in
    let first : piece_bytes bytes p ≡ take size (drop from bytes) = ap (λ n. take size (drop n bytes)) at in
    map-append (λ p. p.1) (pairs_of_piece bytes p) (pairs_at bytes ps)
    ∙ (ap (λ (xs : List ℕ). xs ++ map (λ p. p.1) (pairs_at bytes ps)) (own ∙ first)
    ∙ (ap (λ (xs : List ℕ). take size (drop from bytes) ++ xs) (more ∙ sym rest) ∙ take-append-drop size (drop from bytes)))

pub rises_back : (xs ys : Pairs) → AddressesRise (xs ++ ys) → AddressesRise ys
rises_back [] ys rises = rises
rises_back (x ∷ xs) ys rises = rises_back xs ys (Rises-tail x (xs ++ ys) rises)
