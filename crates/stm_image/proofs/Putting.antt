-- Bytes put over those of a set.
use Rattle.std.proofs.Common.{◌≡◌, ◌⊎◌, inl, inr, ℕ, zero, suc, ◌+◌, ◌-◌, ◌<◌, ◌≤◌, List, [], ◌∷◌, ◌++◌, length, take, drop, get_or, slice_index, Option, Some, None, refl, sym, ap, ap₂, ◌∙◌, subst, arith}
use Rattle.std.specs.Prelude.{Contains}
use Rattle.std.specs.List.{AllWithin}
use Rattle.std.proofs.lemmas.Bool.{cases_lt}
use Rattle.std.proofs.lemmas.List.{take-append-drop, drop_more, get_or-take, get_or-drop}
use Rattle.std.proofs.lemmas.List.Elements.{Contains-append_left, Contains-append_right, Contains-append_cases}
use Rattle.stm_image.specs.Clash.{Names, IsPutOver}
use Rattle.stm_image.specs.Lay.{IsPutAt}
use Rattle.stm_image.specs.Pairs.{Pairs, byte_at}
use Rattle.stm_image.specs.Pieces.{piece_size, piece_bytes, pairs_of_piece, pairs_at, Stand, Apart, IsWithin}
use Rattle.stm_image.specs.declared.pieces.Piece.{Piece}
use Rattle.stm_image.proofs.Lying.{raw_lies, raw_holds, piece_of, holds_piece, piece_from, piece_to, stands_within, length-bytes_at, rises_apart}
use Rattle.stm_image.proofs.Overlaps.{byte_held, held_at}
use Rattle.stm_image.proofs.Running.{pairs_at-append, ends_before, none_from, behind_piece}

-- the bytes of a piece
pub byte_of_piece : (bytes : List ℕ) (p : Piece) (k : ℕ) → k < piece_size p → slice_index (piece_bytes bytes p) k ≡ slice_index bytes (p.place + k)
byte_of_piece bytes p k lt = get_or-take (piece_size p) (drop p.place bytes) k 0 lt ∙ get_or-drop p.place bytes k 0

-- a pair of a piece
in_place : (bytes : List ℕ) (p : Piece) (k a b : ℕ) → k < length (piece_bytes bytes p) → p.first + k ≡ a → slice_index (piece_bytes bytes p) k ≡ b → Contains (pairs_of_piece bytes p) (a, b)
in_place bytes p k a b lt at byte = subst (λ (r : ℕ × ℕ). Contains (pairs_of_piece bytes p) r) (ap₂ (λ (x y : ℕ). (x, y)) at byte) (raw_holds p.first (piece_bytes bytes p) k lt)

-- where pieces stand that come before one, and after it
pub Stand-split : (from to : ℕ) (front : List Piece) (p : Piece) (back : List Piece) → Stand from to (front ++ p ∷ back) → Stand from p.place front × Stand p.place to (p ∷ back)
Stand-split from to [] p back (at, order, fits, more) = (sym at, (refl, order, fits, subst (λ n. Stand (n + piece_size p) to back) (sym at) more))
Stand-split from to (q ∷ front) p back (at, order, fits, more) = let parts = Stand-split (from + piece_size q) to front p back more in ((at, order, fits, parts.0), parts.1)

pub stands_from : (from to : ℕ) (ps : List Piece) (q : Piece) → Stand from to ps → Contains ps q → from ≤ q.place
stands_from from to [] q stand held = absurd (omega (arith, held.1))
stands_from from to (r ∷ ps) q stand (zero, lt, is) = let e : r.place ≡ q.place = ap (λ (s : Piece). s.place) is in let at = stand.0 in omega arith
stands_from from to (r ∷ ps) q stand (suc i, lt, is) = let more = stands_from (from + piece_size r) to ps q stand.3 (i, omega arith, is) in omega arith

-- where the byte of a pair stands, beside a piece
record Sits (list : List Piece) (bytes : List ℕ) (p : Piece) (a b : ℕ) : Type 0 where
  piece : Piece
  held : Contains list piece
  k : ℕ
  within : k < piece_size piece
  at : piece.first + k ≡ a
  byte : slice_index bytes (piece.place + k) ≡ b
  beside : (piece.place + k < p.place) ⊎ (piece ≡ p) ⊎ (p.place + piece_size p ≤ piece.place + k)

-- PUTTING BYTES OVER PART OF A PIECE, the n-th of some that stand apart
module _ (bytes : List ℕ) (list : List Piece) (n : ℕ) (p : Piece) (stand : Stand 0 (length bytes) list) (apart : Apart 0 list) (lt : n < length list) (is : p ≡ get_or list n p) where
  split : list ≡ take n list ++ p ∷ drop (n + 1) list
  split = sym (take-append-drop n list) ∙ ap (λ l. take n list ++ l) (drop_more list n p lt ∙ ap (λ r. r ∷ drop (n + 1) list) (sym is))

  there : Contains list p
  there = (n, lt, sym is)

  own : IsWithin (length bytes) p
  own = stands_within 0 (length bytes) list p stand there

  parts : Stand 0 p.place (take n list) × Stand p.place (length bytes) (p ∷ drop (n + 1) list)
  parts = Stand-split 0 (length bytes) (take n list) p (drop (n + 1) list) (subst (Stand 0 (length bytes)) split stand)

  -- a pair from an address on that the pieces before do not reach, and up to the gap behind the piece, is one of the piece
  in_piece : (address : ℕ) (q : ℕ × ℕ) → AllWithin (λ (r : Piece). r.last < address) list 0 n → Contains (pairs_at bytes list) q → address ≤ q.0 → q.0 ≤ p.last + 1 → Contains (pairs_of_piece bytes p) q
  in_piece address q low held from to =
      let whole : pairs_at bytes list ≡ pairs_at bytes (take n list) ++ (pairs_of_piece bytes p ++ pairs_at bytes (drop (n + 1) list)) =
      ap (pairs_at bytes) split ∙ pairs_at-append bytes (take n list) (p ∷ drop (n + 1) list) in
      elim (Contains-append_cases (pairs_at bytes (take n list)) (pairs_of_piece bytes p ++ pairs_at bytes (drop (n + 1) list)) q (subst (λ (ps : Pairs). Contains ps q) whole held)) [
        | inl early ↦ let below = ends_before bytes (length bytes) address list n stand low q early in absurd (omega arith)
        | inr more ↦ elim (Contains-append_cases (pairs_of_piece bytes p) (pairs_at bytes (drop (n + 1) list)) q more) [
          | inl here ↦ here
          | inr late ↦
              let next : n + 1 ≡ suc n = omega arith in
              let above = behind_piece bytes 0 (length bytes) 0 list n p q stand apart lt (subst (λ (k : ℕ). Contains (pairs_at bytes (drop k list)) q) next late) in
              let same : p.last ≡ (get_or list n p).last = ap (λ (r : Piece). r.last) is in
              absurd (omega arith)
        ]
      ]

  -- a pair of a list of pieces that are among these
  sits_in : (some : List Piece) (from : List ℕ) (a b : ℕ) → ((q : Piece) → Contains some q → Contains list q) → ((q : Piece) (k : ℕ) → Contains some q → k < piece_size q → (q.place + k < p.place) ⊎ (q ≡ p) ⊎ (p.place + piece_size p ≤ q.place + k))
      → length from ≡ length bytes → Contains (pairs_at from some) (a, b) → Sits list from p a b
  sits_in some from a b among beside same held =
      let found = piece_of from some (a, b) held in
      let q = found.0 in
      let within = stands_within 0 (length bytes) list q stand (among q found.1) in
      let order = within.order in
      let ends = within.ends in
      let lies = raw_lies q.first (piece_bytes from q) (a, b) found.2 in
      let low = lies.from in
      let high = lies.to in
      let long = length-bytes_at from q (omega arith) in
      let k = a - q.first in
      let short : k < piece_size q = omega arith in
      record { piece = q; held = among q found.1; k = k; within = short; at = omega arith; byte = sym (byte_of_piece from q k short) ∙ lies.byte; beside = beside q k found.1 short }

  sits : (from : List ℕ) (a b : ℕ) → length from ≡ length bytes → Contains (pairs_at from list) (a, b) → Sits list from p a b
  sits from a b same held =
      let whole : pairs_at from list ≡ pairs_at from (take n list) ++ pairs_at from (p ∷ drop (n + 1) list) =
      ap (pairs_at from) split ∙ pairs_at-append from (take n list) (p ∷ drop (n + 1) list) in
      elim (Contains-append_cases (pairs_at from (take n list)) (pairs_at from (p ∷ drop (n + 1) list)) (a, b) (subst (λ (ps : Pairs). Contains ps (a, b)) whole held)) [
        | inl early ↦
            sits_in (take n list) from a b (λ q h. subst (λ (l : List Piece). Contains l q) (sym split) (Contains-append_left (take n list) (p ∷ drop (n + 1) list) q h))
            (λ q k h short. let up = stands_within 0 p.place (take n list) q parts.0 h in let ends = up.ends in inl (omega arith)) same early
        | inr late ↦
            sits_in (p ∷ drop (n + 1) list) from a b (λ q h. subst (λ (l : List Piece). Contains l q) (sym split) (Contains-append_right (take n list) (p ∷ drop (n + 1) list) q h))
            (λ q k h short. from_here q k h) same late
      ]
    where
      from_here : (q : Piece) (k : ℕ) → Contains (p ∷ drop (n + 1) list) q → (q.place + k < p.place) ⊎ (q ≡ p) ⊎ (p.place + piece_size p ≤ q.place + k)
      from_here q k (zero, inside, e) = inr (inl (sym e))
      from_here q k (suc i, inside, e) = let up = stands_from (p.place + piece_size p) (length bytes) (drop (n + 1) list) q parts.1.3 (i, omega arith, e) in inr (inr (omega arith))

  -- it holds all of so many addresses, from one on that the set has
  module _ (address count : ℕ) (low : AllWithin (λ (r : Piece). r.last < address) list 0 n) (high : address ≤ p.last) (names : Names (pairs_at bytes list) address count) (some : 0 < count) where
    pub begins : p.first ≤ address
    begins =
        let first = names 0 some in
        let zero_on : address + 0 ≡ address = omega arith in
        let held = held_at (pairs_at bytes list) (address + 0) first.0 first.1 in
        let from = piece_from bytes p (address + 0, first.0) (in_piece address (address + 0, first.0) low held (omega arith) (omega arith)) in
        omega arith

    pub ends : address + count ≤ p.last + 1
    ends = elim (cases_lt (p.last + 1) (address + count)) [
      | inr short ↦ short
      | inl long ↦
          let i = p.last + 1 - address in
          let next = names i (omega arith) in
          let held = held_at (pairs_at bytes list) (address + i) next.0 next.1 in
          let inside = in_piece address (address + i, next.0) low held (omega arith) (omega arith) in
          let to = piece_to bytes p (address + i, next.0) inside in
          let order = own.order in
          absurd (omega arith)
    ]

  -- the bytes that are put, and those that stay
  module _ (address : ℕ) (more new : List ℕ) (low : AllWithin (λ (r : Piece). r.last < address) list 0 n) (high : address ≤ p.last) (names : Names (pairs_at bytes list) address (length more)) (some : 0 < length more)
      (put : IsPutAt more bytes (p.place + (address - p.first)) new) where
    kept : (from to : List ℕ) (a b : ℕ) → length from ≡ length bytes → length to ≡ length bytes → ((i : ℕ) → (i < p.place + (address - p.first)) ⊎ (p.place + (address - p.first) + length more ≤ i) → slice_index to i ≡ slice_index from i)
        → (a < address) ⊎ (address + length more ≤ a) → byte_at (pairs_at from list) a ≡ Some b → byte_at (pairs_at to list) a ≡ Some b
    kept from to a b same_from same_to same out e =
        let s = sits from a b same_from (held_at (pairs_at from list) a b e) in
        let q = s.piece in
        let k = s.k in
        let sat = s.at in
        let first = begins address (length more) low high names some in
        let last = ends address (length more) low high names some in
        let order = own.order in
        let outside : (q.place + k < p.place + (address - p.first)) ⊎ (p.place + (address - p.first) + length more ≤ q.place + k) = elim s.beside [
          | inl before ↦ inl (omega arith)
          | inr (inl here) ↦
              let f : q.first ≡ p.first = ap (λ (r : Piece). r.first) here in
              let g : q.place ≡ p.place = ap (λ (r : Piece). r.place) here in
              elim out [
                | inl left ↦ inl (omega arith)
                | inr right ↦ inr (omega arith)
              ]
          | inr (inr after) ↦ inr (omega arith)
        ] in
        let byte : slice_index (piece_bytes to q) k ≡ b = byte_of_piece to q k s.within ∙ same (q.place + k) outside ∙ s.byte in
        let within = stands_within 0 (length bytes) list q stand s.held in
        let fits = within.ends in
        let long = length-bytes_at to q (omega arith) in
        let moved = in_place to q k a b (omega (arith, s.within)) s.at byte in
        byte_held (pairs_at to list) a b (rises_apart to 0 (length bytes) 0 list stand apart) (holds_piece to list q (a, b) s.held moved)

    pub puts_over : IsPutOver (pairs_at bytes list) address more (pairs_at new list)
    puts_over = record {
      inside = λ i inside.
          let first = begins address (length more) low high names some in
          let last = ends address (length more) low high names some in
          let order = own.order in
          let fits = own.ends in
          let long_new = put.same_length in
          let k = (address - p.first) + i in
          let at : p.first + k ≡ address + i = omega arith in
          let place : p.place + k ≡ p.place + (address - p.first) + i = omega arith in
          let short : k < piece_size p = omega arith in
          let byte : slice_index (piece_bytes new p) k ≡ slice_index more i = byte_of_piece new p k short ∙ ap (slice_index new) place ∙ put.over i inside (omega arith) in
          let long = length-bytes_at new p (omega arith) in
          let moved = in_place new p k (address + i) (slice_index more i) (omega arith) at byte in
          byte_held (pairs_at new list) (address + i) (slice_index more i) (rises_apart new 0 (length bytes) 0 list stand apart) (holds_piece new list p (address + i, slice_index more i) there moved);
      outside = λ a out. of_byte a out (byte_at (pairs_at bytes list) a) (byte_at (pairs_at new list) a) refl refl;
    }
      where
        same : (i : ℕ) → (i < p.place + (address - p.first)) ⊎ (p.place + (address - p.first) + length more ≤ i) → slice_index new i ≡ slice_index bytes i
        same i (inl left) = put.before i left
        same i (inr right) = put.after i right

        of_byte : (a : ℕ) → (a < address) ⊎ (address + length more ≤ a) → (o s : Option ℕ) → byte_at (pairs_at bytes list) a ≡ o → byte_at (pairs_at new list) a ≡ s → byte_at (pairs_at new list) a ≡ byte_at (pairs_at bytes list) a
        of_byte a out (Some b) s e f = kept bytes new a b refl put.same_length same out e ∙ sym e
        of_byte a out None None e f = f ∙ sym e
        of_byte a out None (Some b) e f = let back = kept new bytes a b put.same_length refl (λ i o. sym (same i o)) out f in let none : None ≡ Some b = sym e ∙ back in cc

-- a piece reaches an address that the set has
pub reaches : (bytes : List ℕ) (list : List Piece) (place address count : ℕ) → Stand 0 (length bytes) list → AllWithin (λ (r : Piece). r.last < address) list 0 place
    → Names (pairs_at bytes list) address count → 0 < count → place < length list
reaches bytes list place address count stand low names some = elim (cases_lt place (length list)) [
  | inl lt ↦ lt
  | inr past ↦
      let first = names 0 some in
      let below = none_from bytes (length bytes) address list place stand low past (address + 0, first.0) (held_at (pairs_at bytes list) (address + 0) first.0 first.1) in
      absurd (omega arith)
]

-- the first piece that reaches an address holds all of so many from there on
pub record IsHolder (bytes : List ℕ) (list : List Piece) (place : ℕ) (p : Piece) (address count : ℕ) : Type 0 where
  pub lt : place < length list
  pub is : p ≡ get_or list place p
  pub high : address ≤ p.last
  pub own : IsWithin (length bytes) p
  pub begins : p.first ≤ address
  pub ends : address + count ≤ p.last + 1

pub found_at : (bytes : List ℕ) (list : List Piece) (place : ℕ) (p : Piece) → Stand 0 (length bytes) list → Apart 0 list → (address count : ℕ) → AllWithin (λ (r : Piece). r.last < address) list 0 place
    → AllWithin (λ (r : Piece). address ≤ r.last) list place (length list) → Names (pairs_at bytes list) address count → 0 < count → p ≡ get_or list place p → IsHolder bytes list place p address count
found_at bytes list place p stand apart address count low here names some is =
    let lt = reaches bytes list place address count stand low names some in
    let up = here place p (omega arith) lt in
    let same : p.last ≡ (get_or list place p).last = ap (λ (r : Piece). r.last) is in
    let high : address ≤ p.last = omega arith in
    record {
      lt = lt;
      is = is;
      high = high;
      own = own bytes list place p stand apart lt is;
      begins = begins bytes list place p stand apart lt is address count low high names some;
      ends = ends bytes list place p stand apart lt is address count low high names some;
    }
