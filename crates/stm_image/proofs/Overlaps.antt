-- A set made of pieces that may overlap.
use Rattle.std.proofs.Common.{◌≡◌, ◌⊎◌, inl, inr, ℕ, zero, suc, ◌+◌, ◌-◌, ◌<◌, ◌≤◌, List, [], ◌∷◌, ◌++◌, length, take, drop, get_or, slice_index, Bool, if◌then◌else◌, Some, refl, sym, ap, ap₂, ◌∙◌, subst, length-drop, arith}
use Rattle.std.specs.Prelude.{Contains}
use Rattle.std.specs.List.Sorted.{IsPermutation}
use Rattle.std.proofs.lemmas.Bool.{cases_eq, cases_lt, ne_eqb, eq-eqb}
use Rattle.std.proofs.lemmas.List.{take-append-drop, length-take, take_more, take_all, drop_all, append-nil}
use Rattle.std.proofs.lemmas.List.Elements.{Contains-append_left, Contains-append_right, Contains-append_cases}
use Rattle.std.proofs.lemmas.List.Sorted.{Contains-permutation, IsPermutation-sym}
use Rattle.stm_image.specs.Pairs.{Pairs, AddressesRise, Agree, IsSetOf, byte_at, raw_pairs}
use Rattle.stm_image.specs.Layout.{AllWithin, IsAmong, Covers, AllAgree, HasDifference, IsLaidOut}
use Rattle.stm_image.specs.Pieces.{piece_size, piece_bytes, pairs_of_piece, pairs_at, Stand, IsWithin}
use Rattle.stm_image.specs.declared.pieces.Piece.{Piece}
use Rattle.stm_image.proofs.Lying.{raw_lies, raw_holds, piece_of, holds_piece, stands_within, length-bytes_at, rises_head, Rises-tail}
use Rattle.stm_image.proofs.Standing.{raw_pairs-append, pairs_at-snoc}

-- BYTES OF A SET, AND ITS PAIRS
pub held_at : (set : Pairs) (a b : ℕ) → byte_at set a ≡ Some b → Contains set (a, b)
held_at [] a b e = cc
held_at ((x, y) ∷ set) a b e = elim (cases_eq x a) [
  | inl same ↦
      let here : Some y ≡ Some b = ap (λ (t : Bool). if t then Some y else byte_at set a) (sym (eq-eqb x a same)) ∙ e in
      let byte : y ≡ b = cc in
      (zero, omega arith, ap₂ (λ u v. (u, v)) same byte)
  | inr other ↦
      let found = held_at set a b (ap (λ (t : Bool). if t then Some y else byte_at set a) (sym (ne_eqb x a other)) ∙ e) in
      (suc found.0, omega (arith, found.1), found.2)
]

pub byte_held : (set : Pairs) (a b : ℕ) → AddressesRise set → Contains set (a, b) → byte_at set a ≡ Some b
byte_held [] a b rises held = absurd (omega (arith, held.1))
byte_held ((x, y) ∷ set) a b rises (zero, lt, is) =
    ap (λ (t : Bool). if t then Some y else byte_at set a) (eq-eqb x a (ap (λ (p : ℕ × ℕ). p.0) is)) ∙ ap (λ (p : ℕ × ℕ). Some p.1) is
byte_held ((x, y) ∷ set) a b rises (suc i, lt, is) =
    let up = rises_head (x, y) set (a, b) rises (i, omega arith, is) in
    ap (λ (t : Bool). if t then Some y else byte_at set a) (ne_eqb x a (λ e. omega (arith, e, up))) ∙ byte_held set a b (Rises-tail (x, y) set rises) (i, omega arith, is)

-- LAYING OUT, piece by piece
pub piece_laid : (bytes : List ℕ) (p : Piece) (done laid : Pairs) (low next after : ℕ) → IsWithin (length bytes) p → IsLaidOut done laid low next → low ≤ p.first
    → p.last + 1 ≤ after → next ≤ after → (after ≡ next) ⊎ (after ≡ p.last + 1)
    → IsLaidOut (done ++ pairs_of_piece bytes p) (laid ++ raw_pairs (p.first + (next - p.first)) (drop (next - p.first) (piece_bytes bytes p))) p.first after
piece_laid bytes p done laid low next after within so_far order ends grows which =
    let D = raw_pairs (p.first + (next - p.first)) (drop (next - p.first) (piece_bytes bytes p)) in
    let P = pairs_of_piece bytes p in
    record {
      among = λ q held. elim (Contains-append_cases laid D q held) [
        | inl old ↦ Contains-append_left done P q (so_far.among q old)
        | inr new ↦ Contains-append_right done P q (own q new)
      ];
      covers = λ q held. elim (Contains-append_cases done P q held) [
        | inl old ↦ let found = so_far.covers q old in (found.0, Contains-append_left laid D (q.0, found.0) found.1)
        | inr new ↦
            let lies = raw_lies p.first (piece_bytes bytes p) q new in
            let from = lies.from in
            let to = lies.to in
            let long = length-bytes_at bytes p within.ends in
            let first_to_last = within.order in
            fill q.0 (omega arith) (omega arith)
      ];
      filled = fill;
    }
  where
    fill : (a : ℕ) → p.first ≤ a → a < after → (b : ℕ) × Contains (laid ++ raw_pairs (p.first + (next - p.first)) (drop (next - p.first) (piece_bytes bytes p))) (a, b)
    fill a from to = elim (cases_lt a next) [
      | inl early ↦ let found = so_far.filled a (omega (arith, order)) early in (found.0, Contains-append_left laid _ (a, found.0) found.1)
      | inr late ↦
          let skip = next - p.first in
          let rest = drop skip (piece_bytes bytes p) in
          let long = length-bytes_at bytes p within.ends in
          let shorter = length-drop skip (piece_bytes bytes p) in
          let first_to_last = within.order in
          let last : after ≡ p.last + 1 = elim which [ inl same ↦ absurd (omega arith) | inr own ↦ own ] in
          let i = a - (p.first + skip) in
          let at : p.first + skip + i ≡ a = omega arith in
          (slice_index rest i, Contains-append_right laid _ (a, slice_index rest i) (rw at at (raw_holds (p.first + skip) rest i (omega arith))))
    ]

    own : (q : ℕ × ℕ) → Contains (raw_pairs (p.first + (next - p.first)) (drop (next - p.first) (piece_bytes bytes p))) q → Contains (pairs_of_piece bytes p) q
    own q new = elim (cases_lt (length (piece_bytes bytes p)) (next - p.first)) [
      | inl none ↦ let shorter = length-drop (next - p.first) (piece_bytes bytes p) in let lies = raw_lies (p.first + (next - p.first)) (drop (next - p.first) (piece_bytes bytes p)) q new in let from = lies.from in let to = lies.to in absurd (omega arith)
      | inr some ↦
          let skip = next - p.first in
          let own_bytes = piece_bytes bytes p in
          let front = length-take skip own_bytes in
          let at : p.first + length (take skip own_bytes) ≡ p.first + skip = omega arith in
          let parts : raw_pairs p.first own_bytes ≡ raw_pairs p.first (take skip own_bytes) ++ raw_pairs (p.first + skip) (drop skip own_bytes) =
          ap (raw_pairs p.first) (sym (take-append-drop skip own_bytes)) ∙ raw_pairs-append p.first (take skip own_bytes) (drop skip own_bytes) ∙ ap (λ s. raw_pairs p.first (take skip own_bytes) ++ raw_pairs s (drop skip own_bytes)) at in
          rw parts (Contains-append_right (raw_pairs p.first (take skip own_bytes)) (raw_pairs (p.first + skip) (drop skip own_bytes)) q new)
    ]

nothing_more : (laid : Pairs) (s skip : ℕ) (bytes : List ℕ) → length bytes ≤ skip → laid ≡ laid ++ raw_pairs s (drop skip bytes)
nothing_more laid s skip bytes le = sym (ap (λ b. laid ++ raw_pairs s b) (drop_all skip bytes le) ∙ append-nil laid)

-- one piece more of a list
pub next_laid : (bytes : List ℕ) (list : List Piece) (i : ℕ) (d : Piece) (laid more : Pairs) (low next after : ℕ) → i < length list → IsWithin (length bytes) (get_or list i d)
    → IsLaidOut (pairs_at bytes (take i list)) laid low next → low ≤ (get_or list i d).first → (get_or list i d).last + 1 ≤ after → next ≤ after → (after ≡ next) ⊎ (after ≡ (get_or list i d).last + 1)
    → more ≡ laid ++ raw_pairs ((get_or list i d).first + (next - (get_or list i d).first)) (drop (next - (get_or list i d).first) (piece_bytes bytes (get_or list i d)))
    → IsLaidOut (pairs_at bytes (take (i + 1) list)) more (get_or list i d).first after
next_laid bytes list i d laid more low next after lt within so_far order ends grows which is =
    let p = get_or list i d in
    let done : pairs_at bytes (take (i + 1) list) ≡ pairs_at bytes (take i list) ++ pairs_of_piece bytes p = ap (pairs_at bytes) (take_more list i d lt) ∙ pairs_at-snoc bytes (take i list) p in
    rw done (rw is (piece_laid bytes p (pairs_at bytes (take i list)) laid low next after within so_far order ends grows which))

-- a piece that brings no address
pub none_laid : (bytes : List ℕ) (list : List Piece) (i : ℕ) (d : Piece) (laid : Pairs) (low next : ℕ) → i < length list → IsWithin (length bytes) (get_or list i d)
    → IsLaidOut (pairs_at bytes (take i list)) laid low next → low ≤ (get_or list i d).first → piece_size (get_or list i d) ≤ next - (get_or list i d).first
    → IsLaidOut (pairs_at bytes (take (i + 1) list)) laid (get_or list i d).first next
none_laid bytes list i d laid low next lt within so_far order none =
    let p = get_or list i d in
    let first_to_last = within.order in
    let long = length-bytes_at bytes p within.ends in
    next_laid bytes list i d laid laid low next next lt within so_far order (omega arith) (omega arith) (inl refl) (nothing_more laid (p.first + (next - p.first)) (next - p.first) (piece_bytes bytes p) (omega arith))

pub all_laid : (bytes : List ℕ) (list : List Piece) (i : ℕ) (laid : Pairs) (low next : ℕ) → length list ≤ i → IsLaidOut (pairs_at bytes (take i list)) laid low next → IsLaidOut (pairs_at bytes list) laid low next
all_laid bytes list i laid low next past out = let L : List Piece → Type 0 = λ l. IsLaidOut (pairs_at bytes l) laid low next in subst L (take_all i list past) out

pub within_moved : (to : ℕ) (xs ys : List Piece) → Stand 0 to xs → IsPermutation xs ys → AllWithin to ys
within_moved to xs ys stand moved p held = stands_within 0 to xs p stand (Contains-permutation ys xs p (IsPermutation-sym xs ys moved) held)

-- THE SET: where it agrees with each piece, it is that of their pairs
pub set_agreeing : (set : Pairs) (bytes : List ℕ) (list : List Piece) → AddressesRise set → IsAmong set (pairs_at bytes list) → Covers set (pairs_at bytes list) → AllAgree set bytes list → IsSetOf set (pairs_at bytes list)
set_agreeing set bytes list rises among covers agree = record { rises = rises; same = λ q. (among q, back q) }
  where
    back : (q : ℕ × ℕ) → Contains (pairs_at bytes list) q → Contains set q
    back q held =
        let found = piece_of bytes list q held in
        let p = found.0 in
        let lies = raw_lies p.first (piece_bytes bytes p) q found.2 in
        let there = covers q held in
        elim (cases_eq (slice_index (piece_bytes bytes p) (q.0 - p.first)) there.0) [
          | inl same ↦ let C : ℕ → Type 0 = λ b. Contains set (q.0, b) in subst C (sym same ∙ lies.byte) there.1
          | inr other ↦ absurd (agree p found.1 q.0 (record { byte = there.0; held = byte_held set q.0 there.0 rises there.1; from = lies.from; within = lies.to; differs = other }))
        ]

-- where it does not, the pairs do not agree
pub pairs_differ : (set : Pairs) (bytes : List ℕ) (list : List Piece) (place : ℕ) → IsAmong set (pairs_at bytes list) → HasDifference set bytes list place → Agree (pairs_at bytes list) → ⊥
pairs_differ set bytes list place among has agree =
    let p = has.piece in
    let d = has.differs in
    let from = d.from in
    let within = d.within in
    let i = place - p.first in
    let at : p.first + i ≡ place = omega arith in
    let own = rw at at (raw_holds p.first (piece_bytes bytes p) i (omega arith)) in
    d.differs (agree place (slice_index (piece_bytes bytes p) i) d.byte (holds_piece bytes list p (place, slice_index (piece_bytes bytes p) i) has.held own) (among (place, d.byte) (held_at set place d.byte d.held)))

-- pieces in another order have the same pairs
pub pairs_moved : (bytes : List ℕ) (xs ys : List Piece) (q : ℕ × ℕ) → IsPermutation xs ys → Contains (pairs_at bytes xs) q → Contains (pairs_at bytes ys) q
pairs_moved bytes xs ys q moved held =
    let found = piece_of bytes xs q held in
    holds_piece bytes ys found.0 q (Contains-permutation xs ys found.0 moved found.1) found.2

pub set_moved : (set : Pairs) (bytes : List ℕ) (xs ys : List Piece) → IsPermutation xs ys → IsSetOf set (pairs_at bytes ys) → IsSetOf set (pairs_at bytes xs)
set_moved set bytes xs ys moved is = record {
  rises = is.rises;
  same = λ q. (λ h. pairs_moved bytes ys xs q (IsPermutation-sym xs ys moved) ((is.same q).0 h), λ h. (is.same q).1 (pairs_moved bytes xs ys q moved h));
}

pub agree_moved : (bytes : List ℕ) (xs ys : List Piece) → IsPermutation xs ys → Agree (pairs_at bytes xs) → Agree (pairs_at bytes ys)
agree_moved bytes xs ys moved agree a b c in_b in_c =
    agree a b c (pairs_moved bytes ys xs (a, b) (IsPermutation-sym xs ys moved) in_b) (pairs_moved bytes ys xs (a, c) (IsPermutation-sym xs ys moved) in_c)
