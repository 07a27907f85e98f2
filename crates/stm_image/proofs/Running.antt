-- Runs of an image, found by their last addresses.
use Rattle.std.proofs.Common.{◌≡◌, ◌⊎◌, inl, inr, ℕ, zero, suc, ◌+◌, ◌-◌, ◌<◌, ◌≤◌, List, [], ◌∷◌, ◌++◌, length, take, drop, get_or, slice_index, refl, sym, ap, ◌∙◌, append_assoc, length-drop, arith}
use Rattle.std.specs.Prelude.{Contains}
use Rattle.std.specs.List.{AllWithin}
use Rattle.std.specs.List.Sorted.{IsNonDecreasingBy}
use Rattle.std.proofs.lemmas.List.{take-append-drop, drop_more, get_or_default, get_or-take, length-take, take_all}
use Rattle.std.proofs.lemmas.List.Elements.{Contains-append_left, Contains-append_right, Contains-append_cases}
use Rattle.stm_image.specs.Pairs.{Pairs, AddressesRise, IsNext, HasNone, raw_pairs}
use Rattle.stm_image.specs.Pieces.{piece_size, piece_bytes, pairs_of_piece, pairs_at, Stand, Apart, IsWithin}
use Rattle.stm_image.specs.Runs.{IsRunFrom}
use Rattle.stm_image.specs.declared.pieces.Piece.{Piece}
use Rattle.stm_image.specs.declared.pieces.Pieces.{Pieces}
use Rattle.stm_image.proofs.Lying.{raw_lies, raw_holds, rises_across, rises_back, piece_of, piece_to, apart_from, stands_within, length-bytes_at}
use Rattle.stm_image.proofs.Standing.{raw_pairs-append}

-- the last addresses rise
last_from : (from to least : ℕ) (ps : List Piece) (j : ℕ) (d : Piece) → Stand from to ps → Apart least ps → j < length ps → least ≤ (get_or ps j d).last
last_from from to least [] j d stand apart lt = absurd (omega arith)
last_from from to least (p ∷ ps) zero d stand apart lt = omega (arith, apart.0, stand.1)
last_from from to least (p ∷ ps) (suc j) d stand apart lt = let more = last_from (from + piece_size p) to (p.last + 2) ps j d stand.3 apart.1 (omega arith) in omega (arith, apart.0, stand.1)

pub lasts_rise : (from to least : ℕ) (ps : List Piece) → Stand from to ps → Apart least ps → IsNonDecreasingBy (λ (p : Piece). p.last) ps
lasts_rise from to least (p ∷ ps) stand apart zero zero d le lt = omega arith
lasts_rise from to least (p ∷ ps) stand apart zero (suc j) d le lt = let more = last_from (from + piece_size p) to (p.last + 2) ps j d stand.3 apart.1 (omega arith) in omega arith
lasts_rise from to least (p ∷ ps) stand apart (suc i) (suc j) d le lt = lasts_rise (from + piece_size p) to (p.last + 2) ps stand.3 apart.1 i j d (omega arith) (omega arith)
lasts_rise from to least ps stand apart i j d le lt = absurd (omega arith)

pub pairs_at-append : (bytes : List ℕ) (xs ys : List Piece) → pairs_at bytes (xs ++ ys) ≡ pairs_at bytes xs ++ pairs_at bytes ys
pairs_at-append bytes [] ys = refl
pairs_at-append bytes (x ∷ xs) ys = ap (λ ps. pairs_of_piece bytes x ++ ps) (pairs_at-append bytes xs ys) ∙ sym (append_assoc (pairs_of_piece bytes x) (pairs_at bytes xs) (pairs_at bytes ys))

-- pieces that end before an address have no pair from it on
pub ends_before : (bytes : List ℕ) (to address : ℕ) (ps : List Piece) (n : ℕ) → Stand 0 to ps → AllWithin (λ (p : Piece). p.last < address) ps 0 n
    → (q : ℕ × ℕ) → Contains (pairs_at bytes (take n ps)) q → q.0 < address
ends_before bytes to address ps n stand low q held =
    let found = piece_of bytes (take n ps) q held in
    let p = found.0 in
    let at = found.1 in
    let taken = length-take n ps in
    let here : get_or ps at.0 p ≡ p = sym (get_or-take n ps at.0 p (omega (arith, at.1))) ∙ at.2 in
    let within = stands_within 0 to ps p stand (at.0, omega (arith, at.1), here) in
    let order = within.order in
    let ends = piece_to bytes p q found.2 in
    let below = low at.0 p (omega arith) (omega (arith, at.1)) in
    let same : (get_or ps at.0 p).last ≡ p.last = ap (λ (r : Piece). r.last) here in
    omega arith

pub none_from : (bytes : List ℕ) (to address : ℕ) (ps : List Piece) (n : ℕ) → Stand 0 to ps → AllWithin (λ (p : Piece). p.last < address) ps 0 n → length ps ≤ n → HasNone (pairs_at bytes ps) address
none_from bytes to address ps n stand low all q held =
    let whole : take n ps ≡ ps = take_all n ps all in
    ends_before bytes to address ps n stand low q (rw whole held)

-- the first piece that ends at the address or after it has the run from there on
pub run_at : (bytes : List ℕ) (address : ℕ) (ps : List Piece) (n : ℕ) (p : Piece) → Stand 0 (length bytes) ps → AllWithin (λ (q : Piece). q.last < address) ps 0 n → n < length ps → p ≡ get_or ps n p → address ≤ p.last
    → IsRunFrom (pairs_at bytes ps) address (p.first + (address - p.first)) (drop (address - p.first) (piece_bytes bytes p))
run_at bytes address ps n p stand low lt is high =
    let skip = address - p.first in
    let own = piece_bytes bytes p in
    let within = stands_within 0 (length bytes) ps p stand (n, lt, sym is) in
    let order = within.order in
    let ends = within.ends in
    let long = length-bytes_at bytes p ends in
    let taken = length-take skip own in
    let dropped = length-drop skip own in
    let F = pairs_at bytes (take n ps) in
    let T = raw_pairs p.first (take skip own) in
    let D = raw_pairs (p.first + skip) (drop skip own) in
    let back = pairs_at bytes (drop (n + 1) ps) in
    let split : ps ≡ take n ps ++ (p ∷ drop (n + 1) ps) = sym (take-append-drop n ps) ∙ ap (λ l. take n ps ++ l) (drop_more ps n p lt ∙ ap (λ r. r ∷ drop (n + 1) ps) (sym is)) in
    let at : p.first + length (take skip own) ≡ p.first + skip = omega arith in
    let parts : pairs_of_piece bytes p ≡ T ++ D =
    ap (raw_pairs p.first) (sym (take-append-drop skip own)) ∙ raw_pairs-append p.first (take skip own) (drop skip own) ∙ ap (λ s. T ++ raw_pairs s (drop skip own)) at in
    record {
      front = F ++ T;
      back = back;
      whole = ap (pairs_at bytes) split ∙ pairs_at-append bytes (take n ps) (p ∷ drop (n + 1) ps) ∙ ap (λ ps. F ++ (ps ++ back)) parts ∙ regroup F T D back;
      before = λ q held. elim (Contains-append_cases F T q held) [
        | inl early ↦ ends_before bytes (length bytes) address ps n stand low q early
        | inr here ↦ let lies = raw_lies p.first (take skip own) q here in let to = lies.to in let from = lies.from in omega arith
      ];
      from = omega arith;
      some = omega arith;
    }
  where
    regroup : (a b c d : Pairs) → a ++ ((b ++ c) ++ d) ≡ (a ++ b) ++ (c ++ d)
    regroup a b c d = simp append_assoc

-- the first pair of a run
pub next_of_run : (set : Pairs) (address start : ℕ) (bytes : List ℕ) → AddressesRise set → IsRunFrom set address start bytes → IsNext set address (start, slice_index bytes 0)
next_of_run set address start bytes rises run =
    let front = run.front in
    let back = run.back in
    let from = run.from in
    let zero_on : start + 0 ≡ start = omega arith in
    let own : Contains (raw_pairs start bytes) (start, slice_index bytes 0) = rw zero_on at (raw_holds start bytes 0 run.some) in
    let parts : AddressesRise (front ++ (raw_pairs start bytes ++ back)) = rw run.whole at rises in
    record {
      held = rw run.whole (Contains-append_right front (raw_pairs start bytes ++ back) (start, slice_index bytes 0) (Contains-append_left (raw_pairs start bytes) back (start, slice_index bytes 0) own));
      after = from;
      least = λ q held high. least q (Contains-append_cases front (raw_pairs start bytes ++ back) q (rw run.whole at held)) high parts own;
    }
  where
    later : (q : ℕ × ℕ) → Contains (raw_pairs start bytes) q ⊎ Contains run.back q → AddressesRise (raw_pairs start bytes ++ run.back) → Contains (raw_pairs start bytes) (start, slice_index bytes 0) → start ≤ q.0
    later q (inl here) parts own = (raw_lies start bytes q here).from
    later q (inr after) parts own = let up = rises_across (raw_pairs start bytes) run.back (start, slice_index bytes 0) q parts own after in omega arith

    least : (q : ℕ × ℕ) → Contains run.front q ⊎ Contains (raw_pairs start bytes ++ run.back) q → address ≤ q.0 → AddressesRise (run.front ++ (raw_pairs start bytes ++ run.back)) → Contains (raw_pairs start bytes) (start, slice_index bytes 0) → start ≤ q.0
    least q (inl early) high parts own = let low = run.before q early in absurd (omega arith)
    least q (inr more) high parts own = later q (Contains-append_cases (raw_pairs start bytes) run.back q more) (rises_back run.front (raw_pairs start bytes ++ run.back) parts) own

-- the pieces as the code reads them
pub stand_read : (runs : Pieces) (bytes : List ℕ) (list : List Piece) → bytes ≡ runs.bytes.items → list ≡ runs.list.items → Stand 0 (length runs.bytes.items) runs.list.items → Stand 0 (length bytes) list
stand_read runs bytes list same_bytes same_list stand =
    rw same_bytes (rw same_list stand)

pub within_read : (runs : Pieces) (bytes : List ℕ) (list : List Piece) (place : ℕ) (d : Piece) → bytes ≡ runs.bytes.items → list ≡ runs.list.items → Stand 0 (length runs.bytes.items) runs.list.items → place < length list → IsWithin (length bytes) (get_or list place d)
within_read runs bytes list place d same_bytes same_list stand lt =
    let p = get_or list place d in
    stands_within 0 (length bytes) list p (stand_read runs bytes list same_bytes same_list stand) (place, lt, get_or_default list place p d lt)

-- the pairs after a piece lie behind a gap
pub behind_piece : (bytes : List ℕ) (from to least : ℕ) (ps : List Piece) (i : ℕ) (d : Piece) (q : ℕ × ℕ) → Stand from to ps → Apart least ps → i < length ps
    → Contains (pairs_at bytes (drop (suc i) ps)) q → (get_or ps i d).last + 1 < q.0
behind_piece bytes from to least [] i d q stand apart lt held = absurd (omega arith)
behind_piece bytes from to least (p ∷ ps) zero d q stand apart lt held = let low = apart_from bytes (from + piece_size p) to (p.last + 2) ps q stand.3 apart.1 held in omega arith
behind_piece bytes from to least (p ∷ ps) (suc i) d q stand apart lt held = behind_piece bytes (from + piece_size p) to (p.last + 2) ps i d q stand.3 apart.1 (omega arith) held
