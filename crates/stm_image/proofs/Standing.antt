-- Pieces that stand one after the other, and one more of them.
use Rattle.std.proofs.Common.{◌≡◌, ◌≢◌, ℕ, zero, suc, ◌+◌, ◌-◌, ◌<◌, ◌≤◌, ◌^◌, List, [], ◌∷◌, ◌++◌, length, take, drop, get_or, set, refl, sym, ap, ap₂, ◌∙◌, subst, append_assoc, length-append, length-drop, arith}
use Rattle.std.proofs.lemmas.List.{append-nil, take_more, take_all, take_more_set, drop-append-le, take-append-le, length-set, length-take}
use Rattle.std.proofs.Math.Seq.{drop-append_seam, take-append_seam}
use Rattle.stm_image.specs.Pairs.{raw_pairs}
use Rattle.stm_image.specs.Pieces.{piece_size, piece_bytes, pairs_of_piece, pairs_at, Stand, Apart, next_apart, AddsFrom}
use Rattle.stm_image.specs.declared.pieces.Piece.{Piece}

-- ONE MORE AT THE END
pub next_apart-snoc : (least : ℕ) (front : List Piece) (p : Piece) → next_apart least (front ++ p ∷ []) ≡ p.last + 2
next_apart-snoc least [] p = refl
next_apart-snoc least (q ∷ front) p = next_apart-snoc (q.last + 2) front p

pub Apart-snoc : (least : ℕ) (front : List Piece) (p : Piece) → Apart least front → next_apart least front ≤ p.first → Apart least (front ++ p ∷ [])
Apart-snoc least [] p apart le = (le, tt)
Apart-snoc least (q ∷ front) p apart le = (apart.0, Apart-snoc (q.last + 2) front p apart.1 le)

pub Apart-front : (least : ℕ) (front : List Piece) (p : Piece) → Apart least (front ++ p ∷ []) → Apart least front × (next_apart least front ≤ p.first)
Apart-front least [] p apart = (tt, apart.0)
Apart-front least (q ∷ front) p apart = let more = Apart-front (q.last + 2) front p apart.1 in ((apart.0, more.0), more.1)

pub Stand-snoc : (from to : ℕ) (front : List Piece) (p : Piece) → Stand from to front → p.place ≡ to → p.first ≤ p.last → p.last < 2 ^ 32 → Stand from (to + piece_size p) (front ++ p ∷ [])
Stand-snoc from to [] p stand at order fits = (at ∙ sym stand, order, fits, ap (λ n. n + piece_size p) stand)
Stand-snoc from to (q ∷ front) p stand at order fits = (stand.0, stand.1, stand.2, Stand-snoc (from + piece_size q) to front p stand.3 at order fits)

-- a last piece, and those before it
pub record Last (from to : ℕ) (front : List Piece) (p : Piece) : Type 0 where
  pub front_stand : Stand from p.place front
  pub order : p.first ≤ p.last
  pub fits : p.last < 2 ^ 32
  pub ends : p.place + piece_size p ≡ to

pub Stand-front : (from to : ℕ) (front : List Piece) (p : Piece) → Stand from to (front ++ p ∷ []) → Last from to front p
Stand-front from to [] p stand = record { front_stand = sym stand.0; order = stand.1; fits = stand.2; ends = ap (λ n. n + piece_size p) stand.0 ∙ stand.3 }
Stand-front from to (q ∷ front) p stand =
    let more = Stand-front (from + piece_size q) to front p stand.3 in
    record { front_stand = (stand.0, stand.1, stand.2, more.front_stand); order = more.order; fits = more.fits; ends = more.ends }

pub pairs_at-snoc : (bytes : List ℕ) (front : List Piece) (p : Piece) → pairs_at bytes (front ++ p ∷ []) ≡ pairs_at bytes front ++ pairs_of_piece bytes p
pairs_at-snoc bytes [] p = append-nil (pairs_of_piece bytes p)
pairs_at-snoc bytes (q ∷ front) p = ap (λ ps. pairs_of_piece bytes q ++ ps) (pairs_at-snoc bytes front p) ∙ sym (append_assoc (pairs_of_piece bytes q) (pairs_at bytes front) (pairs_of_piece bytes p))

pub last_split : (ps : List Piece) (n : ℕ) (d : Piece) → n + 1 ≡ length ps → ps ≡ take n ps ++ get_or ps n d ∷ []
last_split ps n d is = sym (take_all (n + 1) ps (omega arith)) ∙ take_more ps n d (omega arith)

pub last_set : (ps : List Piece) (n : ℕ) (q : Piece) → n + 1 ≡ length ps → set ps n q ≡ take n ps ++ q ∷ []
last_set ps n q is = let same = length-set ps n q in sym (take_all (n + 1) (set ps n q) (omega arith)) ∙ take_more_set ps n q (omega arith)

-- MORE BYTES
pub Stand-le : (from to : ℕ) (ps : List Piece) → Stand from to ps → from ≤ to
Stand-le from to [] stand = omega arith
Stand-le from to (p ∷ ps) stand = let more = Stand-le (from + piece_size p) to ps stand.3 in omega arith

pub bytes_at-longer : (bytes more : List ℕ) (p : Piece) → p.place + piece_size p ≤ length bytes → piece_bytes (bytes ++ more) p ≡ piece_bytes bytes p
bytes_at-longer bytes more p within =
    let dropped = length-drop p.place bytes in
    ap (λ xs. take (piece_size p) xs) (drop-append-le p.place bytes more (omega arith)) ∙ take-append-le (piece_size p) (drop p.place bytes) more (omega arith)

pub pairs_at-longer : (from to : ℕ) (bytes more : List ℕ) (ps : List Piece) → Stand from to ps → to ≤ length bytes → pairs_at (bytes ++ more) ps ≡ pairs_at bytes ps
pairs_at-longer from to bytes more [] stand within = refl
pairs_at-longer from to bytes more (p ∷ ps) stand within =
    let later = Stand-le (from + piece_size p) to ps stand.3 in
    let at = stand.0 in
    ap₂ (λ xs ys. raw_pairs p.first xs ++ ys) (bytes_at-longer bytes more p (omega arith)) (pairs_at-longer (from + piece_size p) to bytes more ps stand.3 within)

pub raw_pairs-append : (s : ℕ) (xs ys : List ℕ) → raw_pairs s (xs ++ ys) ≡ raw_pairs s xs ++ raw_pairs (s + length xs) ys
raw_pairs-append s [] ys = ap (λ n. raw_pairs n ys) (let e : s ≡ s + 0 = omega arith in e)
raw_pairs-append s (x ∷ xs) ys = ap (λ ps. (s, x) ∷ ps) (raw_pairs-append (s + 1) xs ys ∙ ap (λ n. raw_pairs (s + 1) xs ++ raw_pairs n ys) (let e : s + 1 + length xs ≡ s + suc (length xs) = omega arith in e))

-- the last piece has all bytes from its place on
bytes_at_end : (bytes : List ℕ) (p : Piece) → length bytes ≤ p.place + piece_size p → piece_bytes bytes p ≡ drop p.place bytes
bytes_at_end bytes p all = let dropped = length-drop p.place bytes in take_all (piece_size p) (drop p.place bytes) (omega arith)

-- ADDING: bytes as a piece of their own
pub adds_piece : (bytes more : List ℕ) (ps : List Piece) (p : Piece) → Stand 0 (length bytes) ps → p.place ≡ length bytes → p.first + length more ≡ p.last + 1 → 0 < length more → p.last < 2 ^ 32
    → next_apart 0 ps ≢ p.first + 1 → AddsFrom bytes ps p.first more (bytes ++ more) (ps ++ p ∷ [])
adds_piece bytes more ps p stand at long some fits free =
    let total = length-append bytes more in
    let size : length bytes + piece_size p ≡ length (bytes ++ more) = omega arith in
    let own : piece_bytes (bytes ++ more) p ≡ more =
    bytes_at_end (bytes ++ more) p (omega arith) ∙ ap (λ n. drop n (bytes ++ more)) at ∙ drop-append_seam bytes more in
    record {
      stand = rw size at (Stand-snoc 0 (length bytes) ps p stand at (omega arith) fits);
      pairs = pairs_at-snoc (bytes ++ more) ps p ∙ ap₂ (λ xs ys. xs ++ raw_pairs p.first ys) (pairs_at-longer 0 (length bytes) bytes more ps stand (omega arith)) own;
      apart = λ apart le. Apart-snoc 0 ps p apart (omega (arith, le, free));
      next = λ _. next_apart-snoc 0 ps p ∙ (let e : p.last + 2 ≡ p.first + length more + 1 = omega arith in e);
      kept_bytes = take-append_seam bytes more;
      kept_list = take-append-le (length ps - 1) ps (p ∷ []) (omega arith);
      longer = omega (arith, length-append ps (p ∷ []));
    }

same_front : (front : List Piece) (p q : Piece) → take (length (front ++ p ∷ []) - 1) (front ++ q ∷ []) ≡ take (length (front ++ p ∷ []) - 1) (front ++ p ∷ [])
same_front front p q =
    let n : length (front ++ p ∷ []) - 1 ≡ length front = omega (arith, length-append front (p ∷ [])) in
    rw n (take-append_seam front (q ∷ []) ∙ sym (take-append_seam front (p ∷ [])))

-- bytes that go on after the last piece, which grows
adds_to_last : (bytes more : List ℕ) (front : List Piece) (p q : Piece) → Stand 0 (length bytes) (front ++ p ∷ []) → q.first ≡ p.first → q.place ≡ p.place → q.last ≡ p.last + length more → q.last < 2 ^ 32
    → AddsFrom bytes (front ++ p ∷ []) (p.last + 1) more (bytes ++ more) (front ++ q ∷ [])
adds_to_last bytes more front p q stand same_first same_place grown fits =
    let last = Stand-front 0 (length bytes) front p stand in
    let order = last.order in
    let ends = last.ends in
    let total = length-append bytes more in
    let size : q.place + piece_size q ≡ length (bytes ++ more) = omega arith in
    let own : piece_bytes (bytes ++ more) q ≡ piece_bytes bytes p ++ more =
    bytes_at_end (bytes ++ more) q (omega arith) ∙ ap (λ n. drop n (bytes ++ more)) same_place ∙ drop-append-le p.place bytes more (omega arith)
    ∙ ap (λ xs. xs ++ more) (sym (bytes_at_end bytes p (omega arith))) in
    let long : length (piece_bytes bytes p) ≡ piece_size p = let dropped = length-drop p.place bytes in let taken = length-take (piece_size p) (drop p.place bytes) in omega arith in
    let next : p.first + length (piece_bytes bytes p) ≡ p.last + 1 = omega arith in
    record {
      stand = rw size at (Stand-snoc 0 q.place front q (rw same_place last.front_stand) refl (omega arith) fits);
      pairs =
          pairs_at-snoc (bytes ++ more) front q
          ∙ ap₂ (λ xs ys. xs ++ ys) (pairs_at-longer 0 p.place bytes more front last.front_stand (omega arith))
          (ap₂ (λ s xs. raw_pairs s xs) same_first own ∙ raw_pairs-append p.first (piece_bytes bytes p) more ∙ ap (λ n. pairs_of_piece bytes p ++ raw_pairs n more) next)
          ∙ sym (append_assoc (pairs_at bytes front) (pairs_of_piece bytes p) (raw_pairs (p.last + 1) more))
          ∙ ap (λ ps. ps ++ raw_pairs (p.last + 1) more) (sym (pairs_at-snoc bytes front p));
      apart = λ apart le. let before = Apart-front 0 front p apart in Apart-snoc 0 front q before.0 (omega (arith, before.1));
      next = λ _. next_apart-snoc 0 front q ∙ (let e : q.last + 2 ≡ p.last + 1 + length more + 1 = omega arith in e);
      kept_bytes = take-append_seam bytes more;
      kept_list = same_front front p q;
      longer = omega (arith, length-append front (p ∷ []), length-append front (q ∷ []));
    }

pub adds_on : (bytes more : List ℕ) (ps : List Piece) (n start : ℕ) (p q : Piece) → Stand 0 (length bytes) ps → n + 1 ≡ length ps → p ≡ get_or ps n p → q.first ≡ p.first → q.place ≡ p.place
    → p.last + 1 ≡ start → q.last ≡ p.last + length more → q.last < 2 ^ 32 → AddsFrom bytes ps start more (bytes ++ more) (set ps n q)
adds_on bytes more ps n start p q stand count is same_first same_place next grown fits =
    let split : ps ≡ take n ps ++ p ∷ [] = last_split ps n p count ∙ ap (λ r. take n ps ++ r ∷ []) (sym is) in
    let S : List Piece → Type 0 = λ l. Stand 0 (length bytes) l in
    let adds = adds_to_last bytes more (take n ps) p q (subst S split stand) same_first same_place grown fits in
    let A : List Piece → Type 0 = λ l. AddsFrom bytes l (p.last + 1) more (bytes ++ more) (take n ps ++ q ∷ []) in
    let B : List Piece → Type 0 = λ l. AddsFrom bytes ps (p.last + 1) more (bytes ++ more) l in
    let C : ℕ → Type 0 = λ s. AddsFrom bytes ps s more (bytes ++ more) (set ps n q) in
    subst C next (subst B (sym (last_set ps n q count)) (subst A (sym split) adds))

-- the last piece tells the least address that is apart
pub next_at_last : (ps : List Piece) (n : ℕ) (p : Piece) → n + 1 ≡ length ps → p ≡ get_or ps n p → next_apart 0 ps ≡ p.last + 2
next_at_last ps n p count is = ap (next_apart 0) (last_split ps n p count ∙ ap (λ r. take n ps ++ r ∷ []) (sym is)) ∙ next_apart-snoc 0 (take n ps) p

pub none_before : (ps : List Piece) → length ps ≡ 0 → next_apart 0 ps ≡ 0
none_before [] e = refl
none_before (p ∷ ps) e = absurd (omega arith)

pub take_shorter : {X : Type 0} → (n m : ℕ) (xs : List X) → n ≤ m → take n (take m xs) ≡ take n xs
take_shorter zero m xs le = refl
take_shorter (suc n) zero xs le = absurd (omega arith)
take_shorter (suc n) (suc m) [] le = refl
take_shorter (suc n) (suc m) (x ∷ xs) le = ap (λ ys. x ∷ ys) (take_shorter n m xs (omega arith))
