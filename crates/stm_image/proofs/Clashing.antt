-- The first bytes of pieces at each address, and where another first stands.
use Rattle.std.proofs.Common.{◌≡◌, ◌≢◌, ◌⊎◌, inl, inr, ℕ, zero, suc, ◌+◌, ◌-◌, ◌<◌, ◌≤◌, List, [], ◌∷◌, ◌++◌, length, take, drop, get_or, slice_index, Bool, if◌then◌else◌, Some, refl, sym, ap, ap₂, ◌∙◌, subst, arith}
use Rattle.std.specs.Prelude.{Contains}
use Rattle.std.proofs.lemmas.Bool.{cases_eq, cases_lt, ne_eqb, eq-eqb}
use Rattle.std.proofs.lemmas.List.{take-append-drop, drop_more, drop_all, length-take, take-append-le, get_or-take}
use Rattle.std.proofs.lemmas.List.Elements.{Contains-append_left, Contains-append_right, Contains-append_cases}
use Rattle.stm_image.specs.Clash.{IsClash, Names, IsPutOver, HasAll, HasFirsts}
use Rattle.stm_image.specs.Lay.{AgreesWith, DiffersAt, IsFirstDifference}
use Rattle.stm_image.specs.Layout.{Covers}
use Rattle.stm_image.specs.Pairs.{Pairs, Agree, byte_at, raw_pairs}
use Rattle.stm_image.specs.Pieces.{piece_bytes, pairs_at, Stand, IsWithin}
use Rattle.stm_image.specs.declared.pieces.Piece.{Piece}
use Rattle.stm_image.proofs.Lying.{raw_lies, raw_holds, piece_of, holds_piece, length-raw, length-bytes_at, length-pairs_at, stands_within}
use Rattle.stm_image.proofs.Overlaps.{held_at}
use Rattle.stm_image.proofs.Putting.{Stand-split}
use Rattle.stm_image.proofs.Running.{pairs_at-append}

-- BYTES BY ADDRESSES
some_byte : (set : Pairs) (a b : ℕ) → Contains set (a, b) → (c : ℕ) × (byte_at set a ≡ Some c)
some_byte [] a b held = absurd (omega (arith, held.1))
some_byte ((x, y) ∷ set) a b held = elim (cases_eq x a) [
  | inl same ↦ (y, ap (λ (t : Bool). if t then Some y else byte_at set a) (eq-eqb x a same))
  | inr other ↦
      let later = some_byte set a b (rest x y set a b other held) in
      (later.0, ap (λ (t : Bool). if t then Some y else byte_at set a) (ne_eqb x a other) ∙ later.1)
]
  where
    rest : (x y : ℕ) (set : Pairs) (a b : ℕ) → x ≢ a → Contains ((x, y) ∷ set) (a, b) → Contains set (a, b)
    rest x y set a b other (zero, lt, is) = absurd (other (ap (λ (p : ℕ × ℕ). p.0) is))
    rest x y set a b other (suc i, lt, is) = (i, omega arith, is)

pub has_all : (set pairs : Pairs) → Covers set pairs → HasAll set pairs
has_all set pairs covers q held = let found = covers q held in some_byte set q.0 found.0 found.1

-- a front that names an address has the byte of all
byte_in_front : (front back : Pairs) (a b : ℕ) → Contains front (a, b) → byte_at (front ++ back) a ≡ byte_at front a
byte_in_front [] back a b held = absurd (omega (arith, held.1))
byte_in_front ((x, y) ∷ front) back a b held = elim (cases_eq x a) [
  | inl same ↦ ap (λ (t : Bool). if t then Some y else byte_at (front ++ back) a) (eq-eqb x a same) ∙ sym (ap (λ (t : Bool). if t then Some y else byte_at front a) (eq-eqb x a same))
  | inr other ↦
      ap (λ (t : Bool). if t then Some y else byte_at (front ++ back) a) (ne_eqb x a other) ∙ byte_in_front front back a b (rest x y front a b other held)
      ∙ sym (ap (λ (t : Bool). if t then Some y else byte_at front a) (ne_eqb x a other))
]
  where
    rest : (x y : ℕ) (set : Pairs) (a b : ℕ) → x ≢ a → Contains ((x, y) ∷ set) (a, b) → Contains set (a, b)
    rest x y set a b other (zero, lt, is) = absurd (other (ap (λ (p : ℕ × ℕ). p.0) is))
    rest x y set a b other (suc i, lt, is) = (i, omega arith, is)

-- bytes before others
byte_of_raw : (s : ℕ) (bytes : List ℕ) (back : Pairs) (i : ℕ) → i < length bytes → byte_at (raw_pairs s bytes ++ back) (s + i) ≡ Some (slice_index bytes i)
byte_of_raw s [] back i lt = absurd (omega arith)
byte_of_raw s (b ∷ bytes) back zero lt = ap (λ (t : Bool). if t then Some b else byte_at (raw_pairs (s + 1) bytes ++ back) (s + 0)) (eq-eqb s (s + 0) (omega arith))
byte_of_raw s (b ∷ bytes) back (suc i) lt =
    let on : s + suc i ≡ s + 1 + i = omega arith in
    ap (λ (t : Bool). if t then Some b else byte_at (raw_pairs (s + 1) bytes ++ back) (s + suc i)) (ne_eqb s (s + suc i) (λ e. omega (arith, e)))
    ∙ ap (byte_at (raw_pairs (s + 1) bytes ++ back)) on ∙ byte_of_raw (s + 1) bytes back i (omega arith)

byte_past_raw : (s : ℕ) (bytes : List ℕ) (back : Pairs) (a : ℕ) → (a < s) ⊎ (s + length bytes ≤ a) → byte_at (raw_pairs s bytes ++ back) a ≡ byte_at back a
byte_past_raw s [] back a out = refl
byte_past_raw s (b ∷ bytes) back a out =
    let next : (a < s + 1) ⊎ (s + 1 + length bytes ≤ a) = elim out [ inl left ↦ inl (omega arith) | inr right ↦ inr (omega arith) ] in
    ap (λ (t : Bool). if t then Some b else byte_at (raw_pairs (s + 1) bytes ++ back) a) (ne_eqb s a (λ e. elim out [ inl left ↦ omega (arith, e, left) | inr right ↦ omega (arith, e, right) ]))
    ∙ byte_past_raw (s + 1) bytes back a next

-- PUTTING PIECES OVER A SET, from the last
pub record IsPutDown (set pairs done : Pairs) : Type 0 where
  pub all : HasAll set pairs
  pub firsts : HasFirsts set done

pub none_put : (set : Pairs) (bytes : List ℕ) (list : List Piece) (left : ℕ) → length list ≤ left → HasAll set (pairs_at bytes list) → IsPutDown set (pairs_at bytes list) (pairs_at bytes (drop left list))
none_put set bytes list left past all = record {
  all = all;
  firsts = subst (HasFirsts set) (sym (ap (pairs_at bytes) (drop_all left list past))) (λ q held. absurd (omega (arith, held.1)));
}

-- a set has the addresses of each piece
pub piece_named : (set : Pairs) (bytes : List ℕ) (list : List Piece) (p : Piece) → HasAll set (pairs_at bytes list) → Contains list p → Names set p.first (length (piece_bytes bytes p))
piece_named set bytes list p all held i lt = all (p.first + i, slice_index (piece_bytes bytes p) i) (holds_piece bytes list p (p.first + i, slice_index (piece_bytes bytes p) i) held (raw_holds p.first (piece_bytes bytes p) i lt))

-- where an address lies beside bytes
data Where (s count a : ℕ) : Type 0 where
  Inside : (k : ℕ) → k < count → s + k ≡ a → Where s count a
  Outside : (a < s) ⊎ (s + count ≤ a) → Where s count a

where_is : (s count a : ℕ) → Where s count a
where_is s count a = elim (cases_lt a s) [
  | inl before ↦ Outside (inl before)
  | inr from ↦ elim (cases_lt a (s + count)) [
    | inl within ↦ Inside (a - s) (omega arith) (omega arith)
    | inr past ↦ Outside (inr past)
  ]
]

-- one piece more
pub piece_put : (set new : Pairs) (bytes : List ℕ) (list : List Piece) (i : ℕ) (d : Piece) → i < length list → IsPutDown set (pairs_at bytes list) (pairs_at bytes (drop (i + 1) list))
    → IsPutOver set (get_or list i d).first (piece_bytes bytes (get_or list i d)) new → IsPutDown new (pairs_at bytes list) (pairs_at bytes (drop i list))
piece_put set new bytes list i d lt so_far over = record {
  all = λ q held. stays q (so_far.all q held) (where_is (get_or list i d).first (length (piece_bytes bytes (get_or list i d))) q.0);
  firsts = subst (HasFirsts new) (sym whole) (λ q held. first q held (where_is (get_or list i d).first (length (piece_bytes bytes (get_or list i d))) q.0));
}
  where
    p : Piece
    p = get_or list i d

    own : List ℕ
    own = piece_bytes bytes p

    whole : pairs_at bytes (drop i list) ≡ raw_pairs p.first own ++ pairs_at bytes (drop (i + 1) list)
    whole = ap (pairs_at bytes) (drop_more list i d lt)

    stays : (q : ℕ × ℕ) → (b : ℕ) × (byte_at set q.0 ≡ Some b) → Where p.first (length own) q.0 → (b : ℕ) × (byte_at new q.0 ≡ Some b)
    stays q was (Inside k within at) = (slice_index own k, ap (byte_at new) (sym at) ∙ over.inside k within)
    stays q was (Outside out) = (was.0, over.outside q.0 out ∙ was.1)

    first : (q : ℕ × ℕ) → Contains (raw_pairs p.first own ++ pairs_at bytes (drop (i + 1) list)) q → Where p.first (length own) q.0 → byte_at new q.0 ≡ byte_at (raw_pairs p.first own ++ pairs_at bytes (drop (i + 1) list)) q.0
    first q held (Inside k within at) =
        ap (byte_at new) (sym at) ∙ over.inside k within ∙ sym (byte_of_raw p.first own (pairs_at bytes (drop (i + 1) list)) k within) ∙ ap (byte_at (raw_pairs p.first own ++ pairs_at bytes (drop (i + 1) list))) at
    first q held (Outside out) =
        over.outside q.0 out ∙ so_far.firsts q (behind q out (Contains-append_cases (raw_pairs p.first own) (pairs_at bytes (drop (i + 1) list)) q held))
        ∙ sym (byte_past_raw p.first own (pairs_at bytes (drop (i + 1) list)) q.0 out)
      where
        behind : (q : ℕ × ℕ) → (q.0 < p.first) ⊎ (p.first + length own ≤ q.0) → Contains (raw_pairs p.first own) q ⊎ Contains (pairs_at bytes (drop (i + 1) list)) q → Contains (pairs_at bytes (drop (i + 1) list)) q
        behind q out (inr later) = later
        behind q out (inl here) = let lies = raw_lies p.first own q here in let from = lies.from in let to = lies.to in absurd (elim out [ inl left ↦ omega arith | inr right ↦ omega arith ])

pub all_put : (set : Pairs) (bytes : List ℕ) (list : List Piece) (left : ℕ) → left ≤ 0 → IsPutDown set (pairs_at bytes list) (pairs_at bytes (drop left list)) → HasFirsts set (pairs_at bytes list)
all_put set bytes list zero none down = down.firsts
all_put set bytes list (suc n) none down = absurd (omega arith)

-- WHERE THE FIRST STANDS that differs
take_past : (xs ys : Pairs) (m : ℕ) → take (length xs + m) (xs ++ ys) ≡ xs ++ take m ys
take_past [] ys m = let e : 0 + m ≡ m = omega arith in ap (λ (n : ℕ). take n ys) e
take_past (x ∷ xs) ys m =
    let e : suc (length xs) + m ≡ suc (length xs + m) = omega arith in
    ap (λ (n : ℕ). take n (x ∷ (xs ++ ys))) e ∙ ap (λ (ps : Pairs). x ∷ ps) (take_past xs ys m)

take-raw : (s m : ℕ) (bytes : List ℕ) → take m (raw_pairs s bytes) ≡ raw_pairs s (take m bytes)
take-raw s zero bytes = refl
take-raw s (suc m) [] = refl
take-raw s (suc m) (b ∷ bytes) = ap (λ (ps : Pairs). (s, b) ∷ ps) (take-raw (s + 1) m bytes)

-- a pair that does not differ from a set that names all
same_byte : (set pairs : Pairs) (s : ℕ) (own : List ℕ) (q : ℕ × ℕ) → HasFirsts set pairs → Contains pairs q → s ≤ q.0 → q.0 < s + length own → slice_index own (q.0 - s) ≡ q.1
    → (DiffersAt set s own q.0 → ⊥) → byte_at set q.0 ≡ Some q.1
same_byte set pairs s own q firsts held from to byte same =
    let named = some_byte pairs q.0 q.1 held in
    let there = firsts q held ∙ named.1 in
    elim (cases_eq (slice_index own (q.0 - s)) named.0) [
      | inl e ↦ there ∙ ap Some (sym e ∙ byte)
      | inr other ↦ absurd (same record { byte = named.0; held = there; from = from; within = to; differs = other })
    ]

agree_by_set : (set pairs : Pairs) → ((q : ℕ × ℕ) → Contains pairs q → byte_at set q.0 ≡ Some q.1) → Agree pairs
agree_by_set set pairs each a b c in_b in_c = let both : Some b ≡ Some c = sym (each (a, b) in_b) ∙ each (a, c) in_c in cc

-- pieces that agree with a set
agreeing : (set : Pairs) (bytes : List ℕ) (list some : List Piece) → Stand 0 (length bytes) list → HasFirsts set (pairs_at bytes list) → ((r : Piece) → Contains some r → Contains list r)
    → ((r : Piece) → Contains some r → AgreesWith set r.first (piece_bytes bytes r)) → (q : ℕ × ℕ) → Contains (pairs_at bytes some) q → byte_at set q.0 ≡ Some q.1
agreeing set bytes list some stand firsts among agrees q held =
    let found = piece_of bytes some q held in
    let r = found.0 in
    let lies = raw_lies r.first (piece_bytes bytes r) q found.2 in
    same_byte set (pairs_at bytes list) r.first (piece_bytes bytes r) q firsts (holds_piece bytes list r q (among r found.1) found.2) lies.from lies.to lies.byte (agrees r found.1 q.0)

-- all of them
pub all_agree : (set : Pairs) (bytes : List ℕ) (list : List Piece) → Stand 0 (length bytes) list → HasFirsts set (pairs_at bytes list)
    → ((r : Piece) → Contains list r → AgreesWith set r.first (piece_bytes bytes r)) → Agree (pairs_at bytes list)
all_agree set bytes list stand firsts agrees = agree_by_set set (pairs_at bytes list) (agreeing set bytes list list stand firsts (λ r h. h) agrees)

module _ (set : Pairs) (bytes : List ℕ) (list : List Piece) (i : ℕ) (p : Piece) (address : ℕ) (stand : Stand 0 (length bytes) list) (lt : i < length list) (is : p ≡ get_or list i p) (firsts : HasFirsts set (pairs_at bytes list))
    (agrees : (r : Piece) → Contains (take i list) r → AgreesWith set r.first (piece_bytes bytes r)) (found : IsFirstDifference set p.first (piece_bytes bytes p) address) where
  abbrev pub own : List ℕ
  own = piece_bytes bytes p

  abbrev pub pairs : Pairs
  pairs = pairs_at bytes list

  abbrev pub front : Pairs
  front = pairs_at bytes (take i list)

  abbrev pub back : Pairs
  back = pairs_at bytes (drop (i + 1) list)

  abbrev pub off : ℕ
  off = address - p.first

  split : list ≡ take i list ++ p ∷ drop (i + 1) list
  split = sym (take-append-drop i list) ∙ ap (λ l. take i list ++ l) (drop_more list i p lt ∙ ap (λ r. r ∷ drop (i + 1) list) (sym is))

  whole : pairs ≡ front ++ (raw_pairs p.first own ++ back)
  whole = ap (pairs_at bytes) split ∙ pairs_at-append bytes (take i list) (p ∷ drop (i + 1) list)

  within : IsWithin (length bytes) p
  within = stands_within 0 (length bytes) list p stand (i, lt, sym is)

  long_front : length front ≡ p.place
  long_front =
      let parts = Stand-split 0 (length bytes) (take i list) p (drop (i + 1) list) (subst (Stand 0 (length bytes)) split stand) in
      let ends = within.ends in
      let same = length-pairs_at bytes 0 p.place (take i list) parts.0 (omega arith) in
      omega arith

  inside : off < length own
  inside = let here = found.here.within in let from = found.here.from in omega arith

  up_to : (m : ℕ) → m ≤ length own → take (p.place + m) pairs ≡ front ++ raw_pairs p.first (take m own)
  up_to m le =
      let e : p.place + m ≡ length front + m = omega (arith, long_front) in
      let raw = length-raw p.first own in
      ap₂ (λ (n : ℕ) (ps : Pairs). take n ps) e whole ∙ take_past front (raw_pairs p.first own ++ back) m
      ∙ ap (λ (ps : Pairs). front ++ ps) (take-append-le m (raw_pairs p.first own) back (omega arith) ∙ take-raw p.first m own)

  in_all : (q : ℕ × ℕ) → Contains (raw_pairs p.first own) q → Contains pairs q
  in_all q held = subst (λ (ps : Pairs). Contains ps q) (sym whole) (Contains-append_right front (raw_pairs p.first own ++ back) q (Contains-append_left (raw_pairs p.first own) back q held))

  -- those before it are those of the set
  before : (q : ℕ × ℕ) → Contains front q ⊎ Contains (raw_pairs p.first (take off own)) q → byte_at set q.0 ≡ Some q.1
  before q (inl early) = agreeing set bytes list (take i list) stand firsts (λ r h. subst (λ (l : List Piece). Contains l r) (sym split) (Contains-append_left (take i list) (p ∷ drop (i + 1) list) r h)) agrees q early
  before q (inr here) =
      let lies = raw_lies p.first (take off own) q here in
      let from = lies.from in
      let to = lies.to in
      let taken = length-take off own in
      let in_own = inside in
      let k = q.0 - p.first in
      let at : p.first + k ≡ q.0 = omega arith in
      let byte : slice_index own k ≡ q.1 = sym (get_or-take off own k 0 (omega arith)) ∙ lies.byte in
      let held : Contains (raw_pairs p.first own) q = subst (λ (r : ℕ × ℕ). Contains (raw_pairs p.first own) r) (ap₂ (λ (x y : ℕ). (x, y)) at byte) (raw_holds p.first own k (omega arith)) in
      same_byte set pairs p.first own q firsts (in_all q held) from (omega arith) byte (λ d. let least = found.first q.0 d in omega arith)

  -- it is another than the one before it
  another : Agree (take (p.place + off + 1) pairs) → ⊥
  another agree =
      let here = found.here in
      let from = here.from in
      let in_own = inside in
      let next : p.place + off + 1 ≡ p.place + (off + 1) = omega arith in
      let T = front ++ raw_pairs p.first (take (off + 1) own) in
      let taken : take (p.place + (off + 1)) pairs ≡ T = up_to (off + 1) (omega arith) in
      let agrees_T : Agree T = subst Agree (ap (λ (n : ℕ). take n pairs) next ∙ taken) agree in
      let long = length-take (off + 1) own in
      let at : p.first + off ≡ address = omega arith in
      let own_byte : slice_index (take (off + 1) own) off ≡ slice_index own off = get_or-take (off + 1) own off 0 (omega arith) in
      let mine : Contains T (address, slice_index own off) =
      Contains-append_right front (raw_pairs p.first (take (off + 1) own)) (address, slice_index own off)
      (subst (λ (r : ℕ × ℕ). Contains (raw_pairs p.first (take (off + 1) own)) r) (ap₂ (λ (x y : ℕ). (x, y)) at own_byte) (raw_holds p.first (take (off + 1) own) off (omega arith))) in
      let in_pairs : Contains pairs (address, slice_index own off) =
      in_all (address, slice_index own off) (subst (λ (n : ℕ). Contains (raw_pairs p.first own) (n, slice_index own off)) at (raw_holds p.first own off in_own)) in
      let parts : pairs ≡ T ++ drop (p.place + (off + 1)) pairs = sym (take-append-drop (p.place + (off + 1)) pairs) ∙ ap (λ (ps : Pairs). ps ++ drop (p.place + (off + 1)) pairs) taken in
      let first : byte_at T address ≡ Some here.byte =
      sym (ap (λ (ps : Pairs). byte_at ps address) parts ∙ byte_in_front T (drop (p.place + (off + 1)) pairs) address (slice_index own off) mine) ∙ sym (firsts (address, slice_index own off) in_pairs) ∙ here.held in
      here.differs (agrees_T address (slice_index own off) here.byte mine (held_at T address here.byte first))

  pub clash_at : IsClash pairs (p.place + off)
  clash_at =
      let ends = within.ends in
      let in_own = inside in
      let long = length-bytes_at bytes p ends in
      let all = length-pairs_at bytes 0 (length bytes) list stand (omega arith) in
      let taken : take (p.place + off) pairs ≡ front ++ raw_pairs p.first (take off own) = up_to off (omega arith) in
      record {
        within = omega arith;
        agree = subst Agree (sym taken) (agree_by_set set (front ++ raw_pairs p.first (take off own)) (λ q held. before q (Contains-append_cases front (raw_pairs p.first (take off own)) q held)));
        differs = another;
      }
