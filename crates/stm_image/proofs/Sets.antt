-- Rising pairs, look-ups in them, and the set of some pairs.
use Rattle.std.proofs.Common.{◌≡◌, ℕ, zero, suc, ◌+◌, ◌<◌, ◌≤◌, ◌≢◌, List, [], ◌∷◌, length, get_or, Option, Some, None, refl, sym, ap, ◌∙◌, inl, inr, arith}
use Rattle.std.specs.Prelude.{Contains, true, false, nat_eq, nat_lt, All, MatchOption}
use Rattle.std.specs.List.Sorted.{IsPartitionPoint}
use Rattle.std.specs.Option.{option_copied}
use Rattle.std.specs.Slice.{IsGetResult}
use denote.Ref.{Bor}
use Rattle.std.proofs.lemmas.Bool.{cases_eq, cases_lt, eq-eqb, ltb-true, ltb-false}
use Rattle.std.proofs.lemmas.Bool.Decides.{nat_tests}
use Rattle.std.proofs.lemmas.List.{get_or_default}
use Rattle.std.proofs.lemmas.List.Elements.{Contains-get_or, All-cons, All-nil}
use Rattle.std.proofs.lemmas.List.Kept.{AllPairs-cons}
use Rattle.stm_image.specs.Pairs.{Pairs, AddressesRise, Agree, IsSetOf, IsNext, HasNone, byte_at, raw_pairs}

-- two places of one address are one place
pub one_place : (pairs : Pairs) → AddressesRise pairs → (i j : ℕ) (d : ℕ × ℕ) → i < length pairs → j < length pairs → (get_or pairs i d).0 ≡ (get_or pairs j d).0 → i ≡ j
one_place pairs rises i j d in_i in_j same = grind (arith, rises i j d, rises j i d)

-- where addresses rise, no address has two bytes
pub agree_rising : (pairs : Pairs) → AddressesRise pairs → Agree pairs
agree_rising pairs rises a b c (i, in_i, is_i) (j, in_j, is_j) =
    let at_j : get_or pairs j (a, b) ≡ (a, c) = get_or_default pairs j (a, b) (a, c) in_j ∙ is_j in
    let first = λ (p : ℕ × ℕ). p.0 in
    let second = λ (p : ℕ × ℕ). p.1 in
    let same : i ≡ j = one_place pairs rises i j (a, b) in_i in_j (ap first is_i ∙ sym (ap first at_j)) in
    sym (ap second is_i) ∙ ap (λ k. (get_or pairs k (a, b)).1) same ∙ ap second at_j

-- pairs that are among some that agree do too
pub agree_among : (xs ys : Pairs) → ((p : ℕ × ℕ) → Contains ys p → Contains xs p) → Agree xs → Agree ys
agree_among xs ys among agree a b c in_b in_c = agree a b c (among (a, b) in_b) (among (a, c) in_c)

-- the first pair of an address tells its byte
byte_at_first : (set : Pairs) (address k : ℕ) (d : ℕ × ℕ) → k < length set → ((i : ℕ) → i < k → (get_or set i d).0 ≢ address) → (get_or set k d).0 ≡ address → byte_at set address ≡ Some (get_or set k d).1
byte_at_first [] address k d within before here = absurd (omega arith)
byte_at_first ((a, b) ∷ set) address zero d within before here = rw (eq-eqb a address here) refl
byte_at_first ((a, b) ∷ set) address (suc k) d within before here =
    let other : a ≢ address = before zero (omega arith) in
    let test : nat_eq a address ≡ false = grind (arith, nat_tests) in
    rw test (byte_at_first set address k d (omega arith) (λ i lt. before (suc i) (omega arith)) here)

byte_at_absent : (set : Pairs) (address : ℕ) (d : ℕ × ℕ) → ((i : ℕ) → i < length set → (get_or set i d).0 ≢ address) → byte_at set address ≡ None
byte_at_absent [] address d absent = refl
byte_at_absent ((a, b) ∷ set) address d absent =
    let other : a ≢ address = absent zero (omega arith) in
    let test : nat_eq a address ≡ false = grind (arith, nat_tests) in
    rw test (byte_at_absent set address d (λ i lt. absent (suc i) (omega arith)))

-- what the next pair tells of the byte at an address
pub byte_at_next : (set : Pairs) (address byte : ℕ) → AddressesRise set → (a : ℕ) → IsNext set address (a, byte) → a ≡ address → Some byte ≡ byte_at set address
byte_at_next set address byte rises a next same =
    let held = next.held in
    let second = λ (p : ℕ × ℕ). p.1 in
    let first = λ (p : ℕ × ℕ). p.0 in
    let here : (get_or set held.0 (a, byte)).0 ≡ address = ap first held.2 ∙ same in
    let before = λ (i : ℕ) (lt : i < held.0) (e : (get_or set i (a, byte)).0 ≡ address). let up = rises i held.0 (a, byte) lt held.1 in let none : ⊥ = omega arith in none in
    sym (byte_at_first set address held.0 (a, byte) held.1 before here ∙ ap (λ p. Some (second p)) held.2)

pub byte_at_beyond : (set : Pairs) (address : ℕ) (p : ℕ × ℕ) → IsNext set address p → p.0 ≢ address → None ≡ byte_at set address
byte_at_beyond set address p next other =
    let after = next.after in
    let absent = λ (i : ℕ) (lt : i < length set) (e : (get_or set i p).0 ≡ address).
    let least = next.least (get_or set i p) (Contains-get_or set i p lt) (omega arith) in
    let none : ⊥ = other (omega arith) in none in
    sym (byte_at_absent set address p absent)

pub byte_at_none : (set : Pairs) (address : ℕ) → HasNone set address → None ≡ byte_at set address
byte_at_none set address none =
    sym (byte_at_absent set address (0, 0) (λ i lt e. let below = none (get_or set i (0, 0)) (Contains-get_or set i (0, 0) lt) in omega arith))

-- the pair at the place before which all addresses are lower
next_at : (set : Pairs) (address place : ℕ) → AddressesRise set → IsPartitionPoint (λ (p : ℕ × ℕ). nat_lt p.0 address ≡ true) (λ (p : ℕ × ℕ). nat_lt p.0 address ≡ false) set place
    → place < length set → (p : ℕ × ℕ) → p ≡ get_or set place p → IsNext set address p
next_at set address place rises parted within p is =
    let at : address ≤ (get_or set place p).0 = ltb-false _ _ (parted.1 place p (omega arith) within) in
    let first = λ (q : ℕ × ℕ). q.0 in
    let same : p.0 ≡ (get_or set place p).0 = ap first is in
    record {
      held = (place, within, sym is);
      after = omega arith;
      least = λ q held above.
          elim (cases_lt held.0 place) [
            | inl before ↦
                let low : (get_or set held.0 q).0 < address = ltb-true _ _ (parted.0 held.0 q (omega arith) before) in
                let there : (get_or set held.0 q).0 ≡ q.0 = ap first held.2 in
                absurd (omega arith)
            | inr after ↦
                let there : (get_or set held.0 q).0 ≡ q.0 = ap first held.2 in
                let default : get_or set place q ≡ get_or set place p = get_or_default set place q p within in
                elim (cases_eq held.0 place) [
                  | inl e ↦
                      let here : (get_or set held.0 q).0 ≡ (get_or set place q).0 = ap (λ k. (get_or set k q).0) e in
                      let there_too : (get_or set place q).0 ≡ (get_or set place p).0 = ap first default in
                      omega arith
                  | inr ne ↦
                      let up = rises place held.0 q (omega arith) held.1 in
                      let there_too : (get_or set place q).0 ≡ (get_or set place p).0 = ap first default in
                      omega arith
                ]
          ];
    }

none_at : (set : Pairs) (address place : ℕ) → IsPartitionPoint (λ (p : ℕ × ℕ). nat_lt p.0 address ≡ true) (λ (p : ℕ × ℕ). nat_lt p.0 address ≡ false) set place → length set ≤ place → HasNone set address
none_at set address place parted past q held =
    let low : (get_or set held.0 q).0 < address = ltb-true _ _ (parted.0 held.0 q (omega arith) (omega (arith, held.1))) in
    let first = λ (p : ℕ × ℕ). p.0 in
    let there : (get_or set held.0 q).0 ≡ q.0 = ap first held.2 in
    omega arith

pub next_of : (set : Pairs) (address place : ℕ) → AddressesRise set → IsPartitionPoint (λ (p : ℕ × ℕ). nat_lt p.0 address ≡ true) (λ (p : ℕ × ℕ). nat_lt p.0 address ≡ false) set place
    → (r : Option (Bor (ℕ × ℕ))) → IsGetResult set place place r → MatchOption (option_copied r) (HasNone set address) (IsNext set address)
next_of set address place rises parted None got = none_at set address place parted got.3
next_of set address place rises parted (Some x) got = next_at set address place rises parted got.3.0 x.now got.1

-- THE SET OF PAIRS: rising pairs are their own
pub set_rising : (pairs : Pairs) → AddressesRise pairs → IsSetOf pairs pairs
set_rising pairs rises = record { rises = rises; same = λ p. (λ h. h, λ h. h) }

pub agree_from_set : (set pairs : Pairs) → IsSetOf set pairs → Agree pairs
agree_from_set set pairs is = agree_among set pairs (λ p. (is.same p).1) (agree_rising set is.rises)

-- all but the second
pub skip : (k p q : ℕ × ℕ) (pairs : Pairs) → Contains (k ∷ pairs) q → Contains (k ∷ p ∷ pairs) q
skip k p q pairs (zero, lt, is) = (zero, omega arith, is)
skip k p q pairs (suc i, lt, is) = (suc (suc i), omega arith, is)

-- RAW BYTES: they lie at rising addresses
raw_above : (low start : ℕ) (bytes : List ℕ) → low < start → All (λ q. low < q.0) (raw_pairs start bytes)
raw_above low start [] lt = All-nil (λ q. low < q.0)
raw_above low start (b ∷ bytes) lt = All-cons (λ q. low < q.0) (start, b) (raw_pairs (start + 1) bytes) lt (raw_above low (start + 1) bytes (omega arith))

pub rises_raw : (start : ℕ) (bytes : List ℕ) → AddressesRise (raw_pairs start bytes)
rises_raw start [] = λ i j d lt within. absurd (omega arith)
rises_raw start (b ∷ bytes) = AllPairs-cons (λ q r. q.0 < r.0) (start, b) (raw_pairs (start + 1) bytes) (raw_above start (start + 1) bytes (omega arith)) (rises_raw (start + 1) bytes)
