-- Every text has a verdict: a meaning, or a fault.
use Rattle.std.proofs.Common.{◌≡◌, ◌≢◌, ℕ, zero, suc, ◌+◌, ◌<◌, ◌≤◌, ◌++◌, List, [], ◌∷◌, length, get_or, inl, inr, Option, Some, None, refl, sym, ap, ap₂, ◌∙◌, arith}
use Rattle.std.specs.Prelude.{Contains, ◌↔◌, All}
use Rattle.std.proofs.lemmas.Bool.{cases_eq, cases_lt}
use Rattle.std.proofs.lemmas.List.Elements.{Contains-get_or}
use Rattle.std.proofs.lemmas.List.Kept.{AllPairs-cons}
use Rattle.stm_image.specs.Pairs.{Pairs, AddressesRise, Agree, IsSetOf}
use Rattle.stm_image.specs.Record.{Scan, Ended, Stray, Broken, Cut, Whole, scan, flaw_of, kind_of, Flaw, BadSum, BadKind, BadLength}
use Rattle.stm_image.specs.Text.{RecordsPrecede, HasVerdict, scan_fault, flaw_fault, all_pairs}
use Rattle.stm_image.specs.declared.faults.HexFault.{HexFault}
use Rattle.stm_image.specs.declared.faults.HexFault.TheVariants.{BadDigit, Short, Checksum, Kind, Length, Conflict, NoEnd, NoColon}
use Rattle.stm_image.proofs.Digits.{scan_shrinks}
use Rattle.stm_image.proofs.Reading.{Follows-snoc, is_fault}
use Rattle.stm_image.proofs.Sets.{agree_among, agree_from_set, agree_rising, skip}
use Rattle.stm_image.proofs.Lying.{Rises-tail}
use Rattle.stm_image.proofs.Verdicts.{first_least, in_longer}

-- A PAIR AMONG RISING PAIRS: it has a place there, or its address has another byte
data Inserted (p : ℕ × ℕ) (set : Pairs) : Type 0 where
  Among : (more : Pairs) → AddressesRise more → ((q : ℕ × ℕ) → Contains more q ↔ Contains (p ∷ set) q) → Inserted p set
  Clashes : (Agree (p ∷ set) → ⊥) → Inserted p set

rises_single : (p : ℕ × ℕ) → AddressesRise (p ∷ [])
rises_single p i j d lt within = absurd (omega arith)

all_above : (p s : ℕ × ℕ) (set : Pairs) → p.0 < s.0 → AddressesRise (s ∷ set) → All (λ q. p.0 < q.0) (s ∷ set)
all_above p s set lt rises k d within =
    let least = first_least s set rises (get_or (s ∷ set) k d) (Contains-get_or (s ∷ set) k d within) in omega arith

-- a pair that stands first already
same_members : (p s q : ℕ × ℕ) (set : Pairs) → p ≡ s → Contains (p ∷ s ∷ set) q → Contains (s ∷ set) q
same_members p s q set e (zero, lt, is) = (zero, omega arith, sym e ∙ is)
same_members p s q set e (suc k, lt, is) = (k, omega arith, is)

-- members of longer lists
swap_to : (p s q : ℕ × ℕ) (more set : Pairs) → (Contains more q → Contains (p ∷ set) q) → Contains (s ∷ more) q → Contains (p ∷ s ∷ set) q
swap_to p s q more set among (zero, lt, is) = (suc zero, omega arith, is)
swap_to p s q more set among (suc k, lt, is) = skip p s q set (among (k, omega arith, is))

swap_from : (p s q : ℕ × ℕ) (more set : Pairs) → (Contains (p ∷ set) q → Contains more q) → Contains (p ∷ s ∷ set) q → Contains (s ∷ more) q
swap_from p s q more set among (zero, lt, is) = in_longer s q more (among (zero, omega arith, is))
swap_from p s q more set among (suc zero, lt, is) = (zero, omega arith, is)
swap_from p s q more set among (suc (suc k), lt, is) = in_longer s q more (among (suc k, omega arith, is))

cons_members : (p q : ℕ × ℕ) (xs ys : Pairs) → (Contains xs q → Contains ys q) → Contains (p ∷ xs) q → Contains (p ∷ ys) q
cons_members p q xs ys among (zero, lt, is) = (zero, omega arith, is)
cons_members p q xs ys among (suc k, lt, is) = in_longer p q ys (among (k, omega arith, is))

above_member : (p s q : ℕ × ℕ) (set : Pairs) → s.0 < p.0 → AddressesRise (s ∷ set) → Contains (p ∷ set) q → s.0 < q.0
above_member p s q set lt rises (zero, within, is) = let e : p.0 ≡ q.0 = ap (λ (r : ℕ × ℕ). r.0) is in omega arith
above_member p s q set lt rises (suc k, within, is) =
    let up = rises zero (suc k) q (omega arith) (omega arith) in
    let e : (get_or set k q).0 ≡ q.0 = ap (λ (r : ℕ × ℕ). r.0) is in
    omega arith

above_more : (p s : ℕ × ℕ) (more set : Pairs) → s.0 < p.0 → AddressesRise (s ∷ set) → ((q : ℕ × ℕ) → Contains more q ↔ Contains (p ∷ set) q) → All (λ q. s.0 < q.0) more
above_more p s more set lt rises same k d within = above_member p s (get_or more k d) set lt rises ((same (get_or more k d)).0 (Contains-get_or more k d within))

after_first : (p s : ℕ × ℕ) (set : Pairs) → s.0 < p.0 → AddressesRise (s ∷ set) → Inserted p set → Inserted p (s ∷ set)
after_first p s set lt rises (Among more up same) =
    Among (s ∷ more) (AllPairs-cons (λ q r. q.0 < r.0) s more (above_more p s more set lt rises same) up) (λ q. (swap_to p s q more set (same q).0, swap_from p s q more set (same q).1))
after_first p s set lt rises (Clashes never) = Clashes (λ agree. never (agree_among (p ∷ s ∷ set) (p ∷ set) (λ q. skip p s q set) agree))

at_first : (p s : ℕ × ℕ) (set : Pairs) → p.0 ≡ s.0 → AddressesRise (s ∷ set) → Inserted p (s ∷ set)
at_first p s set at rises = elim (cases_eq p.1 s.1) [
  | inl same ↦
      let e : p ≡ s = ap₂ (λ a b. (a, b)) at same in
      Among (s ∷ set) rises (λ q. (in_longer p q (s ∷ set), same_members p s q set e))
  | inr differ ↦ Clashes (λ agree. differ (agree p.0 p.1 s.1 (zero, omega arith, refl) (suc zero, omega arith, ap (λ a. (a, s.1)) (sym at))))
]

insert : (p : ℕ × ℕ) (set : Pairs) → AddressesRise set → Inserted p set
insert p [] rises = Among (p ∷ []) (rises_single p) (λ q. (λ h. h, λ h. h))
insert p (s ∷ set) rises =
    let later = insert p set (Rises-tail s set rises) in
    elim (cases_lt p.0 s.0) [
      | inl before ↦ Among (p ∷ s ∷ set) (AllPairs-cons (λ q r. q.0 < r.0) p (s ∷ set) (all_above p s set before rises) rises) (λ q. (λ h. h, λ h. h))
      | inr after ↦ elim (cases_eq p.0 s.0) [
        | inl at ↦ at_first p s set at rises
        | inr other ↦ after_first p s set (omega arith) rises later
      ]
    ]

-- THE SET OF PAIRS, or that there is none
data Decided (pairs : Pairs) : Type 0 where
  Makes : (set : Pairs) → IsSetOf set pairs → Decided pairs
  Disagrees : (Agree pairs → ⊥) → Decided pairs

with_first : (p : ℕ × ℕ) (pairs set : Pairs) → IsSetOf set pairs → Inserted p set → Decided (p ∷ pairs)
with_first p pairs set is (Among more up same) = Makes more record {
  rises = up;
  same = λ q. (λ h. cons_members p q set pairs (is.same q).0 ((same q).0 h), λ h. (same q).1 (cons_members p q pairs set (is.same q).1 h));
}
with_first p pairs set is (Clashes never) = Disagrees (λ agree. never (agree_among (p ∷ pairs) (p ∷ set) (λ q. cons_members p q set pairs (is.same q).0) agree))

decide_more : (p : ℕ × ℕ) (pairs : Pairs) → Decided pairs → Decided (p ∷ pairs)
decide_more p pairs (Makes set is) = with_first p pairs set is (insert p set is.rises)
decide_more p pairs (Disagrees never) = Disagrees (λ agree. never (agree_among (p ∷ pairs) pairs (λ q. in_longer p q pairs) agree))

decide : (pairs : Pairs) → Decided pairs
decide [] = Makes [] record { rises = λ i j d lt within. absurd (omega arith); same = λ q. (λ h. h, λ h. h) }
decide (p ∷ pairs) = decide_more p pairs (decide pairs)

-- THE VERDICT from a place in the text on
module _ (text : List ℕ) (records : List (List ℕ)) (rest : List ℕ) (follows : RecordsPrecede text records rest) (agree : Agree (all_pairs records)) where
  faulted : (fault : HexFault) → scan_fault (length records + 1) (scan rest) ≡ Some fault → HasVerdict text
  faulted fault e = inr (fault, record { records = records; rest = rest; follows = follows; agree = agree; is = is_fault records rest fault e })

  ended : (r after : List ℕ) → scan rest ≡ Whole r after → flaw_of r ≡ None → kind_of r ≡ 1 → Decided (all_pairs records) → HasVerdict text
  ended r after s f k (Makes set is) =
      inl (set, record { records = records; rest = rest; follows = follows; last = r; after = after; stops = s; flawless = f; ends = k; agree = agree; is_set = is })
  ended r after s f k (Disagrees never) = absurd (never agree)

  goes_on : (r after : List ℕ) → scan rest ≡ Whole r after → flaw_of r ≡ None → kind_of r ≢ 1 → Decided (all_pairs (records ++ r ∷ []))
      → (Agree (all_pairs (records ++ r ∷ [])) → HasVerdict text) → HasVerdict text
  goes_on r after s f k (Makes set is) next = next (agree_from_set set _ is)
  goes_on r after s f k (Disagrees never) next = inr (
    Conflict (length records + 1),
    record {
      records = records;
      rest = rest;
      follows = follows;
      agree = agree;
      is = (refl, record { next = r; after = after; stands = s; flawless = f; differs = never; goes_on = k });
    },
  )

  of_record : (r after : List ℕ) (flaw : Option Flaw) → scan rest ≡ Whole r after → flaw_of r ≡ flaw
      → (kind_of r ≢ 1 → flaw_of r ≡ None → Agree (all_pairs (records ++ r ∷ [])) → HasVerdict text) → HasVerdict text
  of_record r after (Some BadSum) s f next = faulted (Checksum (length records + 1)) (ap (scan_fault (length records + 1)) s ∙ ap (flaw_fault (length records + 1)) f)
  of_record r after (Some BadKind) s f next = faulted (Kind (length records + 1)) (ap (scan_fault (length records + 1)) s ∙ ap (flaw_fault (length records + 1)) f)
  of_record r after (Some BadLength) s f next = faulted (Length (length records + 1)) (ap (scan_fault (length records + 1)) s ∙ ap (flaw_fault (length records + 1)) f)
  of_record r after None s f next = elim (cases_eq (kind_of r) 1) [
    | inl end ↦ ended r after s f end (decide (all_pairs records))
    | inr other ↦ goes_on r after s f other (decide (all_pairs (records ++ r ∷ []))) (next other f)
  ]

  of_scan : (found : Scan) → scan rest ≡ found
      → ((r after : List ℕ) → scan rest ≡ Whole r after → kind_of r ≢ 1 → flaw_of r ≡ None → Agree (all_pairs (records ++ r ∷ [])) → HasVerdict text) → HasVerdict text
  of_scan Ended s next = faulted (NoEnd (length records + 1)) (ap (scan_fault (length records + 1)) s)
  of_scan Stray s next = faulted (NoColon (length records + 1)) (ap (scan_fault (length records + 1)) s)
  of_scan Broken s next = faulted (BadDigit (length records + 1)) (ap (scan_fault (length records + 1)) s)
  of_scan Cut s next = faulted (Short (length records + 1)) (ap (scan_fault (length records + 1)) s)
  of_scan (Whole r after) s next = of_record r after (flaw_of r) s refl (next r after s)

verdict_from : (steps : ℕ) (text : List ℕ) (records : List (List ℕ)) (rest : List ℕ) → RecordsPrecede text records rest → Agree (all_pairs records) → length rest ≤ steps → HasVerdict text
verdict_from zero text records rest follows agree short =
    of_scan text records rest follows agree (scan rest) refl (λ r after s k f more. absurd (omega (arith, scan_shrinks rest r after s)))
verdict_from (suc steps) text records rest follows agree short =
    of_scan text records rest follows agree (scan rest) refl (λ r after s k f more.
    verdict_from steps text (records ++ r ∷ []) after (Follows-snoc text records rest r after follows s f k) more (omega (arith, scan_shrinks rest r after s)))

pub has_verdict : (text : List ℕ) → HasVerdict text
has_verdict text = verdict_from (length text) text [] text refl (agree_rising [] (λ i j d lt within. absurd (omega arith))) (omega arith)
