-- From one pass over a text to what it means.
use Rattle.std.proofs.Common.{◌≡◌, ◌≤◌, ◌⊎◌, inl, inr, ℕ, ◌+◌, ◌++◌, List, [], ◌∷◌, length, Option, Some, None, refl, sym, ap, ◌∙◌, subst, append_assoc, length-append, arith}
use Rattle.std.proofs.lemmas.Bool.Decides.{nat_tests}
use Rattle.stm_image.specs.Pairs.{Pairs, Agree, IsSetOf}
use Rattle.stm_image.specs.Record.{Scan, Whole, scan, kind_of, flaw_of, Flaw, BadSum, BadKind, BadLength}
use Rattle.stm_image.specs.Text.{Means, FaultStands, IsOutOfMemory, RecordsPrecede, IsFault, scan_fault, flaw_fault, placed, pairs_of, form_of, form_after}
use Rattle.stm_image.specs.declared.place.Form.{Form}
use Rattle.std.proofs.lemmas.List.{append-nil}
use Rattle.stm_image.specs.Reads.{Reads, EndsAt, PassStopsAt}
use Rattle.stm_image.specs.declared.faults.HexFault.{HexFault}
use Rattle.stm_image.specs.declared.faults.HexFault.TheVariants.{Kind, Length, Conflict, Memory}

-- an end record that stops a pass
ends_at : (n : ℕ) (rest : List ℕ) → PassStopsAt n rest None → EndsAt rest
ends_at n rest (inl ends) = ends
ends_at n rest (inr refused) = cc

pub means_from : (text : List ℕ) (set pairs : Pairs) → Reads text pairs None → IsSetOf set pairs → Agree pairs → Means text set
means_from text set pairs reads is agree =
    let end = ends_at _ reads.rest reads.stops in
    record {
      records = reads.records;
      rest = reads.rest;
      follows = reads.follows;
      last = end.last;
      after = end.after;
      stops = end.stops;
      flawless = end.flawless;
      ends = end.ends;
      agree = subst Agree reads.pairs_are agree;
      is_set = let P : Pairs → Type 0 = λ ps. IsSetOf set ps in subst P reads.pairs_are is;
    }

-- a scan's fault is no conflict
no_conflict : (n m : ℕ) (s : Scan) → scan_fault n s ≡ Some (Conflict m) → ⊥
no_conflict n m (Whole r after) e = of_flaw (flaw_of r) e
  where
    of_flaw : (f : _) → flaw_fault n f ≡ Some (Conflict m) → ⊥
    of_flaw (Some BadSum) e = cc
    of_flaw (Some BadKind) e = cc
    of_flaw (Some BadLength) e = cc
    of_flaw None e = cc
no_conflict n m s e = cc

pub is_fault : (records : List (List ℕ)) (rest : List ℕ) (fault : HexFault) → scan_fault (length records + 1) (scan rest) ≡ Some fault → IsFault records rest fault
is_fault records rest (Conflict n) e = absurd (no_conflict _ n (scan rest) e)
is_fault records rest fault e = e

pub fault_from : (text : List ℕ) (pairs : Pairs) (fault : HexFault) → Reads text pairs (Some fault) → Agree pairs → FaultStands text fault ⊎ IsOutOfMemory text fault
fault_from text pairs fault reads agree = elim reads.stops [
  | inl stands ↦ inl record {
    records = reads.records;
    rest = reads.rest;
    follows = reads.follows;
    agree = subst Agree reads.pairs_are agree;
    is = is_fault reads.records reads.rest fault stands;
  }
  | inr refused ↦ inr record {
    records = reads.records;
    rest = reads.rest;
    follows = reads.follows;
    agree = subst Agree reads.pairs_are agree;
    is = cc;
  }
]

-- one more record after others
pub Follows-snoc : (text : List ℕ) (records : List (List ℕ)) (rest r after : List ℕ) → RecordsPrecede text records rest
    → scan rest ≡ Whole r after → flaw_of r ≡ None → (kind_of r ≡ 1 → ⊥) → RecordsPrecede text (records ++ r ∷ []) after
Follows-snoc text [] rest r after same s f k = (after, ap scan same ∙ s, f, k, refl)
Follows-snoc text (first ∷ records) rest r after (middle, s1, f1, k1, more) s f k = (middle, s1, f1, k1, Follows-snoc middle records rest r after more s f k)

-- no fault, so no flaw
pub flawless_from : (n : ℕ) (f : Option Flaw) → None ≡ flaw_fault n f → f ≡ None
flawless_from n None e = refl
flawless_from n (Some BadSum) e = cc
flawless_from n f e = cc

-- a good record of these kinds has two data bytes
pub two_data : (bytes : List ℕ) → 5 ≤ length bytes → flaw_of bytes ≡ None → (kind_of bytes ≡ 4) ⊎ (kind_of bytes ≡ 2) → length bytes ≡ 7
unfolding flaw_of
two_data bytes least good (inl four) = grind (arith, nat_tests)
two_data bytes least good (inr two) = grind (arith, nat_tests)

pub placed-snoc : (form : Form) (records : List (List ℕ)) (r : List ℕ) → placed form (records ++ r ∷ []) ≡ placed form records ++ pairs_of (form_of form records) r
placed-snoc form [] r = append-nil (pairs_of form r)
placed-snoc form (first ∷ records) r = ap (λ ps. pairs_of form first ++ ps) (placed-snoc (form_after form first) records r) ∙ sym (append_assoc (pairs_of form first) (placed (form_after form first) records) (pairs_of (form_of (form_after form first) records) r))

pub form_of-snoc : (form : Form) (records : List (List ℕ)) (r : List ℕ) → form_of form (records ++ r ∷ []) ≡ form_after (form_of form records) r
form_of-snoc form [] r = refl
form_of-snoc form (first ∷ records) r = form_of-snoc (form_after form first) records r

pub length-snoc : (records : List (List ℕ)) (r : List ℕ) → length (records ++ r ∷ []) ≡ length records + 1
length-snoc records r = length-append records (r ∷ [])
