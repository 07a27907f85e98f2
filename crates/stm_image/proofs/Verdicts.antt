-- A text has one verdict at most: one meaning, or one fault.
use Rattle.std.proofs.Common.{◌≡◌, ◌≢◌, ℕ, zero, suc, ◌+◌, ◌≤◌, ◌++◌, List, [], ◌∷◌, length, get_or, ◌⊎◌, inl, inr, Option, Some, None, refl, sym, ap, ap₂, ◌∙◌, subst, append_assoc, length-append, take, arith}
use Rattle.std.specs.Prelude.{Contains, ◌↔◌}
use Rattle.std.proofs.lemmas.List.{append-nil, take-append-le}
use Rattle.std.proofs.lemmas.List.Elements.{Contains-append_left}
use Rattle.stm_image.specs.Pairs.{Pairs, AddressesRise, Agree, IsSetOf}
use Rattle.stm_image.specs.Record.{Whole, scan, flaw_of, kind_of}
use Rattle.stm_image.specs.Text.{Means, FaultStands, RecordsPrecede, IsFault, Conflicts, scan_fault, flaw_fault, all_pairs, placed, pairs_of, form_of, form_after}
use Rattle.stm_image.specs.Reads.{EndsAt, StopsAt}
use Rattle.stm_image.specs.declared.place.Form.{Form}
use Rattle.stm_image.specs.declared.place.Form.TheVariants.{Linear}
use Rattle.stm_image.specs.declared.faults.HexFault.{HexFault}
use Rattle.stm_image.specs.declared.faults.HexFault.TheVariants.{Conflict}
use Rattle.stm_image.proofs.Lying.{Rises-tail}
use Rattle.stm_image.proofs.Sets.{agree_among}

-- some records go on to others
record Front (xs : List (List ℕ)) (at : List ℕ) (ys : List (List ℕ)) (to : List ℕ) : Type 0 where
  more : List (List ℕ)
  is : ys ≡ xs ++ more
  follows : RecordsPrecede at more to

whole_same : (r s a b : List ℕ) → Whole r a ≡ Whole s b → (r ≡ s) × (a ≡ b)
whole_same r s a b e = (cc, cc)

-- the records of one text: one list begins the other
front_of : (text : List ℕ) (xs : List (List ℕ)) (at : List ℕ) (ys : List (List ℕ)) (to : List ℕ) → RecordsPrecede text xs at → RecordsPrecede text ys to → Front xs at ys to ⊎ Front ys to xs at
front_of text [] at ys to same follows = inl record { more = ys; is = refl; follows = subst (λ t. RecordsPrecede t ys to) same follows }
front_of text (x ∷ xs) at [] to follows same = inr record { more = x ∷ xs; is = refl; follows = subst (λ t. RecordsPrecede t (x ∷ xs) at) same follows }
front_of text (x ∷ xs) at (y ∷ ys) to (after, s, f, k, more) (after', s', f', k', more') =
    let same = whole_same x y after after' (sym s ∙ s') in
    elim (front_of after xs at ys to more (subst (λ t. RecordsPrecede t ys to) (sym same.1) more')) [
      | inl front ↦ inl record { more = front.more; is = ap₂ (λ z zs. z ∷ zs) (sym same.0) front.is; follows = front.follows }
      | inr front ↦ inr record { more = front.more; is = ap₂ (λ z zs. z ∷ zs) same.0 front.is; follows = front.follows }
    ]

-- pairs of more records come after those of the first
placed-append : (form : Form) (xs ys : List (List ℕ)) → placed form (xs ++ ys) ≡ placed form xs ++ placed (form_of form xs) ys
placed-append form [] ys = refl
placed-append form (x ∷ xs) ys =
    ap (λ ps. pairs_of form x ++ ps) (placed-append (form_after form x) xs ys) ∙ sym (append_assoc (pairs_of form x) (placed (form_after form x) xs) (placed (form_of (form_after form x) xs) ys))

agree_front : (xs more : List (List ℕ)) → Agree (all_pairs (xs ++ more)) → Agree (all_pairs xs)
agree_front xs more agree =
    agree_among (all_pairs xs ++ placed (form_of (Linear 0) xs) more) (all_pairs xs) (λ p. Contains-append_left (all_pairs xs) (placed (form_of (Linear 0) xs) more) p)
    (subst Agree (placed-append (Linear 0) xs more) agree)

-- no good record that agrees with those before it goes on here
abbrev Halts : List (List ℕ) → List ℕ → Type 0
Halts records rest = (r after : List ℕ) → scan rest ≡ Whole r after → flaw_of r ≡ None → kind_of r ≢ 1 → Agree (all_pairs (records ++ r ∷ [])) → ⊥

-- where the first list halts, the second goes no further
no_more : (xs : List (List ℕ)) (at : List ℕ) (ys : List (List ℕ)) (to : List ℕ) (more : List (List ℕ)) → Halts xs at → Agree (all_pairs ys) → ys ≡ xs ++ more → RecordsPrecede at more to → (xs ≡ ys) × (at ≡ to)
no_more xs at ys to [] halts agree is follows = (sym (is ∙ append-nil xs), follows)
no_more xs at ys to (r ∷ more) halts agree is (after, s, f, k, rest) =
    let longer : Agree (all_pairs ((xs ++ r ∷ []) ++ more)) = subst (λ zs. Agree (all_pairs zs)) (is ∙ sym (append_assoc xs (r ∷ []) more)) agree in
    absurd (halts r after s f k (agree_front (xs ++ r ∷ []) more longer))

-- so two halts in one text are one
meet : (text : List ℕ) (xs : List (List ℕ)) (at : List ℕ) (ys : List (List ℕ)) (to : List ℕ) → RecordsPrecede text xs at → RecordsPrecede text ys to
    → Agree (all_pairs xs) → Agree (all_pairs ys) → Halts xs at → Halts ys to → (xs ≡ ys) × (at ≡ to)
meet text xs at ys to fx fy ax ay hx hy = elim (front_of text xs at ys to fx fy) [
  | inl front ↦ no_more xs at ys to front.more hx ay front.is front.follows
  | inr front ↦ let same = no_more ys to xs at front.more hy ax front.is front.follows in (sym same.0, sym same.1)
]

no_fault_in_good : (n : ℕ) (r after rest : List ℕ) (fault : HexFault) → scan rest ≡ Whole r after → flaw_of r ≡ None → scan_fault n (scan rest) ≡ Some fault → ⊥
no_fault_in_good n r after rest fault s f e =
    let none : None ≡ Some fault = sym (ap (scan_fault n) s ∙ ap (flaw_fault n) f) ∙ e in cc

halts_at_end : (records : List (List ℕ)) (rest : List ℕ) → EndsAt rest → Halts records rest
halts_at_end records rest end r after s f k agree =
    let same = whole_same r end.last after end.after (sym s ∙ end.stops) in
    k (ap kind_of same.0 ∙ end.ends)

halts_at_fault : (n : ℕ) (records : List (List ℕ)) (rest : List ℕ) (fault : HexFault) → scan_fault n (scan rest) ≡ Some fault → Halts records rest
halts_at_fault n records rest fault e r after s f k agree = no_fault_in_good n r after rest fault s f e

halts_at_conflict : (records : List (List ℕ)) (rest : List ℕ) → Conflicts records rest → Halts records rest
halts_at_conflict records rest conflict r after s f k agree =
    let same = whole_same r conflict.next after conflict.after (sym s ∙ conflict.stands) in
    conflict.differs (subst (λ z. Agree (all_pairs (records ++ z ∷ []))) same.0 agree)

-- a fault is that of the scan, or a conflict
abbrev FaultView : List (List ℕ) → List ℕ → HexFault → Type 0
FaultView records rest fault = (scan_fault (length records + 1) (scan rest) ≡ Some fault) ⊎ ((fault ≡ Conflict (length records + 1)) × Conflicts records rest)

fault_view : (records : List (List ℕ)) (rest : List ℕ) (fault : HexFault) → IsFault records rest fault → FaultView records rest fault
fault_view records rest (Conflict n) (is, conflict) = inr (ap Conflict is, conflict)
fault_view records rest fault e = inl e

halts_at : (records : List (List ℕ)) (rest : List ℕ) (fault : HexFault) → FaultView records rest fault → Halts records rest
halts_at records rest fault (inl e) = halts_at_fault (length records + 1) records rest fault e
halts_at records rest fault (inr (is, conflict)) = halts_at_conflict records rest conflict

same_fault : (records : List (List ℕ)) (rest : List ℕ) (f g : HexFault) → FaultView records rest f → FaultView records rest g → f ≡ g
same_fault records rest f g (inl e) (inl e') = let both : Some f ≡ Some g = sym e ∙ e' in cc
same_fault records rest f g (inl e) (inr (is, c)) = absurd (no_fault_in_good (length records + 1) c.next c.after rest f c.stands c.flawless e)
same_fault records rest f g (inr (is, c)) (inl e) = absurd (no_fault_in_good (length records + 1) c.next c.after rest g c.stands c.flawless e)
same_fault records rest f g (inr (is, c)) (inr (is', c')) = is ∙ sym is'

no_fault_at_end : (records : List (List ℕ)) (rest : List ℕ) (fault : HexFault) → EndsAt rest → FaultView records rest fault → ⊥
no_fault_at_end records rest fault end (inl e) = no_fault_in_good (length records + 1) end.last end.after rest fault end.stops end.flawless e
no_fault_at_end records rest fault end (inr (is, c)) =
    let same = whole_same end.last c.next end.after c.after (sym end.stops ∙ c.stands) in
    c.goes_on (ap kind_of (sym same.0) ∙ end.ends)

-- a set's first pair is below all others
pub first_least : (p : ℕ × ℕ) (set : Pairs) → AddressesRise (p ∷ set) → (q : ℕ × ℕ) → Contains (p ∷ set) q → p.0 ≤ q.0
first_least p set rises q (zero, lt, is) = let e : p.0 ≡ q.0 = ap (λ (r : ℕ × ℕ). r.0) is in omega arith
first_least p set rises q (suc k, lt, is) =
    let up = rises zero (suc k) q (omega arith) lt in
    let e : (get_or set k q).0 ≡ q.0 = ap (λ (r : ℕ × ℕ). r.0) is in
    omega arith

pub in_longer : (p q : ℕ × ℕ) (set : Pairs) → Contains set q → Contains (p ∷ set) q
in_longer p q set (k, lt, is) = (suc k, omega arith, is)

-- what stands in the rest of one set stands in the rest of the other
in_rest : (p q r : ℕ × ℕ) (set other : Pairs) → AddressesRise (p ∷ set) → p ≡ q → Contains set r → Contains (q ∷ other) r → Contains other r
in_rest p q r set other rises same member (suc k, lt, is) = (k, omega arith, is)
in_rest p q r set other rises same (k, within, is') (zero, lt, is) =
    let up = rises zero (suc k) r (omega arith) (omega arith) in
    let first = λ (z : ℕ × ℕ). z.0 in
    let here : (get_or set k r).0 ≡ r.0 = ap first is' in
    let there : p.0 ≡ r.0 = ap first same ∙ ap first is in
    absurd (omega arith)

same_first : (p q : ℕ × ℕ) (set other : Pairs) → AddressesRise (q ∷ other) → p.0 ≡ q.0 → Contains (q ∷ other) p → p ≡ q
same_first p q set other rises e (zero, lt, is) = sym is
same_first p q set other rises e (suc k, lt, is) =
    let up = rises zero (suc k) p (omega arith) lt in
    let here : (get_or other k p).0 ≡ p.0 = ap (λ (z : ℕ × ℕ). z.0) is in
    absurd (omega arith)

-- rising pairs are told by what they contain
same_set : (xs ys : Pairs) → AddressesRise xs → AddressesRise ys → ((p : ℕ × ℕ) → Contains xs p ↔ Contains ys p) → xs ≡ ys
same_set [] [] rx ry same = refl
same_set [] (q ∷ ys) rx ry same = let member = (same q).1 (zero, omega arith, refl) in absurd (omega (arith, member.1))
same_set (p ∷ xs) [] rx ry same = let member = (same p).0 (zero, omega arith, refl) in absurd (omega (arith, member.1))
same_set (p ∷ xs) (q ∷ ys) rx ry same =
    let p_in = (same p).0 (zero, omega arith, refl) in
    let q_in = (same q).1 (zero, omega arith, refl) in
    let above = first_least q ys ry p p_in in
    let below = first_least p xs rx q q_in in
    let e : p ≡ q = same_first p q xs ys ry (omega arith) p_in in
    ap₂ (λ z zs. z ∷ zs) e (same_set xs ys (Rises-tail p xs rx) (Rises-tail q ys ry) (λ r. (
      λ member. in_rest p q r xs ys rx e member ((same r).0 (in_longer p r xs member)),
      λ member. in_rest q p r ys xs ry (sym e) member ((same r).1 (in_longer q r ys member)),
    )))

end_of : (text : List ℕ) (set : Pairs) → (m : Means text set) → EndsAt m.rest
end_of text set m = record { last = m.last; after = m.after; stops = m.stops; flawless = m.flawless; ends = m.ends }

pub one_meaning : (text : List ℕ) (s t : Pairs) → Means text s → Means text t → s ≡ t
one_meaning text s t m n =
    let same = meet text m.records m.rest n.records n.rest m.follows n.follows m.agree n.agree (halts_at_end m.records m.rest (end_of text s m)) (halts_at_end n.records n.rest (end_of text t n)) in
    let P : Pairs → Type 0 = λ ps. IsSetOf t ps in
    let second : P (all_pairs m.records) = subst P (ap all_pairs (sym same.0)) n.is_set in
    same_set s t m.is_set.rises second.rises (λ p. (λ h. (second.same p).1 ((m.is_set.same p).0 h), λ h. (m.is_set.same p).1 ((second.same p).0 h)))

pub one_fault : (text : List ℕ) (f g : HexFault) → FaultStands text f → FaultStands text g → f ≡ g
one_fault text f g m n =
    let first = fault_view m.records m.rest f m.is in
    let second = fault_view n.records n.rest g n.is in
    let same = meet text m.records m.rest n.records n.rest m.follows n.follows m.agree n.agree (halts_at m.records m.rest f first) (halts_at n.records n.rest g second) in
    same_fault m.records m.rest f g first (subst (λ at. FaultView m.records at g) (sym same.1) (subst (λ zs. FaultView zs n.rest g) (sym same.0) second))

pub not_both : (text : List ℕ) (s : Pairs) (f : HexFault) → Means text s → FaultStands text f → ⊥
not_both text s f m n =
    let end = end_of text s m in
    let fault = fault_view n.records n.rest f n.is in
    let same = meet text m.records m.rest n.records n.rest m.follows n.follows m.agree n.agree (halts_at_end m.records m.rest end) (halts_at n.records n.rest f fault) in
    no_fault_at_end n.records n.rest f (subst EndsAt same.1 end) fault

-- WHERE A PASS STOPS no record goes on, so its records have all pairs
pub longest_at_stop : (text : List ℕ) (n : ℕ) (xs : List (List ℕ)) (at : List ℕ) (stop : Option HexFault) → RecordsPrecede text xs at → StopsAt n at stop
    → (ys : List (List ℕ)) (to : List ℕ) → RecordsPrecede text ys to → length (all_pairs ys) ≤ length (all_pairs xs)
longest_at_stop text n xs at stop fx stops ys to fy = elim (front_of text xs at ys to fx fy) [
  | inl front ↦ all_the_way front.more front.is front.follows
  | inr front ↦
      let whole = ap (λ (zs : List (List ℕ)). length (all_pairs zs)) front.is in
      let parts = ap (λ (ps : Pairs). length ps) (placed-append (Linear 0) ys front.more) in
      let both = length-append (all_pairs ys) (placed (form_of (Linear 0) ys) front.more) in
      omega arith
]
  where
    all_the_way : (more : List (List ℕ)) → ys ≡ xs ++ more → RecordsPrecede at more to → length (all_pairs ys) ≤ length (all_pairs xs)
    all_the_way [] is follows = let same = ap (λ (zs : List (List ℕ)). length (all_pairs zs)) (is ∙ append-nil xs) in omega arith
    all_the_way (r ∷ more) is (after, s, f, k, rest) = absurd (ends stop stops r after s f k)
      where
        ends : (stop : Option HexFault) → StopsAt n at stop → (r after : List ℕ) → scan at ≡ Whole r after → flaw_of r ≡ None → kind_of r ≢ 1 → ⊥
        ends None end r after s f k = k (ap kind_of (whole_same r end.last after end.after (sym s ∙ end.stops)).0 ∙ end.ends)
        ends (Some fault) e r after s f k = no_fault_in_good n r after at fault s f e

-- two lists of records of a text have the same pairs up to a place that both reach
pub same_up_to : (text : List ℕ) (xs : List (List ℕ)) (at : List ℕ) (ys : List (List ℕ)) (to : List ℕ) (n : ℕ) → RecordsPrecede text xs at → RecordsPrecede text ys to
    → n ≤ length (all_pairs xs) → n ≤ length (all_pairs ys) → take n (all_pairs xs) ≡ take n (all_pairs ys)
same_up_to text xs at ys to n fx fy in_x in_y = elim (front_of text xs at ys to fx fy) [
  | inl front ↦ longer xs front.more in_x ∙ ap (λ (zs : List (List ℕ)). take n (all_pairs zs)) (sym front.is)
  | inr front ↦ ap (λ (zs : List (List ℕ)). take n (all_pairs zs)) front.is ∙ sym (longer ys front.more in_y)
]
  where
    longer : (zs more : List (List ℕ)) → n ≤ length (all_pairs zs) → take n (all_pairs zs) ≡ take n (all_pairs (zs ++ more))
    longer zs more within = sym (ap (λ (ps : Pairs). take n ps) (placed-append (Linear 0) zs more) ∙ take-append-le n (all_pairs zs) (placed (form_of (Linear 0) zs) more) within)
