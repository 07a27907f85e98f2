-- A text that is handed to a writer in parts.
use Rattle.std.proofs.Common.{◌≡◌, ℕ, List, ◌++◌, Result, Ok, Err, OnOk, Option, None, Some, append_assoc, subst, ap, ◌∙◌}
use Rattle.std.specs.Io.KnownBytes.{Appends}

-- two parts, one behind the other
pub both : (a b c : Option (List ℕ)) (xs ys : List ℕ) → Appends a b xs → Appends b c ys → Appends a c (xs ++ ys)
both None b c xs ys p q = tt
both (Some x) None c xs ys p q = absurd p
both (Some x) (Some y) None xs ys p q = absurd q
both (Some x) (Some y) (Some z) xs ys p q = q ∙ ap (λ l. l ++ ys) p ∙ append_assoc x xs ys

-- two parts that make up a text
pub make_up : (a b c : Option (List ℕ)) (xs ys all : List ℕ) → xs ++ ys ≡ all
    → Appends a b xs → Appends b c ys → Appends a c all
make_up a b c xs ys all e p q = subst (Appends a c) e (both a b c xs ys p q)

-- two parts that make up a text, the second of which may not come to its end
pub ends : {E : Type 0} (a b c : Option (List ℕ)) (xs ys all : List ℕ) (r : Result (Unit {0}) E) → xs ++ ys ≡ all
    → Appends a b xs → OnOk r (Appends b c ys) → OnOk r (Appends a c all)
ends a b c xs ys all (Ok u) e p q = make_up a b c xs ys all e p q
ends a b c xs ys all (Err f) e p q = tt

-- the same of a text that grows
pub goes_on : {E : Type 0} (old mid new xs ys all : List ℕ) (r : Result (Unit {0}) E) → xs ++ ys ≡ all
    → mid ≡ old ++ xs → OnOk r (new ≡ mid ++ ys) → OnOk r (new ≡ old ++ all)
goes_on old mid new xs ys all (Ok u) e p q =
    q ∙ ap (λ l. l ++ ys) p ∙ append_assoc old xs ys ∙ ap (λ l. old ++ l) e
goes_on old mid new xs ys all (Err f) e p q = tt
