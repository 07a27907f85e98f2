-- Turns of a dialogue, the calls that they are, and bytes fed one after another: how lists of these join.
use Rattle.std.proofs.Common.{◌≡◌, ⊎_elim, ℕ, ◌+◌, ◌≤◌, min, List, [], ◌∷◌, ◌++◌, length, take, Option, Some, None, refl, sym, ◌∙◌, ap, subst, inl, inr, arith, append_assoc, take_all}
use Rattle.std.proofs.Math.Seq.{take-append-add}
use Rattle.std.proofs.lemmas.List.{take_min, take-append-le}
use Rattle.stm_wire.proofs.Names.{Acknowledged, Adds, Call, call_of, calls_of, Device, FedAndTaken, GoesOn, IsBrokenOff, Learns, learns, PartlyFed, Says, says, step_turns, Turn, WireFault}
use Rattle.stm_wire.specs.lemmas.MomentLaws.{LosesOwed-trans}
use Rattle.stm_wire.proofs.Feeding.{fed-lost, Fed-append}

pub FedAndTaken-append : (xs ys : List ℕ) (a b c : Device) → FedAndTaken xs a b → FedAndTaken ys b c → FedAndTaken (xs ++ ys) a c
FedAndTaken-append xs ys a b c f g =
    let moved = fed-lost ys f.0 b g.0 f.2 g.1 in
    (moved.0, Fed-append xs ys a f.0 moved.0 f.1 moved.1, LosesOwed-trans moved.0 g.0 c moved.2 g.2)

-- a beginning of the first part
pub PartlyFed-first : (xs ys : List ℕ) (a b : Device) → PartlyFed xs a b → PartlyFed (xs ++ ys) a b
PartlyFed-first xs ys a b p =
    let n = min p.0 (length xs) in
    let le : n ≤ length xs = omega arith in
    let same : take n (xs ++ ys) ≡ take p.0 xs = take-append-le n xs ys le ∙ take_min p.0 xs in
    let P : List ℕ → Type 0 = λ zs. FedAndTaken zs a b in
    (n, subst P (sym same) p.1)

-- the first part, and a beginning of the second
pub PartlyFed-second : (xs ys : List ℕ) (a b c : Device) → FedAndTaken xs a b → PartlyFed ys b c → PartlyFed (xs ++ ys) a c
PartlyFed-second xs ys a b c f p =
    let P : List ℕ → Type 0 = λ zs. FedAndTaken zs a c in
    (length xs + p.0, subst P (sym (take-append-add xs ys p.0)) (FedAndTaken-append xs (take p.0 ys) a b c f p.1))

-- the whole is a beginning
pub PartlyFed-all : (xs : List ℕ) (a b : Device) → FedAndTaken xs a b → PartlyFed xs a b
PartlyFed-all xs a b f =
    let P : List ℕ → Type 0 = λ zs. FedAndTaken zs a b in
    (length xs, subst P (sym (take_all (length xs) xs (omega arith))) f)

pub calls_of-append : (xs ys : List Turn) → calls_of (xs ++ ys) ≡ calls_of xs ++ calls_of ys
calls_of-append [] ys = refl
calls_of-append (x ∷ xs) ys = ap (λ zs. call_of x ∷ zs) (calls_of-append xs ys)

pub says-append : (xs ys : List ℕ) → says (xs ++ ys) ≡ says xs ++ says ys
says-append [] ys = refl
says-append (x ∷ xs) ys = ap (λ zs. Says x ∷ zs) (says-append xs ys)

-- bytes sent before a step make one step with it
pub says-step : (xs ys : List ℕ) → says xs ++ step_turns ys ≡ step_turns (xs ++ ys)
says-step xs ys = sym (append_assoc (says xs) (says ys) (Acknowledged ∷ [])) ∙ ap (λ zs. zs ++ Acknowledged ∷ []) (sym (says-append xs ys))

pub learns-append : (xs ys : List ℕ) → learns (xs ++ ys) ≡ learns xs ++ learns ys
learns-append [] ys = refl
learns-append (x ∷ xs) ys = ap (λ zs. Learns x ∷ zs) (learns-append xs ys)

-- broken off in the first part
pub broken-first : (fault : WireFault) (xs ys : List Turn) (calls : List Call) → IsBrokenOff fault xs calls → IsBrokenOff fault (xs ++ ys) calls
broken-first fault [] ys calls b = absurd b
broken-first fault (x ∷ xs) ys [] b = b
broken-first fault (x ∷ xs) ys (call ∷ calls) b = ⊎_elim (λ last. inl last) (λ on. inr (on.0, broken-first fault xs ys calls on.1)) b

-- broken off in the second
pub broken-second : (fault : WireFault) (xs ys : List Turn) (calls : List Call) → IsBrokenOff fault ys calls → IsBrokenOff fault (xs ++ ys) (calls_of xs ++ calls)
broken-second fault [] ys calls b = b
broken-second fault (x ∷ xs) ys calls b = inr (refl, broken-second fault xs ys calls b)

pub Adds-append : (xs ys : List Call) (a b c : Option (List Call)) → Adds xs a b → Adds ys b c → Adds (xs ++ ys) a c
Adds-append xs ys None b c p q =
    let G : Option (List Call) → Type 0 = λ o. Adds ys o c in
    subst G p q
Adds-append xs ys (Some past) b c p q =
    let G : Option (List Call) → Type 0 = λ o. Adds ys o c in
    subst G p q ∙ ap (λ zs. Some zs) (append_assoc past xs ys)

-- one call after others
pub GoesOn-append : (P Q R : List Call → Type 0) (a b c : Option (List Call)) → GoesOn P a b → GoesOn Q b c → ((xs ys : List Call) → P xs → Q ys → R (xs ++ ys)) → GoesOn R a c
GoesOn-append P Q R None b c p q r =
    let G : Option (List Call) → Type 0 = λ o. GoesOn Q o c in
    subst G p q
GoesOn-append P Q R (Some past) b c p q r =
    let G : Option (List Call) → Type 0 = λ o. GoesOn Q o c in
    let q' = subst G p.1 q in
    (p.0 ++ q'.0, q'.1 ∙ ap (λ zs. Some zs) (append_assoc past p.0 q'.0), r p.0 q'.0 p.2 q'.2)

pub GoesOn-weaker : (P R : List Call → Type 0) (a b : Option (List Call)) → GoesOn P a b → ((xs : List Call) → P xs → R xs) → GoesOn R a b
GoesOn-weaker P R None b p r = p
GoesOn-weaker P R (Some past) b p r = (p.0, p.1, r p.0 p.2)

pub Adds-GoesOn : (P : List Call → Type 0) (calls : List Call) (a b : Option (List Call)) → Adds calls a b → P calls → GoesOn P a b
Adds-GoesOn P calls None b p r = p
Adds-GoesOn P calls (Some past) b p r = (calls, p, r)
