-- The data that follow an acknowledgement, byte by byte.
use Rattle.std.proofs.Common.{◌≡◌, ◌<◌, ℕ, List, [], ◌∷◌, ◌++◌, length, replicate, refl, sym, ◌∙◌, ap, subst, arith, length-append}
use Rattle.std.proofs.lemmas.List.{length-replicate}
use Rattle.stm_wire.proofs.Names.{BreaksOff, Connected, Device, IsHeldToEnd, IsSettled, learns, owing, RigState, Turn, WireFault}
use Rattle.std.proofs.Common.{ap₂, take}
use Rattle.std.proofs.Math.Seq.{take-append_seam, take-length}
use Rattle.stm_wire.proofs.Address.{settled-is}
use Rattle.stm_wire.proofs.Turns.{learns-append}
use Rattle.stm_wire.proofs.Holding.{Holds-append, BreaksOff-first, BreaksOff-second}

-- first these bytes, then those
pub held_learned : (xs ys : List ℕ) (a b c : RigState) → IsHeldToEnd [] (learns xs) a b → IsHeldToEnd [] (learns ys) b c → IsHeldToEnd [] (learns (xs ++ ys)) a c
held_learned xs ys a b c p q =
    let H : List Turn → Type 0 = λ zs. IsHeldToEnd [] zs a c in
    subst H (sym (learns-append xs ys)) (Holds-append [] [] (learns xs) (learns ys) a b c p q)

pub broken_learned : (fault : WireFault) (xs ys : List ℕ) (a b c : RigState) → IsHeldToEnd [] (learns xs) a b → BreaksOff fault [] (learns ys) b c → BreaksOff fault [] (learns (xs ++ ys)) a c
broken_learned fault xs ys a b c p q =
    let H : List Turn → Type 0 = λ zs. BreaksOff fault [] zs a c in
    subst H (sym (learns-append xs ys)) (BreaksOff-second fault [] [] (learns xs) (learns ys) a b c p q)

-- more would have come
pub broken_more : (fault : WireFault) (xs ys : List ℕ) (a b : RigState) → BreaksOff fault [] (learns xs) a b → BreaksOff fault [] (learns (xs ++ ys)) a b
broken_more fault xs ys a b p =
    let H : List Turn → Type 0 = λ zs. BreaksOff fault [] zs a b in
    subst H (sym (learns-append xs ys)) (BreaksOff-first fault [] [] (learns xs) (learns ys) a b p)

-- the answer of Get, broken off at its count, at its version, in its codes
abbrev pub IsBrokenAnswer : WireFault → RigState → RigState → Type 0
IsBrokenAnswer fault a b = (version : ℕ) × (codes : List ℕ) × (length codes < 256) × BreaksOff fault [] (learns (length codes ∷ version ∷ codes)) a b

pub broken_at_count : (fault : WireFault) (a b : RigState) → ((byte : ℕ) → BreaksOff fault [] (learns (byte ∷ [])) a b) → IsBrokenAnswer fault a b
broken_at_count fault a b p = (0, [], omega arith, broken_more fault (0 ∷ []) (0 ∷ []) a b (p 0))

pub broken_at_version : (fault : WireFault) (count : ℕ) (a b c : RigState) → count < 256 → IsHeldToEnd [] (learns (count ∷ [])) a b → ((byte : ℕ) → BreaksOff fault [] (learns (byte ∷ [])) b c) → IsBrokenAnswer fault a c
broken_at_version fault count a b c small p q =
    let codes : List ℕ = replicate count 0 in
    let size : length codes ≡ count = length-replicate count 0 in
    let H : ℕ → Type 0 = λ n. BreaksOff fault [] (learns (n ∷ 0 ∷ codes)) a c in
    (0, codes, omega (arith, small, size), subst H (sym size) (broken_more fault (count ∷ 0 ∷ []) codes a c (broken_learned fault (count ∷ []) (0 ∷ []) a b c p (q 0))))

module _ (count version : ℕ) (a b c d : RigState) (p : IsHeldToEnd [] (learns (count ∷ [])) a b) (q : IsHeldToEnd [] (learns (version ∷ [])) b c) where
  pub broken_at_codes : (fault : WireFault) → count < 256 → (answer : List ℕ) × (length answer ≡ count) × BreaksOff fault [] (learns answer) c d → IsBrokenAnswer fault a d
  broken_at_codes fault small (answer, size, r) =
      let H : ℕ → Type 0 = λ n. BreaksOff fault [] (learns (n ∷ version ∷ answer)) a d in
      (version, answer, omega (arith, small, size), subst H (sym size) (broken_learned fault (count ∷ version ∷ []) answer a c d (held_learned (count ∷ []) (version ∷ []) a b c p q) r))

  pub held_codes : (codes : List ℕ) → length codes ≡ count → IsHeldToEnd [] (learns codes) c d → IsHeldToEnd [] (learns (length codes ∷ version ∷ codes)) a d
  held_codes codes size r =
      let H : ℕ → Type 0 = λ n. IsHeldToEnd [] (learns (n ∷ version ∷ codes)) a d in
      subst H (sym size) (held_learned (count ∷ version ∷ []) codes a c d (held_learned (count ∷ []) (version ∷ []) a b c p q) r)

same-front : (xs ys zs : List ℕ) → xs ≡ ys ++ zs → length ys ≡ length xs → ys ≡ xs
same-front xs ys zs e l = sym (sym (take-length xs) ∙ ap₂ (λ n ws. take n ws) (sym l) e ∙ take-append_seam ys zs)

same-back : (xs ys zs : List ℕ) → xs ≡ ys ++ zs → length ys ≡ length xs → zs ≡ []
same-back xs ys [] e l = refl
same-back xs ys (z ∷ zs) e l = absurd (omega (arith, ap length e, length-append ys (z ∷ zs)))

-- all that a settled device owed for a command was taken: it came as it was owed, and the device is as before
pub answered : (xs ys : List ℕ) (d old new : Device) → IsSettled d → old ≡ record d { owed = xs; phase = Connected [] } → old ≡ owing ys new → length ys ≡ length xs → (ys ≡ xs) × (new ≡ d)
answered xs ys d old new settled before taken size =
    let parts : xs ≡ ys ++ new.owed = ap (λ (e : Device). e.owed) (sym before ∙ taken) in
    let make : List ℕ → Device → Device = λ zs e. record e { owed = zs } in (
      same-front xs ys new.owed parts size,
      ap (λ zs. make zs new) (same-back xs ys new.owed parts size) ∙ ap (make []) (sym taken ∙ before) ∙ sym (settled-is d settled),
    )
