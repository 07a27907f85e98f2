-- Rests that begin a frame which changes nothing: Get, Get ID, a read, and a first byte that 7F doesn't complete.
use Rattle.std.proofs.Common.{◌≡◌, ℕ, zero, suc, ◌+◌, ◌-◌, Bool, true, ◌&&◌, eqb, List, [], ◌∷◌, ◌++◌, take, replicate, refl, arith, Option, Some}
use Rattle.std.specs.Prelude.{IsTrue}
use Rattle.std.proofs.lemmas.Bool.{cond_both, eqb-true, and_parts}
use Rattle.stm_wire.proofs.Names.{after_address, at_end, can_read, ChipData, command_verdict, complement, done_if, is_listed, is_readable, number_of, read_verdict, Verdict, xor}
use Rattle.stm_wire.specs.declared.verdict.Verdict.TheVariants.{Done, Refused}
use Rattle.stm_wire.proofs.Mild.{Fits, FitsAll, Mild, fits_end, after_pair, mild_empty}

pub fits_done_if : (chip : ChipData) (pages bytes : List ℕ) (test : Bool) → Fits chip pages bytes (Some Done) → Fits chip pages bytes (Some (done_if test))
fits_done_if chip pages bytes test f = cond_both test Done Refused (λ v. Fits chip pages bytes (Some v)) (λ _. f) (λ _. tt)

pub fits_address : (chip : ChipData) (takes : ℕ → Bool) (pages bytes : List ℕ) (next : ℕ → List ℕ → Option Verdict) →
    ((address : ℕ) (rest : List ℕ) → Fits chip pages bytes (next address rest)) → (rest : List ℕ) → Fits chip pages bytes (after_address takes next rest)
fits_address chip takes pages bytes next f (a ∷ b ∷ c ∷ d ∷ x ∷ rest) =
    cond_both (eqb x (xor (a ∷ b ∷ c ∷ d ∷ [])) && takes (number_of a b c d)) (next (number_of a b c d) rest) (at_end Refused rest) (Fits chip pages bytes)
    (λ _. f (number_of a b c d) rest) (λ _. fits_end chip pages bytes Refused tt rest)
fits_address chip takes pages bytes next f _ = tt

read_fits : (chip : ChipData) (pages : List ℕ) (x : ℕ) (bytes : List ℕ) (address : ℕ) (rest : List ℕ) → Fits chip pages (0x11 ∷ x ∷ bytes) (read_verdict chip address rest)
read_fits chip pages x bytes address (n ∷ check ∷ rest) =
    let test = eqb check (complement n) && can_read chip address (n + 1) in
    fits_end chip pages (0x11 ∷ x ∷ bytes) (done_if test) (fits_done_if chip pages (0x11 ∷ x ∷ bytes) test (refl, tt)) rest
read_fits chip pages x bytes address _ = tt

pub fits_get : (chip : ChipData) (codes pages rest : List ℕ) → FitsAll chip codes pages (0x00 ∷ rest)
fits_get chip codes pages [] = tt
fits_get chip codes pages (x ∷ rest) = after_pair chip codes pages 0x00 x rest (fits_end chip pages (0x00 ∷ x ∷ rest) Done (refl, tt) rest)

pub fits_id : (chip : ChipData) (codes pages rest : List ℕ) → FitsAll chip codes pages (0x02 ∷ rest)
fits_id chip codes pages [] = tt
fits_id chip codes pages (x ∷ rest) = after_pair chip codes pages 0x02 x rest (fits_end chip pages (0x02 ∷ x ∷ rest) Done (refl, tt) rest)

pub fits_read : (chip : ChipData) (codes pages rest : List ℕ) → FitsAll chip codes pages (0x11 ∷ rest)
fits_read chip codes pages [] = tt
fits_read chip codes pages (x ∷ rest) = after_pair chip codes pages 0x11 x rest (fits_address chip (is_readable chip) pages (0x11 ∷ x ∷ rest) (read_verdict chip) (read_fits chip pages x rest) rest)

-- the first j bytes of a list that begins so
pub mild_get : (chip : ChipData) (codes : List ℕ) (byte : ℕ) (pages rest : List ℕ) (j : ℕ) → Mild chip codes byte pages (take j (0x00 ∷ rest))
mild_get chip codes byte pages rest zero k = mild_empty chip codes byte pages k
mild_get chip codes byte pages rest (suc j) k = fits_get chip codes pages (take j rest ++ replicate k byte)

pub mild_id : (chip : ChipData) (codes : List ℕ) (byte : ℕ) (pages rest : List ℕ) (j : ℕ) → Mild chip codes byte pages (take j (0x02 ∷ rest))
mild_id chip codes byte pages rest zero k = mild_empty chip codes byte pages k
mild_id chip codes byte pages rest (suc j) k = fits_id chip codes pages (take j rest ++ replicate k byte)

pub mild_read : (chip : ChipData) (codes : List ℕ) (byte : ℕ) (pages rest : List ℕ) (j : ℕ) → Mild chip codes byte pages (take j (0x11 ∷ rest))
mild_read chip codes byte pages rest zero k = mild_empty chip codes byte pages k
mild_read chip codes byte pages rest (suc j) k = fits_read chip codes pages (take j rest ++ replicate k byte)

-- one byte that 7F doesn't complete
pub mild_ready : (chip : ChipData) (codes pages : List ℕ) (c : ℕ) → (IsTrue (is_listed codes 0x80) → c ≡ 0x80 → ⊥) → Mild chip codes 0x7F pages (c ∷ [])
mild_ready chip codes pages c ne zero = tt
mild_ready chip codes pages c ne (suc k) =
    let rest = replicate k 0x7F in
    cond_both (eqb 0x7F (complement c) && is_listed codes c) (command_verdict chip c rest) (at_end Refused rest) (Fits chip pages (c ∷ 0x7F ∷ rest))
    (λ t. absurd (none (and_parts (eqb 0x7F (complement c)) (is_listed codes c) t))) (λ _. fits_end chip pages (c ∷ 0x7F ∷ rest) Refused tt rest)
  where
    none : (eqb 0x7F (complement c) ≡ true) × (is_listed codes c ≡ true) → ⊥
    none (p, q) =
        let e : 0x7F ≡ 255 - c = eqb-true 0x7F (complement c) p in
        let same : c ≡ 0x80 = omega arith in
        ne (rw (← same) q) same
