-- Rests that begin an erase of page N by one byte, settled by N.
use Rattle.std.proofs.Common.{◌≡◌, ℕ, zero, suc, ◌+◌, true, false, ◌&&◌, eqb, List, [], ◌∷◌, length, get_or, take, replicate, refl, arith, Option, None}
use Rattle.std.specs.List.{Contains}
use Rattle.std.proofs.lemmas.Bool.{cond_both, eqb-true, false≢true}
use Rattle.stm_wire.proofs.Names.{all_exist, all_verdict, ChipData, erase_verdict, Verdict, xor}
use Rattle.stm_wire.specs.declared.verdict.Verdict.TheVariants.{Refused}
use Rattle.stm_wire.proofs.Flash.{Every}
use Rattle.stm_wire.proofs.Mild.{Fits, Mild, fits_end, after_pair, mild_empty}
use Rattle.stm_wire.proofs.Plain.{fits_done_if}

pub every_copy : (P : ℕ → Type 0) (n m k : ℕ) → P n → Every P (take m (replicate k n))
every_copy P n zero k p = tt
every_copy P n (suc m) zero p = tt
every_copy P n (suc m) (suc k) p = (p, every_copy P n m k p)

pub contains_first : (x : ℕ) (xs : List ℕ) → Contains (x ∷ xs) x
contains_first x xs = (0, omega arith, refl)

-- the check FF of count FF isn't 00
pub all_refused : (chip : ChipData) (pages bytes : List ℕ) (N k : ℕ) → eqb N 0 ≡ false → Fits chip pages bytes (all_verdict (replicate k N))
all_refused chip pages bytes N zero e = tt
all_refused chip pages bytes N (suc k) e = rw e (fits_end chip pages bytes Refused tt (replicate k N))

-- a count and copies of N, where the count isn't FF, or N isn't 0
pub listed : (chip : ChipData) (x N n k : ℕ) → (eqb n 255 ≡ true → eqb N 0 ≡ false) →
    Fits chip (N ∷ []) (0x43 ∷ x ∷ n ∷ replicate k N) (erase_verdict chip (n ∷ replicate k N))
listed chip x N n k not_all =
    let rest = replicate k N in
    let bytes = 0x43 ∷ x ∷ n ∷ rest in
    let P : Option Verdict → Type 0 = Fits chip (N ∷ []) bytes in
    cond_both (eqb n 255) (all_verdict rest) _ P
    (λ e. all_refused chip (N ∷ []) bytes N k (not_all e))
    (λ e. cond_both (eqb (length rest) (n + 2)) _ None P
    (λ _. fits_done_if chip (N ∷ []) bytes (eqb (get_or rest (n + 1) 0) (xor (n ∷ take (n + 1) rest)) && all_exist chip (take (n + 1) rest))
    (refl, rw e (every_copy (Contains (N ∷ [])) N (n + 1) k (contains_first N []))))
    (λ _. tt))

-- after the code the byte may be the other half of the pair; then it is the count
erase_tail : (chip : ChipData) (N x k : ℕ) → Fits chip (N ∷ []) (0x43 ∷ x ∷ replicate k N) (erase_verdict chip (replicate k N))
erase_tail chip N x zero = tt
erase_tail chip N x (suc k) = listed chip x N N k (λ e. not_zero (eqb-true N 255 e))
  where
    not_zero : N ≡ 255 → eqb N 0 ≡ false
    not_zero e = rw e refl

module _ (chip : ChipData) (codes : List ℕ) (N : ℕ) where
  after_code : Mild chip codes N (N ∷ []) (0x43 ∷ [])
  after_code zero = tt
  after_code (suc k) = after_pair chip codes (N ∷ []) 0x43 N (replicate k N) (erase_tail chip N N k)

  after_command : Mild chip codes N (N ∷ []) (0x43 ∷ 0xBC ∷ [])
  after_command k = after_pair chip codes (N ∷ []) 0x43 0xBC (replicate k N) (erase_tail chip N 0xBC k)

  after_count : Mild chip codes N (N ∷ []) (0x43 ∷ 0xBC ∷ 0 ∷ [])
  after_count k = after_pair chip codes (N ∷ []) 0x43 0xBC (0 ∷ replicate k N) (listed chip 0xBC N 0 k (λ e. absurd (false≢true e)))

  pub mild_erase : (j : ℕ) → Mild chip codes N (N ∷ []) (take j (0x43 ∷ 0xBC ∷ 0 ∷ N ∷ N ∷ []))
  mild_erase zero = mild_empty chip codes N (N ∷ [])
  mild_erase (suc zero) = after_code
  mild_erase (suc (suc zero)) = after_command
  mild_erase (suc (suc (suc zero))) = after_count
  mild_erase (suc (suc (suc (suc zero)))) = λ k. after_count (suc k)
  mild_erase (suc (suc (suc (suc (suc zero))))) = λ k. after_count (suc (suc k))
  mild_erase (suc (suc (suc (suc (suc (suc j)))))) = λ k. after_count (suc (suc k))
