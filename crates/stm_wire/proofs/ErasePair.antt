-- Rests that begin an erase of page N by two bytes, settled by N.
use Rattle.std.proofs.Common.{lit<, ◌≡◌, ℕ, zero, suc, ◌+◌, ◌*◌, ◌<◌, ◌≤◌, ◌⊎◌, inl, inr, true, false, ◌&&◌, eqb, leb, List, [], ◌∷◌, length, get_or, take, replicate, refl, sym, ◌∙◌, arith, Option, None}
use Rattle.std.specs.List.{Contains}
use Rattle.std.proofs.lemmas.Bool.{cond_both, eq-eqb, ne_eqb, lt-leb, cases_lt, false≢true}
use Rattle.stm_wire.proofs.Names.{all_exist, all_verdict, ChipData, extended_verdict, pages_verdict, pair_of, two_byte_numbers, Verdict, xor}
use Rattle.stm_wire.proofs.Flash.{Every}
use Rattle.stm_wire.proofs.Mild.{Fits, Mild, after_pair, mild_empty}
use Rattle.stm_wire.proofs.Plain.{fits_done_if}
use Rattle.stm_wire.proofs.ErasePage.{all_refused, contains_first}

-- the pages that copies of N can name
abbrev pub named_by : ℕ → List ℕ
named_by N = N ∷ pair_of N N ∷ []

pub every_pair : (P : ℕ → Type 0) (n m k : ℕ) → P (pair_of n n) → Every P (two_byte_numbers (take m (replicate k n)))
every_pair P n zero k p = tt
every_pair P n (suc m) zero p = tt
every_pair P n (suc zero) (suc k) p = tt
every_pair P n (suc (suc m)) (suc zero) p = tt
every_pair P n (suc (suc m)) (suc (suc k)) p = (p, every_pair P n m k p)

-- pages after an ordinary count
pub listed : (chip : ChipData) (pages rest : List ℕ) (x h l : ℕ) → pair_of h l < 0xFFF0 →
    Every (Contains pages) (two_byte_numbers (take (2 * (pair_of h l + 1)) rest)) → Fits chip pages (0x44 ∷ x ∷ h ∷ l ∷ rest) (extended_verdict chip (h ∷ l ∷ rest))
listed chip pages rest x h l few within =
    let bytes = 0x44 ∷ x ∷ h ∷ l ∷ rest in
    let P : Option Verdict → Type 0 = Fits chip pages bytes in
    let size = 2 * (pair_of h l + 1) in
    let one = ne_eqb (pair_of h l) 0xFFFF (omega arith) in
    cond_both (eqb (pair_of h l) 0xFFFF) _ _ P (λ e. absurd (false≢true (sym one ∙ e)))
    (λ _. cond_both (leb 0xFFF0 (pair_of h l)) _ (pages_verdict chip (h ∷ l ∷ []) size rest) P (λ e. absurd (false≢true (sym (lt-leb 0xFFF0 (pair_of h l) few) ∙ e)))
    (λ _. cond_both (eqb (length rest) (size + 1)) _ None P
    (λ _. fits_done_if chip pages bytes (eqb (get_or rest size 0) (xor (h ∷ l ∷ take size rest)) && all_exist chip (two_byte_numbers (take size rest))) (refl, rw one within))
    (λ _. tt)))

-- count FFFF
whole : (chip : ChipData) (pages : List ℕ) (x N k h l : ℕ) → eqb N 0 ≡ false → eqb (pair_of h l) 0xFFFF ≡ true →
    Fits chip pages (0x44 ∷ x ∷ h ∷ l ∷ replicate k N) (extended_verdict chip (h ∷ l ∷ replicate k N))
whole chip pages x N k h l ne e =
    let bytes = 0x44 ∷ x ∷ h ∷ l ∷ replicate k N in
    cond_both (eqb (pair_of h l) 0xFFFF) (all_verdict (replicate k N)) _ (Fits chip pages bytes)
    (λ _. all_refused chip pages bytes N k ne) (λ f. absurd (false≢true (sym f ∙ e)))

pub second : (x y : ℕ) → Contains (x ∷ y ∷ []) y
second x y = (1, omega arith, refl)

module _ (chip : ChipData) (N : ℕ) (small : N < 256) where
  copies : (x h l k : ℕ) → pair_of h l < 0xFFF0 → Fits chip (named_by N) (0x44 ∷ x ∷ h ∷ l ∷ replicate k N) (extended_verdict chip (h ∷ l ∷ replicate k N))
  copies x h l k few = listed chip (named_by N) (replicate k N) x h l few (every_pair (Contains (named_by N)) N (2 * (pair_of h l + 1)) k (second N (pair_of N N)))

  counted : (x k : ℕ) → Fits chip (named_by N) (0x44 ∷ x ∷ N ∷ N ∷ replicate k N) (extended_verdict chip (N ∷ N ∷ replicate k N))
  counted x k = cases (cases_lt N 255)
    where
      cases : (N < 255) ⊎ (255 ≤ N) → Fits chip (named_by N) (0x44 ∷ x ∷ N ∷ N ∷ replicate k N) (extended_verdict chip (N ∷ N ∷ replicate k N))
      cases (inl below) = copies x N N k (omega arith)
      cases (inr above) = whole chip (named_by N) x N k N N (ne_eqb N 0 (omega arith)) (eq-eqb (pair_of N N) 0xFFFF (omega arith))

  extended_tail : (x k : ℕ) → Fits chip (named_by N) (0x44 ∷ x ∷ replicate k N) (extended_verdict chip (replicate k N))
  extended_tail x zero = tt
  extended_tail x (suc zero) = tt
  extended_tail x (suc (suc k)) = counted x k

  high_tail : (k : ℕ) → Fits chip (named_by N) (0x44 ∷ 0xBB ∷ 0 ∷ replicate k N) (extended_verdict chip (0 ∷ replicate k N))
  high_tail zero = tt
  high_tail (suc k) = copies 0xBB 0 N k (omega arith)

  -- the high byte of the page was sent
  one_page : (k : ℕ) → Every (Contains (named_by N)) (two_byte_numbers (take 2 (0 ∷ replicate k N)))
  one_page zero = tt
  one_page (suc k) = let e : 0 * 256 + N ≡ N = omega arith in (rw e (contains_first N (pair_of N N ∷ [])), tt)

module _ (chip : ChipData) (codes : List ℕ) (N : ℕ) (small : N < 256) where
  after_code : Mild chip codes N (named_by N) (0x44 ∷ [])
  after_code zero = tt
  after_code (suc k) = after_pair chip codes (named_by N) 0x44 N (replicate k N) (extended_tail chip N small N k)

  after_command : Mild chip codes N (named_by N) (0x44 ∷ 0xBB ∷ [])
  after_command k = after_pair chip codes (named_by N) 0x44 0xBB (replicate k N) (extended_tail chip N small 0xBB k)

  after_high : Mild chip codes N (named_by N) (0x44 ∷ 0xBB ∷ 0 ∷ [])
  after_high k = after_pair chip codes (named_by N) 0x44 0xBB (0 ∷ replicate k N) (high_tail chip N small k)

  after_count : Mild chip codes N (named_by N) (0x44 ∷ 0xBB ∷ 0 ∷ 0 ∷ [])
  after_count k = after_pair chip codes (named_by N) 0x44 0xBB (0 ∷ 0 ∷ replicate k N) (copies chip N small 0xBB 0 0 k (lit< tt))

  after_page : Mild chip codes N (named_by N) (0x44 ∷ 0xBB ∷ 0 ∷ 0 ∷ 0 ∷ [])
  after_page k = after_pair chip codes (named_by N) 0x44 0xBB (0 ∷ 0 ∷ 0 ∷ replicate k N) (listed chip (named_by N) (0 ∷ replicate k N) 0xBB 0 0 (lit< tt) (one_page chip N small k))

  pub mild_extended : (j : ℕ) → Mild chip codes N (named_by N) (take j (0x44 ∷ 0xBB ∷ 0 ∷ 0 ∷ 0 ∷ N ∷ N ∷ []))
  mild_extended zero = mild_empty chip codes N (named_by N)
  mild_extended (suc zero) = after_code
  mild_extended (suc (suc zero)) = after_command
  mild_extended (suc (suc (suc zero))) = after_high
  mild_extended (suc (suc (suc (suc zero)))) = after_count
  mild_extended (suc (suc (suc (suc (suc zero))))) = after_page
  mild_extended (suc (suc (suc (suc (suc (suc zero)))))) = λ k. after_page (suc k)
  mild_extended (suc (suc (suc (suc (suc (suc (suc zero))))))) = λ k. after_page (suc (suc k))
  mild_extended (suc (suc (suc (suc (suc (suc (suc (suc j)))))))) = λ k. after_page (suc (suc k))
