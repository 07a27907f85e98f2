-- Rests that begin a write, settled by 02.
use Rattle.std.proofs.Common.{◌≡◌, ℕ, zero, suc, ◌+◌, ◌&&◌, eqb, List, [], ◌∷◌, ◌++◌, length, get_or, take, replicate, refl, Option, Some, None}
use Rattle.std.proofs.lemmas.Bool.{cond_both}
use Rattle.stm_wire.proofs.Names.{after_address, at_end, ChipData, fits_inside, is_inside, number_of, Verdict, Write, write_verdict, xor}
use Rattle.stm_wire.specs.declared.verdict.Verdict.TheVariants.{Refused}
use Rattle.stm_wire.proofs.Flash.{IsConfined}
use Rattle.stm_wire.proofs.Mild.{Fits, FitsAll, Mild, fits_end, after_pair, mild_empty, mild_less}
use Rattle.stm_wire.proofs.Plain.{fits_done_if}

module _ (chip : ChipData) (codes pages : List ℕ) where
  -- the address and the count were sent: what follows may be anything
  pub sent : (a b c d x n : ℕ) → ((bytes : List ℕ) → IsConfined chip pages (Write (number_of a b c d) (take (n + 1) bytes))) →
      (rest : List ℕ) → FitsAll chip codes pages (0x31 ∷ 0xCE ∷ a ∷ b ∷ c ∷ d ∷ x ∷ n ∷ rest)
  sent a b c d x n within rest =
      let bytes = 0x31 ∷ 0xCE ∷ a ∷ b ∷ c ∷ d ∷ x ∷ n ∷ rest in
      let at = number_of a b c d in
      let P : Option Verdict → Type 0 = Fits chip pages bytes in
      after_pair chip codes pages 0x31 0xCE (a ∷ b ∷ c ∷ d ∷ x ∷ n ∷ rest)
      (cond_both (eqb x (xor (a ∷ b ∷ c ∷ d ∷ [])) && is_inside chip at) (write_verdict chip at (n ∷ rest)) (at_end Refused (n ∷ rest)) P
      (λ _. cond_both (eqb (length rest) (n + 2)) _ None P
      (λ _. fits_done_if chip pages bytes (eqb (get_or rest (n + 1) 0) (xor (n ∷ take (n + 1) rest)) && fits_inside chip at (n + 1)) (refl, within rest)) (λ _. tt))
      (λ _. tt))

  -- the count 02 and three bytes 02 are refused by the check 02
  two_data : (bytes : List ℕ) (at k : ℕ) → Fits chip pages bytes (write_verdict chip at (replicate k 2))
  two_data bytes at zero = tt
  two_data bytes at (suc zero) = tt
  two_data bytes at (suc (suc zero)) = tt
  two_data bytes at (suc (suc (suc zero))) = tt
  two_data bytes at (suc (suc (suc (suc zero)))) = tt
  two_data bytes at (suc (suc (suc (suc (suc k))))) =
      cond_both (eqb (length (2 ∷ 2 ∷ 2 ∷ 2 ∷ replicate k 2)) 4) (Some Refused) None (Fits chip pages bytes) (λ _. tt) (λ _. tt)

  pub after_check : (a b c d x : ℕ) → Mild chip codes 2 pages (0x31 ∷ 0xCE ∷ a ∷ b ∷ c ∷ d ∷ x ∷ [])
  after_check a b c d x k =
      let rest = replicate k 2 in
      let bytes = 0x31 ∷ 0xCE ∷ a ∷ b ∷ c ∷ d ∷ x ∷ rest in
      let at = number_of a b c d in
      after_pair chip codes pages 0x31 0xCE (a ∷ b ∷ c ∷ d ∷ x ∷ rest)
      (cond_both (eqb x (xor (a ∷ b ∷ c ∷ d ∷ [])) && is_inside chip at) (write_verdict chip at rest) (at_end Refused rest) (Fits chip pages bytes)
      (λ _. two_data bytes at k) (λ _. fits_end chip pages bytes Refused tt rest))

  -- fewer than five bytes behind the pair
  shorter : (rest : List ℕ) → after_address (is_inside chip) (write_verdict chip) rest ≡ None → Mild chip codes 2 pages (0x31 ∷ 0xCE ∷ rest ++ 2 ∷ []) → Mild chip codes 2 pages (0x31 ∷ 0xCE ∷ rest)
  shorter rest e m = mild_less chip codes 2 pages (0x31 ∷ 0xCE ∷ rest) (after_pair chip codes pages 0x31 0xCE rest (rw e tt)) m

  pub after_four : (a b c d : ℕ) → Mild chip codes 2 pages (0x31 ∷ 0xCE ∷ a ∷ b ∷ c ∷ d ∷ [])
  after_four a b c d = shorter (a ∷ b ∷ c ∷ d ∷ []) refl (after_check a b c d 2)

  pub after_three : (a b c : ℕ) → Mild chip codes 2 pages (0x31 ∷ 0xCE ∷ a ∷ b ∷ c ∷ [])
  after_three a b c = shorter (a ∷ b ∷ c ∷ []) refl (after_four a b c 2)

  pub after_two : (a b : ℕ) → Mild chip codes 2 pages (0x31 ∷ 0xCE ∷ a ∷ b ∷ [])
  after_two a b = shorter (a ∷ b ∷ []) refl (after_three a b 2)

  pub after_one : (a : ℕ) → Mild chip codes 2 pages (0x31 ∷ 0xCE ∷ a ∷ [])
  after_one a = shorter (a ∷ []) refl (after_two a 2)

  after_command : Mild chip codes 2 pages (0x31 ∷ 0xCE ∷ [])
  after_command = shorter [] refl (after_one 2)

  after_code : Mild chip codes 2 pages (0x31 ∷ [])
  after_code zero = tt
  after_code (suc k) = fits_end chip pages (0x31 ∷ 2 ∷ replicate k 2) Refused tt (replicate k 2)

  pub mild_write : (a b c d x n : ℕ) (rest : List ℕ) → ((bytes : List ℕ) → IsConfined chip pages (Write (number_of a b c d) (take (n + 1) bytes))) →
      (j : ℕ) → Mild chip codes 2 pages (take j (0x31 ∷ 0xCE ∷ a ∷ b ∷ c ∷ d ∷ x ∷ n ∷ rest))
  mild_write a b c d x n rest w zero = mild_empty chip codes 2 pages
  mild_write a b c d x n rest w (suc zero) = after_code
  mild_write a b c d x n rest w (suc (suc zero)) = after_command
  mild_write a b c d x n rest w (suc (suc (suc zero))) = after_one a
  mild_write a b c d x n rest w (suc (suc (suc (suc zero)))) = after_two a b
  mild_write a b c d x n rest w (suc (suc (suc (suc (suc zero))))) = after_three a b c
  mild_write a b c d x n rest w (suc (suc (suc (suc (suc (suc zero)))))) = after_four a b c d
  mild_write a b c d x n rest w (suc (suc (suc (suc (suc (suc (suc zero))))))) = after_check a b c d x
  mild_write a b c d x n rest w (suc (suc (suc (suc (suc (suc (suc (suc j)))))))) = λ k. sent a b c d x n w (take j rest ++ replicate k 2)
