-- Rests that begin a frame, and 7F once behind them: what the settling byte makes of these.
use Rattle.std.proofs.Common.{lit<, ◌≡◌, ℕ, zero, suc, ◌+◌, ◌*◌, ◌<◌, Bool, true, ◌&&◌, eqb, List, [], ◌∷◌, ◌++◌, length, get_or, take, replicate, refl, sym, ◌∙◌, subst, arith, Some, None}
use Rattle.std.specs.Prelude.{IsTrue}
use Rattle.std.specs.List.{Contains}
use Rattle.std.proofs.lemmas.Bool.{cond_both, eqb-true, and_parts, false≢true}
use Rattle.std.proofs.lemmas.List.{length-replicate}
use Rattle.stm_wire.proofs.Names.{all_exist, at_end, ChipData, command_verdict, complement, done_if, erase_verdict, extended_verdict, fits_inside, is_inside, is_listed, number_of, pair_of}
use Rattle.stm_wire.proofs.Names.{two_byte_numbers, Write, write_verdict, xor}
use Rattle.stm_wire.specs.declared.verdict.Verdict.TheVariants.{Done, Refused}
use Rattle.stm_wire.proofs.Flash.{Every, IsConfined}
use Rattle.stm_wire.proofs.Mild.{Fits, FitsAll, Mild, fits_end, after_pair}
use Rattle.stm_wire.proofs.Plain.{fits_done_if, fits_get, fits_id, fits_read}
use Rattle.stm_wire.proofs.ErasePage.{contains_first}
use Rattle.stm_wire.proofs.ErasePage as page
use Rattle.stm_wire.proofs.ErasePair.{listed, every_pair}
use Rattle.stm_wire.proofs.WriteData as write

-- done where the test passed, and then the list fits
fits_when : (chip : ChipData) (pages bytes : List ℕ) (test : Bool) → (test ≡ true → Fits chip pages bytes (Some Done)) → Fits chip pages bytes (Some (done_if test))
fits_when chip pages bytes test f = cond_both test Done Refused (λ v. Fits chip pages bytes (Some v)) f (λ _. tt)

module _ (chip : ChipData) (codes : List ℕ) (none : IsTrue (is_listed codes 0x7F) → ⊥) where
  -- no device lists 7F
  pub mild_first : (byte : ℕ) (pages : List ℕ) → Mild chip codes byte pages (0x7F ∷ [])
  mild_first byte pages zero = tt
  mild_first byte pages (suc k) =
      let rest = replicate k byte in
      cond_both (eqb byte (complement 0x7F) && is_listed codes 0x7F) (command_verdict chip 0x7F rest) (at_end Refused rest) (Fits chip pages (0x7F ∷ byte ∷ rest))
      (λ t. absurd (none (and_parts (eqb byte (complement 0x7F)) (is_listed codes 0x7F) t).1)) (λ _. fits_end chip pages (0x7F ∷ byte ∷ rest) Refused tt rest)

  -- of frames that change nothing
  pub get_greeted : (byte : ℕ) (pages rest : List ℕ) (j : ℕ) → Mild chip codes byte pages (take j (0x00 ∷ rest) ++ 0x7F ∷ [])
  get_greeted byte pages rest zero = mild_first byte pages
  get_greeted byte pages rest (suc j) = λ k. fits_get chip codes pages ((take j rest ++ 0x7F ∷ []) ++ replicate k byte)

  pub id_greeted : (byte : ℕ) (pages rest : List ℕ) (j : ℕ) → Mild chip codes byte pages (take j (0x02 ∷ rest) ++ 0x7F ∷ [])
  id_greeted byte pages rest zero = mild_first byte pages
  id_greeted byte pages rest (suc j) = λ k. fits_id chip codes pages ((take j rest ++ 0x7F ∷ []) ++ replicate k byte)

  pub read_greeted : (byte : ℕ) (pages rest : List ℕ) (j : ℕ) → Mild chip codes byte pages (take j (0x11 ∷ rest) ++ 0x7F ∷ [])
  read_greeted byte pages rest zero = mild_first byte pages
  read_greeted byte pages rest (suc j) = λ k. fits_read chip codes pages ((take j rest ++ 0x7F ∷ []) ++ replicate k byte)

  -- of an erase by 43
  module _ (N : ℕ) where
    count : Mild chip codes N (N ∷ []) (0x43 ∷ 0xBC ∷ 0x7F ∷ [])
    count k = after_pair chip codes (N ∷ []) 0x43 0xBC (0x7F ∷ replicate k N) (page.listed chip 0xBC N 0x7F k (λ e. absurd (false≢true e)))

    -- page 7F has the check 7F
    page_tail : (k : ℕ) → Fits chip (N ∷ []) (0x43 ∷ 0xBC ∷ 0 ∷ 0x7F ∷ replicate k N) (erase_verdict chip (0 ∷ 0x7F ∷ replicate k N))
    page_tail zero = tt
    page_tail (suc zero) = fits_when chip (N ∷ []) (0x43 ∷ 0xBC ∷ 0 ∷ 0x7F ∷ N ∷ []) (eqb N 0x7F && all_exist chip (0x7F ∷ []))
        (λ t. let e : N ≡ 0x7F = eqb-true N 0x7F (and_parts (eqb N 0x7F) (all_exist chip (0x7F ∷ [])) t).0 in (refl, ((0, omega arith, e), tt)))
    page_tail (suc (suc k)) = cond_both (eqb (length (0x7F ∷ N ∷ N ∷ replicate k N)) 2) _ None (Fits chip (N ∷ []) (0x43 ∷ 0xBC ∷ 0 ∷ 0x7F ∷ N ∷ N ∷ replicate k N)) (λ e. let long = eqb-true (length (0x7F ∷ N ∷ N ∷ replicate k N)) 2 e in absurd (omega (arith, long))) (λ _. tt)

    page_sent : (rest : List ℕ) → FitsAll chip codes (N ∷ []) (0x43 ∷ 0xBC ∷ 0 ∷ N ∷ rest)
    page_sent rest =
        let bytes = 0x43 ∷ 0xBC ∷ 0 ∷ N ∷ rest in
        after_pair chip codes (N ∷ []) 0x43 0xBC (0 ∷ N ∷ rest)
        (cond_both (eqb (length (N ∷ rest)) 2) _ None (Fits chip (N ∷ []) bytes)
        (λ _. fits_done_if chip (N ∷ []) bytes (eqb (get_or (N ∷ rest) 1 0) (xor (0 ∷ N ∷ [])) && all_exist chip (N ∷ [])) (refl, (contains_first N [], tt))) (λ _. tt))

    pub erase_greeted : (check j : ℕ) → Mild chip codes N (N ∷ []) (take j (0x43 ∷ 0xBC ∷ 0 ∷ N ∷ check ∷ []) ++ 0x7F ∷ [])
    erase_greeted check zero = mild_first N (N ∷ [])
    erase_greeted check (suc zero) = λ k. fits_end chip (N ∷ []) (0x43 ∷ 0x7F ∷ replicate k N) Refused tt (replicate k N)
    erase_greeted check (suc (suc zero)) = count
    erase_greeted check (suc (suc (suc zero))) = λ k. after_pair chip codes (N ∷ []) 0x43 0xBC (0 ∷ 0x7F ∷ replicate k N) (page_tail k)
    erase_greeted check (suc (suc (suc (suc zero)))) = λ k. page_sent (0x7F ∷ replicate k N)
    erase_greeted check (suc (suc (suc (suc (suc zero))))) = λ k. page_sent (check ∷ 0x7F ∷ replicate k N)
    erase_greeted check (suc (suc (suc (suc (suc (suc j)))))) = λ k. page_sent (check ∷ 0x7F ∷ replicate k N)

  -- of a write
  module _ (pages : List ℕ) where
    -- 128 bytes 02 have the check 7F
    data_tail : (bytes : List ℕ) (at k : ℕ) → Fits chip pages bytes (write_verdict chip at (0x7F ∷ replicate k 2))
    data_tail bytes at k =
        let rest = replicate k 2 in
        let check : ℕ → Bool = λ n. eqb (get_or (replicate n 2) 128 0) (xor (0x7F ∷ take 128 (replicate n 2))) in
        cond_both (eqb (length rest) 129) _ None (Fits chip pages bytes)
        (λ e. fits_when chip pages bytes (check k && fits_inside chip at 128)
        (λ t.
        let long : length rest ≡ 129 = eqb-true (length rest) 129 e in
        let many : k ≡ 129 = sym (length-replicate k 2) ∙ long in
        absurd (false≢true (subst (λ (n : ℕ). check n ≡ true) many (and_parts (check k) (fits_inside chip at 128) t).0))))
        (λ _. tt)

    data_greeted : (a b c d x : ℕ) → Mild chip codes 2 pages (0x31 ∷ 0xCE ∷ a ∷ b ∷ c ∷ d ∷ x ∷ 0x7F ∷ [])
    data_greeted a b c d x k =
        let rest = 0x7F ∷ replicate k 2 in
        let bytes = 0x31 ∷ 0xCE ∷ a ∷ b ∷ c ∷ d ∷ x ∷ rest in
        let at = number_of a b c d in
        after_pair chip codes pages 0x31 0xCE (a ∷ b ∷ c ∷ d ∷ x ∷ rest)
        (cond_both (eqb x (xor (a ∷ b ∷ c ∷ d ∷ [])) && is_inside chip at) (write_verdict chip at rest) (at_end Refused rest) (Fits chip pages bytes)
        (λ _. data_tail bytes at k) (λ _. fits_end chip pages bytes Refused tt rest))

    pub write_greeted : (a b c d x n : ℕ) (rest : List ℕ) → ((bytes : List ℕ) → IsConfined chip pages (Write (number_of a b c d) (take (n + 1) bytes))) →
        (j : ℕ) → Mild chip codes 2 pages (take j (0x31 ∷ 0xCE ∷ a ∷ b ∷ c ∷ d ∷ x ∷ n ∷ rest) ++ 0x7F ∷ [])
    write_greeted a b c d x n rest w zero = mild_first 2 pages
    write_greeted a b c d x n rest w (suc zero) = λ k. fits_end chip pages (0x31 ∷ 0x7F ∷ replicate k 2) Refused tt (replicate k 2)
    write_greeted a b c d x n rest w (suc (suc zero)) = write.after_one chip codes pages 0x7F
    write_greeted a b c d x n rest w (suc (suc (suc zero))) = write.after_two chip codes pages a 0x7F
    write_greeted a b c d x n rest w (suc (suc (suc (suc zero)))) = write.after_three chip codes pages a b 0x7F
    write_greeted a b c d x n rest w (suc (suc (suc (suc (suc zero))))) = write.after_four chip codes pages a b c 0x7F
    write_greeted a b c d x n rest w (suc (suc (suc (suc (suc (suc zero)))))) = write.after_check chip codes pages a b c d 0x7F
    write_greeted a b c d x n rest w (suc (suc (suc (suc (suc (suc (suc zero))))))) = data_greeted a b c d x
    write_greeted a b c d x n rest w (suc (suc (suc (suc (suc (suc (suc (suc j)))))))) = λ k. write.sent chip codes pages a b c d x n w ((take j rest ++ 0x7F ∷ []) ++ replicate k 2)

-- the page, and those that copies of the byte can name, and 7F with it: the last is on no chip
abbrev pub greeted_by : ℕ → ℕ → List ℕ
greeted_by N byte = N ∷ pair_of byte byte ∷ pair_of 0x7F byte ∷ []

-- of an erase by 44
module _ (chip : ChipData) (codes : List ℕ) (none : IsTrue (is_listed codes 0x7F) → ⊥) (N byte h l : ℕ)
    (small : byte < 256) (is : pair_of h l ≡ N) (last : byte ≡ xor (0 ∷ 0 ∷ h ∷ 0x7F ∷ []) → N ≡ pair_of h 0x7F) where
  abbrev pages : List ℕ
  pages = greeted_by N byte

  copies : (a b k : ℕ) → pair_of a b < 0xFFF0 → Fits chip pages (0x44 ∷ 0xBB ∷ a ∷ b ∷ replicate k byte) (extended_verdict chip (a ∷ b ∷ replicate k byte))
  copies a b k few = listed chip pages (replicate k byte) 0xBB a b few (every_pair (Contains pages) byte (2 * (pair_of a b + 1)) k (1, omega arith, refl))

  high : (k : ℕ) → Fits chip pages (0x44 ∷ 0xBB ∷ 0x7F ∷ replicate k byte) (extended_verdict chip (0x7F ∷ replicate k byte))
  high zero = tt
  high (suc k) = copies 0x7F byte k (omega arith)

  page_high : (k : ℕ) → Every (Contains pages) (two_byte_numbers (take 2 (0x7F ∷ replicate k byte)))
  page_high zero = tt
  page_high (suc k) = ((2, omega arith, refl), tt)

  page_low : (k : ℕ) → Fits chip pages (0x44 ∷ 0xBB ∷ 0 ∷ 0 ∷ h ∷ 0x7F ∷ replicate k byte) (extended_verdict chip (0 ∷ 0 ∷ h ∷ 0x7F ∷ replicate k byte))
  page_low zero = tt
  page_low (suc zero) =
      let check = xor (0 ∷ 0 ∷ h ∷ 0x7F ∷ []) in
      let exist = all_exist chip (pair_of h 0x7F ∷ []) in
      fits_when chip pages (0x44 ∷ 0xBB ∷ 0 ∷ 0 ∷ h ∷ 0x7F ∷ byte ∷ []) (eqb byte check && exist)
      (λ t. (refl, ((0, omega arith, last (eqb-true byte check (and_parts (eqb byte check) exist t).0)), tt)))
  page_low (suc (suc k)) = cond_both (eqb (length (h ∷ 0x7F ∷ byte ∷ byte ∷ replicate k byte)) 3) _ None
      (Fits chip pages (0x44 ∷ 0xBB ∷ 0 ∷ 0 ∷ h ∷ 0x7F ∷ byte ∷ byte ∷ replicate k byte)) (λ e. let long = eqb-true (length (h ∷ 0x7F ∷ byte ∷ byte ∷ replicate k byte)) 3 e in absurd (omega (arith, long))) (λ _. tt)

  pair_sent : (rest : List ℕ) → FitsAll chip codes pages (0x44 ∷ 0xBB ∷ 0 ∷ 0 ∷ h ∷ l ∷ rest)
  pair_sent rest = after_pair chip codes pages 0x44 0xBB (0 ∷ 0 ∷ h ∷ l ∷ rest)
      (listed chip pages (h ∷ l ∷ rest) 0xBB 0 0 (lit< tt) ((0, omega arith, sym is), tt))

  pub extended_greeted : (check j : ℕ) → Mild chip codes byte pages (take j (0x44 ∷ 0xBB ∷ 0 ∷ 0 ∷ h ∷ l ∷ check ∷ []) ++ 0x7F ∷ [])
  extended_greeted check zero = mild_first chip codes none byte pages
  extended_greeted check (suc zero) = λ k. fits_end chip pages (0x44 ∷ 0x7F ∷ replicate k byte) Refused tt (replicate k byte)
  extended_greeted check (suc (suc zero)) = λ k. after_pair chip codes pages 0x44 0xBB (0x7F ∷ replicate k byte) (high k)
  extended_greeted check (suc (suc (suc zero))) = λ k. after_pair chip codes pages 0x44 0xBB (0 ∷ 0x7F ∷ replicate k byte) (copies 0 0x7F k (lit< tt))
  extended_greeted check (suc (suc (suc (suc zero)))) = λ k. after_pair chip codes pages 0x44 0xBB (0 ∷ 0 ∷ 0x7F ∷ replicate k byte) (listed chip pages (0x7F ∷ replicate k byte) 0xBB 0 0 (lit< tt) (page_high k))
  extended_greeted check (suc (suc (suc (suc (suc zero))))) = λ k. after_pair chip codes pages 0x44 0xBB (0 ∷ 0 ∷ h ∷ 0x7F ∷ replicate k byte) (page_low k)
  extended_greeted check (suc (suc (suc (suc (suc (suc zero)))))) = λ k. pair_sent (0x7F ∷ replicate k byte)
  extended_greeted check (suc (suc (suc (suc (suc (suc (suc zero))))))) = λ k. pair_sent (check ∷ 0x7F ∷ replicate k byte)
  extended_greeted check (suc (suc (suc (suc (suc (suc (suc (suc j)))))))) = λ k. pair_sent (check ∷ 0x7F ∷ replicate k byte)
