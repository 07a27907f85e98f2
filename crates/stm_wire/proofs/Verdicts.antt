-- No proper beginning of a list with a verdict has one.
use Rattle.std.proofs.Common.{◌≡◌, ℕ, ◌+◌, ◌*◌, Bool, true, false, ◌&&◌, ◌==◌, nat_le, List, [], ◌∷◌, ◌++◌, length, Option, Some, None, refl, sym, subst, arith, if◌then◌else◌, eqb-true, ne_eqb, length-append}
use Rattle.stm_wire.proofs.Names.{after_address, all_verdict, at_end, can_read, ChipData, command_verdict, complement, done_if, erase_verdict, extended_verdict, is_inside, is_listed, is_readable}
use Rattle.stm_wire.proofs.Names.{number_of, pair_of, read_verdict, Verdict, verdict, write_verdict, xor}
use Rattle.stm_wire.specs.declared.verdict.Verdict.TheVariants.{Done, Refused, Loose}

-- where the first has a verdict the second has none
abbrev pub Ends : Option Verdict → Option Verdict → Type 0
Ends x y = (v : Verdict) → x ≡ Some v → y ≡ None

none-ends : (y : Option Verdict) → Ends None y
none-ends y v e = cc

pick : (b : Bool) (x x' y y' : Option Verdict) → Ends x x' → Ends y y' → Ends (if b then x else y) (if b then x' else y')
pick true x x' y y' p q = p
pick false x x' y y' p q = q

module _ (byte : ℕ) (more : List ℕ) where
  end-ends : (w : Verdict) (rest : List ℕ) → Ends (at_end w rest) (at_end w (rest ++ byte ∷ more))
  end-ends w [] v e = refl
  end-ends w (b ∷ rest) v e = refl

  -- a verdict at one length alone
  sized-ends : (rest : List ℕ) (n : ℕ) (b : Bool) (x y : Option Verdict) → (length rest == n) ≡ b → Ends (if b then x else None) (if length (rest ++ byte ∷ more) == n then y else None)
  sized-ends rest n false x y is v e = cc
  sized-ends rest n true x y is v e =
      let size : length rest ≡ n = eqb-true (length rest) n is in
      let ne : length (rest ++ byte ∷ more) ≡ n → ⊥ = λ same. omega (arith, size, same, length-append rest (byte ∷ more)) in
      let P : Bool → Type 0 = λ c. (if c then y else None) ≡ None in
      subst P (sym (ne_eqb (length (rest ++ byte ∷ more)) n ne)) refl

  address-ends : (takes : ℕ → Bool) (next : ℕ → List ℕ → Option Verdict) → ((address : ℕ) (rest : List ℕ) → Ends (next address rest) (next address (rest ++ byte ∷ more)))
      → (rest : List ℕ) → Ends (after_address takes next rest) (after_address takes next (rest ++ byte ∷ more))
  address-ends takes next ends [] = none-ends _
  address-ends takes next ends (a ∷ []) = none-ends _
  address-ends takes next ends (a ∷ b ∷ []) = none-ends _
  address-ends takes next ends (a ∷ b ∷ c ∷ []) = none-ends _
  address-ends takes next ends (a ∷ b ∷ c ∷ d ∷ []) = none-ends _
  address-ends takes next ends (a ∷ b ∷ c ∷ d ∷ check ∷ rest) =
      pick (check == xor (a ∷ b ∷ c ∷ d ∷ []) && takes (number_of a b c d)) (next (number_of a b c d) rest) (next (number_of a b c d) (rest ++ byte ∷ more))
      (at_end Refused rest) (at_end Refused (rest ++ byte ∷ more)) (ends (number_of a b c d) rest) (end-ends Refused rest)

  read-ends : (chip : ChipData) (address : ℕ) (rest : List ℕ) → Ends (read_verdict chip address rest) (read_verdict chip address (rest ++ byte ∷ more))
  read-ends chip address [] = none-ends _
  read-ends chip address (n ∷ []) = none-ends _
  read-ends chip address (n ∷ check ∷ rest) = end-ends (done_if (check == complement n && can_read chip address (n + 1))) rest

  write-ends : (chip : ChipData) (address : ℕ) (rest : List ℕ) → Ends (write_verdict chip address rest) (write_verdict chip address (rest ++ byte ∷ more))
  write-ends chip address [] = none-ends _
  write-ends chip address (n ∷ rest) = sized-ends rest (n + 2) (length rest == n + 2) _ _ refl

  all-ends : (rest : List ℕ) → Ends (all_verdict rest) (all_verdict (rest ++ byte ∷ more))
  all-ends [] = none-ends _
  all-ends (check ∷ rest) = end-ends (done_if (check == 0)) rest

  erase-ends : (chip : ChipData) (rest : List ℕ) → Ends (erase_verdict chip rest) (erase_verdict chip (rest ++ byte ∷ more))
  erase-ends chip [] = none-ends _
  erase-ends chip (n ∷ rest) = pick (n == 0xFF) (all_verdict rest) (all_verdict (rest ++ byte ∷ more)) _ _ (all-ends rest) (sized-ends rest (n + 2) (length rest == n + 2) _ _ refl)

  extended-ends : (chip : ChipData) (rest : List ℕ) → Ends (extended_verdict chip rest) (extended_verdict chip (rest ++ byte ∷ more))
  extended-ends chip [] = none-ends _
  extended-ends chip (high ∷ []) = none-ends _
  extended-ends chip (high ∷ low ∷ rest) =
      pick (pair_of high low == 0xFFFF) (all_verdict rest) (all_verdict (rest ++ byte ∷ more)) _ _ (all-ends rest)
      (pick (nat_le 0xFFF0 (pair_of high low)) _ _ _ _ (sized-ends rest 1 (length rest == 1) (Some Loose) (Some Loose) refl)
      (sized-ends rest (2 * (pair_of high low + 1) + 1) (length rest == 2 * (pair_of high low + 1) + 1) _ _ refl))

  command-ends : (chip : ChipData) (code : ℕ) (rest : List ℕ) → Ends (command_verdict chip code rest) (command_verdict chip code (rest ++ byte ∷ more))
  command-ends chip code rest =
      pick (code == 0x00) _ _ _ _ (end-ends Done rest)
      (pick (code == 0x02) _ _ _ _ (end-ends Done rest)
      (pick (code == 0x11) _ _ _ _ (address-ends (is_readable chip) (read_verdict chip) (read-ends chip) rest)
      (pick (code == 0x21) _ _ _ _ (address-ends (is_inside chip) (λ address end. at_end Done end) (λ address. end-ends Done) rest)
      (pick (code == 0x31) _ _ _ _ (address-ends (is_inside chip) (write_verdict chip) (write-ends chip) rest)
      (pick (code == 0x43) _ _ _ _ (erase-ends chip rest)
      (pick (code == 0x44) _ _ _ _ (extended-ends chip rest) (end-ends Loose rest)))))))

  -- a list with a verdict has none once anything follows
  pub verdict-ends : (chip : ChipData) (codes bytes : List ℕ) → Ends (verdict chip codes bytes) (verdict chip codes (bytes ++ byte ∷ more))
  verdict-ends chip codes [] = none-ends _
  verdict-ends chip codes (code ∷ []) = none-ends _
  verdict-ends chip codes (code ∷ check ∷ rest) =
      pick (check == complement code && is_listed codes code) _ _ _ _ (command-ends chip code rest) (end-ends Refused rest)
