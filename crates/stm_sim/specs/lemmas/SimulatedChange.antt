-- What the simulator changes: a write that is done fits, and stores bytes.
use Rattle.std.proofs.Common.{◌≡◌, ℕ, suc, ◌+◌, ◌*◌, ◌<◌, Bool, true, false, ◌&&◌, ◌==◌}
use Rattle.std.proofs.Common.{if◌then◌else◌, List, [], ◌∷◌, length, take, All, Some, None}
use Rattle.std.proofs.Common.{IsTrue, refl, sym, subst, arith, get_or, eqb-true, length-take}
use Rattle.std.proofs.lemmas.List.Elements.{All-take}
use Rattle.stm_wire.specs.declared.verdict.Verdict.TheVariants.{Done, Refused}
use Rattle.stm_wire.specs.Chip.{ChipData, fits_inside, is_inside}
use Rattle.stm_wire.specs.Exchange.{verdict, command_verdict, after_address}
use Rattle.stm_wire.specs.Exchange.{write_verdict, at_end, done_if, complement}
use Rattle.stm_wire.specs.Exchange.{is_listed, number_of, pair_of, two_byte_numbers, xor}
use Rattle.stm_wire.specs.Effect.{Change, Nothing, ErasePages, EraseAll, Write}
use Rattle.stm_wire.specs.Effect.{change_of, write_change, erase_change, extended_change}
use Rattle.stm_sim.specs.Simulator.{Fits}

done-fits : (x y : Bool) → Some (done_if (x && y)) ≡ Some Done → y ≡ true
done-fits true true e = refl
done-fits true false e = cc
done-fits false y e = cc

not-refused : (rest : List ℕ) → at_end Refused rest ≡ Some Done → ⊥
not-refused [] e = cc
not-refused (b ∷ rest) e = cc

write-tail : (chip : ChipData) (address n : ℕ) (rest : List ℕ) (b : Bool)
    → (length rest == n + 2) ≡ b
    → (if b
    then Some
    (done_if
    (get_or rest (n + 1) 0 == xor (n ∷ take (n + 1) rest) && fits_inside chip address (n + 1)))
    else None) ≡ Some Done
    → IsTrue (fits_inside chip address (length (take (n + 1) rest)))
write-tail chip address n rest false is e = cc
write-tail chip address n rest true is e =
    let size : length rest ≡ n + 2 = eqb-true (length rest) (n + 2) is in
    let same : length (take (n + 1) rest) ≡ n + 1 = simp length-take (omega (arith, size)) in
    rw same (done-fits (get_or rest (n + 1) 0 == xor (n ∷ take (n + 1) rest))
    (fits_inside chip address (n + 1)) e)

write-address : (chip : ChipData) (a b c d check : ℕ) (rest : List ℕ) (t : Bool)
    → (if t then write_verdict chip (number_of a b c d) rest else at_end Refused rest) ≡ Some Done
    → Fits chip (write_change (a ∷ b ∷ c ∷ d ∷ check ∷ rest))
write-address chip a b c d check rest false e = absurd (not-refused rest e)
write-address chip a b c d check [] true e = tt
write-address chip a b c d check (n ∷ rest) true e =
    write-tail chip (number_of a b c d) n rest (length rest == n + 2) refl e

write-rest : (chip : ChipData) (rest : List ℕ)
    → after_address (is_inside chip) (write_verdict chip) rest ≡ Some Done → Fits chip (write_change rest)
write-rest chip [] e = tt
write-rest chip (a ∷ []) e = tt
write-rest chip (a ∷ b ∷ []) e = tt
write-rest chip (a ∷ b ∷ c ∷ []) e = tt
write-rest chip (a ∷ b ∷ c ∷ d ∷ []) e = tt
write-rest chip (a ∷ b ∷ c ∷ d ∷ check ∷ rest) e = write-address chip a b c d check rest _ e

pick : (F : Change → Type 0) (b : Bool) (x y : Change) → F x → F y → F (if b then x else y)
pick F true x y p q = p
pick F false x y p q = q

-- an erase writes nothing
erase-is : (F : Change → Type 0) → F Nothing → F EraseAll
    → ((pages : List ℕ) → F (ErasePages pages)) → (rest : List ℕ) → F (erase_change rest)
erase-is F none all pages [] = none
erase-is F none all pages (n ∷ rest) =
    pick F (n == 0xFF) EraseAll (ErasePages (take (n + 1) rest)) all (pages (take (n + 1) rest))

extended-is : (F : Change → Type 0) → F Nothing → F EraseAll
    → ((pages : List ℕ) → F (ErasePages pages)) → (rest : List ℕ) → F (extended_change rest)
extended-is F none all pages [] = none
extended-is F none all pages (high ∷ []) = none
extended-is F none all pages (high ∷ low ∷ rest) =
    pick F (pair_of high low == 0xFFFF) EraseAll
    (ErasePages (two_byte_numbers (take (2 * (pair_of high low + 1)) rest))) all
    (pages (two_byte_numbers (take (2 * (pair_of high low + 1)) rest)))

change-is : (F : Change → Type 0) → F Nothing → F EraseAll
    → ((pages : List ℕ) → F (ErasePages pages)) → (code check : ℕ) (rest : List ℕ) (b : Bool)
    → (code == 0x31) ≡ b → (code ≡ 0x31 → F (write_change rest))
    → F (change_of (code ∷ check ∷ rest))
change-is F none all pages code check rest true is write =
    rw is (write (eqb-true code 0x31 is))
change-is F none all pages code check rest false is write =
    rw is (pick F (code == 0x43) (erase_change rest)
    (if code == 0x44 then extended_change rest else Nothing) (erase-is F none all pages rest)
    (pick F (code == 0x44) (extended_change rest) Nothing (extended-is F none all pages rest) none))

listed-fits : (chip : ChipData) (code : ℕ) (rest : List ℕ) (t : Bool)
    → (if t then command_verdict chip code rest else at_end Refused rest) ≡ Some Done → code ≡ 0x31
    → Fits chip (write_change rest)
listed-fits chip code rest false e at = absurd (not-refused rest e)
listed-fits chip code rest true e at =
    let P : ℕ → Type 0 =
    λ x. command_verdict chip x rest ≡ Some Done → Fits chip (write_change rest) in
    subst P (sym at) (write-rest chip rest) e

pub done-change-fits : (chip : ChipData) (codes bytes : List ℕ)
    → verdict chip codes bytes ≡ Some Done → Fits chip (change_of bytes)
done-change-fits chip codes [] e = tt
done-change-fits chip codes (code ∷ []) e = tt
done-change-fits chip codes (code ∷ check ∷ rest) e =
    change-is (Fits chip) tt tt (λ pages. tt) code check rest (code == 0x31) refl
    (listed-fits chip code rest (check == complement code && is_listed codes code) e)

abbrev pub Small : Change → Type 0
Small (Write address sent) = All (λ b. b < 256) sent
Small Nothing = Unit {0}
Small (ErasePages pages) = Unit {0}
Small EraseAll = Unit {0}

small-write : (rest : List ℕ) → All (λ b. b < 256) rest → Small (write_change rest)
small-write [] s = tt
small-write (a ∷ []) s = tt
small-write (a ∷ b ∷ []) s = tt
small-write (a ∷ b ∷ c ∷ []) s = tt
small-write (a ∷ b ∷ c ∷ d ∷ []) s = tt
small-write (a ∷ b ∷ c ∷ d ∷ check ∷ []) s = tt
small-write (a ∷ b ∷ c ∷ d ∷ check ∷ n ∷ rest) s =
    All-take (λ x. x < 256) (n + 1) rest
    (λ k e h. s (suc (suc (suc (suc (suc (suc k)))))) e (omega (arith, h)))

pub small-change : (bytes : List ℕ) → All (λ b. b < 256) bytes → Small (change_of bytes)
small-change [] s = tt
small-change (code ∷ []) s = tt
small-change (code ∷ check ∷ rest) s =
    change-is Small tt tt (λ pages. tt) code check rest (code == 0x31) refl
    (λ at. small-write rest (λ k e h. s (suc (suc k)) e (omega (arith, h))))
