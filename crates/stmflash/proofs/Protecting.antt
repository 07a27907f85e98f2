-- A list that is done with its last byte lacked just this check before, and asks for the same change.
use Rattle.std.proofs.Common.{◌≡◌, ℕ, ◌+◌, ◌*◌, ◌⊎◌, inl, inr, Bool, true, false, ◌&&◌, ◌==◌, nat_le, if◌then◌else◌, List, [], ◌∷◌, ◌++◌, length, take, get_or, Option, Some, None, IsTrue, refl, sym, ◌∙◌, ap, subst, arith, eqb-true, eq-eqb, length-append}
use Rattle.std.proofs.Math.Seq.{take-append_seam, get_or-append_seam}
use Rattle.std.proofs.lemmas.List.{take-append-le}
use Rattle.stm_wire.specs.declared.verdict.Verdict.{Verdict}
use Rattle.stm_wire.specs.declared.verdict.Verdict.TheVariants.{Done, Refused, Loose}
use Rattle.stm_wire.proofs.Names.{after_address, all_exist, all_verdict, at_end, Change, change_of, ChipData, command_verdict, complement, Connected, Device, done_if, erase_change, erase_verdict}
use Rattle.stm_wire.proofs.Names.{EraseAll, ErasePages, extended_change, extended_verdict, fits_inside, Fresh, Gone, is_inside, is_listed, Nothing, number_of, pages_verdict, pair_of, Phase}
use Rattle.stm_wire.proofs.Names.{two_byte_numbers, verdict, Write, write_change, write_verdict, xor}
use Rattle.stmflash.specs.Protections.{Bars, Protected, Spares, all_check, changes_any, check_due, completes_change, erase_check, extended_check, fed_behind, fed_in, fed_unreadable, fed_while_protected, is_check, write_check}

-- of two tests, the first passes where the verdict is done
done-first : (a b : Bool) → Some (done_if (a && b)) ≡ Some Done → a ≡ true
done-first true b e = refl
done-first false b e = absurd (cc)

done-test : (a : Bool) → Some (done_if a) ≡ Some Done → a ≡ true
done-test true e = refl
done-test false e = absurd (cc)

module _ (x : ℕ) where
  end-not-done : (w : Verdict) (rest : List ℕ) → at_end w (rest ++ x ∷ []) ≡ Some Done → ⊥
  end-not-done w [] e = cc
  end-not-done w (b ∷ rest) e = cc

  -- the last byte of a list of this size is the check of what is before it
  last-check : (total size : ℕ) (head front : List ℕ) (other t : Bool) → total ≡ size + 1 → (length (front ++ x ∷ []) == total) ≡ t
      → (if t then Some (done_if (get_or (front ++ x ∷ []) size 0 == xor (head ++ take size (front ++ x ∷ [])) && other)) else None) ≡ Some Done
      → (length front ≡ size) × (x ≡ xor (head ++ front))
  last-check total size head front other false sum is e = absurd (cc)
  last-check total size head front other true sum is e =
      let long : length (front ++ x ∷ []) ≡ total = eqb-true (length (front ++ x ∷ [])) total is in
      let len : length front ≡ size = omega (arith, long, sum, length-append front (x ∷ [])) in
      let right = eqb-true (get_or (front ++ x ∷ []) size 0) (xor (head ++ take size (front ++ x ∷ []))) (done-first _ other e) in
      let last : get_or (front ++ x ∷ []) size 0 ≡ x = ap (λ k. get_or (front ++ x ∷ []) k 0) (sym len) ∙ get_or-append_seam front x [] 0 in
      let before : take size (front ++ x ∷ []) ≡ front = ap (λ k. take k (front ++ x ∷ [])) (sym len) ∙ take-append_seam front (x ∷ []) in
      (len, sym last ∙ right ∙ ap (λ (ns : List ℕ). xor (head ++ ns)) before)

  -- nothing was to come behind a first byte
  none-fits : (n : ℕ) (other t : Bool) → (0 == n + 2) ≡ t → (if t then Some (done_if other) else None) ≡ Some Done → ⊥
  none-fits n other false is e = cc
  none-fits n other true is e = omega (arith, eqb-true 0 (n + 2) is)

  all-due : (rest : List ℕ) → all_verdict (rest ++ x ∷ []) ≡ Some Done → all_check rest ≡ Some x
  all-due [] e = ap Some (sym (eqb-true x 0 (done-test (x == 0) e)))
  all-due (b ∷ rest) e = absurd (end-not-done (done_if (b == 0)) rest e)

  -- a check of these is due, where so many came
  sized-due : (size : ℕ) (head front : List ℕ) → length front ≡ size → x ≡ xor (head ++ front)
      → (if length front == size then Some (xor (head ++ front)) else None) ≡ Some x
  sized-due size head front len is =
      ap (λ t. if t then Some (xor (head ++ front)) else None) (eq-eqb (length front) size len) ∙ ap Some (sym is)

  same-front : (size : ℕ) (front : List ℕ) → length front ≡ size → take size (front ++ x ∷ []) ≡ take size front
  same-front size front len = take-append-le size front (x ∷ []) (omega (arith, len))

  -- the byte was the check that was due, and the change is the same
  abbrev Due : Option Verdict → Option ℕ → Change → Change → Type 0
  Due v due after before = v ≡ Some Done → (due ≡ Some x) × (after ≡ before)

  pick : (b : Bool) (v w : Option Verdict) (due due' : Option ℕ) (after after' before before' : Change) → Due v due after before → Due w due' after' before'
      → Due (if b then v else w) (if b then due else due') (if b then after else after') (if b then before else before')
  pick true v w due due' after after' before before' p q = p
  pick false v w due due' after after' before before' p q = q

  module _ (chip : ChipData) where
    data-due : (address n : ℕ) (sent : List ℕ) → write_verdict chip address (n ∷ (sent ++ x ∷ [])) ≡ Some Done → (length sent ≡ n + 1) × (x ≡ xor (n ∷ sent))
    data-due address n sent e = last-check (n + 2) (n + 1) (n ∷ []) sent (fits_inside chip address (n + 1)) (length (sent ++ x ∷ []) == n + 2) (omega arith) refl e

    write-rest : (a b c d check : ℕ) (rest : List ℕ) → write_verdict chip (number_of a b c d) (rest ++ x ∷ []) ≡ Some Done
        → (write_check (a ∷ b ∷ c ∷ d ∷ check ∷ rest) ≡ Some x) × (write_change (a ∷ b ∷ c ∷ d ∷ check ∷ (rest ++ x ∷ [])) ≡ write_change (a ∷ b ∷ c ∷ d ∷ check ∷ rest))
    write-rest a b c d check [] e = absurd (none-fits x (get_or [] (x + 1) 0 == xor (x ∷ take (x + 1) []) && fits_inside chip (number_of a b c d) (x + 1)) (0 == x + 2) refl e)
    write-rest a b c d check (n ∷ sent) e =
        let is = data-due (number_of a b c d) n sent e in
        (sized-due (n + 1) (n ∷ []) sent is.0 is.1, ap (λ (ns : List ℕ). Write (number_of a b c d) ns) (same-front (n + 1) sent is.0))

    chosen : (t : Bool) (v : Option Verdict) (w : Verdict) (rest : List ℕ) → (if t then v else at_end w (rest ++ x ∷ [])) ≡ Some Done → v ≡ Some Done
    chosen true v w rest e = e
    chosen false v w rest e = absurd (end-not-done w rest e)

    no-data : (t : Bool) → (if t then None else Some Refused) ≡ Some Done → ⊥
    no-data true e = cc
    no-data false e = cc

    write-due : (rest : List ℕ) → Due (after_address (is_inside chip) (write_verdict chip) (rest ++ x ∷ [])) (write_check rest) (write_change (rest ++ x ∷ [])) (write_change rest)
    write-due [] e = absurd (cc)
    write-due (a ∷ []) e = absurd (cc)
    write-due (a ∷ b ∷ []) e = absurd (cc)
    write-due (a ∷ b ∷ c ∷ []) e = absurd (cc)
    write-due (a ∷ b ∷ c ∷ d ∷ []) e = absurd (no-data (x == xor (a ∷ b ∷ c ∷ d ∷ []) && is_inside chip (number_of a b c d)) e)
    write-due (a ∷ b ∷ c ∷ d ∷ check ∷ rest) e =
        write-rest a b c d check rest (chosen (check == xor (a ∷ b ∷ c ∷ d ∷ []) && is_inside chip (number_of a b c d)) (write_verdict chip (number_of a b c d) (rest ++ x ∷ [])) Refused rest e)

    no-count : (t : Bool) (other u : Bool) → (0 == x + 2) ≡ u → (if t then None else (if u then Some (done_if other) else None)) ≡ Some Done → ⊥
    no-count true other u is e = cc
    no-count false other u is e = none-fits x other u is e

    some-pages : (n : ℕ) (pages : List ℕ)
        → Due (if length (pages ++ x ∷ []) == n + 2 then Some (done_if (get_or (pages ++ x ∷ []) (n + 1) 0 == xor (n ∷ take (n + 1) (pages ++ x ∷ [])) && all_exist chip (take (n + 1) (pages ++ x ∷ [])))) else None)
        (if length pages == n + 1 then Some (xor (n ∷ pages)) else None) (ErasePages (take (n + 1) (pages ++ x ∷ []))) (ErasePages (take (n + 1) pages))
    some-pages n pages e =
        let is = last-check (n + 2) (n + 1) (n ∷ []) pages (all_exist chip (take (n + 1) (pages ++ x ∷ []))) (length (pages ++ x ∷ []) == n + 2) (omega arith) refl e in
        (sized-due (n + 1) (n ∷ []) pages is.0 is.1, ap ErasePages (same-front (n + 1) pages is.0))

    erase-due : (rest : List ℕ) → Due (erase_verdict chip (rest ++ x ∷ [])) (erase_check rest) (erase_change (rest ++ x ∷ [])) (erase_change rest)
    erase-due [] e = absurd (no-count (x == 0xFF) (get_or [] (x + 1) 0 == xor (x ∷ take (x + 1) []) && all_exist chip (take (x + 1) [])) (0 == x + 2) refl e)
    erase-due (n ∷ pages) e =
        pick (n == 0xFF) (all_verdict (pages ++ x ∷ []))
        (if length (pages ++ x ∷ []) == n + 2 then Some (done_if (get_or (pages ++ x ∷ []) (n + 1) 0 == xor (n ∷ take (n + 1) (pages ++ x ∷ [])) && all_exist chip (take (n + 1) (pages ++ x ∷ [])))) else None)
        (all_check pages) (if length pages == n + 1 then Some (xor (n ∷ pages)) else None)
        EraseAll (ErasePages (take (n + 1) (pages ++ x ∷ []))) EraseAll (ErasePages (take (n + 1) pages))
        (λ d. (all-due pages d, refl)) (some-pages n pages) e

    some-pairs : (high low : ℕ) (pages : List ℕ)
        → Due (pages_verdict chip (high ∷ low ∷ []) (2 * (pair_of high low + 1)) (pages ++ x ∷ []))
        (if length pages == 2 * (pair_of high low + 1) then Some (xor (high ∷ low ∷ pages)) else None)
        (ErasePages (two_byte_numbers (take (2 * (pair_of high low + 1)) (pages ++ x ∷ [])))) (ErasePages (two_byte_numbers (take (2 * (pair_of high low + 1)) pages)))
    some-pairs high low pages e =
        let size = 2 * (pair_of high low + 1) in
        let is = last-check (size + 1) size (high ∷ low ∷ []) pages (all_exist chip (two_byte_numbers (take size (pages ++ x ∷ [])))) (length (pages ++ x ∷ []) == size + 1) refl refl e in
        (sized-due size (high ∷ low ∷ []) pages is.0 is.1, ap (λ (ns : List ℕ). ErasePages (two_byte_numbers ns)) (same-front size pages is.0))

    -- a count that isn't promised is never done
    promised : (t u : Bool) (v : Option Verdict) → (if t then (if u then Some Loose else None) else v) ≡ Some Done → v ≡ Some Done
    promised true true v e = absurd (cc)
    promised true false v e = absurd (cc)
    promised false u v e = e

    no-low : (t u : Bool) (n : ℕ) (other w : Bool) → (0 == n + 1) ≡ w → (if t then None else (if u then None else (if w then Some (done_if other) else None))) ≡ Some Done → ⊥
    no-low true u n other w is e = cc
    no-low false true n other w is e = cc
    no-low false false n other true is e = omega (arith, eqb-true 0 (n + 1) is)
    no-low false false n other false is e = cc

    extended-due : (rest : List ℕ) → Due (extended_verdict chip (rest ++ x ∷ [])) (extended_check rest) (extended_change (rest ++ x ∷ [])) (extended_change rest)
    extended-due [] e = absurd (cc)
    extended-due (high ∷ []) e =
        let size = 2 * (pair_of high x + 1) in
        absurd (no-low (pair_of high x == 0xFFFF) (nat_le 0xFFF0 (pair_of high x)) size
        (get_or [] size 0 == xor ((high ∷ x ∷ []) ++ take size []) && all_exist chip (two_byte_numbers (take size []))) (0 == size + 1) refl e)
    extended-due (high ∷ low ∷ pages) e =
        let size = 2 * (pair_of high low + 1) in
        let some = pages_verdict chip (high ∷ low ∷ []) size (pages ++ x ∷ []) in
        pick (pair_of high low == 0xFFFF) (all_verdict (pages ++ x ∷ []))
        (if nat_le 0xFFF0 (pair_of high low) then (if length (pages ++ x ∷ []) == 1 then Some Loose else None) else some)
        (all_check pages) (if length pages == size then Some (xor (high ∷ low ∷ pages)) else None)
        EraseAll (ErasePages (two_byte_numbers (take size (pages ++ x ∷ [])))) EraseAll (ErasePages (two_byte_numbers (take size pages)))
        (λ d. (all-due pages d, refl))
        (λ d. some-pairs high low pages (promised (nat_le 0xFFF0 (pair_of high low)) (length (pages ++ x ∷ []) == 1) some d)) e

    -- which change a command asks for, and which check is due behind it
    nothing : (b c d : Bool) (write erase extended : Change) → b ≡ false → c ≡ false → d ≡ false
        → (if b then write else (if c then erase else (if d then extended else Nothing))) ≡ Nothing
    nothing false false false write erase extended p q r = refl
    nothing true c d write erase extended p q r = absurd (cc)
    nothing false true d write erase extended p q r = absurd (cc)
    nothing false false true write erase extended p q r = absurd (cc)

    -- the change is none, or the last byte was the check that was due, and the change is the same
    abbrev Lacked : List ℕ → Type 0
    Lacked rest = (change_of (rest ++ x ∷ []) ≡ Nothing) ⊎ ((check_due rest ≡ Some x) × (change_of (rest ++ x ∷ []) ≡ change_of rest))

    abbrev Command : ℕ → List ℕ → ℕ → Type 0
    Command k rest code = command_verdict chip code (rest ++ x ∷ []) ≡ Some Done → Lacked (code ∷ k ∷ rest)

    by-code : (k code : ℕ) (rest : List ℕ) (b c d : Bool) → (code == 0x31) ≡ b → (code == 0x43) ≡ c → (code == 0x44) ≡ d → Command k rest code
    by-code k code rest true c d p q r = subst (Command k rest) (sym (eqb-true code 0x31 p)) (λ e. inr (write-due rest e))
    by-code k code rest false true d p q r = subst (Command k rest) (sym (eqb-true code 0x43 q)) (λ e. inr (erase-due rest e))
    by-code k code rest false false true p q r = subst (Command k rest) (sym (eqb-true code 0x44 r)) (λ e. inr (extended-due rest e))
    by-code k code rest false false false p q r =
        λ e. inl (nothing (code == 0x31) (code == 0x43) (code == 0x44) (write_change (rest ++ x ∷ [])) (erase_change (rest ++ x ∷ [])) (extended_change (rest ++ x ∷ [])) p q r)

    none-named : (b c d : Bool) → (if b then Nothing else (if c then Nothing else (if d then Nothing else Nothing))) ≡ Nothing
    none-named true c d = refl
    none-named false true d = refl
    none-named false false true = refl
    none-named false false false = refl

    -- a list that is done with its last byte
    pub lacked : (codes rest : List ℕ) → verdict chip codes (rest ++ x ∷ []) ≡ Some Done → Lacked rest
    lacked codes [] e = absurd (cc)
    lacked codes (code ∷ []) e = inl (none-named (code == 0x31) (code == 0x43) (code == 0x44))
    lacked codes (code ∷ k ∷ rest) e =
        by-code k code rest (code == 0x31) (code == 0x43) (code == 0x44) refl refl refl
        (chosen (k == complement code && is_listed codes code) (command_verdict chip code (rest ++ x ∷ [])) Refused rest e)

none-changed : (chip : ChipData) (pages : List ℕ) → changes_any chip Nothing pages ≡ false
none-changed chip [] = refl
none-changed chip (n ∷ pages) = none-changed chip pages

-- no byte is its own complement
not-own : (byte : ℕ) → byte ≡ complement byte → ⊥
not-own byte e = omega (arith, e)

both : (a b : Bool) → a ≡ true → b ≡ true → a && b ≡ false → ⊥
both true true p q r = cc
both true false p q r = cc
both false b p q r = cc

first-of : (a b : Bool) → a && b ≡ true → a ≡ true
first-of true b e = refl
first-of false b e = absurd (cc)

module _ (pages : List ℕ) (chip : ChipData) (codes rest : List ℕ) (byte : ℕ) where
  abbrev Fed : Bool → ℕ
  Fed t = if t then complement byte else byte

  refused : (t : Bool) → completes_change pages chip rest byte ≡ t
      → (change_of (rest ++ Fed t ∷ []) ≡ Nothing) ⊎ ((check_due rest ≡ Some (Fed t)) × (change_of (rest ++ Fed t ∷ []) ≡ change_of rest))
      → IsTrue (changes_any chip (change_of (rest ++ Fed t ∷ [])) pages) → ⊥
  refused t is (inl none) changed =
      let no : changes_any chip (change_of (rest ++ Fed t ∷ [])) pages ≡ false = ap (λ c. changes_any chip c pages) none ∙ none-changed chip pages in
      cc
  refused true is (inr (due, same)) changed =
      let right : (byte == complement byte) ≡ true = ap (λ d. is_check d byte) (sym due) ∙ first-of (is_check (check_due rest) byte) (changes_any chip (change_of rest) pages) is in
      not-own byte (eqb-true byte (complement byte) right)
  refused false is (inr (due, same)) changed =
      both (is_check (check_due rest) byte) (changes_any chip (change_of rest) pages)
      (ap (λ d. is_check d byte) due ∙ eq-eqb byte byte refl) (ap (λ c. changes_any chip c pages) (sym same) ∙ changed) is

-- no list that ends with what is fed is done and changes a protected page
pub fed_spares : (pages : List ℕ) (chip : ChipData) (codes rest : List ℕ) (byte : ℕ) → verdict chip codes (rest ++ fed_behind pages chip rest byte ∷ []) ≡ Some Done
    → IsTrue (changes_any chip (change_of (rest ++ fed_behind pages chip rest byte ∷ [])) pages) → ⊥
fed_spares pages chip codes rest byte e =
    refused pages chip codes rest byte (completes_change pages chip rest byte) refl (lacked (fed_behind pages chip rest byte) chip codes rest e)

-- the same of a device in any phase, whichever byte its readout protection makes of it
pub spares : (p : Protected) (chip : ChipData) (phase : Phase) (byte x : ℕ) → x ≡ fed_in p chip phase byte → Spares p.pages chip phase x
spares p chip Fresh byte x is = tt
spares p chip Gone byte x is = tt
spares p chip (Connected rest) byte x is =
    let P : ℕ → Type 0 = λ y. Spares p.pages chip (Connected rest) y in
    subst P (sym is) (λ codes done changed. fed_spares p.pages chip codes rest (fed_unreadable p.is_unreadable rest byte) done changed)

-- what is fed in the place of a code's complement is none
differs : (code byte : ℕ) (t u : Bool) → (byte == complement code) ≡ t → ((if t then complement byte else byte) == complement code) ≡ u → u ≡ false
differs code byte false u is fed = sym fed ∙ is
differs code byte true false is fed = refl
differs code byte true true is fed = absurd (not-own byte (eqb-true byte (complement code) is ∙ sym (eqb-true (complement byte) (complement code) fed)))

-- while the flash is readout-protected, no code passes that this forbids
pub bars : (p : Protected) (chip : ChipData) (phase : Phase) (byte x : ℕ) → x ≡ fed_in p chip phase byte → Bars p.is_unreadable chip phase x
bars p chip Fresh byte x is = tt
bars p chip Gone byte x is = tt
bars p chip (Connected []) byte x is = tt
bars p chip (Connected (code ∷ k ∷ rest)) byte x is = tt
bars p chip (Connected (code ∷ [])) byte x is = λ codes on forbidden.
    let fed : x ≡ (if byte == complement code then complement byte else byte) =
    is ∙ (ap (λ t. fed_unreadable t (code ∷ []) byte) on ∙ ap (λ t. if t && byte == complement code then complement byte else byte) forbidden) in
    let none : (x == complement code) ≡ false =
    ap (λ y. y == complement code) fed
    ∙ differs code byte (byte == complement code) ((if byte == complement code then complement byte else byte) == complement code) refl refl in
    ap (λ t. if t && is_listed codes code then command_verdict chip code [] else Some Refused) none

-- what a device is fed by its phase
pub fed_connected : (p : Protected) (d : Device) (rest : List ℕ) (byte : ℕ) → d.phase ≡ Connected rest
    → fed_behind p.pages d.chip rest (fed_unreadable p.is_unreadable rest byte) ≡ fed_while_protected p d byte
fed_connected p d rest byte here = ap (λ phase. fed_in p d.chip phase byte) (sym here)

apart : (p : Protected) (chip : ChipData) (phase : Phase) (byte : ℕ) → ((rest : List ℕ) → phase ≡ Connected rest → ⊥) → byte ≡ fed_in p chip phase byte
apart p chip Fresh byte away = refl
apart p chip Gone byte away = refl
apart p chip (Connected rest) byte away = absurd (away rest refl)

pub fed_apart : (p : Protected) (d : Device) (byte : ℕ) → ((rest : List ℕ) → d.phase ≡ Connected rest → ⊥) → byte ≡ fed_while_protected p d byte
fed_apart p d byte away = apart p d.chip d.phase byte away
