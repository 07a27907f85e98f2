-- What a device tells: how much that is, and where its flash is meant.
use Rattle.std.proofs.Common.{◌≡◌, ℕ, ◌+◌, ◌-◌, ◌≤◌, Bool, true, false, ◌||◌, ◌==◌, List, length, take, drop, IsTrue, refl, sym, ◌∙◌, subst, arith, if◌then◌else◌, length-take, length-drop}
use Rattle.std.proofs.lemmas.Bool.{and_parts, cond_both, eqb-true}
use Rattle.std.proofs.lemmas.Bool.Decides.{nat_tests}
use Rattle.stm_wire.proofs.Names.{asks_size, asks_unique, can_read, ChipData, fits_inside, flash_size, has_size, has_unique, is_inside, is_readable, kib_bytes, readable_bytes}
use Rattle.stm_wire.specs.lemmas.PageLaws.{fits-end}

-- at most as many bytes as were asked for, and two
pub readable-few : (chip : ChipData) (flash : List ℕ) (address n : ℕ) → length (readable_bytes chip flash address n) ≤ n + 2
readable-few chip flash address n =
    cond_both (fits_inside chip address n) (take n (drop (address - chip.base) flash)) _ (λ (xs : List ℕ). length xs ≤ n + 2)
    (λ _. let l = length-take n (drop (address - chip.base) flash) in omega arith)
    (λ _. cond_both (asks_unique chip address n) chip.unique _ (λ (xs : List ℕ). length xs ≤ n + 2)
    (λ told. let same = eqb-true (length chip.unique) n (and_parts (has_unique chip.places.unique address n) (length chip.unique == n) told).1 in omega arith)
    (λ _. omega arith))

by_parts : (a b c : Bool) → (IsTrue a → IsTrue c) → (IsTrue b → IsTrue c) → IsTrue (a || b) → IsTrue c
by_parts true b c f g told = f told
by_parts false b c f g told = g told

or_right : (a b : Bool) → IsTrue b → IsTrue (a || b)
or_right true b told = refl
or_right false b told = told

or_left : (a b : Bool) → IsTrue a → IsTrue (a || b)
or_left true b told = refl
or_left false b told = absurd (let h : false ≡ true = told in cc)

pub fits-inside : (chip : ChipData) (address size : ℕ) → 1 ≤ size → IsTrue (fits_inside chip address size) → IsTrue (is_inside chip address)
fits-inside chip address size some fits = grind (arith, nat_tests)

-- the flash is read as ever
pub flash-readable : (chip : ChipData) (address n : ℕ) → IsTrue (fits_inside chip address n) → IsTrue (can_read chip address n)
unfolding can_read
flash-readable chip address n fits = or_left (fits_inside chip address n) (asks_unique chip address n || asks_size chip address n) fits

pub flash-told : (chip : ChipData) (flash : List ℕ) (address n : ℕ) → IsTrue (fits_inside chip address n) → readable_bytes chip flash address n ≡ take n (drop (address - chip.base) flash)
flash-told chip flash address n fits = rw fits refl

pub inside-readable : (chip : ChipData) (address : ℕ) → IsTrue (is_inside chip address) → IsTrue (is_readable chip address)
unfolding is_readable
inside-readable chip address inside = or_left (is_inside chip address) (asks_unique chip address (length chip.unique) || has_size chip.places.size address) inside

-- what may be read begins where a read may begin
module _ (chip : ChipData) (address n : ℕ) (some : 1 ≤ n) where
  of_flash : IsTrue (fits_inside chip address n) → IsTrue (is_readable chip address)
  of_flash fits = inside-readable chip address (fits-inside chip address n some fits)

  of_unique : IsTrue (asks_unique chip address n) → IsTrue (is_readable chip address)
  unfolding is_readable
  of_unique told =
      let same : length chip.unique ≡ n = eqb-true (length chip.unique) n (and_parts (has_unique chip.places.unique address n) (length chip.unique == n) told).1 in
      let asked : IsTrue (asks_unique chip address (length chip.unique)) = subst (λ (m : ℕ). IsTrue (asks_unique chip address m)) (sym same) told in
      or_right (is_inside chip address) _ (or_left (asks_unique chip address (length chip.unique)) (has_size chip.places.size address) asked)

  of_size : IsTrue (asks_size chip address n) → IsTrue (is_readable chip address)
  unfolding is_readable
  of_size told = or_right (is_inside chip address) _ (or_right (asks_unique chip address (length chip.unique)) _ (and_parts (has_size chip.places.size address) (n == 2) told).0)

  pub readable-address : IsTrue (can_read chip address n) → IsTrue (is_readable chip address)
  unfolding can_read
  readable-address told = by_parts (fits_inside chip address n) (asks_unique chip address n || asks_size chip address n) (is_readable chip address) of_flash
      (by_parts (asks_unique chip address n) (asks_size chip address n) (is_readable chip address) of_unique of_size) told

-- nothing may be read from where no read may begin
pub unreadable : (chip : ChipData) (address n : ℕ) → 1 ≤ n → is_readable chip address ≡ false → can_read chip address n ≡ false
unreadable chip address n some none = at (can_read chip address n) refl
  where
    at : (t : Bool) → can_read chip address n ≡ t → t ≡ false
    at false e = refl
    at true e = absurd (let h = sym (readable-address chip address n some e) ∙ none in cc)

-- as many bytes are told as were asked for
pub length-readable : (chip : ChipData) (flash : List ℕ) (address n : ℕ) → length flash ≡ flash_size chip → IsTrue (can_read chip address n) → length (readable_bytes chip flash address n) ≡ n
unfolding can_read
length-readable chip flash address n size told = at (fits_inside chip address n) refl
  where
    beside : (u : Bool) → asks_unique chip address n ≡ u → IsTrue (u || asks_size chip address n) → length (if u then chip.unique else kib_bytes (flash_size chip)) ≡ n
    beside true e may = eqb-true (length chip.unique) n (and_parts (has_unique chip.places.unique address n) (length chip.unique == n) e).1
    beside false e may = sym (eqb-true n 2 (and_parts (has_size chip.places.size address) (n == 2) may).1)

    at : (t : Bool) → fits_inside chip address n ≡ t → length (readable_bytes chip flash address n) ≡ n
    at true e =
        let parts = fits-end chip address n e in
        rw e (let l = length-take n (drop (address - chip.base) flash) in let m = length-drop (address - chip.base) flash in omega (arith, size, parts.0, parts.1))
    at false e = rw e (beside (asks_unique chip address n) refl (rw e at told))
