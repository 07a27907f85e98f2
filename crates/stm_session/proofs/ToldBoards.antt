-- What came of the places of a device that follows the model is what it tells there.
use Rattle.std.proofs.Common.{◌≡◌, ℕ, ◌≤◌, Bool, true, false, ◌&&◌, ◌||◌, ◌==◌, List, [], length, Option, Some, None, IsTrue, refl, sym, ◌∙◌, ap, ap₂, subst, arith, if◌then◌else◌, eqb, eq-eqb}
use Rattle.std.proofs.lemmas.Bool.{and_parts}
use Rattle.std.proofs.lemmas.Bool.Decides.{nat_tests}
use Rattle.stm_wire.specs.declared.places.UniquePlace.{UniquePlace}
use Rattle.stm_wire.proofs.Names.{asks_size, asks_unique, can_read, ChipData, Device, fits_inside, flash_size, has_size, has_unique, is_outside, is_size_place, is_unique_length, is_unique_place}
use Rattle.stm_wire.proofs.Names.{IsDevice, IsTold, kib_bytes, told_bytes}
use Rattle.stm_session.proofs.Names.{came_in, chip_of_board, size_at, size_of, size_told, ToldBoardIsTheDevices, unique_at, unique_of, unique_told}

-- what lies outside the flash isn't read of it
outside : (chip : ChipData) (address n : ℕ) → 1 ≤ n → IsTrue (is_outside chip address n) → fits_inside chip address n ≡ false
outside chip address n some out = grind (arith, nat_tests)

short : (n : ℕ) → IsTrue (is_unique_length n) → (n == 2) ≡ false
short n long = grind (arith, nat_tests)

long_some : (n : ℕ) → IsTrue (is_unique_length n) → 1 ≤ n
long_some n long = grind (arith, nat_tests)

no_or : (a b : Bool) → a ≡ false → (a || b) ≡ b
no_or a b none = rw none refl

or_no : (a b : Bool) → b ≡ false → (a || b) ≡ a
or_no true b none = refl
or_no false b none = none

and_no : (a b : Bool) → b ≡ false → (a && b) ≡ false
and_no true b none = none
and_no false b none = refl

and_yes : (a b : Bool) → a ≡ true → (a && b) ≡ b
and_yes a b is = rw is refl

clash : (a : Bool) → a ≡ true → a ≡ false → ⊥
clash a is not = let h = sym is ∙ not in cc

-- the flash may be read
pub flash_readable : (chip : ChipData) (address n : ℕ) → IsTrue (fits_inside chip address n) → IsTrue (can_read chip address n)
unfolding can_read
flash_readable chip address n fits = rw fits refl

-- a read of the unique id
module _ (d : Device) (is : IsDevice d) (here : UniquePlace) (known : d.chip.places.unique ≡ Some here) where
  place : IsTrue (is_unique_length here.length && is_outside d.chip here.address here.length)
  place = subst (λ (p : Option UniquePlace). IsTrue (is_unique_place d.chip p)) known (and_parts (is_unique_place d.chip d.chip.places.unique) (is_size_place d.chip d.chip.places.size) is.chip.places).0

  long : IsTrue (is_unique_length here.length)
  long = (and_parts (is_unique_length here.length) (is_outside d.chip here.address here.length) place).0

  beside : fits_inside d.chip here.address here.length ≡ false
  beside = outside d.chip here.address here.length (long_some here.length long) (and_parts (is_unique_length here.length) (is_outside d.chip here.address here.length) place).1

  at_place : has_unique d.chip.places.unique here.address here.length ≡ true
  at_place = ap (λ (p : Option UniquePlace). has_unique p here.address here.length) known ∙ both (eq-eqb here.address here.address refl) (eq-eqb here.length here.length refl)
    where
      both : eqb here.address here.address ≡ true → eqb here.length here.length ≡ true → (here.address == here.address && here.length == here.length) ≡ true
      both a b = rw (a, b) refl

  asked : asks_unique d.chip here.address here.length ≡ (length d.chip.unique == here.length)
  asked = and_yes (has_unique d.chip.places.unique here.address here.length) (length d.chip.unique == here.length) at_place

  may : can_read d.chip here.address here.length ≡ (length d.chip.unique == here.length)
  unfolding can_read
  may =
      no_or (fits_inside d.chip here.address here.length) (asks_unique d.chip here.address here.length || asks_size d.chip here.address here.length) beside
      ∙ or_no (asks_unique d.chip here.address here.length) (asks_size d.chip here.address here.length) (and_no (has_size d.chip.places.size here.address) (here.length == 2) (short here.length long)) ∙ asked

  bytes_are : (length d.chip.unique == here.length) ≡ true → told_bytes here.address here.length d ≡ d.chip.unique
  bytes_are one = rw (beside, asked ∙ one) refl

  told_is : unique_of d.chip ≡ (if length d.chip.unique == here.length then unique_told (Some d.chip.unique) else [])
  told_is = ap (λ (p : Option UniquePlace). unique_at p d.chip.unique) known

  pub unique_read : (count : ℕ) (bytes : List ℕ) (told : Bool) → count ≡ here.length → IsTold here.address count bytes d told → unique_told (came_in told bytes) ≡ unique_of d.chip
  unique_read count bytes told same t = at told (subst (λ (n : ℕ). IsTold here.address n bytes d told) same t)
    where
      at : (told : Bool) → IsTold here.address here.length bytes d told → unique_told (came_in told bytes) ≡ unique_of d.chip
      at true (can, are) =
          let one = sym may ∙ can in
          ap (λ (xs : List ℕ). unique_told (Some xs)) (are ∙ bytes_are one) ∙ sym (told_is ∙ rw one refl)
      at false can =
          let none = sym may ∙ can in
          sym (told_is ∙ rw none refl)

  -- where it has as many bytes, just these come
  pub unique_same : (count : ℕ) (bytes : List ℕ) (told : Bool) → count ≡ here.length → IsTold here.address count bytes d told → (length d.chip.unique == here.length) ≡ true → (told ≡ true) × (bytes ≡ d.chip.unique)
  unique_same count bytes told same t one = at told (subst (λ (n : ℕ). IsTold here.address n bytes d told) same t)
    where
      at : (told : Bool) → IsTold here.address here.length bytes d told → (told ≡ true) × (bytes ≡ d.chip.unique)
      at true (can, are) = (refl, are ∙ bytes_are one)
      at false can = absurd (clash (can_read d.chip here.address here.length) (may ∙ one) can)

-- a read of the size
module _ (d : Device) (is : IsDevice d) (address : ℕ) (known : d.chip.places.size ≡ Some address) where
  size_outside : IsTrue (is_outside d.chip address 2)
  size_outside = subst (λ (p : Option ℕ). IsTrue (is_size_place d.chip p)) known (and_parts (is_unique_place d.chip d.chip.places.unique) (is_size_place d.chip d.chip.places.size) is.chip.places).1

  size_beside : fits_inside d.chip address 2 ≡ false
  size_beside = outside d.chip address 2 (omega arith) size_outside

  unasked : (p : Option UniquePlace) → IsTrue (is_unique_place d.chip p) → has_unique p address 2 ≡ false
  unasked None none = refl
  unasked (Some here) some =
      and_no (here.address == address) (here.length == 2) (short here.length (and_parts (is_unique_length here.length) (is_outside d.chip here.address here.length) some).0)

  no_unique : asks_unique d.chip address 2 ≡ false
  no_unique = no_and (has_unique d.chip.places.unique address 2) (length d.chip.unique == 2) (unasked d.chip.places.unique (and_parts (is_unique_place d.chip d.chip.places.unique) (is_size_place d.chip d.chip.places.size) is.chip.places).0)
    where
      no_and : (a b : Bool) → a ≡ false → (a && b) ≡ false
      no_and a b none = rw none refl

  size_there : has_size d.chip.places.size address ≡ true
  size_there = ap (λ (p : Option ℕ). has_size p address) known ∙ eq-eqb address address refl

  size_may : can_read d.chip address 2 ≡ true
  unfolding can_read
  size_may =
      no_or (fits_inside d.chip address 2) (asks_unique d.chip address 2 || asks_size d.chip address 2) size_beside
      ∙ no_or (asks_unique d.chip address 2) (asks_size d.chip address 2) no_unique ∙ and_yes (has_size d.chip.places.size address) (eqb 2 2) size_there

  size_bytes : told_bytes address 2 d ≡ kib_bytes (flash_size d.chip)
  size_bytes = rw (size_beside, no_unique) refl

  pub size_read : (bytes : List ℕ) (told : Bool) → IsTold address 2 bytes d told → size_told (came_in told bytes) ≡ size_of d.chip
  size_read bytes true (can, are) = ap (λ (xs : List ℕ). size_told (Some xs)) (are ∙ size_bytes) ∙ sym (ap (λ (p : Option ℕ). size_at p (flash_size d.chip)) known)
  size_read bytes false can = absurd (clash (can_read d.chip address 2) size_may can)

-- the table's chip becomes the device's
pub told_board_is_the_devices : ToldBoardIsTheDevices
told_board_is_the_devices table listed chip board places part told =
    let P : List ℕ → Option ℕ → ChipData = λ unique size. chip_of_board listed (record { id = board.id; unique = unique; size = size }) in
    ap₂ P (told.unique places) (told.size places) ∙ sym part
