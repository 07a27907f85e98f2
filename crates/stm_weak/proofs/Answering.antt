-- What two flashes answer that are alike where they are read, and that the bytes to write are bytes.
use Rattle.std.proofs.Common.{min, ◌*◌, ◌≡◌, ℕ, ◌+◌, ◌-◌, ◌<◌, ◌≤◌, Bool, true, false, ◌==◌}
use Rattle.std.proofs.Common.{if◌then◌else◌, List, [], ◌∷◌, length, get_or, take, drop, refl, sym}
use Rattle.std.proofs.Common.{◌∙◌, arith, All}
use Rattle.std.proofs.lemmas.Bool.{eqb-true}
use Rattle.std.proofs.lemmas.List.{get_or-take, get_or-drop, length-take, length-drop, same_lists}
use Rattle.std.proofs.lemmas.List.{get_or_default}
use Rattle.std.proofs.lemmas.List.Elements.{All-drop, All-tail, All-take}
use Rattle.stm_wire.proofs.Names.{answer, asks_unique, change_of, ChipData, commands_answer, erase_change, EraseAll, ErasePages, extended_change, fits_inside, flash_size, id_answer, kib_bytes}
use Rattle.stm_wire.proofs.Names.{Nothing, number_of, pair_of, read_answer, readable_bytes, two_byte_numbers, write_change}
use Rattle.stm_wire.specs.lemmas.PageLaws.{fits-end}
use Rattle.stm_weak.specs.WeakDevice.{IsInRead, ReadsPlace}
use Rattle.stm_weak.proofs.Effects.{AreBytes, IsByte}

-- What is told is the same, where each place that a read has is alike.

-- these places are alike
abbrev Alike : ℕ → ℕ → List ℕ → List ℕ → Type 0
Alike at n a b = (place : ℕ) → at ≤ place → place < at + n → get_or b place 0 ≡ get_or a place 0

part_alike : (at n : ℕ) (a b : List ℕ) → length b ≡ length a → Alike at n a b
    → take n (drop at b) ≡ take n (drop at a)
part_alike at n a b size alike =
    let same : length (take n (drop at b)) ≡ length (take n (drop at a)) = simp
    (length-take, length-drop, size) refl in
    same_lists (take n (drop at b)) (take n (drop at a)) same (λ k d lt.
    let few : min n (length b - at) ≡ length (take n (drop at b)) = simp
    (length-take, length-drop) refl in
    let below : k < n = omega (arith, lt, few) in
    let here : k < length (take n (drop at a)) = omega (arith, lt, same) in
    let of : (xs : List ℕ) → get_or (take n (drop at xs)) k 0 ≡ get_or xs
    (at + k) 0 = λ xs. get_or-take n (drop at xs) k 0 below ∙ get_or-drop at xs k 0 in
    get_or_default (take n (drop at b)) k d 0 lt ∙ of b
    ∙ alike (at + k) (omega arith) (omega (arith, below)) ∙ sym (of a)
    ∙ get_or_default (take n (drop at a)) k 0 d here)

told_alike : (chip : ChipData) (address n : ℕ) (a b : List ℕ) → length b ≡ length a
    → ((place : ℕ) → address ≤ chip.base + place → chip.base + place < address + n
    → get_or b place 0 ≡ get_or a place 0)
    → readable_bytes chip b address n ≡ readable_bytes chip a address n
told_alike chip address n a b size alike = by (fits_inside chip address n) refl
  where
    by : (t : Bool) → fits_inside chip address n ≡ t
        → (if t then take n (drop (address - chip.base) b) else
        (if asks_unique chip address n then chip.unique else kib_bytes (flash_size chip)))
        ≡ (if t then take n (drop (address - chip.base) a) else
        (if asks_unique chip address n then chip.unique else kib_bytes (flash_size chip)))
    by true is =
        let e = fits-end chip address n is in
        part_alike (address - chip.base) n a b size
        (λ place from to. alike place (omega (arith, from, e.0)) (omega (arith, to, e.0)))
    by false is = refl

read_alike : (chip : ChipData) (bytes a b : List ℕ) → length b ≡ length a
    → ((place : ℕ) → IsInRead chip bytes place → get_or b place 0 ≡ get_or a place 0)
    → read_answer chip b bytes ≡ read_answer chip a bytes
read_alike chip (x ∷ y ∷ z ∷ w ∷ check ∷ n ∷ rest) a b size alike = told_alike chip
    (number_of x y z w) (n + 1) a b size (λ place from to. alike place (from, to))
read_alike chip bytes a b size alike = refl

pub answer_alike : (chip : ChipData) (version : ℕ) (codes bytes a b : List ℕ) → length b ≡ length a
    → ((place : ℕ) → ReadsPlace chip bytes place → get_or b place 0 ≡ get_or a place 0)
    → answer chip version codes b bytes ≡ answer chip version codes a bytes
answer_alike chip version codes (code ∷ check ∷ rest) a b size alike = by (code == 0x00)
    (code == 0x02) (code == 0x11) refl
  where
    by : (x y z : Bool) → (code == 0x11) ≡ z
        → (if x then commands_answer version codes else
        (if y then id_answer chip else (if z then read_answer chip b rest else [])))
        ≡ (if x then commands_answer version codes else
        (if y then id_answer chip else (if z then read_answer chip a rest else [])))
    by true y z is = refl
    by false true z is = refl
    by false false true is = read_alike chip rest a b size
        (λ place here. alike place (eqb-true code 0x11 is, here))
    by false false false is = refl
answer_alike chip version codes bytes a b size alike = refl

-- The bytes that a list asks to write are bytes.

small_write : (rest : List ℕ) → All IsByte rest → AreBytes (write_change rest)
small_write (a ∷ b ∷ c ∷ d ∷ check ∷ n ∷ rest) all =
    All-take IsByte (n + 1) rest (All-drop IsByte 6 (a ∷ b ∷ c ∷ d ∷ check ∷ n ∷ rest) all)
small_write rest all = tt

small_erase : (rest : List ℕ) → AreBytes (erase_change rest)
small_erase [] = tt
small_erase (n ∷ rest) = by (n == 0xFF)
  where
    by : (t : Bool) → AreBytes (if t then EraseAll else ErasePages (take (n + 1) rest))
    by true = tt
    by false = tt

small_extended : (rest : List ℕ) → AreBytes (extended_change rest)
small_extended (high ∷ low ∷ rest) = by (pair_of high low == 0xFFFF)
  where
    by : (t : Bool) → AreBytes (if t then EraseAll else ErasePages
        (two_byte_numbers (take (2 * (pair_of high low + 1)) rest)))
    by true = tt
    by false = tt
small_extended rest = tt

pub small_change : (bytes : List ℕ) → All IsByte bytes → AreBytes (change_of bytes)
small_change (code ∷ check ∷ rest) all = by (code == 0x31) (code == 0x43) (code == 0x44)
  where
    by : (x y z : Bool) → AreBytes (if x then write_change rest else
        (if y then erase_change rest else (if z then extended_change rest else Nothing)))
    by true y z = small_write rest (All-tail IsByte check rest
        (All-tail IsByte code (check ∷ rest) all))
    by false true z = small_erase rest
    by false false true = small_extended rest
    by false false false = tt
small_change bytes all = tt
