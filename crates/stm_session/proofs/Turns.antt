-- The pages of a command, one after another.
use Rattle.std.proofs.Common.{◌≡◌, ◌≢◌, ◌⊎◌, inl, inr, ℕ, zero, suc, ◌+◌, ◌<◌, ◌≤◌, ◌==◌, ◌&&◌, Bool, true, false, not, if◌then◌else◌, List, [], ◌∷◌, ◌++◌, length, take, drop, Ok, append-nil, append_assoc, refl, sym, ap, ap₂, ◌∙◌, arith, IsTrue}
use Rattle.std.specs.Prelude.{bytes_eq}
use Rattle.std.specs.Int.{from_bool}
use Rattle.std.proofs.lemmas.Bool.{false≢true, cases_eq, eq-eqb, ne_eqb}
use Rattle.std.proofs.lemmas.Bool.Decides.{nat_tests}
use Rattle.stm_image.specs.Pairs.{Pairs}
use Rattle.stm_image.specs.Lay.{lay}
use Rattle.stm_wire.proofs.Names.{ChipData, flash_size, page_count, page_of, page_offset, page_size, RigState, with_page}
use Rattle.stm_wire.specs.lemmas.FlashLaws.{IsTurned, turned_next, length-erased_pages, page_of_erased}
use Rattle.stm_journal.specs.declared.entry.Entry.{Entry}
use Rattle.stm_journal.specs.declared.entry.Entry.TheVariants.{Keeps}
use Rattle.stm_journal.proofs.Names.{Loaded, newest_is_open, newest_keeps, newest_may_keep, StateData}
use Rattle.stm_session.proofs.Names.{AreTurned, both_entries, Change, change_entries, command_of, content, differing_below, differs_in, flash_after, Follows, Goes, has_companion, HasTurned, IsGiven}
use Rattle.stm_session.proofs.Names.{IsSteady, keep_entries, Keeping, page_entries, page_entries_below, rewrite_entries, save_entries}
use Rattle.stm_session.specs.declared.change.Change.TheVariants as change

-- a page was read, its new bytes made, and given to it
pub given_on : (chip : ChipData) (n : ℕ) (old mid new held page made : List ℕ) (changed : Bool) → mid ≡ old → held ≡ page_of chip old n → page ≡ made
    → new ≡ with_page chip n page mid → changed ≡ not (bytes_eq held page) → IsGiven chip n made old new changed
given_on chip n old mid new held page made changed still read is put counts =
    record {
      flash = put ∙ ap₂ (λ (p f : List ℕ). with_page chip n p f) is still;
      counts = counts ∙ ap₂ (λ (h p : List ℕ). not (bytes_eq h p)) read is;
    }

-- A set laid over bytes by parts is the set laid over them whole.
pub record LayLaws : Type 0 where
  pub length : (set : Pairs) (address : ℕ) (bytes : List ℕ) → length (lay set address bytes) ≡ length bytes
  pub front : (set : Pairs) (address count : ℕ) (bytes : List ℕ) → take count (lay set address bytes) ≡ lay set address (take count bytes)
  pub back : (set : Pairs) (address count : ℕ) (bytes : List ℕ) → drop count (lay set address bytes) ≡ lay set (address + count) (drop count bytes)

-- a page of the flash after a command
pub page_after : LayLaws → (chip : ChipData) (c : Change) (flash : List ℕ) (n : ℕ) → length flash ≡ flash_size chip → n < page_count chip
    → page_of chip (flash_after chip flash (command_of c)) n ≡ content chip c n (page_of chip flash n)
page_after laws chip (change.Write image) flash n size here =
    ap (λ (xs : List ℕ). take (page_size chip n) xs) (laws.back image.now chip.base (page_offset chip n) flash)
    ∙ laws.front image.now (chip.base + page_offset chip n) (page_size chip n) (drop (page_offset chip n) flash)
page_after laws chip (change.Erase pages) flash n size here = page_of_erased chip pages.now flash n size here

pub size_after : LayLaws → (chip : ChipData) (c : Change) (flash : List ℕ) → length flash ≡ flash_size chip → length (flash_after chip flash (command_of c)) ≡ flash_size chip
size_after laws chip (change.Write image) flash size = laws.length image.now chip.base flash ∙ size
size_after laws chip (change.Erase pages) flash size = length-erased_pages chip pages.now flash size ∙ size

-- how far the pages are turned
pub record IsTurnedSoFar (chip : ChipData) (c : Change) (k count : ℕ) (first : Bool) (l l2 : Loaded) (old new : RigState) : Type 0 where
  pub is_open : IsTrue (newest_is_open l2.state)
  pub depth : length l2.state.stack ≡ length l.state.stack
  pub free : (m : ℕ) → k ≤ m → m ≢ 257 → IsTrue (newest_may_keep m l2.state)
  pub lacks : first ≡ false → k ≤ 257 → IsTrue (newest_may_keep 257 l2.state)
  pub has : first ≡ true → IsTrue (has_companion chip) → IsTrue (newest_keeps 257 l2.state)
  pub begun : k ≤ 1 → first ≡ false
  pub small : count ≤ k
  pub order : Follows (Keeping l2.state (AreTurned chip c k first)) l l2 old new
  pub line : new.line_failures ≡ old.line_failures
  pub journal : new.journal_failures ≡ old.journal_failures
  pub stays : old.is_honest → new.is_honest
  pub honest : (flashes : List (List ℕ)) → IsSteady flashes l old → old.device.chip ≡ chip
      → let other = flash_after chip old.device.flash (command_of c) in
      Goes {T = Unit {0}} flashes (page_entries_below k chip old.device.flash other) l2 old new (Ok tt)
      (λ x. IsTurned chip k old.device.flash other new.device.flash × (count ≡ differing_below k chip old.device.flash other)
      × (2 ≤ k → first ≡ differs_in chip old.device.flash other 1))

-- which pages were kept
and-true : (a b : Bool) → (a && b) ≡ true → (a ≡ true) × (b ≡ true)
and-true true b h = (refl, h)
and-true false b h = absurd (false≢true h)

same-number : (a b : ℕ) → (a == b) ≡ true → a ≡ b
same-number a b h = grind (arith, h)

counts_less : (chip : ChipData) → IsTrue (has_companion chip) → 257 < page_count chip
counts_less chip has = grind (arith, nat_tests, has)

-- the lines of the first pages are a beginning of those of all
pub below_split : (chip : ChipData) (old other : List ℕ) (n m : ℕ) → n ≤ m → (rest : List Entry) × (page_entries_below m chip old other ≡ page_entries_below n chip old other ++ rest)
below_split chip old other zero zero le = ([], refl)
below_split chip old other (suc n) zero le = absurd (omega (arith, le))
below_split chip old other n (suc m) le = by_case (cases_eq n (suc m)) (λ less. below_split chip old other n m less)
  where
    by_case : (n ≡ suc m) ⊎ (n ≡ suc m → ⊥) → (n ≤ m → (rest : List Entry) × (page_entries_below m chip old other ≡ page_entries_below n chip old other ++ rest))
        → (rest : List Entry) × (page_entries_below (suc m) chip old other ≡ page_entries_below n chip old other ++ rest)
    by_case (inl e) shorter_of = ([], ap (λ (k : ℕ). page_entries_below k chip old other) (sym e) ∙ sym (append-nil (page_entries_below n chip old other)))
    by_case (inr ne) shorter_of =
        let shorter = shorter_of (omega (arith, le, ne)) in (
          shorter.0 ++ page_entries chip old other m,
          ap (λ (es : List Entry). es ++ page_entries chip old other m) shorter.1 ∙ append_assoc (page_entries_below n chip old other) shorter.0 (page_entries chip old other m),
        )

-- the lines of one page, seen from the start
flipped : (b : Bool) (xs : List Entry) → (if b then [] else xs) ≡ (if not b then xs else [])
flipped true xs = refl
flipped false xs = refl

module _ (laws : LayLaws) (chip : ChipData) (c : Change) (n : ℕ) (old now : List ℕ) (first kept : Bool) (size : length old ≡ flash_size chip) (here : n < page_count chip)
    (so_far : IsTurned chip n old (flash_after chip old (command_of c)) now) (is : kept ≡ (n == 257 && first))
    (told : 2 ≤ n → first ≡ differs_in chip old (flash_after chip old (command_of c)) 1) where
  same_page : page_of chip now n ≡ page_of chip old n
  same_page = so_far.kept n (omega arith) here

  pub made_is : content chip c n (page_of chip now n) ≡ page_of chip (flash_after chip old (command_of c)) n
  made_is = ap (λ (p : List ℕ). content chip c n p) same_page ∙ sym (page_after laws chip c old n size here)

  kept_is : kept ≡ (n == 257 && differs_in chip old (flash_after chip old (command_of c)) 1)
  kept_is = is ∙ by_case (cases_eq n 257)
    where
      by_case : (n ≡ 257) ⊎ (n ≡ 257 → ⊥) → (n == 257 && first) ≡ (n == 257 && differs_in chip old (flash_after chip old (command_of c)) 1)
      by_case (inl e) = ap (λ (b : Bool). n == 257 && b) (told (omega (arith, e)))
      by_case (inr ne) =
          ap (λ (b : Bool). b && first) (ne_eqb n 257 ne) ∙ sym (ap (λ (b : Bool). b && differs_in chip old (flash_after chip old (command_of c)) 1) (ne_eqb n 257 ne))

  save_is : save_entries kept chip now n ≡ keep_entries chip old (flash_after chip old (command_of c)) n
  save_is = by_case (n == 1 && has_companion chip) refl
    where
      both : List ℕ → List Entry
      both flash = Keeps 257 (page_of chip flash 257) ∷ Keeps 1 (page_of chip flash 1) ∷ []

      by_case : (b : Bool) → (n == 1 && has_companion chip) ≡ b → save_entries kept chip now n ≡ keep_entries chip old (flash_after chip old (command_of c)) n
      by_case true h =
          let two = and-true (n == 1) (has_companion chip) h in
          let one : n ≡ 1 = same-number n 1 two.0 in
          let fresh : kept ≡ false = is ∙ ap (λ (b : Bool). b && first) (ne_eqb n 257 (λ e. omega (arith, e, one))) in
          let more = counts_less chip two.1 in
          let far : page_of chip now 257 ≡ page_of chip old 257 = so_far.kept 257 (omega (arith, one)) more in
          let near : page_of chip now 1 ≡ page_of chip old 1 = so_far.kept 1 (omega (arith, one)) (omega (arith, more)) in
          ap (λ (b : Bool). if b then [] else both_entries chip now n) fresh
          ∙ ap (λ (b : Bool). if b then Keeps 257 (page_of chip now 257) ∷ Keeps 1 (page_of chip now 1) ∷ [] else Keeps n (page_of chip now n) ∷ []) h
          ∙ ap₂ (λ (p q : List ℕ). let e : Entry = Keeps 257 p in e ∷ Keeps 1 q ∷ []) far near
          ∙ sym (ap (λ (b : Bool). if b then Keeps 257 (page_of chip old 257) ∷ Keeps 1 (page_of chip old 1) ∷ []
          else (if n == 257 && differs_in chip old (flash_after chip old (command_of c)) 1 then [] else Keeps n (page_of chip old n) ∷ [])) h)
      by_case false h =
          ap (λ (b : Bool). if kept then [] else (if b then Keeps 257 (page_of chip now 257) ∷ Keeps 1 (page_of chip now 1) ∷ [] else Keeps n (page_of chip now n) ∷ [])) h
          ∙ ap (λ (b : Bool). if b then [] else Keeps n (page_of chip now n) ∷ []) kept_is
          ∙ ap (λ (p : List ℕ). if n == 257 && differs_in chip old (flash_after chip old (command_of c)) 1 then [] else (let e : Entry = Keeps n p in e ∷ [])) same_page
          ∙ sym (ap (λ (b : Bool). if b then Keeps 257 (page_of chip old 257) ∷ Keeps 1 (page_of chip old 1) ∷ []
          else (if n == 257 && differs_in chip old (flash_after chip old (command_of c)) 1 then [] else Keeps n (page_of chip old n) ∷ [])) h)

  pub page_lines : change_entries kept chip now n (content chip c n (page_of chip now n)) ≡ page_entries chip old (flash_after chip old (command_of c)) n
  page_lines =
      ap₂ (λ (h p : List ℕ). if bytes_eq h p then [] else save_entries kept chip now n ++ rewrite_entries chip n p) same_page made_is
      ∙ ap (λ (es : List Entry). if bytes_eq (page_of chip old n) (page_of chip (flash_after chip old (command_of c)) n) then [] else es ++ rewrite_entries chip n (page_of chip (flash_after chip old (command_of c)) n)) save_is
      ∙ flipped (bytes_eq (page_of chip old n) (page_of chip (flash_after chip old (command_of c)) n))
      (keep_entries chip old (flash_after chip old (command_of c)) n ++ rewrite_entries chip n (page_of chip (flash_after chip old (command_of c)) n))

  -- and what it leaves
  module _ (new : List ℕ) (changed : Bool) (given : IsGiven chip n (content chip c n (page_of chip now n)) now new changed) where
    pub turned_more : IsTurned chip (n + 1) old (flash_after chip old (command_of c)) new
    turned_more =
        turned_next chip n old (flash_after chip old (command_of c)) now new (size_after laws chip c old size) here so_far
        (given.flash ∙ ap (λ (p : List ℕ). with_page chip n p now) made_is)

    pub changed_is : changed ≡ differs_in chip old (flash_after chip old (command_of c)) n
    changed_is = given.counts ∙ ap₂ (λ (h p : List ℕ). not (bytes_eq h p)) same_page made_is

    pub told_more : 2 ≤ n + 1 → (if n == 1 then changed else first) ≡ differs_in chip old (flash_after chip old (command_of c)) 1
    told_more le = by_case (cases_eq n 1)
      where
        by_case : (n ≡ 1) ⊎ (n ≡ 1 → ⊥) → (if n == 1 then changed else first) ≡ differs_in chip old (flash_after chip old (command_of c)) 1
        by_case (inl e) =
            ap (λ (b : Bool). if b then changed else first) (eq-eqb n 1 e) ∙ changed_is ∙ ap (λ (m : ℕ). differs_in chip old (flash_after chip old (command_of c)) m) e
        by_case (inr ne) = ap (λ (b : Bool). if b then changed else first) (ne_eqb n 1 ne) ∙ told (omega (arith, le, ne))

    pub counted_more : (count one : ℕ) → count ≡ differing_below n chip old (flash_after chip old (command_of c)) → one ≡ from_bool changed
        → count + one ≡ differing_below (n + 1) chip old (flash_after chip old (command_of c))
    counted_more count one before one_is =
        let two : n + 1 ≡ suc n = omega arith in
        let unit : one ≡ (if bytes_eq (page_of chip old n) (page_of chip (flash_after chip old (command_of c)) n) then 0 else 1) =
        one_is ∙ ap from_bool changed_is ∙ as_count (bytes_eq (page_of chip old n) (page_of chip (flash_after chip old (command_of c)) n)) in
        ap₂ (λ (x y : ℕ). x + y) before unit ∙ ap (λ (k : ℕ). differing_below k chip old (flash_after chip old (command_of c))) (sym two)
      where
        as_count : (b : Bool) → from_bool (not b) ≡ (if b then 0 else 1)
        as_count true = refl
        as_count false = refl

pub from_one : (b : Bool) (n : ℕ) → n ≡ from_bool b → n ≤ 1
from_one true n is = omega (arith, is)
from_one false n is = omega (arith, is)

-- the lines so far, those of one page, and the rest
pub lines_around : (chip : ChipData) (old other : List ℕ) (n m : ℕ) → n < m
    → (rest : List Entry) × (page_entries_below m chip old other ≡ page_entries_below n chip old other ++ (page_entries chip old other n ++ rest))
lines_around chip old other n m lt =
    let split = below_split chip old other (suc n) m (omega (arith, lt)) in
    (split.0, split.1 ∙ append_assoc (page_entries_below n chip old other) (page_entries chip old other n) split.0)

-- what is kept, one page on
module _ (chip : ChipData) (n : ℕ) (first kept changed : Bool) (a b : StateData) (is : kept ≡ (n == 257 && first)) (turned : HasTurned kept changed chip n a b) where
  pub free_next : ((m : ℕ) → n ≤ m → m ≢ 257 → IsTrue (newest_may_keep m a)) → (m : ℕ) → n + 1 ≤ m → m ≢ 257 → IsTrue (newest_may_keep m b)
  free_next free m le ne = turned.free m (λ e. omega (arith, e, le)) ne ∙ free m (omega (arith, le)) ne

  pub lacks_next : (n ≤ 1 → first ≡ false) → (first ≡ false → n ≤ 257 → IsTrue (newest_may_keep 257 a)) → (if n == 1 then changed else first) ≡ false → n + 1 ≤ 257 → IsTrue (newest_may_keep 257 b)
  lacks_next begun lacks h le = by_case (cases_eq n 1)
    where
      by_case : (n ≡ 1) ⊎ (n ≡ 1 → ⊥) → IsTrue (newest_may_keep 257 b)
      by_case (inl e) = turned.none (ap (λ (t : Bool). if t then changed else first) (sym (eq-eqb n 1 e)) ∙ h) ∙ lacks (begun (omega (arith, e))) (omega (arith, le))
      by_case (inr ne) =
          turned.alone (λ e. omega (arith, e, le)) ne ∙ lacks (ap (λ (t : Bool). if t then changed else first) (sym (ne_eqb n 1 ne)) ∙ h) (omega (arith, le))

  pub has_next : (first ≡ true → IsTrue (has_companion chip) → IsTrue (newest_keeps 257 a)) → (if n == 1 then changed else first) ≡ true → IsTrue (has_companion chip) → IsTrue (newest_keeps 257 b)
  has_next has h more = by_case (cases_eq n 1)
    where
      by_case : (n ≡ 1) ⊎ (n ≡ 1 → ⊥) → IsTrue (newest_keeps 257 b)
      by_case (inl e) =
          turned.companion (ap (λ (t : Bool). if t then changed else first) (sym (eq-eqb n 1 e)) ∙ h) (is ∙ ap (λ (t : Bool). t && first) (ne_eqb n 257 (λ d. omega (arith, d, e)))) e more
      by_case (inr ne) = turned.still 257 (has (ap (λ (t : Bool). if t then changed else first) (sym (ne_eqb n 1 ne)) ∙ h) more)

  pub begun_next : (n ≤ 1 → first ≡ false) → n + 1 ≤ 1 → (if n == 1 then changed else first) ≡ false
  begun_next begun le = ap (λ (t : Bool). if t then changed else first) (ne_eqb n 1 (λ e. omega (arith, e, le))) ∙ begun (omega (arith, le))
