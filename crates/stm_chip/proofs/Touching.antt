-- Where an image lies, by its next places.
use Rattle.std.proofs.Common.{◌≡◌, ◌≢◌, ◌∙◌, ◌↔◌, inl, inr, ℕ, ◌+◌, ◌-◌, ◌<◌, ◌≤◌, Bool, true, false, nat_lt, List, [], ◌∷◌, ◌++◌, get_or, Option, Some, None, Contains, IsTrue, MatchOption, is_some, refl, sym, subst, arith}
use Rattle.std.specs.List.{list_all, AllPass}
use Rattle.std.proofs.lemmas.Bool.{both_ways, cases_Bool, cases_eq, false_from_ne_true, true_from_ne_false}
use Rattle.std.proofs.lemmas.Bool.Decides.{nat_tests}
use Rattle.std.proofs.lemmas.List.Elements.{All-contains, Contains-append_left, Contains-get_or, Contains-push, Contains-push_cases}
use Rattle.std.proofs.lemmas.List.Quantifiers.{all_pairs_push}
use Rattle.std.proofs.lemmas.List.Sums.{AllPass-from_list_all, list_all-from_AllPass, sum_by_more}
use Rattle.stm_image.specs.Pairs.{Pairs, IsNext, HasNone}
use Rattle.stm_wire.proofs.Names.{ChipData, is_inside, page_count, page_offset, page_size}
use Rattle.stm_chip.specs.Touch.{AreTouched, HasBefore, HasFrom, HasOutside, HasWithin, TouchedBelow, Touches}

less_test : (a b : ℕ) → IsTrue (nat_lt a b) → a < b
less_test a b h = grind (arith, nat_tests)

less_passes : (a b : ℕ) → a < b → IsTrue (nat_lt a b)
less_passes a b h = grind (arith, nat_tests)

-- the least of all places tells whether one lies before an address
pub before_least : (image : Pairs) (address : ℕ) (p : ℕ × ℕ) → IsNext image 0 p → IsTrue (nat_lt p.0 address) ↔ HasBefore image address
before_least image address p next = (
  λ t. record { pair = p; held = next.held; before = less_test p.0 address t },
  λ h. less_passes p.0 address (omega (arith, next.least h.pair h.held (omega arith), h.before)),
)

pub before_none : (image : Pairs) (address : ℕ) → HasNone image 0 → IsTrue false ↔ HasBefore image address
before_none image address none = (λ t. cc, λ h. absurd (omega (arith, none h.pair h.held)))

-- a place at an address or after it is found
pub from_found : (image : Pairs) (address : ℕ) (found : Option (ℕ × ℕ)) → MatchOption found (HasNone image address) (IsNext image address) → IsTrue (is_some found) ↔ HasFrom image address
from_found image address None none = (λ t. cc, λ h. absurd (omega (arith, none h.pair h.held, h.from)))
from_found image address (Some p) next = (λ t. record { pair = p; held = next.held; from = next.after }, λ h. refl)

-- the next place from an address on tells whether one lies among some bytes there
pub within_next : (image : Pairs) (start size : ℕ) (p : ℕ × ℕ) → IsNext image start p → IsTrue (nat_lt (p.0 - start) size) ↔ HasWithin image start size
within_next image start size p next = (
  λ t. let less : p.0 - start < size = less_test (p.0 - start) size t in
      record { pair = p; held = next.held; from = next.after; to = omega (arith, next.after, less) },
  λ h. let first : p.0 ≤ h.pair.0 = next.least h.pair h.held h.from in
      less_passes (p.0 - start) size (omega (arith, next.after, first, h.to)),
)

pub within_none : (image : Pairs) (start size : ℕ) → HasNone image start → IsTrue false ↔ HasWithin image start size
within_none image start size none = (λ t. cc, λ h. absurd (omega (arith, none h.pair h.held, h.from)))

-- a page is touched where a place lies among its bytes
pub touches_page : (chip : ChipData) (image : Pairs) (n start size : ℕ) → n < page_count chip → start ≡ chip.base + page_offset chip n → size ≡ page_size chip n
    → Touches chip image n ↔ HasWithin image start size
touches_page chip image n start size page start_is size_is = (
  λ h. record { pair = h.pair; held = h.held; from = omega (arith, h.from, start_is); to = omega (arith, h.to, start_is, size_is) },
  λ h. record { pair = h.pair; held = h.held; page = page; from = omega (arith, h.from, start_is); to = omega (arith, h.to, start_is, size_is) },
)

-- where the next page begins
pub next_offset : (chip : ChipData) (n : ℕ) → n < page_count chip → page_offset chip (n + 1) ≡ page_offset chip n + page_size chip n
next_offset chip n page = sum_by_more (λ size. size) chip.sizes n 0 page

-- one page more
module _ (chip : ChipData) (image : Pairs) (n : ℕ) (pages : List ℕ) (below : TouchedBelow chip image n pages) where
  pub touched_more : Touches chip image n → TouchedBelow chip image (n + 1) (pages ++ n ∷ [])
  touched_more touches =
      record {
        rising = all_pairs_push (λ a b. a < b) pages n below.rising (λ k d h. ((below.each (get_or pages k d)).0 (Contains-get_or pages k d h)).0);
        each = λ m. (
          λ held. elim (Contains-push_cases pages n m held) [
            | inl old ↦ let both = (below.each m).0 old in (omega (arith, both.0), both.1)
            | inr same ↦ (omega (arith, same), subst (Touches chip image) same touches)
          ],
          λ both. elim (cases_eq m n) [
            | inl same ↦ let P : ℕ → Type 0 = λ k. Contains (pages ++ n ∷ []) k in subst P (sym same) (Contains-push pages n)
            | inr other ↦ Contains-append_left pages (n ∷ []) m ((below.each m).1 (omega (arith, both.0, other), both.1))
          ],
        );
      }

  pub touched_same : ¬ Touches chip image n → TouchedBelow chip image (n + 1) pages
  touched_same untouched =
      record {
        rising = below.rising;
        each = λ m. (
          λ held. let both = (below.each m).0 held in (omega (arith, both.0), both.1),
          λ both. elim (cases_eq m n) [
            | inl same ↦ absurd (untouched (subst (Touches chip image) same both.1))
            | inr other ↦ (below.each m).1 (omega (arith, both.0, other), both.1)
          ],
        );
      }

  pub touched_all : page_count chip ≤ n → AreTouched chip image pages
  touched_all all =
      record { rising = below.rising; each = λ m. (λ held. ((below.each m).0 held).1, λ touches. (below.each m).1 (omega (arith, touches.page), touches)) }

-- an image that lies inside the flash, or has a place outside it, is told by a test of each of its places
pub inside_each : (chip : ChipData) (image : Pairs) (inside : Bool) → IsTrue inside ↔ ¬ HasOutside chip image → (inside ≡ false → HasOutside chip image)
    → inside ≡ list_all (λ pair. is_inside chip pair.0) image
inside_each chip image inside all_inside one_outside =
    let p : ℕ × ℕ → Bool = λ pair. is_inside chip pair.0 in
    elim (cases_Bool inside) [
      | inl is ↦
          let each : AllPass p image = λ k d h. true_from_ne_false (p (get_or image k d)) (λ e.
          all_inside.0 is (record { pair = get_or image k d; held = Contains-get_or image k d h; outside = both_ways (p (get_or image k d)) e })) in
          is ∙ sym (list_all-from_AllPass p image each)
      | inr is ↦
          let other = one_outside is in
          let some : list_all p image ≢ true = λ e. other.outside (All-contains (λ pair. p pair ≡ true) image other.pair (AllPass-from_list_all p image e) other.held) in
          is ∙ sym (false_from_ne_true (list_all p image) some)
    ]
