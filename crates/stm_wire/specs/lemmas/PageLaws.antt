-- Where pages, addresses and bytes lie in a flash, and what bytes put there make of its pages.
use Rattle.std.proofs.Common.{◌≡◌, ◌≢◌, ℕ, ◌+◌, ◌<◌, ◌≤◌, ◌⊎◌, ⊎_elim, inl, inr, List, ◌∷◌}
use Rattle.std.proofs.Common.{length, get_or, take, drop, sum, sym, ap, ◌∙◌, IsTrue, arith, rules}
use Rattle.std.proofs.lemmas.Bool.{cases_lt, cases_order}
use Rattle.std.proofs.lemmas.Bool.Decides.{nat_tests}
use Rattle.std.proofs.lemmas.List.{get_or_past, length-append, length-take, length-drop}
use Rattle.std.proofs.lemmas.List.{length-replicate, places, same_lists, take-take}
use Rattle.std.proofs.lemmas.List.Sums.{sum_by-cons, sum_by-take-le, sum_by_more, sum_by_more_le}
use Rattle.stm_wire.specs.Chip.{ChipData, erased_byte, erased_page, flash_size, fits_inside}
use Rattle.stm_wire.specs.Chip.{page_count, page_of, page_offset, page_size, with_bytes, with_page}

pub sum-cons : (x : ℕ) (xs : List ℕ) → sum (x ∷ xs) ≡ x + sum xs
sum-cons x xs = sum_by-cons (λ n. n) x xs

-- the first pages are no larger than all
pub offset_within : (sizes : List ℕ) (n : ℕ) → sum (take n sizes) ≤ sum sizes
offset_within sizes n = sum_by-take-le (λ x. x) sizes n

-- a page ends no later than the flash, also one that doesn't exist
pub page_within : (sizes : List ℕ) (n : ℕ) → sum (take n sizes) + get_or sizes n 0 ≤ sum sizes
page_within sizes n =
    ⊎_elim (λ lt. sum_by_more_le (λ x. x) sizes n 0 lt) past (cases_lt n (length sizes))
  where
    past : length sizes ≤ n → sum (take n sizes) + get_or sizes n 0 ≤ sum sizes
    past le = omega (arith, get_or_past sizes n 0 le, offset_within sizes n)

-- a page ends where the next begins, or before
pub page_end : (sizes : List ℕ) (n p : ℕ) → n < p → n < length sizes
    → sum (take n sizes) + get_or sizes n 0 ≤ sum (take p sizes)
page_end sizes n p lt here =
    let more = sum_by_more (λ x. x) sizes n 0 here in
    let le : sum (take (n + 1) (take p sizes)) ≤ sum (take p sizes) =
    sum_by-take-le (λ x. x) (take p sizes) (n + 1) in
    let same : take (n + 1) (take p sizes) ≡ take (n + 1) sizes =
    take-take (n + 1) p sizes (omega arith) in
    let le2 : sum (take (n + 1) sizes) ≤ sum (take p sizes) = rw same at le in
    omega arith

-- bytes inside a flash begin and end there
pub fits-end : (chip : ChipData) (address size : ℕ) → IsTrue (fits_inside chip address size)
    → (chip.base ≤ address) × (address + size ≤ chip.base + flash_size chip)
fits-end chip address size fits = grind (arith, nat_tests)

-- a flash in which bytes were put has as many as before
pub length-with_bytes : (at : ℕ) (bytes flash : List ℕ) → at + length bytes ≤ length flash
    → length (with_bytes at bytes flash) ≡ length flash
length-with_bytes at bytes flash h =
    simp (length-append, length-take, length-drop) (omega (arith, h))

-- what was put stands at its place
pub put_here : (at : ℕ) (bytes flash : List ℕ) → at + length bytes ≤ length flash
    → take (length bytes) (drop at (with_bytes at bytes flash)) ≡ bytes
put_here at bytes flash h = same_lists _ _ (search (rules, places)) (λ k e l. grind (arith, places))

-- a part that lies before it, or behind, is as it was
pub put_apart : (at : ℕ) (bytes flash : List ℕ) (s z : ℕ) → at + length bytes ≤ length flash
    → (s + z ≤ at) ⊎ (at + length bytes ≤ s)
    → take z (drop s (with_bytes at bytes flash)) ≡ take z (drop s flash)
put_apart at bytes flash s z h d =
    same_lists _ _ (search (rules, places)) (λ k e l. grind (arith, places))

-- a part put back where it stands changes nothing
pub put_same : (at size : ℕ) (flash : List ℕ) → at + size ≤ length flash
    → with_bytes at (take size (drop at flash)) flash ≡ flash
put_same at size flash h = same_lists _ _ (search (rules, places)) (λ k e l. grind (arith, places))

-- bytes put in bytes that were put
pub put_in : (at o : ℕ) (bytes page flash : List ℕ) → at + length page ≤ length flash
    → o + length bytes ≤ length page
    → with_bytes (at + o) bytes (with_bytes at page flash)
    ≡ with_bytes at (with_bytes o bytes page) flash
put_in at o bytes page flash h g =
    same_lists _ _ (search (rules, places)) (λ k e l. grind (arith, places))

-- bytes put within page p leave page n as it was
pub other_page : (chip : ChipData) (flash bytes : List ℕ) (at n p : ℕ)
    → length flash ≡ flash_size chip
    → page_offset chip p ≤ at → at + length bytes ≤ page_offset chip p + page_size chip p
    → n < page_count chip → n ≢ p →
    page_of chip (with_bytes at bytes flash) n ≡ page_of chip flash n
other_page chip flash bytes at n p size from to here ne =
    let within = page_within chip.sizes p in
    put_apart at bytes flash (page_offset chip n) (page_size chip n) (omega arith)
    (sides (cases_order n p))
  where
    sides : (n ≡ p) ⊎ ((n < p) ⊎ (p < n))
        → (page_offset chip n + page_size chip n ≤ at) ⊎ (at + length bytes ≤ page_offset chip n)
    sides (inl e) = absurd (ne e)
    sides (inr (inl lt)) = inl (let h = page_end chip.sizes n p lt here in omega arith)
    sides (inr (inr gt)) = inr (let h = page_end chip.sizes p n gt (omega arith) in omega arith)

-- a page has all its bytes
pub length-page_of : (chip : ChipData) (flash : List ℕ) (n : ℕ) → length flash ≡ flash_size chip
    → length (page_of chip flash n) ≡ page_size chip n
length-page_of chip flash n size =
    let h = page_within chip.sizes n in
    simp (length-take, length-drop) (omega (arith, h, size))

pub length-erased_page : (chip : ChipData) (n : ℕ) → length (erased_page chip n) ≡ page_size chip n
length-erased_page chip n = length-replicate (page_size chip n) (erased_byte chip)

-- bytes put as page n, as many as it has
module _ (chip : ChipData) (flash bytes : List ℕ) (n : ℕ) (size : length flash ≡ flash_size chip)
    (whole : length bytes ≡ page_size chip n) where
  pub fits_page : page_offset chip n + length bytes ≤ length flash
  fits_page = let h = page_within chip.sizes n in omega arith

  pub length-with_page : length (with_page chip n bytes flash) ≡ flash_size chip
  length-with_page = length-with_bytes (page_offset chip n) bytes flash fits_page ∙ size

  -- the page is the bytes
  pub page_put : page_of chip (with_page chip n bytes flash) n ≡ bytes
  page_put =
      ap (λ (z : ℕ). take z (drop (page_offset chip n) (with_page chip n bytes flash))) (sym whole)
      ∙ put_here (page_offset chip n) bytes flash fits_page

  -- another page is as it was
  pub page_put-other : (m : ℕ) → m < page_count chip → m ≢ n
      → page_of chip (with_page chip n bytes flash) m ≡ page_of chip flash m
  page_put-other m here ne =
      other_page chip flash bytes (page_offset chip n) m n size (omega arith)
      (omega (arith, whole)) here ne

-- a page put back where it stands changes nothing
pub put_page : (chip : ChipData) (flash : List ℕ) (n : ℕ) → length flash ≡ flash_size chip
    → with_page chip n (page_of chip flash n) flash ≡ flash
put_page chip flash n size =
    let h = page_within chip.sizes n in
    put_same (page_offset chip n) (page_size chip n) flash (omega arith)
