-- What stays so of what is known, with each byte.
use Rattle.std.proofs.Common.{◌≡◌, ℕ, zero, suc, ◌+◌, ◌-◌, ◌<◌, ◌≤◌, Bool, true, false, ◌==◌}
use Rattle.std.proofs.Common.{if◌then◌else◌, All, List, [], ◌∷◌, ◌++◌, length, take, drop}
use Rattle.std.proofs.Common.{replicate, Option, Some, None, refl, ◌∙◌, arith, length-append}
use Rattle.std.proofs.Common.{length-take, length-drop}
use Rattle.std.proofs.lemmas.List.{length-set, length-replicate}
use Rattle.std.proofs.Math.ListN.{set}
use Rattle.stm_watch.specs.declared.sight.Sight.{Sight}
use Rattle.stm_watch.specs.declared.sight.Sight.TheVariants.{Follows, Left, Lost}
use Rattle.stm_wire.specs.declared.verdict.Verdict.{Verdict}
use Rattle.stm_wire.specs.declared.verdict.Verdict.TheVariants.{Done, Refused, Loose}
use Rattle.stm_wire.proofs.Names.{Change, change_of, ChipData, EraseAll, erased_byte, ErasePages, fits_inside, flash_size, IsChip, Nothing, number_of, page_offset, page_size, verdict, Write}
use Rattle.stm_wire.specs.lemmas.PageLaws.{fits_page, fits-end}
use Rattle.stm_sim.specs.lemmas.Simulated.{small-change}
use Rattle.stm_sim.specs.lemmas.SimulatedChange.{done-change-fits, Small as SmallChange}
use Rattle.stm_sim.specs.Simulator.{Fits}
use Rattle.stm_watch.specs.Known.{known_at_first, heard_by_sight, changed_known, count_of_read, fed}
use Rattle.stm_watch.specs.Known.{place_of_read, erased_known, with_items, stored_all, count_read}
use Rattle.stm_watch.specs.Known.{place_read, heard_of, judged, fed_to, Known, heard, lost}
use Rattle.stm_watch.proofs.Storing.{length-stored_all}
use Rattle.stm_watch.proofs.Undoing.{Bytes, all-bytes, Small, Sends, small-changed}

pub record IsGood (k : Known) : Type 0 where
  pub chip : IsChip k.chip
  pub size : length k.flash ≡ flash_size k.chip
  pub small : Small k.flash
  pub list : Bytes k.list
  pub inside : 1 ≤ k.count → k.at + k.count ≤ flash_size k.chip

pub length-with_items : {A : Type 0} (at : ℕ) (items xs : List A) → at + length items ≤ length xs
    → length (with_items at items xs) ≡ length xs
length-with_items at items xs h = simp (length-append, length-take, length-drop) (omega (arith, h))

length-page : (chip : ChipData) (n : ℕ) (ks : List (Option ℕ)) → length ks ≡ flash_size chip
    → length (with_items (page_offset chip n) (replicate (page_size chip n) (Some (erased_byte
    chip))) ks)
    ≡ flash_size chip
length-page chip n ks size =
    let any : List ℕ = replicate (flash_size chip) 0 in
    let page : List ℕ = replicate (page_size chip n) 0 in
    let any_size : length any ≡ flash_size chip = length-replicate {A = ℕ} (flash_size chip) 0 in
    let page_is : length page ≡ page_size chip n = length-replicate {A = ℕ} (page_size chip n) 0 in
    let fits = fits_page chip any page n any_size page_is in
    length-with_items (page_offset chip n) (replicate (page_size chip n) (Some (erased_byte
    chip))) ks
    (omega (
      arith,
      fits,
      size,
      any_size,
      page_is,
      length-replicate (page_size chip n) (Some (erased_byte chip)),
    ))
    ∙ size

length-erased : (chip : ChipData) (pages : List ℕ) (ks : List (Option ℕ)) → length ks
    ≡ flash_size chip
    → length (erased_known chip pages ks) ≡ flash_size chip
length-erased chip [] ks size = size
length-erased chip (n ∷ pages) ks size = length-erased chip pages _ (length-page chip n ks size)

pub length-changed : (chip : ChipData) (change : Change) (ks : List (Option ℕ)) → Fits chip change
    → length ks ≡ flash_size chip → length (changed_known chip change ks) ≡ flash_size chip
length-changed chip Nothing ks fits size = size
length-changed chip (ErasePages pages) ks fits size = length-erased chip pages ks size
length-changed chip EraseAll ks fits size =
    length-replicate (length ks) (Some (erased_byte chip)) ∙ size
length-changed chip (Write address sent) ks fits size =
    let at = address - chip.base in
    let e = fits-end chip address (length sent) fits in
    let places = take (length sent) (drop at ks) in
    let same : length places ≡ length sent =
    simp (length-take, length-drop) (omega (arith, size, e.0, e.1)) in
    length-with_items at (stored_all (erased_byte chip) places sent) ks
    (omega (arith, length-stored_all (erased_byte chip) places sent same, size, e.0, e.1))
    ∙ size

-- what a read brings of the flash lies in it
inside-if : (f : Bool) (chip : ChipData) (address n : ℕ) → fits_inside chip address (n + 1) ≡ f
    → 1 ≤ (if f then n + 1 else 0)
    → (address - chip.base) + (if f then n + 1 else 0) ≤ flash_size chip
inside-if false chip address n is some = absurd (omega (arith, some))
inside-if true chip address n is some =
    let e = fits-end chip address (n + 1) is in
    omega (arith, e.0, e.1)

inside-of : (chip : ChipData) (rest : List ℕ) → 1 ≤ count_of_read chip rest
    → place_of_read chip rest + count_of_read chip rest ≤ flash_size chip
inside-of chip (a ∷ b ∷ c ∷ d ∷ check ∷ n ∷ rest) some =
    inside-if (fits_inside chip (number_of a b c d) (n + 1)) chip (number_of a b c d) n refl some
inside-of chip bytes some = absurd (omega (arith, some))

inside-code : (x y z : Bool) (place count size : ℕ) → (1 ≤ count → place + count ≤ size)
    → 1 ≤ (if x then 0 else (if y then 0 else (if z then count else 0)))
    → place + (if x then 0 else (if y then 0 else (if z then count else 0))) ≤ size
inside-code false false true place count size h some = h some
inside-code x y z place count size h some = absurd (omega (arith, some))

pub inside_read : (chip : ChipData) (bytes : List ℕ) → 1 ≤ count_read chip bytes
    → place_read chip bytes + count_read chip bytes ≤ flash_size chip
inside_read chip (code ∷ check ∷ rest) some =
    inside-code (code == 0x00) (code == 0x02) (code == 0x11) (place_of_read chip rest)
    (count_of_read chip rest) (flash_size chip) (inside-of chip rest) some
inside_read chip bytes some = absurd (omega (arith, some))

bytes-push : (bs : List ℕ) (b : ℕ) → Bytes bs → b < 256 → Bytes (bs ++ b ∷ [])
bytes-push [] b s h = (h, tt)
bytes-push (x ∷ bs) b s h = (s.0, bytes-push bs b s.1 h)

bytes-all : (bs : List ℕ) → All (λ b. b < 256) bs → Bytes bs
bytes-all [] all = tt
bytes-all (b ∷ bs) all =
    (all 0 0 (omega arith), bytes-all bs (λ k d h. all (suc k) d (omega (arith, h))))

sends-small : (change : Change) → SmallChange change → Sends change
sends-small Nothing s = tt
sends-small (ErasePages pages) s = tt
sends-small EraseAll s = tt
sends-small (Write address sent) s = bytes-all sent s

pub good-judged : (k : Known) (bytes : List ℕ) (v : Option Verdict) → IsGood k → Bytes bytes
    → verdict k.chip k.codes bytes ≡ v → IsGood (judged v bytes k)
good-judged k bytes None good small e =
    record {
      chip = good.chip;
      size = good.size;
      small = good.small;
      list = small;
      inside = λ some. absurd (omega (arith, some));
    }
good-judged k bytes (Some Refused) good small e =
    record {
      chip = good.chip;
      size = good.size;
      small = good.small;
      list = tt;
      inside = λ some. absurd (omega (arith, some));
    }
good-judged k bytes (Some Loose) good small e =
    assumption good
good-judged k bytes (Some Done) good small e =
    record {
      chip = good.chip;
      size = length-changed k.chip (change_of bytes) k.flash (done-change-fits k.chip k.codes
          bytes e) good.size;
      small = small-changed k.chip (change_of bytes) k.flash good.chip.erased
          (sends-small (change_of bytes) (small-change bytes (all-bytes bytes small))) good.small;
      list = tt;
      inside = inside_read k.chip bytes;
    }

good-to : (s : Sight) (byte : ℕ) (k : Known) → IsGood k → byte < 256 → IsGood (fed_to s byte k)
good-to Lost byte k good small = good
good-to Left byte k good small = good
good-to Follows byte k good small =
    let bytes = k.list ++ byte ∷ [] in
    good-judged k bytes (verdict k.chip k.codes bytes) good (bytes-push k.list byte good.list
    small) refl

good-lost : (k : Known) → IsGood k → IsGood (lost k)
good-lost k good =
    assumption good

pub good-fed : (byte : ℕ) (k : Known) → IsGood k → byte < 256 → IsGood (fed byte k)
good-fed byte k good small =
    elim (k.count == 0) as (λ b. IsGood (if b then fed_to k.sight byte k else lost k))
    [ true ↦ good-to k.sight byte k good small | false ↦ good-lost k good ]

small-set : (ks : List (Option ℕ)) (at byte : ℕ) → Small ks → byte < 256
    → Small (set ks at (Some byte))
small-set [] at byte s h = tt
small-set (k ∷ ks) zero byte s h = (h, s.1)
small-set (k ∷ ks) (suc at) byte s h = (s.0, small-set ks at byte s.1 h)

good-of : (k : Known) (due : List ℕ) (byte : ℕ) → IsGood k → byte < 256
    → IsGood (heard_of k due byte)
good-of k (b ∷ due) byte good small =
    assumption good
good-of k [] byte good small =
    record {
      chip = good.chip;
      size = length-set k.flash k.at (Some byte) ∙ good.size;
      small = small-set k.flash k.at byte good.small small;
      list = good.list;
      inside = λ some. let h = good.inside (omega (arith, some)) in omega (arith, h, some);
    }

pub good-heard : (byte : ℕ) (k : Known) → IsGood k → byte < 256 → IsGood (heard byte k)
good-heard byte k good small =
    elim k.sight as (λ s. IsGood (heard_by_sight s byte k)) [
      | Lost ↦ good
      | Follows ↦ good-of k k.due byte good small
      | Left ↦ good-of k k.due byte good
          small
    ]

small-nothing : (n : ℕ) → Small (replicate n None)
small-nothing zero = tt
small-nothing (suc n) = (tt, small-nothing n)

pub good-first : (chip : ChipData) (version : ℕ) (codes : List ℕ) → IsChip chip
    → IsGood (known_at_first chip version codes)
good-first chip version codes is =
    record {
      chip = is;
      size = length-replicate (flash_size chip) None;
      small = small-nothing (flash_size chip);
      list = tt;
      inside = λ some. absurd (omega (arith, some));
    }
