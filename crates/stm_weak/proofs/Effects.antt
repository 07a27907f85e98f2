-- What a change does to two flashes that agree outside weak pages.
use Rattle.std.proofs.Common.{min, ◌++◌, ◌≡◌, ◌⊎◌, ⊎_elim, inl, inr, ℕ, zero, suc, ◌+◌, ◌-◌, ◌<◌}
use Rattle.std.proofs.Common.{◌≤◌, Bool, List, [], ◌∷◌, length, get_or, take, drop, replicate, refl}
use Rattle.std.proofs.Common.{sym, ◌∙◌, ap, subst, arith, IsTrue, All, Contains}
use Rattle.std.proofs.lemmas.Bool.{cases_eq, cases_lt}
use Rattle.std.proofs.lemmas.List.{get_or-take, get_or-drop, length-replicate, length-take}
use Rattle.std.proofs.lemmas.List.{length-drop}
use Rattle.std.proofs.lemmas.List.Elements.{All-append, All-cons, All-drop, All-head, All-nil}
use Rattle.std.proofs.lemmas.List.Elements.{All-replicate, All-tail, All-take}
use Rattle.stm_wire.proofs.Names.{Change, ChipData, Effect, EraseAll, erased_byte, erased_page, erased_pages, ErasePages, flash_size, IsErasedByte, Nothing, page_offset, page_size, Stores, with_bytes}
use Rattle.stm_wire.proofs.Names.{with_page, Write}
use Rattle.stm_wire.specs.lemmas.FlashLaws.{length-erased_pages}
use Rattle.stm_wire.specs.lemmas.PageLaws.{length-with_bytes}
use Rattle.stm_weak.specs.WeakDevice.{AgreesOutside, ErasesPage, IsWeakAt}
use Rattle.stm_weak.proofs.Agreeing.{IsInOne, agrees_same, agrees_weaker, cases_in_one}
use Rattle.stm_weak.proofs.Agreeing.{erased_alike, put_beside, put_nothing, put_place}

abbrev pub IsByte : ℕ → Type 0
IsByte b = b < 256

pub erased_is_byte : (byte : ℕ) → IsErasedByte byte → byte < 256
erased_is_byte byte (inl none) = omega (arith, none)
erased_is_byte byte (inr all) = omega (arith, all)

pub bytes-with_bytes : (at : ℕ) (bytes flash : List ℕ) → All IsByte bytes → All IsByte flash
    → All IsByte (with_bytes at bytes flash)
bytes-with_bytes at bytes flash b f =
    All-append IsByte (take at flash ++ bytes) (drop (at + length bytes) flash)
    (All-append IsByte (take at flash) bytes (All-take IsByte at flash f) b)
    (All-drop IsByte (at + length bytes) flash f)

bytes-erased_pages : (chip : ChipData) (pages flash : List ℕ) → erased_byte chip < 256
    → All IsByte flash → All IsByte (erased_pages chip pages flash)
bytes-erased_pages chip [] flash small all = all
bytes-erased_pages chip (n ∷ pages) flash small all =
    bytes-erased_pages chip pages (with_page chip n (erased_page chip n) flash) small
    (bytes-with_bytes (page_offset chip n) (erased_page chip n) flash
    (All-replicate IsByte (page_size chip n) (erased_byte chip) small) all)

-- What is stored over other bytes: the bytes agree where those under them do.
pub record StoresAlike (erased : ℕ) (olds others sent written : List ℕ) : Type 0 where
  pub stored : List ℕ
  pub stores : Stores erased others sent stored
  pub same_length : length stored ≡ length written
  pub alike : (k : ℕ) → get_or others k 0 ≡ get_or olds k 0 → get_or stored k 0 ≡ get_or written k 0
  pub bytes : All IsByte stored

stores_one : (erased old other sent written : ℕ) → sent < 256 → written < 256
    → (old ≡ erased → written ≡ sent)
    → (b : ℕ) × (b < 256) × (other ≡ erased → b ≡ sent) × (other ≡ old → b ≡ written)
stores_one erased old other sent written s w same = by (cases_eq other erased)
  where
    by : (other ≡ erased) ⊎ (other ≡ erased → ⊥) → (b : ℕ) × (b < 256) × (other ≡ erased → b ≡ sent)
        × (other ≡ old → b ≡ written)
    by (inl is) = (sent, s, λ _. refl, λ e. sym (same (sym e ∙ is)))
    by (inr not) = (written, w, λ is. absurd (not is), λ _. refl)

pub stores_alike : (erased : ℕ) (olds others sent written : List ℕ) → length others ≡ length olds
    → All IsByte sent → Stores erased olds sent written
    → StoresAlike erased olds others sent written
stores_alike erased [] [] [] [] e small s = record {
  stored = [];
  stores = tt;
  same_length = refl;
  alike = λ k _. refl;
  bytes = All-nil IsByte;
}
stores_alike erased (o ∷ olds) (p ∷ others) (b ∷ sent) (w ∷ written) e small s =
    let one = stores_one erased o p b w (All-head IsByte b sent small) s.0 s.1 in
    let rest = stores_alike erased olds others sent written (omega (arith, e))
    (All-tail IsByte b sent small) s.2 in
    record {
      stored = one.0 ∷ rest.stored;
      stores = (one.1, one.2, rest.stores);
      same_length = ap suc rest.same_length;
      alike = alike_at one.0 one.3 rest.stored rest.alike;
      bytes = All-cons IsByte one.0 rest.stored one.1 rest.bytes;
    }
  where
    alike_at : (x : ℕ) → (p ≡ o → x ≡ w) → (xs : List ℕ)
        → ((k : ℕ) → get_or others k 0 ≡ get_or olds k 0 → get_or xs k 0 ≡ get_or written k 0)
        → (k : ℕ) → get_or (p ∷ others) k 0 ≡ get_or (o ∷ olds) k 0
        → get_or (x ∷ xs) k 0 ≡ get_or (w ∷ written) k 0
    alike_at x one xs rest zero h = one h
    alike_at x one xs rest (suc k) h = rest k h
stores_alike erased [] others [] (w ∷ written) e small s = absurd s
stores_alike erased [] others (b ∷ sent) written e small s = absurd s
stores_alike erased (o ∷ olds) others [] written e small s = absurd s
stores_alike erased (o ∷ olds) others (b ∷ sent) [] e small s = absurd s
stores_alike erased [] (p ∷ others) [] [] e small s = absurd (omega (arith, e))
stores_alike erased (o ∷ olds) [] (b ∷ sent) (w ∷ written) e small s = absurd (omega (arith, e))

-- each byte that is stored lies over one
pub stores_lengths : (erased : ℕ) (olds sent written : List ℕ) → Stores erased olds sent written
    → (length olds ≡ length sent) × (length written ≡ length sent)
stores_lengths erased [] [] [] s = (refl, refl)
stores_lengths erased (o ∷ olds) (b ∷ sent) (w ∷ written) s = let r = stores_lengths erased olds
    sent written s.2 in (ap suc r.0, ap suc r.1)
stores_lengths erased [] [] (w ∷ written) s = absurd s
stores_lengths erased [] (b ∷ sent) written s = absurd s
stores_lengths erased (o ∷ olds) [] written s = absurd s
stores_lengths erased (o ∷ olds) (b ∷ sent) [] s = absurd s

-- the bytes that a change writes
abbrev pub AreBytes : Change → Type 0
AreBytes Nothing = Unit {0}
AreBytes (ErasePages pages) = Unit {0}
AreBytes EraseAll = Unit {0}
AreBytes (Write address sent) = All IsByte sent

-- The change may do to b what leaves it in agreement with a.
abbrev pub DoesAlike : ChipData → Change → (ℕ → Bool) → List ℕ → List ℕ → Type 0
DoesAlike chip change weak b new =
    (flash : List ℕ) × Effect chip change b flash × AgreesOutside chip weak new flash
    × All IsByte flash

module _ (chip : ChipData) (weak weak2 : ℕ → Bool) (a b : List ℕ)
    (size : length a ≡ flash_size chip) (agrees : AgreesOutside chip weak a b)
    (bytes : All IsByte b) (erased : erased_byte chip < 256) where
  size_b : length b ≡ flash_size chip
  size_b = agrees.same_length ∙ size

  erases_alike : (pages : List ℕ) → ((n : ℕ) → IsTrue (weak n) → IsTrue (weak2 n)
      ⊎ Contains pages n) → AgreesOutside chip weak2 (erased_pages chip pages a)
      (erased_pages chip pages b)
  erases_alike pages stays =
      record {
        same_length = length-erased_pages chip pages b size_b ∙ agrees.same_length
            ∙ sym (length-erased_pages chip pages a size);
        elsewhere = λ place out. erased_alike chip pages a b place size size_b
            (by place out (cases_in_one chip pages place));
      }
    where
      by : (place : ℕ) → (IsWeakAt chip weak2 place → ⊥) → IsInOne chip pages place
          ⊎ (IsInOne chip pages place → ⊥) → (get_or b place 0 ≡ get_or a place 0)
          ⊎ IsInOne chip pages place
      by place out (inl one) = inr one
      by place out (inr none) = inl (agrees.elsewhere place
          (λ w. ⊎_elim (λ still. out
          (record { page = w.page; is = still; from = w.from; to = w.to }))
          (λ c. none (w.page, c, (w.from, w.to))) (stays w.page w.is)))

  writes_alike : (at : ℕ) (sent written new : List ℕ) → All IsByte sent
      → ((n : ℕ) → IsTrue (weak n) → IsTrue (weak2 n))
      → Stores (erased_byte chip) (take (length sent) (drop at a)) sent written
      → new ≡ with_bytes at written a
      → (stored : List ℕ) × Stores (erased_byte chip) (take (length sent) (drop at b)) sent stored
      × AgreesOutside chip weak2 new (with_bytes at stored b)
      × All IsByte (with_bytes at stored b)
  writes_alike at sent written new small more stores is = (
    there.stored,
    there.stores,
    let P : List ℕ → Type 0 = λ x. AgreesOutside chip weak2 x
        (with_bytes at there.stored b) in subst P (sym is) (by (cases_lt 0 (length sent))),
    bytes-with_bytes at there.stored b there.bytes bytes,
  )
    where
      olds : List ℕ
      olds = take (length sent) (drop at a)

      others : List ℕ
      others = take (length sent) (drop at b)

      same : length others ≡ length olds
      same = simp (length-take, length-drop, agrees.same_length) refl

      there : StoresAlike (erased_byte chip) olds others sent written
      there = stores_alike (erased_byte chip) olds others sent written same small stores

      long : (length olds ≡ length sent) × (length written ≡ length sent)
      long = stores_lengths (erased_byte chip) olds sent written stores

      fewer : AgreesOutside chip weak2 a b
      fewer = agrees_weaker chip weak weak2 a b more agrees

      by : (0 < length sent) ⊎ (length sent ≤ 0) → AgreesOutside chip weak2
          (with_bytes at written a) (with_bytes at there.stored b)
      by (inr none) = nothing written there.stored (omega (arith, none, long.1))
          (omega (arith, none, long.1, there.same_length))
        where
          nothing : (xs ys : List ℕ) → length xs ≡ 0 → length ys ≡ 0
              → AgreesOutside chip weak2 (with_bytes at xs a) (with_bytes at ys b)
          nothing [] [] e f =
              let P : List ℕ → Type 0 = λ x. AgreesOutside chip weak2 x (with_bytes at [] b) in
              let Q : List ℕ → Type 0 = λ y. AgreesOutside chip weak2 a y in
              subst P (sym (put_nothing at a)) (subst Q (sym (put_nothing at b)) fewer)
          nothing (x ∷ xs) ys e f = absurd (omega (arith, e))
          nothing [] (y ∷ ys) e f = absurd (omega (arith, f))
      by (inl some) = record {
        same_length = length-with_bytes at there.stored b fits_b ∙ agrees.same_length
            ∙ sym (length-with_bytes at written a fits_a);
        elsewhere = λ place out. at_place place (fewer.elsewhere place out) (cases_lt place at)
            (cases_lt place (at + length written));
      }
        where
          held : length olds ≡ length sent → at + length sent ≤ length a
          held e = let h : min (length sent) (length a - at) ≡ length sent = simp
              (length-take, length-drop) at e in omega (arith, h, some)

          fits_a : at + length written ≤ length a
          fits_a = omega (arith, held long.0, long.1)

          fits_b : at + length there.stored ≤ length b
          fits_b = omega (arith, held long.0, long.1, there.same_length, agrees.same_length)

          at_place : (place : ℕ) → get_or b place 0 ≡ get_or a place 0 → (place < at) ⊎ (at ≤ place)
              → (place < at + length written) ⊎ (at + length written ≤ place)
              → get_or (with_bytes at there.stored b) place 0 ≡ get_or
              (with_bytes at written a) place 0
          at_place place e (inl before) _ = put_beside at there.stored b place fits_b (inl before)
              ∙ e ∙ sym (put_beside at written a place fits_a (inl before))
          at_place place e (inr from) (inr behind) = put_beside at there.stored b place fits_b
              (inr (omega (arith, behind, there.same_length))) ∙ e
              ∙ sym (put_beside at written a place fits_a (inr behind))
          at_place place e (inr from) (inl to) =
              let k = place - at in
              let in_sent : k < length sent = omega (arith, from, to, long.1) in
              let is : at + k ≡ place = omega (arith, from) in
              let of : (xs : List ℕ) → get_or (take (length sent) (drop at xs)) k 0 ≡ get_or xs
              place 0 =
              λ xs. get_or-take (length sent) (drop at xs) k 0 in_sent ∙ get_or-drop at xs k 0
              ∙ ap (λ i. get_or xs i 0) is in
              put_place at there.stored b place fits_b from (omega (arith, to, there.same_length))
              ∙ there.alike k (of b ∙ e ∙ sym (of a))
              ∙ sym (put_place at written a place fits_a from to)

  pub does_alike : (change : Change) (new : List ℕ) → AreBytes change
      → ((n : ℕ) → IsTrue (weak n) → IsTrue (weak2 n) ⊎ ErasesPage change n)
      → Effect chip change a new → DoesAlike chip change weak2 b new
  does_alike Nothing new small stays is =
      let P : List ℕ → Type 0 = λ x. AgreesOutside chip weak2 x b in
      let more = λ (n : ℕ) (w : IsTrue (weak n)). ⊎_elim (λ (x : IsTrue (weak2 n)). x)
      (λ (x : ⊥). absurd x) (stays n w) in
      (b, refl, subst P (sym is) (agrees_weaker chip weak weak2 a b more agrees), bytes)
  does_alike (ErasePages pages) new small stays is =
      let P : List ℕ → Type 0 = λ x. AgreesOutside chip weak2 x (erased_pages chip pages b) in (
        erased_pages chip pages b,
        refl,
        subst P (sym is) (erases_alike pages stays),
        bytes-erased_pages chip pages b erased bytes,
      )
  does_alike EraseAll new small stays is =
      let all = replicate (length b) (erased_byte chip) in
      let same : new ≡ all = is ∙ ap (λ n. replicate n (erased_byte chip))
      (sym agrees.same_length) in
      let P : List ℕ → Type 0 = λ x. AgreesOutside chip weak2 x all in (
        all,
        refl,
        subst P (sym same) (agrees_same chip weak2 all),
        All-replicate IsByte (length b)
            (erased_byte chip) erased,
      )
  does_alike (Write address sent) new small stays (written, stores, is) =
      let more = λ (n : ℕ) (w : IsTrue (weak n)). ⊎_elim (λ (x : IsTrue (weak2 n)). x)
      (λ (x : ⊥). absurd x) (stays n w) in
      let at = address - chip.base in
      let r = writes_alike at sent written new small more stores is in
      (with_bytes at r.0 b, (r.0, r.1, refl), r.2, r.3)

-- a change leaves as many bytes
pub effect_length : (chip : ChipData) (change : Change) (old new : List ℕ)
    → length old ≡ flash_size chip → Effect chip change old new → length new ≡ length old
effect_length chip Nothing old new size e = ap length e
effect_length chip (ErasePages pages) old new size e = ap length e
    ∙ length-erased_pages chip pages old size
effect_length chip EraseAll old new size e = ap length e
    ∙ length-replicate (length old) (erased_byte chip)
effect_length chip (Write address sent) old new size (written, stores, e) = ap length e
    ∙ by written (cases_lt 0 (length sent)) long.1
  where
    at : ℕ
    at = address - chip.base

    long : (length (take (length sent) (drop at old)) ≡ length sent)
        × (length written ≡ length sent)
    long = stores_lengths (erased_byte chip) (take (length sent) (drop at old)) sent written stores

    by : (bytes : List ℕ) → (0 < length sent) ⊎ (length sent ≤ 0) → length bytes ≡ length sent
        → length (with_bytes at bytes old) ≡ length old
    by bytes (inl some) same =
        let h : min (length sent) (length old - at) ≡ length sent = simp
        (length-take, length-drop) at long.0 in
        length-with_bytes at bytes old (omega (arith, h, some, same))
    by [] (inr none) same = ap length (put_nothing at old)
    by (x ∷ bytes) (inr none) same = absurd (omega (arith, none, same))
