-- Bytes of a data record, at consecutive addresses.
use Rattle.std.proofs.Common.{◌≡◌, ℕ, suc, ◌+◌, ◌<◌, ◌≤◌, ◌++◌, List, [], ◌∷◌, length, take, drop, refl, sym, ap, ap₂, ◌∙◌, length-drop, arith}
use Rattle.std.proofs.lemmas.List.{take-append-drop, length-take}
use Rattle.stm_image.specs.Pairs.{raw_pairs}
use Rattle.stm_image.specs.Text.{address_at, pairs_from}
use Rattle.stm_image.specs.declared.place.Form.{Form}

pub pairs_raw : (form : Form) (offset : ℕ) (bytes : List ℕ) → ((k : ℕ) → k < length bytes → address_at form (offset + k) ≡ address_at form offset + k) → pairs_from form offset bytes ≡ raw_pairs (address_at form offset) bytes
pairs_raw form offset (b ∷ c ∷ bytes) goes =
    let next : address_at form (offset + 1) ≡ address_at form offset + 1 = goes 1 (omega arith) in
    ap (λ ps. (address_at form offset, b) ∷ ps) (pairs_raw form (offset + 1) (c ∷ bytes) (λ k lt. step k lt next) ∙ ap (λ n. raw_pairs n (c ∷ bytes)) next)
  where
    step : (k : ℕ) → k < length (c ∷ bytes) → address_at form (offset + 1) ≡ address_at form offset + 1 → address_at form (offset + 1 + k) ≡ address_at form (offset + 1) + k
    step k lt next =
        let at : offset + 1 + k ≡ offset + (k + 1) = omega arith in
        let there = goes (k + 1) (omega arith) in
        ap (address_at form) at ∙ there ∙ (let e : address_at form offset + (k + 1) ≡ address_at form (offset + 1) + k = omega arith in e)
pairs_raw form offset bytes goes = refl

pub pairs_from-append : (form : Form) (offset : ℕ) (xs ys : List ℕ) → pairs_from form offset (xs ++ ys) ≡ pairs_from form offset xs ++ pairs_from form (offset + length xs) ys
pairs_from-append form offset [] ys = ap (λ n. pairs_from form n ys) (let e : offset ≡ offset + 0 = omega arith in e)
pairs_from-append form offset (x ∷ xs) ys =
    ap (λ ps. (address_at form offset, x) ∷ ps) (pairs_from-append form (offset + 1) xs ys ∙ ap (λ n. pairs_from form (offset + 1) xs ++ pairs_from form n ys) (let e : offset + 1 + length xs ≡ offset + suc (length xs) = omega arith in e))

-- in two parts, where the addresses go on at the lowest
pub pairs_split : (form : Form) (offset room : ℕ) (bytes : List ℕ) → room < length bytes → length bytes ≤ 255 → ((k : ℕ) → k < room → address_at form (offset + k) ≡ address_at form offset + k)
    → ((k : ℕ) → k < 256 → address_at form (offset + room + k) ≡ address_at form (offset + room) + k)
    → pairs_from form offset bytes ≡ raw_pairs (address_at form offset) (take room bytes) ++ raw_pairs (address_at form (offset + room)) (drop room bytes)
pairs_split form offset room bytes lt short goes again =
    let front = length-take room bytes in
    let back = length-drop room bytes in
    let at : offset + length (take room bytes) ≡ offset + room = omega arith in
    ap (pairs_from form offset) (sym (take-append-drop room bytes)) ∙ pairs_from-append form offset (take room bytes) (drop room bytes)
    ∙ ap₂ (λ ps qs. ps ++ qs) (pairs_raw form offset (take room bytes) (λ k l. goes k (omega arith)))
    (ap (λ n. pairs_from form n (drop room bytes)) at ∙ pairs_raw form (offset + room) (drop room bytes) (λ k l. again k (omega arith)))
