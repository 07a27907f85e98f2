-- What a crash leaves of a piece of lines is a beginning of them, and behind it no LF.
use Rattle.std.proofs.Common.{◌≡◌, ◌⊎◌, ◌+◌, ◌/◌, ◌<◌, ◌≤◌, ℕ, suc, eqb, List, [], ◌∷◌, ◌++◌}
use Rattle.std.proofs.Common.{length, take, drop, get_or, refl, sym, ap, ◌∙◌, inl, inr, arith}
use Rattle.std.proofs.lemmas.Bool.{cases_Bool, cases_lt, eqb-true}
use Rattle.std.proofs.lemmas.List.{length-append, length-take, length-drop, take-append-drop, take_at, take_all}
use Rattle.std.proofs.lemmas.List.{get_or-take, get_or-drop, get_or-append-add, ext_get_or}
use Rattle.stm_journal.proofs.Names.{HasNoLF}
use Rattle.stm_disk.specs.Sectors.{sector, LinesEndWhole}
use Rattle.stm_disk.specs.Crash.{MayBeLeft}
use Rattle.stm_disk.specs.Lines.{LeftByAdding}

-- there is none, or there is a last one
abbrev LastLF : List ℕ → Type 0
LastLF xs = HasNoLF xs
    ⊎ ((i : ℕ) × (i < length xs) × (get_or xs i 0 ≡ 10) × HasNoLF (drop (suc i) xs))

last_LF : (xs : List ℕ) → LastLF xs
last_LF [] = inl tt
last_LF (b ∷ xs) = elim (last_LF xs) as (λ _. LastLF (b ∷ xs)) [
  | inl none ↦ elim (cases_Bool (eqb b 10)) as (λ _. LastLF (b ∷ xs)) [
    | inl here ↦ inr (0, omega arith, eqb-true b 10 here, none)
    | inr other ↦ inl (other, none)
  ]
  | inr last ↦ inr (suc last.0, omega (arith, last.1), last.2, last.3)
]

-- each byte up to an LF that is there was written
each_same : (old piece left : List ℕ) → LinesEndWhole (length old) piece
    → MayBeLeft (length old) (old ++ piece) left
    → (i : ℕ) → i < length (drop (length old) left) → get_or (drop (length old) left) i 0 ≡ 10
    → (k : ℕ) → k ≤ i → get_or (drop (length old) left) k 0 ≡ get_or piece k 0
each_same old piece left whole m i within lf k le =
    let at = length old in
    let s = m.sectors ((at + i) / sector) in
    let in_left : at + i < length left = omega (arith, within, length-drop at left) in
    let in_piece : i < length piece = omega (arith, in_left, m.most, length-append old piece) in
    let there : get_or left (at + i) 0 ≡ 10 = sym (get_or-drop at left i 0) ∙ lf in
    let had : at + i < s.0 = elim (cases_lt (at + i) s.0) as (λ _. at + i < s.0) [
      | inl lt ↦ lt
      | inr past ↦ absurd ((s.1 (at + i) refl in_left).1 past there)
    ] in
    let lf_of_piece : get_or piece i 0 ≡ 10 =
    sym (get_or-append-add old piece i 0) ∙ sym ((s.1 (at + i) refl in_left).0 had) ∙ there in
    let one : (at + k) / sector ≡ (at + i) / sector = whole i k le in_piece lf_of_piece in
    let k_in_left : at + k < length left = omega (arith, le, in_left) in
    let k_had : at + k < s.0 = omega (arith, le, had) in
    get_or-drop at left k 0 ∙ (s.1 (at + k) one k_in_left).0 k_had
    ∙ get_or-append-add old piece k 0

same_front : (xs ys : List ℕ) (n : ℕ) → n ≤ length xs → n ≤ length ys
    → ((k : ℕ) → k < n → get_or xs k 0 ≡ get_or ys k 0) → take n xs ≡ take n ys
same_front xs ys n le le2 each =
    ext_get_or 0 (take n xs) (take n ys)
    (let x = length-take n xs in let y = length-take n ys in omega (arith, x, y, le, le2))
    (λ k lt.
    let in_n : k < n = omega (arith, lt, length-take n xs) in
    get_or-take n xs k 0 in_n ∙ each k in_n ∙ sym (get_or-take n ys k 0 in_n))

-- what was synced stands in front
kept_front : (old piece left : List ℕ) → MayBeLeft (length old) (old ++ piece) left
    → left ≡ old ++ drop (length old) left
kept_front old piece left m =
    sym (take-append-drop (length old) left)
    ∙ ap (λ (xs : List ℕ). xs ++ drop (length old) left)
    (m.kept ∙ take_at old piece (length old) refl)

pub piece_left : (old piece left : List ℕ) → LinesEndWhole (length old) piece
    → MayBeLeft (length old) (old ++ piece) left → LeftByAdding old piece left
piece_left old piece left whole m =
    let at = length old in
    let rest = drop at left in
    elim (last_LF rest) as (λ _. LeftByAdding old piece left) [
      | inl none ↦ (0, rest, kept_front old piece left m, none)
      | inr last ↦
          let i = last.0 in
          let behind : List ℕ = drop (suc i) rest in
          let in_piece : i < length piece =
          omega (arith, last.1, length-drop at left, m.most, length-append old piece) in
          let front : take (suc i) rest ≡ take (suc i) piece =
          same_front rest piece (suc i) (omega (arith, last.1)) (omega (arith, in_piece))
          (λ k lt. each_same old piece left whole m i last.1 last.2 k (omega (arith, lt))) in
          let split : rest ≡ take (suc i) piece ++ behind =
          sym (take-append-drop (suc i) rest) ∙ ap (λ (xs : List ℕ). xs ++ behind) front in (
            suc i,
            behind,
            kept_front old piece left m ∙ ap (λ (xs : List ℕ). old ++ xs) split,
            last.3,
          )
    ]

-- of a file that is synced nothing else is left
pub settled_left : (seen left : List ℕ) → MayBeLeft (length seen) seen left → left ≡ seen
settled_left seen left m =
    sym (take_all (length seen) left m.most) ∙ m.kept ∙ take_all (length seen) seen (omega arith)
