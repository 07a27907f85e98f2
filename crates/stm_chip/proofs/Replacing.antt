-- A chip put in the place of the one of its id.
use Rattle.std.proofs.Common.{◌≡◌, ◌≢◌, ◌⊎◌, ◌↔◌, ℕ, ◌<◌, List, length, get_or, set, slice_get, Some, None, Option}
use Rattle.std.proofs.Common.{IsSomeAnd, refl, sym, ap, subst, ◌∙◌, arith, inl, inr}
use Rattle.std.proofs.lemmas.Bool.{cases_lt}
use Rattle.std.proofs.lemmas.List.{get_or-set_same, get_or-set_other, length-set}
use Rattle.std.proofs.lemmas.Option.{slice_get_within, get_or_from_slice_get}
use Rattle.stm_wire.proofs.Names.{ChipData}
use Rattle.stm_chip.specs.Document.{HaveInPlace, HaveOwnIds, IsChipWith, IsNewId}
use Rattle.stm_chip.proofs.Documents.{only_chip}

some_value : (o : Option ChipData) (id : ℕ) → IsSomeAnd o (λ chip. chip.id ≡ id)
    → (chip : ChipData) × (o ≡ Some chip) × (chip.id ≡ id)
some_value None id holds = absurd holds
some_value (Some chip) id holds = (chip, refl, holds)

cases_eq : (i j : ℕ) → (i ≡ j) ⊎ (i ≢ j)
cases_eq i j =
    elim (cases_lt i j) [
      | inl less ↦ inr (λ e. absurd (omega arith))
      | inr more ↦ elim (cases_lt j i) [
        | inl less ↦ inr (λ e. absurd (omega arith))
        | inr same ↦ inl (omega arith)
      ]
    ]

module _ (chips : List ChipData) (place : ℕ) (chip : ChipData) (own : HaveOwnIds chips)
    (holds : IsSomeAnd (slice_get chips place) (λ other. other.id ≡ chip.id)) where
  new : List ChipData
  new = set chips place chip

  -- a place has such a chip
  pub within : place < length chips
  within =
      let found = some_value (slice_get chips place) chip.id holds in
      slice_get_within chips place found.0 found.1

  here : (d : ChipData) → (get_or chips place d).id ≡ chip.id
  here d =
      let found = some_value (slice_get chips place) chip.id holds in
      let id_of : ChipData → ℕ = λ c. c.id in
      ap id_of (get_or_from_slice_get chips place found.0 d found.1) ∙ found.2

  count : length (set chips place chip) ≡ length chips
  count = length-set chips place chip

  put : (d : ChipData) → get_or (set chips place chip) place d ≡ chip
  put d = get_or-set_same chips place chip d within

  other : (i : ℕ) (d : ChipData) → i ≢ place → get_or (set chips place chip) i d ≡ get_or chips i d
  other i d apart = get_or-set_other chips place i chip d apart

  -- each place has the id that it had
  same_id : (i : ℕ) (d : ChipData) → (get_or (set chips place chip) i d).id ≡ (get_or chips i d).id
  same_id i d =
      let id_of : ChipData → ℕ = λ c. c.id in
      let P : ℕ → Type 0 = λ k. id_of (get_or (set chips place chip) k d) ≡ id_of (get_or chips k d) in
      elim (cases_eq i place) [
        | inl same ↦ subst P (sym same) (ap id_of (put d) ∙ sym (here d))
        | inr apart ↦ ap id_of (other i d apart)
      ]

  pub own_ids : HaveOwnIds (set chips place chip)
  own_ids i j d less within_j same =
      own i j d less (omega (arith, count, within_j)) (sym (same_id i d) ∙ same ∙ same_id j d)

  new_ids : (id : ℕ) → (IsNewId chips id) ↔ (IsNewId (set chips place chip) id)
  new_ids id = (
    λ all i d within_i same. all i d (omega (arith, count, within_i)) (sym (same_id i d) ∙ same),
    λ all i d within_i same. all i d (omega (arith, count, within_i)) (same_id i d ∙ same),
  )

  -- the chips of other ids are those that there were
  kept : (id : ℕ) (c : ChipData) → id ≢ chip.id → IsChipWith chips id c
      → IsChipWith (set chips place chip) id c
  kept id c apart is =
      let i = is.held.0 in
      let id_of : ChipData → ℕ = λ c. c.id in
      let elsewhere : i ≢ place = λ same.
      apart
      (sym is.id_is ∙ sym (ap id_of is.held.2)
      ∙ ap (λ k. id_of (get_or chips k c)) same ∙ here c) in
      only_chip (set chips place chip) id c own_ids is.id_is
      (i, omega (arith, count, is.held.1), other i c elsewhere ∙ is.held.2)

  kept_back : (id : ℕ) (c : ChipData) → id ≢ chip.id → IsChipWith (set chips place chip) id c
      → IsChipWith chips id c
  kept_back id c apart is =
      let i = is.held.0 in
      let id_of : ChipData → ℕ = λ c. c.id in
      let elsewhere : i ≢ place = λ same.
      apart
      (sym is.id_is ∙ sym (ap id_of is.held.2)
      ∙ ap (λ k. id_of (get_or (set chips place chip) k c)) same ∙ ap id_of (put c)) in
      only_chip chips id c own is.id_is
      (i, omega (arith, count, is.held.1), sym (other i c elsewhere) ∙ is.held.2)

  pub in_place : HaveInPlace chips chip (set chips place chip)
  in_place = record {
    here = λ known. only_chip (set chips place chip) chip.id chip own_ids refl
        (place, omega (arith, count, within), put chip);
    others = λ id apart c. (kept id c apart, kept_back id c apart);
    ids = new_ids;
  }
