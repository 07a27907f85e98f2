-- One chip more, unless its id is there.
use Rattle.std.proofs.Common.{◌≡◌, ◌<◌, ℕ, zero, suc, eqb, List, [], ◌∷◌, ◌++◌, length, get_or, Option, Some, None, IsSome, Contains, refl, sym, ap, ◌∙◌, arith}
use Rattle.std.proofs.lemmas.Bool.{cond_both, eq-eqb, eqb-true}
use Rattle.std.proofs.lemmas.List.Folds.{find-append}
use Rattle.std.specs.Option.{option_or}
use Rattle.stm_wire.proofs.Names.{ChipData}
use Rattle.stm_chip.specs.Over.{chip_by_id}

found_at : (chips : List ChipData) (id i : ℕ) (d : ChipData) → i < length chips → (get_or chips i d).id ≡ id → IsSome (chip_by_id chips id)
found_at [] id i d h e = absurd (omega arith)
found_at (chip ∷ chips) id zero d h e = cond_both (eqb chip.id id) (Some chip) (chip_by_id chips id) IsSome (λ _. refl) (λ no. absurd (cc (no, eq-eqb chip.id id e)))
found_at (chip ∷ chips) id (suc i) d h e =
    cond_both (eqb chip.id id) (Some chip) (chip_by_id chips id) IsSome (λ _. refl) (λ _. found_at chips id i d (omega arith) e)

unaltered : (o : Option ChipData) → o ≡ option_or o None
unaltered None = refl
unaltered (Some chip) = refl

first_stays : (o p : Option ChipData) → IsSome o → o ≡ option_or o p
first_stays None p h = cc
first_stays (Some chip) p h = refl

-- a chip whose id is there says nothing more
pub is_there : (chips : List ChipData) (chip other : ChipData) → Contains chips other → other.id ≡ chip.id → (id : ℕ)
    → chip_by_id chips id ≡ option_or (chip_by_id chips id) (chip_by_id (chip ∷ []) id)
is_there chips chip other (i, within, is) same id =
    let id_of : ChipData → ℕ = λ c. c.id in
    let o : Option ChipData = chip_by_id chips id in
    cond_both (eqb chip.id id) (Some chip) None (λ p. o ≡ option_or o p)
    (λ yes. first_stays o (Some chip) (found_at chips id i other within (ap id_of is ∙ same ∙ eqb-true chip.id id yes))) (λ _. unaltered o)

-- a chip at the end says what those before don't
pub is_last : (chips : List ChipData) (chip : ChipData) (id : ℕ) → chip_by_id (chips ++ chip ∷ []) id ≡ option_or (chip_by_id chips id) (chip_by_id (chip ∷ []) id)
is_last chips chip id = find-append (λ c. eqb c.id id) chips (chip ∷ [])

or_assoc : (a b c : Option ChipData) → option_or (option_or a b) c ≡ option_or a (option_or b c)
or_assoc None b c = refl
or_assoc (Some chip) b c = refl

-- the same over a table of which one chip more was read
pub over_more : (upper seen joined more : List ChipData) (chip : ChipData) → ((id : ℕ) → chip_by_id joined id ≡ option_or (chip_by_id upper id) (chip_by_id seen id))
    → ((id : ℕ) → chip_by_id more id ≡ option_or (chip_by_id joined id) (chip_by_id (chip ∷ []) id)) → (id : ℕ)
    → chip_by_id more id ≡ option_or (chip_by_id upper id) (chip_by_id (seen ++ chip ∷ []) id)
over_more upper seen joined more chip over added id =
    let one : Option ChipData = chip_by_id (chip ∷ []) id in
    added id ∙ ap (λ o. option_or o one) (over id) ∙ or_assoc (chip_by_id upper id) (chip_by_id seen id) one
    ∙ ap (option_or (chip_by_id upper id)) (sym (is_last seen chip id))
