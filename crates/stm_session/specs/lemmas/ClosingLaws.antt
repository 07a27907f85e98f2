-- What follows of the question behind the last frame.
use Rattle.std.proofs.Common.{◌≡◌, inl, inr, ℕ, ◌+◌, ◌/◌, ◌%◌, ◌==◌, Bool, true, false, List, []}
use Rattle.std.proofs.Common.{if◌then◌else◌, ◌∷◌, ◌++◌, length, Option, Some, None, refl, sym, ◌∙◌}
use Rattle.std.proofs.Common.{ap, subst, append_assoc, append-nil, eqb-true}
use Rattle.stm_wire.specs.declared.places.UniquePlace.{UniquePlace}
use Rattle.stm_wire.specs.Chip.{ChipData}
use Rattle.stm_wire.specs.Dialogue.{Turn}
use Rattle.stm_journal.specs.declared.entry.Entry.TheVariants.{Ends}
use Rattle.stm_journal.specs.States.{StateData}
use Rattle.stm_session.specs.declared.change.Change.{Change}
use Rattle.stm_session.specs.ChangeOrder.{IsOneSegment, IsSegmentBegun, ends}
use Rattle.stm_session.specs.Closing.{IsClosedInPart, IsLook, IsLookedAgain, closing, closing_steps}
use Rattle.stm_session.specs.Closing.{names, tells, refuses}
use Rattle.stm_session.specs.Order.{Step, Adds, Sends, Are, Begin}
use Rattle.stm_session.specs.Reaching.{IsAsked, confirmed_at, place_of_bytes}

-- where a chip's device is asked
pub place_known : (p : Option UniquePlace) (unique : List ℕ) (place : UniquePlace)
    → place_of_bytes p unique ≡ Some place
    → (p ≡ Some place) × ((length unique == place.length) ≡ true)
place_known None unique place is = absurd (let h : None ≡ Some place = is in cc)
place_known (Some here) unique place is = by (length unique == here.length) refl is
  where
    by : (e : Bool) → (length unique == here.length) ≡ e → (if e then Some here else None) ≡ Some place
        → (Some here ≡ Some place) × ((length unique == place.length) ≡ true)
    by true e some =
        let h : Some here ≡ Some place = some in
        let one : here ≡ place = cc in
        (some, ap (λ (q : UniquePlace). length unique == q.length) (sym one) ∙ e)
    by false e none = absurd (let h : None ≡ Some place = none in cc)

-- the right answer is one
pub closing_is_looked : (chip : ChipData) → IsLookedAgain (confirmed_at chip) (closing chip)
closing_is_looked chip = by (confirmed_at chip) refl
  where
    by : (o : Option UniquePlace) → place_of_bytes chip.places.unique chip.unique ≡ o
        → IsLookedAgain o (closing_steps o chip)
    by None is = refl
    by (Some place) is =
        let long = eqb-true (length chip.unique) place.length
        (place_known chip.places.unique chip.unique place is).1
        in (chip.id / 256, chip.id % 256, (_, refl, (Some chip.unique, (long, refl))))

-- what holds of nothing, and of each frame of it before others, holds of it
pub looked_by : (P : List Step → Type 0) (o : Option UniquePlace) (steps : List Step) → P []
    → ((place : UniquePlace) (turns : List Turn) (later : List Step) → o ≡ Some place
    → IsLook place turns → P later → P (Sends turns ∷ later))
    → IsLookedAgain o steps → P steps
looked_by P None steps none more is = subst P (sym is) none
looked_by P (Some place) steps none more (high, low, (own, is, (came, asked))) =
    subst P (sym is) (more place _ own refl (names high low refl) (last came asked))
  where
    last : (came : Option (List ℕ)) → IsAsked place.address place.length came own → P own
    last (Some bytes) (size, is) = subst P (sym is) (more place _ [] refl (tells bytes refl) none)
    last None (frame, turns, refused, is) =
        subst P (sym is) (more place turns [] refl (refuses frame refused) none)

-- what is allowed behind steps begins them, it with some answer, and the line
pub goes_on : (chip : ChipData) (line before own steps : List Step)
    → IsClosedInPart chip (Begin (Are line)) own → steps ≡ before ++ own
    → (asked : List Step) × (rest : List Step) × IsLookedAgain (confirmed_at chip) asked
    × (steps ++ rest ≡ before ++ (asked ++ line))
goes_on chip line before own steps part is = by part
  where
    joined : (asked rest : List Step) → own ++ rest ≡ asked ++ line
        → steps ++ rest ≡ before ++ (asked ++ line)
    joined asked rest same =
        ap (λ (xs : List Step). xs ++ rest) is ∙ append_assoc before own rest
        ∙ ap (λ (xs : List Step). before ++ xs) same

    by : IsClosedInPart chip (Begin (Are line)) own → (asked : List Step) × (rest : List Step)
        × IsLookedAgain (confirmed_at chip) asked × (steps ++ rest ≡ before ++ (asked ++ line))
    by (inl (rest, looked)) = (
      own ++ rest,
      rest ++ line,
      looked,
      joined (own ++ rest) (rest ++ line) (sym (append_assoc own rest line)),
    )
    by (inr (tail, behind, (rest, last))) = (
      closing chip,
      rest,
      closing_is_looked chip,
      joined (closing chip) rest (ap (λ (xs : List Step). xs ++ rest) behind
          ∙ append_assoc (closing chip) tail rest ∙ ap (λ (xs : List Step). closing chip ++ xs) last),
    )

-- a segment is one that is begun
pub segment_is_begun : (chip : ChipData) (c : Change) (s : StateData) (steps : List Step)
    → IsOneSegment chip c s steps → IsSegmentBegun chip c s steps
segment_is_begun chip c s steps segment =
    let line : List Step = Adds (Ends (length s.stack + 1) ∷ []) ∷ [] in
    ends segment.turned (closing chip ++ line) segment.are_turned
    (inr (line, refl, ([], append-nil line))) segment.is
