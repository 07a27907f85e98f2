-- Asking once more behind the last frame: how its two questions join, and what they put.
use Rattle.std.proofs.Common.{◌≡◌, inl, ℕ, ◌+◌, ◌/◌, ◌%◌, ◌≤◌, Bool, true, false, List, [], ◌∷◌, ◌++◌, replicate, Option, Some, None, Result, Ok, Err, IsErrAnd, OnOk, refl, sym, ◌∙◌, ap, subst, arith}
use Rattle.std.specs.Prelude.{is_some}
use Rattle.std.proofs.lemmas.Bool.{and_parts, false≢true}
use Rattle.std.proofs.lemmas.List.{length-replicate}
use Rattle.stm_wire.specs.declared.places.UniquePlace.{UniquePlace}
use Rattle.stm_wire.proofs.Names.{ChipData, get_id_turns, GoesOn, is_outside, is_size_place, is_unique_length, is_unique_place, IsChip, IsFrame, read_frame, read_turns, RigState, tells}
use Rattle.stm_wire.specs.lemmas.DialogueLaws.{get_id_sends, read_sends}
use Rattle.stm_wire.specs.SentList.{get_id}
use Rattle.stm_journal.proofs.Names.{Loaded}
use Rattle.stm_session.proofs.Names.{Begin, cause_of, closing, closing_steps, confirm_steps, confirmed_at, DoesSteps, Fault, FaultEnds, id_turns, IsAsked, IsConfirming, IsGetId, IsInOrder}
use Rattle.stm_session.proofs.Names.{IsLookedAgain, most_of_closing, most_of_confirming, of_refusal, place_of_bytes, Sends, Step, StopsBy, torn_behind}
use Rattle.stm_session.specs.lemmas.ClosingLaws.{place_known}
use Rattle.stm_session.proofs.AskingBoards.{read_broken_length, refused_length}
use Rattle.stm_session.proofs.Confirmings.{refused_head, refused_sends, short_enough}
use Rattle.stm_session.proofs.CutShort.{begin_after, begin_on, halts, order_stops, part_stops}
use Rattle.stm_session.proofs.Orders.{order_then}
use Rattle.stm_session.proofs.SentSteps.{PutFew, put_as, put_none, put_then}

-- Get ID begins it
get_id_begins : (place : UniquePlace) (xs : List Step) → IsGetId xs → (more : List Step) × IsLookedAgain (Some place) (xs ++ more)
get_id_begins place xs id =
    let held : List ℕ = replicate place.length 0 in
    let more : List Step = Sends (read_turns place.address held) ∷ [] in
    (more, (id.high, id.low, (more, ap (λ (l : List Step). l ++ more) id.is, (Some held, (length-replicate {A = ℕ} place.length 0, refl)))))

-- where it is asked: Get ID is cut short, or tells another number,
module _ (torn : Bool) (a b : RigState) where
  pub id_stops : {U : Type 0} (o : Option UniquePlace) (e : Fault) (result : Result U Fault) → is_some o ≡ true → IsErrAnd result (λ x. x ≡ e) → StopsBy (Begin IsGetId) (cause_of e) torn a b → FaultEnds (Begin (IsLookedAgain o)) torn a b result
  id_stops None e result some is stops = absurd (false≢true some)
  id_stops (Some place) e result some is stops = part_stops (Begin IsGetId) (Begin (IsLookedAgain (Some place))) torn a b e result is (begin_on IsGetId (IsLookedAgain (Some place)) (get_id_begins place)) stops

  pub id_halts : (o : Option UniquePlace) (id : ℕ) → is_some o ≡ true → GoesOn (IsInOrder torn (Sends (id_turns id) ∷ [])) a.calls b.calls → StopsBy (Begin (IsLookedAgain o)) of_refusal torn a b
  id_halts None id some goes = absurd (false≢true some)
  id_halts (Some place) id some goes =
      let own : List Step = Sends (id_turns id) ∷ [] in
      halts (Begin (IsLookedAgain (Some place))) of_refusal torn own a b (get_id_begins place own (record { high = _; low = _; is = refl })) refl goes

  -- or tells this, and then it is asked for its unique id
  module _ {T : Type 0} (c : RigState) (result : Result T Fault) (id : ℕ) (goes : GoesOn (IsInOrder torn (Sends (id_turns id) ∷ [])) a.calls b.calls) where
    pub looked_order : (o : Option UniquePlace) (unique : List ℕ) → is_some o ≡ true → OnOk result (GoesOn (IsInOrder torn (confirm_steps o unique)) b.calls c.calls)
        → OnOk result (GoesOn (IsInOrder torn (Sends (id_turns id) ∷ confirm_steps o unique)) a.calls c.calls)
    looked_order o unique some = by result
      where
        by : (r : Result T Fault) → OnOk r (GoesOn (IsInOrder torn (confirm_steps o unique)) b.calls c.calls) → OnOk r (GoesOn (IsInOrder torn (Sends (id_turns id) ∷ confirm_steps o unique)) a.calls c.calls)
        by (Ok x) next = order_then torn (Sends (id_turns id) ∷ []) (confirm_steps o unique) a.calls b.calls c.calls goes next
        by (Err e) next = tt

    pub looked_stops : (o : Option UniquePlace) → is_some o ≡ true → FaultEnds (Begin (IsConfirming o)) torn b c result → FaultEnds (Begin (IsLookedAgain o)) torn a c result
    looked_stops None some = absurd (false≢true some)
    looked_stops (Some place) some = by result
      where
        own : List Step
        own = Sends (id_turns id) ∷ []

        by : (r : Result T Fault) → FaultEnds (Begin (IsConfirming (Some place))) torn b c r → FaultEnds (Begin (IsLookedAgain (Some place))) torn a c r
        by (Ok x) stops = tt
        by (Err e) stops =
            order_stops (Begin (IsConfirming (Some place))) (Begin (IsLookedAgain (Some place))) (cause_of e) torn own (begin_after (IsConfirming (Some place)) (IsLookedAgain (Some place)) own (λ ys p. (id / 256, id % 256, (ys, refl, p)))) a b c goes stops

-- all of it
pub closing_some : (o : Option UniquePlace) (chip : ChipData) → is_some o ≡ true → Sends (id_turns chip.id) ∷ confirm_steps o chip.unique ≡ closing_steps o chip
closing_some None chip some = absurd (false≢true some)
closing_some (Some place) chip some = refl

-- a torn tail stays
closing_torn : (o : Option UniquePlace) (chip : ChipData) (torn : Bool) → torn_behind torn (closing_steps o chip) ≡ torn
closing_torn None chip torn = refl
closing_torn (Some place) chip torn = refl

pub does_closing : (chip : ChipData) (l : Loaded) (a b : RigState) → GoesOn (IsInOrder l.is_torn (closing chip)) a.calls b.calls → DoesSteps (closing chip) l l a b
does_closing chip l a b goes = record { acts = goes; torn = sym (closing_torn (confirmed_at chip) chip l.is_torn) }

-- in few calls
pub put_looked : (chip : ChipData) → IsChip chip → (steps : List Step) → IsLookedAgain (confirmed_at chip) steps → PutFew (Some chip) most_of_closing steps
put_looked chip limits steps = by (confirmed_at chip) refl
  where
    put_asked : (place : UniquePlace) → chip.places.unique ≡ Some place → place.length ≤ 32 → (came : Option (List ℕ)) (own : List Step) → IsAsked place.address place.length came own → PutFew (Some chip) most_of_confirming own
    put_asked place known short (Some bytes) own (size, is) =
        let sends = read_sends place.address bytes ∙ ap (λ (n : ℕ). read_frame place.address n) size in
        put_as (Some chip) most_of_confirming most_of_confirming _ own (omega arith) is
        (record { sent = (tells chip place refl known (inl sends), tt); few = omega (arith, short, read_broken_length place.address place.length bytes size) })
    put_asked place known short None own (frame, turns, refused, is) =
        let F : List ℕ → Type 0 = λ f. IsFrame (Some chip) f in
        let told = subst F (sym (refused_sends place.address place.length frame turns refused)) (tells chip place refl known (refused_head place.address place.length frame turns refused)) in
        put_as (Some chip) most_of_confirming most_of_confirming _ own (omega arith) is
        (record { sent = (told, tt); few = omega (arith, short, refused_length place.address place.length frame turns refused) })

    by : (o : Option UniquePlace) → place_of_bytes chip.places.unique chip.unique ≡ o → IsLookedAgain o steps → PutFew (Some chip) most_of_closing steps
    by None at is = put_as (Some chip) 0 most_of_closing [] steps (omega arith) is (put_none (Some chip) 0)
    by (Some place) at (high, low, (own, is, (came, asked))) =
        let known = (place_known chip.places.unique chip.unique place at).0 in
        let P : Option UniquePlace → Type 0 = λ p. is_unique_place chip p ≡ true in
        let places = and_parts (is_unique_place chip chip.places.unique) (is_size_place chip chip.places.size) limits.places in
        let long = (and_parts (is_unique_length place.length) (is_outside chip place.address place.length) (subst P known places.0)).0 in
        let id : PutFew (Some chip) 7 (Sends (get_id_turns high low) ∷ []) = record { sent = (get_id (get_id_sends high low), tt); few = omega arith } in
        put_as (Some chip) (7 + most_of_confirming) most_of_closing (Sends (get_id_turns high low) ∷ own) steps (omega arith) is
        (put_then (Some chip) 7 most_of_confirming (Sends (get_id_turns high low) ∷ []) own id (put_asked place known (short_enough place.length long) came own asked))
