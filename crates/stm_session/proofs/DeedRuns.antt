-- Deeds, one after another: those that were done, the one that comes, and those behind it.
use Rattle.std.proofs.Common.{◌≡◌, ◌∙◌, ℕ, ◌+◌, ◌<◌, ◌≤◌, List, [], ◌∷◌, ◌++◌, length, map, take, drop}
use Rattle.std.proofs.Common.{get_or, Result, Ok, Err, IsErrAnd, refl, sym, ap, ap₂, subst}
use Rattle.std.proofs.Common.{append_assoc}
use Rattle.std.specs.Prelude.{flat_map, fold}
use Rattle.std.proofs.lemmas.Grind.{flat_map-append}
use Rattle.std.proofs.lemmas.List.{map-append, take-append-drop, take_all, take_more}
use Rattle.std.proofs.lemmas.List.Sums.{fold-append}
use Rattle.stm_wire.proofs.Names.{ChipData, IsModel, RigState}
use Rattle.stm_journal.proofs.Names.{Loaded, StateData}
use Rattle.stm_session.proofs.Names.{AllSuit, Deed, DoesDeeds, Fault, flash_with, HasDone, HasDoneAll, HasSessionCause, lines_of_deed, MayDo, MayDoAll, Step, step_of_deed, StepLaws}
use Rattle.stm_session.proofs.Performing.{performs_cut, performs_none, performs_then}

-- how far they are done
pub record IsDoneSoFar (chip : ChipData) (deeds : List Deed) (l l2 : Loaded)
    (old new : RigState) : Type 0 where
  pub line : new.line_failures ≡ old.line_failures
  pub journal : new.journal_failures ≡ old.journal_failures
  pub stays : old.is_honest → new.is_honest
  pub done : HasDoneAll deeds l.state l2.state
  pub does : DoesDeeds {T = Unit {0}} chip deeds l l2 old new (Ok tt)

module _ (chip : ChipData) where
  may_behind : (xs ys : List Deed) (d : Deed) (s s2 : StateData) → MayDoAll chip (xs ++ d ∷ ys) s
      → HasDoneAll xs s s2 → MayDo chip d s2
  may_behind [] ys d s s2 may same =
      let P : StateData → Type 0 = λ t. MayDo chip d t in subst P (sym same) may.0
  may_behind (x ∷ xs) ys d s s2 may (t, has, rest) =
      may_behind xs ys d t s2 (may.1 t has) rest

  suit_front : (xs ys : List Deed) (flash : List ℕ) → AllSuit chip flash (xs ++ ys)
      → AllSuit chip flash xs
  suit_front [] ys flash suit = tt
  suit_front (x ∷ xs) ys flash suit = (suit.0, suit_front xs ys (flash_with chip flash x) suit.1)

  suit_behind : (xs ys : List Deed) (flash : List ℕ) → AllSuit chip flash (xs ++ ys)
      → AllSuit chip (fold (flash_with chip) flash xs) ys
  suit_behind [] ys flash suit = suit
  suit_behind (x ∷ xs) ys flash suit = suit_behind xs ys (flash_with chip flash x) suit.1

  pub suit_both : (xs ys : List Deed) (flash : List ℕ) → AllSuit chip flash xs
      → AllSuit chip (fold (flash_with chip) flash xs) ys → AllSuit chip flash (xs ++ ys)
  suit_both [] ys flash first then = then
  suit_both (x ∷ xs) ys flash first then =
      (first.0, suit_both xs ys (flash_with chip flash x) first.1 then)

  pub may_both : (xs ys : List Deed) (s : StateData) → MayDoAll chip xs s
      → ((s2 : StateData) → HasDoneAll xs s s2 → MayDoAll chip ys s2) → MayDoAll chip (xs ++ ys) s
  may_both [] ys s may next = next s refl
  may_both (x ∷ xs) ys s may next = (
    may.0,
    λ s2 has. may_both xs ys s2 (may.1 s2 has) (λ s3 done. next s3 (s2, has, done)),
  )

pub done_both : (xs ys : List Deed) (s s3 : StateData) → HasDoneAll (xs ++ ys) s s3
    → (s2 : StateData) × HasDoneAll xs s s2 × HasDoneAll ys s2 s3
done_both [] ys s s3 done = (s, refl, done)
done_both (x ∷ xs) ys s s3 (t, has, rest) =
    let both = done_both xs ys t s3 rest in (both.0, (t, has, both.1), both.2)

done_more : (xs : List Deed) (d : Deed) (s s2 s3 : StateData) → HasDoneAll xs s s2
    → HasDone d s2 s3 → HasDoneAll (xs ++ d ∷ []) s s3
done_more [] d s s2 s3 same has =
    let P : StateData → Type 0 = λ t. HasDone d t s3 in (s3, subst P same has, refl)
done_more (x ∷ xs) d s s2 s3 (t, first, rest) has = (t, first, done_more xs d t s2 s3 rest has)

-- one more, and a fault at it
module _ (chip : ChipData) (ds : List Deed) (i : ℕ) (d : Deed) (lt : i < length ds) where
  pub may_next : (s s2 : StateData) → MayDoAll chip ds s → HasDoneAll (take i ds) s s2
      → MayDo chip (get_or ds i d) s2
  may_next s s2 may done =
      let P : List Deed → Type 0 = λ xs. MayDoAll chip xs s in
      let behind = drop (i + 1) ds in
      let whole = sym (append_assoc (take i ds) (get_or ds i d ∷ []) behind)
      ∙ ap (λ (xs : List Deed). xs ++ behind) (sym (take_more ds i d lt))
      ∙ take-append-drop (i + 1) ds in
      may_behind chip (take i ds) behind (get_or ds i d) s s2 (subst P (sym whole) may) done

  done_next : (s s2 s3 : StateData) → HasDoneAll (take i ds) s s2
      → HasDone (get_or ds i d) s2 s3 → HasDoneAll (take (i + 1) ds) s s3
  done_next s s2 s3 first has =
      let P : List Deed → Type 0 = λ xs. HasDoneAll xs s s3 in
      subst P (sym (take_more ds i d lt)) (done_more (take i ds) (get_or ds i d) s s2 s3 first has)

  module _ {l l2 l3 : Loaded} {a b c : RigState}
      (first : DoesDeeds {T = Unit {0}} chip (take i ds) l l2 a b (Ok tt))
      (model : b.is_honest → IsModel b) where
    does_next : {r : Result (Unit {0}) Fault}
        → DoesDeeds chip (get_or ds i d ∷ []) l2 l3 b c r
        → DoesDeeds chip (take (i + 1) ds) l l3 a c r
    does_next {r} own =
        let xs = take i ds in
        let one = get_or ds i d ∷ [] in
        let P : List Deed → Type 0 = λ zs. DoesDeeds chip zs l l3 a c r in
        subst P (sym (take_more ds i d lt))
        (performs_then first own model
        (λ ss ts p q.
        ap₂ (λ (u v : List Step). u ++ v) p q ∙ sym (map-append (step_of_deed chip) xs one))
        (λ h may. (may.0, suit_front chip xs one a.device.flash may.1))
        (λ h may make done. record {
          may = (
            make.chip ∙ may.0,
            let S : List ℕ → Type 0 = λ f. AllSuit chip f one in
                subst S (sym done) (suit_behind chip xs one a.device.flash may.1),
          );
          lines = sym (flat_map-append lines_of_deed xs one);
          gives = λ y is. is ∙ ap (λ (f : List ℕ). fold (flash_with chip) f one) done
              ∙ sym (fold-append (flash_with chip) a.device.flash xs one);
        }))

    pub does_cut : {l4 : Loaded} {e : Fault} {result : Result (Unit {0}) Fault}
        → DoesDeeds {T = Unit {0}} chip (get_or ds i d ∷ []) l2 l3 b c (Err e)
        → IsErrAnd result (λ x. x ≡ e) → DoesDeeds chip ds l l4 a c result
    does_cut {l4} {result = result} own is =
        let xs = take (i + 1) ds in
        let ys = drop (i + 1) ds in
        let P : List Deed → Type 0 = λ zs. DoesDeeds chip zs l l4 a c result in
        subst P (take-append-drop (i + 1) ds)
        (performs_cut (does_next own) is
        (λ ss p. (
          map (step_of_deed chip) ys,
          ap (λ (u : List Step). u ++ map (step_of_deed chip) ys) p
              ∙ sym (map-append (step_of_deed chip) xs ys),
        ))
        (λ may. (
          (may.0, suit_front chip xs ys a.device.flash may.1),
          (flat_map lines_of_deed ys, sym (flat_map-append lines_of_deed xs ys)),
        )))

-- at the start, and one more
pub done_none : (laws : StepLaws) (chip : ChipData) (l : Loaded) (a : RigState)
    → (a.is_honest → IsModel a) → IsDoneSoFar chip [] l l a a
done_none laws chip l a model = record {
  line = refl;
  journal = refl;
  stays = λ h. h;
  done = refl;
  does = performs_none laws model (tt {0}) refl (λ h may. (refl, refl));
}

pub done_more_of : (chip : ChipData) (ds : List Deed) (i : ℕ) (d : Deed) → i < length ds
    → {l l2 l3 : Loaded} {a b c : RigState} → IsDoneSoFar chip (take i ds) l l2 a b
    → (b.is_honest → IsModel b) → HasDone (get_or ds i d) l2.state l3.state
    → HasSessionCause {T = Unit {0}} b c (Ok tt)
    → DoesDeeds {T = Unit {0}} chip (get_or ds i d ∷ []) l2 l3 b c (Ok tt)
    → IsDoneSoFar chip (take (i + 1) ds) l l3 a c
done_more_of chip ds i d lt {l} {l2} {l3} so_far model done cause does = record {
  line = cause.line_done ∙ so_far.line;
  journal = cause.journal_done ∙ so_far.journal;
  stays = λ h. cause.honest (so_far.stays h);
  done = done_next chip ds i d lt l.state l2.state l3.state so_far.done done;
  does = does_next chip ds i d lt so_far.does model does;
}

pub done_all : (chip : ChipData) (ds : List Deed) (i : ℕ) → length ds ≤ i
    → {l l2 : Loaded} {a b : RigState} → IsDoneSoFar chip (take i ds) l l2 a b
    → DoesDeeds {T = Unit {0}} chip ds l l2 a b (Ok tt)
done_all chip ds i past {l} {l2} {a} {b} so_far =
    let P : List Deed → Type 0 = λ xs. DoesDeeds chip xs l l2 a b (Ok tt) in
    subst P (take_all i ds past) so_far.does
