-- How sessions end that reached no device, or another one.
use Rattle.std.proofs.Common.{◌≡◌, inl, inr, ⊎_elim, ℕ, Bool, List, [], ◌++◌, None, Result, Ok, Err, IsErrAnd, refl, sym, ◌∙◌, ap, subst, append-nil}
use Rattle.std.specs.Prelude.{IfErr, IfOk, Option}
use Rattle.stm_wire.proofs.Names.{Call, GoesOn, RigState, SettlesWithin}
use Rattle.stm_wire.specs.lemmas.DialogueLaws.{GoesOn-append, GoesOn-weaker}
use Rattle.stm_session.proofs.Names.{acts_of, acts_of_steps, AreCutShort, asking_steps, Begin, byte_of, Cause, EndsWell, Fault, IsAfter, IsAsking, IsOfTalking, IsRefusedLater, limit_of, of_refusal}
use Rattle.stm_session.proofs.Names.{ReachesInOrder, ReachesInPart, SettlesFirst, SettlesThen, Step, StepFailsBy, StopsBy, Way}
use Rattle.stm_journal.proofs.Names.{AreFetches}
use Rattle.stm_session.proofs.AskingStops.{asking_is}
use Rattle.stm_session.proofs.CutShort.{begin_all, cut_after}
use Rattle.stm_session.proofs.Orders.{acts-append, acts-line, fetches-act, settled_and, settles_and}

-- what follows at a fault from what holds there
pub err_then : {T : Type 0} (r : Result T Fault) (A B : Fault → Type 0) → ((e : Fault) → A e → B e) → IfErr r A → IfErr r B
err_then (Ok x) A B then p = tt
err_then (Err e) A B then p = then e p

pub at_fault : {U : Type 0} (P : Fault → Type 0) (e : Fault) (result : Result U Fault) → IsErrAnd result (λ x. x ≡ e) → P e → IfErr result P
at_fault P e (Ok x) is p = absurd is
at_fault P e (Err x) is p = subst P (sym is) p

pub told_then : {T : Type 0} (r : Result T Fault) (A B : T → Type 0) → ((x : T) → A x → B x) → IfOk r A → IfOk r B
told_then (Ok x) A B then p = then x p
told_then (Err e) A B then p = tt

module _ (way : Way) (cause : Cause) (torn : Bool) where
  -- settling ends
  pub settle_stops : (a b : Option (List Call)) → IsOfTalking cause → GoesOn (SettlesWithin (byte_of way) (limit_of way)) a b → GoesOn (ReachesInPart way cause torn) a b
  settle_stops a b heard settles =
      GoesOn-weaker (SettlesWithin (byte_of way) (limit_of way)) (ReachesInPart way cause torn) a b settles
      (λ xs s. inr (inl (heard, subst (λ (l : List Call). SettlesWithin (byte_of way) (limit_of way) l) (sym (acts-line xs s.line)) s)))

  -- the questions do
  pub asks_stop : (a b c : RigState) → GoesOn (SettlesWithin (byte_of way) (limit_of way)) a.calls b.calls → GoesOn (EndsWell way) a.calls b.calls → StopsBy (Begin IsAsking) cause torn b c → GoesOn (ReachesInPart way cause torn) a.calls c.calls
  asks_stop a b c settles ends stops =
      let Cut : List Call → Type 0 = λ acts. AreCutShort (Begin IsAsking) cause torn acts in
      GoesOn-weaker (SettlesThen way Cut) (ReachesInPart way cause torn) a.calls c.calls (settles_and way (λ calls. Cut (acts_of calls)) Cut a.calls b.calls c.calls settles ends stops (λ xs x. x)) (λ xs s. inr (inr s))

  -- the journal can't be read, or is refused
  pub unread_stops : (a b : Option (List Call)) → GoesOn AreFetches a b → GoesOn (ReachesInPart way cause torn) a b
  unread_stops a b fetches = GoesOn-weaker AreFetches (ReachesInPart way cause torn) a b fetches (λ xs are. inl (fetches-act xs are))

  -- it was read before
  pub fetched_stops : (a b c : Option (List Call)) → GoesOn AreFetches a b → GoesOn (ReachesInPart way cause torn) b c → GoesOn (ReachesInPart way cause torn) a c
  fetched_stops a b c fetches stops =
      GoesOn-append AreFetches (ReachesInPart way cause torn) (ReachesInPart way cause torn) a b c fetches stops
      (λ xs ys x y.
      let same : acts_of (xs ++ ys) ≡ acts_of ys = acts-append xs ys ∙ ap (λ (l : List Call). l ++ acts_of ys) (fetches-act xs x) in
      ⊎_elim (λ none. inl (same ∙ none))
      (λ some. ⊎_elim (λ part. inr (inl (part.0, subst (λ (l : List Call). SettlesWithin (byte_of way) (limit_of way) l) (sym same) part.1))) (λ s. inr (inr (s.0, s.1, s.2, s.3, same ∙ s.4, s.5))) some) y)

  idle_later : (k : Cause) (t : Bool) → IsRefusedLater k → StepFailsBy k t None []
  idle_later of_refusal t is = refl
  idle_later k t is = absurd is

  -- it is another device, or something else is refused
  pub told_stops : (id : ℕ) (a b : RigState) → IsRefusedLater cause → ReachesInOrder way id torn a b → GoesOn (ReachesInPart way cause torn) a.calls b.calls
  told_stops id a b refused (version, codes, reached, few) =
      let steps = asking_steps version codes id in
      GoesOn-weaker (SettlesFirst way torn steps) (ReachesInPart way cause torn) a.calls b.calls reached
      (λ xs s.
      inr (inr (
        s.0,
        s.1,
        s.2,
        s.3,
        s.4,
        record {
          done = steps;
          failed = None;
          allowed = begin_all IsAsking steps (asking_is version codes id few);
          last = [];
          fails = idle_later cause torn refused;
          is = s.5 ∙ sym (append-nil (acts_of_steps torn steps));
        },
      )))

-- what is done behind the questions is cut short
pub reached_stops : (way : Way) (id version : ℕ) (codes : List ℕ) (P : List Step → Type 0) (cause : Cause) (torn : Bool) (a b c : RigState) → GoesOn (SettlesFirst way torn (asking_steps version codes id)) a.calls b.calls → StopsBy P cause torn b c
    → GoesOn (SettlesThen way (AreCutShort (IsAfter (asking_steps version codes id) P) cause torn)) a.calls c.calls
reached_stops way id version codes P cause torn a b c reached stops =
    let steps = asking_steps version codes id in
    settled_and way (λ rest. rest ≡ acts_of_steps torn steps) (λ calls. AreCutShort P cause torn (acts_of calls)) (AreCutShort (IsAfter steps P) cause torn) a.calls b.calls c.calls reached stops
    (λ xs ys x y. cut_after P (IsAfter steps P) cause torn steps (λ own p. (own, refl, p)) xs (acts_of ys) x y)
