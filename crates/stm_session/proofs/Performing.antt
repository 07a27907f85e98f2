-- How what is performed joins, and how it ends.
use Rattle.std.proofs.Common.{◌≡◌, ◌++◌, ℕ, List, [], Result, Ok, Err, IsErrAnd, append-nil, refl, subst, sym}
use Rattle.std.specs.Prelude.{OnOk}
use Rattle.stm_wire.proofs.Names.{IsModel, RigState}
use Rattle.stm_journal.specs.declared.entry.Entry.{Entry}
use Rattle.stm_journal.proofs.Names.{Loaded}
use Rattle.stm_session.proofs.Names.{Are, Begin, cause_of, DoesSteps, Fault, FaultEnds, Follows, Goes, IsSteady, of_memory, Performs, SameMake, Step, StepLaws, StopsBy}
use Rattle.stm_session.specs.declared.fault.Fault.TheVariants.{Memory}
use Rattle.stm_session.proofs.CutShort.{begin_after, begin_on, by_fault, halts_first, part_stops, stop_after, stop_as}
use Rattle.stm_session.proofs.Going.{at_exit, goes_as, goes_failed, goes_nowhere, goes_ok, goes_refused, goes_then}
use Rattle.stm_session.proofs.Orders.{does_as, does_nothing, does_then}

-- what has to hold of the second of two where the first was done
pub record Joins {U : Type 0} (xs ys zs : List Entry) (May : Type 0)
    (Second Done : U → Type 0) : Type 0 where
  pub may : May
  pub lines : xs ++ ys ≡ zs
  pub gives : (y : U) → Second y → Done y

not_ok : {U : Type 0} (X : Type 0) (e : Fault) (result : Result U Fault)
    → IsErrAnd result (λ x. x ≡ e) → OnOk result X
not_ok X e (Ok y) is = absurd is
not_ok X e (Err x) is = tt

module _ {T U : Type 0} {P : List Step → Type 0} {xs : List Entry} {M : Type 0} {D : T → Type 0}
    {l l2 : Loaded} {a b : RigState} where
  -- one after the other
  pub performs_then : {Q R : List Step → Type 0} {ys zs : List Entry} {N May : Type 0}
      {E F : U → Type 0} {l3 : Loaded} {c : RigState} {x : T} {result : Result U Fault}
      → Performs P xs M D l l2 a b (Ok x) → Performs Q ys N E l2 l3 b c result
      → (b.is_honest → IsModel b) → ((ss ts : List Step) → P ss → Q ts → R (ss ++ ts))
      → (a.is_honest → May → M)
      → (a.is_honest → May → SameMake a.device b.device → D x → Joins xs ys zs N E F)
      → Performs R zs May F l l3 a c result
  performs_then {Q} {R} {ys} {zs} {l3 = l3} {c = c} {x = x} {result = result} first second model
      steps may next =
      record {
        order = order_then result second.order;
        stops = stops_then result second.stops;
        honest = λ flashes steady m.
            let goes = first.honest flashes steady (may steady.honest m) in
            let here = model goes.honest in
            let make = (at_exit _ a b here goes.moments).make in
            let joins = next steady.honest m make goes.done in
            let last = second.honest flashes goes.steady joins.may in
            goes_as flashes (xs ++ ys) zs l3 a c result joins.lines
            (goes_then flashes xs ys l2 l3 a b c x result here goes last joins.gives);
      }
    where
      order_then : (r : Result U Fault) → OnOk r (Follows Q l2 l3 b c) → OnOk r (Follows R l l3 a c)
      order_then (Ok y) (ts, q, does) = (
        first.order.0 ++ ts,
        steps first.order.0 ts first.order.1 q,
        does_then first.order.0 ts l l2 l3 a b c first.order.2 does,
      )
      order_then (Err e) order = tt

      stops_then : (r : Result U Fault) → FaultEnds (Begin Q) l2.is_torn b c r
          → FaultEnds (Begin R) l.is_torn a c r
      stops_then (Ok y) stops = tt
      stops_then (Err e) stops =
          stop_after (Begin Q) (Begin R) (cause_of e) first.order.0 l l2 a b c first.order.2 stops
          (begin_after Q R first.order.0 (λ ts q. steps first.order.0 ts first.order.1 q))

  -- a fault before all is done
  pub performs_cut : {R : List Step → Type 0} {zs : List Entry} {May : Type 0} {F : U → Type 0}
      {l3 : Loaded} {e : Fault} {result : Result U Fault}
      → Performs P xs M D l l2 a b (Err e) → IsErrAnd result (λ x. x ≡ e)
      → ((ss : List Step) → P ss → (ts : List Step) × R (ss ++ ts))
      → (May → M × ((ys : List Entry) × (xs ++ ys ≡ zs))) → Performs R zs May F l l3 a b result
  performs_cut {R} {zs} {l3 = l3} {e = e} {result = result} first is longer may =
      record {
        order = not_ok _ e result is;
        stops = part_stops (Begin P) (Begin R) l.is_torn a b e result is (begin_on P R longer)
            first.stops;
        honest = λ flashes steady m.
            let rest = (may m).1 in
            goes_as flashes (xs ++ rest.0) zs l3 a b result rest.1
            (goes_failed flashes xs rest.0 l2 l3 a b e result
            (first.honest flashes steady (may m).0) is);
      }

  -- the exits behind the last step: out by its fault, and past it
  pub performs_out : {F : U → Type 0} {made : Result T Fault} {e : Fault} {result : Result U Fault}
      → Performs P xs M D l l2 a b made → made ≡ Err e → IsErrAnd result (λ x. x ≡ e)
      → Performs P xs M F l l2 a b result
  performs_out {e = e} all made is =
      let G : Result T Fault → Type 0 = λ r. Performs P xs M D l l2 a b r in
      performs_cut (subst G made all) is (λ ss p. ([], subst P (sym (append-nil ss)) p))
      (λ m. (m, ([], append-nil xs)))

  pub performs_past : {F : U → Type 0} {made : Result T Fault} {x : T} (y : U)
      → Performs P xs M D l l2 a b made → made ≡ Ok x → (D x → F y)
      → Performs P xs M F l l2 a b (Ok y)
  performs_past {x = x} y all made gives =
      let G : Result T Fault → Type 0 = λ r. Performs P xs M D l l2 a b r in
      let first = subst G made all in
      record {
        order = first.order;
        stops = tt;
        honest = λ flashes steady m.
            goes_ok flashes xs l2 a b x y (first.honest flashes steady m) gives;
      }

-- by clauses of their own
module _ {T : Type 0} {xs : List Entry} {M : Type 0} {D : T → Type 0} {l l2 : Loaded}
    {a b : RigState} {result : Result T Fault} where
  pub performs_of : {P : List Step → Type 0} → OnOk result (Follows P l l2 a b)
      → FaultEnds (Begin P) l.is_torn a b result
      → ((flashes : List (List ℕ)) → IsSteady flashes l a → M → Goes flashes xs l2 a b result D)
      → Performs P xs M D l l2 a b result
  performs_of order stops honest = record { order = order; stops = stops; honest = honest }

  pub performs_are : {steps : List Step} → OnOk result (DoesSteps steps l l2 a b)
      → FaultEnds (Begin (Are steps)) l.is_torn a b result
      → ((flashes : List (List ℕ)) → IsSteady flashes l a → M → Goes flashes xs l2 a b result D)
      → Performs (Are steps) xs M D l l2 a b result
  performs_are {steps} order stops honest = performs_of (done result order) stops honest
    where
      done : (r : Result T Fault) → OnOk r (DoesSteps steps l l2 a b)
          → OnOk r (Follows (Are steps) l l2 a b)
      done (Ok y) does = (steps, refl, does)
      done (Err e) does = tt

  -- the same steps, lines and aims, spelled otherwise
  pub performs_as : {P Q : List Step → Type 0} {zs : List Entry} {N : Type 0} {F : T → Type 0} → Performs P xs M D l l2 a b result
      → ((ss : List Step) → P ss → Q ss) → xs ≡ zs → (a.is_honest → N → M)
      → (a.is_honest → N → (y : T) → D y → F y) → Performs Q zs N F l l2 a b result
  performs_as {P} {Q} {zs} {N} {F} all made lines may gives =
      record {
        order = order_as result all.order;
        stops = stops_as result all.stops;
        honest = λ flashes steady n.
            goes_as flashes xs zs l2 a b result lines
            (goes_more result (all.honest flashes steady (may steady.honest n))
            (gives steady.honest n));
      }
    where
      order_as : (r : Result T Fault) → OnOk r (Follows P l l2 a b) → OnOk r (Follows Q l l2 a b)
      order_as (Ok y) order = (order.0, made order.0 order.1, order.2)
      order_as (Err e) order = tt

      stops_as : (r : Result T Fault) → FaultEnds (Begin P) l.is_torn a b r
          → FaultEnds (Begin Q) l.is_torn a b r
      stops_as (Ok y) stops = tt
      stops_as (Err e) stops =
          stop_as (Begin P) (Begin Q) (cause_of e) l.is_torn a b
          (λ ss more. (more.0, made (ss ++ more.0) more.1)) stops

      goes_more : {flashes : List (List ℕ)} (r : Result T Fault) → Goes flashes xs l2 a b r D
          → ((y : T) → D y → F y) → Goes flashes xs l2 a b r F
      goes_more {flashes} (Ok y) goes gives = goes_ok flashes xs l2 a b y y goes (gives y)
      goes_more {flashes} (Err e) goes gives = record {
        moments = goes.moments;
        fails = goes.fails;
        honest = goes.honest;
        steady = tt;
        lines = tt;
        done = tt;
      }

pub does_of : {steps : List Step} {l l2 : Loaded} {a b : RigState} → Follows (Are steps) l l2 a b
    → DoesSteps steps l l2 a b
does_of {steps} {l} {l2} {a} {b} made = does_as made.0 steps l l2 a b made.1 made.2

-- nothing was done
module _ {U : Type 0} {R : List Step → Type 0} {zs : List Entry} {May : Type 0} {F : U → Type 0}
    {l : Loaded} {a : RigState} (laws : StepLaws) (model : a.is_honest → IsModel a) where
  pub performs_none : (y : U) → R [] → (a.is_honest → May → (zs ≡ []) × F y)
      → Performs R zs May F l l a a (Ok y)
  performs_none y none done =
      record {
        order = ([], none, does_nothing l a);
        stops = tt;
        honest = λ flashes steady m.
            let is = done steady.honest m in
            goes_as flashes [] zs l a a (Ok y) (sym is.0)
            (goes_nowhere laws flashes l a y F (model steady.honest) steady is.1);
      }

  pub performs_refused : {l3 : Loaded} (result : Result U Fault)
      → IsErrAnd result (λ x. x ≡ Memory) → (steps : List Step) × R steps
      → Performs R zs May F l l3 a a result
  performs_refused {l3} result is some =
      record {
        order = not_ok _ Memory result is;
        stops = by_fault (λ k. StopsBy (Begin R) k l.is_torn a a) Memory result is
            (halts_first (Begin R) of_memory l.is_torn a some refl);
        honest = λ flashes steady m.
            let still = goes_nowhere laws flashes l a (tt {0}) (λ x. Unit {0})
            (model steady.honest) steady tt in
            goes_refused flashes [] zs l l3 a a (tt {0}) result still is;
      }
