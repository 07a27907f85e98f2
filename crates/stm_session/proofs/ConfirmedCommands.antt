-- Commands behind the question whether a device is still the chip's board, on any line.
use Rattle.std.proofs.Common.{◌≡◌, ◌≢◌, ◌⊎◌, inl, inr, ◌+◌, ℕ, Bool, false, List, [], ◌++◌, map, Some, Result, Ok, Err, IsErrAnd, IfOk, IfErr, refl, ◌∙◌, arith}
use Rattle.std.specs.Prelude.{⊤}
use Rattle.stm_wire.proofs.Names.{ChipData, GoesOn, IsModel, IsSettled, RigState}
use Rattle.stm_journal.proofs.Names.{is_unfinished, Loaded, StateData}
use Rattle.stm_session.proofs.Names.{Asks, Begin, cause_of, Command, commands_in, confirmed_at, confirming, DoesCommands, DoesSteps, Fault, FaultEnds, Follows, HasSessionCause, is_whole, IsAfter}
use Rattle.stm_session.proofs.Names.{IsConfirmedInPart, IsConfirming, IsInOrder, IsOfLine, most_of_confirming, Outcome, outcome_data, OutcomeData, PutsAtMost, Step, StepLaws, StopsBy, StopsTelling}
use Rattle.stm_session.specs.declared.fault.Fault.TheVariants as faults
use Rattle.stm_session.proofs.Causes.{cause_behind}
use Rattle.stm_session.proofs.Confirmed.{confirmed_chip, confirmed_steady, run_confirmed, run_unconfirmed}
use Rattle.stm_session.proofs.Confirmings.{does_confirm, is_finished}
use Rattle.stm_session.proofs.CutShort.{stop_after, stop_as}
use Rattle.stm_session.proofs.Orders.{does_then}
use Rattle.stm_session.proofs.Reaching.{at_fault}
use Rattle.stm_session.proofs.SentParts.{part_after, part_fails}

pub cause_then : {T U : Type 0} (u : T) (a b c : RigState) (r : Result U Fault) → HasSessionCause {T = T} a b (Ok u) → HasSessionCause b c r → HasSessionCause a c r
cause_then {T} {U} u a b c (Err e) p q = cause_behind {T = T} {U = U} {V = U} u a b c e (Err e) refl p q
cause_then u a b c (Ok y) p q =
    record {
      line_later = omega (arith, p.line_later, q.line_later);
      journal_later = omega (arith, p.journal_later, q.journal_later);
      failed = tt;
      line_done = q.line_done ∙ p.line_done;
      line_kept = tt;
      journal_done = q.journal_done ∙ p.journal_done;
      journal_kept = tt;
      honest = λ h. q.honest (p.honest h);
    }

-- Commands, and what is allowed of them.
module _ {T : Type 0} (laws : StepLaws) (chip : ChipData) (commands : List Command) (most : ℕ) (Done : List OutcomeData → StateData → List Step → Type 0) (Begun : Fault → List Step → Type 0) (IsOfNone : Fault → Type 0)
    (l l2 : Loaded) (a b : RigState) (result : Result T Fault) (outcomes_of : T → List Outcome) (finished : is_unfinished l.state ≡ false) (model : a.is_honest → IsModel a) where
  abbrev AllDone : List OutcomeData → StateData → List Step → Type 0
  AllDone said last = IsAfter (confirming chip) (Done said last)

  abbrev AllBegun : Fault → List Step → Type 0
  AllBegun fault = IsConfirmedInPart chip (Begun fault)

  -- another board answers, or none
  pub confirm_fails : (e : Fault) → IsErrAnd result (λ x. x ≡ e) → PutsAtMost {T = Unit {0}} chip most_of_confirming a b (Err e)
      → ((torn : Bool) → FaultEnds {T = Unit {0}} (Begin (IsConfirming (confirmed_at chip))) torn a b (Err e)) → IsOfLine e ⊎ (e ≡ faults.BoardChanged)
      → (a.is_honest → IsSettled a.device → a.device.chip ≡ chip → Asks {T = Unit {0}} a b (Err e) (λ x. ⊤)) → HasSessionCause a b result → (commands ≡ [] → IfErr result IsOfNone)
      → DoesCommands (most_of_confirming + most) AllDone AllBegun IsOfNone chip commands l l a b result outcomes_of
  confirm_fails e is put stops named honest cause none =
      let P : Fault → Type 0 = λ x. StopsBy (AllBegun x) (cause_of x) l.is_torn a b in
      record {
        puts = part_fails (Some chip) most_of_confirming (most_of_confirming + most) a.calls b.calls e result (omega arith) is put;
        kinds = not_ok _ result is;
        order = not_ok _ result is;
        stops = at_fault P e result is (stop_as (Begin (IsConfirming (confirmed_at chip))) (AllBegun e) (cause_of e) l.is_torn a b (λ xs x. inl x) (stops l.is_torn));
        none = none;
        cause = cause;
        named = at_fault (λ x. x ≢ faults.Unfinished) e result is (is_finished e named);
        honest = λ flashes steady chip_is.
            run_unconfirmed laws flashes l a b steady (model steady.honest) finished (commands_in commands) e result (λ x. map outcome_data (outcomes_of x)) (honest steady.honest steady.settled chip_is) is;
      }
    where
      not_ok : (P : T → Type 0) (r : Result T Fault) → IsErrAnd r (λ x. x ≡ e) → IfOk r P
      not_ok P (Ok x) is = absurd is
      not_ok P (Err x) is = tt

  -- or the chip's board does, and the commands follow
  pub confirm_then : (d : RigState) → PutsAtMost {T = Unit {0}} chip most_of_confirming a b (Ok tt) → ((torn : Bool) → GoesOn (IsInOrder torn (confirming chip)) a.calls b.calls)
      → (a.is_honest → IsSettled a.device → a.device.chip ≡ chip → Asks {T = Unit {0}} a b (Ok tt) (λ x. ⊤)) → HasSessionCause {T = Unit {0}} a b (Ok tt)
      → DoesCommands most Done Begun (λ fault. ⊥) chip commands l l2 b d result outcomes_of → DoesCommands (most_of_confirming + most) AllDone AllBegun IsOfNone chip commands l l2 a d result outcomes_of
  confirm_then d put order honest cause does =
      let first = does_confirm chip l a b (order l.is_torn) in
      record {
        puts = part_after (Some chip) (is_whole result) most_of_confirming most (most_of_confirming + most) a.calls b.calls d.calls (omega arith) put does.puts;
        kinds = does.kinds;
        order = in_order first result does.order;
        stops = in_part first result does.stops;
        none = λ none. of_none result (does.none none);
        cause = cause_then tt a b d result cause does.cause;
        named = does.named;
        honest = λ flashes steady chip_is.
            let asks = honest steady.honest steady.settled chip_is in
            let runs = does.honest flashes (confirmed_steady laws flashes l a b steady asks) (confirmed_chip laws flashes l a b steady chip chip_is asks) in
            run_confirmed laws flashes l a b steady (model steady.honest) finished (commands_in commands) d result (λ x. map outcome_data (outcomes_of x)) asks runs;
      }
    where
      in_order : DoesSteps (confirming chip) l l a b → (r : Result T Fault) → IfOk r (λ x. Follows (Done (map outcome_data (outcomes_of x)) l2.state) l l2 b d) → IfOk r (λ x. Follows (AllDone (map outcome_data (outcomes_of x)) l2.state) l l2 a d)
      in_order first (Ok x) (steps, done, acts) = (confirming chip ++ steps, (steps, refl, done), does_then (confirming chip) steps l l l2 a b d first acts)
      in_order first (Err e) done = tt

      in_part : DoesSteps (confirming chip) l l a b → (r : Result T Fault) → StopsTelling Begun l.is_torn b d r → StopsTelling AllBegun l.is_torn a d r
      in_part first (Ok x) stops = tt
      in_part first (Err e) stops = stop_after (Begun e) (AllBegun e) (cause_of e) (confirming chip) l l a b d first stops (λ ys p. inr (ys, refl, p))

      of_none : (r : Result T Fault) → IfErr r (λ fault. ⊥) → IfErr r IsOfNone
      of_none (Ok x) none = tt
      of_none (Err e) none = absurd none
