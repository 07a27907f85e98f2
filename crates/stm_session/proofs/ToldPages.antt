-- What was told in a part of a call was told in the call.
use Rattle.std.proofs.Common.{Bool, List, ◌++◌, ◌∙◌, ap, subst, Option}
use Rattle.stm_wire.proofs.Names.{Call, GoesOn, RigState}
use Rattle.stm_wire.specs.lemmas.DialogueLaws.{GoesOn-append, GoesOn-weaker}
use Rattle.stm_journal.proofs.Names.{Loaded}
use Rattle.stm_session.proofs.Names.{acts_of, AreCalls, DoesSteps, EndsWith, IsInOrder, Step, tells_behind, ToldBy, ToldIn}
use Rattle.stm_session.proofs.Orders.{acts-append, order_then}
use Rattle.stm_session.proofs.Tellings.{SaysAlso}

-- whatever the calls are
pub some_calls : (P : List Call → Type 0) (a b : Option (List Call)) → GoesOn P a b → GoesOn AreCalls a b
some_calls P a b p = GoesOn-weaker P AreCalls a b p (λ xs x. tt)

module _ {R : Type 0} (view : R → RigState) where
  -- others came behind
  pub told_on : (P : List Call → Type 0) (torn : Bool) (a b c : RigState) → GoesOn P b.calls c.calls → SaysAlso (ToldIn view torn a b) (ToldIn view torn a c)
  told_on P torn a b c more steps page told =
      record {
        before = told.before;
        after = told.after;
        done = told.done;
        fetches = told.fetches;
        brought = told.brought;
        rest = GoesOn-append AreCalls P AreCalls (view told.after).calls b.calls c.calls told.rest more (λ xs ys x y. tt);
      }

  -- or before
  pub told_then : (xs : List Step) (l l2 : Loaded) (a b c : RigState) → DoesSteps xs l l2 a b → SaysAlso (ToldIn view l2.is_torn b c) (tells_behind xs (ToldIn view l.is_torn a c))
  told_then xs l l2 a b c does steps page told =
      let Q : Bool → Type 0 = λ t. GoesOn (IsInOrder t steps) b.calls (view told.before).calls in
      record {
        before = told.before;
        after = told.after;
        done = order_then l.is_torn xs steps a.calls b.calls (view told.before).calls does.acts (subst Q does.torn told.done);
        fetches = told.fetches;
        brought = told.brought;
        rest = told.rest;
      }

  -- a session was opened before
  pub told_by : (P : List Call → Type 0) (torn : Bool) (a b c : RigState) → GoesOn P a.calls b.calls → SaysAlso (ToldIn view torn b c) (ToldBy view a c)
  told_by P torn a b c opened steps page told =
      record {
        before = told.before;
        after = told.after;
        done = GoesOn-append P (IsInOrder torn steps) (EndsWith steps) a.calls b.calls (view told.before).calls opened told.done
            (λ xs ys x y. (torn, acts_of xs, acts-append xs ys ∙ ap (λ (l : List Call). acts_of xs ++ l) y));
        fetches = told.fetches;
        brought = told.brought;
        rest = told.rest;
      }
