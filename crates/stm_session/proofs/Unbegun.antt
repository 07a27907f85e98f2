-- Calls that begin no segment: settling with 7F, and then questions.
use Rattle.std.proofs.Common.{◌≡◌, ℕ, List, [], Result, Ok, Err, IsErrAnd, IfOk, OnOk, refl, sym, ◌∙◌, subst}
use Rattle.stm_wire.specs.declared.fault.WireFault.{WireFault}
use Rattle.stm_wire.specs.declared.fault.WireFault.TheVariants.{Line}
use Rattle.stm_wire.proofs.Names.{Device, IsDevice, IsModel, IsSettled, KeepsSettling, LeavesOnly, LeftBySettling, RigState, SameOutsideNoneIsSame}
use Rattle.stm_wire.specs.lemmas.MomentLaws.{joined, weaker}
use Rattle.stm_session.proofs.Names.{Asks, BeginsNothing, Fault, fault_of, IsOutsideFault, IsStill, IsUnbegun}
use Rattle.stm_session.proofs.Asking.{line_outside}
use Rattle.stm_session.proofs.Standing.{makes_then}

-- where nothing was changed, no segment was begun
pub still_is_unbegun : (old : RigState) (d : Device) (journal : List ℕ) → IsStill old d journal → IsUnbegun old d journal
still_is_unbegun old d journal still =
    record { journal_same = still.journal_same; make = still.make; flash = still.flash; safe = record { harmless = still.harmless 0x7F; owed = still.owed } }

-- a later moment begins nothing either
pub further : (a b : RigState) → IsUnbegun a b.device b.journal → (d : Device) (journal : List ℕ) → IsUnbegun b d journal → IsUnbegun a d journal
further a b first d journal then =
    record {
      journal_same = then.journal_same ∙ first.journal_same;
      make = makes_then a.device b.device d first.make then.make;
      flash = then.flash ∙ first.flash;
      safe = then.safe;
    }

-- questions to a device that was settled without beginning anything
pub then_asks : {T U : Type 0} {Done1 : T → Type 0} {Done2 Done : U → Type 0} (a b c : RigState) (x : T) (second : Result U Fault)
    → BeginsNothing a b (Ok x) Done1 → Asks b c second Done2 → ((y : U) → Done2 y → Done y) → BeginsNothing a c second Done
then_asks a b c x second first next gives =
    record {
      moments = joined (IsUnbegun a) (IsStill b) (IsUnbegun a) a b c first.moments next.moments (λ d journal u. u) (λ d journal u. further a b first.left d journal (still_is_unbegun b d journal u));
      fails = next.fails;
      left = further a b first.left c.device c.journal (still_is_unbegun b c.device c.journal next.left);
      honest = next.honest;
      settled = settled_too second next.same;
      done = ok_weaker second gives next.done;
    }
  where
    ok_weaker : {U : Type 0} {P Q : U → Type 0} (r : Result U Fault) → ((y : U) → P y → Q y) → IfOk r P → IfOk r Q
    ok_weaker (Ok y) f p = f y p
    ok_weaker (Err e) f p = tt

    settled_too : {U : Type 0} (r : Result U Fault) → OnOk r (c.device ≡ b.device) → OnOk r (IsSettled c.device)
    settled_too (Ok y) same = let P : Device → Type 0 = λ d. IsSettled d in subst P (sym same) first.settled
    settled_too (Err e) same = tt

-- the same with another fault at its end
pub begins_failed : {T U : Type 0} {Done1 : T → Type 0} {Done : U → Type 0} (a b : RigState) (e : Fault) (result : Result U Fault) → BeginsNothing a b (Err e) Done1 → IsErrAnd result (λ x. x ≡ e)
    → BeginsNothing a b result Done
begins_failed a b e (Ok x) begins is = absurd is
begins_failed a b e (Err y) begins is = record { moments = begins.moments; fails = subst IsOutsideFault (sym is) begins.fails; left = begins.left; honest = begins.honest; settled = tt; done = tt }

-- what a stop within settling with 7F leaves
pub left_by_settling : SameOutsideNoneIsSame → (old : RigState) → IsDevice old.device → (d : Device) (journal : List ℕ) → LeftBySettling 0x7F [] old.device old.journal d journal → IsUnbegun old d journal
left_by_settling same old is d journal left =
    record {
      journal_same = left.0;
      make = record { chip = left.1.same_chip; version = left.1.same_version; codes = left.1.same_codes };
      flash = same old.device.chip old.device.flash d.flash is.size left.1.flash;
      safe = record { harmless = left.1.harmless; owed = left.1.owed };
    }

-- what settling with 7F leaves at its end and before it
safely : (same : SameOutsideNoneIsSame) (old new : RigState) → IsModel old → IsModel new → KeepsSettling 0x7F [] old.device old new
    → LeavesOnly (IsUnbegun old) old new × IsUnbegun old new.device new.journal
safely same old new was is keeps =
    let moments = weaker (LeftBySettling 0x7F [] old.device old.journal) (IsUnbegun old) old new keeps.moments (left_by_settling same old was.device) in
    (moments, moments.each new.device new.journal (is.counts_now old.moment new.device moments.later (0, refl)))

pub settled_safely : {T : Type 0} (same : SameOutsideNoneIsSame) (old new : RigState) (x : T) (Done : T → Type 0) → IsModel old → IsModel new
    → KeepsSettling 0x7F [] old.device old new → IsSettled new.device → Done x → BeginsNothing old new (Ok x) Done
settled_safely same old new x Done was is keeps settled done =
    let both = safely same old new was is keeps in
    record { moments = both.0; fails = tt; left = both.1; honest = keeps.honest; settled = settled; done = done }

pub stopped_safely : {T : Type 0} (same : SameOutsideNoneIsSame) (old new : RigState) (result : Result T Fault) (Done : T → Type 0) (e : WireFault) → IsModel old → IsModel new
    → KeepsSettling 0x7F [] old.device old new → e ≡ Line → IsErrAnd result (λ x. x ≡ fault_of e) → BeginsNothing old new result Done
stopped_safely same old new (Ok x) Done e was is keeps line is_err = absurd is_err
stopped_safely same old new (Err y) Done e was is keeps line is_err =
    let both = safely same old new was is keeps in
    record { moments = both.0; fails = subst IsOutsideFault (sym is_err) (line_outside e line); left = both.1; honest = keeps.honest; settled = tt; done = tt }
