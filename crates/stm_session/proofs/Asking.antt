-- Questions to a settled device: what a stop in one leaves, and how two join.
use Rattle.std.proofs.Common.{◌≡◌, ℕ, List, Result, Ok, Err, IsErrAnd, IfOk, OnOk, refl, sym, ◌∙◌, subst}
use Rattle.stm_wire.specs.declared.fault.WireFault.{WireFault}
use Rattle.stm_wire.specs.declared.fault.WireFault.TheVariants.{Line}
use Rattle.stm_wire.proofs.Names.{AskingChangesNothing, BreaksOff, command, Device, get, IsDevice, IsHeldToEnd, IsModel, IsQuestion, IsSettled, LeftBySending, RigState, Turn}
use Rattle.stm_wire.specs.lemmas.MomentLaws.{joined, started, weaker}
use Rattle.stm_session.proofs.Names.{Asks, Fault, fault_of, IsOutsideFault, IsStill}
use Rattle.stm_session.specs.declared.fault.Fault.TheVariants.{Memory}
use Rattle.stm_session.proofs.Standing.{makes_then}

pub line_outside : (e : WireFault) → e ≡ Line → IsOutsideFault (fault_of e)
line_outside e is = subst (λ x. IsOutsideFault (fault_of x)) (sym is) tt

-- what a stop within a question leaves
pub left_by_asking : AskingChangesNothing → (old : RigState) (frame : List ℕ) → IsDevice old.device → IsSettled old.device → IsQuestion old.device.chip frame
    → (d : Device) (journal : List ℕ) → LeftBySending frame old d journal → IsStill old d journal
left_by_asking law old frame is settled question d journal left =
    let safely = law old.device d 0x7F frame is settled question left.1 in
    record {
      journal_same = left.0;
      make = record { chip = safely.0.same_chip; version = safely.0.same_version; codes = safely.0.same_codes };
      flash = safely.1;
      harmless = λ byte. (law old.device d byte frame is settled question left.1).0.harmless;
      awaits = λ byte. (law old.device d byte frame is settled question left.1).0.awaits;
      owed = safely.0.owed;
    }

-- a question that was answered
pub asked : {T : Type 0} {frame : List ℕ} {turns : List Turn} (law : AskingChangesNothing) (old new : RigState) (x : T) (Done : T → Type 0) → old.is_honest
    → IsDevice old.device → IsSettled old.device → IsQuestion old.device.chip frame → IsHeldToEnd frame turns old new → new.device ≡ old.device → Done x → Asks old new (Ok x) Done
asked {frame = frame} law old new x Done honest is settled question holds same done =
    let sent = holds.honestly honest in
    record {
      moments = weaker (LeftBySending frame old) (IsStill old) old new sent.moments (left_by_asking law old frame is settled question);
      fails = tt;
      left = left_by_asking law old frame is settled question new.device new.journal (sent.journal, (0, (old.device, refl, (0, same))));
      honest = sent.honest;
      same = same;
      done = done;
    }

-- a question that was broken off
pub broken_off : {T : Type 0} {frame : List ℕ} {turns : List Turn} {fault : WireFault} (law : AskingChangesNothing) (old new : RigState) (result : Result T Fault) (Done : T → Type 0) → old.is_honest
    → IsDevice old.device → IsSettled old.device → IsQuestion old.device.chip frame → BreaksOff fault frame turns old new → fault ≡ Line
    → IsErrAnd result (λ e. e ≡ fault_of fault) → Asks old new result Done
broken_off law old new (Ok x) Done honest is settled question breaks line is_err = absurd is_err
broken_off {frame = frame} {fault = fault} law old new (Err e) Done honest is settled question breaks line is_err =
    let sent = breaks.honestly honest in
    record {
      moments = weaker (LeftBySending frame old) (IsStill old) old new sent.moments (left_by_asking law old frame is settled question);
      fails = subst IsOutsideFault (sym is_err) (line_outside fault line);
      left = left_by_asking law old frame is settled question new.device new.journal (sent.journal, sent.fed);
      honest = sent.honest;
      same = tt;
      done = tt;
    }

-- a later moment is still too
still_further : (a b : RigState) → IsStill a b.device b.journal → (d : Device) (journal : List ℕ) → IsStill b d journal → IsStill a d journal
still_further a b first d journal then =
    record {
      journal_same = then.journal_same ∙ first.journal_same;
      make = makes_then a.device b.device d first.make then.make;
      flash = then.flash ∙ first.flash;
      harmless = then.harmless;
      awaits = then.awaits;
      owed = then.owed;
    }

-- two calls, one after the other
pub asks_then : {T U : Type 0} {Done1 : T → Type 0} {Done2 Done : U → Type 0} (a b c : RigState) (x : T) (second : Result U Fault)
    → Asks a b (Ok x) Done1 → Asks b c second Done2 → ((y : U) → Done2 y → Done y) → Asks a c second Done
asks_then a b c x second first next gives =
    record {
      moments = joined (IsStill a) (IsStill b) (IsStill a) a b c first.moments next.moments (λ d journal u. u) (still_further a b first.left);
      fails = next.fails;
      left = still_further a b first.left c.device c.journal next.left;
      honest = next.honest;
      same = same_first second next.same;
      done = ok_weaker second gives next.done;
    }
  where
    ok_weaker : {U : Type 0} {P Q : U → Type 0} (r : Result U Fault) → ((y : U) → P y → Q y) → IfOk r P → IfOk r Q
    ok_weaker (Ok y) f p = f y p
    ok_weaker (Err e) f p = tt

    same_first : {U : Type 0} (r : Result U Fault) → OnOk r (c.device ≡ b.device) → OnOk r (c.device ≡ a.device)
    same_first (Ok y) same = same ∙ first.same
    same_first (Err e) same = tt

-- the same with another value or another fault at its end
pub asks_ok : {T U : Type 0} {Done1 : T → Type 0} {Done : U → Type 0} (a b : RigState) (x : T) (y : U) → Asks a b (Ok x) Done1 → (Done1 x → Done y) → Asks a b (Ok y) Done
asks_ok a b x y asks gives = record { moments = asks.moments; fails = tt; left = asks.left; honest = asks.honest; same = asks.same; done = gives asks.done }

pub asks_failed : {T U : Type 0} {Done1 : T → Type 0} {Done : U → Type 0} (a b : RigState) (e : Fault) (result : Result U Fault) → Asks a b (Err e) Done1 → IsErrAnd result (λ x. x ≡ e) → Asks a b result Done
asks_failed a b e (Ok x) asks is = absurd is
asks_failed a b e (Err y) asks is = record { moments = asks.moments; fails = subst IsOutsideFault (sym is) asks.fails; left = asks.left; honest = asks.honest; same = tt; done = tt }

-- before the first call
pub nothing_asked : {T : Type 0} (law : AskingChangesNothing) (a : RigState) (x : T) (Done : T → Type 0) → a.is_honest → IsModel a → IsSettled a.device → Done x → Asks a a (Ok x) Done
nothing_asked law a x Done honest is settled done =
    let left = λ (d : Device) (journal : List ℕ) (both : LeftBySending (command 0x00) a d journal). left_by_asking law a (command 0x00) is.device settled (get refl) d journal both in
    record {
      moments = started (IsStill a) a is (λ d loses. left d a.journal (refl, (0, (a.device, refl, loses))));
      fails = tt;
      left = left a.device a.journal (refl, (0, (a.device, refl, (0, refl))));
      honest = honest;
      same = refl;
      done = done;
    }

-- after calls that were answered, memory is refused
pub memory_refused : {T U : Type 0} {Done1 : T → Type 0} {Done : U → Type 0} (a b : RigState) (x : T) (result : Result U Fault) → Asks a b (Ok x) Done1
    → IsErrAnd result (λ y. y ≡ Memory) → Asks a b result Done
memory_refused a b x (Ok y) asks is = absurd is
memory_refused a b x (Err y) asks is = record { moments = asks.moments; fails = subst IsOutsideFault (sym is) tt; left = asks.left; honest = asks.honest; same = tt; done = tt }

-- a device that was settled is so after questions that were answered
pub settled_still : {T : Type 0} {Done : T → Type 0} (a b : RigState) (x : T) → IsSettled a.device → Asks a b (Ok x) Done → IsSettled b.device
settled_still a b x settled asks = let P : Device → Type 0 = λ d. IsSettled d in subst P (sym asks.same) settled
