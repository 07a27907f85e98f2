-- How a command's answer follows from its steps'.
use Rattle.std.proofs.Common.{◌≡◌, Result, Ok, Err, IsErrAnd, IfOk, OnOk, subst, sym}
use Rattle.stm_wire.proofs.Names.{Does, IsOkOrLine, WireFault}
use Rattle.stm_wire.specs.declared.fault.WireFault.TheVariants.{Line}

-- the fault that ends it is the line's
pub does_line : {T : Type 0} (P : T → Type 0) (r : Result T WireFault) (e : WireFault) → IsErrAnd r (λ x. x ≡ e) → e ≡ Line → Does r P
does_line P (Ok x) e is line = absurd is
does_line P (Err x) e is line = record { fails = let Q : WireFault → Type 0 = λ y. y ≡ Line in subst Q (sym is) line; done = tt }

-- it ends as its last step does
pub does_last : {T : Type 0} (P : T → Type 0) (Q : Type 0) (r : Result T WireFault) → IsOkOrLine r → OnOk r Q → ((x : T) → Q → P x) → Does r P
does_last P Q (Ok x) line ok f = record { fails = tt; done = f x ok }
does_last P Q (Err e) line ok f = record { fails = line; done = tt }

-- it ends as its last step does, whose answer it passes on
pub does_value : {T : Type 0} (P Q : T → Type 0) (r : Result T WireFault) → IsOkOrLine r → IfOk r P → ((x : T) → P x → Q x) → Does r Q
does_value P Q (Ok x) line ok f = record { fails = tt; done = f x ok }
does_value P Q (Err e) line ok f = record { fails = line; done = tt }

pub if_ok_weaker : {T : Type 0} (P Q : T → Type 0) (r : Result T WireFault) → ((x : T) → P x → Q x) → IfOk r P → IfOk r Q
if_ok_weaker P Q (Ok x) f p = f x p
if_ok_weaker P Q (Err e) f p = tt
