-- What a fault comes of, behind calls that answered Ok.
use Rattle.std.proofs.Common.{◌≡◌, ◌∙◌, Result, Ok, Err, IsErrAnd, arith, subst, sym}
use Rattle.stm_wire.proofs.Names.{RigState, Rises}
use Rattle.stm_session.proofs.Names.{Cause, cause_of, Fault, HasSessionCause, KeepsFileCountBy, KeepsLineCountBy, of_file, of_line, RisesBy}

rises_behind : (a b c : RigState) (k : Cause) → b.line_failures ≡ a.line_failures → b.journal_failures ≡ a.journal_failures → RisesBy b c k → RisesBy a c k
rises_behind a b c of_line line file r = subst (λ n. Rises n c.line_failures) line r
rises_behind a b c of_file line file r = subst (λ n. Rises n c.journal_failures) file r
rises_behind a b c k line file r = tt

keeps_line_behind : (a b c : RigState) (k : Cause) → b.line_failures ≡ a.line_failures → KeepsLineCountBy b c k → KeepsLineCountBy a c k
keeps_line_behind a b c of_line line r = tt
keeps_line_behind a b c k line r = r ∙ line

keeps_file_behind : (a b c : RigState) (k : Cause) → b.journal_failures ≡ a.journal_failures → KeepsFileCountBy b c k → KeepsFileCountBy a c k
keeps_file_behind a b c of_file file r = tt
keeps_file_behind a b c k file r = r ∙ file

-- calls that answered Ok, and one that failed, whose fault is handed on
pub cause_behind : {T U V : Type 0} (u : T) (a b c : RigState) (e : Fault) (r : Result V Fault) → IsErrAnd r (λ x. x ≡ e) → HasSessionCause {T = T} a b (Ok u) → HasSessionCause {T = U} b c (Err e) → HasSessionCause a c r
cause_behind u a b c e (Ok x) is p q = absurd is
cause_behind u a b c e (Err f) is p q = record {
  line_later = omega (arith, p.line_later, q.line_later);
  journal_later = omega (arith, p.journal_later, q.journal_later);
  failed = (let R : Fault → Type 0 = λ x. RisesBy a c (cause_of x) in subst R (sym is) (rises_behind a b c (cause_of e) p.line_done p.journal_done q.failed));
  line_done = tt;
  line_kept = (let K : Fault → Type 0 = λ x. KeepsLineCountBy a c (cause_of x) in subst K (sym is) (keeps_line_behind a b c (cause_of e) p.line_done q.line_kept));
  journal_done = tt;
  journal_kept = (let K : Fault → Type 0 = λ x. KeepsFileCountBy a c (cause_of x) in subst K (sym is) (keeps_file_behind a b c (cause_of e) p.journal_done q.journal_kept));
  honest = λ h. q.honest (p.honest h);
}
