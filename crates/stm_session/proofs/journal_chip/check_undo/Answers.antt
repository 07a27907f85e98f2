use Rattle.std.proofs.Common.{◌≡◌, ◌∙◌, None, Some, MatchResult, Ok, Err, Result, IsErrAnd, sym, subst}
use Rattle.stm_session.proofs.Names.{begun_refusal, Fault}
use Rattle.stm_session.proofs.Unasked.{by_id, no_header}
use Rattle.stm_session.proofs.journal_chip.check_undo.Goals as goal

on_fault : (P : Unit {0} → Type 0) (Q : Fault → Type 0) (r : Result (Unit {0}) Fault) (e : Fault) → IsErrAnd r (λ x. x ≡ e) → Q e → MatchResult r P Q
on_fault P Q (Ok x) e is q = absurd is
on_fault P Q (Err x) e is q = subst Q (sym is) q

pub returns-in_default : goal.returns-in_default
returns-in_default c = no_header c.args.journal.now.state c.args.table.now c.args.journal.now.state.header c.in_default.ensures

pub returns-in_err-find_unasked : goal.returns-in_err-find_unasked
returns-in_err-find_unasked c =
    let s = c.args.journal.now.state in
    on_fault (λ x. begun_refusal s c.args.table.now s.header ≡ None) (λ fault. begun_refusal s c.args.table.now s.header ≡ Some fault) c.from_residual.result _ c.from_residual.ensures.1
    (by_id s c.args.table.now s.header c.in-Some.id (sym c.in-Some.ensures) ∙ c.in_err-find_unasked.ensures.refused)

pub returns : goal.returns
returns c = let s = c.args.journal.now.state in by_id s c.args.table.now s.header c.in-Some.id (sym c.in-Some.ensures) ∙ c.in_ok-find_unasked.ensures.accepted
