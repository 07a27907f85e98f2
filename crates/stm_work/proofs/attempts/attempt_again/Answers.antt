use Rattle.std.proofs.Common.{[], ◌∷◌, ◌++◌, Ok, Err, Option, refl, subst}
use Rattle.stm_work.specs.declared.work.Work.{Work}
use Rattle.stm_work.specs.Action.{IsDoneAgain}
use Rattle.stm_work.specs.Again.Act.{Attempted, Read}
use Rattle.stm_work.specs.Again.AreActsDone.{in_turns, no_memory, once, unread}
use Rattle.stm_work.proofs.Acts.{does-again, lead-append}
use Rattle.stm_work.proofs.attempts.attempt_again.Goals as goal

pub returns-in-Err : goal.returns-in-Err
returns-in-Err g c =
    does-again g.A.Attempts.does c.args.work c.args.most (Read (Err c.in-Err.failure) ∷ []) _ _ _
    (_, c.in-Err.ensures, refl)
    (unread c.in-Err.failure)

pub returns-in-Ok-Some : goal.returns-in-Ok-Some
returns-in-Ok-Some g c =
    let before = c.in-Ok.before in
    let done = c.attempt_in_turns-done.ensures in
    let (tells, told, is) = c.tell_failed.ensures in
    does-again g.A.Attempts.does c.args.work c.args.most
    (Read (Ok before) ∷ (done.acts ++ tells)) _ _ _
    (_, c.in-Ok.ensures, lead-append g.A.Attempts.does done.acts tells _ _ _ done.lead told)
    (in_turns before done.turns done.acts tells c.attempt_in_turns-done.result done.done done.within
    done.last is)

pub returns-in-Ok-None : goal.returns-in-Ok-None
returns-in-Ok-None g c =
    let P : Option Work → Type 0 = λ x. IsDoneAgain c.args.work x in
    let before = c.in-Ok.before in
    does-again g.A.Attempts.does c.args.work c.args.most
    (Read (Ok before) ∷ Attempted c.args.work c.attempt.result ∷ []) _ _ _
    (_, c.in-Ok.ensures, (_, c.attempt.ensures, refl))
    (once before c.attempt.result (subst P c.in-Ok-None.field-0-is c.in-Ok-None.ensures))

pub returns : goal.returns
returns g c =
    does-again g.A.Attempts.does c.args.work c.args.most (Read (Ok c.in-Ok.before) ∷ []) _ _ _
    (_, c.in-Ok.ensures, refl)
    (no_memory c.in-Ok.before)
