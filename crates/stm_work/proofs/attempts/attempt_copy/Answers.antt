use Rattle.std.proofs.Common.{[], ◌∷◌, refl, subst, Option}
use Rattle.stm_work.specs.declared.work.Work.{Work}
use Rattle.stm_work.specs.Action.{IsDoneAgain}
use Rattle.stm_work.specs.Again.Act.{Attempted}
use Rattle.stm_work.specs.Again.Retries.{again, no_memory, not_again}
use Rattle.stm_work.proofs.attempts.attempt_copy.Goals as goal

pub returns-in-Ok-Some : goal.returns-in-Ok-Some
returns-in-Ok-Some g c =
    let same = c.in-Ok-Some.same in
    let P : Option Work → Type 0 = λ x. IsDoneAgain c.args.work.now x in
    let is = subst P c.in-Ok-Some.field-0-is (c.in-Ok-Some.ensures) in (
      Attempted same c.attempt.result ∷ [],
      (_, c.attempt.ensures, refl),
      λ count. again count same c.attempt.result is,
    )

pub returns-in-Ok-None : goal.returns-in-Ok-None
returns-in-Ok-None g c =
    let P : Option Work → Type 0 = λ x. IsDoneAgain c.args.work.now x in
    let is = subst P c.in-Ok-None.field-0-is (c.in-Ok-None.ensures) in
    ([], refl, λ count. not_again count is)

pub returns-in-Err : goal.returns-in-Err
returns-in-Err g c = ([], refl, λ count. no_memory count)
