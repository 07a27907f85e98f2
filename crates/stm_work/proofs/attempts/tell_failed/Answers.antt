use Rattle.std.proofs.Common.{[], ◌∷◌, Result, Ok, Err, refl, sym, subst}
use Rattle.stm_work.specs.declared.failure.Failure.{Failure}
use Rattle.stm_work.specs.declared.steps.Steps.{Steps}
use Rattle.stm_work.specs.Again.{TellsStanding}
use Rattle.stm_work.specs.Again.Act.{Read, ToldStanding}
use Rattle.stm_work.specs.Again.TellsStanding.{nothing, told, unread}
use Rattle.stm_work.proofs.attempts.tell_failed.Goals as goal

pub returns-in-Ok : goal.returns-in-Ok
returns-in-Ok g c =
    let P : Result Steps Failure → Type 0 = λ x. TellsStanding c.args.before [] x in
    ([], refl, subst P (sym c.in-Ok.is) (nothing c.in-Ok.field-0))

pub returns-in-Ok-read : goal.returns-in-Ok-read
returns-in-Ok-read g c =
    let now = c.in-Ok-read.now in
    let P : Result Steps Failure → Type 0 =
    λ x. TellsStanding c.args.before (Read (Ok now) ∷ ToldStanding c.args.before now ∷ []) x in (
      Read (Ok now) ∷ ToldStanding c.args.before now ∷ [],
      (_, c.in-Ok-read.ensures, (_, c.tell_standing.ensures, refl)),
      subst P (sym c.in-Err.is) (told c.in-Err.field-0 now),
    )

pub returns-in-Err-read : goal.returns-in-Err-read
returns-in-Err-read g c =
    let why = c.in-Err-read.field-0 in
    let P : Result Steps Failure → Type 0 = λ x. TellsStanding c.args.before (Read (Err why) ∷ []) x in (
      Read (Err why) ∷ [],
      (_, c.in-Err-read.ensures, refl),
      subst P (sym c.in-Err.is) (unread c.in-Err.field-0 why),
    )
