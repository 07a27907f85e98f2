use Rattle.std.proofs.Common.{[], ◌∷◌, ◌++◌, Result, Err, ℕ, refl, sym, subst}
use Rattle.stm_work.specs.declared.failure.Failure.{Failure}
use Rattle.stm_work.specs.Again.{Retries}
use Rattle.stm_work.specs.Again.Act.{ToldTurn}
use Rattle.stm_work.specs.Again.Retries.{not_taken}
use Rattle.stm_work.proofs.Acts.{lead-append}
use Rattle.stm_work.proofs.attempts.take_turn.Goals as goal

pub returns-in-Ok : goal.returns-in-Ok
returns-in-Ok g c =
    let (back, lead, takes) = c.undo_since-back.ensures in
    let (next, go, retries) = c.attempt_copy.ensures in
    let taken = c.undo_since-back.result in
    let told = ToldTurn c.args.turn c.args.most c.args.failure taken in (
      back ++ (told ∷ next),
      lead-append g.A.Attempts.does back (told ∷ next) _ _ _ lead (_, c.tell_turn.ensures, go),
      record {
        back = back;
        taken = taken;
        undoes = takes;
        next = next;
        retries = (let P : Result ℕ Failure
            → Type 0 = λ x. Retries c.args.work.now c.args.failure x next c.attempt_copy.result in
            subst P (sym c.in-Ok.is) (retries c.in-Ok.field-0));
        acts_are = refl;
      },
    )

pub returns-in-Err : goal.returns-in-Err
returns-in-Err g c =
    let (back, lead, takes) = c.undo_since-back.ensures in
    let taken = c.undo_since-back.result in
    let told = ToldTurn c.args.turn c.args.most c.args.failure taken in (
      back ++ (told ∷ []),
      lead-append g.A.Attempts.does back (told ∷ []) _ _ _ lead (_, c.tell_turn.ensures, refl),
      record {
        back = back;
        taken = taken;
        undoes = takes;
        next = [];
        retries = (let P : Result ℕ Failure
            → Type 0 = λ x. Retries c.args.work.now c.args.failure x []
            (Err c.in-Err.why) in subst P (sym c.in-Err.is) (not_taken c.in-Err.why));
        acts_are = refl;
      },
    )
