use Rattle.std.proofs.Common.{[], ◌∷◌, ◌++◌, ◌≡◌, Result, refl, sym, subst, inr, arith}
use Rattle.stm_work.specs.declared.failure.Failure.{Failure}
use Rattle.stm_work.specs.declared.steps.Steps.{Steps}
use Rattle.stm_work.specs.Again.{Turns}
use Rattle.stm_work.specs.Again.Act.{Attempted}
use Rattle.stm_work.specs.Again.Turns.{first, more}
use Rattle.stm_work.proofs.Acts.{lead-append, spent-last}
use Rattle.stm_work.proofs.attempts.attempt_in_turns.Goals as goal

pub loop-turn-init : goal.loop-turn-init
loop-turn-init g c = (
  Attempted c.args.same c.attempt-done.result ∷ [],
  (_, c.attempt-done.ensures, refl),
  first c.args.same c.attempt-done.result c.requires,
)

pub loop-turn-preserved : goal.loop-turn-preserved
loop-turn-preserved g c =
    let (acts, lead, turns) = c.loop-turn.invariant in
    let (next, go, is) = c.take_turn-done.ensures in
    let came = c.take_turn-done.result in
    let P : Result Steps Failure → Type 0 =
    λ x. Turns c.args.work.now c.args.before c.args.most c.loop-turn.turn acts x in (
      acts ++ next,
      lead-append g.A.Attempts.does acts next _ _ _ lead go,
      more c.loop-turn.turn acts next c.in-Err.failure came (subst P c.in-Err.is turns)
          (sym c.if-not-is_broken_off.ensures) is,
    )

pub returns-in-Ok : goal.returns-in-Ok
returns-in-Ok g c =
    let (acts, lead, turns) = c.loop-turn.invariant in
    let P : Result Steps Failure → Type 0 =
    λ x. Turns c.args.work.now c.args.before c.args.most c.loop-turn.turn acts x in
    record {
      acts = acts;
      lead = lead;
      turns = c.loop-turn.turn;
      done = subst P c.in-Ok.is turns;
      within = c.loop-turn.auto.turn-end;
      last = tt;
    }

pub returns-then-not-is_broken_off : goal.returns-then-not-is_broken_off
returns-then-not-is_broken_off g c =
    let (acts, lead, turns) = c.loop-turn.invariant in
    let P : Result Steps Failure → Type 0 =
    λ x. Turns c.args.work.now c.args.before c.args.most c.loop-turn.turn acts x in
    record {
      acts = acts;
      lead = lead;
      turns = c.loop-turn.turn;
      done = subst P c.in-Err.is turns;
      within = c.loop-turn.auto.turn-end;
      last = inr (sym c.if-not-is_broken_off.ensures);
    }

pub returns : goal.returns
returns g c =
    let (acts, lead, turns) = c.loop-turn.invariant in
    let all : c.loop-turn.turn ≡ c.args.most =
    omega (arith, c.loop-turn.auto.turn-end, c.loop-turn-test.false) in
    record {
      acts = acts;
      lead = lead;
      turns = c.loop-turn.turn;
      done = turns;
      within = c.loop-turn.auto.turn-end;
      last =
          spent-last c.args.most c.loop-turn.turn c.loop-turn.done all;
    }
