use Rattle.std.proofs.Common.{[], ◌∷◌, ◌≤◌, ◌≡◌, ◌+◌, Ok, Err, refl, sym, ◌∙◌, arith}
use Rattle.stm_work.specs.Again.Act.{Read, Undone}
use Rattle.stm_work.specs.Again.UndoesSince.{nothing, undone, unread}
use Rattle.stm_work.proofs.attempts.undo_since.Goals as goal

pub returns-in-Err : goal.returns-in-Err
returns-in-Err g c = (
  Read (Err c.in-Err.failure) ∷ [],
  (_, c.in-Err.ensures, refl),
  unread c.in-Err.failure,
)

pub returns-then-count-eq0 : goal.returns-then-count-eq0
returns-then-count-eq0 g c = (
  Read (Ok c.in-Ok.now) ∷ [],
  (_, c.in-Ok.ensures, refl),
  nothing c.in-Ok.now
      (sym c.begun_since-count.ensures ∙ c.if-count-eq0.true),
)

pub returns : goal.returns
returns g c =
    let some : 1 ≤ c.begun_since-count.result = omega (arith, c.if-count-eq0.false) in
    let just : c.args.before.depth + c.begun_since-count.result ≡ c.in-Ok.now.depth =
    omega (arith, c.begun_since-count.ensures) in (
      Read (Ok c.in-Ok.now) ∷ Undone c.begun_since-count.result c.undo.result ∷ [],
      (_, c.in-Ok.ensures, (_, c.undo.ensures, refl)),
      undone c.in-Ok.now c.begun_since-count.result c.undo.result some just,
    )
