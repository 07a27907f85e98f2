use Rattle.std.proofs.Common.{◌+◌, ◌-◌, ◌==◌, ◌∷◌, [], ◌++◌, ◌∙◌, ℕ, List, ap, sym}
use Rattle.stm_journal.proofs.Names.{kept_count, StateData}
use Rattle.stm_work.specs.WayBack.{unchanged_in}
use Rattle.stm_work.proofs.Unchanged.{more}
use Rattle.stm_work.proofs.way_back.unchanged_above.Goals as goal

pub loop-i-preserved : goal.loop-i-preserved
loop-i-preserved c =
    let s : StateData = c.args.journal.now.state in
    let a : ℕ = c.args.left + 1 in
    let i : ℕ = c.loop-i.i in
    c.in_ok-add_unchanged.ensures
    ∙ ap (λ (xs : List ℕ). xs ++ unchanged_in s ((a + i) ∷ [])) c.loop-i.invariant
    ∙ sym (more (λ (k : ℕ). kept_count s k == 0) a i)
