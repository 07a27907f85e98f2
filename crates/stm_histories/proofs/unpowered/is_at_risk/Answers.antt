use Rattle.std.proofs.Common.{◌≡◌, ℕ, length, true, sym, ◌∙◌, ap}
use Rattle.std.specs.Prelude.{is_some}
use Rattle.stm_journal.proofs.Names.{page_place, StateData}
use Rattle.stm_histories.proofs.Risks.{at-risk}
use Rattle.stm_histories.proofs.unpowered.is_at_risk.Goals as goal

pub returns-then-is_unfinished : goal.returns-then-is_unfinished
returns-then-is_unfinished c kept =
    let s : StateData = c.args.journal.now.state in
    let place = c.page.ensures.place
    ∙ ap (λ (k : ℕ). page_place s k c.args.n) c.depth.ensures.value in
    let some : is_some (page_place s (length s.stack) c.args.n) ≡ true =
    sym (c.is_some.ensures ∙ ap (λ o. is_some o) place) ∙ kept in
    at-risk s c.args.n (sym c.is_unfinished.ensures ∙ c.if-is_unfinished.true) some
