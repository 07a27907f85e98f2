use Rattle.std.proofs.Common.{◌+◌, ℕ, List, length, Option, ap, ap₂, sym, ◌∙◌}
use Rattle.std.specs.Prelude.{sum_by}
use Rattle.stm_journal.proofs.Names.{capped, entries_of, SegmentData, stack_of, StateData}
use Rattle.stm_journal.proofs.Kepts.{entries-stack}
use Rattle.stm_journal.proofs.state.State.entries.Goals as goal

pub returns-in-Some : goal.returns-in-Some
returns-in-Some c =
    let below = c.self.inside.below.items in
    c.counted.ensures
    ∙ ap (λ (n : ℕ). capped n)
    (ap₂ (λ (a b : ℕ). a + b) c.count.ensures (ap (λ (xs : List SegmentData). sum_by (λ segment. length segment.pages) xs) c.deref.ensures.value)
    ∙ entries-stack c.in-Some.newest below
    ∙ ap (λ (o : Option SegmentData). sum_by (λ segment. length segment.pages) (stack_of o below)) (sym c.in-Some.is)
    ∙ ap (λ (s : StateData). entries_of s) c.self.view_is)
