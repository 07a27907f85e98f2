use Rattle.std.proofs.Common.{◌≡◌, List, ℕ, sym, ◌∙◌, ap, subst}
use Rattle.stm_sim.specs.Memory.{MemoryData, rig_state}
use Rattle.stm_session.proofs.Names.{Leads, lost_power, now_of, risked_pages, state_at, World}
use Rattle.stm_histories.proofs.Risks.{powerless, risked-loaded, same-world}
use Rattle.stm_histories.proofs.unpowered.lose_power.Goals as goal

pub returns-clause-lost : goal.returns-clause-lost
returns-clause-lost c honest =
    let old : MemoryData = c.args.memory.now in
    let mid : MemoryData = c.load.new.rig in
    let spoilt : MemoryData = c.spoil.new.memory in
    let new : MemoryData = c.reset.new.self in
    let loads = c.in_ok-journal.ensures.honest honest in
    let pages : List ℕ = risked_pages c.in_ok-journal.journal.state in
    let risked : pages ≡ risked_pages (state_at mid.journal) =
    risked-loaded c.in_ok-journal.journal old.journal loads.loaded
    ∙ ap (λ (j : List ℕ). risked_pages (state_at j)) (sym loads.journal) in
    let L : World → Type 0 = λ w. Leads rig_state lost_power w (now_of (rig_state new)) in
    subst L (same-world mid old loads.same_device loads.journal)
    (powerless pages mid spoilt new c.spoil.ensures risked loads.honest c.reset.ensures.reset
    c.reset.ensures.honest)
