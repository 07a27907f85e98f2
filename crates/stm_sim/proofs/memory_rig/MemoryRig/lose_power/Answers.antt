use Rattle.std.proofs.Common.{rules, arith, ◌≡◌, List, [], refl, sym, ◌∙◌, ap}
use Rattle.stm_sim.specs.declared.past.PastStep.{PastStep}
use Rattle.stm_wire.proofs.Names.{Device, page_size}
use Rattle.stm_sim.specs.Memory.{MemoryData}
use Rattle.stm_sim.proofs.PowerLosses.{powered-outside}
use Rattle.stm_sim.proofs.memory_rig.MemoryRig.lose_power.Goals as goal

pub invariant_of-self : goal.invariant_of-self
invariant_of-self c =
    let new : Device = c.lose_power.new.self in
    let steps : List PastStep = c.clear.new.self.items in
    let none : steps ≡ [] = c.clear.ensures.items in (
      record {
        is_device = c.lose_power.ensures.device;
        places = search rules;
        replayed = rw none (rw c.lose_power.ensures.lost refl);
        added = search rules;
        limit = c.self.invariant.0.limit;
      },
      omega arith,
      omega arith,
    )

pub returns-clause-outside : goal.returns-clause-outside
returns-clause-outside c =
    let n = c.args.n in
    let page = c.args.page.now in
    let old : Device = c.self.inside.simulator in
    let at : c.args.self.now.device ≡ old = sym (ap (λ (m : MemoryData). m.device) c.self.view_is) in
    rw c.lose_power.ensures.lost (rw at (powered-outside n page old c.self.invariant.0.is_device (c.requires.size ∙ ap (λ (d : Device). page_size d.chip n) at)))

pub returns-clause-honest : goal.returns-clause-honest
returns-clause-honest c = λ old. (invariant_of-self c).0
