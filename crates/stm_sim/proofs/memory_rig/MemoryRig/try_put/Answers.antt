use Rattle.std.proofs.Common.{◌<◌, ◌++◌, ◌∷◌, [], ◌∙◌, ap, refl, arith, List}
use Rattle.std.specs.Option.{option_map}
use Rattle.stm_wire.specs.declared.rig.RigCall.{RigCall}
use Rattle.stm_sim.specs.declared.past.PastStep.{PastStep}
use Rattle.stm_wire.specs.declared.rig.RigCall.TheVariants.{Put}
use Rattle.stm_sim.specs.declared.past.PastStep.TheVariants.{Fed}
use Rattle.stm_sim.specs.Simulator.{simulated_device}
use Rattle.stm_sim.specs.lemmas.SimulatedDevice.{simulated_device-IsDevice}
use Rattle.stm_sim.specs.Memory.{MemoryData, memory_of, with_call}
use Rattle.stm_sim.specs.lemmas.Past.{keeps-quiet, first-fed, is-with_call}
use Rattle.stm_sim.proofs.memory_rig.MemoryRig.try_put.Goals as goal

pub invariant_of-self-2 : goal.invariant_of-self-2
invariant_of-self-2 c =
    let i = c.self.inside in
    let m = memory_of i.simulator i.journal.items i.line_failures i.journal_failures i.calls.items i.room i.plan (option_map (λ v. v.items) i.first) i.begun i.start i.past.items in
    let byte = c.args.byte in
    let small : byte < 256 = omega arith in
    let keeps =
    keeps-quiet (Put byte) (Fed byte) m _ _ _ _ c.in_ok-feed.ensures.fed
    (c.push_reserved.ensures.items ∙ ap (λ (xs : List RigCall). xs ++ Put byte ∷ []) c.reserve_entry.ensures.calls)
    (first-fed byte i.simulator _ (option_map (λ v. v.items) i.first) _ _ c.in_ok-feed.ensures.fed c.flash.ensures c.in_ok-keep_first.ensures.ok)
    (c.push_reserved-2.ensures.items ∙ ap (λ (xs : List PastStep). xs ++ Fed byte ∷ []) c.reserve_entry.ensures.past)
    c.self.invariant.0 (rw c.in_ok-feed.ensures.fed (simulated_device-IsDevice byte i.simulator small c.self.invariant.0.is_device)) refl in
    (keeps, omega arith, omega arith)

pub returns-clause-ok : goal.returns-clause-ok
returns-clause-ok c =
    let i = c.self.inside in
    let m = memory_of i.simulator i.journal.items i.line_failures i.journal_failures i.calls.items i.room i.plan (option_map (λ v. v.items) i.first) i.begun i.start i.past.items in
    let byte = c.args.byte in
    is-with_call (Put byte) (Fed byte) m _ (simulated_device byte m.device) _ _ _ _ c.in_ok-feed.ensures.fed
    (c.push_reserved.ensures.items ∙ ap (λ (xs : List RigCall). xs ++ Put byte ∷ []) c.reserve_entry.ensures.calls)
    c.saturating_sub-self-inside.ensures
    (first-fed byte i.simulator _ (option_map (λ v. v.items) i.first) _ _ c.in_ok-feed.ensures.fed c.flash.ensures c.in_ok-keep_first.ensures.ok)
    (c.push_reserved-2.ensures.items ∙ ap (λ (xs : List PastStep). xs ++ Fed byte ∷ []) c.reserve_entry.ensures.past)
    ∙ ap (λ (x : MemoryData). with_call (Put byte) (Fed byte) (simulated_device byte x.device) x) c.self.view_is
