use Rattle.std.proofs.Common.{◌++◌, ◌∷◌, [], ◌∙◌, ◌≤◌, ◌-◌, ◌^◌, ap, refl, arith, length, List}
use Rattle.std.specs.Option.{option_map}
use Rattle.stm_wire.specs.declared.rig.RigCall.{RigCall}
use Rattle.stm_sim.specs.declared.past.PastStep.{PastStep}
use Rattle.stm_wire.specs.declared.rig.RigCall.TheVariants.{Append}
use Rattle.stm_sim.specs.declared.past.PastStep.TheVariants.{Added}
use Rattle.stm_sim.specs.Memory.{memory_of}
use Rattle.stm_sim.specs.lemmas.Past.{keeps-call}
use Rattle.stm_sim.proofs.memory_rig.MemoryRig.try_append.Goals as goal

pub invariant_of-self-2 : goal.invariant_of-self-2
invariant_of-self-2 c =
    let i = c.self.inside in
    let m = memory_of i.simulator i.journal.items i.line_failures i.journal_failures i.calls.items i.room i.plan (option_map (λ v. v.items) i.first) i.begun i.start i.past.items in
    let bytes = c.args.bytes.now in
    let journal = c.extend_from_slice.new.self in
    let limit : length journal.items ≤ 2 ^ 63 - 1 = omega (arith, journal.ok.0, journal.ok.1, journal.small) in
    let keeps =
    keeps-call (Append (length bytes)) (Added (length bytes)) bytes m _ _ _ _ _ refl c.in_ok-extend_from_slice.ensures.items
    (c.push_reserved.ensures.items ∙ ap (λ (xs : List RigCall). xs ++ Append (length bytes) ∷ []) c.reserve_entry.ensures.calls) refl
    (c.push_reserved-2.ensures.items ∙ ap (λ (xs : List PastStep). xs ++ Added (length bytes) ∷ []) c.reserve_entry.ensures.past)
    c.self.invariant.0 c.self.invariant.0.is_device (omega arith) limit in
    (keeps, omega arith, omega arith)
