use Rattle.std.proofs.Common.{◌++◌, ◌∷◌, [], ◌∙◌, ap, refl, arith, List}
use Rattle.std.specs.Option.{option_map}
use Rattle.stm_wire.specs.declared.rig.RigCall.{RigCall}
use Rattle.stm_sim.specs.declared.past.PastStep.{PastStep}
use Rattle.stm_sim.specs.declared.past.PastStep.TheVariants.{Nothing}
use Rattle.stm_sim.specs.Memory.{memory_of}
use Rattle.stm_sim.specs.lemmas.Past.{keeps-quiet}
use Rattle.stm_sim.proofs.memory_rig.MemoryRig.try_enter.Goals as goal

pub invariant_of-self-2 : goal.invariant_of-self-2
invariant_of-self-2 c =
    let i = c.self.inside in
    let m = memory_of i.simulator i.journal.items i.line_failures i.journal_failures i.calls.items i.room i.plan (option_map (λ v. v.items) i.first) i.begun i.start i.past.items in
    let call = c.args.call in (
      keeps-quiet call Nothing m _ _ _ _ refl
          (c.push_reserved.ensures.items ∙ ap (λ (xs : List RigCall). xs ++ call ∷ []) c.reserve_entry.ensures.calls) refl
          (c.push_reserved-2.ensures.items ∙ ap (λ (xs : List PastStep). xs ++ Nothing ∷ []) c.reserve_entry.ensures.past)
          c.self.invariant.0 c.self.invariant.0.is_device refl,
      omega arith,
      omega arith,
    )
