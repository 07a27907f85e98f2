use Rattle.std.proofs.Common.{◌++◌, ◌∷◌, [], ◌∙◌, ap, refl, subst, arith, List, ℕ, Option, Some, None}
use Rattle.std.specs.Option.{option_map}
use Rattle.stm_wire.specs.declared.rig.RigCall.{RigCall}
use Rattle.stm_sim.specs.declared.past.PastStep.{PastStep}
use Rattle.stm_wire.specs.declared.rig.RigCall.TheVariants.{Get}
use Rattle.stm_sim.specs.declared.past.PastStep.TheVariants.{Taken, Nothing}
use Rattle.stm_wire.proofs.Names.{Device}
use Rattle.stm_sim.specs.Memory.{MemoryData, memory_of, first_device, GetsFrom}
use Rattle.stm_sim.specs.lemmas.Past.{keeps-quiet, taken-step, taken-rest, taken-first, taken-device, is-with_call}
use Rattle.stm_sim.proofs.memory_rig.MemoryRig.try_get.Goals as goal

pub invariant_of-self-in-Some : goal.invariant_of-self-in-Some
invariant_of-self-in-Some c =
    let i = c.self.inside in
    let first : Option (List ℕ) = option_map (λ v. v.items) i.first in
    let m = memory_of i.simulator i.journal.items i.line_failures i.journal_failures i.calls.items i.room i.plan first i.begun i.start i.past.items in
    let byte = c.in-Some.byte in
    let new = c.take.new.self in
    let keeps =
    keeps-quiet (Get (Some byte)) Taken m new _ _ _ (taken-step byte i.simulator new c.in-Some.ensures)
    (c.push_reserved.ensures.items ∙ ap (λ (xs : List RigCall). xs ++ Get (Some byte) ∷ []) c.reserve_entry.ensures.calls)
    (taken-first first byte i.simulator new c.in-Some.ensures)
    (c.push_reserved-in-Some.ensures.items ∙ ap (λ (xs : List PastStep). xs ++ Taken ∷ []) c.reserve_entry.ensures.past)
    c.self.invariant.0 (taken-device byte i.simulator new c.in-Some.ensures c.self.invariant.0.is_device) refl in
    (keeps, omega arith, omega arith)

pub invariant_of-self-in-None : goal.invariant_of-self-in-None
invariant_of-self-in-None c =
    let i = c.self.inside in
    let first : Option (List ℕ) = option_map (λ v. v.items) i.first in
    let m = memory_of i.simulator i.journal.items i.line_failures i.journal_failures i.calls.items i.room i.plan first i.begun i.start i.past.items in
    let keeps =
    keeps-quiet (Get None) Nothing m c.take.new.self _ _ _ c.in-None.ensures.1
    (c.push_reserved-in-None.ensures.items ∙ ap (λ (xs : List RigCall). xs ++ Get None ∷ []) c.reserve_entry.ensures.calls)
    (ap (λ (d : Device). first_device first d) c.in-None.ensures.1)
    (c.push_reserved-in-None-2.ensures.items ∙ ap (λ (xs : List PastStep). xs ++ Nothing ∷ []) c.reserve_entry.ensures.past)
    c.self.invariant.0 (rw c.in-None.ensures.1 c.self.invariant.0.is_device) refl in
    (keeps, omega arith, omega arith)

pub returns-in-Some-clause-ok : goal.returns-in-Some-clause-ok
returns-in-Some-clause-ok c =
    let i = c.self.inside in
    let first : Option (List ℕ) = option_map (λ v. v.items) i.first in
    let m = memory_of i.simulator i.journal.items i.line_failures i.journal_failures i.calls.items i.room i.plan first i.begun i.start i.past.items in
    let byte = c.in-Some.byte in
    let new = c.take.new.self in
    let k = memory_of new i.journal.items i.line_failures i.journal_failures c.push_reserved.new.self.items c.saturating_sub-self-inside.result i.plan first i.begun i.start c.push_reserved-in-Some.new.self.items in
    let P : MemoryData → Type 0 = λ x. GetsFrom (Some byte) x k in
    let left : Device → Device = λ d. record d { owed = new.owed } in
    subst P c.self.view_is (
      new.owed,
      ap (λ (d : Device). d.owed) c.in-Some.ensures,
      is-with_call (Get (Some byte)) Taken m new (left i.simulator) _ _ _ _ (taken-rest byte i.simulator new c.in-Some.ensures)
          (c.push_reserved.ensures.items ∙ ap (λ (xs : List RigCall). xs ++ Get (Some byte) ∷ []) c.reserve_entry.ensures.calls)
          c.saturating_sub-self-inside.ensures (taken-first first byte i.simulator new c.in-Some.ensures)
          (c.push_reserved-in-Some.ensures.items ∙ ap (λ (xs : List PastStep). xs ++ Taken ∷ []) c.reserve_entry.ensures.past),
    )
