use Rattle.std.proofs.Common.{◌≡◌, true, false, sym, ◌∙◌}
use Rattle.stm_weak.proofs.Lining.{healing_put, of_same}
use Rattle.stm_weak.proofs.weak_rig.WeakRigRig.put.Goals as goal
use Rattle.stm_weak.proofs.weak_rig.WeakRigRig.put.Goals.{then-is_reading_weak, else-is_reading_weak}

pub returns-then-heals-clause-unread : goal.returns-then-heals-clause-unread
returns-then-heals-clause-unread c reads = elim c.if-is_reading_weak.branch [
  | then-is_reading_weak w ↦ c.in_ok-put.ensures.simulated.1
      (of_same w.self-is (λ s. s.memory.plan.put_fails)
      ∙ of_same w.fail_put.ensures.plan (λ m. m.plan.put_fails))
  | else-is_reading_weak w ↦
      let h : true ≡ false = sym (c.is_reading_weak.ensures c.args.byte reads)
      ∙ w.if-is_reading_weak.false in cc
]

pub returns-else-heals-clause-unread : goal.returns-else-heals-clause-unread
returns-else-heals-clause-unread c reads = elim c.if-is_reading_weak.branch [
  | then-is_reading_weak w ↦ c.in_ok-put.ensures.simulated.1
      (of_same w.self-is (λ s. s.memory.plan.put_fails)
      ∙ of_same w.fail_put.ensures.plan (λ m. m.plan.put_fails))
  | else-is_reading_weak w ↦
      let h : true ≡ false = sym (c.is_reading_weak.ensures c.args.byte reads)
      ∙ w.if-is_reading_weak.false in cc
]

pub returns-then-heals-clause-weakly : goal.returns-then-heals-clause-weakly
returns-then-heals-clause-weakly c honest =
    let old = c.args.self.now in
    elim c.if-is_reading_weak.branch [
      | then-is_reading_weak w ↦ absurd (c.in_ok-put.ensures.simulated.1
          (of_same w.self-is (λ s. s.memory.plan.put_fails)
          ∙ of_same w.fail_put.ensures.plan (λ m. m.plan.put_fails)))
      | else-is_reading_weak w ↦ healing_put c.args.byte old.memory
          c.if-is_reading_weak.self.memory c.put.new.self.device old.weak
          (of_same w.self-is (λ s. s.memory)) honest
          (λ is. (c.in_ok-put.ensures.honest is).ok.0)
          (λ n e. c.is_healed_by-heals.ensures honest c.if-heals.true n e)
    ]
