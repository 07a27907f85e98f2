use Rattle.std.proofs.Common.{◌≡◌, ◌∙◌, ap, arith, get_or, length, sym, add-one, List, ℕ}
use Rattle.std.proofs.Math.ListN.{set}
use Rattle.stm_sim.specs.Simulator.{stored_byte}
use Rattle.stm_sim.proofs.Simulating.{stored_so_far, stored_so_far-more, stored_so_far-all}
use Rattle.stm_sim.proofs.simulator.effect.store_over.Goals as goal

pub loop-i-preserved : goal.loop-i-preserved
loop-i-preserved c =
    let e = c.args.erased in
    let olds = c.args.part.now in
    let sents = c.args.sent.now in
    let i = c.loop-i.i in
    ap (λ (b : ℕ). set c.loop-i.part i b) c.stored_byte.ensures
    ∙ ap (λ (p : List ℕ). set p i (stored_byte e (get_or p i 0) (get_or sents i 0))) c.loop-i.invariant
    ∙ stored_so_far-more e i olds sents c.requires c.loop-i-test.true
    ∙ ap (λ (k : ℕ). stored_so_far e k olds sents) (sym (add-one i))

pub returns : goal.returns
returns c =
    let e = c.args.erased in
    let olds = c.args.part.now in
    let sents = c.args.sent.now in
    let last : c.loop-i.i ≡ length sents = omega (arith, c.loop-i.auto.i-end) in
    c.loop-i.invariant ∙ ap (λ (k : ℕ). stored_so_far e k olds sents) last ∙ stored_so_far-all e olds sents c.requires
