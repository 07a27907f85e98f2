use Rattle.std.proofs.Common.{◌≡◌, ℕ, ◌<◌, ◌≤◌, ◌-◌, rules, arith}
use Rattle.stm_journal.proofs.Names.{depth, StateData}
use Rattle.stm_files.proofs.Cuts.{same-stack}
use Rattle.stm_files.proofs.likeness.is_cut.Goals as goal

pub returns : goal.returns
returns c =
    λ said.
    let s : StateData = c.args.old.now.state in
    let t : StateData = c.args.new.now.state in
    let within : c.args.given_up ≤ depth s = search rules in
    let depths : depth t ≡ depth s - c.args.given_up = search rules in
    let all : (k : ℕ) → k < depth t → k < c.loop-k.k = λ k lt. omega (arith, lt, c.loop-k-test.false, c.depth-k-end.ensures.value) in
    record {
      within = within;
      header = search rules;
      stack = same-stack s t c.args.given_up within depths (λ k lt. c.loop-k.invariant k (all k lt));
    }
