use Rattle.std.proofs.Common.{rules, ◌∙◌, ap, sym, arith, drop, ◌+◌}
use Rattle.stm_chip.proofs.Items.{ends, joined, keeps, stops}
use Rattle.stm_chip.specs.Entry.{run_of}
use Rattle.stm_chip.specs.Items.{each_of}
use Rattle.toml.specs.View.{items_view}
use Rattle.stm_chip.proofs.keys.read_runs.Goals as goal

pub returns-in-None : goal.returns-in-None
returns-in-None c =
    sym (stops run_of c.args.array.now.items c.loop-value.value-index c.value-item.result
    c.loop-value.runs.items (search (rules, arith, c.loop-value-test.true))
    (search (rules, c.value-item.is, c.read_run.ensures, c.in-None.is))) ∙ c.loop-value.invariant

pub loop-value-preserved : goal.loop-value-preserved
loop-value-preserved c =
    let vs = c.args.array.now.items in
    let i = c.loop-value.value-index in
    ap (λ xs. joined xs (each_of run_of (items_view (drop (i + 1) vs)))) (search (rules, c.in_ok-push-in-Some.ensures))
    ∙ keeps run_of vs i c.value-item.result c.in-Some.run' c.loop-value.runs.items
    (search (rules, arith, c.loop-value-test.true))
    (search (rules, c.value-item.is, c.read_run.ensures, c.in-Some.is)) ∙ c.loop-value.invariant

pub returns : goal.returns
returns c =
    sym (ends run_of c.args.array.now.items c.loop-value.value-index c.loop-value.runs.items
    (search (rules, arith, c.loop-value-test.false))) ∙ c.loop-value.invariant
