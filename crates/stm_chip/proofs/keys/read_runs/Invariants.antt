use Rattle.std.proofs.Common.{◌≡◌, drop}
use Rattle.toml.specs.View.{items_view}
use Rattle.stm_chip.specs.Entry.{page_runs}
use Rattle.stm_chip.proofs.Items.{joined}
use Rattle.stm_chip.proofs.keys.read_runs.Given as goal

abbrev pub invariant-loop-value : goal.invariant-loop-value
invariant-loop-value l = joined l.runs.items (page_runs (items_view (drop l.value-index l.array.items))) ≡ page_runs (items_view l.array.items)
