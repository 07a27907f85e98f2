-- The sizes so far are those of the runs so far, each of which has a page.
use Rattle.std.proofs.Common.{◌≡◌, All, take}
use Rattle.std.specs.List.{flat_map}
use Rattle.stm_chip.specs.Entry.{IsRun, pages_of}
use Rattle.stm_chip.proofs.entry.page_sizes.Given as goal

abbrev pub invariant-loop-run : goal.invariant-loop-run
invariant-loop-run l = All IsRun (take l.run-index l.runs) × (l.sizes.items ≡ flat_map pages_of (take l.run-index l.runs))
