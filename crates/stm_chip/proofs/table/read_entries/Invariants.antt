-- The chips so far are those of the entries so far.
use Rattle.std.proofs.Common.{◌≡◌, map, take, vec_len}
use Rattle.toml.specs.View.{view}
use Rattle.stm_chip.specs.Document.{ReadsEntries}
use Rattle.stm_chip.proofs.table.read_entries.Given as goal

abbrev pub invariant-loop-entry : goal.invariant-loop-entry
invariant-loop-entry l = (vec_len l.chips ≡ l.entry-index) × ReadsEntries (map view (take l.entry-index l.entries.items)) l.chips.items
