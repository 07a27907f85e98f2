use Rattle.std.proofs.Common.{◌≡◌, drop}
use Rattle.toml.specs.View.{items_view}
use Rattle.stm_chip.specs.Items.{each_of}
use Rattle.stm_chip.specs.Tried.{tried_board_of}
use Rattle.stm_chip.proofs.Items.{joined}
use Rattle.stm_chip.proofs.tried.read_boards.Given as goal

abbrev pub invariant-loop-value : goal.invariant-loop-value
invariant-loop-value l = joined l.boards.items (each_of tried_board_of (items_view (drop l.value-index l.array.items))) ≡ each_of tried_board_of (items_view l.array.items)
