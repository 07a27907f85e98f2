-- The real boards so far.
use Rattle.std.proofs.Common.{◌≡◌, ◌≤◌, take}
use Rattle.stm_chip.specs.Tried.{real_boards}
use Rattle.stm_chip.proofs.tried.real_boards.Given as goal

abbrev pub invariant-loop-board : goal.invariant-loop-board
invariant-loop-board l = (l.count ≡ real_boards (take l.board-index l.boards)) × (l.count ≤ l.board-index)
