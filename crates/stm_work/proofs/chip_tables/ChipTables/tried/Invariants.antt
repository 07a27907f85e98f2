-- The count is that of the tables so far.
use Rattle.std.proofs.Common.{◌∷◌, map, take}
use Rattle.stm_work.specs.TriedBoards.{AreTried, table_bytes}
use Rattle.stm_work.proofs.chip_tables.ChipTables.tried.Given as goal

abbrev pub invariant-loop-table : goal.invariant-loop-table
invariant-loop-table l = AreTried l.id (table_bytes l.self.lowest ∷ map table_bytes (take l.table-index l.self.over.items)) l.count
