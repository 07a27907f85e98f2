-- The chips are what the texts so far say.
use Rattle.std.proofs.Common.{◌∷◌, map, take}
use Rattle.stm_work.specs.ChipTables.{AreChips}
use Rattle.stm_work.specs.TriedBoards.{table_bytes}
use Rattle.stm_work.proofs.chip_tables.ChipTables.copy.Given as goal

abbrev pub invariant-loop-text : goal.invariant-loop-text
invariant-loop-text l = AreChips (table_bytes l.self.lowest ∷ map table_bytes (take l.text-index l.self.over.items)) l.chips
