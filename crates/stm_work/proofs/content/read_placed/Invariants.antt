use Rattle.std.proofs.Common.{take}
use Rattle.stm_work.specs.Content.{ArePlacedOf}
use Rattle.stm_work.proofs.content.read_placed.Given as goal

-- the files so far
abbrev pub invariant-loop-file : goal.invariant-loop-file
invariant-loop-file g l = ArePlacedOf l.table (take l.file-index l.files) l.images.items
