use Rattle.std.proofs.Common.{take}
use Rattle.stm_journal.proofs.Names.{AreMarked}
use Rattle.stm_journal.proofs.segment.marks_of.Given as goal

abbrev pub invariant-loop-kept : goal.invariant-loop-kept
invariant-loop-kept l = AreMarked l.marks.items (take l.kept-index l.pages)
