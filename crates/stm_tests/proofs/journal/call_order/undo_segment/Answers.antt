use Rattle.std.proofs.Common.{◌∙◌, sym}
use Rattle.stm_journal.specs.lemmas.NewestLaws.{newest_keeps_kept}
use Rattle.stm_tests.proofs.journal.call_order.undo_segment.Goals as goal

pub intend_erase-requires : goal.intend_erase-requires
intend_erase-requires g c = newest_keeps_kept c.loop-i.journal.state c.depth-newest.result c.loop-i.i c.in-Some.n c.in-Some.field-0-1 (c.depth-newest.ensures.value ∙ sym c.loop-i.invariant.depth) (sym c.kept.ensures ∙ c.in-Some.is)
