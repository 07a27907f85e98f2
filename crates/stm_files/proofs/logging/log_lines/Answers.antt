use Rattle.std.proofs.Common.{ℕ, ◌++◌, ◌+◌, List, ap, ◌∙◌}
use Rattle.stm_journal.proofs.Names.{StateData}
use Rattle.stm_files.specs.Logging.{logged_device, noted_line}
use Rattle.stm_files.specs.declared.begun.Note.{Note}
use Rattle.stm_files.proofs.LoggedPages.{line-more}
use Rattle.stm_files.proofs.logging.log_lines.Goals as goal

pub loop-k-preserved : goal.loop-k-preserved
loop-k-preserved c =
    let s : StateData = c.args.journal.now.state in
    let notes : List Note = c.args.begun.now.notes.items in
    c.in_ok-add_noted_segment.ensures
    ∙ ap (λ (xs : List ℕ). xs ++ noted_line notes s (c.loop-k.k + 1)) c.loop-k.invariant
    ∙ line-more (noted_line notes s) (logged_device s) c.loop-k.k
