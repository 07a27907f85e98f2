use Rattle.std.proofs.Common.{rules}
use Rattle.std.proofs.Output.{has_written_append, has_written_of_eq}
use Rattle.stm_files.proofs.BoardDigits.{printed_more, printed_none}
use Rattle.stm_files.proofs.board_name.BoardNameDisplay.fmt.Goals as goal

pub loop-byte-init : goal.loop-byte-init
loop-byte-init g c = λ plain. has_written_of_eq _ _ _ _ _ printed_none (search rules)

pub loop-byte-preserved : goal.loop-byte-preserved
loop-byte-preserved g c =
    let i = c.loop-byte.byte-index in
    λ plain. has_written_of_eq _ _ _ _ _
    (printed_more c.as_bytes-byte-items.result.now i 0 c.loop-byte-test.true (search rules))
    (has_written_append _ _ _ _ _ _ (c.loop-byte.invariant plain) (search rules))
