use Rattle.std.proofs.Common.{◌≡◌, ◌++◌, drop}
use Rattle.stm_image.specs.Canon.{canon, lines, parts_of, runs_of}
use Rattle.stm_image.specs.Pieces.{pairs_at}
use Rattle.stm_image.proofs.writer.write_hex.Given as goal

-- the text so far, with the lines of the runs that are left, is the canonical one
abbrev pub invariant-loop-run : goal.invariant-loop-run
invariant-loop-run l = l.text.items ++ lines l.upper (parts_of (runs_of (pairs_at l.bytes (drop l.run-index l.list)))) ≡ canon l.image
