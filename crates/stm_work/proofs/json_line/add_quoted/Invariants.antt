use Rattle.std.proofs.Common.{◌≡◌, ◌++◌, take}
use Rattle.stm_work.specs.JsonLine.{quoted}
use Rattle.stm_work.proofs.json_line.add_quoted.Given as goal

abbrev pub invariant-loop-byte : goal.invariant-loop-byte
invariant-loop-byte l = l.out.items ≡ l.fn.out.items ++ quoted (take l.byte-index l.text)
