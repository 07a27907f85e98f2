use Rattle.std.proofs.Common.{◌≡◌, ℕ, List, ◌++◌}
use Rattle.std.specs.Fmt.{HasWritten, IsPlainFormatter}
use Rattle.std.specs.Str.{IsUtf8}
use Rattle.stm_files.specs.Escaped.{escaped}
use Rattle.stm_files.proofs.escaped.EscapingWrite.write_str.Given as goal

abbrev pub invariant-loop-c : goal.invariant-loop-c
invariant-loop-c g l =
    (l.self.to.ghost_name ≡ l.fn.self.to.ghost_name) × IsUtf8 l.c-iterator.rest.now
    × (IsPlainFormatter l.fn.self.to.now
    → (done : List ℕ) × HasWritten g.W.Write.write_str_gives l.fn.self.to.now done l.self.to.now
    × (done ++ escaped l.c-iterator.rest.now ≡ escaped l.fn.text))
