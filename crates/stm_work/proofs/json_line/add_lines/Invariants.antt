use Rattle.std.proofs.Common.{◌≡◌, ◌++◌, ◌≤◌, [], drop}
use Rattle.std.specs.List.{slice_range}
use Rattle.stm_work.specs.JsonLine.{list_from, lines_from}
use Rattle.stm_work.proofs.json_line.add_lines.Given as goal

-- what is told and what is left to be told come to the whole list
abbrev pub invariant-loop-i : goal.invariant-loop-i
invariant-loop-i l = record {
  start : l.start ≤ l.i;
  told : l.out.items ++ list_from l.mark (lines_from (slice_range l.text l.start l.i) (drop l.i l.text))
      ≡ l.fn.out.items ++ list_from 0x5B (lines_from [] l.text);
}
