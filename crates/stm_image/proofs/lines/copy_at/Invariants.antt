use Rattle.std.proofs.Common.{◌≡◌, ◌+◌, ◌++◌, length, take}
use Rattle.stm_image.proofs.lines.copy_at.Given as goal

-- the bytes so far stand behind what was there
abbrev pub invariant-loop-i : goal.invariant-loop-i
invariant-loop-i l = record {
  long : length l.row ≡ 21;
  front : take (l.at + l.i) l.row ≡ take l.at l.initial.row ++ take l.i l.bytes;
}
