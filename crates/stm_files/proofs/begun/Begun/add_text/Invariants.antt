use Rattle.std.proofs.Common.{◌≡◌, ◌++◌, flat_map, take}
use Rattle.stm_files.specs.Begun.{begun_line}
use Rattle.stm_files.proofs.begun.Begun.add_text.Given as goal

-- the notes so far have their lines
abbrev pub invariant-loop-note : goal.invariant-loop-note
invariant-loop-note l = l.out.items ≡ l.fn.out.items ++ flat_map (begun_line l.k) (take l.note-index l.note-items)
