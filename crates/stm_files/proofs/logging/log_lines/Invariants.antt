use Rattle.std.proofs.Common.{◌≡◌, ◌++◌}
use Rattle.std.specs.List.{flat_map, range_with_len}
use Rattle.stm_files.specs.Logging.{logged_device, noted_line}
use Rattle.stm_files.proofs.logging.log_lines.Given as goal

-- the device and the segments so far
abbrev pub invariant-loop-k : goal.invariant-loop-k
invariant-loop-k l = l.out.items ≡ logged_device l.journal.state ++ flat_map (noted_line l.begun.notes.items l.journal.state) (range_with_len 1 l.k)
