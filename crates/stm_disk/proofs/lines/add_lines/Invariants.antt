-- What was added so far.
use Rattle.std.proofs.Common.{◌≤◌, ◌-◌, length, take}
use Rattle.std.specs.Io.KnownBytes.{Appends}
use Rattle.stm_disk.specs.Lines.{IsSynced}
use Rattle.stm_disk.proofs.Adding.{SoFar}
use Rattle.stm_disk.proofs.lines.add_lines.Given as goal

abbrev pub invariant-loop-done : goal.invariant-loop-done
invariant-loop-done g l = record {
  within : l.done ≤ length l.bytes;
  known : Appends (g.F.GrowingFile.view l.initial.file).known (g.F.GrowingFile.view l.file).known (take l.done l.bytes);
  honest : (g.F.GrowingFile.view l.initial.file).is_honest → IsSynced l.at (g.F.GrowingFile.view l.initial.file)
      → SoFar l.done l.bytes (g.F.GrowingFile.view l.initial.file) (g.F.GrowingFile.view l.file);
}

abbrev pub decreases-loop-done : goal.decreases-loop-done
decreases-loop-done g l = length l.bytes - l.done
