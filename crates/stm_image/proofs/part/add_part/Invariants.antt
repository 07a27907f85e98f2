use Rattle.std.proofs.Common.{◌+◌, ◌-◌, ◌≤◌}
use Rattle.stm_image.specs.Part.{IsWithPart}
use Rattle.stm_image.specs.Pieces.{AllStand, Apart, next_apart, pairs_in}
use Rattle.stm_image.proofs.part.add_part.Given as goal

-- what stands before an address is added
abbrev pub invariant-runs : goal.invariant-runs
invariant-runs l = record {
  from : l.start ≤ l.at;
  to : l.at ≤ l.end;
  stand : AllStand l.runs;
  apart : Apart 0 l.runs.list.items;
  next : next_apart 0 l.runs.list.items ≤ l.at + 1;
  part : IsWithPart (pairs_in l.initial.runs) l.image l.start (l.at - l.start) (pairs_in l.runs);
}

abbrev pub decreases-runs : goal.decreases-runs
decreases-runs l = l.end - l.at
