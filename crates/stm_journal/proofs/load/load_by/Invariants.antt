use Rattle.std.proofs.Common.{◌-◌, ◌^◌, ◌≤◌, ◌<◌, length, Ok}
use Rattle.stm_wire.proofs.Names.{GoesOn}
use Rattle.stm_journal.proofs.Names.{AreFetches, HasJournalCause, HasReadJournal}
use Rattle.stm_journal.proofs.load.load_by.Given as goal

abbrev pub invariant-loop-loader : goal.invariant-loop-loader
invariant-loop-loader g l = record {
  cause : HasJournalCause {T = Unit {0}} (g.R.Rig.view l.fn.rig) (g.R.Rig.view l.rig) (Ok tt);
  calls : GoesOn AreFetches (g.R.Rig.view l.fn.rig).calls (g.R.Rig.view l.rig).calls;
  read : (g.R.Rig.view l.fn.rig).is_honest → HasReadJournal l.loader.journal l.loader.tail (g.R.Rig.view l.fn.rig) (g.R.Rig.view l.rig);
  some : 0 < length l.buf;
  few : length l.buf ≤ 65536;
}

abbrev pub decreases-loop-loader : goal.decreases-loop-loader
decreases-loop-loader g l = 2 ^ 63 - l.loader.journal.size
