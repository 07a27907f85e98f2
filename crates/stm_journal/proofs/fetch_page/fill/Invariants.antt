use Rattle.std.proofs.Common.{◌≡◌, ◌+◌, ◌-◌, ◌≤◌, length, take, drop, Ok}
use Rattle.stm_wire.proofs.Names.{GoesOn}
use Rattle.stm_journal.proofs.Names.{AreFetches, Brings, HasJournalCause, Looks}
use Rattle.stm_journal.proofs.fetch_page.fill.Given as goal

abbrev pub invariant-loop-done : goal.invariant-loop-done
invariant-loop-done g l = record {
  within : l.done ≤ length l.buf;
  size : length l.buf ≡ length l.fn.buf;
  cause : HasJournalCause {T = Unit {0}} (g.R.Rig.view l.fn.rig) (g.R.Rig.view l.rig) (Ok tt);
  calls : GoesOn AreFetches (g.R.Rig.view l.fn.rig).calls (g.R.Rig.view l.rig).calls;
  told : Brings (take l.done l.buf) (g.R.Rig.view l.fn.rig).told (g.R.Rig.view l.rig).told;
  read : (g.R.Rig.view l.fn.rig).is_honest → l.at + length l.fn.buf ≤ length (g.R.Rig.view l.fn.rig).journal
      → Looks (g.R.Rig.view l.fn.rig) (g.R.Rig.view l.rig) × (take l.done l.buf ≡ take l.done (drop l.at (g.R.Rig.view l.fn.rig).journal));
}

abbrev pub decreases-loop-done : goal.decreases-loop-done
decreases-loop-done g l = length l.buf - l.done
