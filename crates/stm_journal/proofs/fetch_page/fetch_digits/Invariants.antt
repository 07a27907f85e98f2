use Rattle.std.proofs.Common.{◌≡◌, ◌+◌, ◌-◌, ◌*◌, ◌≤◌, List, ℕ, length, take, Some, Ok}
use Rattle.hex.specs.Hex.{encode_upper}
use Rattle.stm_wire.proofs.Names.{GoesOn}
use Rattle.stm_journal.proofs.Names.{AreFetches, Brings, cut, HasJournalCause, hex_bytes_of, Looks}
use Rattle.stm_journal.proofs.fetch_page.fetch_digits.Given as goal

abbrev pub invariant-loop-done : goal.invariant-loop-done
invariant-loop-done g l = record {
  within : l.done ≤ length l.buf;
  size : length l.buf ≡ l.place.length;
  cause : HasJournalCause {T = Unit {0}} (g.R.Rig.view l.fn.rig) (g.R.Rig.view l.rig) (Ok tt);
  calls : GoesOn AreFetches (g.R.Rig.view l.fn.rig).calls (g.R.Rig.view l.rig).calls;
  told : Brings (encode_upper (take l.done l.buf)) (g.R.Rig.view l.fn.rig).told (g.R.Rig.view l.rig).told;
  read : (g.R.Rig.view l.fn.rig).is_honest → (page : List ℕ) → length page ≡ l.place.length
      → l.place.at + 2 * l.place.length ≤ length (g.R.Rig.view l.fn.rig).journal
      → hex_bytes_of (cut l.place.at (2 * l.place.length) (g.R.Rig.view l.fn.rig).journal) ≡ Some page
      → Looks (g.R.Rig.view l.fn.rig) (g.R.Rig.view l.rig) × (take l.done l.buf ≡ take l.done page);
}

abbrev pub decreases-loop-done : goal.decreases-loop-done
decreases-loop-done g l = length l.buf - l.done
