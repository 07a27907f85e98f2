use Rattle.std.proofs.Common.{ℕ, ◌<◌, ◌≤◌, IsTrue, length, get_or}
use Rattle.stm_journal.proofs.Names.{newest_is_open, next_page}
use Rattle.stm_tests.proofs.journal.call_order.write_pages.Given as goal

abbrev pub invariant-loop-n : goal.invariant-loop-n
invariant-loop-n g l = record {
  begun : IsTrue (newest_is_open l.journal.state);
  rising : (j : ℕ) → l.n-index ≤ j → j < length l.pages → next_page l.journal.state ≤ get_or l.pages j 0;
}
