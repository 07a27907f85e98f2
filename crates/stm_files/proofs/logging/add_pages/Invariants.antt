use Rattle.std.proofs.Common.{◌≡◌, ◌++◌, Some, drop}
use Rattle.stm_journal.proofs.Names.{segment_of}
use Rattle.stm_files.specs.Logging.{kept_pages_text, numbers_of, logged_pages}
use Rattle.stm_files.proofs.logging.add_pages.Given as goal

-- what is told, and what is left to tell, is what is told of all pages
abbrev pub invariant-loop-i : goal.invariant-loop-i
invariant-loop-i l =
    (segment : _) → segment_of l.journal.state l.k ≡ Some segment
    → l.out.items ++ logged_pages l.first l.last (drop l.i (numbers_of segment)) ≡ l.fn.out.items ++ kept_pages_text (numbers_of segment)
