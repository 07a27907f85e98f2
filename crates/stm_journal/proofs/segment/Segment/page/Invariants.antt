use Rattle.std.proofs.Common.{◌≡◌, ◌==◌, drop}
use Rattle.std.specs.List.{find}
use Rattle.stm_journal.proofs.segment.Segment.page.Given as goal

-- the first of all is the first of those that are left
abbrev pub invariant-loop-kept : goal.invariant-loop-kept
invariant-loop-kept l = find (λ k. k.page == l.n) l.self.pages ≡ find (λ k. k.page == l.n) (drop l.kept-index l.self.pages)
