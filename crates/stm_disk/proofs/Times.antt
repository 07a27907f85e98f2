-- Moments of runs of calls join: what holds at each moment of two runs, one after the other, holds
-- at each of both.
use Rattle.std.proofs.Common.{⊎_elim, ℕ, List, inl, inr, arith}
use Rattle.stm_disk.specs.GrowingFile.{FileState, FileElapses, FollowsFileModel}
use Rattle.stm_disk.specs.Crash.{MayBeLeft}
use Rattle.stm_disk.specs.Moments.{CrashLeavesOnly}

-- before the first call
pub started : (P : List ℕ → Type 0) (a : FileState) → FollowsFileModel a
    → ((left : List ℕ) → MayBeLeft a.synced a.seen left → P left) → CrashLeavesOnly P a a
started P a model here =
    record {
      later = omega arith;
      each = λ left now. here left (model.only_now left now);
      before = λ t left le past. inl past;
    }

-- two runs, one after the other
pub joined : (P Q R : List ℕ → Type 0) (a b c : FileState) → CrashLeavesOnly P a b → CrashLeavesOnly Q b c
    → ((left : List ℕ) → P left → R left) → ((left : List ℕ) → Q left → R left)
    → CrashLeavesOnly R a c
joined P Q R a b c first second p q =
    record {
      later = omega (arith, first.later, second.later);
      each = λ left since.
          ⊎_elim (λ l. p left (first.each left l)) (λ r. q left r)
          (second.before a.moment left first.later since);
      before = λ t left le since.
          ⊎_elim
          (λ l. ⊎_elim (λ x. inl x) (λ x. inr (p left x)) (first.before t left le l))
          (λ r. inr (q left r))
          (second.before t left (omega (arith, le, first.later)) since);
    }

-- one call
pub elapsed : (P R : List ℕ → Type 0) (a b : FileState) → FollowsFileModel a → FileElapses P a b
    → ((left : List ℕ) → MayBeLeft a.synced a.seen left → R left)
    → ((left : List ℕ) → P left → R left) → CrashLeavesOnly R a b
elapsed P R a b model time here p =
    record {
      later = time.later;
      each = λ left since.
          ⊎_elim (λ l. here left (model.only_now left l)) (λ r. p left r)
          (time.nothing_else a.moment left (omega arith) since);
      before = λ t left le since.
          ⊎_elim (λ l. inl l) (λ r. inr (p left r)) (time.nothing_else t left le since);
    }
