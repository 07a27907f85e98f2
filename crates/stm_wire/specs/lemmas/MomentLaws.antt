-- Moments of runs of calls join: what holds at each moment of two runs, one after the other, holds
-- at each of both.
use Rattle.std.proofs.Common.{⊎_elim, ℕ, ◌+◌, List, drop, refl, sym, ◌∙◌}
use Rattle.std.proofs.Common.{ap, subst, inl, inr, arith, drop-drop}
use Rattle.stm_wire.specs.Device.{Device, LosesOwed}
use Rattle.stm_wire.specs.Rig.{RigState, Elapses, IsModel}
use Rattle.stm_wire.specs.Moments.{LeavesOnly}

pub LosesOwed-refl : (d : Device) → LosesOwed d d
LosesOwed-refl d = (0, refl)

pub LosesOwed-trans : (a b c : Device) → LosesOwed a b → LosesOwed b c → LosesOwed a c
LosesOwed-trans a b c p q = (
  p.0 + q.0,
  q.1
      ∙ ap (λ (d : Device). let r : Device = record d { owed = drop q.0 d.owed } in r) p.1
      ∙ ap (λ (xs : List ℕ). let r : Device = record a { owed = xs } in r)
      (drop-drop q.0 p.0 a.owed),
)

-- before the first call
pub started : (P : Device → List ℕ → Type 0) (a : RigState) → IsModel a
    → ((d : Device) → LosesOwed a.device d → P d a.journal) → LeavesOnly P a a
started P a model here =
    record {
      later = omega arith;
      each = λ d journal left.
          let now = model.only_now d journal left in
          let Q : List ℕ → Type 0 = λ j. P d j in
          subst Q (sym now.0) (here d now.1);
      before = λ t d journal le left. inl left;
    }

-- two runs, one after the other
pub joined : (P Q R : Device → List ℕ → Type 0) (a b c : RigState) → LeavesOnly P a b
    → LeavesOnly Q b c
    → ((d : Device) (journal : List ℕ) → P d journal → R d journal)
    → ((d : Device) (journal : List ℕ) → Q d journal → R d journal) → LeavesOnly R a c
joined P Q R a b c first second p q =
    record {
      later = omega (arith, first.later, second.later);
      each =
          λ d journal left.
          ⊎_elim (λ l. p d journal (first.each d journal l)) (λ r. q d journal r)
          (second.before a.moment d journal first.later left);
      before = λ t d journal le left.
          ⊎_elim
          (λ l. ⊎_elim (λ x. inl x) (λ x. inr (p d journal x)) (first.before t d journal le l))
          (λ r. inr (q d journal r))
          (second.before t d journal (omega (arith, le, first.later)) left);
    }

-- one call
pub elapsed : (P R : Device → List ℕ → Type 0) (a b : RigState) → IsModel a → Elapses P a b
    → ((d : Device) → LosesOwed a.device d → R d a.journal)
    → ((d : Device) (journal : List ℕ) → P d journal → R d journal) → LeavesOnly R a b
elapsed P R a b model time here p =
    record {
      later = time.later;
      each = λ d journal left.
          ⊎_elim (λ l. (started R a model here).each d journal l) (λ r. p d journal r)
          (time.nothing_else a.moment d journal (omega arith) left);
      before =
          λ t d journal le left.
          ⊎_elim (λ l. inl l) (λ r. inr (p d journal r)) (time.nothing_else t d journal le left);
    }

-- what holds of less
pub weaker : (P R : Device → List ℕ → Type 0) (a b : RigState) → LeavesOnly P a b
    → ((d : Device) (journal : List ℕ) → P d journal → R d journal) → LeavesOnly R a b
weaker P R a b l r =
    record {
      later = l.later;
      each = λ d journal left. r d journal (l.each d journal left);
      before =
          λ t d journal le left.
          ⊎_elim (λ x. inl x) (λ x. inr (r d journal x)) (l.before t d journal le left);
    }
