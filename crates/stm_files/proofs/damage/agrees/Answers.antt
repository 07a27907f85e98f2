use Rattle.std.proofs.Common.{◌≡◌, ◌+◌, ◌*◌, ◌<◌, ◌≤◌, List, ℕ, length, drop, arith, sym, ap, ◌∙◌}
use Rattle.std.specs.Prelude.{bytes_eq}
use Rattle.stm_files.specs.Damage.{is_sum}
use Rattle.stm_files.proofs.Damages.{drop-capped, line-is, says-none, says-one, tied-still}
use Rattle.stm_files.proofs.damage.agrees.Goals as goal

pub returns-then-not-is_sum-clause-honest : goal.returns-then-not-is_sum-clause-honest
returns-then-not-is_sum-clause-honest g c = λ bytes s tied.
    let V = g.L.Rig.view in
    let place = c.args.place in
    let at = c.saturating_add-2.result in
    let summed = c.in_ok-sum.ensures.honest bytes s tied in
    let read = c.in_ok-line.ensures.honest summed.0.honest in
    let model = g.met.L.Rig.model c.sum_at.new.rig summed.0.honest in
    let long : length bytes ≡ length (V c.sum_at.new.rig).journal = ap (λ (xs : List ℕ). length xs) (sym summed.0.journal) in
    let there = drop-capped at (place.at + 2 * place.length + 1) bytes
    (λ less. omega (arith, less, long, model.journal, c.saturating_mul-size.ensures, c.saturating_add.ensures, c.saturating_add-2.ensures))
    (λ past. omega (arith, past, long, model.journal, c.saturating_mul-size.ensures, c.saturating_add.ensures, c.saturating_add-2.ensures)) in
    let is = line-is bytes (V c.sum_at.new.rig).journal c.in_ok-line.line.items place at summed.0.journal read.1 there in (
      tied-still bytes s c.args.journal.now (V c.sum_at.new.rig) (V c.read_behind.new.rig) summed.0 read.0,
      λ k i kept stands here. says-none bytes c.in_ok-line.line.items place kept is here
          (ap is_sum (sym c.deref.ensures.value) ∙ sym c.is_sum.ensures ∙ c.if-not-is_sum.true),
    )

pub returns-clause-honest : goal.returns-clause-honest
returns-clause-honest g c = λ bytes s tied.
    let V = g.L.Rig.view in
    let place = c.args.place in
    let at = c.saturating_add-2.result in
    let summed = c.in_ok-sum.ensures.honest bytes s tied in
    let read = c.in_ok-line.ensures.honest summed.0.honest in
    let model = g.met.L.Rig.model c.sum_at.new.rig summed.0.honest in
    let long : length bytes ≡ length (V c.sum_at.new.rig).journal = ap (λ (xs : List ℕ). length xs) (sym summed.0.journal) in
    let there = drop-capped at (place.at + 2 * place.length + 1) bytes
    (λ less. omega (arith, less, long, model.journal, c.saturating_mul-size.ensures, c.saturating_add.ensures, c.saturating_add-2.ensures))
    (λ past. omega (arith, past, long, model.journal, c.saturating_mul-size.ensures, c.saturating_add.ensures, c.saturating_add-2.ensures)) in
    let is = line-is bytes (V c.sum_at.new.rig).journal c.in_ok-line.line.items place at summed.0.journal read.1 there in (
      tied-still bytes s c.args.journal.now (V c.sum_at.new.rig) (V c.read_behind.new.rig) summed.0 read.0,
      λ k i kept stands here. says-one bytes c.in_ok-line.line.items c.in_ok-right.right.items place kept c.in_ok-sum.sum c.eq.result is here
          (ap is_sum (sym c.deref.ensures.value) ∙ sym c.is_sum.ensures ∙ c.if-not-is_sum.false) c.in_ok-right.ensures (summed.1 k i kept stands here)
          (c.eq.ensures ∙ ap (λ (xs : List ℕ). bytes_eq xs c.as_slice-2.result.now) c.as_slice.ensures.value
          ∙ ap (λ (xs : List ℕ). bytes_eq c.in_ok-line.line.items xs) c.as_slice-2.ensures.value),
    )
