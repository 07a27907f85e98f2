use Rattle.std.proofs.Common.{rules, ◌≤◌, ◌<◌, ◌-◌, ◌+◌, ◌*◌, Bool, true, false, arith, refl, ◌∙◌, subst, replicate}
use Rattle.stm_wire.proofs.Names.{Floods, GoesOn, IsBatch, Never, PutsAll}
use Rattle.stm_wire.proofs.Keeping.{keeps_start, keeps_then, going_split}
use Rattle.stm_wire.proofs.SettlingCalls.{no_batches, batches_more, batches_answered, batches_used_up}
use Rattle.stm_wire.proofs.SettlingFaults.{fails_on, never_after, floods_after}
use Rattle.stm_wire.proofs.Talking.{batches_nowhere, batches_went_on, batches_ok, batches_fault, speaks_went}
use Rattle.stm_wire.proofs.batch.send_batches.Goals as goal

pub loop-left-init : goal.loop-left-init
loop-left-init g c =
    let V = g.R.Rig.view in
    record {
      within = omega arith;
      brief = refl;
      went = batches_nowhere c.args.byte c.args.limit (V c.args.rig.now);
      batches = no_batches c.args.byte c.args.limit (V c.args.rig.now).calls;
      honest = λ h pages start going. (keeps_start c.args.byte pages start (V c.args.rig.now) (g.met.R.Rig.model c.args.rig.now h) h going.settling, going);
    }

pub loop-left-preserved : goal.loop-left-preserved
loop-left-preserved g c =
    let V = g.R.Rig.view in
    let a = V c.args.rig.now in
    let b = V c.loop-left.rig in
    let d = V c.send_batch.new.rig in
    let i = c.loop-left.invariant in
    let left = c.loop-left.left in
    let count = c.batch_size-count.result in
    let kept : count + 2 ≤ left = c.batch_size-count.ensures.kept in
    let some : 1 ≤ count = c.batch_size-count.ensures.some in
    let more : 2 < left = c.loop-left-test.true in
    let e = c.in_ok-send_batch.ensures in
    let none = subst (λ (t : Bool). GoesOn (IsBatch c.args.byte count t) b.calls d.calls) c.if-branch.false e.batch in
    record {
      within = omega (arith, i.within);
      brief = e.brief ∙ i.brief;
      went = batches_went_on c.args.byte c.args.limit left count a b d some (omega arith) i.within i.went (speaks_went (replicate count c.args.byte) (count + 4097) c.in_ok-send_batch.field-0 b d e.speaks);
      batches = batches_more c.args.byte c.args.limit left count false a.calls b.calls d.calls more c.batch_size-count.ensures.is i.batches none;
      honest = λ h pages start going.
          let k = i.honest h pages start going in
          let mb = g.met.R.Rig.model c.loop-left.rig k.0.honest in
          let split = going_split c.args.byte left count pages start b.device (omega arith) k.1 in
          let l = e.honest k.0.honest pages start (left - count) (omega arith) split in
          (keeps_then c.args.byte pages start a b d mb k.0 l.keeps, l.ok);
    }

pub returns-in_err-send_batch-clause-speaks : goal.returns-in_err-send_batch-clause-speaks
returns-in_err-send_batch-clause-speaks g c =
    let V = g.R.Rig.view in
    let left = c.loop-left.left in
    let count = c.batch_size-count.result in
    let kept : count + 2 ≤ left = c.batch_size-count.ensures.kept in
    let some : 1 ≤ count = c.batch_size-count.ensures.some in
    let more : 2 < left = c.loop-left-test.true in
    batches_fault {T = Bool} c.args.byte c.args.limit left count c.in_err-send_batch.field-0.0 c.from_residual.result (V c.args.rig.now) (V c.loop-left.rig) (V c.send_batch.new.rig)
    (omega arith) (omega arith) c.loop-left.invariant.within c.loop-left.invariant.went c.in_err-send_batch.ensures.speaks c.from_residual.ensures.1

pub returns-in_err-send_batch-clause-fails : goal.returns-in_err-send_batch-clause-fails
returns-in_err-send_batch-clause-fails g c =
    let V = g.R.Rig.view in
    let a = (V c.args.rig.now).calls in
    let b = (V c.loop-left.rig).calls in
    let d = (V c.send_batch.new.rig).calls in
    let sent = c.args.limit - c.loop-left.left in
    let before = PutsAll (replicate sent c.args.byte) (4099 * sent) in
    fails_on Never Floods Never Floods b d a d c.in_err-send_batch.field-0.0 c.from_residual.result
    (λ p. never_after before Never a b d c.loop-left.invariant.went.all p) (λ p. floods_after before a b d c.loop-left.invariant.went.all p)
    c.in_err-send_batch.ensures.fails c.from_residual.ensures.1

pub returns-in_err-send_batch-clause-honest : goal.returns-in_err-send_batch-clause-honest
returns-in_err-send_batch-clause-honest g c h pages start going =
    let V = g.R.Rig.view in
    let a = V c.args.rig.now in
    let b = V c.loop-left.rig in
    let d = V c.send_batch.new.rig in
    let left = c.loop-left.left in
    let count = c.batch_size-count.result in
    let kept : count + 2 ≤ left = c.batch_size-count.ensures.kept in
    let some : 1 ≤ count = c.batch_size-count.ensures.some in
    let more : 2 < left = c.loop-left-test.true in
    let k = c.loop-left.invariant.honest h pages start going in
    let mb = g.met.R.Rig.model c.loop-left.rig k.0.honest in
    let split = going_split c.args.byte left count pages start b.device (omega arith) k.1 in
    let l = c.in_err-send_batch.ensures.honest k.0.honest pages start (left - count) (omega arith) split in
    let line = l.fails in
    record { keeps = keeps_then c.args.byte pages start a b d mb k.0 l.keeps; ok = search rules; fails = search (rules, line) }

pub returns-then-branch-clause-speaks : goal.returns-then-branch-clause-speaks
returns-then-branch-clause-speaks g c =
    let V = g.R.Rig.view in
    let a = V c.args.rig.now in
    let b = V c.loop-left.rig in
    let d = V c.send_batch.new.rig in
    let left = c.loop-left.left in
    let count = c.batch_size-count.result in
    let kept : count + 2 ≤ left = c.batch_size-count.ensures.kept in
    let some : 1 ≤ count = c.batch_size-count.ensures.some in
    let more : 2 < left = c.loop-left-test.true in
    let within = c.loop-left.invariant.within in
    batches_ok c.args.byte c.args.limit (left - count) a d (omega arith)
    (batches_went_on c.args.byte c.args.limit left count a b d (omega arith) (omega arith) within c.loop-left.invariant.went (speaks_went (replicate count c.args.byte) (count + 4097) c.in_ok-send_batch.field-0 b d c.in_ok-send_batch.ensures.speaks))

pub returns-then-branch-clause-batches : goal.returns-then-branch-clause-batches
returns-then-branch-clause-batches g c =
    let V = g.R.Rig.view in
    let a = (V c.args.rig.now).calls in
    let b = (V c.loop-left.rig).calls in
    let d = (V c.send_batch.new.rig).calls in
    let left = c.loop-left.left in
    let count = c.batch_size-count.result in
    let some = subst (λ (t : Bool). GoesOn (IsBatch c.args.byte count t) b d) c.if-branch.true c.in_ok-send_batch.ensures.batch in
    batches_answered c.args.byte c.args.limit (left - count) a d
    (batches_more c.args.byte c.args.limit left count true a b d c.loop-left-test.true c.batch_size-count.ensures.is c.loop-left.invariant.batches some)

pub returns-then-branch-clause-honest : goal.returns-then-branch-clause-honest
returns-then-branch-clause-honest g c h pages start going =
    let V = g.R.Rig.view in
    let a = V c.args.rig.now in
    let b = V c.loop-left.rig in
    let d = V c.send_batch.new.rig in
    let left = c.loop-left.left in
    let count = c.batch_size-count.result in
    let kept : count + 2 ≤ left = c.batch_size-count.ensures.kept in
    let some : 1 ≤ count = c.batch_size-count.ensures.some in
    let more : 2 < left = c.loop-left-test.true in
    let k = c.loop-left.invariant.honest h pages start going in
    let mb = g.met.R.Rig.model c.loop-left.rig k.0.honest in
    let split = going_split c.args.byte left count pages start b.device (omega arith) k.1 in
    let l = c.in_ok-send_batch.ensures.honest k.0.honest pages start (left - count) (omega arith) split in
    record { keeps = keeps_then c.args.byte pages start a b d mb k.0 l.keeps; ok = l.ok; fails = search rules }

pub returns-clause-speaks : goal.returns-clause-speaks
returns-clause-speaks g c =
    let V = g.R.Rig.view in
    batches_ok c.args.byte c.args.limit c.loop-left.left (V c.args.rig.now) (V c.loop-left.rig) c.loop-left.invariant.within c.loop-left.invariant.went

pub returns-clause-batches : goal.returns-clause-batches
returns-clause-batches g c =
    let V = g.R.Rig.view in
    batches_used_up c.args.byte c.args.limit c.loop-left.left (V c.args.rig.now).calls (V c.loop-left.rig).calls c.loop-left-test.false c.loop-left.invariant.batches

pub returns-clause-honest : goal.returns-clause-honest
returns-clause-honest g c h pages start going =
    let k = c.loop-left.invariant.honest h pages start going in
    record { keeps = k.0; ok = k.1; fails = search rules }
