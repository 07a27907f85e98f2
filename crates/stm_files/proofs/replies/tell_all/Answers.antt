use Rattle.std.proofs.Common.{ℕ, List, take_all, ◌∙◌, ap, arith}
use Rattle.stm_files.specs.Replies.{telling_begun, telling}
use Rattle.stm_files.proofs.Told.{told_serves}
use Rattle.stm_files.proofs.replies.tell_all.Goals as goal

pub returns-clause-device : goal.returns-clause-device
returns-clause-device c =
    let i = c.loop-byte.byte-index in
    let bytes = c.args.bytes.now in
    let all = take_all i bytes (omega (arith, c.loop-byte-test.false)) in
    λ ok.
    told_serves c.args.sim.now c.loop-byte.sim c.loop-byte.told.items bytes
    (c.loop-byte.invariant ∙ ap (λ (xs : List ℕ). telling (telling_begun c.args.sim.now) xs) all)
