use Rattle.std.proofs.Common.{arith, get_or, rules}
use Rattle.std.proofs.lemmas.List.{take_more}
use Rattle.stm_files.specs.lemmas.SimulatorFileLaws.{one_more}
use Rattle.stm_files.proofs.restoring.lengthen.Goals as goal

pub loop-byte-preserved : goal.loop-byte-preserved
loop-byte-preserved c =
    let bytes = c.args.bytes.now in
    let i = c.loop-byte.byte-index in
    let has = c.has_rest.ensures (search (rules, c.if-not-has_rest.false)) in (
      one_more bytes i (get_or bytes i 0) c.args.rig.now.device c.args.rig.now c.loop-byte.rig c.feed.new.rig
          (take_more bytes i 0 (omega arith))
          c.loop-byte.invariant.0 c.in_ok-feed.ensures (has.0, has.1, omega (arith, has.2, c.loop-byte.invariant.1)),
      omega (arith, c.loop-byte.invariant.1),
    )
