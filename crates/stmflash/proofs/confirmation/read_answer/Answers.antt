use Rattle.std.proofs.Common.{[], ◌∷◌, ◌++◌}
use Rattle.stmflash.proofs.Typed.{nothing_typed, typed_more}
use Rattle.stmflash.proofs.confirmation.read_answer.Goals as goal

pub loop-init : goal.loop-init
loop-init g c = ([], nothing_typed (g.I.Read.remaining c.args.input.now) c.args.answer.now)

pub loop-preserved : goal.loop-preserved
loop-preserved g c =
    let left = g.I.Read.remaining in
    let typed = c.loop.invariant in
    let byte = c.in_ok-byte.byte in
    let kept = c.keep_byte-count in (
      typed.0 ++ byte ∷ [],
      typed_more (left c.args.input.now) (left c.loop.input) (left c.read_byte.new.input) typed.0
          c.loop.answer kept.new.answer c.loop.count kept.result byte typed.1 c.in_ok-byte.ensures
          kept.ensures.length kept.ensures.count kept.ensures.bytes,
    )
