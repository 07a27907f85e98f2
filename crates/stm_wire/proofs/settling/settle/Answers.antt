use Rattle.std.proofs.Common.{◌≡◌, ◌+◌, ◌*◌, arith, [], rules}
use Rattle.std.proofs.lemmas.Result.{on_ok_weaker}
use Rattle.stm_wire.proofs.Names.{EndsGarbled, EndsQuiet, IsUnanswered, settling_run}
use Rattle.stm_wire.proofs.Keeping.{enough_sent, keeps_then, settling_start, going_drained}
use Rattle.stm_wire.proofs.SettlingCalls.{settled_singly, single_calls}
use Rattle.stm_wire.proofs.SettlingFaults.{fails_all_weaker, garbled_after, past_after}
use Rattle.stm_wire.proofs.Talking.{part_then, part_up}
use Rattle.stm_wire.proofs.settling.settle.Goals as goal

-- 7F is sent byte by byte, behind a draining
pub returns-clause-calls : goal.returns-clause-calls
returns-clause-calls g c =
    let V = g.R.Rig.view in
    let byte = c.args.byte in
    let limit = c.args.limit in
    let a = (V c.args.rig.now).calls in
    let b = (V c.drain.new.rig).calls in
    let e = (V c.send_bytes.new.rig).calls in
    part_up (settling_run byte limit) (4097 + (4099 * limit + 4104)) (4100 * (limit + 4)) a e (omega arith)
    (part_then [] (settling_run byte limit) 4097 (4099 * limit + 4104) a b e c.in_ok-drain.ensures.speaks.whole c.send_bytes.ensures.calls)

pub returns-clause-settled : goal.returns-clause-settled
returns-clause-settled g c =
    let V = g.R.Rig.view in
    let byte = c.args.byte in
    let limit = c.args.limit in
    let a = (V c.args.rig.now).calls in
    let b = (V c.drain.new.rig).calls in
    let e = (V c.send_bytes.new.rig).calls in
    on_ok_weaker c.send_bytes.result (λ singly. settled_singly byte limit a e c.if-byte-ne-CONNECT.false (single_calls byte limit c.in_ok-drain.field-0 a b e c.in_ok-drain.ensures.drained singly)) c.send_bytes.ensures.settled

pub returns-clause-fails : goal.returns-clause-fails
returns-clause-fails g c =
    let V = g.R.Rig.view in
    let byte = c.args.byte in
    let limit = c.args.limit in
    let a = (V c.args.rig.now).calls in
    let b = (V c.drain.new.rig).calls in
    let e = (V c.send_bytes.new.rig).calls in
    let drained = c.in_ok-drain.ensures.speaks.whole in
    let all : 0 + limit ≡ limit = omega arith in
    fails_all_weaker (EndsQuiet byte limit) (EndsGarbled byte limit) (EndsQuiet byte limit) (EndsGarbled byte limit) b e a e c.send_bytes.result
    (λ p. past_after byte 0 limit limit 4097 IsUnanswered a b e all drained p)
    (λ p. garbled_after byte 0 limit limit 4097 a b e all drained p)
    c.send_bytes.ensures.fails

pub returns-in_err-drain-clause-awaited : goal.returns-in_err-drain-clause-awaited
returns-in_err-drain-clause-awaited g c h many pages harmless few =
    let a = g.R.Rig.view c.args.rig.now in
    let k = c.drain.ensures.keeps h c.args.byte pages a.device (settling_start c.args.byte pages a.device harmless few) in
    let line = c.in_err-drain.ensures.line h in
    record { keeps = k; ok = search rules; fails = search (rules, line) }

pub returns-in_err-drain-clause-honest : goal.returns-in_err-drain-clause-honest
returns-in_err-drain-clause-honest g c h many pages harmless few =
    returns-in_err-drain-clause-awaited g c h (enough_sent c.args.byte c.args.limit (g.R.Rig.view c.args.rig.now).device (g.met.R.Rig.model c.args.rig.now h).device c.ranges.byte.fits many) pages harmless few

pub returns-clause-awaited : goal.returns-clause-awaited
returns-clause-awaited g c h many pages harmless few =
    let V = g.R.Rig.view in
    let a = V c.args.rig.now in
    let b = V c.drain.new.rig in
    let k = c.drain.ensures.keeps h c.args.byte pages a.device (settling_start c.args.byte pages a.device harmless few) in
    let mb = g.met.R.Rig.model c.drain.new.rig k.honest in
    let going = going_drained c.args.byte c.args.limit pages a.device b.device many harmless few (c.in_ok-drain.ensures.empty h) in
    let m = c.send_bytes.ensures.honest k.honest pages a.device going in
    record { keeps = keeps_then c.args.byte pages a.device a b (V c.send_bytes.new.rig) mb k m.keeps; ok = m.ok; fails = m.fails }

pub returns-clause-honest : goal.returns-clause-honest
returns-clause-honest g c h many pages harmless few =
    returns-clause-awaited g c h (enough_sent c.args.byte c.args.limit (g.R.Rig.view c.args.rig.now).device (g.met.R.Rig.model c.args.rig.now h).device c.ranges.byte.fits many) pages harmless few

pub returns-then-byte-ne-CONNECT-clause-honest : goal.returns-then-byte-ne-CONNECT-clause-honest
returns-then-byte-ne-CONNECT-clause-honest g c h many pages harmless few =
    c.settle_in_batches.ensures.awaited h (enough_sent c.args.byte c.args.limit (g.R.Rig.view c.args.rig.now).device (g.met.R.Rig.model c.args.rig.now h).device c.ranges.byte.fits many) pages harmless few
