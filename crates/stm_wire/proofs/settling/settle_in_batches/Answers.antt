use Rattle.std.proofs.Common.{rules, ◌≡◌, ◌≤◌, ◌+◌, ◌-◌, ◌*◌, arith, [], replicate, Result, Err, Bool, ℕ}
use Rattle.std.proofs.lemmas.Result.{on_ok_weaker}
use Rattle.stm_wire.proofs.Names.{EndsGarbled, EndsQuiet, Floods, IsUnanswered, Never, PutsAll, settling_run, WireFault}
use Rattle.stm_wire.proofs.Keeping.{keeps_then, settling_start, going_drained}
use Rattle.stm_wire.proofs.SettlingCalls.{batched_calls}
use Rattle.stm_wire.proofs.SettlingFaults.{fails_on, fails_all_weaker, never_so, never_after, floods_after, garbled_flood, garbled_after, past_after}
use Rattle.stm_wire.proofs.Talking.{all_then, cause_then, cause_fault, part_then, part_up, part_more, part_run, run_after, batches_went, speaks_went}
use Rattle.stm_wire.proofs.settling.settle_in_batches.Goals as goal

pub returns-in_err-drain-clause-cause : goal.returns-in_err-drain-clause-cause
returns-in_err-drain-clause-cause g c =
    let V = g.R.Rig.view in
    cause_fault {T = Bool} c.in_err-drain.field-0.0 c.from_residual.result (V c.args.rig.now) (V c.drain.new.rig) c.from_residual.ensures.1 c.in_err-drain.ensures.speaks.cause

pub returns-in_err-drain-clause-calls : goal.returns-in_err-drain-clause-calls
returns-in_err-drain-clause-calls g c =
    let V = g.R.Rig.view in
    part_more [] (settling_run c.args.byte c.args.limit) 4097 (4100 * (c.args.limit + 4)) (V c.args.rig.now).calls (V c.drain.new.rig).calls (omega arith) c.in_err-drain.ensures.speaks.part

pub returns-in_err-drain-clause-fails : goal.returns-in_err-drain-clause-fails
returns-in_err-drain-clause-fails g c =
    let V = g.R.Rig.view in
    let byte = c.args.byte in
    let limit = c.args.limit in
    let a = (V c.args.rig.now).calls in
    let b = (V c.drain.new.rig).calls in
    fails_on Never Floods (EndsQuiet byte limit) (EndsGarbled byte limit) a b a b c.in_err-drain.field-0.0 c.from_residual.result
    (λ p. never_so (EndsQuiet byte limit) a b p) (λ p. garbled_flood byte limit a b p) c.in_err-drain.ensures.fails c.from_residual.ensures.1

pub returns-in_err-left-clause-cause : goal.returns-in_err-left-clause-cause
returns-in_err-left-clause-cause g c =
    let V = g.R.Rig.view in
    let fault = c.in_err-left.field-0.0 in
    let failed : Result ℕ WireFault = Err fault in
    let w = speaks_went [] 4097 c.in_ok-drain.field-0 (V c.args.rig.now) (V c.drain.new.rig) c.in_ok-drain.ensures.speaks in
    cause_fault {T = ℕ} fault c.from_residual-in_err-left.result (V c.args.rig.now) (V c.send_batches.new.rig) c.from_residual-in_err-left.ensures.1
    (cause_then [] 4097 failed (V c.args.rig.now) (V c.drain.new.rig) (V c.send_batches.new.rig) w c.in_err-left.ensures.speaks.cause)

pub returns-in_err-left-clause-calls : goal.returns-in_err-left-clause-calls
returns-in_err-left-clause-calls g c =
    let V = g.R.Rig.view in
    let byte = c.args.byte in
    let limit = c.args.limit in
    let a = (V c.args.rig.now).calls in
    let b = (V c.drain.new.rig).calls in
    let d = (V c.send_batches.new.rig).calls in
    part_run byte limit limit (4097 + 4099 * limit) (4100 * (limit + 4)) a d (omega arith) (omega arith)
    (part_then [] (replicate limit byte) 4097 (4099 * limit) a b d c.in_ok-drain.ensures.speaks.whole c.in_err-left.ensures.speaks.part)

pub returns-in_err-left-clause-fails : goal.returns-in_err-left-clause-fails
returns-in_err-left-clause-fails g c =
    let V = g.R.Rig.view in
    let byte = c.args.byte in
    let limit = c.args.limit in
    let a = (V c.args.rig.now).calls in
    let b = (V c.drain.new.rig).calls in
    let d = (V c.send_batches.new.rig).calls in
    let before = PutsAll [] 4097 in
    let drained = c.in_ok-drain.ensures.speaks.whole in
    fails_on Never Floods (EndsQuiet byte limit) (EndsGarbled byte limit) b d a d c.in_err-left.field-0.0 c.from_residual-in_err-left.result
    (λ p. never_after before (EndsQuiet byte limit) a b d drained p) (λ p. garbled_flood byte limit a d (floods_after before a b d drained p))
    c.in_err-left.ensures.fails c.from_residual-in_err-left.ensures.1

pub returns-in_err-drain-clause-awaited : goal.returns-in_err-drain-clause-awaited
returns-in_err-drain-clause-awaited g c h many pages harmless few =
    let a = g.R.Rig.view c.args.rig.now in
    let k = c.drain.ensures.keeps h c.args.byte pages a.device (settling_start c.args.byte pages a.device harmless few) in
    let line = c.in_err-drain.ensures.line h in
    record { keeps = k; ok = search rules; fails = search (rules, line) }

pub returns-in_err-left-clause-awaited : goal.returns-in_err-left-clause-awaited
returns-in_err-left-clause-awaited g c h many pages harmless few =
    let V = g.R.Rig.view in
    let a = V c.args.rig.now in
    let b = V c.drain.new.rig in
    let k = c.drain.ensures.keeps h c.args.byte pages a.device (settling_start c.args.byte pages a.device harmless few) in
    let mb = g.met.R.Rig.model c.drain.new.rig k.honest in
    let going = going_drained c.args.byte c.args.limit pages a.device b.device many harmless few (c.in_ok-drain.ensures.empty h) in
    let l = c.in_err-left.ensures.honest k.honest pages a.device going in
    let line = l.fails in
    record { keeps = keeps_then c.args.byte pages a.device a b (V c.send_batches.new.rig) mb k l.keeps; ok = search rules; fails = search (rules, line) }

pub returns-clause-cause : goal.returns-clause-cause
returns-clause-cause g c =
    let V = g.R.Rig.view in
    let byte = c.args.byte in
    let limit = c.args.limit in
    let left = c.in_ok-left.left in
    let a = V c.args.rig.now in
    let b = V c.drain.new.rig in
    let d = V c.send_batches.new.rig in
    let e = V c.send_bytes.new.rig in
    cause_then [] 4097 c.send_bytes.result a b e (speaks_went [] 4097 c.in_ok-drain.field-0 a b c.in_ok-drain.ensures.speaks)
    (cause_then (replicate (limit - left) byte) (4099 * (limit - left)) c.send_bytes.result b d e (batches_went byte limit left b d c.in_ok-left.ensures.speaks) c.send_bytes.ensures.cause)

pub returns-clause-calls : goal.returns-clause-calls
returns-clause-calls g c =
    let V = g.R.Rig.view in
    let byte = c.args.byte in
    let limit = c.args.limit in
    let left = c.in_ok-left.left in
    let a = (V c.args.rig.now).calls in
    let b = (V c.drain.new.rig).calls in
    let d = (V c.send_batches.new.rig).calls in
    let e = (V c.send_bytes.new.rig).calls in
    let within : left ≤ limit = c.in_ok-left.ensures.speaks.within in
    let before = all_then [] (replicate (limit - left) byte) 4097 (4099 * (limit - left)) a b d c.in_ok-drain.ensures.speaks.whole c.in_ok-left.ensures.speaks.whole in
    let most = 4097 + 4099 * (limit - left) in
    part_up (settling_run byte limit) (most + (4099 * left + 4104)) (4100 * (limit + 4)) a e (omega arith)
    (run_after byte limit left most (4099 * left + 4104) a d e within before c.send_bytes.ensures.calls)

pub returns-clause-settled : goal.returns-clause-settled
returns-clause-settled g c =
    let V = g.R.Rig.view in
    let a = (V c.args.rig.now).calls in
    let b = (V c.drain.new.rig).calls in
    let d = (V c.send_batches.new.rig).calls in
    let e = (V c.send_bytes.new.rig).calls in
    on_ok_weaker c.send_bytes.result (λ singly. batched_calls c.args.byte c.args.limit c.in_ok-left.left c.in_ok-drain.field-0 a b d e c.in_ok-drain.ensures.drained c.in_ok-left.ensures.batches singly) c.send_bytes.ensures.settled

pub returns-clause-fails : goal.returns-clause-fails
returns-clause-fails g c =
    let V = g.R.Rig.view in
    let byte = c.args.byte in
    let limit = c.args.limit in
    let left = c.in_ok-left.left in
    let a = (V c.args.rig.now).calls in
    let b = (V c.drain.new.rig).calls in
    let d = (V c.send_batches.new.rig).calls in
    let e = (V c.send_bytes.new.rig).calls in
    let within : left ≤ limit = c.in_ok-left.ensures.speaks.within in
    let before = all_then [] (replicate (limit - left) byte) 4097 (4099 * (limit - left)) a b d c.in_ok-drain.ensures.speaks.whole c.in_ok-left.ensures.speaks.whole in
    let most = 4097 + 4099 * (limit - left) in
    let all : (limit - left) + left ≡ limit = omega arith in
    fails_all_weaker (EndsQuiet byte left) (EndsGarbled byte left) (EndsQuiet byte limit) (EndsGarbled byte limit) d e a e c.send_bytes.result
    (λ p. past_after byte (limit - left) left limit most IsUnanswered a d e all before p)
    (λ p. garbled_after byte (limit - left) left limit most a d e all before p)
    c.send_bytes.ensures.fails

pub returns-clause-awaited : goal.returns-clause-awaited
returns-clause-awaited g c h many pages harmless few =
    let V = g.R.Rig.view in
    let a = V c.args.rig.now in
    let b = V c.drain.new.rig in
    let k = c.drain.ensures.keeps h c.args.byte pages a.device (settling_start c.args.byte pages a.device harmless few) in
    let mb = g.met.R.Rig.model c.drain.new.rig k.honest in
    let going = going_drained c.args.byte c.args.limit pages a.device b.device many harmless few (c.in_ok-drain.ensures.empty h) in
    let l = c.in_ok-left.ensures.honest k.honest pages a.device going in
    let d = V c.send_batches.new.rig in
    let two = keeps_then c.args.byte pages a.device a b d mb k l.keeps in
    let md = g.met.R.Rig.model c.send_batches.new.rig two.honest in
    let m = c.send_bytes.ensures.honest two.honest pages a.device l.ok in
    record { keeps = keeps_then c.args.byte pages a.device a d (V c.send_bytes.new.rig) md two m.keeps; ok = m.ok; fails = m.fails }
