use Rattle.std.proofs.Common.{rules, ◌≡◌, ◌+◌, ◌-◌, ◌*◌, arith, refl, ◌∙◌, subst, Result, Err, Bool, ℕ, [], ◌∷◌, replicate}
use Rattle.stm_wire.proofs.Names.{AreUnrefused, EndsGarbled, EndsQuiet, Floods, GoesOn, IsGoing, IsRefused, IsSettled, IsUnanswered, IsUnended, Never, PutsAll, PutsPart, settling_run, WireFault}
use Rattle.stm_wire.proofs.Talking.{went_nowhere, all_part, part_run, speaks_more, cause_fault}
use Rattle.std.proofs.lemmas.Bool.{MatchBool-at_true, MatchBool-at_false}
use Rattle.std.proofs.lemmas.Result.{on_ok_weaker}
use Rattle.stm_wire.proofs.Going.{fresh_at_last}
use Rattle.stm_wire.proofs.Keeping.{keeps_start, keeps_then, going_begin, going_next, going_last, settled_waiting}
use Rattle.stm_wire.proofs.Talking.{went_more, speaks_ok, speaks_then, speaks_went}
use Rattle.stm_wire.proofs.SettlingCalls.{unrefused_nowhere, unrefused_more, singly_refused, singly_reconnected}
use Rattle.stm_wire.proofs.SettlingFaults.{fails_on, fails_all_weaker, never_after, floods_after, garbled_flood, garbled_past, past_now}
use Rattle.stm_wire.proofs.settling.send_bytes.Goals as goal

pub loop-sent-init : goal.loop-sent-init
loop-sent-init g c =
    let V = g.R.Rig.view in
    record {
      went = went_nowhere (V c.args.rig.now);
      brief = refl;
      unrefused = unrefused_nowhere c.args.byte (V c.args.rig.now).calls;
      honest = λ h pages start going. (
        keeps_start c.args.byte pages start (V c.args.rig.now) (g.met.R.Rig.model c.args.rig.now h) h going.settling,
        going_begin c.args.byte c.args.limit pages start (V c.args.rig.now).device going,
      );
    }

pub returns-in_err-send_once-clause-honest : goal.returns-in_err-send_once-clause-honest
returns-in_err-send_once-clause-honest g c h pages start going =
    let V = g.R.Rig.view in
    let a = V c.args.rig.now in
    let b = V c.loop-sent.rig in
    let i = c.loop-sent.invariant.honest h pages start going in
    let mb = g.met.R.Rig.model c.loop-sent.rig i.0.honest in
    let rest = c.args.limit - (c.loop-sent._sent + 1) in
    let next = going_next c.args.byte c.args.limit c.loop-sent._sent pages start b.device c.loop-sent-test.true i.1 in
    let d = V c.send_once.new.rig in
    let once = c.in_err-send_once.ensures.once i.0.honest pages start rest next in
    let line = once.fails in
    record { keeps = keeps_then c.args.byte pages start a b d mb i.0 once.keeps; ok = search rules; fails = search (rules, line) }

pub returns-then-branch-clause-honest : goal.returns-then-branch-clause-honest
returns-then-branch-clause-honest g c h pages start going =
    let V = g.R.Rig.view in
    let a = V c.args.rig.now in
    let b = V c.loop-sent.rig in
    let i = c.loop-sent.invariant.honest h pages start going in
    let mb = g.met.R.Rig.model c.loop-sent.rig i.0.honest in
    let rest = c.args.limit - (c.loop-sent._sent + 1) in
    let next = going_next c.args.byte c.args.limit c.loop-sent._sent pages start b.device c.loop-sent-test.true i.1 in
    let d = V c.send_once.new.rig in
    let once = c.in_ok-send_once.ensures.once i.0.honest pages start rest next in
    record {
      keeps = keeps_then c.args.byte pages start a b d mb i.0 once.keeps;
      ok = MatchBool-at_true (IsSettled d.device) (IsGoing c.args.byte pages start rest d.device) c.if-branch.true once.ok;
      fails = search rules;
    }

pub loop-sent-preserved : goal.loop-sent-preserved
loop-sent-preserved g c =
    record {
      brief = c.in_ok-send_once.ensures.brief ∙ c.loop-sent.invariant.brief;
      went = (let V = g.R.Rig.view in
          went_more c.args.byte c.loop-sent._sent (V c.args.rig.now) (V c.loop-sent.rig) (V c.send_once.new.rig) c.loop-sent.invariant.went
          (speaks_went (c.args.byte ∷ []) 4099 c.in_ok-send_once.field-0 (V c.loop-sent.rig) (V c.send_once.new.rig) c.in_ok-send_once.ensures.speaks));
      unrefused = (let V = g.R.Rig.view in
          let a = (V c.args.rig.now).calls in
          let b = (V c.loop-sent.rig).calls in
          let d = (V c.send_once.new.rig).calls in
          unrefused_more c.args.byte c.loop-sent._sent a b d c.loop-sent.invariant.unrefused
          (MatchBool-at_false (GoesOn (IsRefused c.args.byte) b d) (GoesOn (AreUnrefused c.args.byte 1) b d) c.if-branch.false c.in_ok-send_once.ensures.refused));
      honest = λ h pages start going.
          let V = g.R.Rig.view in
          let a = V c.args.rig.now in
          let b = V c.loop-sent.rig in
          let i = c.loop-sent.invariant.honest h pages start going in
          let mb = g.met.R.Rig.model c.loop-sent.rig i.0.honest in
          let rest = c.args.limit - (c.loop-sent._sent + 1) in
          let next = going_next c.args.byte c.args.limit c.loop-sent._sent pages start b.device c.loop-sent-test.true i.1 in
          let d = V c.send_once.new.rig in
          let once = c.in_ok-send_once.ensures.once i.0.honest pages start rest next in (
            keeps_then c.args.byte pages start a b d mb i.0 once.keeps,
            MatchBool-at_false (IsSettled d.device) (IsGoing c.args.byte pages start rest d.device) c.if-branch.false once.ok,
          );
    }

pub returns-clause-honest : goal.returns-clause-honest
returns-clause-honest g c h pages start going =
    let V = g.R.Rig.view in
    let a = V c.args.rig.now in
    let b = V c.loop-sent.rig in
    let i = c.loop-sent.invariant.honest h pages start going in
    let mb = g.met.R.Rig.model c.loop-sent.rig i.0.honest in
    let last = going_last c.args.byte c.args.limit c.loop-sent._sent pages start b.device c.loop-sent-test.false i.1 in
    let e = V c.reconnect.new.rig in
    let l = c.reconnect.ensures.honest i.0.honest pages start last.settling (fresh_at_last c.args.byte pages start b.device last) last.quiet in
    record {
      keeps = keeps_then c.args.byte pages start a b e mb i.0 l.keeps;
      ok = on_ok_weaker c.reconnect.result (λ f. settled_waiting b.device e.device f) l.ok;
      fails = l.fails;
    }

pub returns-in_err-send_once-clause-cause : goal.returns-in_err-send_once-clause-cause
returns-in_err-send_once-clause-cause g c =
    let V = g.R.Rig.view in
    let fault = c.in_err-send_once.field-0.0 in
    let failed : Result Bool WireFault = Err fault in
    let s = speaks_more c.args.byte c.loop-sent._sent failed (V c.args.rig.now) (V c.loop-sent.rig) (V c.send_once.new.rig) c.loop-sent.invariant.went c.in_err-send_once.ensures.speaks in
    cause_fault {T = Bool} fault c.from_residual.result (V c.args.rig.now) (V c.send_once.new.rig) c.from_residual.ensures.1 s.cause

pub returns-in_err-send_once-clause-calls : goal.returns-in_err-send_once-clause-calls
returns-in_err-send_once-clause-calls g c =
    let V = g.R.Rig.view in
    let n = c.loop-sent._sent in
    let fault = c.in_err-send_once.field-0.0 in
    let failed : Result Bool WireFault = Err fault in
    let s = speaks_more c.args.byte n failed (V c.args.rig.now) (V c.loop-sent.rig) (V c.send_once.new.rig) c.loop-sent.invariant.went c.in_err-send_once.ensures.speaks in
    part_run c.args.byte c.args.limit (n + 1) (4099 * (n + 1)) (4099 * c.args.limit + 4104) (V c.args.rig.now).calls (V c.send_once.new.rig).calls (omega (arith, c.loop-sent-test.true)) (omega (arith, c.loop-sent-test.true)) s.part

pub returns-then-branch-clause-cause : goal.returns-then-branch-clause-cause
returns-then-branch-clause-cause g c =
    let V = g.R.Rig.view in
    let n = c.loop-sent._sent in
    let u : Unit {0} = tt in
    let w = went_more c.args.byte n (V c.args.rig.now) (V c.loop-sent.rig) (V c.send_once.new.rig) c.loop-sent.invariant.went
    (speaks_went (c.args.byte ∷ []) 4099 c.in_ok-send_once.field-0 (V c.loop-sent.rig) (V c.send_once.new.rig) c.in_ok-send_once.ensures.speaks) in
    (speaks_ok (replicate (n + 1) c.args.byte) (4099 * (n + 1)) u (V c.args.rig.now) (V c.send_once.new.rig) w).cause

pub returns-then-branch-clause-calls : goal.returns-then-branch-clause-calls
returns-then-branch-clause-calls g c =
    let V = g.R.Rig.view in
    let n = c.loop-sent._sent in
    let w = went_more c.args.byte n (V c.args.rig.now) (V c.loop-sent.rig) (V c.send_once.new.rig) c.loop-sent.invariant.went
    (speaks_went (c.args.byte ∷ []) 4099 c.in_ok-send_once.field-0 (V c.loop-sent.rig) (V c.send_once.new.rig) c.in_ok-send_once.ensures.speaks) in
    part_run c.args.byte c.args.limit (n + 1) (4099 * (n + 1)) (4099 * c.args.limit + 4104) (V c.args.rig.now).calls (V c.send_once.new.rig).calls (omega (arith, c.loop-sent-test.true)) (omega (arith, c.loop-sent-test.true))
    (all_part (replicate (n + 1) c.args.byte) (4099 * (n + 1)) (V c.args.rig.now).calls (V c.send_once.new.rig).calls w.all)

pub returns-clause-cause : goal.returns-clause-cause
returns-clause-cause g c =
    let V = g.R.Rig.view in
    let n = c.loop-sent._sent in
    (speaks_then (replicate n c.args.byte) (0x7F ∷ c.args.byte ∷ c.args.byte ∷ []) (4099 * n) 4104 c.reconnect.result (V c.args.rig.now) (V c.loop-sent.rig) (V c.reconnect.new.rig) c.loop-sent.invariant.went c.reconnect.ensures.speaks).cause

pub returns-clause-calls : goal.returns-clause-calls
returns-clause-calls g c =
    let V = g.R.Rig.view in
    let n = c.loop-sent._sent in
    let all : n ≡ c.args.limit = omega (arith, c.loop-sent-test.false, c.loop-sent.auto) in
    let P : ℕ → Type 0 = λ k. GoesOn (PutsPart (settling_run c.args.byte k) (4099 * k + 4104)) (V c.args.rig.now).calls (V c.reconnect.new.rig).calls in
    subst P all (speaks_then (replicate n c.args.byte) (0x7F ∷ c.args.byte ∷ c.args.byte ∷ []) (4099 * n) 4104 c.reconnect.result (V c.args.rig.now) (V c.loop-sent.rig) (V c.reconnect.new.rig) c.loop-sent.invariant.went c.reconnect.ensures.speaks).part

pub returns-then-branch-clause-settled : goal.returns-then-branch-clause-settled
returns-then-branch-clause-settled g c =
    let V = g.R.Rig.view in
    let a = (V c.args.rig.now).calls in
    let b = (V c.loop-sent.rig).calls in
    let d = (V c.send_once.new.rig).calls in
    singly_refused c.args.byte c.args.limit c.loop-sent._sent a b d c.loop-sent-test.true c.loop-sent.invariant.unrefused
    (MatchBool-at_true (GoesOn (IsRefused c.args.byte) b d) (GoesOn (AreUnrefused c.args.byte 1) b d) c.if-branch.true c.in_ok-send_once.ensures.refused)

pub returns-clause-settled : goal.returns-clause-settled
returns-clause-settled g c =
    let V = g.R.Rig.view in
    let a = (V c.args.rig.now).calls in
    let b = (V c.loop-sent.rig).calls in
    let d = (V c.reconnect.new.rig).calls in
    on_ok_weaker c.reconnect.result (λ w. singly_reconnected c.args.byte c.args.limit c.loop-sent._sent a b d (omega (arith, c.loop-sent-test.false, c.loop-sent.auto)) c.loop-sent.invariant.unrefused w) c.reconnect.ensures.settled

pub returns-in_err-send_once-clause-fails : goal.returns-in_err-send_once-clause-fails
returns-in_err-send_once-clause-fails g c =
    let V = g.R.Rig.view in
    let byte = c.args.byte in
    let n = c.loop-sent._sent in
    let a = (V c.args.rig.now).calls in
    let b = (V c.loop-sent.rig).calls in
    let d = (V c.send_once.new.rig).calls in
    let before = PutsAll (replicate n byte) (4099 * n) in
    fails_on Never Floods (EndsQuiet byte c.args.limit) (EndsGarbled byte c.args.limit) b d a d c.in_err-send_once.field-0.0 c.from_residual.result
    (λ p. never_after before (EndsQuiet byte c.args.limit) a b d c.loop-sent.invariant.went.all p)
    (λ p. garbled_flood byte c.args.limit a d (floods_after before a b d c.loop-sent.invariant.went.all p))
    c.in_err-send_once.ensures.fails c.from_residual.ensures.1

pub returns-clause-fails : goal.returns-clause-fails
returns-clause-fails g c =
    let V = g.R.Rig.view in
    let byte = c.args.byte in
    let limit = c.args.limit in
    let n = c.loop-sent._sent in
    let a = (V c.args.rig.now).calls in
    let b = (V c.loop-sent.rig).calls in
    let d = (V c.reconnect.new.rig).calls in
    let all : n ≡ limit = omega (arith, c.loop-sent-test.false, c.loop-sent.auto) in
    let before = subst (λ (k : ℕ). GoesOn (PutsAll (replicate k byte) (4099 * k)) a b) all c.loop-sent.invariant.went.all in
    fails_all_weaker IsUnanswered (IsUnended byte) (EndsQuiet byte limit) (EndsGarbled byte limit) b d a d c.reconnect.result
    (λ p. past_now byte limit (4099 * limit) IsUnanswered a b d before p)
    (λ p. garbled_past byte limit (4099 * limit) a b d before p)
    c.reconnect.ensures.fails
