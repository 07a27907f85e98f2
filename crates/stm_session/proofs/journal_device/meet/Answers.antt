use Rattle.std.proofs.Common.{◌≡◌, ◌≤◌, ◌∙◌, [], None, ap, inr, length, sym, ◌+◌, ◌*◌, Bool, true, false, arith, Option, subst}
use Rattle.stm_wire.proofs.Names.{ChipData, GoesOn, Harmless, IsPart, IsSession, LeavesOnly}
use Rattle.stm_journal.proofs.Names.{intent_of, IsLoaded}
use Rattle.stm_session.proofs.Names.{asking_steps, Begin, byte_at_journal, byte_of, Cause, cause_of, Fault, is_whole, IsAsking, IsElsewhere, IsWithinLimit, limit_of, most_of_reaching, ReachesInPart}
use Rattle.stm_session.proofs.Names.{risked_at, settling_way, StopsBy, undo_misfit}
use Rattle.stm_session.proofs.Going.{at_exit, asks_go, asks_fail, goes_failed, goes_then}
use Rattle.stm_session.proofs.Misfitting.{own_misfit}
use Rattle.stm_session.proofs.Unread.{none_some}
use Rattle.stm_session.proofs.Straying.{strays_failed, strays_asked, strays_unasked, misfit_was}
use Rattle.stm_wire.specs.lemmas.PartLaws.{session_joins, session_longer, settling_is_session}
use Rattle.stm_session.proofs.Sending.{same_fault}
use Rattle.std.specs.Prelude.{IfSome}
use Rattle.stm_session.proofs.AskingStops.{asked_puts, cut_puts}
use Rattle.stm_session.proofs.CutShort.{by_fault}
use Rattle.stm_session.proofs.Reaching.{asks_stop, settle_stops}
use Rattle.stm_session.proofs.Orders.{settles_then}
use Rattle.stm_session.proofs.journal_device.meet.Given.{Over}
use Rattle.stm_session.proofs.journal_device.meet.Goals.{After-ask_misfit, In_ok-misfit}
use Rattle.stm_session.proofs.journal_device.meet.Goals as goal

pub returns-in_err-settle_intended-clause-honest : goal.returns-in_err-settle_intended-clause-honest
returns-in_err-settle_intended-clause-honest g c h flashes loaded undoable chip =
    let V = g.R.Rig.view in
    let l = c.args.journal.now in
    goes_failed flashes [] [] l l (V c.args.rig.now) (V c.settle_intended.new.rig) _ c.from_residual.result (c.in_err-settle_intended.ensures.honest h flashes loaded undoable (ap (λ (p : ChipData). p.kind) chip)) c.from_residual.ensures.1

pub returns-in_err-misfit-clause-honest : goal.returns-in_err-misfit-clause-honest
returns-in_err-misfit-clause-honest g c h flashes loaded undoable chip =
    let V = g.R.Rig.view in
    let l = c.args.journal.now in
    let first = c.in_ok-settle_intended.ensures.honest h flashes loaded undoable (ap (λ (p : ChipData). p.kind) chip) in
    let model = g.met.R.Rig.model c.settle_intended.new.rig first.honest in
    goes_then flashes [] [] l l (V c.args.rig.now) (V c.settle_intended.new.rig) (V c.ask_misfit.new.rig) (tt {0}) c.from_residual-in_err-misfit.result model first
    (asks_fail c.step_laws.ensures flashes l (V c.settle_intended.new.rig) (V c.ask_misfit.new.rig) first.steady [] l _ c.from_residual-in_err-misfit.result
    (c.in_err-misfit.ensures.honest first.honest first.steady.settled) c.from_residual-in_err-misfit.ensures.1) (λ y p. p)

pub returns-in-Some-clause-honest : goal.returns-in-Some-clause-honest
returns-in-Some-clause-honest g c h flashes loaded undoable chip =
    let V = g.R.Rig.view in
    let first = c.in_ok-settle_intended.ensures.honest h flashes loaded undoable (ap (λ (p : ChipData). p.kind) chip) in
    let model = g.met.R.Rig.model c.settle_intended.new.rig first.honest in
    let still = (at_exit _ (V c.args.rig.now) (V c.settle_intended.new.rig) model first.moments).make.chip ∙ chip in
    let done : c.in_ok-misfit.misfit ≡ undo_misfit c.args.chip.now c.args.chip.now.id (V c.settle_intended.new.rig).device = (c.in_ok-misfit.ensures.honest first.honest first.steady.settled).done in
    let none : undo_misfit c.args.chip.now c.args.chip.now.id (V c.settle_intended.new.rig).device ≡ None = own_misfit c.args.chip.now (V c.settle_intended.new.rig).device model.device still in
    let is = c.in-Some.is in
    absurd (none_some _ _ none (sym done ∙ is))

pub returns-in-None-clause-honest : goal.returns-in-None-clause-honest
returns-in-None-clause-honest g c h flashes loaded undoable chip =
    let V = g.R.Rig.view in
    let l = c.args.journal.now in
    let first = c.in_ok-settle_intended.ensures.honest h flashes loaded undoable (ap (λ (p : ChipData). p.kind) chip) in
    let model = g.met.R.Rig.model c.settle_intended.new.rig first.honest in
    goes_then flashes [] [] l l (V c.args.rig.now) (V c.settle_intended.new.rig) (V c.ask_misfit.new.rig) (tt {0}) _ model first
    (asks_go c.step_laws.ensures flashes l (V c.settle_intended.new.rig) (V c.ask_misfit.new.rig) first.steady _ (tt {0})
    (c.in_ok-misfit.ensures.honest first.honest first.steady.settled) (λ done. tt)) (λ y p. p)

pub returns-in_err-settle_intended-clause-elsewhere : goal.returns-in_err-settle_intended-clause-elsewhere
returns-in_err-settle_intended-clause-elsewhere g c h loaded harmless owed within =
    let V = g.R.Rig.view in
    strays_failed c.args.chip.now (V c.args.rig.now) (V c.settle_intended.new.rig) _ c.from_residual.result (c.in_err-settle_intended.ensures.strays h loaded harmless owed within) c.from_residual.ensures.1

pub returns-in_err-misfit-clause-elsewhere : goal.returns-in_err-misfit-clause-elsewhere
returns-in_err-misfit-clause-elsewhere g c h loaded harmless owed within =
    let V = g.R.Rig.view in
    let first = c.in_ok-settle_intended.ensures.strays h loaded harmless owed within in
    let asks = c.in_err-misfit.ensures.honest first.honest first.settled in
    strays_unasked c.step_laws.ensures c.args.chip.now (V c.args.rig.now) (V c.settle_intended.new.rig) (V c.ask_misfit.new.rig) _ first (g.met.R.Rig.model c.ask_misfit.new.rig asks.honest) _ c.from_residual-in_err-misfit.result asks c.from_residual-in_err-misfit.ensures.1

-- a device that may be another was asked, and answered what it is
answered : (g : Over) (c : In_ok-misfit g) → (g.R.Rig.view c.args.rig.now).is_honest
    → let a = g.R.Rig.view c.args.rig.now in IsLoaded c.args.journal.now a.journal
    → Harmless a.device (byte_at_journal a.journal) (risked_at a.journal)
    → length a.device.owed ≤ 4096
    → IsWithinLimit c.args.chip.now a
    → (g.R.Rig.view c.ask_misfit.new.rig).is_honest
    × (undo_misfit c.args.chip.now c.args.chip.now.id a.device ≡ c.in_ok-misfit.misfit)
    × LeavesOnly (IsElsewhere a) a (g.R.Rig.view c.ask_misfit.new.rig)
    × IsElsewhere a (g.R.Rig.view c.ask_misfit.new.rig).device
    (g.R.Rig.view c.ask_misfit.new.rig).journal
answered g c h loaded harmless owed within =
    let V = g.R.Rig.view in
    let a = V c.args.rig.now in
    let b = V c.settle_intended.new.rig in
    let first = c.in_ok-settle_intended.ensures.strays h loaded harmless owed within in
    let asks = c.in_ok-misfit.ensures.honest first.honest first.settled in
    let model = g.met.R.Rig.model c.ask_misfit.new.rig asks.honest in
    let kept = strays_asked c.step_laws.ensures c.args.chip.now a b (V c.ask_misfit.new.rig) _ first
    model _ asks in
    (asks.honest, sym (asks.done ∙ misfit_was c.args.chip.now a b first.left), kept.0, kept.1)

pub returns-in-Some-clause-elsewhere : goal.returns-in-Some-clause-elsewhere
returns-in-Some-clause-elsewhere g c h loaded harmless owed within =
    let at = (goal.at.returns-in-Some-clause-elsewhere g c).In_ok-misfit in
    let told = answered g at h loaded harmless owed within in
    let is = c.in-Some.is in
    let why = told.1 ∙ is in
    record { moments = told.2; honest = told.0; left = told.3; accepted = tt; refused = inr why }

pub returns-in-None-clause-elsewhere : goal.returns-in-None-clause-elsewhere
returns-in-None-clause-elsewhere g c h loaded harmless owed within =
    let at = (goal.at.returns-in-None-clause-elsewhere g c).In_ok-misfit in
    let told = answered g at h loaded harmless owed within in
    let is = c.in-None.is in
    let none = told.1 ∙ is in
    record { moments = told.2; honest = told.0; left = told.3; accepted = none; refused = tt }

pub returns-in_err-settle_intended-clause-puts : goal.returns-in_err-settle_intended-clause-puts
returns-in_err-settle_intended-clause-puts g c =
    let V = g.R.Rig.view in
    let way = settling_way c.args.chip.now.kind c.args.journal.now.is_greeted (intent_of c.args.journal.now.state) in
    let byte = byte_of way in
    let limit = limit_of way in
    let a = (V c.args.rig.now).calls in
    let b = (V c.settle_intended.new.rig).calls in
    let whole = is_whole c.from_residual.result in
    session_longer None byte limit whole (4100 * (limit + 4)) (most_of_reaching limit) a b (omega arith) (settling_is_session None byte limit whole (4100 * (limit + 4)) a b c.settle_intended.ensures.calls)

-- what was put after the device was settled
put_then : (g : Over) (c : After-ask_misfit g) (whole : Bool)
    → GoesOn (IsPart None whole 268) (g.R.Rig.view c.settle_intended.new.rig).calls
    (g.R.Rig.view c.ask_misfit.new.rig).calls
    → let way = settling_way c.args.chip.now.kind c.args.journal.now.is_greeted
    (intent_of c.args.journal.now.state) in
    GoesOn (IsSession None (byte_of way) (limit_of way) whole (most_of_reaching (limit_of way)))
    (g.R.Rig.view c.args.rig.now).calls (g.R.Rig.view c.ask_misfit.new.rig).calls
put_then g c whole part =
    let V = g.R.Rig.view in
    let way = settling_way c.args.chip.now.kind c.args.journal.now.is_greeted (intent_of c.args.journal.now.state) in
    let most = 4100 * (limit_of way + 4) in
    let a = (V c.args.rig.now).calls in
    let b = (V c.settle_intended.new.rig).calls in
    let settles = settling_is_session None (byte_of way) (limit_of way) true most a b
    c.settle_intended.ensures.calls in
    session_joins None (byte_of way) (limit_of way) whole most 268 a b
    (V c.ask_misfit.new.rig).calls settles part

pub returns-in_err-misfit-clause-puts : goal.returns-in_err-misfit-clause-puts
returns-in_err-misfit-clause-puts g c =
    let V = g.R.Rig.view in
    let way = settling_way c.args.chip.now.kind c.args.journal.now.is_greeted (intent_of c.args.journal.now.state) in
    let a = (V c.args.rig.now).calls in
    let d = (V c.ask_misfit.new.rig).calls in
    let P : Bool → Type 0 =
    λ w. GoesOn (IsSession None (byte_of way) (limit_of way) w (most_of_reaching (limit_of way)))
    a d in
    let at = (goal.at.returns-in_err-misfit-clause-puts g c).After-ask_misfit in
    same_fault P _ c.from_residual-in_err-misfit.result c.from_residual-in_err-misfit.ensures.1
    (put_then g at _
    (cut_puts _ (V c.settle_intended.new.rig) (V c.ask_misfit.new.rig)
    (c.in_err-misfit.ensures.stops false)))

pub returns-in-Some-clause-puts : goal.returns-in-Some-clause-puts
returns-in-Some-clause-puts g c =
    let V = g.R.Rig.view in
    let b = V c.settle_intended.new.rig in
    let d = V c.ask_misfit.new.rig in
    let P : Option Fault → Type 0 =
    λ o. IfSome o (λ fault. StopsBy (Begin IsAsking) (cause_of fault) false b d) in
    put_then g (goal.at.returns-in-Some-clause-puts g c).After-ask_misfit _
    (cut_puts _ b d (subst P c.in-Some.is (c.in_ok-misfit.ensures.refuses false)))

pub returns-in-None-clause-puts : goal.returns-in-None-clause-puts
returns-in-None-clause-puts g c =
    let V = g.R.Rig.view in
    put_then g (goal.at.returns-in-None-clause-puts g c).After-ask_misfit true
    (asked_puts c.args.chip.now.id (V c.settle_intended.new.rig) (V c.ask_misfit.new.rig)
    (c.in_ok-misfit.ensures.order false c.in-None.is))

pub returns-in-None-clause-order : goal.returns-in-None-clause-order
returns-in-None-clause-order g c torn =
    let V = g.R.Rig.view in
    let way = settling_way c.args.chip.now.kind c.args.journal.now.is_greeted (intent_of c.args.journal.now.state) in
    let asked = c.in_ok-misfit.ensures.order torn c.in-None.is in (
      asked.0,
      asked.1,
      settles_then way torn (asking_steps asked.0 asked.1 c.args.chip.now.id) (V c.args.rig.now).calls (V c.settle_intended.new.rig).calls (V c.ask_misfit.new.rig).calls
          c.settle_intended.ensures.calls c.in_ok-settle_intended.ensures.settled asked.2,
      asked.3,
    )

pub returns-in_err-settle_intended-clause-stops : goal.returns-in_err-settle_intended-clause-stops
returns-in_err-settle_intended-clause-stops g c torn =
    let V = g.R.Rig.view in
    let way = settling_way c.args.chip.now.kind c.args.journal.now.is_greeted (intent_of c.args.journal.now.state) in
    let a = (V c.args.rig.now).calls in
    let b = (V c.settle_intended.new.rig).calls in
    by_fault (λ (k : Cause). GoesOn (ReachesInPart way k torn) a b) _ c.from_residual.result c.from_residual.ensures.1 (settle_stops way _ torn a b c.in_err-settle_intended.ensures.sent c.settle_intended.ensures.calls)

pub returns-in_err-misfit-clause-stops : goal.returns-in_err-misfit-clause-stops
returns-in_err-misfit-clause-stops g c torn =
    let V = g.R.Rig.view in
    let way = settling_way c.args.chip.now.kind c.args.journal.now.is_greeted (intent_of c.args.journal.now.state) in
    let a = V c.args.rig.now in
    let d = V c.ask_misfit.new.rig in
    by_fault (λ (k : Cause). GoesOn (ReachesInPart way k torn) a.calls d.calls) _ c.from_residual-in_err-misfit.result c.from_residual-in_err-misfit.ensures.1
    (asks_stop way _ torn a (V c.settle_intended.new.rig) d c.settle_intended.ensures.calls c.in_ok-settle_intended.ensures.settled (c.in_err-misfit.ensures.stops torn))

pub returns-in-Some-clause-stops : goal.returns-in-Some-clause-stops
returns-in-Some-clause-stops g c torn =
    let V = g.R.Rig.view in
    let way = settling_way c.args.chip.now.kind c.args.journal.now.is_greeted (intent_of c.args.journal.now.state) in
    let a = V c.args.rig.now in
    let b = V c.settle_intended.new.rig in
    let d = V c.ask_misfit.new.rig in
    let P : Option Fault → Type 0 = λ o. IfSome o (λ fault. StopsBy (Begin IsAsking) (cause_of fault) torn b d) in
    asks_stop way _ torn a b d c.settle_intended.ensures.calls c.in_ok-settle_intended.ensures.settled (subst P c.in-Some.is (c.in_ok-misfit.ensures.refuses torn))
