use Rattle.std.proofs.Common.{◌≡◌, ℕ, Option, Ok, refl, subst, Some}
use Rattle.stm_session.proofs.Names.{AllCameAgree, Asks, CameFor, first_difference, IsBegunTelling, of_refusal, OnlyReads, outcome_data, verifies}
use Rattle.stm_session.proofs.Doings.{asks_fails}
use Rattle.stm_session.proofs.OneCommands.{verify_agrees, verify_differs}
use Rattle.stm_session.proofs.RunOrders.{reads_follow}
use Rattle.stm_session.specs.declared.fault.Fault.TheVariants as faults
use Rattle.stm_session.proofs.Arrivals.{reading_stops}
use Rattle.stm_session.proofs.CutShort.{halts}
use Rattle.stm_session.proofs.one_command.verify_image.Goals as goal

pub returns-in_err-difference-clause-honest : goal.returns-in_err-difference-clause-honest
returns-in_err-difference-clause-honest g c flashes l steady chip =
    let V = g.R.Rig.view in
    asks_fails c.step_laws.ensures flashes (verifies c.args.image.now) l (V c.args.rig.now) (V c.find_difference.new.rig) refl steady outcome_data l _ c.from_residual.result
    (c.in_err-difference.ensures.honest steady.honest steady.settled chip) c.from_residual.ensures.1

pub returns-in-Some-clause-honest : goal.returns-in-Some-clause-honest
returns-in-Some-clause-honest g c flashes l steady chip =
    let V = g.R.Rig.view in
    let a = V c.args.rig.now in
    let b = V c.find_difference.new.rig in
    let P : Option ℕ → Type 0 = λ o. Asks {T = Option ℕ} a b (Ok o) (λ found. found ≡ first_difference c.args.image.now c.args.chip.now.base a.device.flash) in
    verify_differs c.step_laws.ensures flashes c.args.image.now c.args.chip.now l a b steady chip outcome_data c.in-Some.address (subst P c.in-Some.is (c.in_ok-difference.ensures.honest steady.honest steady.settled chip))

pub returns-in-None-clause-honest : goal.returns-in-None-clause-honest
returns-in-None-clause-honest g c flashes l steady chip =
    let V = g.R.Rig.view in
    let a = V c.args.rig.now in
    let b = V c.find_difference.new.rig in
    let P : Option ℕ → Type 0 = λ o. Asks {T = Option ℕ} a b (Ok o) (λ found. found ≡ first_difference c.args.image.now c.args.chip.now.base a.device.flash) in
    verify_agrees c.step_laws.ensures flashes c.args.image.now c.args.chip.now l a b steady chip (subst P c.in-None.is (c.in_ok-difference.ensures.honest steady.honest steady.settled chip))

pub returns-in-None-clause-order : goal.returns-in-None-clause-order
returns-in-None-clause-order g c l =
    let V = g.R.Rig.view in
    let chip = c.args.chip.now in
    let image = c.args.image.now in
    let a = V c.args.rig.now in
    let b = V c.find_difference.new.rig in
    let P : Option ℕ → Type 0 = λ o. OnlyReads chip (CameFor image chip.base o) a b in
    reads_follow chip (AllCameAgree image chip.base) l a b (subst P c.in-None.is c.in_ok-difference.ensures.reads)

pub returns-in_err-difference-clause-stops : goal.returns-in_err-difference-clause-stops
returns-in_err-difference-clause-stops g c l =
    let V = g.R.Rig.view in
    reading_stops c.args.chip.now (verifies c.args.image.now) l.state l.is_torn (V c.args.rig.now) (V c.find_difference.new.rig) _ c.from_residual.result refl c.from_residual.ensures.1 c.in_err-difference.ensures.sent
    (c.in_err-difference.ensures.reads_stop l.is_torn)

pub returns-in-Some-clause-stops : goal.returns-in-Some-clause-stops
returns-in-Some-clause-stops g c l =
    let V = g.R.Rig.view in
    let chip = c.args.chip.now in
    let image = c.args.image.now in
    let a = V c.args.rig.now in
    let b = V c.find_difference.new.rig in
    let R : Option ℕ → Type 0 = λ o. OnlyReads chip (CameFor image chip.base o) a b in
    let found : R (Some c.in-Some.address) = subst R c.in-Some.is c.in_ok-difference.ensures.reads in
    let read = found l.is_torn in
    halts (IsBegunTelling chip (verifies image) l.state (faults.Differs c.in-Some.address)) of_refusal l.is_torn read.0 a b (read.1, read.2) refl read.3
