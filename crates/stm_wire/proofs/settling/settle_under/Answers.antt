use Rattle.std.proofs.Common.{ℕ, subst}
use Rattle.stm_wire.proofs.Names.{Awaits, Harmless, Settles}
use Rattle.stm_wire.proofs.settling.settle_under.Goals as goal

-- the byte is the intent's
pub returns-in-None-clause-awaited : goal.returns-in-None-clause-awaited
returns-in-None-clause-awaited g c h many pages harmless few =
    let V = g.R.Rig.view in
    let a = V c.args.rig.now in
    let P : ℕ → Type 0 = λ b. Awaits b c.args.limit a.device → Harmless a.device b pages → Settles b pages a.device c.settle.result a (V c.settle.new.rig) in
    subst P c.settling_byte-byte.ensures (λ enough safe. c.settle.ensures.awaited h enough pages safe few) many harmless

pub returns-in-Some-clause-awaited : goal.returns-in-Some-clause-awaited
returns-in-Some-clause-awaited g c h many pages harmless few =
    let V = g.R.Rig.view in
    let a = V c.args.rig.now in
    let P : ℕ → Type 0 = λ b. Awaits b c.args.limit a.device → Harmless a.device b pages → Settles b pages a.device c.settle_in_batches.result a (V c.settle_in_batches.new.rig) in
    subst P c.settling_byte-byte.ensures (λ enough safe. c.settle_in_batches.ensures.awaited h enough pages safe few) many harmless
