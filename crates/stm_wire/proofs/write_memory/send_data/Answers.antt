use Rattle.std.proofs.Common.{◌-◌, ◌++◌, ◌∷◌, [], ℕ, List, length}
use Rattle.std.proofs.lemmas.Result.{on_ok_weaker}
use Rattle.stm_wire.proofs.Names.{ack, BreaksOff, LeavesFirst, owing, step_turns, WireFault, xor}
use Rattle.stm_wire.proofs.Feeding.{Fed-append}
use Rattle.stm_wire.proofs.Holding.{Holds-says, BreaksOff-says, BreaksOff-said, on_fault, if_err_weaker}
use Rattle.stm_wire.proofs.write_memory.send_data.Goals as goal

pub returns-in_err-put_all-clause-broken : goal.returns-in_err-put_all-clause-broken
returns-in_err-put_all-clause-broken g c =
    let V = g.R.Rig.view in
    let bytes : List ℕ = c.args.bytes.now in
    let count : ℕ = length bytes - 1 in
    let rest : List ℕ = bytes ++ xor (count ∷ bytes) ∷ [] in
    let e = c.in_err-put_all.field-0.0 in
    let P : WireFault → Type 0 = λ fault. BreaksOff fault (count ∷ rest) (step_turns (count ∷ rest)) (V c.args.rig.now) (V c.put_all.new.rig) in
    on_fault P c.from_residual.result e c.from_residual.ensures.1 (BreaksOff-said e (count ∷ []) rest (V c.args.rig.now) (V c.put_all.new.rig) c.in_err-put_all.ensures.broken)

pub returns-in_err-put_all-2-clause-broken : goal.returns-in_err-put_all-2-clause-broken
returns-in_err-put_all-2-clause-broken g c =
    let V = g.R.Rig.view in
    let bytes : List ℕ = c.args.bytes.now in
    let count : ℕ = length bytes - 1 in
    let check : List ℕ = xor (count ∷ bytes) ∷ [] in
    let e = c.in_err-put_all-2.field-0.0 in
    let P : WireFault → Type 0 = λ fault. BreaksOff fault (count ∷ (bytes ++ check)) (step_turns (count ∷ (bytes ++ check))) (V c.args.rig.now) (V c.put_all-2.new.rig) in
    on_fault P c.from_residual-in_err-put_all-2.result e c.from_residual-in_err-put_all-2.ensures.1
    (BreaksOff-says e (count ∷ []) (bytes ++ check) (V c.args.rig.now) (V c.put_all.new.rig) (V c.put_all-2.new.rig) c.in_ok-put_all.ensures.held
    (BreaksOff-said e bytes check (V c.put_all.new.rig) (V c.put_all-2.new.rig) c.in_err-put_all-2.ensures.broken))

pub returns-clause-held : goal.returns-clause-held
returns-clause-held g c =
    let V = g.R.Rig.view in
    let bytes : List ℕ = c.args.bytes.now in
    let count : ℕ = length bytes - 1 in
    let check : List ℕ = xor (count ∷ bytes) ∷ [] in
    on_ok_weaker c.send_step.result
    (λ last. Holds-says (count ∷ []) (bytes ++ check) (V c.args.rig.now) (V c.put_all.new.rig) (V c.send_step.new.rig) c.in_ok-put_all.ensures.held
    (Holds-says bytes check (V c.put_all.new.rig) (V c.put_all-2.new.rig) (V c.send_step.new.rig) c.in_ok-put_all-2.ensures.held last))
    (rw c.data_checksum.ensures at c.send_step.ensures.held)

pub returns-clause-broken : goal.returns-clause-broken
returns-clause-broken g c =
    let V = g.R.Rig.view in
    let bytes : List ℕ = c.args.bytes.now in
    let count : ℕ = length bytes - 1 in
    let check : List ℕ = xor (count ∷ bytes) ∷ [] in
    let Q : WireFault → Type 0 = λ fault. BreaksOff fault check (step_turns check) (V c.put_all-2.new.rig) (V c.send_step.new.rig) in
    let P : WireFault → Type 0 = λ fault. BreaksOff fault (count ∷ (bytes ++ check)) (step_turns (count ∷ (bytes ++ check))) (V c.args.rig.now) (V c.send_step.new.rig) in
    if_err_weaker Q P c.send_step.result
    (λ e last. BreaksOff-says e (count ∷ []) (bytes ++ check) (V c.args.rig.now) (V c.put_all.new.rig) (V c.send_step.new.rig) c.in_ok-put_all.ensures.held
    (BreaksOff-says e bytes check (V c.put_all.new.rig) (V c.put_all-2.new.rig) (V c.send_step.new.rig) c.in_ok-put_all-2.ensures.held last))
    (rw c.data_checksum.ensures at c.send_step.ensures.broken)

pub returns-clause-acknowledged : goal.returns-clause-acknowledged
returns-clause-acknowledged g c h =
    let V = g.R.Rig.view in
    let bytes : List ℕ = c.args.bytes.now in
    let count : ℕ = length bytes - 1 in
    let check : List ℕ = xor (count ∷ bytes) ∷ [] in
    let h1 = (c.in_ok-put_all.ensures.held.honestly h).honest in
    let h2 = (c.in_ok-put_all-2.ensures.held.honestly h1).honest in
    let new = owing (ack ∷ []) (V c.send_step.new.rig).device in
    on_ok_weaker c.send_step.result
    (λ last. Fed-append (count ∷ []) (bytes ++ check) (V c.args.rig.now).device (V c.put_all.new.rig).device new (c.in_ok-put_all.ensures.fed h)
    (Fed-append bytes check (V c.put_all.new.rig).device (V c.put_all-2.new.rig).device new (c.in_ok-put_all-2.ensures.fed h1) last))
    ((rw c.data_checksum.ensures at c.send_step.ensures.acknowledged) h2)

pub returns-clause-line : goal.returns-clause-line
returns-clause-line g c h first =
    let V = g.R.Rig.view in
    let bytes : List ℕ = c.args.bytes.now in
    let count : ℕ = length bytes - 1 in
    let check : List ℕ = xor (count ∷ bytes) ∷ [] in
    let h1 = (c.in_ok-put_all.ensures.held.honestly h).honest in
    let h2 = (c.in_ok-put_all-2.ensures.held.honestly h1).honest in
    let still : LeavesFirst ack check (V c.put_all-2.new.rig).device =
    λ new fed. first new (Fed-append (count ∷ []) (bytes ++ check) (V c.args.rig.now).device (V c.put_all.new.rig).device new (c.in_ok-put_all.ensures.fed h)
    (Fed-append bytes check (V c.put_all.new.rig).device (V c.put_all-2.new.rig).device new (c.in_ok-put_all-2.ensures.fed h1) fed)) in
    (rw c.data_checksum.ensures at c.send_step.ensures.line) h2 still
