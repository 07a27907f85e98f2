use Rattle.std.proofs.Common.{◌≡◌, ◌∙◌, ℕ, ◌∷◌, [], length, sym, subst, refl, rules}
use Rattle.stm_wire.proofs.Names.{read_turns}
use Rattle.stm_session.proofs.Names.{Begin, IsReadOf, ReadsBlock, Sends}
use Rattle.stm_session.proofs.CutShort.{begin_all, memory_stops}
use Rattle.stm_session.proofs.reading.read_block.Goals as goal

pub returns-clause-order : goal.returns-clause-order
returns-clause-order g c =
    let V = g.R.Rig.view in
    let size : length c.read_part.new.buf ≡ c.args.size = search rules in
    let P : ℕ → Type 0 = λ z. ReadsBlock c.args.address z c.read_part.new.buf (V c.args.rig.now) (V c.read_part.new.rig) in
    (c.read_part.new.buf, search rules, subst P (sym c.in_ok-read_part.ensures.size ∙ size) c.in_ok-read_part.ensures.order)

pub returns-in_err-extend_from_slice-clause-stops : goal.returns-in_err-extend_from_slice-clause-stops
returns-in_err-extend_from_slice-clause-stops g c torn =
    let V = g.R.Rig.view in
    let n = c.args.size in
    let part = c.in_ok-read_part.ensures in
    let size : length c.read_part.new.buf ≡ n = search rules in
    let turns = read_turns c.args.address c.read_part.new.buf in
    let read : IsReadOf c.args.address n (Sends turns ∷ []) = record { answer = c.read_part.new.buf; size = size; is = refl } in
    memory_stops (Begin (IsReadOf c.args.address n)) torn (Sends turns ∷ []) (V c.args.rig.now) (V c.read_part.new.rig) c.from_residual-in_err-extend_from_slice.result c.from_residual-in_err-extend_from_slice.ensures.1
    (begin_all (IsReadOf c.args.address n) (Sends turns ∷ []) read) (part.order.sent torn)
