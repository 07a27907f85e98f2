use Rattle.std.proofs.Common.{◌≡◌, ℕ, ◌∙◌, length, sym, subst, rules}
use Rattle.stm_session.proofs.Names.{ReadsBlock}
use Rattle.stm_session.proofs.comparing.compare_block.Goals as goal

pub returns-clause-order : goal.returns-clause-order
returns-clause-order g c =
    let V = g.R.Rig.view in
    let size : length c.read_part.new.buf ≡ c.args.size = search rules in
    let P : ℕ → Type 0 = λ z. ReadsBlock c.args.address z c.read_part.new.buf (V c.args.rig.now) (V c.read_part.new.rig) in
    (c.read_part.new.buf, search rules, subst P (sym c.in_ok-read_part.ensures.size ∙ size) c.in_ok-read_part.ensures.order)
