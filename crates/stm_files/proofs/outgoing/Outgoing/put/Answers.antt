use Rattle.std.proofs.Common.{ℕ, ◌++◌, List, ap, sym}
use Rattle.stm_files.proofs.Waiting.{alone, unmoved}
use Rattle.stm_files.proofs.outgoing.Outgoing.put.Goals as goal

pub returns : goal.returns
returns g c =
    let old = c.args.self.now in
    let new = c.push-2.new.self in
    let same = unmoved c.push.result old c.push.new.self c.args.byte c.if-push.false c.push.ensures in
    let is = alone c.push-2.result c.send.new.self new c.args.byte c.send.ensures.emptied c.push-2.ensures in
    record { in_turn = record { sent = old; appends = rw same at c.in_ok-send.ensures.sent; in_turn = ap (λ (xs : List ℕ). old ++ xs) (sym is) } }
