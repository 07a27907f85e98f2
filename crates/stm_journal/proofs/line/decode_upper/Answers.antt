use Rattle.std.proofs.Common.{refl, sym, ◌∙◌, length}
use Rattle.hex.specs.Hex.{decode_sized}
use Rattle.stm_journal.proofs.Bringing.{decoded-again}
use Rattle.stm_journal.proofs.line.decode_upper.Goals as goal

pub returns-then-are_all_upper-clause-said : goal.returns-then-are_all_upper-clause-said
returns-then-are_all_upper-clause-said c ok =
    let digits = c.args.digits.now in
    let size = length c.args.out.now in
    decoded-again digits size c.decode_to_slice.new.out c.decode_to_slice.result (decode_sized digits size) (sym c.are_all_upper.ensures ∙ c.if-are_all_upper.true) refl c.decode_to_slice.ensures.value
    (sym c.is_ok.ensures.value ∙ ok)
