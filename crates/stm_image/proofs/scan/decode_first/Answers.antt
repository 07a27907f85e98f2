use Rattle.std.proofs.Common.{◌≡◌, ◌*◌, length, take, arith}
use Rattle.std.proofs.lemmas.Grind.{common_steps}
use Rattle.std.proofs.lemmas.List.Sums.{prefix_len-le-length}
use Rattle.hex.specs.Hex.{is_hex_digit}
use Rattle.stm_image.proofs.Tables.{front_decoded}
use Rattle.stm_image.proofs.scan.decode_first.Goals as goal

pub returns-in-Some-clause-enough : goal.returns-in-Some-clause-enough
returns-in-Some-clause-enough c =
    let h = c.in-Some.ensures.lookup in
    let digits : c.in-Some.digits.now ≡ take (2 * length c.args.out.now) c.args.text.now = grind (arith, common_steps, h.0.2) in
    (front_decoded c.decode.result c.args.text.now (length c.args.out.now) c.in-Some.digits.now c.decode.new.out h.0.1 digits c.decode.ensures).0

pub returns-in-Some-clause-value : goal.returns-in-Some-clause-value
returns-in-Some-clause-value c =
    let h = c.in-Some.ensures.lookup in
    let digits : c.in-Some.digits.now ≡ take (2 * length c.args.out.now) c.args.text.now = grind (arith, common_steps, h.0.2) in
    (front_decoded c.decode.result c.args.text.now (length c.args.out.now) c.in-Some.digits.now c.decode.new.out h.0.1 digits c.decode.ensures).1

pub returns-in-None-clause-enough : goal.returns-in-None-clause-enough
returns-in-None-clause-enough c =
    let h = c.in-None.ensures.lookup in
    let few = prefix_len-le-length is_hex_digit c.args.text.now in
    (λ t. cc, λ e. absurd (grind (arith, h.0, few)))
