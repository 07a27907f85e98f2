use Rattle.std.proofs.Common.{◌+◌, ◌*◌, slice_set, ◌∙◌, arith}
use Rattle.std.proofs.lemmas.List.{length-set}
use Rattle.hex.proofs.Pairs.{encode_step, encode_done}
use Rattle.hex.specs.Hex.{upper_digits}
use Rattle.stm_image.proofs.lines.print_digits.Goals as goal

-- two digits more
pub bytes-preserved : goal.bytes-preserved
bytes-preserved c =
    let out = c.bytes.out in
    let i = c.bytes.i in
    let inv = c.bytes.invariant in
    let high = c.digit_of.result in
    record {
      long = length-set (slice_set out (2 * i) high) (2 * i + 1) c.digit_of-in-bytes.result ∙ length-set out (2 * i) high ∙ inv.long;
      digits = encode_step upper_digits c.args.bytes.now out i _ _ c.bytes-test.true (omega (arith, c.bytes-test.true, inv.long, c.requires)) c.digit_of.ensures c.digit_of-in-bytes.ensures inv.digits;
    }

pub returns : goal.returns
returns c = let inv = c.bytes.invariant in encode_done upper_digits c.args.bytes.now c.bytes.out c.bytes.i c.bytes-test.false (omega (arith, inv.long, c.requires)) inv.digits
