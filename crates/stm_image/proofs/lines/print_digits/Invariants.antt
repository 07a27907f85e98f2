use Rattle.std.proofs.Common.{◌≡◌, ◌*◌, ◌++◌, length, take, drop}
use Rattle.hex.specs.Hex.{encode_upper}
use Rattle.stm_image.proofs.lines.print_digits.Given as goal

-- the digits so far and those of what is left are those of all
abbrev pub invariant-bytes : goal.invariant-bytes
invariant-bytes l = record {
  long : length l.out ≡ length l.initial.out;
  digits : take (2 * l.i) l.out ++ encode_upper (drop l.i l.bytes) ≡ encode_upper l.bytes;
}
