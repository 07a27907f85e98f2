use Rattle.std.proofs.Common.{◌≡◌, ◌==◌, refl, arith, false}
use Rattle.std.proofs.lemmas.Bool.Decides.{nat_tests}
use Rattle.stm_files.specs.declared.tally.Tally.{Tally}
use Rattle.stm_files.proofs.Tallies.{one-byte-more}
use Rattle.stm_files.proofs.tally.Tally.with_byte.Goals as goal

pub returns : goal.returns
returns c =
    λ bytes is few.
    let u : Tally = record { lines = c.args.self.lines; voids = c.args.self.voids; tail = c.saturating_add-tail.result; is_marked = c.args.byte == 33 } in
    let other : (c.args.byte == 10) ≡ false = grind (arith, nat_tests, c.if-byte-eq10.false) in
    one-byte-more bytes c.args.byte c.args.self u is few other refl refl (omega (arith, c.saturating_add-tail.ensures)) refl
