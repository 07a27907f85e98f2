use Rattle.std.proofs.Common.{◌≡◌, ◌<◌, ◌==◌, false, ℕ, List, length, Option, Some, sym, ap, ◌∙◌, arith}
use Rattle.std.specs.Prelude.{option_map}
use Rattle.std.proofs.lemmas.Bool.Decides.{nat_tests}
use Rattle.stm_journal.proofs.Upper.{hex_bytes_of-even}
use Rattle.stm_journal.proofs.line.hex_length.Goals as goal

some-of : (n : ℕ) → false ≡ (n == 0) → 0 < n
some-of n h = grind (arith, nat_tests)

pub returns-then-are_all_upper : goal.returns-then-are_all_upper
returns-then-are_all_upper c =
    let ds = c.args.digits.now in
    let b = hex_bytes_of-even ds (some-of (length ds) (c.if-not-is_empty.ensures)) c.if-digits-eq0.true (sym c.if-are_all_upper.ensures) in
    ap (λ (n : ℕ). Some n) (sym b.2) ∙ sym (ap (λ (o : Option (List ℕ)). option_map (λ bytes. length bytes) o) b.1)
