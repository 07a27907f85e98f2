use Rattle.std.proofs.Common.{◌≡◌, ◌+◌, ◌/◌, ◌%◌, ◌++◌, List, ℕ, length, take, drop, sym, ap, ap₂, ◌∙◌, append_assoc, arith}
use Rattle.stm_image.specs.Canon.{lines, line, upper_line, parts_of, runs_of}
use Rattle.stm_image.specs.Pairs.{raw_pairs}
use Rattle.stm_image.proofs.Cutting.{lines_part}
use Rattle.stm_image.proofs.writer.put_run.Goals as goal

-- the lines of one part
pub parts-preserved : goal.parts-preserved
parts-preserved c =
    let inv = c.parts.invariant in
    let rest = c.parts.rest.now in
    let at = c.parts.at in
    let count = c.part_len.result in
    let part = c.part_len.ensures in
    let text = c.parts.text.items in
    let split = c.split_at.ensures in
    let now = c.split_at.result.0.now in
    let after = c.split_at.result.1.now in
    let next : at + length now ≡ at + count = omega (arith, split.front_len) in
    record {
      at = omega (arith, inv.at, split.front_len, split.back_len, part.within);
      written = λ later behind.
          let front = lines_part c.parts.high at count rest later part (rw inv.at behind) in
          let A = upper_line c.parts.high (at / 65536) in
          let L = line (at % 65536) 0 (take count rest) in
          let M = lines (at / 65536) (parts_of (runs_of (raw_pairs (at + count) (drop count rest) ++ later))) in
          let added = c.in_ok-high.ensures.lines ∙ ap (λ b. text ++ A ++ line (at % 65536) 0 b) split.front in
          let more = ap₂ (λ h n. lines h (parts_of (runs_of (raw_pairs n after ++ later)))) c.in_ok-high.ensures.upper next ∙ ap (λ b. lines (at / 65536) (parts_of (runs_of (raw_pairs (at + count) b ++ later)))) split.back in
          ap₂ (λ t l. t ++ l) added more ∙ regroup text A L M ∙ ap (λ ls. text ++ ls) (sym front) ∙ inv.written later behind;
    }
  where
    regroup : (a b c d : List ℕ) → ((a ++ b) ++ c) ++ d ≡ a ++ ((b ++ c) ++ d)
    regroup a b c d = simp append_assoc
