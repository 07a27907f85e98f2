use Rattle.std.proofs.Common.{◌≡◌, ℕ, ◌+◌, ◌*◌, ◌%◌, ◌<◌, ◌≤◌, Bool, Ok, List, inl, inr, bit_or, slice_index, refl, sym, ap, ap₂, subst, ◌∙◌, rules, arith}
use Rattle.std.specs.Prelude.{MatchBool}
use Rattle.std.proofs.lemmas.Bool.{cases_lt, le-leb, lt-leb}
use Rattle.std.proofs.lemmas.List.{length-set}
use Rattle.std.proofs.lemmas.Nat.{le_or_l, le_or_r, or_lt}
use Rattle.hex.specs.Hex.{decode_of, hex_digit_value}
use Rattle.stm_image.specs.Digits.{IsTable, IsPair, HasOther, table_value}
use Rattle.stm_image.proofs.Tables.{all_decode, more_pairs, table_large, table_small}
use Rattle.stm_image.proofs.digit_table.decode.Goals as goal

-- what the table has of a digit
read : (values : List ℕ) (at digit : ℕ) → IsTable values → at ≡ digit → digit < 256 → slice_index values at ≡ table_value (hex_digit_value digit)
read values at digit table same low = ap (slice_index values) same ∙ table.each digit low

-- two digits' values as one byte
joined : (high low : ℕ) → high ≤ 15 → low ≤ 15 → (high * 16 % 256 + low) % 256 ≡ high * 16 + low
joined high low h l = omega arith

-- values that are not all small
one_large : (seen high low : ℕ) → 15 < bit_or (bit_or seen high) low → seen ≤ 15 → high ≤ 15 → 15 < low
one_large seen high low large s h = elim (cases_lt 15 low) [
  | inl over ↦ over
  | inr le ↦ let both = or_lt 4 (bit_or seen high) low (or_lt 4 seen high (omega arith) (omega arith)) (omega arith) in absurd (omega arith)
]

-- one pair more
pub loop-i-preserved : goal.loop-i-preserved
loop-i-preserved c =
    let digits = c.args.digits.now in
    let values = c.args.values.now in
    let i = c.loop-i.i in
    let out = c.loop-i.out in
    let seen = c.loop-i.seen in
    let inv = c.loop-i.invariant in
    let first = slice_index digits (2 * i) in
    let second = slice_index digits (2 * i + 1) in
    let first_low : first < 256 = omega (arith, c.type_inv.digits (2 * i)) in
    let second_low : second < 256 = omega (arith, c.type_inv.digits (2 * i + 1)) in
    let first_same : c.from.result ≡ first = first_of (search (rules, c.from.ensures), omega (arith, c.from.ensures)) in
    let second_same : c.from-in-loop-i.result ≡ second = first_of (search (rules, c.from-in-loop-i.ensures), omega (arith, c.from-in-loop-i.ensures)) in
    let h = slice_index values c.from.result in
    let l = slice_index values c.from-in-loop-i.result in
    let high : h ≡ table_value (hex_digit_value first) = read values c.from.result first c.requires.table first_same first_low in
    let low : l ≡ table_value (hex_digit_value second) = read values c.from-in-loop-i.result second c.requires.table second_same second_low in
    let byte = (h * 16 % 256 + l) % 256 in
    record {
      long = length-set out i byte ∙ inv.long;
      pairs = λ small.
          let all = le_or_l (bit_or seen h) l in
          let one = le_or_l seen h in
          let two = le_or_r seen h in
          let three = le_or_r (bit_or seen h) l in
          let pair : IsPair first second byte = record {
            high = table_value (hex_digit_value first);
            low = table_value (hex_digit_value second);
            first_is = table_small first (hex_digit_value first) refl (omega arith);
            second_is = table_small second (hex_digit_value second) refl (omega arith);
            is = joined h l (omega arith) (omega arith) ∙ ap₂ (λ x y. x * 16 + y) high low;
          } in
          more_pairs digits out i byte (omega (arith, c.loop-i-test.true, inv.long)) (inv.pairs (omega arith)) pair;
      other = λ large. elim (cases_lt 15 seen) [
        | inl before ↦ inv.other before
        | inr none ↦ elim (cases_lt 15 h) [
          | inl here ↦ record {
            place = 2 * i;
            within = omega (arith, c.loop-i-test.true, c.requires.twice, inv.long);
            other = table_large first _ refl (omega arith);
          }
          | inr fine ↦
              let over = one_large seen h l large none fine in
              record {
                place = 2 * i + 1;
                within = omega (arith, c.loop-i-test.true, c.requires.twice, inv.long);
                other = table_large second _ refl (omega arith);
              }
        ]
      ];
    }

pub returns : goal.returns
returns c =
    let inv = c.loop-i.invariant in
    let all = c.loop-i-test.false in
    let digits = c.args.digits.now in
    let M : Bool → Type 0 = λ t. MatchBool t (decode_of digits ≡ Ok c.loop-i.out) (HasOther digits) in
    elim (cases_lt 15 c.loop-i.seen) [
      | inl over ↦ subst M (sym (lt-leb c.loop-i.seen 15 over)) (inv.other over)
      | inr le ↦ subst M (sym (le-leb c.loop-i.seen 15 le)) (all_decode digits c.loop-i.out (omega (arith, c.requires.twice, inv.long)) (λ k lt. inv.pairs le k (omega (arith, all, inv.long, lt))))
    ]
