use Rattle.std.proofs.Common.{◌<◌, ◌+◌, ◌∙◌, ap, ap₂, sym, refl, arith}
use Rattle.std.specs.List.{prefix_len}
use Rattle.hex.specs.Hex.{is_hex_digit}
use Rattle.stm_image.specs.Record.{Whole}
use Rattle.stm_image.proofs.Digits.{scans_whole, needed, needed_two, count_read, whole_rest}
use Rattle.stm_image.proofs.scan.read_digits.Goals as goal

pub unread-requires : goal.unread-requires
unread-requires c =
    let few : prefix_len is_hex_digit c.args.text.now < 2 = grind (arith, c.if-not-fill.ensures.enough.1) in
    let two = needed_two c.args.text.now few in
    omega arith

pub unread-requires-then-not-fill-2 : goal.unread-requires-then-not-fill-2
unread-requires-then-not-fill-2 c =
    let two = c.if-not-fill.ensures.enough.0 refl in
    let first = count_read c.args.text.now _ c.if-not-fill.ensures.value in
    let count = needed c.args.text.now _ two (ap (λ n. n + 5) (c.from-count.ensures ∙ first)) in
    grind (arith, c.if-not-fill-2.ensures.enough.1)

pub returns-clause-value : goal.returns-clause-value
returns-clause-value c =
    let text = c.args.text.now in
    let two = c.if-not-fill.ensures.enough.0 refl in
    let first = count_read text _ c.if-not-fill.ensures.value in
    let count = needed text _ two (ap (λ n. n + 5) (c.from-count.ensures ∙ first)) in
    ap₂ Whole c.if-not-fill-2.ensures.value (whole_rest text _) ∙ sym (scans_whole text _ count (c.if-not-fill-2.ensures.enough.0 refl))
