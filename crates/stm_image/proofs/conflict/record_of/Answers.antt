use Rattle.std.proofs.Common.{◌++◌, ◌∷◌, [], take, arith}
use Rattle.stm_image.specs.Text.{form_of}
use Rattle.stm_image.specs.declared.place.Form.TheVariants.{Linear}
use Rattle.stm_image.proofs.Conflicting.{length-placed}
use Rattle.stm_image.proofs.Reading.{Follows-snoc, length-snoc}
use Rattle.stm_image.proofs.Verdicts.{longest_at_stop}
use Rattle.stm_image.proofs.conflict.record_of.Goals as goal

-- records up to a stop have all bytes
pub unreachable-requires : goal.unreachable-requires
unreachable-requires c =
    let inv = c.records.invariant in
    let given = c.requires in
    let all = longest_at_stop c.args.text.now c.records.number inv.0 c.records.rest.now c.in-Stop.field-0 inv.1 c.in-Stop.ensures given.records given.rest given.follows in
    omega (arith, given.within, inv.4)

-- the byte is one of this record
pub returns-then-left-data : goal.returns-then-left-data
returns-then-left-data c =
    let inv = c.records.invariant in
    let step = c.in-Goes.ensures in
    let r = take c.in-Goes.count c.next_record.new.bytes in
    let own = c.data_count-data.ensures (form_of (Linear 0) inv.0) in
    let more = length-placed inv.0 r in
    record {
      records = inv.0;
      rest = c.records.rest.now;
      follows = inv.1;
      next = r;
      after = c.in-Goes.after.now;
      stands = step.0;
      flawless = step.1;
      goes_on = step.2;
      before = omega (arith, inv.4);
      within = omega (arith, inv.4, own, more, c.if-left-data.true);
      number = inv.2;
    }

pub records-preserved : goal.records-preserved
records-preserved c =
    let inv = c.records.invariant in
    let step = c.in-Goes.ensures in
    let r = take c.in-Goes.count c.next_record.new.bytes in
    let own = c.data_count-data.ensures (form_of (Linear 0) inv.0) in
    let more = length-placed inv.0 r in
    let one = length-snoc inv.0 r in (
      inv.0 ++ r ∷ [],
      Follows-snoc _ inv.0 _ r _ inv.1 step.0 step.1 step.2,
      omega (arith, inv.2),
      omega (arith, inv.3, step.5),
      omega (arith, inv.4, own, more, c.if-left-data.false),
    )
