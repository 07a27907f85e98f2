use Rattle.std.proofs.Common.{◌<◌, arith, refl, sym, ap, ◌∙◌}
use Rattle.stm_journal.proofs.Names.{kept_count}
use Rattle.stm_journal.specs.declared.kept.Kept.{Kept}
use Rattle.stm_files.proofs.Checks.{count-is}
use Rattle.stm_files.proofs.Damages.{agrees-more, damaged, kept-within}
use Rattle.stm_files.proofs.damage.find_in.Goals as goal

pub returns-then-not-branch-clause-honest : goal.returns-then-not-branch-clause-honest
returns-then-not-branch-clause-honest g c = λ bytes s tied.
    let so = c.loop-i.invariant bytes s tied in
    let got = c.in_ok-agrees.ensures.honest bytes s so.0 in (
      got.0,
      (
        refl,
        damaged bytes s c.args.journal.now.state c.args.k c.loop-i.i c.in-Some.page c.in-Some.field-0-1 c.in-Some-kept_place.place tied.state c.in-Some.ensures
            c.in-Some-kept_place.ensures.place c.in_ok-agrees.field-0 c.if-not-branch.true got.1,
      ),
    )

pub loop-i-preserved : goal.loop-i-preserved
loop-i-preserved g c = λ bytes s tied.
    let so = c.loop-i.invariant bytes s tied in
    let got = c.in_ok-agrees.ensures.honest bytes s so.0 in (
      got.0,
      agrees-more bytes s c.args.journal.now.state c.args.k c.loop-i.i c.in-Some.page c.in-Some.field-0-1 c.in-Some-kept_place.place tied.state c.in-Some.ensures
          c.in-Some-kept_place.ensures.place c.in_ok-agrees.field-0 c.if-not-branch.false got.1 so.1,
    )

pub returns-clause-honest : goal.returns-clause-honest
returns-clause-honest g c = λ bytes s tied.
    let so = c.loop-i.invariant bytes s tied in
    let same = count-is s c.args.journal.now.state c.args.k tied.state in (
      so.0,
      λ i kept entry. so.1 i kept (omega (arith, kept-within s c.args.k i kept entry, c.loop-i-test.false, c.loop-i.auto.i-end, c.kept_count-i-end.ensures, same)) entry,
    )
