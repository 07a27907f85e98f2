-- Each entry is one chip more, or the first that is faulty.
use Rattle.std.proofs.Common.{◌≡◌, ◌<◌, length, refl, arith, rules, get_or, ◌+◌}
use Rattle.stm_chip.specs.declared.fault.TableFault.TheVariants.{Memory}
use Rattle.std.proofs.lemmas.Result.{err_from_is_err_and}
use Rattle.toml.specs.View.{view}
use Rattle.stm_chip.proofs.Documents.{flaw_at, reads_more}
use Rattle.stm_chip.specs.Document.{ReadsEntries, IsNextChip, IsFlaw}
use Rattle.stm_chip.proofs.table.read_entries.Goals as goal

pub loop-entry-init : goal.loop-entry-init
loop-entry-init c = (c.new-chips.ensures.len, rw c.new-chips.ensures.items ReadsEntries.none)

pub returns-in_err-chip : goal.returns-in_err-chip
returns-in_err-chip c =
    let vs = c.args.entries.now.items in
    let i = c.loop-entry.entry-index in
    let v = c.entry-item.result in
    let within : i < length vs = search (rules, arith, c.loop-entry-test.true) in
    let here : v ≡ get_or vs i v = search (rules, c.entry-item.is) in
    let p = err_from_is_err_and c.from_residual.result c.from_residual.ensures.1 in
    let flaw : IsFlaw (c.len.result + 1) c.loop-entry.chips.items (view v) c.in_err-chip.field-0.0 = rw (← c.deref.ensures.value) c.in_err-chip.ensures in
    let counted : c.len.result + 1 ≡ i + 1 = omega (arith, c.len.ensures, c.loop-entry.invariant.0) in
    rw (p.1, p.2) (flaw_at vs i v within here c.loop-entry.chips.items c.loop-entry.invariant.1 (c.len.result + 1) c.in_err-chip.field-0.0 counted flaw)

pub returns-in_err-push : goal.returns-in_err-push
returns-in_err-push c =
    let vs = c.args.entries.now.items in
    let i = c.loop-entry.entry-index in
    let v = c.entry-item.result in
    let within : i < length vs = search (rules, arith, c.loop-entry-test.true) in
    let here : v ≡ get_or vs i v = search (rules, c.entry-item.is) in
    let p = err_from_is_err_and c.from_residual-in_err-push.result c.from_residual-in_err-push.ensures.1 in
    rw (p.1, p.2) (flaw_at vs i v within here c.loop-entry.chips.items c.loop-entry.invariant.1 (i + 1) Memory refl tt)

pub loop-entry-preserved : goal.loop-entry-preserved
loop-entry-preserved c =
    let vs = c.args.entries.now.items in
    let i = c.loop-entry.entry-index in
    let v = c.entry-item.result in
    let chips = c.loop-entry.chips.items in
    let within : i < length vs = search (rules, arith, c.loop-entry-test.true) in
    let here : v ≡ get_or vs i v = search (rules, c.entry-item.is) in
    let next : IsNextChip chips (view v) c.in_ok-chip.chip = rw (← c.deref.ensures.value) c.in_ok-chip.ensures in
    (omega (arith, c.in_ok-push.ensures.len), rw c.in_ok-push.ensures.items (reads_more vs i v within here chips c.loop-entry.invariant.1 c.in_ok-chip.chip next))
