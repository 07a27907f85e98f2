-- Each table goes over those before it.
use Rattle.std.proofs.Common.{◌≡◌, ◌<◌, length, get_or, rules, arith}
use Rattle.stm_work.specs.TriedBoards.{table_bytes}
use Rattle.stm_work.proofs.TablesOver.{lowest_chips, next_over}
use Rattle.stm_work.proofs.chip_tables.ChipTables.copy.Goals as goal

pub loop-text-init : goal.loop-text-init
loop-text-init c = lowest_chips (table_bytes c.args.self.now.lowest) c.in_ok-chips.chips c.in_ok-chips.ensures.chips

pub loop-text-preserved : goal.loop-text-preserved
loop-text-preserved c =
    let tables = c.args.self.now.over.items in
    let i = c.loop-text.text-index in
    let table = c.text-item.result in
    let within : i < length tables = search (rules, arith, c.loop-text-test.true, c.deref-text-items.ensures.value) in
    let here : table ≡ get_or tables i table = search (rules, c.text-item.is, c.deref-text-items.ensures.value) in
    next_over (table_bytes c.args.self.now.lowest) tables i c.loop-text.chips c.loop-text.invariant table c.in_ok-own.own c.in_ok-chips-2.chips within here c.in_ok-own.ensures.chips c.in_ok-chips-2.ensures.over
