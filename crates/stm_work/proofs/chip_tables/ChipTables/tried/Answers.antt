-- Each table goes over those before it.
use Rattle.std.proofs.Common.{◌≡◌, ◌<◌, length, get_or, rules, arith}
use Rattle.stm_work.specs.TriedBoards.{table_bytes}
use Rattle.stm_work.proofs.Tried.{lowest_tried, one_over}
use Rattle.stm_work.proofs.chip_tables.ChipTables.tried.Goals as goal

pub loop-table-init : goal.loop-table-init
loop-table-init c = lowest_tried c.args.id (table_bytes c.args.self.now.lowest) c.in_ok-count.count c.in_ok-count.ensures

pub loop-table-preserved : goal.loop-table-preserved
loop-table-preserved c =
    let tables = c.args.self.now.over.items in
    let i = c.loop-table.table-index in
    let table = c.table-item.result in
    let within : i < length tables = search (rules, arith, c.loop-table-test.true, c.deref-table-items.ensures.value) in
    let here : table ≡ get_or tables i table = search (rules, c.table-item.is, c.deref-table-items.ensures.value) in
    one_over c.args.id (table_bytes c.args.self.now.lowest) tables i c.loop-table.count c.loop-table.invariant table c.in_ok-count-2.count within here c.in_ok-count-2.ensures
