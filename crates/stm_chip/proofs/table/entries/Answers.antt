-- The array is that of the document, and each of its items a table.
use Rattle.std.proofs.Common.{◌≡◌, All, false, true, refl, sym}
use Rattle.toml.specs.View.{table_view, view}
use Rattle.stm_chip.proofs.Documents.{IsTable, has_entries, lacks_tables}
use Rattle.stm_chip.proofs.table.entries.Goals as goal

pub returns-then-are_tables : goal.returns-then-are_tables
returns-then-are_tables c =
    let tables : All (λ v. IsTable (view v)) c.in-Some.items.now.items = rw (← c.deref.ensures.value) (c.if-are_tables.ensures.0 refl) in
    has_entries (table_view c.args.document.now) c.in-Some.items.now.items (sym c.in-Some.ensures) tables

pub returns-else-are_tables : goal.returns-else-are_tables
returns-else-are_tables c = λ entries has.
    let no : false ≡ true → ⊥ = λ e. cc in
    lacks_tables (table_view c.args.document.now) c.in-Some.items.now.items entries (sym c.in-Some.ensures)
    (λ tables. no (c.if-are_tables.ensures.1 (rw c.deref.ensures.value tables))) has
