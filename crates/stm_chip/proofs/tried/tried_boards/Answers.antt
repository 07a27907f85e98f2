-- Where no entry has the id, or that one's boards can't be read, a table has no such chip.
use Rattle.std.proofs.Common.{◌≡◌, ◌∙◌, All, Contains, None, ap, codes, option_map, sym, vec_items}
use Rattle.toml.specs.Data.{get}
use Rattle.toml.specs.View.{table_view, view}
use Rattle.stm_chip.specs.Document.{HasId}
use Rattle.stm_chip.specs.Tried.{tried_of}
use Rattle.stm_chip.proofs.Lacking.{lacks_id, lacks_keys}
use Rattle.stm_chip.proofs.tried.tried_boards.Goals as goal

pub returns-in_default-entry_with : goal.returns-in_default-entry_with
returns-in_default-entry_with c =
    let vs = c.in-Some.entries.now.items in
    let others : All (λ v. ¬ HasId c.args.id (view v)) vs = rw (← c.deref.ensures.value) c.in_default-entry_with.ensures in
    lacks_id c.args.text.now (table_view c.in_ok-document.document) vs c.args.id c.in_ok-document.ensures c.in-Some.ensures others

pub returns : goal.returns
returns c =
    let vs = c.in-Some.entries.now.items in
    let v = c.in-Some-entry_with.entry.now in
    let held : Contains vs v = rw (← c.deref.ensures.value) c.in-Some-entry_with.ensures.1 in
    let lacking : tried_of (get (codes "tried") (view v)) ≡ None = sym c.in_ok-boards.ensures ∙ ap (λ o. option_map vec_items o) c.in-None.is in
    lacks_keys c.args.text.now (table_view c.in_ok-document.document) vs c.args.id c.in_ok-document.ensures c.in-Some.ensures v held lacking
