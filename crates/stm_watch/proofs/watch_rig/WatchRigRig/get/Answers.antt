use Rattle.std.proofs.Common.{◌≡◌, ◌∙◌, Some, Ok, sym}
use Rattle.stm_watch.proofs.Passing.{get-honest, refused-recorded, refused-entered, none-refused}
use Rattle.stm_watch.proofs.Passing.{none-of, never-honest}
use Rattle.stm_watch.proofs.watch_rig.WatchRigRig.get.Goals as goal

pub returns-then-hear-clause-honest : goal.returns-then-hear-clause-honest
returns-then-hear-clause-honest g c =
    let rig = c.args.self.now in
    let old = g.R.Rig.view rig.inner in
    let new = g.R.Rig.view c.get.new.self in
    let byte = c.in-Ok-Some.byte in
    let is : c.get.result ≡ Ok (Some byte) = cc in
    get-honest (Ok (Some byte)) rig.watch c.hear.new.self rig.refusal rig.line_failures
    rig.journal_failures old new c.hear.ensures.whole (rw is at c.get.ensures.honest)
    (sym c.hear.ensures.due ∙ c.if-hear.true, c.hear.ensures.heard c.if-hear.true)

pub returns-else-hear-clause-recorded : goal.returns-else-hear-clause-recorded
returns-else-hear-clause-recorded g c =
    let rig = c.args.self.now in
    let old = g.R.Rig.view rig.inner in
    let new = g.R.Rig.view c.get.new.self in
    let byte = c.in-Ok-Some.byte in
    let is : c.get.result ≡ Ok (Some byte) = cc in
    let none = none-of rig.refusal (sym c.is_some.ensures ∙ c.if-is_some.false) in
    refused-recorded rig.watch rig.refusal rig.line_failures rig.journal_failures old new.calls
    byte none (rw is at c.get.ensures.recorded)

pub returns-else-hear-clause-entered : goal.returns-else-hear-clause-entered
returns-else-hear-clause-entered g c room =
    let rig = c.args.self.now in
    let old = g.R.Rig.view rig.inner in
    let new = g.R.Rig.view c.get.new.self in
    let byte = c.in-Ok-Some.byte in
    let is : c.get.result ≡ Ok (Some byte) = cc in
    let none = none-of rig.refusal (sym c.is_some.ensures ∙ c.if-is_some.false) in
    refused-entered rig.watch rig.refusal rig.line_failures rig.journal_failures old new.calls
    byte none (rw is at c.get.ensures.recorded)

pub returns-else-hear-clause-honest : goal.returns-else-hear-clause-honest
returns-else-hear-clause-honest g c honest =
    let rig = c.args.self.now in
    let old = g.R.Rig.view rig.inner in
    let new = g.R.Rig.view c.get.new.self in
    let byte = c.in-Ok-Some.byte in
    let is : c.get.result ≡ Ok (Some byte) = cc in
    absurd
    (never-honest rig.watch rig.refusal rig.line_failures rig.journal_failures old
    (none-refused byte rig.watch old new c.hear.ensures.whole (rw is at c.get.ensures.honest)
    (sym c.hear.ensures.due ∙ c.if-hear.false)) honest)
