-- Watching begins at what a settled device told.
use Rattle.std.proofs.Common.{◌∙◌, ap, List, ℕ, take}
use Rattle.stm_wire.proofs.Names.{ChipData}
use Rattle.stm_watch.specs.Known.{known_at_first}
use Rattle.stm_work.proofs.WatchedWork.{begun-at}
use Rattle.stm_work.proofs.watching.begin.Goals as goal

pub returns : goal.returns
returns g c h settled knows =
    let told = c.in_ok-commands.commands in
    let chip : ChipData = c.in-Some.chip.now in
    let items : List ℕ = c.in_ok-codes.codes.items in
    let same-chip = ap (λ x. known_at_first x told.version items) c.in_ok-clone.ensures.cases in
    let same-codes = ap (λ x. known_at_first chip told.version x) c.in_ok-codes.ensures.items in
    let same-count = ap (λ n. known_at_first chip told.version (take n told.codes)) c.from.ensures in
    begun-at c.honest_passes.ensures.first c.args.table.now c.args.id chip told
    (g.L.Rig.view c.args.rig.now) (g.L.Rig.view c.ask_codes.new.rig)
    (g.L.Rig.view c.watch_by.new.self) c.in_ok-watch.watch c.in-Some.ensures
    (c.in_ok-watch.ensures ∙ same-chip ∙ same-codes ∙ same-count) c.in_ok-commands.ensures c.watch_by.ensures
    h settled knows
