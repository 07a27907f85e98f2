use Rattle.stm_session.proofs.Names.{asking_steps, Cause, contact_way, is_whole, most_of_reaching, ReachesInOrder, ReachesInPart}
use Rattle.stm_session.proofs.Unwritings.{fetching_appends_nothing, then_appends_nothing}
use Rattle.std.proofs.Common.{arith, Bool, None, true, refl, ℕ, subst, sym}
use Rattle.stm_session.proofs.Openings.{left_by_loading, opens_all, opens_refused, opens_unreached, opens_unread}
use Rattle.stm_wire.proofs.Names.{GoesOn, IsSession}
use Rattle.stm_wire.specs.lemmas.PartLaws.{session_weaker, silent_is_session, silent_then_session}
use Rattle.stm_journal.proofs.Names.{AreFetches}
use Rattle.stm_session.proofs.Sending.{fetches_get, fetches_put, same_fault}
use Rattle.stm_session.proofs.Orders.{fetched_then}
use Rattle.stm_session.proofs.CutShort.{by_fault}
use Rattle.stm_session.proofs.Reaching.{fetched_stops, told_stops, unread_stops}
use Rattle.stm_session.proofs.opening.open.Goals as goal

pub returns-in_err-journal-clause-honest : goal.returns-in_err-journal-clause-honest
returns-in_err-journal-clause-honest g c h safe =
    let V = g.R.Rig.view in
    opens_unread c.harmless_is_kept.ensures.lost (V c.args.rig.now) (V c.load_finished.new.rig) safe c.args.table.now _ c.from_residual.result (c.in_err-journal.ensures.honest h) c.from_residual.ensures.1

pub returns-in_err-told-clause-honest : goal.returns-in_err-told-clause-honest
returns-in_err-told-clause-honest g c h safe =
    let V = g.R.Rig.view in
    let law = c.harmless_is_kept.ensures.lost in
    let loads = c.in_ok-journal.ensures.honest h in
    let left = left_by_loading law (V c.args.rig.now) (V c.load_finished.new.rig) safe _ c.in_ok-journal.journal loads in
    opens_unreached law (V c.args.rig.now) (V c.load_finished.new.rig) safe c.args.table.now (V c.reach.new.rig) c.in_ok-journal.journal _ c.from_residual-in_err-told.result
    loads (c.in_err-told.ensures.honest loads.honest left.safe) c.from_residual-in_err-told.ensures.1

pub returns-in_err-chip-clause-honest : goal.returns-in_err-chip-clause-honest
returns-in_err-chip-clause-honest g c h safe =
    let V = g.R.Rig.view in
    let law = c.harmless_is_kept.ensures.lost in
    let loads = c.in_ok-journal.ensures.honest h in
    let left = left_by_loading law (V c.args.rig.now) (V c.load_finished.new.rig) safe _ c.in_ok-journal.journal loads in
    opens_refused law (V c.args.rig.now) (V c.load_finished.new.rig) safe c.in_ok-journal.journal (c.in_ok-journal.ensures.loaded h) c.in_ok-journal.ensures.finished
    (V c.reach.new.rig) c.args.table.now c.in_ok-told.told loads (c.in_ok-told.ensures.honest loads.honest left.safe) _ c.from_residual-in_err-chip.result c.in_err-chip.ensures.refused c.from_residual-in_err-chip.ensures.1

pub returns-clause-honest : goal.returns-clause-honest
returns-clause-honest g c h safe =
    let V = g.R.Rig.view in
    let law = c.harmless_is_kept.ensures.lost in
    let loads = c.in_ok-journal.ensures.honest h in
    let left = left_by_loading law (V c.args.rig.now) (V c.load_finished.new.rig) safe _ c.in_ok-journal.journal loads in
    opens_all law (V c.args.rig.now) (V c.load_finished.new.rig) safe c.in_ok-journal.journal (c.in_ok-journal.ensures.loaded h) c.in_ok-journal.ensures.finished
    (V c.reach.new.rig) c.args.table.now c.in_ok-told.told loads (c.in_ok-told.ensures.honest loads.honest left.safe) _ c.in_ok-chip.ensures.accepted refl c.in_ok-chip.ensures.id refl

pub returns-in_err-journal-clause-puts : goal.returns-in_err-journal-clause-puts
returns-in_err-journal-clause-puts g c =
    let V = g.R.Rig.view in
    silent_is_session None 0x7F 131072 (is_whole c.from_residual.result) (most_of_reaching 131072) AreFetches (V c.args.rig.now).calls (V c.load_finished.new.rig).calls fetches_put fetches_get c.load_finished.ensures.calls

pub returns-in_err-told-clause-puts : goal.returns-in_err-told-clause-puts
returns-in_err-told-clause-puts g c =
    let V = g.R.Rig.view in
    let a = (V c.args.rig.now).calls in
    let b = (V c.load_finished.new.rig).calls in
    let d = (V c.reach.new.rig).calls in
    let P : Bool → Type 0 = λ w. GoesOn (IsSession None 0x7F 131072 w (most_of_reaching 131072)) a d in
    same_fault P _ c.from_residual-in_err-told.result c.from_residual-in_err-told.ensures.1
    (silent_then_session None 0x7F 131072 _ (most_of_reaching 131072) AreFetches a b d fetches_put fetches_get c.load_finished.ensures.calls c.in_err-told.ensures.puts)

pub returns-in_err-chip-clause-puts : goal.returns-in_err-chip-clause-puts
returns-in_err-chip-clause-puts g c =
    let V = g.R.Rig.view in
    let a = (V c.args.rig.now).calls in
    let b = (V c.load_finished.new.rig).calls in
    let d = (V c.reach.new.rig).calls in
    session_weaker None 0x7F 131072 (is_whole c.from_residual-in_err-chip.result) (most_of_reaching 131072) (most_of_reaching 131072) a d (omega arith)
    (silent_then_session None 0x7F 131072 true (most_of_reaching 131072) AreFetches a b d fetches_put fetches_get c.load_finished.ensures.calls c.in_ok-told.ensures.puts)

pub returns-clause-puts : goal.returns-clause-puts
returns-clause-puts g c =
    let V = g.R.Rig.view in
    let a = (V c.args.rig.now).calls in
    let b = (V c.load_finished.new.rig).calls in
    let d = (V c.reach.new.rig).calls in
    silent_then_session None 0x7F 131072 true (most_of_reaching 131072) AreFetches a b d fetches_put fetches_get c.load_finished.ensures.calls c.in_ok-told.ensures.puts

pub returns-clause-order : goal.returns-clause-order
returns-clause-order g c torn =
    let V = g.R.Rig.view in
    let a = V c.args.rig.now in
    let d = V c.reach.new.rig in
    let told = c.in_ok-told.ensures.order torn in
    let P : ℕ → Type 0 = λ id. ReachesInOrder contact_way id torn a d in
    subst P (sym c.in_ok-chip.ensures.id) (told.0, told.1, fetched_then contact_way torn (asking_steps told.0 told.1 _) a.calls (V c.load_finished.new.rig).calls d.calls c.load_finished.ensures.calls told.2, told.3)

pub returns-in_err-journal-clause-stops : goal.returns-in_err-journal-clause-stops
returns-in_err-journal-clause-stops g c torn =
    let V = g.R.Rig.view in
    let a = (V c.args.rig.now).calls in
    let b = (V c.load_finished.new.rig).calls in
    by_fault (λ (k : Cause). GoesOn (ReachesInPart contact_way k torn) a b) _ c.from_residual.result c.from_residual.ensures.1 (unread_stops contact_way _ torn a b c.load_finished.ensures.calls)

pub returns-in_err-told-clause-stops : goal.returns-in_err-told-clause-stops
returns-in_err-told-clause-stops g c torn =
    let V = g.R.Rig.view in
    let a = (V c.args.rig.now).calls in
    let d = (V c.reach.new.rig).calls in
    by_fault (λ (k : Cause). GoesOn (ReachesInPart contact_way k torn) a d) _ c.from_residual-in_err-told.result c.from_residual-in_err-told.ensures.1
    (fetched_stops contact_way _ torn a (V c.load_finished.new.rig).calls d c.load_finished.ensures.calls (c.in_err-told.ensures.stops torn))

pub returns-in_err-chip-clause-stops : goal.returns-in_err-chip-clause-stops
returns-in_err-chip-clause-stops g c torn =
    let V = g.R.Rig.view in
    let a = V c.args.rig.now in
    let b = V c.load_finished.new.rig in
    let d = V c.reach.new.rig in
    by_fault (λ (k : Cause). GoesOn (ReachesInPart contact_way k torn) a.calls d.calls) _ c.from_residual-in_err-chip.result c.from_residual-in_err-chip.ensures.1
    (fetched_stops contact_way _ torn a.calls b.calls d.calls c.load_finished.ensures.calls (told_stops contact_way _ torn _ b d c.in_err-chip.ensures.named (c.in_ok-told.ensures.order torn)))

pub returns-in_err-journal-clause-unwritten : goal.returns-in_err-journal-clause-unwritten
returns-in_err-journal-clause-unwritten g c =
    let V = g.R.Rig.view in
    fetching_appends_nothing (V c.args.rig.now).calls (V c.load_finished.new.rig).calls c.load_finished.ensures.calls

pub returns-in_err-told-clause-unwritten : goal.returns-in_err-told-clause-unwritten
returns-in_err-told-clause-unwritten g c =
    let V = g.R.Rig.view in
    let a = (V c.args.rig.now).calls in
    let b = (V c.load_finished.new.rig).calls in
    then_appends_nothing a b (V c.reach.new.rig).calls (fetching_appends_nothing a b c.load_finished.ensures.calls) c.in_err-told.ensures.unwritten

pub returns-in_err-chip-clause-unwritten : goal.returns-in_err-chip-clause-unwritten
returns-in_err-chip-clause-unwritten g c =
    let V = g.R.Rig.view in
    let a = (V c.args.rig.now).calls in
    let b = (V c.load_finished.new.rig).calls in
    then_appends_nothing a b (V c.reach.new.rig).calls (fetching_appends_nothing a b c.load_finished.ensures.calls) c.in_ok-told.ensures.unwritten

pub returns-clause-unwritten : goal.returns-clause-unwritten
returns-clause-unwritten g c =
    let V = g.R.Rig.view in
    let a = (V c.args.rig.now).calls in
    let b = (V c.load_finished.new.rig).calls in
    then_appends_nothing a b (V c.reach.new.rig).calls (fetching_appends_nothing a b c.load_finished.ensures.calls) c.in_ok-told.ensures.unwritten
