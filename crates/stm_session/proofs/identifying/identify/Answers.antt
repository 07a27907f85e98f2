use Rattle.std.proofs.Common.{None}
use Rattle.stm_wire.specs.lemmas.PartLaws.{silent_is_session, silent_then_session}
use Rattle.stm_journal.proofs.Names.{AreFetches}
use Rattle.stm_wire.proofs.Names.{GoesOn}
use Rattle.stm_session.proofs.Names.{asking_steps, Cause, cause_of, Fault, is_whole, most_calls, ReachesInOrder, ReachesInPart, Settles, Told}
use Rattle.stm_session.proofs.CutShort.{by_fault}
use Rattle.stm_session.proofs.IdentifyContracts.{identify_asked, identify_unread}
use Rattle.stm_session.proofs.Orders.{fetched_then}
use Rattle.stm_session.proofs.Reaching.{err_then, fetched_stops, told_then, unread_stops}
use Rattle.stm_session.proofs.Sending.{fetches_get, fetches_put}
use Rattle.stm_session.proofs.Unwritings.{fetching_appends_nothing, then_appends_nothing}
use Rattle.stm_session.proofs.identifying.identify.Goals as goal

pub returns-in_err-_journal-clause-unwritten : goal.returns-in_err-_journal-clause-unwritten
returns-in_err-_journal-clause-unwritten g c =
    let V = g.R.Rig.view in
    fetching_appends_nothing (V c.args.rig.now).calls (V c.load_finished.new.rig).calls c.load_finished.ensures.calls

pub returns-in_err-_journal-clause-puts : goal.returns-in_err-_journal-clause-puts
returns-in_err-_journal-clause-puts g c =
    let V = g.R.Rig.view in
    silent_is_session None 0x7F 131072 (is_whole c.from_residual.result) (most_calls 0) AreFetches (V c.args.rig.now).calls (V c.load_finished.new.rig).calls fetches_put fetches_get c.load_finished.ensures.calls

pub returns-clause-unwritten : goal.returns-clause-unwritten
returns-clause-unwritten g c =
    let V = g.R.Rig.view in
    let a = (V c.args.rig.now).calls in
    let b = (V c.load_finished.new.rig).calls in
    then_appends_nothing a b (V c.reach.new.rig).calls (fetching_appends_nothing a b c.load_finished.ensures.calls) c.reach.ensures.unwritten

pub returns-clause-puts : goal.returns-clause-puts
returns-clause-puts g c =
    let V = g.R.Rig.view in
    let a = (V c.args.rig.now).calls in
    let b = (V c.load_finished.new.rig).calls in
    let d = (V c.reach.new.rig).calls in
    silent_then_session None 0x7F 131072 (is_whole c.reach.result) (most_calls 0) AreFetches a b d fetches_put fetches_get c.load_finished.ensures.calls c.reach.ensures.puts

pub returns-clause-order : goal.returns-clause-order
returns-clause-order g c torn =
    let V = g.R.Rig.view in
    let a = V c.args.rig.now in
    let b = V c.load_finished.new.rig in
    let d = V c.reach.new.rig in
    let way = Settles 0x7F 131072 in
    told_then c.reach.result (λ (told : Told). ReachesInOrder way told.id torn b d) (λ (told : Told). ReachesInOrder way told.id torn a d)
    (λ told asked. (asked.0, asked.1, fetched_then way torn (asking_steps asked.0 asked.1 told.id) a.calls b.calls d.calls c.load_finished.ensures.calls asked.2, asked.3)) (c.reach.ensures.order torn)

pub returns-in_err-_journal-clause-stops : goal.returns-in_err-_journal-clause-stops
returns-in_err-_journal-clause-stops g c torn =
    let V = g.R.Rig.view in
    let a = (V c.args.rig.now).calls in
    let b = (V c.load_finished.new.rig).calls in
    by_fault (λ (k : Cause). GoesOn (ReachesInPart (Settles 0x7F 131072) k torn) a b) _ c.from_residual.result c.from_residual.ensures.1 (unread_stops (Settles 0x7F 131072) _ torn a b c.load_finished.ensures.calls)

pub returns-clause-stops : goal.returns-clause-stops
returns-clause-stops g c torn =
    let V = g.R.Rig.view in
    let a = (V c.args.rig.now).calls in
    let b = (V c.load_finished.new.rig).calls in
    let d = (V c.reach.new.rig).calls in
    let way = Settles 0x7F 131072 in
    err_then c.reach.result (λ (e : Fault). GoesOn (ReachesInPart way (cause_of e) torn) b d) (λ (e : Fault). GoesOn (ReachesInPart way (cause_of e) torn) a d)
    (λ e stopped. fetched_stops way (cause_of e) torn a b d c.load_finished.ensures.calls stopped) (c.reach.ensures.stops torn)

pub returns-in_err-_journal-clause-promised : goal.returns-in_err-_journal-clause-promised
returns-in_err-_journal-clause-promised g c =
    let V = g.R.Rig.view in
    identify_unread c.harmless_is_kept.ensures.lost (V c.args.rig.now) (V c.load_finished.new.rig) _ c.from_residual.result c.in_err-_journal.ensures.honest c.load_finished.ensures.calls c.in_err-_journal.ensures.memory c.from_residual.ensures.1

pub returns-clause-promised : goal.returns-clause-promised
returns-clause-promised g c =
    let V = g.R.Rig.view in
    identify_asked c.harmless_is_kept.ensures.lost (V c.args.rig.now) (V c.load_finished.new.rig) (V c.reach.new.rig) c.in_ok-_journal._journal c.reach.result c.in_ok-_journal.ensures.honest
    c.reach.ensures.honest c.reach.ensures.sent
