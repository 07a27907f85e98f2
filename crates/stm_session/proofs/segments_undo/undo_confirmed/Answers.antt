use Rattle.std.proofs.Common.{◌+◌, ◌++◌, inl, inr, List, Some, length, true, refl, arith}
use Rattle.stm_journal.proofs.Names.{pages_of_segments}
use Rattle.stm_session.proofs.Names.{AreAllUndone, Begin, BeginTold, behind_confirming, confirmed_at, confirming, IsConfirmedInPart, IsConfirming, most_of_confirming, most_of_undo, OrMisread}
use Rattle.stm_session.proofs.Names.{pages_at_work, so_far, Step, ToldIn, undo_lines}
use Rattle.stm_session.proofs.Confirmed.{back_confirmed, back_failed, back_unconfirmed, confirmed_chip, confirmed_steady}
use Rattle.stm_session.proofs.Confirmings.{does_confirm}
use Rattle.stm_session.proofs.CutShort.{part_stops, then_stops}
use Rattle.stm_session.proofs.Misreads.{may_as}
use Rattle.stm_session.proofs.Orders.{does_then}
use Rattle.stm_session.proofs.SentParts.{part_after, part_fails, part_fails_after}
use Rattle.stm_session.proofs.SentReturns.{put_undone, put_undone_in_part}
use Rattle.stm_session.proofs.SentSteps.{done_puts, stopped_puts}
use Rattle.stm_session.proofs.Tellings.{all_as}
use Rattle.stm_session.proofs.ToldPages.{told_then}
use Rattle.stm_session.proofs.segments_undo.undo_confirmed.Goals as goal

pub returns-in_err-confirm-clause-puts : goal.returns-in_err-confirm-clause-puts
returns-in_err-confirm-clause-puts g c =
    let V = g.R.Rig.view in
    let most = most_of_confirming + most_of_undo c.args.taken in
    part_fails (Some c.args.chip.now) most_of_confirming most (V c.args.rig.now).calls (V c.confirm.new.rig).calls _ c.from_residual.result (omega arith) c.from_residual.ensures.1 c.in_err-confirm.ensures.puts

pub returns-in_err-undo_settled-clause-puts : goal.returns-in_err-undo_settled-clause-puts
returns-in_err-undo_settled-clause-puts g c =
    let V = g.R.Rig.view in
    let chip = c.args.chip.now in
    let l = c.args.journal.now in
    let b = V c.confirm.new.rig in
    let d = V c.undo_settled.new.rig in
    let more = most_of_undo c.args.taken in
    let few = put_undone_in_part chip c.keeps_limits.ensures.chip l.state c.depth-depth.ensures.sound c.requires.fits c.args.again (ToldIn V l.is_torn b d) c.args.taken in
    part_fails_after (Some chip) most_of_confirming more (most_of_confirming + more) (V c.args.rig.now).calls b.calls d.calls _ c.from_residual-in_err-undo_settled.result (omega arith)
    c.from_residual-in_err-undo_settled.ensures.1 c.in_ok-confirm.ensures.puts (stopped_puts (Some chip) more _ _ l.is_torn b d few c.in_err-undo_settled.ensures.stops)

pub returns-clause-puts : goal.returns-clause-puts
returns-clause-puts g c =
    let V = g.R.Rig.view in
    let chip = c.args.chip.now in
    let l = c.args.journal.now in
    let b = V c.confirm.new.rig in
    let d = V c.undo_settled.new.rig in
    let more = most_of_undo c.args.taken in
    let back = c.in_ok-undo_settled.ensures.order in
    let few = put_undone chip c.keeps_limits.ensures.chip l.state c.depth-depth.ensures.sound c.requires.fits c.args.again (ToldIn V l.is_torn b d) c.args.taken back.0 back.1 in
    part_after (Some chip) true most_of_confirming more (most_of_confirming + more) (V c.args.rig.now).calls b.calls d.calls (omega arith) c.in_ok-confirm.ensures.puts
    (done_puts (Some chip) more back.0 l.is_torn b d few back.2.acts)

pub returns-clause-order : goal.returns-clause-order
returns-clause-order g c =
    let V = g.R.Rig.view in
    let a = V c.args.rig.now in
    let b = V c.confirm.new.rig in
    let d = V c.undo_settled.new.rig in
    let l = c.args.journal.now in
    let chip = c.args.chip.now in
    let first = confirming chip in
    let does = does_confirm chip l a b (c.in_ok-confirm.ensures.order l.is_torn) in
    let next = c.in_ok-undo_settled.ensures.order in
    let Own = ToldIn V l.is_torn b d in
    let Told = behind_confirming chip (ToldIn V l.is_torn a d) in
    let taken = all_as c.args.again chip Own Told (pages_at_work l.state.stack) c.args.taken (pages_of_segments l.state.stack) next.0 (told_then V first l l a b d does) next.1 in
    (first ++ next.0, (next.0, refl, taken), does_then first next.0 l l c.undo_settled.new.journal a b d does next.2)

pub returns-in_err-confirm-clause-stops : goal.returns-in_err-confirm-clause-stops
returns-in_err-confirm-clause-stops g c =
    let V = g.R.Rig.view in
    let a = V c.args.rig.now in
    let b = V c.confirm.new.rig in
    let chip = c.args.chip.now in
    let l = c.args.journal.now in
    let Told = behind_confirming chip (ToldIn V l.is_torn a b) in
    let Begun = BeginTold (λ T. AreAllUndone c.args.again chip T (pages_at_work l.state.stack) c.args.taken (pages_of_segments l.state.stack)) Told in
    part_stops (Begin (IsConfirming (confirmed_at chip))) (IsConfirmedInPart chip (OrMisread c.args.again chip Begun)) l.is_torn a b _ c.from_residual.result c.from_residual.ensures.1 (λ xs x. inl x) (c.in_err-confirm.ensures.stops l.is_torn)

pub returns-in_err-undo_settled-clause-stops : goal.returns-in_err-undo_settled-clause-stops
returns-in_err-undo_settled-clause-stops g c =
    let V = g.R.Rig.view in
    let a = V c.args.rig.now in
    let b = V c.confirm.new.rig in
    let d = V c.undo_settled.new.rig in
    let l = c.args.journal.now in
    let chip = c.args.chip.now in
    let work = pages_at_work l.state.stack in
    let segments = pages_of_segments l.state.stack in
    let first = confirming chip in
    let does = does_confirm chip l a b (c.in_ok-confirm.ensures.order l.is_torn) in
    let Own = ToldIn V l.is_torn b d in
    let Told = behind_confirming chip (ToldIn V l.is_torn a d) in
    let told = told_then V first l l a b d does in
    let Back = BeginTold (λ T. AreAllUndone c.args.again chip T work c.args.taken segments) Own in
    let Begun = BeginTold (λ T. AreAllUndone c.args.again chip T work c.args.taken segments) Told in
    let Part = OrMisread c.args.again chip Back in
    let Allowed = IsConfirmedInPart chip (OrMisread c.args.again chip Begun) in
    let later : (ys : List Step) → Part ys → Allowed (first ++ ys) =
    λ ys part. inr (
      ys,
      refl,
      may_as c.args.again chip Back Begun (λ zs begun.
          let n = length zs in
          (begun.0, all_as c.args.again chip (so_far n Own) (so_far n Told) work c.args.taken segments (zs ++ begun.0) (λ xs page is lt. told xs page (is lt)) begun.1)) ys part,
    ) in
    then_stops Part Allowed first l l a b d _ c.from_residual-in_err-undo_settled.result c.from_residual-in_err-undo_settled.ensures.1 does c.in_err-undo_settled.ensures.stops later

pub returns-in_err-confirm-clause-honest : goal.returns-in_err-confirm-clause-honest
returns-in_err-confirm-clause-honest g c flashes steady chip =
    let V = g.R.Rig.view in
    let asks = c.in_err-confirm.ensures.honest steady.honest steady.settled chip in
    back_unconfirmed c.step_laws.ensures flashes c.args.journal.now (V c.args.rig.now) (V c.confirm.new.rig) steady c.args.taken c.requires.one c.args.chip.now chip _ _ c.from_residual.result asks c.from_residual.ensures.1

pub returns-in_err-undo_settled-clause-honest : goal.returns-in_err-undo_settled-clause-honest
returns-in_err-undo_settled-clause-honest g c flashes steady chip =
    let V = g.R.Rig.view in
    let a = V c.args.rig.now in
    let b = V c.confirm.new.rig in
    let d = V c.undo_settled.new.rig in
    let l = c.args.journal.now in
    let laws = c.step_laws.ensures in
    let asks = c.in_ok-confirm.ensures.honest steady.honest steady.settled chip in
    let goes = c.in_err-undo_settled.ensures.honest flashes (confirmed_steady laws flashes l a b steady asks) (confirmed_chip laws flashes l a b steady c.args.chip.now chip asks) in
    back_confirmed laws flashes l a b steady c.args.taken c.requires.one c.args.chip.now chip d c.undo_settled.new.journal asks c.from_residual-in_err-undo_settled.result
    (back_failed (undo_lines c.args.taken b) c.args.taken flashes c.undo_settled.new.journal b d _ c.from_residual-in_err-undo_settled.result c.from_residual-in_err-undo_settled.ensures.1 goes)

pub returns-clause-honest : goal.returns-clause-honest
returns-clause-honest g c flashes steady chip =
    let V = g.R.Rig.view in
    let a = V c.args.rig.now in
    let b = V c.confirm.new.rig in
    let d = V c.undo_settled.new.rig in
    let l = c.args.journal.now in
    let laws = c.step_laws.ensures in
    let asks = c.in_ok-confirm.ensures.honest steady.honest steady.settled chip in
    let goes = c.in_ok-undo_settled.ensures.honest flashes (confirmed_steady laws flashes l a b steady asks) (confirmed_chip laws flashes l a b steady c.args.chip.now chip asks) in
    back_confirmed laws flashes l a b steady c.args.taken c.requires.one c.args.chip.now chip d c.undo_settled.new.journal asks _ goes
