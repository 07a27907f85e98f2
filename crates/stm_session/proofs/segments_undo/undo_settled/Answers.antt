use Rattle.std.proofs.Common.{◌≡◌, ◌∙◌, ◌≤◌, ◌++◌, List, ℕ, refl, subst, arith, length}
use Rattle.stm_journal.specs.declared.kept.Kept.{Kept}
use Rattle.stm_session.proofs.Names.{acts_of, AreAllUndone, AreCutShort, AreRewritten, AreSegmentsUndone, BeginTold, cause_of, IsInOrder, IsSteady, OrMisread, pages_at_work, Step, such, tells_behind}
use Rattle.stm_session.proofs.Names.{ToldIn}
use Rattle.stm_session.proofs.Going.{at_exit}
use Rattle.stm_session.proofs.GoingAll.{all_back, all_failed, work_failed}
use Rattle.stm_session.proofs.Keeping.{fits_pages}
use Rattle.stm_session.proofs.Orders.{does_then}
use Rattle.stm_journal.proofs.Names.{pages_of_segments}
use Rattle.stm_wire.proofs.Names.{Call}
use Rattle.stm_session.proofs.CutShort.{part_stops, then_stops}
use Rattle.stm_session.proofs.Tellings.{segments_as, work_as}
use Rattle.stm_session.proofs.ToldPages.{told_on, told_then}
use Rattle.stm_session.proofs.Misreads.{may_after}
use Rattle.stm_session.proofs.UndoOrders.{pages_count, segments_begun, work_begun}
use Rattle.stm_session.proofs.segments_undo.undo_settled.Given as given
use Rattle.stm_session.proofs.segments_undo.undo_settled.Goals as goal
use Rattle.stm_session.proofs.segments_undo.undo_settled.Goals.{After-undo_newest}

-- behind the pages at work the chip is the one before
still : (g : given.Over) (c : goal.After-undo_newest g) (flashes : List (List ℕ))
    → IsSteady flashes c.args.journal.now (g.R.Rig.view c.args.rig.now)
    → (g.R.Rig.view c.args.rig.now).device.chip ≡ c.args.chip.now
    → (g.R.Rig.view c.rewrite_at_work.new.rig).device.chip ≡ c.args.chip.now
still g c flashes steady chip =
    let first = c.in_ok-rewrite_at_work.ensures.honest flashes steady chip in
    let model = g.met.R.Rig.model c.rewrite_at_work.new.rig first.honest in
    (at_exit _ (g.R.Rig.view c.args.rig.now) (g.R.Rig.view c.rewrite_at_work.new.rig) model
    first.moments).make.chip ∙ chip

pub undo_newest-requires-clause-fits : goal.undo_newest-requires-clause-fits
undo_newest-requires-clause-fits g c = fits_pages c.args.chip.now c.args.journal.now.state.stack c.rewrite_at_work.new.journal.state.stack c.in_ok-rewrite_at_work.ensures.same.same c.requires.fits

pub returns-in_err-rewrite_at_work-clause-honest : goal.returns-in_err-rewrite_at_work-clause-honest
returns-in_err-rewrite_at_work-clause-honest g c flashes steady chip =
    let V = g.R.Rig.view in
    let a = V c.args.rig.now in
    let b = V c.rewrite_at_work.new.rig in
    let l2 = c.rewrite_at_work.new.journal in
    work_failed c.args.taken flashes a b c.requires.one c.args.chip.now chip l2 l2 _ c.from_residual.result (c.in_err-rewrite_at_work.ensures.honest flashes steady chip) c.from_residual.ensures.1

pub returns-in_err-undo_newest-clause-honest : goal.returns-in_err-undo_newest-clause-honest
returns-in_err-undo_newest-clause-honest g c flashes steady chip =
    let V = g.R.Rig.view in
    let last = (goal.at.returns-in_err-undo_newest-clause-honest g c).After-undo_newest in
    let first = c.in_ok-rewrite_at_work.ensures.honest flashes steady chip in
    let model = g.met.R.Rig.model c.rewrite_at_work.new.rig first.honest in
    all_failed c.args.taken flashes (V c.args.rig.now) (V c.rewrite_at_work.new.rig) c.requires.one
    c.args.chip.now chip (V c.undo_newest.new.rig) c.rewrite_at_work.new.journal
    c.undo_newest.new.journal model first _ c.from_residual-in_err-undo_newest.result
    (c.in_err-undo_newest.ensures.honest flashes first.steady
    (still g last flashes steady chip)) c.from_residual-in_err-undo_newest.ensures.1

pub returns-clause-honest : goal.returns-clause-honest
returns-clause-honest g c flashes steady chip =
    let V = g.R.Rig.view in
    let last = (goal.at.returns-clause-honest g c).After-undo_newest in
    let first = c.in_ok-rewrite_at_work.ensures.honest flashes steady chip in
    let model = g.met.R.Rig.model c.rewrite_at_work.new.rig first.honest in
    all_back c.args.taken flashes (V c.args.rig.now) (V c.rewrite_at_work.new.rig) c.requires.one
    c.args.chip.now chip (V c.undo_newest.new.rig) c.rewrite_at_work.new.journal
    c.undo_newest.new.journal model first
    (c.in_ok-undo_newest.ensures.honest flashes first.steady
    (still g last flashes steady chip))

pub returns-clause-order : goal.returns-clause-order
returns-clause-order g c =
    let V = g.R.Rig.view in
    let first = c.in_ok-rewrite_at_work.ensures.order in
    let back = c.in_ok-undo_newest.ensures.order in
    let chip = c.args.chip.now in
    let l = c.args.journal.now in
    let l2 = c.rewrite_at_work.new.journal in
    let a = V c.args.rig.now in
    let b = V c.rewrite_at_work.new.rig in
    let d = V c.undo_newest.new.rig in
    let First = ToldIn V l.is_torn a b in
    let Own = ToldIn V l2.is_torn b d in
    let Told = ToldIn V l.is_torn a d in
    let work = work_as chip First Told (pages_at_work l.state.stack) first.0 (told_on V (λ calls. IsInOrder l2.is_torn back.0 calls) l.is_torn a b d back.2.acts) first.1 in
    let taken = segments_as c.args.again chip Own (tells_behind first.0 Told) c.args.taken (pages_of_segments l2.state.stack) back.0 (told_then V first.0 l l2 a b d first.2) back.1 in
    let T : List (List Kept) → Type 0 = λ segments. AreSegmentsUndone c.args.again chip (tells_behind first.0 Told) c.args.taken segments back.0 in (
      first.0 ++ back.0,
      record { first = first.0; is_first = work; back = back.0; are_back = subst T c.in_ok-rewrite_at_work.ensures.same.same taken; is = refl },
      does_then first.0 back.0 c.args.journal.now c.rewrite_at_work.new.journal c.undo_newest.new.journal (V c.args.rig.now) (V c.rewrite_at_work.new.rig) (V c.undo_newest.new.rig) first.2 back.2,
    )

pub returns-in_err-rewrite_at_work-clause-stops : goal.returns-in_err-rewrite_at_work-clause-stops
returns-in_err-rewrite_at_work-clause-stops g c =
    let V = g.R.Rig.view in
    let chip = c.args.chip.now in
    let l = c.args.journal.now in
    let work = pages_at_work l.state.stack in
    let segments = pages_of_segments l.state.stack in
    let deep : c.args.taken ≤ length segments = omega (arith, pages_count l.state.stack, c.requires.some) in
    let a = V c.args.rig.now in
    let b = V c.rewrite_at_work.new.rig in
    let Told = ToldIn V l.is_torn a b in
    let Work = BeginTold (λ T. AreRewritten chip T work) Told in
    let All = BeginTold (λ T. AreAllUndone c.args.again chip T work c.args.taken segments) Told in
    part_stops Work (OrMisread c.args.again chip All) l.is_torn a b _ c.from_residual.result c.from_residual.ensures.1
    (λ ys begun. such (work_begun c.args.again chip Told work c.args.taken segments deep ys begun)) c.in_err-rewrite_at_work.ensures.stops

pub returns-in_err-undo_newest-clause-stops : goal.returns-in_err-undo_newest-clause-stops
returns-in_err-undo_newest-clause-stops g c =
    let V = g.R.Rig.view in
    let chip = c.args.chip.now in
    let l = c.args.journal.now in
    let l2 = c.rewrite_at_work.new.journal in
    let work = pages_at_work l.state.stack in
    let segments = pages_of_segments l.state.stack in
    let first = c.in_ok-rewrite_at_work.ensures.order in
    let a = V c.args.rig.now in
    let b = V c.rewrite_at_work.new.rig in
    let d = V c.undo_newest.new.rig in
    let First = ToldIn V l.is_torn a b in
    let Own = ToldIn V l2.is_torn b d in
    let Told = ToldIn V l.is_torn a d in
    let Back : List (List Kept) → List Step → Type 0 = λ ss. BeginTold (λ T. AreSegmentsUndone c.args.again chip T c.args.taken ss) Own in
    let same = c.in_ok-rewrite_at_work.ensures.same.same in
    let cause = cause_of c.in_err-undo_newest.field-0.0 in
    let Cut : List Call → Type 0 = λ calls. AreCutShort (OrMisread c.args.again chip (Back (pages_of_segments l2.state.stack))) cause l2.is_torn (acts_of calls) in
    let All = BeginTold (λ T. AreAllUndone c.args.again chip T work c.args.taken segments) Told in
    then_stops (OrMisread c.args.again chip (Back (pages_of_segments l2.state.stack))) (OrMisread c.args.again chip All) first.0 l l2 a b d _
    c.from_residual-in_err-undo_newest.result c.from_residual-in_err-undo_newest.ensures.1 first.2 c.in_err-undo_newest.ensures.stops
    (may_after c.args.again chip (Back (pages_of_segments l2.state.stack)) All first.0 (λ ys begun.
    let T : List (List Kept) → Type 0 = λ ss. Back ss ys in
    segments_begun c.args.again chip First Own Told work c.args.taken segments first.0 (told_on V Cut l.is_torn a b d c.in_err-undo_newest.ensures.stops) (told_then V first.0 l l2 a b d first.2) first.1 ys (subst T same begun)))
