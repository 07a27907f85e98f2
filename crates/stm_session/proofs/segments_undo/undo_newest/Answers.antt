use Rattle.std.proofs.Common.{◌≡◌, ◌∙◌, ◌+◌, ◌<◌, length, refl, arith, ◌≤◌, [], ℕ, ◌++◌, drop, sym, subst, List}
use Rattle.stm_session.proofs.Going.{at_exit}
use Rattle.stm_session.proofs.UndoesOfSegments.{undoes_all_newest, undoes_failed, undoes_more, undoes_nowhere, next_flash, rest_depth, rest_fits, rest_next, some_left, steady_split}
use Rattle.stm_journal.proofs.Names.{pages_of_segments}
use Rattle.stm_wire.proofs.Names.{Call}
use Rattle.stm_session.proofs.Names.{acts_of, AreCutShort, AreSegmentsUndone, BeginTold, cause_of, Follows, IsInOrder, IsSegmentUndone, IsSteady, newest_kept, OrMisread, Step, tells_behind, ToldIn}
use Rattle.stm_session.proofs.Orders.{does_nothing, does_then, segments_count, segments_split, taken_next}
use Rattle.stm_session.proofs.Tellings.{segments_as, taken_as}
use Rattle.stm_session.proofs.ToldPages.{told_on, told_then}
use Rattle.stm_session.proofs.CutShort.{then_stops}
use Rattle.stm_session.proofs.Misreads.{may_after}
use Rattle.stm_session.proofs.UndoOrders.{back_begun, pages_count}
use Rattle.stm_session.proofs.segments_undo.undo_newest.Given as given
use Rattle.stm_session.proofs.segments_undo.undo_newest.Goals as goal
use Rattle.stm_session.proofs.segments_undo.undo_newest.Goals.{After-undo_segment}

-- What each turn shares: a segment is left, and the chip is the one before.
within : (g : given.Over) (c : goal.After-undo_segment g)
    → c.loop-i.i < length c.args.journal.now.state.stack
within g c =
    let lt : c.loop-i.i < c.args.taken = omega (arith, c.loop-i-test.true) in
    omega (arith, lt, c.requires.some)

left : (g : given.Over) (c : goal.After-undo_segment g)
    → 0 < length c.loop-i.journal.state.stack
left g c =
    let fits = within g c in
    let depth = rest_depth c.loop-i.i c.args.journal.now.state c.loop-i.journal.state
    c.loop-i.invariant.rest (omega (arith, fits)) in
    omega (arith, fits, depth)

still : (g : given.Over) (c : goal.After-undo_segment g) (flashes : List (List ℕ))
    → IsSteady flashes c.args.journal.now (g.R.Rig.view c.args.rig.now)
    → (g.R.Rig.view c.args.rig.now).device.chip ≡ c.args.chip.now
    → (g.R.Rig.view c.loop-i.rig).device.chip ≡ c.args.chip.now
still g c flashes steady chip =
    let so_far = c.loop-i.invariant.honest flashes steady chip in
    let model = g.met.R.Rig.model c.loop-i.rig so_far.steady.honest in
    (at_exit _ (g.R.Rig.view c.args.rig.now) (g.R.Rig.view c.loop-i.rig) model
    so_far.moments).make.chip ∙ chip

pub loop-i-init : goal.loop-i-init
loop-i-init g c =
    let V = g.R.Rig.view in
    record {
      rest = refl;
      line = refl;
      journal = refl;
      stays = λ h. h;
      order = ([], refl, does_nothing c.args.journal.now (V c.args.rig.now));
      honest = λ flashes steady chip. undoes_nowhere c.step_laws.ensures flashes c.args.journal.now (V c.args.rig.now) (g.met.R.Rig.model c.args.rig.now steady.honest) steady;
    }

pub undo_segment-requires-clause-fits : goal.undo_segment-requires-clause-fits
undo_segment-requires-clause-fits g c = rest_fits c.args.chip.now c.loop-i.i c.args.journal.now.state c.loop-i.journal.state c.loop-i.invariant.rest c.requires.fits

pub undo_segment-requires-clause-some : goal.undo_segment-requires-clause-some
undo_segment-requires-clause-some g c =
    let lt : c.loop-i.i < c.args.taken = omega (arith, c.loop-i-test.true) in
    let depth = rest_depth c.loop-i.i c.args.journal.now.state c.loop-i.journal.state c.loop-i.invariant.rest (omega (arith, lt, c.requires.some)) in
    omega (arith, lt, depth, c.requires.some)

pub returns-in_err-undo_segment-clause-honest : goal.returns-in_err-undo_segment-clause-honest
returns-in_err-undo_segment-clause-honest g c flashes steady chip =
    let V = g.R.Rig.view in
    let k = c.args.chip.now in
    let l = c.args.journal.now in
    let l2 = c.loop-i.journal in
    let l3 = c.undo_segment.new.journal in
    let b = V c.loop-i.rig in
    let i = c.loop-i.i in
    let turn = (goal.at.returns-in_err-undo_segment-clause-honest g c).After-undo_segment in
    let fits = within g turn in
    let so_far = c.loop-i.invariant.honest flashes steady chip in
    let model = g.met.R.Rig.model c.loop-i.rig so_far.steady.honest in
    let split = next_flash i flashes (some_left _ l2 b so_far.steady (left g turn)) in
    let next = c.in_err-undo_segment.ensures.honest _ _
    (steady_split k i flashes l l2 l3 (V c.args.rig.now) b (V c.undo_segment.new.rig) model steady
    so_far chip fits split) (still g turn flashes steady chip) in
    undoes_failed k i flashes l l2 l3 (V c.args.rig.now) b (V c.undo_segment.new.rig) model steady
    so_far chip fits split c.args.taken l3 _ c.from_residual.result
    (omega (arith, c.loop-i-test.true)) next c.from_residual.ensures.1

pub loop-i-preserved : goal.loop-i-preserved
loop-i-preserved g c =
    let V = g.R.Rig.view in
    let l = c.args.journal.now in
    let l2 = c.loop-i.journal in
    let a = V c.args.rig.now in
    let b = V c.loop-i.rig in
    let d = V c.undo_segment.new.rig in
    let i = c.loop-i.i in
    let turn = (goal.at.loop-i-preserved g c).After-undo_segment in
    let fits = within g turn in
    let some = left g turn in
    record {
      rest = rest_next i _ _ _ c.loop-i.invariant.rest c.in_ok-undo_segment.ensures.rest;
      line = c.in_ok-undo_segment.ensures.cause.line_done ∙ c.loop-i.invariant.line;
      journal = c.in_ok-undo_segment.ensures.cause.journal_done ∙ c.loop-i.invariant.journal;
      stays = λ h. c.in_ok-undo_segment.ensures.cause.honest (c.loop-i.invariant.stays h);
      order =
          let all = pages_of_segments l.state.stack in
          let below = pages_of_segments (drop 1 l2.state.stack) in
          let before = c.loop-i.invariant.order in
          let one = c.in_ok-undo_segment.ensures.order in
          let chip = c.args.chip.now in
          let newest = newest_kept l2.state.stack in
          let Told = ToldIn V l.is_torn a d in
          let front = segments_as c.args.again chip (ToldIn V l.is_torn a b) Told i all before.0 (told_on V (λ calls. IsInOrder l2.is_torn one.0 calls) l.is_torn a b d one.2.acts) before.1 in
          let own = taken_as c.args.again chip (ToldIn V l2.is_torn b d) (tells_behind before.0 Told) newest (length l2.state.stack) one.0 (told_then V before.0 l l2 a b d before.2) one.1 in
          let P : ℕ → Type 0 = λ m. IsSegmentUndone c.args.again chip (tells_behind before.0 Told) newest m one.0 in (
            before.0 ++ one.0,
            taken_next c.args.again chip Told all i newest below before.0 one.0 (sym c.loop-i.invariant.rest ∙ segments_split l2.state.stack some) front (subst P (segments_count l2.state.stack some) own),
            does_then before.0 one.0 l l2 c.undo_segment.new.journal a b d before.2 one.2,
          );
      honest = λ flashes steady chip.
          let so_far = c.loop-i.invariant.honest flashes steady chip in
          let model = g.met.R.Rig.model c.loop-i.rig so_far.steady.honest in
          let split = next_flash i flashes (some_left _ l2 b so_far.steady some) in
          let next = c.in_ok-undo_segment.ensures.honest _ _
          (steady_split c.args.chip.now i flashes l l2 c.undo_segment.new.journal a b d model steady
          so_far chip fits split) (still g turn flashes steady chip) in
          undoes_more c.args.chip.now i flashes l l2 c.undo_segment.new.journal a b d model steady
          so_far chip fits split _ (i + 1) (omega arith) next;
    }

pub returns-clause-honest : goal.returns-clause-honest
returns-clause-honest g c flashes steady chip =
    let V = g.R.Rig.view in
    let all : c.loop-i.i ≡ c.args.taken = omega (arith, c.loop-i-test.false, c.loop-i.auto.i-end) in
    undoes_all_newest c.loop-i.i c.args.taken flashes c.loop-i.journal (V c.args.rig.now) (V c.loop-i.rig) all (c.loop-i.invariant.honest flashes steady chip)

pub returns-clause-order : goal.returns-clause-order
returns-clause-order g c =
    let V = g.R.Rig.view in
    let l = c.args.journal.now in
    let all : c.loop-i.i ≡ c.args.taken = omega (arith, c.loop-i-test.false, c.loop-i.auto.i-end) in
    let Told = ToldIn V l.is_torn (V c.args.rig.now) (V c.loop-i.rig) in
    let P : ℕ → Type 0 = λ m. Follows (AreSegmentsUndone c.args.again c.args.chip.now Told m (pages_of_segments l.state.stack)) l c.loop-i.journal (V c.args.rig.now) (V c.loop-i.rig) in
    subst P all c.loop-i.invariant.order

pub returns-in_err-undo_segment-clause-stops : goal.returns-in_err-undo_segment-clause-stops
returns-in_err-undo_segment-clause-stops g c =
    let V = g.R.Rig.view in
    let chip = c.args.chip.now in
    let l = c.args.journal.now in
    let l2 = c.loop-i.journal in
    let i = c.loop-i.i in
    let lt : i < c.args.taken = omega (arith, c.loop-i-test.true) in
    let some = left g (goal.at.returns-in_err-undo_segment-clause-stops g c).After-undo_segment in
    let all = pages_of_segments l.state.stack in
    let below = pages_of_segments (drop 1 l2.state.stack) in
    let before = c.loop-i.invariant.order in
    let deep : c.args.taken ≤ length all = omega (arith, pages_count l.state.stack, c.requires.some) in
    let a = V c.args.rig.now in
    let b = V c.loop-i.rig in
    let d = V c.undo_segment.new.rig in
    let newest = newest_kept l2.state.stack in
    let First = ToldIn V l.is_torn a b in
    let Own = ToldIn V l2.is_torn b d in
    let Told = ToldIn V l.is_torn a d in
    let Taken : ℕ → List Step → Type 0 = λ m. BeginTold (λ T. IsSegmentUndone c.args.again chip T newest m) Own in
    let cause = cause_of c.in_err-undo_segment.field-0.0 in
    let Cut : List Call → Type 0 = λ calls. AreCutShort (OrMisread c.args.again chip (Taken (length l2.state.stack))) cause l2.is_torn (acts_of calls) in
    let first = told_on V Cut l.is_torn a b d c.in_err-undo_segment.ensures.stops in
    let own = told_then V before.0 l l2 a b d before.2 in
    let All = BeginTold (λ T. AreSegmentsUndone c.args.again chip T c.args.taken all) Told in
    then_stops (OrMisread c.args.again chip (Taken (length l2.state.stack))) (OrMisread c.args.again chip All) before.0 l l2 a b d _ c.from_residual.result c.from_residual.ensures.1
    before.2 c.in_err-undo_segment.ensures.stops
    (may_after c.args.again chip (Taken (length l2.state.stack)) All before.0 (λ ys begun.
    let P : ℕ → Type 0 = λ m. Taken m ys in
    back_begun c.args.again chip First Own Told all c.args.taken i newest below before.0 lt deep (sym c.loop-i.invariant.rest ∙ segments_split l2.state.stack some) first own before.1 ys (subst P (segments_count l2.state.stack some) begun)))
