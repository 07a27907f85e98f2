use Rattle.std.proofs.Common.{◌<◌, ◌∙◌, sym, refl, ap, arith, List, [], ℕ, ◌++◌, subst, take}
use Rattle.std.proofs.lemmas.List.{take_all}
use Rattle.stm_journal.specs.declared.kept.Kept.{Kept}
use Rattle.stm_journal.proofs.Names.{kept_count}
use Rattle.stm_journal.specs.lemmas.NewestLaws.{KeepsSame-refl, KeepsSame-trans}
use Rattle.stm_session.proofs.Names.{acts_of, AreCutShort, AreGivenBack, BeginTold, cause_of, Follows, give_back_lines, IsGivenBack, IsInOrder, newest_at, newest_kept, OrMisread, Step, tells_behind}
use Rattle.stm_session.proofs.Names.{ToldIn, with_pages}
use Rattle.stm_session.proofs.Going.{goes_as, goes_nowhere, goes_ok}
use Rattle.stm_session.proofs.Returns.{count_newest, count_text, no_place, number_exists, number_kept, place_fits, the_kept}
use Rattle.stm_session.proofs.UndoPuts.{chip_still, first, return_failed, returned, the_line}
use Rattle.stm_wire.proofs.Names.{Call}
use Rattle.stm_session.proofs.Orders.{does_nothing, does_then, returned_next}
use Rattle.stm_session.proofs.Tellings.{pages_as, returned_as}
use Rattle.stm_session.proofs.ToldPages.{told_on, told_then}
use Rattle.stm_session.proofs.CutShort.{then_stops}
use Rattle.stm_session.proofs.Misreads.{may_after}
use Rattle.stm_session.proofs.UndoOrders.{return_begun}
use Rattle.stm_session.proofs.segment_undo.give_back_segment.Goals as goal

pub loop-i-init : goal.loop-i-init
loop-i-init g c =
    let V = g.R.Rig.view in
    record {
      same = KeepsSame-refl c.args.journal.now.state;
      line = refl;
      journal = refl;
      stays = λ h. h;
      order = ([], refl, does_nothing c.args.journal.now (V c.args.rig.now));
      honest = λ flashes steady chip. goes_nowhere c.step_laws.ensures flashes c.args.journal.now (V c.args.rig.now) (tt {0}) _ (g.met.R.Rig.model c.args.rig.now steady.honest) steady refl;
    }

pub unreachable-requires : goal.unreachable-requires
unreachable-requires g c =
    let lt : c.loop-i.i < kept_count c.args.journal.now.state c.depth-newest.result = omega (arith, c.loop-i-test.true, c.kept_count-count.ensures) in
    no_place c.args.journal.now.state c.loop-i.journal.state c.depth-newest.result c.loop-i.i c.loop-i.invariant.same c.depth-newest.ensures.value lt (sym c.in_default.is ∙ c.kept_place.ensures.place)

pub give_back_line-requires-clause-exists : goal.give_back_line-requires-clause-exists
give_back_line-requires-clause-exists g c =
    let lt : c.loop-i.i < kept_count c.args.journal.now.state c.depth-newest.result = omega (arith, c.loop-i-test.true, c.kept_count-count.ensures) in
    number_exists c.args.journal.now.state c.loop-i.journal.state c.depth-newest.result c.loop-i.i c.loop-i.invariant.same c.depth-newest.ensures.value lt c.args.chip.now c.in-Some-kept.n c.in-Some-kept.field-0-1
    c.requires.fits (sym c.in-Some-kept.ensures)

pub give_back_line-requires-clause-kept : goal.give_back_line-requires-clause-kept
give_back_line-requires-clause-kept g c =
    let lt : c.loop-i.i < kept_count c.args.journal.now.state c.depth-newest.result = omega (arith, c.loop-i-test.true, c.kept_count-count.ensures) in
    number_kept c.args.journal.now.state c.loop-i.journal.state c.depth-newest.result c.loop-i.i c.loop-i.invariant.same c.depth-newest.ensures.value lt c.args.chip.now c.in-Some-kept.n c.in-Some-kept.field-0-1
    c.requires.fits (sym c.in-Some-kept.ensures)

pub give_back_line-requires-clause-size : goal.give_back_line-requires-clause-size
give_back_line-requires-clause-size g c =
    let lt : c.loop-i.i < kept_count c.args.journal.now.state c.depth-newest.result = omega (arith, c.loop-i-test.true, c.kept_count-count.ensures) in
    place_fits c.args.journal.now.state c.loop-i.journal.state c.depth-newest.result c.loop-i.i c.loop-i.invariant.same c.depth-newest.ensures.value lt c.args.chip.now c.in-Some-kept.n c.in-Some-kept.field-0-1
    c.requires.fits (sym c.in-Some-kept.ensures) c.in-Some.place (sym c.in-Some.ensures.place)

pub returns-in_err-give_back_line-clause-honest : goal.returns-in_err-give_back_line-clause-honest
returns-in_err-give_back_line-clause-honest g c flashes steady chip =
    let V = g.R.Rig.view in
    let a = V c.args.rig.now in
    let b = V c.loop-i.rig in
    let model_then = λ (h : b.is_honest). g.met.R.Rig.model c.loop-i.rig h in
    let model = g.met.R.Rig.model c.args.rig.now steady.honest in
    let line = the_line c.step_laws.ensures c.args.chip.now c.args.journal.now c.loop-i.journal a b c.depth-newest.result c.loop-i.i c.in-Some-kept.n c.in-Some-kept.field-0-1 c.in-Some.place flashes c.loop-i.invariant
    model model_then steady chip c.depth-newest.ensures.value (sym c.in-Some.ensures.place) (sym c.in-Some-kept.ensures) in
    let now = first c.step_laws.ensures c.args.chip.now c.args.journal.now c.loop-i.journal a b c.depth-newest.result c.loop-i.i c.in-Some-kept.n c.in-Some-kept.field-0-1 c.in-Some.place flashes c.loop-i.invariant
    model model_then steady chip c.depth-newest.ensures.value (sym c.in-Some.ensures.place) (sym c.in-Some-kept.ensures) in
    let still = chip_still c.step_laws.ensures c.args.chip.now c.args.journal.now c.loop-i.journal a b c.depth-newest.result c.loop-i.i c.in-Some-kept.n c.in-Some-kept.field-0-1 c.in-Some.place flashes c.loop-i.invariant
    model model_then steady chip c.depth-newest.ensures.value (sym c.in-Some.ensures.place) (sym c.in-Some-kept.ensures) in
    return_failed c.step_laws.ensures c.args.chip.now c.args.journal.now c.loop-i.journal a b c.depth-newest.result c.loop-i.i c.in-Some-kept.n c.in-Some-kept.field-0-1 c.in-Some.place flashes c.loop-i.invariant
    model model_then steady chip c.depth-newest.ensures.value (sym c.in-Some.ensures.place) (sym c.in-Some-kept.ensures) c.give_back_line.new.journal (V c.give_back_line.new.rig) c.give_back_line.new.journal _ c.from_residual.result
    (c.in_err-give_back_line.ensures.honest flashes c.depth-newest.result c.loop-i.i line.0 now.steady still line.1 line.2 line.3) c.from_residual.ensures.1

pub loop-i-preserved : goal.loop-i-preserved
loop-i-preserved g c =
    let V = g.R.Rig.view in
    let a = V c.args.rig.now in
    let b = V c.loop-i.rig in
    let so_far = c.loop-i.invariant in
    record {
      same = KeepsSame-trans c.args.journal.now.state c.loop-i.journal.state c.give_back_line.new.journal.state so_far.same c.in_ok-give_back_line.ensures.same;
      line = c.in_ok-give_back_line.ensures.cause.line_done ∙ so_far.line;
      journal = c.in_ok-give_back_line.ensures.cause.journal_done ∙ so_far.journal;
      stays = λ h. c.in_ok-give_back_line.ensures.cause.honest (so_far.stays h);
      order =
          let lt : c.loop-i.i < kept_count c.args.journal.now.state c.depth-newest.result = omega (arith, c.loop-i-test.true, c.kept_count-count.ensures) in
          let kept = the_kept c.args.journal.now.state c.loop-i.journal.state c.depth-newest.result c.loop-i.i so_far.same c.depth-newest.ensures.value lt c.args.chip.now c.in-Some-kept.n c.in-Some-kept.field-0-1
          c.requires.fits (sym c.in-Some-kept.ensures) in
          let before = so_far.order in
          let one = c.in_ok-give_back_line.ensures.order in
          let chip = c.args.chip.now in
          let l = c.args.journal.now in
          let l2 = c.loop-i.journal in
          let d = V c.give_back_line.new.rig in
          let pages = newest_kept l.state.stack in
          let Told = ToldIn V l.is_torn a d in
          let front = pages_as c.args.again chip (ToldIn V l.is_torn a b) Told (take c.loop-i.i pages) before.0 (told_on V (λ calls. IsInOrder l2.is_torn one.0 calls) l.is_torn a b d one.2.acts) before.1 in
          let own = returned_as c.args.again chip (ToldIn V l2.is_torn b d) (tells_behind before.0 Told) c.in-Some-kept.n one.0 (told_then V before.0 l l2 a b d before.2) one.1 in
          let P : ℕ → Type 0 = λ m. IsGivenBack c.args.again chip (tells_behind before.0 Told) m one.0 in (
            before.0 ++ one.0,
            returned_next c.args.again chip Told pages c.loop-i.i kept.0 before.0 one.0 kept.1 front (subst P (sym kept.2) own),
            does_then before.0 one.0 l l2 c.give_back_line.new.journal a b d before.2 one.2,
          );
      honest = λ flashes steady chip.
          let model_then = λ (h : b.is_honest). g.met.R.Rig.model c.loop-i.rig h in
          let model = g.met.R.Rig.model c.args.rig.now steady.honest in
          let line = the_line c.step_laws.ensures c.args.chip.now c.args.journal.now c.loop-i.journal a b c.depth-newest.result c.loop-i.i c.in-Some-kept.n c.in-Some-kept.field-0-1 c.in-Some.place flashes so_far
          model model_then steady chip c.depth-newest.ensures.value (sym c.in-Some.ensures.place) (sym c.in-Some-kept.ensures) in
          let now = first c.step_laws.ensures c.args.chip.now c.args.journal.now c.loop-i.journal a b c.depth-newest.result c.loop-i.i c.in-Some-kept.n c.in-Some-kept.field-0-1 c.in-Some.place flashes so_far
          model model_then steady chip c.depth-newest.ensures.value (sym c.in-Some.ensures.place) (sym c.in-Some-kept.ensures) in
          let still = chip_still c.step_laws.ensures c.args.chip.now c.args.journal.now c.loop-i.journal a b c.depth-newest.result c.loop-i.i c.in-Some-kept.n c.in-Some-kept.field-0-1 c.in-Some.place flashes so_far
          model model_then steady chip c.depth-newest.ensures.value (sym c.in-Some.ensures.place) (sym c.in-Some-kept.ensures) in
          returned c.step_laws.ensures c.args.chip.now c.args.journal.now c.loop-i.journal a b c.depth-newest.result c.loop-i.i c.in-Some-kept.n c.in-Some-kept.field-0-1 c.in-Some.place flashes so_far
          model model_then steady chip c.depth-newest.ensures.value (sym c.in-Some.ensures.place) (sym c.in-Some-kept.ensures) c.give_back_line.new.journal (V c.give_back_line.new.rig) _
          (c.in_ok-give_back_line.ensures.honest flashes c.depth-newest.result c.loop-i.i line.0 now.steady still line.1 line.2 line.3);
    }

pub returns-clause-honest : goal.returns-clause-honest
returns-clause-honest g c flashes steady chip =
    let V = g.R.Rig.view in
    let a = V c.args.rig.now in
    let many = count_text c.args.journal.now a.journal c.depth-newest.result steady.loaded c.depth-newest.ensures.value in
    let all = take_all c.loop-i.i (newest_at a.journal) (omega (arith, c.loop-i-test.false, c.kept_count-count.ensures, many)) in
    goes_as flashes (give_back_lines c.args.chip.now a.device.flash (_)) (give_back_lines c.args.chip.now a.device.flash (newest_at a.journal)) c.loop-i.journal a (V c.loop-i.rig) _
    (ap (λ (pages : List Kept). give_back_lines c.args.chip.now a.device.flash pages) all)
    (goes_ok flashes _ c.loop-i.journal a (V c.loop-i.rig) (tt {0}) (tt {0}) (c.loop-i.invariant.honest flashes steady chip)
    (λ done. done ∙ ap (λ (pages : List Kept). with_pages c.args.chip.now pages a.device.flash) all))

pub returns-clause-order : goal.returns-clause-order
returns-clause-order g c =
    let V = g.R.Rig.view in
    let pages = newest_kept c.args.journal.now.state.stack in
    let many = count_newest c.args.journal.now.state c.depth-newest.result c.depth-newest.ensures.value in
    let all = take_all c.loop-i.i pages (omega (arith, c.loop-i-test.false, c.kept_count-count.ensures, many)) in
    let Told = ToldIn V c.args.journal.now.is_torn (V c.args.rig.now) (V c.loop-i.rig) in
    let P : List Kept → Type 0 = λ ks. Follows (AreGivenBack c.args.again c.args.chip.now Told ks) c.args.journal.now c.loop-i.journal (V c.args.rig.now) (V c.loop-i.rig) in
    subst P all c.loop-i.invariant.order

pub returns-in_err-give_back_line-clause-stops : goal.returns-in_err-give_back_line-clause-stops
returns-in_err-give_back_line-clause-stops g c =
    let V = g.R.Rig.view in
    let chip = c.args.chip.now in
    let l = c.args.journal.now in
    let pages = newest_kept l.state.stack in
    let so_far = c.loop-i.invariant in
    let lt : c.loop-i.i < kept_count l.state c.depth-newest.result = omega (arith, c.loop-i-test.true, c.kept_count-count.ensures) in
    let kept = the_kept l.state c.loop-i.journal.state c.depth-newest.result c.loop-i.i so_far.same c.depth-newest.ensures.value lt chip c.in-Some-kept.n c.in-Some-kept.field-0-1
    c.requires.fits (sym c.in-Some-kept.ensures) in
    let before = so_far.order in
    let l2 = c.loop-i.journal in
    let a = V c.args.rig.now in
    let b = V c.loop-i.rig in
    let d = V c.give_back_line.new.rig in
    let First = ToldIn V l.is_torn a b in
    let Own = ToldIn V l2.is_torn b d in
    let Told = ToldIn V l.is_torn a d in
    let One : ℕ → List Step → Type 0 = λ m. BeginTold (λ T. IsGivenBack c.args.again chip T m) Own in
    let cause = cause_of c.in_err-give_back_line.field-0.0 in
    let Cut : List Call → Type 0 = λ calls. AreCutShort (OrMisread c.args.again chip (One c.in-Some-kept.n)) cause l2.is_torn (acts_of calls) in
    let first = told_on V Cut l.is_torn a b d c.in_err-give_back_line.ensures.stops in
    let own = told_then V before.0 l l2 a b d before.2 in
    let All = BeginTold (λ T. AreGivenBack c.args.again chip T pages) Told in
    then_stops (OrMisread c.args.again chip (One c.in-Some-kept.n)) (OrMisread c.args.again chip All) before.0 l l2 a b d _ c.from_residual.result c.from_residual.ensures.1
    before.2 c.in_err-give_back_line.ensures.stops
    (may_after c.args.again chip (One c.in-Some-kept.n) All before.0 (λ ys begun.
    let P : ℕ → Type 0 = λ m. One m ys in
    return_begun c.args.again chip First Own Told pages c.loop-i.i kept.0 before.0 kept.1 first own before.1 ys (subst P (sym kept.2) begun)))
