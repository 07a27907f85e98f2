use Rattle.std.proofs.Common.{◌≡◌, ◌∙◌, ◌+◌, ◌<◌, ◌≤◌, ◌++◌, [], List, ℕ, Bool, length, ap, arith, refl, sym, subst, true}
use Rattle.stm_wire.proofs.Names.{ChipData, flash_size, page_count, page_of}
use Rattle.stm_wire.specs.lemmas.FlashLaws.{turned_none, turned_all}
use Rattle.stm_journal.specs.declared.entry.Entry.{Entry}
use Rattle.stm_journal.specs.lemmas.NewestLaws.{newest_may_keep_behind}
use Rattle.stm_session.proofs.Names.{AreAllTurned, AreBegunTurns, AreTurned, Begin, command_of, content, differing_below, flash_after, IsGiven, IsPageTurn, KeepsErased, none, page_entries}
use Rattle.stm_session.proofs.Names.{page_entries_below, Step}
use Rattle.stm_session.proofs.Going.{at_exit, goes_as, goes_nowhere, goes_failed, goes_ok, goes_then}
use Rattle.stm_session.proofs.Turns.{LayLaws, begun_next, counted_more, free_next, from_one, has_next, lacks_next, lines_around, page_lines, size_after, told_more, turned_more}
use Rattle.stm_session.proofs.ChangeOrders.{all_turned}
use Rattle.stm_session.proofs.KeptErased.{each_then, keep_still}
use Rattle.stm_session.proofs.Orders.{does_nothing, does_then}
use Rattle.stm_session.proofs.CutShort.{then_stops}
use Rattle.stm_session.proofs.page_changes.turn_pages.Goals as goal

pub loop-n-init : goal.loop-n-init
loop-n-init g c =
    let V = g.R.Rig.view in
    record {
      is_open = c.requires.open;
      depth = refl;
      free = λ m le ne. newest_may_keep_behind m c.args.journal.now.state c.requires.open (omega (arith, c.requires.next));
      lacks = λ h le. newest_may_keep_behind 257 c.args.journal.now.state c.requires.open (omega (arith, c.requires.next));
      has = λ h more. absurd (Rattle.std.proofs.lemmas.Bool.false≢true h);
      begun = λ le. refl;
      small = omega arith;
      order = ([], (none, tt), does_nothing c.args.journal.now (V c.args.rig.now));
      line = refl;
      journal = refl;
      stays = λ h. h;
      honest = λ flashes steady chip.
          let model = g.met.R.Rig.model c.args.rig.now steady.honest in
          let old = (V c.args.rig.now).device.flash in
          let size : length old ≡ flash_size c.args.chip.now = model.device.size ∙ ap (λ (k : ChipData). flash_size k) chip in
          goes_nowhere c.step_laws.ensures flashes c.args.journal.now (V c.args.rig.now) (tt {0}) _ model steady
          (turned_none c.args.chip.now old (flash_after c.args.chip.now old (command_of c.args.change.now)) size, refl, λ le. absurd (omega (arith, le)));
    }

pub returns-in_err-changed-clause-honest : goal.returns-in_err-changed-clause-honest
returns-in_err-changed-clause-honest g c flashes steady chip =
    let V = g.R.Rig.view in
    let laws : LayLaws = record { length = c.laying_by_parts.ensures.length; front = c.laying_by_parts.ensures.front; back = c.laying_by_parts.ensures.back } in
    let a = V c.args.rig.now in
    let b = V c.loop-n.rig in
    let d = V c.turn_page.new.rig in
    let l2 = c.loop-n.journal in
    let l3 = c.turn_page.new.journal in
    let n = c.loop-n.n in
    let first = c.loop-n.invariant.honest flashes steady chip in
    let start = g.met.R.Rig.model c.args.rig.now steady.honest in
    let model = g.met.R.Rig.model c.loop-n.rig first.steady.honest in
    let still = (at_exit _ a b model first.moments).make.chip ∙ chip in
    let old = a.device.flash in
    let other = flash_after c.args.chip.now old (command_of c.args.change.now) in
    let size : length old ≡ flash_size c.args.chip.now = start.device.size ∙ ap (λ (k : ChipData). flash_size k) chip in
    let here : n < page_count c.args.chip.now = omega (arith, c.loop-n-test.true, c.pages-n-end.ensures) in
    let own : List Entry = page_entries c.args.chip.now old other n in
    let lines = page_lines laws c.args.chip.now c.args.change.now n old b.device.flash c.loop-n.first c.is_kept-kept.result size here first.done.0 c.is_kept-kept.ensures first.done.2 in
    let around = lines_around c.args.chip.now old other n (page_count c.args.chip.now) here in
    let rest : List Entry = around.0 in
    let before : List Entry = page_entries_below n c.args.chip.now old other in
    let after : List Entry = own ++ rest in
    goes_as flashes (before ++ after) _ l3 a d _ (sym around.1)
    (goes_then flashes before after l2 l3 a b d (tt {0}) c.from_residual.result model first
    (goes_failed flashes own rest l3 l3 b d _ c.from_residual.result
    (goes_as flashes _ own l3 b d _ lines (c.in_err-changed.ensures.honest flashes first.steady still)) c.from_residual.ensures.1) (λ y p. p))

pub loop-n-preserved : goal.loop-n-preserved
loop-n-preserved g c =
    let V = g.R.Rig.view in
    let so_far = c.loop-n.invariant in
    let n = c.loop-n.n in
    let s = c.loop-n.journal.state in
    let s2 = c.turn_page.new.journal.state in
    let kept = c.is_kept-kept.result in
    let changed = c.in_ok-changed.changed in
    let turned = c.in_ok-changed.ensures.turned in
    let one : c.from-count.result ≤ 1 = from_one changed c.from-count.result c.from-count.ensures in
    let next_is = c.after_page-first.ensures in
    record {
      is_open = turned.is_open so_far.is_open;
      depth = turned.depth ∙ so_far.depth;
      free = free_next c.args.chip.now n c.loop-n.first kept changed s s2 c.is_kept-kept.ensures turned so_far.free;
      lacks = λ h le. lacks_next c.args.chip.now n c.loop-n.first kept changed s s2 c.is_kept-kept.ensures turned so_far.begun so_far.lacks (sym next_is ∙ h) le;
      has = λ h more. has_next c.args.chip.now n c.loop-n.first kept changed s s2 c.is_kept-kept.ensures turned so_far.has (sym next_is ∙ h) more;
      begun = λ le. next_is ∙ begun_next c.args.chip.now n c.loop-n.first kept changed s s2 c.is_kept-kept.ensures turned so_far.begun le;
      small = omega (arith, so_far.small, one);
      order =
          let before = so_far.order in
          let own = c.in_ok-changed.ensures.order in (
            before.0 ++ own.0,
            (
              all_turned c.args.chip.now c.args.change.now n c.loop-n.first kept changed c.after_page-first.result before.0 own.0 c.is_kept-kept.ensures next_is before.1.0 own.1.0,
              each_then (KeepsErased s2) before.0 own.0 (keep_still s s2 before.0 turned.still before.1.1) own.1.1,
            ),
            does_then before.0 own.0 c.args.journal.now c.loop-n.journal c.turn_page.new.journal (V c.args.rig.now) (V c.loop-n.rig) (V c.turn_page.new.rig) before.2 own.2,
          );
      line = c.in_ok-changed.ensures.cause.line_done ∙ so_far.line;
      journal = c.in_ok-changed.ensures.cause.journal_done ∙ so_far.journal;
      stays = λ h. c.in_ok-changed.ensures.cause.honest (so_far.stays h);
      honest = λ flashes steady chip.
          let laws : LayLaws = record { length = c.laying_by_parts.ensures.length; front = c.laying_by_parts.ensures.front; back = c.laying_by_parts.ensures.back } in
          let a = V c.args.rig.now in
          let b = V c.loop-n.rig in
          let d = V c.turn_page.new.rig in
          let l2 = c.loop-n.journal in
          let l3 = c.turn_page.new.journal in
          let first = so_far.honest flashes steady chip in
          let start = g.met.R.Rig.model c.args.rig.now steady.honest in
          let model = g.met.R.Rig.model c.loop-n.rig first.steady.honest in
          let still = (at_exit _ a b model first.moments).make.chip ∙ chip in
          let old = a.device.flash in
          let now = b.device.flash in
          let new = d.device.flash in
          let k = c.args.chip.now in
          let other = flash_after k old (command_of c.args.change.now) in
          let size : length old ≡ flash_size k = start.device.size ∙ ap (λ (x : ChipData). flash_size x) chip in
          let here : n < page_count k = omega (arith, c.loop-n-test.true, c.pages-n-end.ensures) in
          let own : List Entry = page_entries k old other n in
          let before : List Entry = page_entries_below n k old other in
          let lines = page_lines laws k c.args.change.now n old now c.loop-n.first kept size here first.done.0 c.is_kept-kept.ensures first.done.2 in
          let Given = IsGiven k n (content k c.args.change.now n (page_of k now n)) now new changed in
          let two : n + 1 ≡ Rattle.std.proofs.Common.suc n = omega arith in
          goes_as flashes (before ++ own) _ l3 a d _ (ap (λ (m : ℕ). page_entries_below m k old other) (sym two))
          (goes_then {Done2 = λ y. Given} flashes before own l2 l3 a b d (tt {0}) _ model first
          (goes_ok flashes own l3 b d changed (tt {0}) (goes_as flashes _ own l3 b d _ lines (c.in_ok-changed.ensures.honest flashes first.steady still)) (λ p. p))
          (λ y given. (
            turned_more laws k c.args.change.now n old now c.loop-n.first kept size here first.done.0 c.is_kept-kept.ensures first.done.2 new changed given,
            counted_more laws k c.args.change.now n old now c.loop-n.first kept size here first.done.0 c.is_kept-kept.ensures first.done.2 new changed given c.loop-n.count c.from-count.result first.done.1 c.from-count.ensures,
            λ le. next_is ∙ told_more laws k c.args.change.now n old now c.loop-n.first kept size here first.done.0 c.is_kept-kept.ensures first.done.2 new changed given le,
          )));
    }

pub returns-clause-honest : goal.returns-clause-honest
returns-clause-honest g c flashes steady chip =
    let V = g.R.Rig.view in
    let laws : LayLaws = record { length = c.laying_by_parts.ensures.length; front = c.laying_by_parts.ensures.front; back = c.laying_by_parts.ensures.back } in
    let a = V c.args.rig.now in
    let b = V c.loop-n.rig in
    let k = c.args.chip.now in
    let model = g.met.R.Rig.model c.args.rig.now steady.honest in
    let old = a.device.flash in
    let size : length old ≡ flash_size k = model.device.size ∙ ap (λ (x : ChipData). flash_size x) chip in
    let other = flash_after k old (command_of c.args.change.now) in
    let all : c.loop-n.n ≡ page_count k = omega (arith, c.loop-n-test.false, c.loop-n.auto.n-end, c.pages-n-end.ensures) in
    goes_as flashes (page_entries_below c.loop-n.n k old other) _ c.loop-n.journal a b _ (ap (λ (m : ℕ). page_entries_below m k old other) all)
    (goes_ok flashes (page_entries_below c.loop-n.n k old other) c.loop-n.journal a b (tt {0}) c.loop-n.count (c.loop-n.invariant.honest flashes steady chip)
    (λ done. record {
      flash = turned_all k c.loop-n.n old other b.device.flash (size_after laws k c.args.change.now old size) (omega (arith, all)) done.0;
      counts = done.1 ∙ ap (λ (m : ℕ). differing_below m k old other) all;
    }))

pub returns-clause-order : goal.returns-clause-order
returns-clause-order g c =
    let k = c.args.chip.now in
    let all : c.loop-n.n ≡ page_count k = omega (arith, c.loop-n-test.false, c.loop-n.auto.n-end, c.pages-n-end.ensures) in
    let done = c.loop-n.invariant.order in
    let P : ℕ → Type 0 = λ m. AreTurned k c.args.change.now m c.loop-n.first done.0 in
    let turned : AreAllTurned k c.args.change.now done.0 = (c.loop-n.first, subst P all done.1.0) in
    (done.0, (turned, done.1.1), done.2)

pub returns-in_err-changed-clause-stops : goal.returns-in_err-changed-clause-stops
returns-in_err-changed-clause-stops g c =
    let V = g.R.Rig.view in
    let chip = c.args.chip.now in
    let change = c.args.change.now in
    let n = c.loop-n.n in
    let so_far = c.loop-n.invariant.order in
    let here : n < page_count chip = omega (arith, c.loop-n-test.true, c.pages-n-end.ensures) in
    let Turn : Bool → List Step → Type 0 = λ k. IsPageTurn k chip change n in
    then_stops (Begin (Turn c.is_kept-kept.result)) (AreBegunTurns chip change) so_far.0 c.args.journal.now c.loop-n.journal (V c.args.rig.now) (V c.loop-n.rig) (V c.turn_page.new.rig) _ c.from_residual.result c.from_residual.ensures.1
    so_far.2 c.in_err-changed.ensures.stops
    (λ ys begun.
    let P : Bool → Type 0 = λ k. Begin (Turn k) ys in
    record { page = n; exists = here; first = c.loop-n.first; before = so_far.0; are_turned = so_far.1.0; own = ys; is_begun = subst P c.is_kept-kept.ensures begun; is = refl })
