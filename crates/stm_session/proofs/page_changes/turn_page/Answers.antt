use Rattle.std.proofs.Common.{◌≡◌, ◌∙◌, ◌++◌, [], List, ℕ, Bool, Result, false, inl, inr, not, length, ap, ap₂, refl, sym, subst, rules}
use Rattle.std.specs.Prelude.{bytes_eq}
use Rattle.stm_wire.proofs.Names.{ChipData, Device, flash_size, page_of, page_size, with_page}
use Rattle.stm_wire.specs.lemmas.PageLaws.{length-page_of}
use Rattle.stm_session.proofs.Names.{Begin, change_entries, content, DoesSteps, Fault, Goes, IsChanged, IsGiven, IsPageTurn, IsSteady, IsTurnOf, page_reads}
use Rattle.stm_session.proofs.ChangeOrders.{some_turn, turn_of}
use Rattle.stm_session.proofs.Changes.{same_lines_of, told_same}
use Rattle.stm_session.proofs.CutShort.{begin_after, memory_stops, then_stops}
use Rattle.stm_session.proofs.Exits.{goes_fault, read_stops, reads_page}
use Rattle.stm_session.proofs.Going.{asks_fail, asks_on, goes_as, goes_nowhere, goes_ok, goes_refused, goes_then, page_held}
use Rattle.stm_session.proofs.KeptErased.{keep_turn}
use Rattle.stm_session.proofs.Orders.{does_nothing, does_then}
use Rattle.stm_session.proofs.Restorings.{page_read}
use Rattle.stm_session.proofs.Turns.{given_on}
use Rattle.stm_session.proofs.page_changes.turn_page.Given as given
use Rattle.stm_session.proofs.page_changes.turn_page.Goals as goal
use Rattle.stm_session.proofs.page_changes.turn_page.Goals.{After-change_page, After-content}

-- What the exits behind content share.

-- its steps
was_read : (g : given.Over) (c : goal.After-content g) (held : List ℕ)
    → held ≡ c.in_ok-held.held.items
    → DoesSteps (page_reads c.args.chip.now c.args.n held) c.args.journal.now c.args.journal.now
    (g.R.Rig.view c.args.rig.now) (g.R.Rig.view c.read_range.new.rig)
was_read g c held same =
    let l = c.args.journal.now in
    let a = g.R.Rig.view c.args.rig.now in
    let b = g.R.Rig.view c.read_range.new.rig in
    reads_page c.args.chip.now c.args.n c.page_start-start.result c.page_size-size.result
    c.requires.exists c.page_start-start.ensures.address c.page_size-size.ensures.bytes l
    c.in_ok-held.held.items held a b c.page_size-size.ensures.blocks.1 c.in_ok-held.ensures.order
    same

-- What the exits behind change_page share.

-- the bytes that were read, and those that the command makes of them
held_size : (g : given.Over) (c : goal.After-change_page g)
    → length c.deref-2.result.now ≡ page_size c.args.chip.now c.args.n
held_size g c = search rules

is_made : (g : given.Over) (c : goal.After-change_page g)
    → c.deref-3.result.now
    ≡ content c.args.chip.now c.args.change.now c.args.n c.deref-2.result.now
is_made g c =
    let made = content c.args.chip.now c.args.change.now c.args.n in
    c.deref-3.ensures.value ∙ c.in_ok-page.ensures.bytes
    ∙ ap made (c.deref.ensures.value ∙ sym c.deref-2.ensures.value)

-- the lines are those of the page's turn, whatever change_page answers
turned : (g : given.Over) (c : goal.After-change_page g) (flashes : List (List ℕ))
    → IsSteady flashes c.args.journal.now (g.R.Rig.view c.args.rig.now)
    → (g.R.Rig.view c.args.rig.now).device.chip ≡ c.args.chip.now
    → (r : Result Bool Fault) (changed : Bool)
    → changed ≡ not (bytes_eq c.deref-2.result.now c.deref-3.result.now)
    → (IsSteady flashes c.args.journal.now (g.R.Rig.view c.read_range.new.rig)
    → (g.R.Rig.view c.read_range.new.rig).device.chip ≡ c.args.chip.now
    → c.deref-2.result.now
    ≡ page_of c.args.chip.now (g.R.Rig.view c.read_range.new.rig).device.flash c.args.n
    → Goes flashes (change_entries c.args.kept c.args.chip.now
    (g.R.Rig.view c.read_range.new.rig).device.flash c.args.n c.deref-3.result.now)
    c.change_page.new.journal (g.R.Rig.view c.read_range.new.rig)
    (g.R.Rig.view c.change_page.new.rig) r
    (λ y. (g.R.Rig.view c.change_page.new.rig).device.flash ≡ with_page c.args.chip.now c.args.n
    c.deref-3.result.now (g.R.Rig.view c.read_range.new.rig).device.flash))
    → let flash = (g.R.Rig.view c.args.rig.now).device.flash in
    let made = content c.args.chip.now c.args.change.now c.args.n
    (page_of c.args.chip.now flash c.args.n) in
    Goes flashes (change_entries c.args.kept c.args.chip.now flash c.args.n made)
    c.change_page.new.journal (g.R.Rig.view c.args.rig.now) (g.R.Rig.view c.change_page.new.rig) r
    (λ y. IsGiven c.args.chip.now c.args.n made flash
    (g.R.Rig.view c.change_page.new.rig).device.flash changed)
turned g c flashes steady chip r changed differs gives =
    let V = g.R.Rig.view in
    let k = c.args.chip.now in
    let n = c.args.n in
    let l = c.args.journal.now in
    let l2 = c.change_page.new.journal in
    let a = V c.args.rig.now in
    let b = V c.read_range.new.rig in
    let d = V c.change_page.new.rig in
    let made = content k c.args.change.now n in
    let asks = c.in_ok-held.ensures.honest steady.honest steady.settled chip in
    let first = asks_on c.step_laws.ensures flashes l a b steady c.in_ok-held.held asks in
    let model_b = g.met.R.Rig.model c.read_range.new.rig first.steady.honest in
    let still = ap (λ (x : Device). x.chip) asks.same ∙ chip in
    let flash_is = ap (λ (x : Device). x.flash) asks.same in
    let items_are : c.in_ok-held.held.items ≡ page_of k a.device.flash n =
    asks.done ∙ page_read k a.device.flash n c.page_start-start.result c.page_size-size.result
    c.page_start-start.ensures.address c.page_size-size.ensures.bytes in
    let held_is = c.deref-2.ensures.value ∙ items_are in
    let read = held_is ∙ sym (ap (λ (x : Device). page_of k x.flash n) asks.same) in
    let page_is : c.deref-3.result.now ≡ made (page_of k a.device.flash n) =
    is_made g c ∙ ap made held_is in
    let own = change_entries c.args.kept k b.device.flash n c.deref-3.result.now in
    let lines = ap₂ (λ (f p : List ℕ). change_entries c.args.kept k f n p) flash_is page_is in
    goes_as flashes own _ l2 a d r lines
    (goes_then flashes [] own l l2 a b d (tt {0}) r model_b first (gives first.steady still read)
    (λ y put. given_on k n a.device.flash b.device.flash d.device.flash c.deref-2.result.now
    c.deref-3.result.now (made (page_of k a.device.flash n)) changed flash_is held_is page_is put
    differs))

-- The exits.

pub returns-then-not-touches-clause-turned : goal.returns-then-not-touches-clause-turned
returns-then-not-touches-clause-turned g c = Rattle.stm_session.proofs.Changes.not_turned c.args.kept false c.args.chip.now c.args.n c.args.journal.now.state refl

pub returns-then-not-touches-clause-honest : goal.returns-then-not-touches-clause-honest
returns-then-not-touches-clause-honest g c flashes steady chip =
    let V = g.R.Rig.view in
    let a = V c.args.rig.now in
    let l = c.args.journal.now in
    let model = g.met.R.Rig.model c.args.rig.now steady.honest in
    let flash = a.device.flash in
    let size : length flash ≡ flash_size c.args.chip.now = model.device.size ∙ ap (λ (k : ChipData). flash_size k) chip in
    let page = page_of c.args.chip.now flash c.args.n in
    let made = content c.args.chip.now c.args.change.now c.args.n page in
    let same : made ≡ page = c.touches.ensures.same c.if-not-touches.true page (length-page_of c.args.chip.now flash c.args.n size) in
    goes_as flashes [] _ l a a _ (sym (same_lines_of c.args.kept c.args.chip.now flash c.args.n page made refl (sym same)))
    (goes_nowhere c.step_laws.ensures flashes l a false _ model steady
    (record { flash = page_held c.args.chip.now c.args.n made a.device model.device chip same; counts = told_same page made (sym same) }))

pub returns-in_err-held-clause-honest : goal.returns-in_err-held-clause-honest
returns-in_err-held-clause-honest g c flashes steady chip =
    let V = g.R.Rig.view in
    let a = V c.args.rig.now in
    let b = V c.read_range.new.rig in
    let l = c.args.journal.now in
    let made = content c.args.chip.now c.args.change.now c.args.n (page_of c.args.chip.now a.device.flash c.args.n) in
    asks_fail c.step_laws.ensures flashes l a b steady (change_entries c.args.kept c.args.chip.now a.device.flash c.args.n made) l _ c.from_residual.result
    (c.in_err-held.ensures.honest steady.honest steady.settled chip) c.from_residual.ensures.1

pub returns-in_err-page-clause-honest : goal.returns-in_err-page-clause-honest
returns-in_err-page-clause-honest g c flashes steady chip =
    let V = g.R.Rig.view in
    let a = V c.args.rig.now in
    let b = V c.read_range.new.rig in
    let l = c.args.journal.now in
    let made = content c.args.chip.now c.args.change.now c.args.n (page_of c.args.chip.now a.device.flash c.args.n) in
    goes_refused flashes [] (change_entries c.args.kept c.args.chip.now a.device.flash c.args.n made) l l a b (tt {0}) c.from_residual-in_err-page.result
    (asks_on c.step_laws.ensures flashes l a b steady c.in_ok-held.held (c.in_ok-held.ensures.honest steady.honest steady.settled chip)) c.from_residual-in_err-page.ensures.1

pub returns-in_err-changed-clause-honest : goal.returns-in_err-changed-clause-honest
returns-in_err-changed-clause-honest g c flashes steady chip =
    let V = g.R.Rig.view in
    let k = c.args.chip.now in
    let n = c.args.n in
    let a = V c.args.rig.now in
    let l2 = c.change_page.new.journal in
    let made = content k c.args.change.now n (page_of k a.device.flash n) in
    let last = (goal.at.returns-in_err-changed-clause-honest g c).After-change_page in
    goes_fault flashes (change_entries c.args.kept k a.device.flash n made) l2 l2 a
    (V c.change_page.new.rig) _ c.from_residual-in_err-changed.result
    (turned g last flashes steady chip _ _ refl
    (λ steady chip read. c.in_err-changed.ensures.performs.honest flashes steady (chip, read)))
    c.from_residual-in_err-changed.ensures.1

pub returns-clause-honest : goal.returns-clause-honest
returns-clause-honest g c flashes steady chip =
    let V = g.R.Rig.view in
    let k = c.args.chip.now in
    let n = c.args.n in
    let a = V c.args.rig.now in
    let made = content k c.args.change.now n (page_of k a.device.flash n) in
    let last = (goal.at.returns-clause-honest g c).After-change_page in
    goes_ok flashes (change_entries c.args.kept k a.device.flash n made) c.change_page.new.journal a
    (V c.change_page.new.rig) c.in_ok-changed.changed c.in_ok-changed.changed
    (turned g last flashes steady chip _ c.in_ok-changed.changed c.in_ok-changed.ensures.changed
    (λ steady chip read. c.in_ok-changed.ensures.performs.honest flashes steady (chip, read)))
    (λ given. given)

pub returns-then-not-touches-clause-order : goal.returns-then-not-touches-clause-order
returns-then-not-touches-clause-order g c =
    let left : IsTurnOf c.args.kept c.args.chip.now c.args.change.now c.args.n false [] = inl (record { same = c.touches.ensures.same c.if-not-touches.true; unchanged = refl; is = refl }) in
    ([], (left, tt), does_nothing c.args.journal.now (g.R.Rig.view c.args.rig.now))

pub returns-clause-order : goal.returns-clause-order
returns-clause-order g c =
    let V = g.R.Rig.view in
    let chip = c.args.chip.now in
    let n = c.args.n in
    let l = c.args.journal.now in
    let held = c.deref-2.result.now in
    let reads = page_reads chip n held in
    let read =
    was_read g (goal.at.returns-clause-order g c).After-content held c.deref-2.ensures.value in
    let last = (goal.at.returns-clause-order g c).After-change_page in
    let page_is = is_made g last in
    let later = c.in_ok-changed.ensures.performs.order in
    let steps = reads ++ later.0 in
    let P : List ℕ → Type 0 = λ p. IsChanged c.args.kept chip n held p later.0 in
    let counts = c.in_ok-changed.ensures.changed
    ∙ ap (λ (p : List ℕ). not (bytes_eq held p)) page_is in
    let turned : IsTurnOf c.args.kept chip c.args.change.now n c.in_ok-changed.changed steps =
    inr (record {
      may = c.touches.ensures.may c.if-not-touches.false;
      held = held;
      size = held_size g last;
      counts = counts;
      later = later.0;
      is_changed = subst P page_is later.1;
      is = refl;
    }) in (
      steps,
      (turned, keep_turn c.change_page.new.journal.state c.args.kept chip c.args.change.now n c.in_ok-changed.changed steps c.in_ok-changed.ensures.turned.keeps turned),
      does_then reads later.0 l l c.change_page.new.journal (V c.args.rig.now)
          (V c.read_range.new.rig) (V c.change_page.new.rig) read later.2,
    )

pub returns-in_err-held-clause-stops : goal.returns-in_err-held-clause-stops
returns-in_err-held-clause-stops g c =
    let V = g.R.Rig.view in
    let chip = c.args.chip.now in
    let n = c.args.n in
    let some = some_turn c.args.kept chip c.args.change.now n
    (c.touches.ensures.may c.if-not-touches.false) in
    read_stops chip n c.page_start-start.result c.page_size-size.result c.requires.exists
    c.page_start-start.ensures.address c.page_size-size.ensures.bytes
    (IsPageTurn c.args.kept chip c.args.change.now n) c.args.journal.now.is_torn (V c.args.rig.now)
    (V c.read_range.new.rig) _ c.from_residual.result c.from_residual.ensures.1
    c.page_size-size.ensures.blocks.1 some c.in_err-held.ensures.order_stops

pub returns-in_err-page-clause-stops : goal.returns-in_err-page-clause-stops
returns-in_err-page-clause-stops g c =
    let V = g.R.Rig.view in
    let chip = c.args.chip.now in
    let n = c.args.n in
    let held = c.in_ok-held.held.items in
    let many : length held ≡ page_size chip n = search rules in
    let read = was_read g (goal.at.returns-in_err-page-clause-stops g c).After-content held refl in
    let some = some_turn c.args.kept chip c.args.change.now n
    (c.touches.ensures.may c.if-not-touches.false) held many in
    memory_stops (Begin (IsPageTurn c.args.kept chip c.args.change.now n)) c.args.journal.now.is_torn
    (page_reads chip n held) (V c.args.rig.now) (V c.read_range.new.rig)
    c.from_residual-in_err-page.result c.from_residual-in_err-page.ensures.1 some read.acts

pub returns-in_err-changed-clause-stops : goal.returns-in_err-changed-clause-stops
returns-in_err-changed-clause-stops g c =
    let V = g.R.Rig.view in
    let chip = c.args.chip.now in
    let n = c.args.n in
    let l = c.args.journal.now in
    let held = c.deref-2.result.now in
    let page = c.deref-3.result.now in
    let reads = page_reads chip n held in
    let here = (goal.at.returns-in_err-changed-clause-stops g c).After-content in
    let last = (goal.at.returns-in_err-changed-clause-stops g c).After-change_page in
    let Made = IsChanged c.args.kept chip n held page in
    let Turn = IsPageTurn c.args.kept chip c.args.change.now n in
    then_stops (Begin Made) (Begin Turn) reads l l (V c.args.rig.now) (V c.read_range.new.rig)
    (V c.change_page.new.rig) _ c.from_residual-in_err-changed.result
    c.from_residual-in_err-changed.ensures.1 (was_read g here held c.deref-2.ensures.value)
    c.in_err-changed.ensures.performs.stops
    (begin_after Made Turn reads (λ ys changed. turn_of c.args.kept chip c.args.change.now n held
    page ys (c.touches.ensures.may c.if-not-touches.false) (held_size g last) (is_made g last)
    changed))
