use Rattle.std.proofs.Common.{◌≡◌, ◌∙◌, ◌++◌, ◌∷◌, [], List, ℕ, Result, None, Ok, refl, sym, ap, subst}
use Rattle.stm_wire.proofs.Names.{Call}
use Rattle.stm_journal.proofs.Names.{intent_of, newest_keeps}
use Rattle.stm_session.proofs.Names.{acts_of, AreCutShort, AreRewritten, BeginTold, beside, cause_of, Fault, Goes, IsInOrder, IsRewritten, IsSteady, kept_at_work, kept_of, pages_at_work, state_at}
use Rattle.stm_session.proofs.Names.{ToldIn, with_work, work_entries}
use Rattle.stm_session.proofs.CutShort.{part_stops, then_stops}
use Rattle.stm_session.proofs.Exits.{goes_fault}
use Rattle.stm_session.proofs.Going.{at_exit, goes_as, goes_failed, goes_nowhere, goes_ok, goes_then}
use Rattle.stm_session.proofs.GoingAll.{work_intends}
use Rattle.stm_session.proofs.Keeping.{keeps_text}
use Rattle.stm_session.proofs.Orders.{does_then}
use Rattle.stm_session.proofs.Settlings.{intent_text}
use Rattle.stm_session.proofs.Tellings.{rewritten_as, work_as}
use Rattle.stm_session.proofs.ToldPages.{told_on, told_then}
use Rattle.stm_session.proofs.UndoOrders.{first_begun, others_begun}
use Rattle.stm_session.proofs.Work.{no_pages, work-flash, work-lines, work_kept, work_pages}
use Rattle.stm_session.proofs.page_at_work.rewrite_at_work.Given as given
use Rattle.stm_session.proofs.page_at_work.rewrite_at_work.Goals as goal
use Rattle.stm_session.proofs.page_at_work.rewrite_at_work.Goals.{After-rewrite_beside}

-- The pages at work: that of the intent, and what is beside it once that is written.
pages_are : (g : given.Over) (c : goal.After-rewrite_beside g)
    → pages_at_work c.args.journal.now.state.stack
    ≡ c.intent_page-n.result
    ∷ beside c.intent_page-n.result (newest_keeps 257 c.rewrite_newest.new.journal.state)
pages_are g c =
    work_pages c.args.journal.now.state.stack c.in-Some.intent c.intent_page-n.result
    (newest_keeps 257 c.rewrite_newest.new.journal.state) (sym c.in-Some.ensures)
    c.intent_page-n.ensures (c.in_ok-rewrite_newest.ensures.same.keeps 257)

-- The lines are those of the pages at work, whatever rewrite_beside answers.
rewritten : (g : given.Over) (c : goal.After-rewrite_beside g) (flashes : List (List ℕ))
    → IsSteady flashes c.args.journal.now (g.R.Rig.view c.args.rig.now)
    → (g.R.Rig.view c.args.rig.now).device.chip ≡ c.args.chip.now → (r : Result (Unit {0}) Fault)
    → (IsSteady flashes c.rewrite_newest.new.journal (g.R.Rig.view c.rewrite_newest.new.rig)
    → (g.R.Rig.view c.rewrite_newest.new.rig).device.chip ≡ c.args.chip.now
    → let pages = beside c.intent_page-n.result
    (newest_keeps 257 c.rewrite_newest.new.journal.state) in
    let kept = kept_of (state_at (g.R.Rig.view c.rewrite_newest.new.rig).journal).stack pages in
    Goes flashes (work_entries c.args.chip.now kept) c.rewrite_beside.new.journal
    (g.R.Rig.view c.rewrite_newest.new.rig) (g.R.Rig.view c.rewrite_beside.new.rig) r
    (λ y. (g.R.Rig.view c.rewrite_beside.new.rig).device.flash ≡ with_work c.args.chip.now kept
    (g.R.Rig.view c.rewrite_newest.new.rig).device.flash))
    → let work = kept_at_work (state_at (g.R.Rig.view c.args.rig.now).journal).stack in
    Goes flashes (work_entries c.args.chip.now work) c.rewrite_beside.new.journal
    (g.R.Rig.view c.args.rig.now) (g.R.Rig.view c.rewrite_beside.new.rig) r
    (λ y. (g.R.Rig.view c.rewrite_beside.new.rig).device.flash ≡ with_work c.args.chip.now work
    (g.R.Rig.view c.args.rig.now).device.flash)
rewritten g c flashes steady chip_is r gives =
    let V = g.R.Rig.view in
    let chip = c.args.chip.now in
    let l = c.args.journal.now in
    let l2 = c.rewrite_newest.new.journal in
    let l3 = c.rewrite_beside.new.journal in
    let a = V c.args.rig.now in
    let b = V c.rewrite_newest.new.rig in
    let d = V c.rewrite_beside.new.rig in
    let n = c.intent_page-n.result in
    let k = newest_keeps 257 l2.state in
    let before = (state_at a.journal).stack in
    let behind_it = (state_at b.journal).stack in
    let one = kept_of before (n ∷ []) in
    let other = kept_of behind_it (beside n k) in
    let work = kept_at_work before in
    let first = c.in_ok-rewrite_newest.ensures.honest flashes steady chip_is in
    let model = g.met.R.Rig.model c.rewrite_newest.new.rig first.honest in
    let still = (at_exit _ a b model first.moments).make.chip ∙ chip_is in
    let same = (first.lines.same (work_intends chip one)).same in
    let work_is = work_kept before behind_it c.in-Some.intent n k
    (sym (intent_text l a.journal steady.loaded) ∙ sym c.in-Some.ensures) c.intent_page-n.ensures
    (c.in_ok-rewrite_newest.ensures.same.keeps 257 ∙ keeps_text l a.journal 257 steady.loaded)
    same in
    goes_as flashes (work_entries chip one ++ work_entries chip other) (work_entries chip work) l3 a
    d r (work-lines chip one other work work_is)
    (goes_then flashes (work_entries chip one) (work_entries chip other) l2 l3 a b d (tt {0}) r
    model first (gives first.steady still)
    (λ y done. done ∙ ap (λ (flash : List ℕ). with_work chip other flash) first.done
    ∙ work-flash chip one other work a.device.flash work_is))

pub returns-in_default-clause-honest : goal.returns-in_default-clause-honest
returns-in_default-clause-honest g c flashes steady chip =
    let V = g.R.Rig.view in
    let l = c.args.journal.now in
    let a = V c.args.rig.now in
    let stack = (state_at a.journal).stack in
    let none : intent_of l.state ≡ None = sym c.last_intent.ensures ∙ c.in_default.is in
    let nothing = no_pages stack (sym (intent_text l a.journal steady.loaded) ∙ none) in
    let P : List ℕ → Type 0 = λ ns. let kept = kept_of stack ns in
    Goes {T = Unit {0}} flashes (work_entries c.args.chip.now kept) l a a (Ok (tt {0}))
    (λ x. a.device.flash ≡ with_work c.args.chip.now kept a.device.flash) in
    subst P (sym nothing) (goes_nowhere c.step_laws.ensures flashes l a (tt {0}) (λ x. a.device.flash ≡ a.device.flash) (g.met.R.Rig.model c.args.rig.now steady.honest) steady refl)

pub returns-in_err-rewrite_newest-clause-honest : goal.returns-in_err-rewrite_newest-clause-honest
returns-in_err-rewrite_newest-clause-honest g c flashes steady chip_is =
    let V = g.R.Rig.view in
    let chip = c.args.chip.now in
    let l = c.args.journal.now in
    let l2 = c.rewrite_newest.new.journal in
    let a = V c.args.rig.now in
    let b = V c.rewrite_newest.new.rig in
    let n = c.intent_page-n.result in
    let k = newest_keeps 257 l.state in
    let before = (state_at a.journal).stack in
    let one = kept_of before (n ∷ []) in
    let other = kept_of before (beside n k) in
    let work = kept_at_work before in
    let work_is = work_kept before before c.in-Some.intent n k
    (sym (intent_text l a.journal steady.loaded) ∙ sym c.in-Some.ensures) c.intent_page-n.ensures
    (keeps_text l a.journal 257 steady.loaded) refl in
    goes_as flashes (work_entries chip one ++ work_entries chip other) (work_entries chip work) l2 a
    b c.from_residual.result (work-lines chip one other work work_is)
    (goes_failed flashes (work_entries chip one) (work_entries chip other) l2 l2 a b _
    c.from_residual.result (c.in_err-rewrite_newest.ensures.honest flashes steady chip_is) c.from_residual.ensures.1)

pub returns-in_err-rewrite_beside-clause-honest : goal.returns-in_err-rewrite_beside-clause-honest
returns-in_err-rewrite_beside-clause-honest g c flashes steady chip =
    let V = g.R.Rig.view in
    let a = V c.args.rig.now in
    let l3 = c.rewrite_beside.new.journal in
    let work = kept_at_work (state_at a.journal).stack in
    let last = (goal.at.returns-in_err-rewrite_beside-clause-honest g c).After-rewrite_beside in
    goes_fault flashes (work_entries c.args.chip.now work) l3 l3 a (V c.rewrite_beside.new.rig) _
    c.from_residual-in_err-rewrite_beside.result
    (rewritten g last flashes steady chip _ (c.in_err-rewrite_beside.ensures.honest flashes))
    c.from_residual-in_err-rewrite_beside.ensures.1

pub returns-clause-honest : goal.returns-clause-honest
returns-clause-honest g c flashes steady chip =
    let V = g.R.Rig.view in
    let a = V c.args.rig.now in
    let work = kept_at_work (state_at a.journal).stack in
    let last = (goal.at.returns-clause-honest g c).After-rewrite_beside in
    goes_ok flashes (work_entries c.args.chip.now work) c.rewrite_beside.new.journal a
    (V c.rewrite_beside.new.rig) _ (tt {0})
    (rewritten g last flashes steady chip _ (c.in_ok-rewrite_beside.ensures.honest flashes))
    (λ p. p)

pub returns-clause-order : goal.returns-clause-order
returns-clause-order g c =
    let V = g.R.Rig.view in
    let chip = c.args.chip.now in
    let l = c.args.journal.now in
    let l2 = c.rewrite_newest.new.journal in
    let l3 = c.rewrite_beside.new.journal in
    let a = V c.args.rig.now in
    let b = V c.rewrite_newest.new.rig in
    let d = V c.rewrite_beside.new.rig in
    let n = c.intent_page-n.result in
    let others = beside n (newest_keeps 257 l2.state) in
    let first = c.in_ok-rewrite_newest.ensures.order in
    let rest = c.in_ok-rewrite_beside.ensures.order in
    let First = ToldIn V l.is_torn a b in
    let Own = ToldIn V l2.is_torn b d in
    let Told = ToldIn V l.is_torn a d in
    let one = rewritten_as chip First Told n first.0 (told_on V (λ calls. IsInOrder l2.is_torn rest.0 calls) l.is_torn a b d rest.2.acts) first.1 in
    let more = work_as chip Own (λ steps page. Told (first.0 ++ steps) page) others rest.0 (told_then V first.0 l l2 a b d first.2) rest.1 in
    let last = (goal.at.returns-clause-order g c).After-rewrite_beside in
    let P : List ℕ → Type 0 = λ pages. AreRewritten chip Told pages (first.0 ++ rest.0) in
    let all : AreRewritten chip Told (n ∷ others) (first.0 ++ rest.0) =
    (first.0, rest.0, refl, one, more) in
    (first.0 ++ rest.0, subst P (sym (pages_are g last)) all, does_then first.0 rest.0 l l2 l3 a b d first.2 rest.2)

pub returns-in_err-rewrite_newest-clause-stops : goal.returns-in_err-rewrite_newest-clause-stops
returns-in_err-rewrite_newest-clause-stops g c =
    let V = g.R.Rig.view in
    let chip = c.args.chip.now in
    let l = c.args.journal.now in
    let a = V c.args.rig.now in
    let b = V c.rewrite_newest.new.rig in
    let n = c.intent_page-n.result in
    let k = newest_keeps 257 l.state in
    let Told = ToldIn V l.is_torn a b in
    let is = work_pages l.state.stack c.in-Some.intent n k (sym c.in-Some.ensures)
    c.intent_page-n.ensures refl in
    part_stops (BeginTold (λ T. IsRewritten chip T n) Told)
    (BeginTold (λ T. AreRewritten chip T (pages_at_work l.state.stack)) Told) l.is_torn a b _
    c.from_residual.result c.from_residual.ensures.1 (λ xs one.
    let P : List ℕ → Type 0 = λ pages. BeginTold (λ T. AreRewritten chip T pages) Told xs in
    subst P (sym is) (first_begun chip Told n (beside n k) xs one)) c.in_err-rewrite_newest.ensures.stops

pub returns-in_err-rewrite_beside-clause-stops : goal.returns-in_err-rewrite_beside-clause-stops
returns-in_err-rewrite_beside-clause-stops g c =
    let V = g.R.Rig.view in
    let chip = c.args.chip.now in
    let l = c.args.journal.now in
    let l2 = c.rewrite_newest.new.journal in
    let a = V c.args.rig.now in
    let b = V c.rewrite_newest.new.rig in
    let d = V c.rewrite_beside.new.rig in
    let n = c.intent_page-n.result in
    let others = beside n (newest_keeps 257 l2.state) in
    let first = c.in_ok-rewrite_newest.ensures.order in
    let First = ToldIn V l.is_torn a b in
    let Own = ToldIn V l2.is_torn b d in
    let Told = ToldIn V l.is_torn a d in
    let Rest = BeginTold (λ T. AreRewritten chip T others) Own in
    let cause = cause_of c.in_err-rewrite_beside.field-0.0 in
    let Cut : List Call → Type 0 = λ calls. AreCutShort Rest cause l2.is_torn (acts_of calls) in
    let last = (goal.at.returns-in_err-rewrite_beside-clause-stops g c).After-rewrite_beside in
    then_stops Rest (BeginTold (λ T. AreRewritten chip T (pages_at_work l.state.stack)) Told) first.0
    l l2 a b d _ c.from_residual-in_err-rewrite_beside.result
    c.from_residual-in_err-rewrite_beside.ensures.1 first.2 c.in_err-rewrite_beside.ensures.stops (λ ys begun.
    let P : List ℕ → Type 0 =
    λ pages. BeginTold (λ T. AreRewritten chip T pages) Told (first.0 ++ ys) in
    subst P (sym (pages_are g last))
    (others_begun chip First Own Told n others first.0
    (told_on V Cut l.is_torn a b d c.in_err-rewrite_beside.ensures.stops)
    (told_then V first.0 l l2 a b d first.2) first.1 ys begun))
