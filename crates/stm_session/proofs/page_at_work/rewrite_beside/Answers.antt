use Rattle.std.proofs.Common.{◌≡◌, ◌∷◌, [], List, ℕ, Ok, Result, refl, sym, subst, arith, append-nil}
use Rattle.stm_journal.proofs.Names.{newest_keeps}
use Rattle.stm_session.proofs.Names.{AreRewritten, BeginTold, beside, Fault, Goes, IsRewritten, IsSteady, kept_of, state_at, Step, ToldIn, with_work, work_entries}
use Rattle.stm_session.proofs.CutShort.{part_stops}
use Rattle.stm_session.proofs.Exits.{goes_fault}
use Rattle.stm_session.proofs.Going.{goes_nowhere, goes_ok}
use Rattle.stm_session.proofs.Orders.{does_nothing}
use Rattle.stm_session.proofs.UndoOrders.{first_begun}
use Rattle.stm_session.proofs.Work.{lacks_beside, no_place_keeps, none_beside, one_beside, place_keeps}
use Rattle.stm_session.proofs.page_at_work.rewrite_beside.Given as given
use Rattle.stm_session.proofs.page_at_work.rewrite_beside.Goals as goal
use Rattle.stm_session.proofs.page_at_work.rewrite_beside.Goals.{After-rewrite_newest, Start}

-- where the page is another than page 1, or page 257 isn't kept, there is nothing beside it
nothing : (g : given.Over) (c : goal.Start g) (pages : List ℕ) (flashes : List (List ℕ))
    → pages ≡ []
    → IsSteady flashes c.args.journal.now (g.R.Rig.view c.args.rig.now)
    → Goes {T = Unit {0}} flashes [] c.args.journal.now (g.R.Rig.view c.args.rig.now)
    (g.R.Rig.view c.args.rig.now) (Ok (tt {0}))
    (λ y. (g.R.Rig.view c.args.rig.now).device.flash ≡ (g.R.Rig.view c.args.rig.now).device.flash)
    → let kept = kept_of (state_at (g.R.Rig.view c.args.rig.now).journal).stack pages in
    Goes {T = Unit {0}} flashes (work_entries c.args.chip.now kept) c.args.journal.now
    (g.R.Rig.view c.args.rig.now) (g.R.Rig.view c.args.rig.now) (Ok (tt {0}))
    (λ y. (g.R.Rig.view c.args.rig.now).device.flash ≡ with_work c.args.chip.now kept
    (g.R.Rig.view c.args.rig.now).device.flash)
nothing g c pages flashes none steady goes =
    let l = c.args.journal.now in
    let a = g.R.Rig.view c.args.rig.now in
    let P : List ℕ → Type 0 = λ ns. let kept = kept_of (state_at a.journal).stack ns in
    Goes {T = Unit {0}} flashes (work_entries c.args.chip.now kept) l a a (Ok (tt {0}))
    (λ y. a.device.flash ≡ with_work c.args.chip.now kept a.device.flash) in
    subst P (sym none) goes

-- where it is page 1, and page 257 is kept, that is beside it
both : (g : given.Over) (c : goal.After-rewrite_newest g)
    → beside c.args.n (newest_keeps 257 c.args.journal.now.state) ≡ 257 ∷ []
both g c =
    let s = c.args.journal.now.state in
    one_beside c.args.n (newest_keeps 257 s) (omega (arith, c.if-n-ne1.false))
    (place_keeps s c.depth-newest.result 257 _ c.depth-newest.ensures.value c.in-Some.ensures.place)

-- it goes as page 257 does
goes_beside : (g : given.Over) (c : goal.After-rewrite_newest g) (flashes : List (List ℕ))
    (r : Result (Unit {0}) Fault)
    → (let kept = kept_of (state_at (g.R.Rig.view c.args.rig.now).journal).stack (257 ∷ []) in
    Goes flashes (work_entries c.args.chip.now kept) c.rewrite_newest.new.journal
    (g.R.Rig.view c.args.rig.now) (g.R.Rig.view c.rewrite_newest.new.rig) r
    (λ y. (g.R.Rig.view c.rewrite_newest.new.rig).device.flash ≡ with_work c.args.chip.now kept
    (g.R.Rig.view c.args.rig.now).device.flash))
    → let pages = beside c.args.n (newest_keeps 257 c.args.journal.now.state) in
    let kept = kept_of (state_at (g.R.Rig.view c.args.rig.now).journal).stack pages in
    Goes flashes (work_entries c.args.chip.now kept) c.rewrite_newest.new.journal
    (g.R.Rig.view c.args.rig.now) (g.R.Rig.view c.rewrite_newest.new.rig) r
    (λ y. (g.R.Rig.view c.rewrite_newest.new.rig).device.flash ≡ with_work c.args.chip.now kept
    (g.R.Rig.view c.args.rig.now).device.flash)
goes_beside g c flashes r goes =
    let a = g.R.Rig.view c.args.rig.now in
    let b = g.R.Rig.view c.rewrite_newest.new.rig in
    let P : List ℕ → Type 0 = λ ns. let kept = kept_of (state_at a.journal).stack ns in
    Goes {T = Unit {0}} flashes (work_entries c.args.chip.now kept) c.rewrite_newest.new.journal a b
    r (λ y. b.device.flash ≡ with_work c.args.chip.now kept a.device.flash) in
    subst P (sym (both g c)) goes

pub rewrite_newest-requires-clause-kept : goal.rewrite_newest-requires-clause-kept
rewrite_newest-requires-clause-kept g c = place_keeps c.args.journal.now.state c.depth-newest.result 257 _ c.depth-newest.ensures.value c.in-Some.ensures.place

pub returns-then-n-ne1-clause-honest : goal.returns-then-n-ne1-clause-honest
returns-then-n-ne1-clause-honest g c flashes steady chip =
    let l = c.args.journal.now in
    let a = g.R.Rig.view c.args.rig.now in
    let pages = beside c.args.n (newest_keeps 257 l.state) in
    let none = none_beside c.args.n (newest_keeps 257 l.state) (λ one. absurd (omega (arith, one, c.if-n-ne1.true))) in
    nothing g (goal.at.returns-then-n-ne1-clause-honest g c).Start pages flashes none steady
    (goes_nowhere c.step_laws.ensures flashes l a (tt {0}) (λ x. a.device.flash ≡ a.device.flash)
    (g.met.R.Rig.model c.args.rig.now steady.honest) steady refl)

pub returns-in_default-clause-honest : goal.returns-in_default-clause-honest
returns-in_default-clause-honest g c flashes steady chip =
    let l = c.args.journal.now in
    let a = g.R.Rig.view c.args.rig.now in
    let k = newest_keeps 257 l.state in
    let none = lacks_beside c.args.n k (no_place_keeps l.state c.depth-newest.result 257 c.depth-newest.ensures.value c.in_default.ensures.place) in
    nothing g (goal.at.returns-in_default-clause-honest g c).Start (beside c.args.n k) flashes none
    steady (goes_nowhere c.step_laws.ensures flashes l a (tt {0})
    (λ x. a.device.flash ≡ a.device.flash) (g.met.R.Rig.model c.args.rig.now steady.honest) steady refl)

pub returns-in_default-clause-order : goal.returns-in_default-clause-order
returns-in_default-clause-order g c =
    let l = c.args.journal.now in
    let a = g.R.Rig.view c.args.rig.now in
    let Told = ToldIn g.R.Rig.view l.is_torn a a in
    let k = newest_keeps 257 l.state in
    let none = lacks_beside c.args.n k (no_place_keeps l.state c.depth-newest.result 257 c.depth-newest.ensures.value c.in_default.ensures.place) in
    let nil : List Step = [] in
    let P : List ℕ → Type 0 = λ pages. AreRewritten c.args.chip.now Told pages nil in
    (nil, subst P (sym none) refl, does_nothing l a)

pub returns-in_err-rewrite_newest-clause-honest : goal.returns-in_err-rewrite_newest-clause-honest
returns-in_err-rewrite_newest-clause-honest g c flashes steady chip =
    let V = g.R.Rig.view in
    let a = V c.args.rig.now in
    let l2 = c.rewrite_newest.new.journal in
    let pages = beside c.args.n (newest_keeps 257 c.args.journal.now.state) in
    let kept = kept_of (state_at a.journal).stack pages in
    let last = (goal.at.returns-in_err-rewrite_newest-clause-honest g c).After-rewrite_newest in
    goes_fault flashes (work_entries c.args.chip.now kept) l2 l2 a (V c.rewrite_newest.new.rig) _
    c.from_residual.result
    (goes_beside g last flashes _ (c.in_err-rewrite_newest.ensures.honest flashes steady chip))
    c.from_residual.ensures.1

pub returns-clause-honest : goal.returns-clause-honest
returns-clause-honest g c flashes steady chip =
    let V = g.R.Rig.view in
    let a = V c.args.rig.now in
    let pages = beside c.args.n (newest_keeps 257 c.args.journal.now.state) in
    let kept = kept_of (state_at a.journal).stack pages in
    let last = (goal.at.returns-clause-honest g c).After-rewrite_newest in
    goes_ok flashes (work_entries c.args.chip.now kept) c.rewrite_newest.new.journal a
    (V c.rewrite_newest.new.rig) _ (tt {0})
    (goes_beside g last flashes _ (c.in_ok-rewrite_newest.ensures.honest flashes steady chip)) (λ p. p)

pub returns-clause-order : goal.returns-clause-order
returns-clause-order g c =
    let V = g.R.Rig.view in
    let l = c.args.journal.now in
    let a = V c.args.rig.now in
    let b = V c.rewrite_newest.new.rig in
    let Told = ToldIn V l.is_torn a b in
    let own = c.in_ok-rewrite_newest.ensures.order in
    let last = (goal.at.returns-clause-order g c).After-rewrite_newest in
    let P : List ℕ → Type 0 = λ pages. AreRewritten c.args.chip.now Told pages own.0 in
    let nil : List Step = [] in
    let one : AreRewritten c.args.chip.now Told (257 ∷ []) own.0 =
    (own.0, nil, sym (append-nil own.0), own.1, refl) in
    (own.0, subst P (sym (both g last)) one, own.2)

pub returns-in_err-rewrite_newest-clause-stops : goal.returns-in_err-rewrite_newest-clause-stops
returns-in_err-rewrite_newest-clause-stops g c =
    let V = g.R.Rig.view in
    let chip = c.args.chip.now in
    let torn = c.args.journal.now.is_torn in
    let a = V c.args.rig.now in
    let b = V c.rewrite_newest.new.rig in
    let Told = ToldIn V torn a b in
    let pages = beside c.args.n (newest_keeps 257 c.args.journal.now.state) in
    let last = (goal.at.returns-in_err-rewrite_newest-clause-stops g c).After-rewrite_newest in
    part_stops (BeginTold (λ T. IsRewritten chip T 257) Told)
    (BeginTold (λ T. AreRewritten chip T pages) Told) torn a b _ c.from_residual.result
    c.from_residual.ensures.1 (λ xs one.
    let P : List ℕ → Type 0 = λ ns. BeginTold (λ T. AreRewritten chip T ns) Told xs in
    subst P (sym (both g last)) (first_begun chip Told 257 [] xs one)) c.in_err-rewrite_newest.ensures.stops
