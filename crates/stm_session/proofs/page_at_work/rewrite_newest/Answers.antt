use Rattle.std.proofs.Common.{◌≡◌, ◌∙◌, ◌∷◌, [], List, ℕ, Result, Some, sym, subst, append-nil}
use Rattle.stm_wire.proofs.Names.{with_page}
use Rattle.stm_journal.specs.declared.kept.Kept.{Kept}
use Rattle.stm_journal.proofs.Names.{kept_entry, place_of}
use Rattle.stm_journal.specs.lemmas.NewestLaws.{KeepsSame-refl}
use Rattle.stm_session.proofs.Names.{Fault, Goes, IsSteady, kept_of, rewrite_entries, state_at, with_work, work_entries}
use Rattle.stm_session.proofs.Exits.{goes_fault}
use Rattle.stm_session.proofs.Going.{goes_as, goes_ok}
use Rattle.stm_session.proofs.Keeping.{depth_text, good_at}
use Rattle.stm_session.proofs.Returns.{kept_in_text, number_exists, place_fits}
use Rattle.stm_session.proofs.Work.{kept_is, stands_at}
use Rattle.stm_session.proofs.page_at_work.rewrite_newest.Given as given
use Rattle.stm_session.proofs.page_at_work.rewrite_newest.Goals as goal
use Rattle.stm_session.proofs.page_at_work.rewrite_newest.Goals.{After-rewrite_line}

-- The lines are those of the kept page, whatever rewrite_line answers.
rewritten : (g : given.Over) (c : goal.After-rewrite_line g) (flashes : List (List ℕ))
    → IsSteady flashes c.args.journal.now (g.R.Rig.view c.args.rig.now)
    → (g.R.Rig.view c.args.rig.now).device.chip ≡ c.args.chip.now → (r : Result (Unit {0}) Fault)
    → ((k i : ℕ) (kept : Kept) → IsSteady flashes c.args.journal.now (g.R.Rig.view c.args.rig.now)
    → (g.R.Rig.view c.args.rig.now).device.chip ≡ c.args.chip.now
    → kept_entry (state_at (g.R.Rig.view c.args.rig.now).journal) k i ≡ Some kept
    → place_of kept ≡ c.in-Some.place → kept.page ≡ c.args.n
    → Goes flashes (rewrite_entries c.args.chip.now kept.page kept.bytes)
    c.rewrite_line.new.journal (g.R.Rig.view c.args.rig.now) (g.R.Rig.view c.rewrite_line.new.rig) r
    (λ y. (g.R.Rig.view c.rewrite_line.new.rig).device.flash ≡ with_page c.args.chip.now kept.page
    kept.bytes (g.R.Rig.view c.args.rig.now).device.flash))
    → let kept = kept_of (state_at (g.R.Rig.view c.args.rig.now).journal).stack (c.args.n ∷ []) in
    Goes flashes (work_entries c.args.chip.now kept) c.rewrite_line.new.journal
    (g.R.Rig.view c.args.rig.now) (g.R.Rig.view c.rewrite_line.new.rig) r
    (λ y. (g.R.Rig.view c.rewrite_line.new.rig).device.flash ≡ with_work c.args.chip.now kept
    (g.R.Rig.view c.args.rig.now).device.flash)
rewritten g c flashes steady chip r gives =
    let V = g.R.Rig.view in
    let l = c.args.journal.now in
    let l2 = c.rewrite_line.new.journal in
    let a = V c.args.rig.now in
    let b = V c.rewrite_line.new.rig in
    let newest = c.depth-newest.result in
    let n = c.args.n in
    let place = c.in-Some.place in
    let is = c.depth-newest.ensures.value in
    let line = stands_at l.state newest n is c.requires.kept in
    let there = kept_in_text l a.journal newest line.i n _ place steady.loaded
    (line.place place c.in-Some.ensures.place) line.number in
    let kept : Kept = there.0 in
    let state = state_at a.journal in
    let once =
    (c.step_laws.ensures.sound a.journal state (good_at l a.journal steady.loaded)).once in
    let found = kept_is state newest line.i n kept
    (is ∙ depth_text l a.journal steady.loaded) once there.1 there.3 in
    let own = rewrite_entries c.args.chip.now kept.page kept.bytes in
    let one : List Kept = kept ∷ [] in
    let P : List Kept → Type 0 = λ o. Goes {T = Unit {0}} flashes
    (work_entries c.args.chip.now o) l2 a b r
    (λ x. b.device.flash ≡ with_work c.args.chip.now o a.device.flash) in
    subst P (sym found)
    (goes_as flashes own (work_entries c.args.chip.now one) l2 a b r (sym (append-nil own))
    (gives newest line.i kept steady chip there.1 there.2 there.3))

pub unreachable-requires : goal.unreachable-requires
unreachable-requires g c =
    let line = stands_at c.args.journal.now.state c.depth-newest.result c.args.n
    c.depth-newest.ensures.value c.requires.kept in
    line.somewhere c.in_default.ensures.place

pub rewrite_line-requires-clause-exists : goal.rewrite_line-requires-clause-exists
rewrite_line-requires-clause-exists g c =
    let s = c.args.journal.now.state in
    let newest = c.depth-newest.result in
    let is = c.depth-newest.ensures.value in
    let line = stands_at s newest c.args.n is c.requires.kept in
    number_exists s s newest line.i (KeepsSame-refl s) is line.within c.args.chip.now c.args.n _
    c.requires.fits line.number

pub rewrite_line-requires-clause-size : goal.rewrite_line-requires-clause-size
rewrite_line-requires-clause-size g c =
    let s = c.args.journal.now.state in
    let newest = c.depth-newest.result in
    let is = c.depth-newest.ensures.value in
    let line = stands_at s newest c.args.n is c.requires.kept in
    place_fits s s newest line.i (KeepsSame-refl s) is line.within c.args.chip.now c.args.n _
    c.requires.fits line.number c.in-Some.place (line.place c.in-Some.place c.in-Some.ensures.place)

pub returns-in_err-rewrite_line-clause-honest : goal.returns-in_err-rewrite_line-clause-honest
returns-in_err-rewrite_line-clause-honest g c flashes steady chip =
    let V = g.R.Rig.view in
    let a = V c.args.rig.now in
    let l2 = c.rewrite_line.new.journal in
    let kept = kept_of (state_at a.journal).stack (c.args.n ∷ []) in
    let last = (goal.at.returns-in_err-rewrite_line-clause-honest g c).After-rewrite_line in
    goes_fault flashes (work_entries c.args.chip.now kept) l2 l2 a (V c.rewrite_line.new.rig) _
    c.from_residual.result
    (rewritten g last flashes steady chip _ (c.in_err-rewrite_line.ensures.honest flashes))
    c.from_residual.ensures.1

pub returns-clause-honest : goal.returns-clause-honest
returns-clause-honest g c flashes steady chip =
    let V = g.R.Rig.view in
    let a = V c.args.rig.now in
    let kept = kept_of (state_at a.journal).stack (c.args.n ∷ []) in
    let last = (goal.at.returns-clause-honest g c).After-rewrite_line in
    goes_ok flashes (work_entries c.args.chip.now kept) c.rewrite_line.new.journal a
    (V c.rewrite_line.new.rig) _ (tt {0})
    (rewritten g last flashes steady chip _ (c.in_ok-rewrite_line.ensures.honest flashes)) (λ p. p)
