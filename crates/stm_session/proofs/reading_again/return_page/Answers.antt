use Rattle.std.proofs.Common.{◌≡◌, ◌∙◌, ◌++◌, if◌then◌else◌, [], List, ℕ, Bool, Ok, true, false, ap, append-nil, refl, sym, subst, rules}
use Rattle.std.specs.Prelude.{bytes_eq}
use Rattle.stm_wire.proofs.Names.{Device, page_of, page_size, with_page}
use Rattle.stm_session.proofs.Names.{Are, AreReadsOf, Begin, DoesSteps, give_back_steps, Goes, IsChanged, IsSteady, OrMisread, page_address, page_reads, return_steps, rewrite_entries, such}
use Rattle.stm_session.proofs.CutShort.{page_was_read, part_stops, then_stops}
use Rattle.stm_session.proofs.Exits.{goes_fault}
use Rattle.stm_session.proofs.Going.{asks_fail, asks_on, at_exit, goes_as, goes_ok, goes_then}
use Rattle.stm_session.proofs.Misreads.{may_misread}
use Rattle.stm_session.proofs.Orders.{does_as, does_then}
use Rattle.stm_session.proofs.Restorings.{kept_begun, kept_does, kept_lines}
use Rattle.stm_session.proofs.Rereadings.{holds_put, restore_begun, return_is, return_whole}
use Rattle.stm_session.proofs.reading_again.return_page.Given as given
use Rattle.stm_session.proofs.reading_again.return_page.Goals as goal
use Rattle.stm_session.proofs.reading_again.return_page.Goals.{After-read_again}

-- What the exits behind read_again share: the page was given back, and asking for it is honest.
first : (g : given.Over) (c : After-read_again g) (flashes : List (List ℕ))
    → IsSteady flashes c.args.journal.now (g.R.Rig.view c.args.rig.now)
    → (g.R.Rig.view c.args.rig.now).device.chip ≡ c.args.chip.now
    → c.args.held.now ≡ page_of c.args.chip.now (g.R.Rig.view c.args.rig.now).device.flash c.args.n
    → Goes {T = Unit {0}} flashes (if bytes_eq c.args.held.now c.args.page.now then []
    else rewrite_entries c.args.chip.now c.args.n c.args.page.now) c.change_page.new.journal
    (g.R.Rig.view c.args.rig.now) (g.R.Rig.view c.change_page.new.rig) (Ok tt)
    (λ y. (g.R.Rig.view c.change_page.new.rig).device.flash ≡ with_page c.args.chip.now c.args.n
    c.args.page.now (g.R.Rig.view c.args.rig.now).device.flash)
first g c flashes steady chip read =
    let a = g.R.Rig.view c.args.rig.now in
    let b = g.R.Rig.view c.change_page.new.rig in
    let l2 = c.change_page.new.journal in
    goes_as flashes _ _ l2 a b _
    (kept_lines c.args.chip.now c.args.n c.args.held.now c.args.page.now a.device.flash read)
    (goes_ok flashes _ l2 a b _ (tt {0})
    (c.in_ok-change_page.ensures.performs.honest flashes steady (chip, read)) (λ p. p))

-- and did
given_back : (g : given.Over) (c : After-read_again g)
    → DoesSteps (give_back_steps c.args.chip.now c.args.n c.args.held.now c.args.page.now)
    c.args.journal.now c.change_page.new.journal (g.R.Rig.view c.args.rig.now)
    (g.R.Rig.view c.change_page.new.rig)
given_back g c =
    kept_does c.args.chip.now c.args.n c.args.held.now c.args.page.now c.args.journal.now
    c.change_page.new.journal (g.R.Rig.view c.args.rig.now) (g.R.Rig.view c.change_page.new.rig)
    c.in_ok-change_page.ensures.performs.order

still : (g : given.Over) (c : After-read_again g) (flashes : List (List ℕ))
    → IsSteady flashes c.args.journal.now (g.R.Rig.view c.args.rig.now)
    → (g.R.Rig.view c.args.rig.now).device.chip ≡ c.args.chip.now
    → c.args.held.now ≡ page_of c.args.chip.now (g.R.Rig.view c.args.rig.now).device.flash c.args.n
    → (g.R.Rig.view c.change_page.new.rig).device.chip ≡ c.args.chip.now
still g c flashes steady chip read =
    let a = g.R.Rig.view c.args.rig.now in
    let b = g.R.Rig.view c.change_page.new.rig in
    let goes = first g c flashes steady chip read in
    (at_exit _ a b (g.met.R.Rig.model c.change_page.new.rig goes.honest) goes.moments).make.chip ∙ chip

holds : (g : given.Over) (c : After-read_again g) (flashes : List (List ℕ))
    → IsSteady flashes c.args.journal.now (g.R.Rig.view c.args.rig.now)
    → (g.R.Rig.view c.args.rig.now).device.chip ≡ c.args.chip.now
    → c.args.held.now ≡ page_of c.args.chip.now (g.R.Rig.view c.args.rig.now).device.flash c.args.n
    → page_of c.args.chip.now (g.R.Rig.view c.change_page.new.rig).device.flash c.args.n ≡ c.args.page.now
holds g c flashes steady chip read =
    let a = g.R.Rig.view c.args.rig.now in
    let b = g.R.Rig.view c.change_page.new.rig in
    let model = g.met.R.Rig.model c.args.rig.now steady.honest in
    holds_put c.args.chip.now c.args.n c.args.page.now a.device b.device.flash model.device chip c.requires.size (first g c flashes steady chip read).done

-- The exits.

pub returns-in_err-change_page-clause-honest : goal.returns-in_err-change_page-clause-honest
returns-in_err-change_page-clause-honest g c flashes steady chip read =
    let V = g.R.Rig.view in
    let l2 = c.change_page.new.journal in
    let a = V c.args.rig.now in
    let b = V c.change_page.new.rig in
    goes_as flashes _ _ l2 a b _
    (kept_lines c.args.chip.now c.args.n c.args.held.now c.args.page.now a.device.flash read)
    (goes_fault flashes _ l2 l2 a b _ c.from_residual.result
    (c.in_err-change_page.ensures.performs.honest flashes steady (chip, read))
    c.from_residual.ensures.1)

pub returns-in_err-change_page-clause-stops : goal.returns-in_err-change_page-clause-stops
returns-in_err-change_page-clause-stops g c =
    let V = g.R.Rig.view in
    let again = c.args.again in
    let chip = c.args.chip.now in
    let n = c.args.n in
    let held = c.args.held.now in
    let page = c.args.page.now in
    let All = Begin (Are (return_steps again chip n held page)) in
    part_stops (Begin (IsChanged true chip n held page)) (OrMisread again chip All) c.args.journal.now.is_torn (V c.args.rig.now) (V c.change_page.new.rig) _ c.from_residual.result c.from_residual.ensures.1
    (λ xs begun. such (restore_begun again chip n held page xs
    (kept_begun chip n held page xs begun))) c.in_err-change_page.ensures.performs.stops

pub returns-then-not-again-clause-honest : goal.returns-then-not-again-clause-honest
returns-then-not-again-clause-honest g c flashes steady chip read =
    let V = g.R.Rig.view in
    let a = V c.args.rig.now in
    let b = V c.change_page.new.rig in
    let l2 = c.change_page.new.journal in
    goes_as flashes _ _ l2 a b _
    (kept_lines c.args.chip.now c.args.n c.args.held.now c.args.page.now a.device.flash read)
    (goes_ok flashes _ l2 a b _ (tt {0})
    (c.in_ok-change_page.ensures.performs.honest flashes steady (chip, read)) (λ p. p))

pub returns-then-not-again-clause-order : goal.returns-then-not-again-clause-order
returns-then-not-again-clause-order g c =
    let V = g.R.Rig.view in
    let no : c.args.again ≡ false = search rules in
    let P : Bool → Type 0 = λ b. DoesSteps (return_steps b c.args.chip.now c.args.n c.args.held.now c.args.page.now) c.args.journal.now c.change_page.new.journal (V c.args.rig.now) (V c.change_page.new.rig) in
    subst P (sym no)
    (kept_does c.args.chip.now c.args.n c.args.held.now c.args.page.now c.args.journal.now
    c.change_page.new.journal (V c.args.rig.now) (V c.change_page.new.rig)
    c.in_ok-change_page.ensures.performs.order)

pub returns-in_err-read_again-clause-stops : goal.returns-in_err-read_again-clause-stops
returns-in_err-read_again-clause-stops g c =
    let V = g.R.Rig.view in
    let again = c.args.again in
    let chip = c.args.chip.now in
    let n = c.args.n in
    let held = c.args.held.now in
    let page = c.args.page.now in
    let l2 = c.change_page.new.journal in
    let yes : again ≡ true = search rules in
    let own = give_back_steps chip n held page in
    let All = Begin (Are (return_steps again chip n held page)) in
    then_stops (Begin (AreReadsOf (page_address chip n) (page_size chip n))) (OrMisread again chip All) own c.args.journal.now l2 (V c.args.rig.now) (V c.change_page.new.rig) (V c.read_again.new.rig) _
    c.from_residual-in_err-read_again.result c.from_residual-in_err-read_again.ensures.1
    (given_back g (goal.at.returns-in_err-read_again-clause-stops g c).After-read_again)
    (c.in_err-read_again.ensures.stops l2.is_torn)
    (may_misread again chip All yes own n page (return_whole again chip n held page yes) c.requires.size)

pub returns-clause-order : goal.returns-clause-order
returns-clause-order g c =
    let V = g.R.Rig.view in
    let again = c.args.again in
    let chip = c.args.chip.now in
    let n = c.args.n in
    let held = c.args.held.now in
    let page = c.args.page.now in
    let l = c.args.journal.now in
    let l2 = c.change_page.new.journal in
    let a = V c.args.rig.now in
    let b = V c.change_page.new.rig in
    let d = V c.read_again.new.rig in
    let yes : again ≡ true = search rules in
    let own = give_back_steps chip n held page in
    let reads = page_was_read chip n l2 (page_address chip n) (page_size chip n) page page b d refl refl refl (c.in_ok-read_again.ensures.order l2.is_torn) in
    does_as (own ++ page_reads chip n page) (return_steps again chip n held page) l l2 a d (return_is again chip n held page yes) (does_then own (page_reads chip n page) l l2 l2 a b d
    (given_back g (goal.at.returns-clause-order g c).After-read_again) reads)

pub returns-in_err-read_again-clause-honest : goal.returns-in_err-read_again-clause-honest
returns-in_err-read_again-clause-honest g c flashes steady chip read =
    let V = g.R.Rig.view in
    let l2 = c.change_page.new.journal in
    let a = V c.args.rig.now in
    let b = V c.change_page.new.rig in
    let d = V c.read_again.new.rig in
    let at = (goal.at.returns-in_err-read_again-clause-honest g c).After-read_again in
    let goes = first g at flashes steady chip read in
    let asks = c.in_err-read_again.ensures.honest goes.honest goes.steady.settled (still g at flashes steady chip read) (holds g at flashes steady chip read) in
    let lines = if bytes_eq c.args.held.now c.args.page.now then [] else rewrite_entries c.args.chip.now c.args.n c.args.page.now in
    goes_as flashes (lines ++ []) lines l2 a d c.from_residual-in_err-read_again.result (append-nil lines)
    (goes_then flashes lines [] l2 l2 a b d (tt {0}) c.from_residual-in_err-read_again.result (g.met.R.Rig.model c.change_page.new.rig goes.honest) goes
    (asks_fail c.step_laws.ensures flashes l2 b d goes.steady [] l2 _ c.from_residual-in_err-read_again.result asks c.from_residual-in_err-read_again.ensures.1) (λ y p. p))

pub returns-clause-honest : goal.returns-clause-honest
returns-clause-honest g c flashes steady chip read =
    let V = g.R.Rig.view in
    let l2 = c.change_page.new.journal in
    let a = V c.args.rig.now in
    let b = V c.change_page.new.rig in
    let d = V c.read_again.new.rig in
    let at = (goal.at.returns-clause-honest g c).After-read_again in
    let goes = first g at flashes steady chip read in
    let asks = c.in_ok-read_again.ensures.honest goes.honest goes.steady.settled (still g at flashes steady chip read) (holds g at flashes steady chip read) in
    let lines = if bytes_eq c.args.held.now c.args.page.now then [] else rewrite_entries c.args.chip.now c.args.n c.args.page.now in
    goes_as flashes (lines ++ []) lines l2 a d _ (append-nil lines)
    (goes_then flashes lines [] l2 l2 a b d (tt {0}) _ (g.met.R.Rig.model c.change_page.new.rig goes.honest) goes
    (asks_on c.step_laws.ensures flashes l2 b d goes.steady _ asks) (λ y u. ap (λ (x : Device). x.flash) asks.same ∙ goes.done))
