use Rattle.std.proofs.Common.{◌≡◌, ◌<◌, ◌∙◌, ◌∷◌, [], ◌++◌, List, ℕ, Result, Ok, Err, length, ap, refl, subst, sym, arith, append-nil}
use Rattle.stm_wire.proofs.Names.{ChipData, Device, IsModel, RigState}
use Rattle.stm_journal.specs.declared.entry.Entry.{Entry}
use Rattle.stm_journal.specs.declared.entry.Entry.TheVariants.{Undoes}
use Rattle.stm_journal.proofs.Names.{flashes_before_segments, Loaded}
use Rattle.stm_session.proofs.Names.{acts_of, Adds, Are, AreCutShort, AreGivenBack, Asks, Begin, BeginTold, cause_of, closing, confirmed_at, ending_steps, Fault, fault_of_journal, Follows}
use Rattle.stm_session.proofs.Names.{give_back_lines, Goes, IsInOrder, IsLookedAgain, IsSegmentUndone, IsSteady, newest_at, newest_kept, OrMisread, state_at, Step, StopsBy, such, taking_lines, Tells}
use Rattle.stm_session.proofs.Names.{ToldIn, UndoesSegment, with_pages}
use Rattle.stm_session.proofs.Misreads.{may_as, may_elsewhere}
use Rattle.stm_session.proofs.LookingAgain.{does_closing}
use Rattle.stm_session.proofs.CutShort.{begin_after, line_stops, part_stops, stop_after, then_stops}
use Rattle.stm_session.proofs.Going.{asks_fail, asks_on, at_exit, goes_as, goes_then}
use Rattle.stm_session.proofs.Keeping.{depth_text, good_at}
use Rattle.stm_session.proofs.Orders.{does_add, does_then}
use Rattle.stm_session.proofs.Tellings.{SaysAlso, pages_as}
use Rattle.stm_session.proofs.ToldPages.{told_on}
use Rattle.stm_session.proofs.UndoOrders.{pages_begun, undoes_begun}
use Rattle.stm_session.proofs.UndoPuts.{back_failed, back_then, first_flash, intents_returns, takes_as, undone_fails, undone_goes}
use Rattle.stm_session.proofs.segment_undo.undo_segment.Given.{Over}
use Rattle.stm_session.proofs.segment_undo.undo_segment.Goals.{After-look_again, After-undone}
use Rattle.stm_session.proofs.segment_undo.undo_segment.Goals as goal

pub returns-in_err-give_back_segment-clause-honest : goal.returns-in_err-give_back_segment-clause-honest
returns-in_err-give_back_segment-clause-honest g c flash flashes steady chip =
    let V = g.R.Rig.view in
    let a = V c.args.rig.now in
    back_failed (give_back_lines c.args.chip.now a.device.flash (newest_at a.journal)) (Undoes (length (state_at a.journal).stack) ∷ []) flash flashes c.give_back_segment.new.journal c.give_back_segment.new.journal a (V c.give_back_segment.new.rig) _
    c.from_residual.result (c.in_err-give_back_segment.ensures.honest (flash ∷ flashes) steady chip) c.from_residual.ensures.1

-- Behind the pages the chip is the one before; and what the board answers then changes nothing.
module _ (g : Over) (c : After-look_again g) (flash : List ℕ) (flashes : List (List ℕ)) (steady : IsSteady (flash ∷ flashes) c.args.journal.now (g.R.Rig.view c.args.rig.now))
    (chip : (g.R.Rig.view c.args.rig.now).device.chip ≡ c.args.chip.now) where
  abbrev old : RigState
  old = g.R.Rig.view c.args.rig.now

  abbrev mid : RigState
  mid = g.R.Rig.view c.give_back_segment.new.rig

  abbrev front : List Entry
  front = give_back_lines c.args.chip.now old.device.flash (newest_at old.journal)

  abbrev Restored : List ℕ → Type 0
  Restored f = f ≡ with_pages c.args.chip.now (newest_at old.journal) old.device.flash

  first : Goes {T = Unit {0}} (flash ∷ flashes) front c.give_back_segment.new.journal old mid (Ok tt) (λ _. Restored mid.device.flash)
  first = c.in_ok-give_back_segment.ensures.honest (flash ∷ flashes) steady chip

  model : IsModel mid
  model = g.met.R.Rig.model c.give_back_segment.new.rig first.honest

  still : mid.device.chip ≡ c.args.chip.now
  still = (at_exit _ old mid model first.moments).make.chip ∙ chip

  behind : {Done2 Done : Unit {0} → Type 0} (new : RigState) (l3 : Loaded) (r : Result (Unit {0}) Fault) → Goes (flash ∷ flashes) [] l3 mid new r Done2 → ((y : Unit {0}) → Done2 y → Done y) → Goes (flash ∷ flashes) front l3 old new r Done
  behind new l3 r goes gives =
      goes_as (flash ∷ flashes) (front ++ []) front l3 old new r (append-nil front)
      (goes_then (flash ∷ flashes) front [] c.give_back_segment.new.journal l3 old mid new (tt {0}) r model first goes gives)

  -- it answers that it is the one that was asked first
  answered : (new : RigState) → Asks {T = Unit {0}} mid new (Ok tt) (λ _. Unit {0}) → Goes {T = Unit {0}} (flash ∷ flashes) front c.give_back_segment.new.journal old new (Ok tt) (λ _. Restored new.device.flash)
  answered new asks =
      let asked = asks_on c.step_laws.ensures (flash ∷ flashes) c.give_back_segment.new.journal mid new first.steady tt asks in
      behind {Done2 = λ _. Unit {0}} {Done = λ _. Restored new.device.flash} new c.give_back_segment.new.journal (Ok tt) asked (λ y done. ap (λ (x : Device). x.flash) asks.same ∙ first.done)

pub returns-in_err-look_again-clause-honest : goal.returns-in_err-look_again-clause-honest
returns-in_err-look_again-clause-honest g c flash flashes steady chip =
    let V = g.R.Rig.view in
    let a = V c.args.rig.now in
    let l2 = c.give_back_segment.new.journal in
    let at = (goal.at.returns-in_err-look_again-clause-honest g c).After-look_again in
    let given = first g at flash flashes steady chip in
    let asks = c.in_err-look_again.ensures.honest given.steady.honest given.steady.settled (still g at flash flashes steady chip) in
    let Done : Unit {0} → Type 0 = λ _. Unit {0} in
    let goes = asks_fail c.step_laws.ensures (flash ∷ flashes) l2 (V c.give_back_segment.new.rig) (V c.look_again.new.rig) given.steady {T = Unit {0}} {U = Unit {0}} {Done = Done} [] l2 _ (Err _) asks refl in
    back_failed (front g at flash flashes steady chip) (Undoes (length (state_at a.journal).stack) ∷ []) flash flashes l2 l2 a (V c.look_again.new.rig) _
    c.from_residual-in_err-look_again.result (behind g at flash flashes steady chip {Done2 = Done} {Done = Done} (V c.look_again.new.rig) l2 _ goes (λ y d. d)) c.from_residual-in_err-look_again.ensures.1

-- the pages are restored, the board is the one that was asked first, and then the segment's end is said
taken : (g : Over) (c : After-undone g) (flash : List ℕ) (flashes : List (List ℕ))
    (result : Result (Unit {0}) Fault)
    → IsSteady (flash ∷ flashes) c.args.journal.now (g.R.Rig.view c.args.rig.now)
    → (g.R.Rig.view c.args.rig.now).device.chip ≡ c.args.chip.now
    → Goes {T = Unit {0}} (flash ∷ flashes) (give_back_lines c.args.chip.now (g.R.Rig.view c.args.rig.now).device.flash (newest_at (g.R.Rig.view c.args.rig.now).journal))
    c.give_back_segment.new.journal (g.R.Rig.view c.args.rig.now) (g.R.Rig.view c.look_again.new.rig) (Ok tt)
    (λ _. (g.R.Rig.view c.look_again.new.rig).device.flash ≡ with_pages c.args.chip.now (newest_at (g.R.Rig.view c.args.rig.now).journal) (g.R.Rig.view c.args.rig.now).device.flash)
    → (IsModel (g.R.Rig.view c.look_again.new.rig)
    → IsSteady (flash ∷ flashes) c.give_back_segment.new.journal (g.R.Rig.view c.look_again.new.rig)
    → length c.give_back_segment.new.journal.state.stack
    ≡ length (state_at (g.R.Rig.view c.look_again.new.rig).journal).stack
    → 0 < length (state_at (g.R.Rig.view c.look_again.new.rig).journal).stack
    → (g.R.Rig.view c.look_again.new.rig).device.flash ≡ flash
    → UndoesSegment (Undoes (length c.give_back_segment.new.journal.state.stack) ∷ []) flash flashes
    c.undone.new.self (g.R.Rig.view c.look_again.new.rig) (g.R.Rig.view c.undone.new.rig) result)
    → UndoesSegment
    (taking_lines c.args.chip.now (g.R.Rig.view c.args.rig.now).device.flash
    (g.R.Rig.view c.args.rig.now).journal)
    flash flashes c.undone.new.self (g.R.Rig.view c.args.rig.now)
    (g.R.Rig.view c.undone.new.rig) result
taken g c flash flashes result steady chip all ends =
    let V = g.R.Rig.view in
    let l2 = c.give_back_segment.new.journal in
    let l3 = c.undone.new.self in
    let a = V c.args.rig.now in
    let b = V c.look_again.new.rig in
    let d = V c.undone.new.rig in
    let model = g.met.R.Rig.model c.look_again.new.rig all.steady.honest in
    let k : ℕ = length l2.state.stack in
    let k_is = depth_text l2 b.journal all.steady.loaded in
    let same = c.in_ok-give_back_segment.ensures.same.depth in
    let number : k ≡ length (state_at a.journal).stack =
    same ∙ depth_text c.args.journal.now a.journal steady.loaded in
    let some : 0 < length (state_at b.journal).stack = omega (arith, c.requires.some, same, k_is) in
    let stack = (state_at a.journal).stack in
    let before = ap (λ (p : ChipData). flashes_before_segments p stack a.device.flash) (sym chip)
    ∙ steady.keeps.before in
    let restored = all.done
    ∙ first_flash c.args.chip.now stack a.device.flash flash flashes before in
    let front = give_back_lines c.args.chip.now a.device.flash (newest_at a.journal) in
    takes_as (front ++ Undoes k ∷ []) (front ++ Undoes (length stack) ∷ []) flash flashes l3 a d
    result (ap (λ (m : ℕ). front ++ Undoes m ∷ []) number)
    (back_then front (Undoes k ∷ []) flash flashes l2 l3 a b d (tt {0}) result model
    (intents_returns c.args.chip.now a.device.flash (newest_at a.journal)) all
    (ends model all.steady k_is some restored))

pub returns-in_err-undone-clause-honest : goal.returns-in_err-undone-clause-honest
returns-in_err-undone-clause-honest g c flash flashes steady chip =
    let V = g.R.Rig.view in
    let l2 = c.give_back_segment.new.journal in
    let l3 = c.undone.new.self in
    let result = c.from_residual-in_err-undone.result in
    let call = c.in_err-undone.ensures in
    let at = (goal.at.returns-in_err-undone-clause-honest g c).After-undone in
    let asked = (goal.at.returns-in_err-undone-clause-honest g c).After-look_again in
    let given = first g asked flash flashes steady chip in
    let asks = c.in_ok-look_again.ensures.honest given.steady.honest given.steady.settled (still g asked flash flashes steady chip) in
    taken g at flash flashes result steady chip (answered g asked flash flashes steady chip (V c.look_again.new.rig) asks) (λ model still k_is some restored.
    undone_fails c.step_laws.ensures flash flashes l2 l3 (length l2.state.stack)
    (V c.look_again.new.rig) (V c.undone.new.rig) model still k_is some restored l3 _ result
    (call.honest still.honest still.loaded) call.left c.from_residual-in_err-undone.ensures.1)

pub returns-clause-honest : goal.returns-clause-honest
returns-clause-honest g c flash flashes steady chip =
    let V = g.R.Rig.view in
    let l2 = c.give_back_segment.new.journal in
    let l3 = c.undone.new.self in
    let b = V c.look_again.new.rig in
    let d = V c.undone.new.rig in
    let call = c.in_ok-undone.ensures in
    let at = (goal.at.returns-clause-honest g c).After-undone in
    let asked = (goal.at.returns-clause-honest g c).After-look_again in
    let given = first g asked flash flashes steady chip in
    let asks = c.in_ok-look_again.ensures.honest given.steady.honest given.steady.settled (still g asked flash flashes steady chip) in
    taken g at flash flashes _ steady chip (answered g asked flash flashes steady chip b asks) (λ model still k_is some restored.
    let appends = call.honest still.honest still.loaded in
    let has = call.text still.honest still.loaded (state_at b.journal) (state_at d.journal)
    (good_at l2 b.journal still.loaded) (good_at l3 d.journal appends.loaded) in
    undone_goes c.step_laws.ensures flash flashes l2 l3 (length l2.state.stack) b d model still
    k_is some restored _ (tt {0}) appends call.after has)

pub returns-clause-order : goal.returns-clause-order
returns-clause-order g c =
    let V = g.R.Rig.view in
    let l = c.args.journal.now in
    let l2 = c.give_back_segment.new.journal in
    let l3 = c.undone.new.self in
    let a = V c.args.rig.now in
    let b = V c.give_back_segment.new.rig in
    let d = V c.look_again.new.rig in
    let e = V c.undone.new.rig in
    let k = length l2.state.stack in
    let pages = newest_kept l.state.stack in
    let first = c.in_ok-give_back_segment.ensures.order in
    let chip = c.args.chip.now in
    let Told = ToldIn V l.is_torn a e in
    let line = does_add (tt {0}) (Undoes k ∷ []) l2 l3 d e c.in_ok-undone.ensures.calls (ap (λ (m : Loaded). m.is_torn) c.in_ok-undone.ensures.after) in
    let end = ending_steps chip k in
    let last = does_then (closing chip) (Adds (Undoes k ∷ []) ∷ []) l2 l2 l3 b d e (does_closing chip l2 b d (c.in_ok-look_again.ensures.order l2.is_torn)) line in
    let all = pages_as c.args.again chip (ToldIn V l.is_torn a b) Told pages first.0 (told_on V (λ calls. IsInOrder l2.is_torn end calls) l.is_torn a b e last.acts) first.1 in
    let taken : IsSegmentUndone c.args.again chip Told pages k (first.0 ++ end) = record { returns = first.0; are_returns = all; is = refl } in
    let P : ℕ → Type 0 = λ m. Follows (IsSegmentUndone c.args.again chip Told pages m) l l3 a e in
    subst P c.in_ok-give_back_segment.ensures.same.depth (first.0 ++ end, taken, does_then first.0 end l l2 l3 a b e first.2 last)

pub returns-in_err-give_back_segment-clause-stops : goal.returns-in_err-give_back_segment-clause-stops
returns-in_err-give_back_segment-clause-stops g c =
    let V = g.R.Rig.view in
    let chip = c.args.chip.now in
    let l = c.args.journal.now in
    let pages = newest_kept l.state.stack in
    let k = length l.state.stack in
    let a = V c.args.rig.now in
    let b = V c.give_back_segment.new.rig in
    let Told = ToldIn V l.is_torn a b in
    let Pages = BeginTold (λ T. AreGivenBack c.args.again chip T pages) Told in
    let All = BeginTold (λ T. IsSegmentUndone c.args.again chip T pages k) Told in
    part_stops (OrMisread c.args.again chip Pages) (OrMisread c.args.again chip All) l.is_torn a b _ c.from_residual.result c.from_residual.ensures.1
    (may_as c.args.again chip Pages All (pages_begun c.args.again chip Told pages k)) c.in_err-give_back_segment.ensures.stops

-- what is begun of it behind its pages
module _ (g : Over) (c : After-look_again g) (told : Tells) (says : SaysAlso (ToldIn g.R.Rig.view c.args.journal.now.is_torn (g.R.Rig.view c.args.rig.now) (g.R.Rig.view c.give_back_segment.new.rig)) told) where
  abbrev Taken : ℕ → List Step → Type 0
  Taken m = BeginTold (λ T. IsSegmentUndone c.args.again c.args.chip.now T (newest_kept c.args.journal.now.state.stack) m) told

  ended : (ys : List Step) → Begin (Are (ending_steps c.args.chip.now (length c.args.journal.now.state.stack))) ys → Taken (length c.args.journal.now.state.stack) (c.in_ok-give_back_segment.ensures.order.0 ++ ys)
  ended = undoes_begun c.args.again c.args.chip.now _ told (newest_kept c.args.journal.now.state.stack) (length c.args.journal.now.state.stack) c.in_ok-give_back_segment.ensures.order.0 says c.in_ok-give_back_segment.ensures.order.1

pub returns-in_err-look_again-clause-stops : goal.returns-in_err-look_again-clause-stops
returns-in_err-look_again-clause-stops g c =
    let V = g.R.Rig.view in
    let chip = c.args.chip.now in
    let l = c.args.journal.now in
    let l2 = c.give_back_segment.new.journal in
    let a = V c.args.rig.now in
    let b = V c.give_back_segment.new.rig in
    let d = V c.look_again.new.rig in
    let Looked = Begin (IsLookedAgain (confirmed_at chip)) in
    let stops = c.in_err-look_again.ensures.stops l2.is_torn in
    let Told = ToldIn V l.is_torn a d in
    let cause = cause_of c.in_err-look_again.field-0.0 in
    let says = told_on V (λ calls. AreCutShort Looked cause l2.is_torn (acts_of calls)) l.is_torn a b d stops in
    let at = (goal.at.returns-in_err-look_again-clause-stops g c).After-look_again in
    let Begun = Taken g at Told says (length l.state.stack) in
    let first = c.in_ok-give_back_segment.ensures.order in
    then_stops Looked (OrMisread c.args.again chip Begun) first.0 l l2 a b d _ c.from_residual-in_err-look_again.result c.from_residual-in_err-look_again.ensures.1 first.2 stops
    (may_elsewhere c.args.again chip Begun first.0 (ended g at Told says (closing chip) (Adds (Undoes (length l.state.stack) ∷ []) ∷ [], refl)))

pub returns-in_err-undone-clause-stops : goal.returns-in_err-undone-clause-stops
returns-in_err-undone-clause-stops g c =
    let V = g.R.Rig.view in
    let chip = c.args.chip.now in
    let l = c.args.journal.now in
    let l2 = c.give_back_segment.new.journal in
    let a = V c.args.rig.now in
    let b = V c.give_back_segment.new.rig in
    let d = V c.look_again.new.rig in
    let e = V c.undone.new.rig in
    let same = c.in_ok-give_back_segment.ensures.same.depth in
    let line : ℕ → List Step = λ m. Adds (Undoes m ∷ []) ∷ [] in
    let k = length l.state.stack in
    let End = Begin (Are (ending_steps chip k)) in
    let cause = cause_of (fault_of_journal c.in_err-undone.field-0.0) in
    let S : ℕ → Type 0 = λ m. StopsBy (Begin (Are (line m))) cause l2.is_torn d e in
    let m = length l2.state.stack in
    let one = line_stops (Unit {0}) (Begin (Are (line m))) l2.is_torn (Undoes m ∷ []) _ d e (line m, refl) ([], refl) c.in_err-undone.ensures.calls in
    let stops = stop_after (Begin (Are (line k))) End cause (closing chip) l2 l2 b d e (does_closing chip l2 b d (c.in_ok-look_again.ensures.order l2.is_torn)) (subst S same one)
    (begin_after (Are (line k)) (Are (ending_steps chip k)) (closing chip) (λ ys is. ap (λ (xs : List Step). closing chip ++ xs) is)) in
    let Told = ToldIn V l.is_torn a e in
    let says = told_on V (λ calls. AreCutShort End cause l2.is_torn (acts_of calls)) l.is_torn a b e stops in
    let at = (goal.at.returns-in_err-undone-clause-stops g c).After-look_again in
    let first = c.in_ok-give_back_segment.ensures.order in
    then_stops End (OrMisread c.args.again chip (Taken g at Told says k)) first.0 l l2 a b e (fault_of_journal c.in_err-undone.field-0.0) c.from_residual-in_err-undone.result c.from_residual-in_err-undone.ensures.1 first.2 stops
    (λ ys begun. such (ended g at Told says ys begun))
