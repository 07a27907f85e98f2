use Rattle.std.proofs.Common.{◌≡◌, ◌∙◌, ◌≤◌, ℕ, List, [], Some, Ok, Err, Result, option_map, length, refl, sym, ap, subst, arith, ◌++◌, inl, inr}
use Rattle.stm_session.proofs.Names.{AreCutShort, AreTakenAs, asking_steps, BeginTakingTold, BeginTold, behind_confirming, byte_at_journal, cause_of, confirming, Fault, Goes, IsAfter}
use Rattle.stm_session.proofs.Names.{IsConfirmedInPart, IsFlashSettled, IsWithinLimit, Meets, OrMisread, pages_at_work, risked_at, segments_of, SettlesFirst, settling_way, so_far, Step, taken_count}
use Rattle.stm_session.proofs.Names.{ToldBy, ToldIn, undo_lines, Undoable, UndoContract, Undoes, UndoesBy, UndoStopsToldAs}
use Rattle.stm_chip.specs.Document.{IsChipWith}
use Rattle.stm_wire.proofs.Names.{ChipData, Device, Harmless, IsModel}
use Rattle.stm_session.proofs.Awaiting.{own_within}
use Rattle.stm_session.proofs.Going.{at_exit}
use Rattle.stm_journal.proofs.Names.{intent_of, pages_of_segments}
use Rattle.stm_session.proofs.SentUndo.{sends_back, sends_failed, sends_met, sends_nothing, own-id}
use Rattle.stm_session.proofs.Unread.{contract_unread, none_some}
use Rattle.stm_session.proofs.UndoStarts.{contract_none, contract_unfound, flashes_depth, loaded_then, undoable_then}
use Rattle.stm_session.proofs.Undone.{contract_when, contract_after, refuses_elsewhere, undoes_unmet, undoes_stopped, undoes_all, elsewhere_back, harmless_then, owed_then, own_chip, within_then, err_as}
use Rattle.stm_session.proofs.Tellings.{all_as}
use Rattle.stm_session.proofs.Misreads.{may_as}
use Rattle.stm_session.proofs.ReturnedBytes.{err_of}
use Rattle.stm_session.proofs.ToldPages.{told_by}
use Rattle.stm_session.proofs.KeptRuns.{confirmed_as, stops_as}
use Rattle.stm_session.proofs.Orders.{fetched_and, fetched_then, settled_then}
use Rattle.stm_session.proofs.Reaching.{at_fault, fetched_stops, reached_stops}
use Rattle.stm_session.proofs.undo_course.undo_as.Given.{Over}
use Rattle.stm_session.proofs.undo_course.undo_as.Goals.{After-undo_confirmed, After-meet}
use Rattle.stm_session.proofs.undo_course.undo_as.Goals as goal

pub returns-in_err-journal-clause-promised : goal.returns-in_err-journal-clause-promised
returns-in_err-journal-clause-promised g c =
    let V = g.R.Rig.view in
    contract_unread c.step_laws.ensures c.args.table.now c.args.count (V c.args.rig.now) (V c.load.new.rig) _ (segments_of c.from_residual.result) c.in_err-journal.ensures.honest c.in_err-journal.ensures.calls (err_of c.from_residual.result _ c.from_residual.ensures.1)

pub returns-then-depth-eq0-clause-promised : goal.returns-then-depth-eq0-clause-promised
returns-then-depth-eq0-clause-promised g c =
    let V = g.R.Rig.view in
    let none : length c.in_ok-journal.journal.state.stack ≡ 0 = omega (arith, c.if-depth-eq0.true, c.depth-depth.ensures.value) in
    contract_when c.args.table.now c.args.count (V c.args.rig.now) (V c.load.new.rig) _ (λ h.
    let loads = c.in_ok-journal.ensures.honest h in
    contract_none c.args.table.now c.in_ok-journal.journal (V c.args.rig.now) (V c.load.new.rig) loads c.step_laws.ensures c.args.count (g.met.R.Rig.model c.load.new.rig loads.honest) none c.in_ok-journal.ensures.calls)

pub returns-in_err-chip-clause-promised : goal.returns-in_err-chip-clause-promised
returns-in_err-chip-clause-promised g c =
    let V = g.R.Rig.view in
    let some : 1 ≤ length c.in_ok-journal.journal.state.stack = omega (arith, c.if-depth-eq0.false, c.depth-depth.ensures.value) in
    let named : option_map (λ h. h.id) c.in_ok-journal.journal.state.header ≡ Some c.in-Some.id = sym c.in-Some.ensures in
    contract_when c.args.table.now c.args.count (V c.args.rig.now) (V c.load.new.rig) (segments_of c.from_residual-in_err-chip.result) (λ h.
    let loads = c.in_ok-journal.ensures.honest h in
    contract_unfound c.args.table.now c.in_ok-journal.journal (V c.args.rig.now) (V c.load.new.rig) loads some c.in-Some.id named c.args.count _ (segments_of c.from_residual-in_err-chip.result) c.in_ok-journal.ensures.calls c.in_err-chip.ensures.refused (err_of c.from_residual-in_err-chip.result _ c.from_residual-in_err-chip.ensures.1))

-- the device is met as one that may be another
told : (g : Over) (c : After-meet g) (made : Result (Unit {0}) Fault) → c.meet.result ≡ made
    → (g.R.Rig.view c.args.rig.now).is_honest
    → let a = g.R.Rig.view c.args.rig.now in Harmless a.device (byte_at_journal a.journal) (risked_at a.journal)
    → length a.device.owed ≤ 4096
    → IsWithinLimit c.in_ok-chip.chip.now a
    → Meets c.in_ok-chip.chip.now (g.R.Rig.view c.load.new.rig) (g.R.Rig.view c.meet.new.rig) made
told g c made was h harmless owed within =
    let V = g.R.Rig.view in
    let table = c.args.table.now in
    let l = c.in_ok-journal.journal in
    let a = V c.args.rig.now in
    let b = V c.load.new.rig in
    let loads = c.in_ok-journal.ensures.honest h in
    let some : 1 ≤ length l.state.stack =
    omega (arith, c.if-depth-eq0.false, c.depth-depth.ensures.value) in
    let id = c.in-Some.id in
    let named : option_map (λ header. header.id) l.state.header ≡ Some id = sym c.in-Some.ensures in
    let laws = c.step_laws.ensures in
    let chip = c.in_ok-chip.chip.now in
    let is = c.in_ok-chip.ensures in
    let M : Result (Unit {0}) Fault → Type 0 = λ r. Meets chip b (V c.meet.new.rig) r in
    subst M was
    (c.meet.ensures.elsewhere loads.honest
    (loaded_then table l a b loads)
    (harmless_then table l a b loads some id named laws chip is.chip is.accepted harmless)
    (owed_then table l a b loads some id named laws chip is.chip is.accepted owed)
    (within_then table l a b loads some id named laws chip is.chip is.accepted within))

-- and as the journal's own
met : (g : Over) (c : After-meet g) (made : Result (Unit {0}) Fault) → c.meet.result ≡ made
    → (g.R.Rig.view c.args.rig.now).is_honest
    → let a = g.R.Rig.view c.args.rig.now in (flashes : List (List ℕ)) → Undoable flashes a.device a.journal
    → IsChipWith c.args.table.now a.device.chip.id a.device.chip
    → Goes flashes [] c.in_ok-journal.journal (g.R.Rig.view c.load.new.rig)
    (g.R.Rig.view c.meet.new.rig) made (λ _. Unit {0})
met g c made was h flashes u listed =
    let V = g.R.Rig.view in
    let table = c.args.table.now in
    let l = c.in_ok-journal.journal in
    let a = V c.args.rig.now in
    let b = V c.load.new.rig in
    let loads = c.in_ok-journal.ensures.honest h in
    let some : 1 ≤ length l.state.stack =
    omega (arith, c.if-depth-eq0.false, c.depth-depth.ensures.value) in
    let is = c.in_ok-chip.ensures in
    let G : Result (Unit {0}) Fault → Type 0 =
    λ r. Goes flashes [] l b (V c.meet.new.rig) r (λ _. Unit {0}) in
    subst G was
    (c.meet.ensures.honest loads.honest
    flashes
    (loaded_then table l a b loads) (undoable_then table l a b loads flashes u)
    (own_chip table l a b loads some c.in-Some.id (sym c.in-Some.ensures) c.step_laws.ensures
    c.in_ok-chip.chip.now is.chip is.accepted flashes u listed))

pub returns-in_err-meet-clause-promised : goal.returns-in_err-meet-clause-promised
returns-in_err-meet-clause-promised g c =
    let V = g.R.Rig.view in
    let table = c.args.table.now in
    let l = c.in_ok-journal.journal in
    let a = V c.args.rig.now in
    let b = V c.load.new.rig in
    let d = V c.meet.new.rig in
    let some : 1 ≤ length l.state.stack =
    omega (arith, c.if-depth-eq0.false, c.depth-depth.ensures.value) in
    let named : option_map (λ h. h.id) l.state.header ≡ Some c.in-Some.id = sym c.in-Some.ensures in
    let laws = c.step_laws.ensures in
    let chip = c.in_ok-chip.chip.now in
    let found = c.in_ok-chip.ensures in
    let made = c.from_residual-in_err-meet in
    let at = (goal.at.returns-in_err-meet-clause-promised g c).After-meet in
    let was = c.in_err-meet.was in
    let P : Result ℕ Fault → Type 0 = λ r. UndoContract table c.args.count a d r in
    contract_when table c.args.count a d (segments_of made.result)
    (λ h. err_as P (segments_of made.result) _ (err_of made.result _ made.ensures.1) (λ x is.
    let loads = c.in_ok-journal.ensures.honest h in
    contract_after table l a b loads some c.in-Some.id named laws chip found.chip found.accepted
    c.args.count d (Err x)
    (λ refusal harmless owed within misfit.
    refuses_elsewhere table l a b loads some c.in-Some.id named laws chip found.chip found.accepted
    c.args.count d refusal _ x is harmless owed misfit
    (told g at _ was h harmless owed within))
    (λ flashes u listed.
    let goes = met g at _ was h flashes u listed in
    undoes_unmet table l a b loads some c.in-Some.id named laws chip found.chip found.accepted
    (taken_count c.args.count (length flashes)) flashes u d l _ x
    (g.met.R.Rig.model c.meet.new.rig goes.honest) goes is)))

-- the segments are undone, of a device that was met
gone : (g : Over) (c : After-undo_confirmed g) (made : Result (Unit {0}) Fault) → c.undo_confirmed.result ≡ made
    → (g.R.Rig.view c.args.rig.now).is_honest → (result : Result ℕ Fault)
    → let a = g.R.Rig.view c.args.rig.now in let b = g.R.Rig.view c.load.new.rig in
    let d = g.R.Rig.view c.meet.new.rig in let e = g.R.Rig.view c.undo_confirmed.new.rig in
    let l = c.in_ok-journal.journal in let taken = c.taken_count-segments.result in
    (Harmless a.device (byte_at_journal a.journal) (risked_at a.journal)
    → length a.device.owed ≤ 4096
    → IsWithinLimit c.in_ok-chip.chip.now a
    → Meets {T = Unit {0}} c.in_ok-chip.chip.now b d (Ok (tt {0})))
    → ((flashes : List (List ℕ)) → Undoable flashes a.device a.journal
    → IsChipWith c.args.table.now a.device.chip.id a.device.chip
    → Goes {T = Unit {0}} flashes [] l b d (Ok (tt {0})) (λ _. Unit {0}))
    → ((flashes : List (List ℕ)) → Undoable flashes a.device a.journal → IsModel d
    → Goes {T = Unit {0}} flashes [] l b d (Ok (tt {0})) (λ _. Unit {0})
    → IsFlashSettled a d.device.flash
    → UndoesBy (undo_lines taken d) taken flashes c.undo_confirmed.new.journal d e made
    → Undoes taken flashes a e result)
    → UndoContract c.args.table.now c.args.count a e result
gone g c made was h result meets goes undoes =
    let V = g.R.Rig.view in
    let table = c.args.table.now in
    let l = c.in_ok-journal.journal in
    let a = V c.args.rig.now in
    let b = V c.load.new.rig in
    let d = V c.meet.new.rig in
    let e = V c.undo_confirmed.new.rig in
    let loads = c.in_ok-journal.ensures.honest h in
    let some : 1 ≤ length l.state.stack =
    omega (arith, c.if-depth-eq0.false, c.depth-depth.ensures.value) in
    let named : option_map (λ x. x.id) l.state.header ≡ Some c.in-Some.id = sym c.in-Some.ensures in
    let laws = c.step_laws.ensures in
    let chip = c.in_ok-chip.chip.now in
    let found = c.in_ok-chip.ensures in
    let taken = c.taken_count-segments.result in
    contract_after table l a b loads some c.in-Some.id named laws chip found.chip found.accepted
    c.args.count e result
    (λ refusal harmless owed within misfit.
    none_some _ refusal (meets harmless owed within).accepted misfit)
    (λ flashes u listed.
    let own = own_chip table l a b loads some c.in-Some.id named laws chip found.chip found.accepted
    flashes u listed in
    let before = sym (ap (λ (x : Device). x.chip) loads.same_device) ∙ own in
    let within = own_within laws chip a (g.met.R.Rig.model c.args.rig.now h).device u.awaits (ap (λ (p : ChipData). p.kind) before) in
    let left = (meets u.harmless u.owed within).left in
    let settled = (elsewhere_back table l a b loads some c.in-Some.id named laws chip found.chip
    found.accepted d.device d.journal left).flash in
    let went = goes flashes u listed in
    let model = g.met.R.Rig.model c.meet.new.rig went.honest in
    let still = (at_exit _ b d model went.moments).make.chip ∙ own in
    let depth = flashes_depth table l a b loads flashes u in
    let count_is : taken ≡ taken_count c.args.count (length flashes) =
    c.taken_count-segments.ensures.value
    ∙ ap (λ (n : ℕ). taken_count c.args.count n) (c.depth-depth.ensures.value ∙ sym depth) in
    let G : Result (Unit {0}) Fault → Type 0 =
    λ r. UndoesBy (undo_lines taken d) taken flashes c.undo_confirmed.new.journal d e r in
    let U : ℕ → Type 0 = λ n. Undoes n flashes a e result in
    subst U count_is
    (undoes flashes u model went settled
    (subst G was (c.undo_confirmed.ensures.honest flashes went.steady still))))

pub returns-in_err-undo_confirmed-clause-promised : goal.returns-in_err-undo_confirmed-clause-promised
returns-in_err-undo_confirmed-clause-promised g c =
    let V = g.R.Rig.view in
    let table = c.args.table.now in
    let l = c.in_ok-journal.journal in
    let a = V c.args.rig.now in
    let e = V c.undo_confirmed.new.rig in
    let some : 1 ≤ length l.state.stack =
    omega (arith, c.if-depth-eq0.false, c.depth-depth.ensures.value) in
    let found = c.in_ok-chip.ensures in
    let last = c.from_residual-in_err-undo_confirmed in
    let at = goal.at.returns-in_err-undo_confirmed-clause-promised g c in
    let P : Result ℕ Fault → Type 0 = λ r. UndoContract table c.args.count a e r in
    contract_when table c.args.count a e (segments_of last.result)
    (λ h. err_as P (segments_of last.result) _ (err_of last.result _ last.ensures.1) (λ x is.
    gone g at.After-undo_confirmed _ c.in_err-undo_confirmed.was h (Err x)
    (told g at.After-meet _ c.in_ok-meet.was h) (met g at.After-meet _ c.in_ok-meet.was h)
    (λ flashes u model went settled back.
    undoes_stopped table l a (V c.load.new.rig) (c.in_ok-journal.ensures.honest h) some c.in-Some.id
    (sym c.in-Some.ensures) c.step_laws.ensures c.in_ok-chip.chip.now found.chip found.accepted
    c.taken_count-segments.result flashes u (V c.meet.new.rig) model went settled e
    c.undo_confirmed.new.journal _ x (g.met.R.Rig.model c.undo_confirmed.new.rig back.honest) back is)))

pub returns-clause-promised : goal.returns-clause-promised
returns-clause-promised g c =
    let V = g.R.Rig.view in
    let table = c.args.table.now in
    let l = c.in_ok-journal.journal in
    let a = V c.args.rig.now in
    let e = V c.undo_confirmed.new.rig in
    let some : 1 ≤ length l.state.stack =
    omega (arith, c.if-depth-eq0.false, c.depth-depth.ensures.value) in
    let found = c.in_ok-chip.ensures in
    let taken = c.taken_count-segments in
    let one : 1 ≤ taken.result = taken.ensures.some
    (omega (arith, some, c.depth-depth.ensures.value)) in
    let at = goal.at.returns-clause-promised g c in
    contract_when table c.args.count a e _ (λ h.
    gone g at.After-undo_confirmed _ c.in_ok-undo_confirmed.was h _
    (told g at.After-meet _ c.in_ok-meet.was h) (met g at.After-meet _ c.in_ok-meet.was h)
    (λ flashes u model went settled back.
    undoes_all table l a (V c.load.new.rig) (c.in_ok-journal.ensures.honest h) some c.in-Some.id
    (sym c.in-Some.ensures) c.step_laws.ensures c.in_ok-chip.chip.now found.chip found.accepted
    taken.result flashes u (V c.meet.new.rig) model went settled e c.undo_confirmed.new.journal
    taken.result
    refl one (g.met.R.Rig.model c.undo_confirmed.new.rig back.honest) back))

pub returns-in_err-journal-clause-puts : goal.returns-in_err-journal-clause-puts
returns-in_err-journal-clause-puts g c =
    let V = g.R.Rig.view in
    let a = V c.args.rig.now in
    let b = V c.load.new.rig in
    sends_failed c.args.table.now c.args.count a b _ (segments_of c.from_residual.result) (err_of c.from_residual.result _ c.from_residual.ensures.1) (sends_nothing c.args.table.now c.args.count a b _ c.in_err-journal.ensures.calls tt)

pub returns-then-depth-eq0-clause-puts : goal.returns-then-depth-eq0-clause-puts
returns-then-depth-eq0-clause-puts g c =
    let V = g.R.Rig.view in
    sends_nothing c.args.table.now c.args.count (V c.args.rig.now) (V c.load.new.rig) _ c.in_ok-journal.ensures.calls refl

pub returns-in_err-chip-clause-puts : goal.returns-in_err-chip-clause-puts
returns-in_err-chip-clause-puts g c =
    let V = g.R.Rig.view in
    let a = V c.args.rig.now in
    let b = V c.load.new.rig in
    sends_failed c.args.table.now c.args.count a b _ (segments_of c.from_residual-in_err-chip.result) (err_of c.from_residual-in_err-chip.result _ c.from_residual-in_err-chip.ensures.1) (sends_nothing c.args.table.now c.args.count a b _ c.in_ok-journal.ensures.calls tt)

pub returns-in_err-meet-clause-puts : goal.returns-in_err-meet-clause-puts
returns-in_err-meet-clause-puts g c =
    let V = g.R.Rig.view in
    let a = V c.args.rig.now in
    let d = V c.meet.new.rig in
    let intent = intent_of c.in_ok-journal.journal.state in
    let chip = c.in_ok-chip.chip.now in
    sends_failed c.args.table.now c.args.count a d _ (segments_of c.from_residual-in_err-meet.result) (err_of c.from_residual-in_err-meet.result _ c.from_residual-in_err-meet.ensures.1)
    (sends_met c.args.table.now c.args.count a c.in_ok-journal.journal.is_greeted intent c.in-Some.id chip c.in_ok-chip.ensures.chip (V c.load.new.rig) d _ c.in_ok-journal.ensures.calls c.in_err-meet.ensures.puts)

pub returns-in_err-undo_confirmed-clause-puts : goal.returns-in_err-undo_confirmed-clause-puts
returns-in_err-undo_confirmed-clause-puts g c =
    let V = g.R.Rig.view in
    let a = V c.args.rig.now in
    let d = V c.undo_confirmed.new.rig in
    let intent = intent_of c.in_ok-journal.journal.state in
    let chip = c.in_ok-chip.chip.now in
    let taken = c.taken_count-segments in
    let limit : taken.result ≤ 65535 = omega (arith, taken.ensures.most, c.depth-depth.ensures.value, c.depth-depth.ensures.sound.depth) in
    sends_failed c.args.table.now c.args.count a d _ (segments_of c.from_residual-in_err-undo_confirmed.result) (err_of c.from_residual-in_err-undo_confirmed.result _ c.from_residual-in_err-undo_confirmed.ensures.1)
    (sends_back c.args.table.now c.args.count a c.in_ok-journal.journal.is_greeted intent c.in-Some.id chip c.in_ok-chip.ensures.chip taken.result (V c.load.new.rig) (V c.meet.new.rig) d _ limit taken.ensures.asked tt
    c.in_ok-journal.ensures.calls c.in_ok-meet.ensures.puts c.in_err-undo_confirmed.ensures.puts)

pub returns-clause-puts : goal.returns-clause-puts
returns-clause-puts g c =
    let V = g.R.Rig.view in
    let a = V c.args.rig.now in
    let d = V c.undo_confirmed.new.rig in
    let intent = intent_of c.in_ok-journal.journal.state in
    let chip = c.in_ok-chip.chip.now in
    let taken = c.taken_count-segments in
    let limit : taken.result ≤ 65535 = omega (arith, taken.ensures.most, c.depth-depth.ensures.value, c.depth-depth.ensures.sound.depth) in
    sends_back c.args.table.now c.args.count a c.in_ok-journal.journal.is_greeted intent c.in-Some.id chip c.in_ok-chip.ensures.chip taken.result (V c.load.new.rig) (V c.meet.new.rig) d _ limit taken.ensures.asked refl
    c.in_ok-journal.ensures.calls c.in_ok-meet.ensures.puts c.in_ok-undo_confirmed.ensures.puts

pub returns-then-depth-eq0-clause-given : goal.returns-then-depth-eq0-clause-given
returns-then-depth-eq0-clause-given g c some = absurd (omega (arith, some))

pub returns-clause-given : goal.returns-clause-given
returns-clause-given g c some =
    let V = g.R.Rig.view in
    let l = c.in_ok-journal.journal in
    let chip = c.in_ok-chip.chip.now in
    let way = settling_way chip.kind l.is_greeted (intent_of l.state) in
    let a = V c.args.rig.now in
    let b = V c.load.new.rig in
    let d = V c.meet.new.rig in
    let e = V c.undo_confirmed.new.rig in
    let back = c.in_ok-undo_confirmed.ensures.order in
    let met = c.in_ok-meet.ensures.order l.is_torn in
    let asking = asking_steps met.0 met.1 chip.id in
    let opened = fetched_then way l.is_torn asking a.calls b.calls d.calls c.in_ok-journal.ensures.calls met.2 in
    let told = told_by V (λ calls. SettlesFirst way l.is_torn asking calls) l.is_torn a d e opened in
    let taken = all_as c.args.again chip (behind_confirming chip (ToldIn V l.is_torn d e)) (behind_confirming chip (ToldBy V a e)) (pages_at_work l.state.stack) c.taken_count-segments.result (pages_of_segments l.state.stack) back.1.0 (λ steps page. told (confirming chip ++ steps) page) back.1.2 in
    record {
      journal = l;
      loaded = λ h. (c.in_ok-journal.ensures.honest h).loaded;
      sound = c.depth-depth.ensures.sound;
      chip = chip;
      listed = own-id c.args.table.now c.in-Some.id chip c.in_ok-chip.ensures.chip;
      board = c.in_ok-chip.ensures.board;
      does = (
        met.0,
        met.1,
        back.0,
        (back.1.0, back.1.1, (taken, c.kept_bytes-bytes.ensures)),
        fetched_then way l.is_torn (asking ++ back.0) a.calls b.calls e.calls c.in_ok-journal.ensures.calls (settled_then way l.is_torn asking back.0 b.calls d.calls e.calls refl met.2 back.2.acts),
      );
    }

pub returns-in_err-journal-clause-given_stops : goal.returns-in_err-journal-clause-given_stops
returns-in_err-journal-clause-given_stops g c =
    let V = g.R.Rig.view in
    let P : Fault → Type 0 = λ e. UndoStopsToldAs V c.args.again c.args.table.now c.args.count (V c.args.rig.now) (V c.load.new.rig) e in
    at_fault P _ c.from_residual.result c.from_residual.ensures.1 (inl c.in_err-journal.ensures.calls)

pub returns-in_err-chip-clause-given_stops : goal.returns-in_err-chip-clause-given_stops
returns-in_err-chip-clause-given_stops g c =
    let V = g.R.Rig.view in
    let P : Fault → Type 0 = λ e. UndoStopsToldAs V c.args.again c.args.table.now c.args.count (V c.args.rig.now) (V c.load.new.rig) e in
    at_fault P _ c.from_residual-in_err-chip.result c.from_residual-in_err-chip.ensures.1 (inl c.in_ok-journal.ensures.calls)

pub returns-in_err-meet-clause-given_stops : goal.returns-in_err-meet-clause-given_stops
returns-in_err-meet-clause-given_stops g c =
    let V = g.R.Rig.view in
    let l = c.in_ok-journal.journal in
    let chip = c.in_ok-chip.chip.now in
    let way = settling_way chip.kind l.is_greeted (intent_of l.state) in
    let a = V c.args.rig.now in
    let b = V c.load.new.rig in
    let d = V c.meet.new.rig in
    let P : Fault → Type 0 = λ e. UndoStopsToldAs V c.args.again c.args.table.now c.args.count a d e in
    at_fault P _ c.from_residual-in_err-meet.result c.from_residual-in_err-meet.ensures.1
    (inr (record {
      journal = l;
      loaded = λ h. (c.in_ok-journal.ensures.honest h).loaded;
      sound = c.depth-depth.ensures.sound;
      chip = chip;
      listed = own-id c.args.table.now c.in-Some.id chip c.in_ok-chip.ensures.chip;
      board = c.in_ok-chip.ensures.board;
      does = inl (fetched_stops way _ l.is_torn a.calls b.calls d.calls c.in_ok-journal.ensures.calls (c.in_err-meet.ensures.stops l.is_torn));
    }))

pub returns-in_err-undo_confirmed-clause-given_stops : goal.returns-in_err-undo_confirmed-clause-given_stops
returns-in_err-undo_confirmed-clause-given_stops g c =
    let V = g.R.Rig.view in
    let l = c.in_ok-journal.journal in
    let chip = c.in_ok-chip.chip.now in
    let intent = intent_of l.state in
    let segments = pages_of_segments l.state.stack in
    let way = settling_way chip.kind l.is_greeted intent in
    let a = V c.args.rig.now in
    let b = V c.load.new.rig in
    let d = V c.meet.new.rig in
    let e = V c.undo_confirmed.new.rig in
    let taken = c.taken_count-segments in
    let within : taken.result ≤ length l.state.stack = omega (arith, taken.ensures.most, c.depth-depth.ensures.value) in
    let met = c.in_ok-meet.ensures.order l.is_torn in
    let asking = asking_steps met.0 met.1 chip.id in
    let cause = cause_of c.in_err-undo_confirmed.field-0.0 in
    let Told = behind_confirming chip (ToldIn V l.is_torn d e) in
    let Given = ToldBy V a e in
    let opened = fetched_then way l.is_torn asking a.calls b.calls d.calls c.in_ok-journal.ensures.calls met.2 in
    let told = told_by V (λ calls. SettlesFirst way l.is_torn asking calls) l.is_torn a d e opened in
    let Begun = BeginTold (λ T. AreTakenAs c.args.again T taken.result chip l.state) Told in
    let Part = OrMisread c.args.again chip Begun in
    let Own = IsConfirmedInPart chip Part in
    let Back = IsConfirmedInPart chip (BeginTakingTold c.args.again Given c.args.count chip l.state) in
    let Cut = AreCutShort (IsAfter asking Own) cause l.is_torn in
    let P : Fault → Type 0 = λ x. UndoStopsToldAs V c.args.again c.args.table.now c.args.count a e x in
    let back = fetched_and way Cut a.calls b.calls e.calls c.in_ok-journal.ensures.calls (reached_stops way chip.id met.0 met.1 Own cause l.is_torn b d e met.2 c.in_err-undo_confirmed.ensures.stops) in
    let begun : (steps : List Step) → Own steps → Back steps =
    confirmed_as chip Part (BeginTakingTold c.args.again Given c.args.count chip l.state) (λ steps part. (
      taken.result,
      within,
      taken.ensures.asked,
      may_as c.args.again chip Begun (BeginTold (λ T. AreTakenAs c.args.again T taken.result chip l.state) (behind_confirming chip Given))
          (λ xs own.
          let n = length xs in
          (own.0, all_as c.args.again chip (so_far n Told) (so_far n (behind_confirming chip Given)) (pages_at_work l.state.stack) taken.result segments (xs ++ own.0) (λ ys page is lt. told (confirming chip ++ ys) page (is lt)) own.1)) steps part,
    )) in
    at_fault P _ c.from_residual-in_err-undo_confirmed.result c.from_residual-in_err-undo_confirmed.ensures.1
    (inr (record {
      journal = l;
      loaded = λ h. (c.in_ok-journal.ensures.honest h).loaded;
      sound = c.depth-depth.ensures.sound;
      chip = chip;
      listed = own-id c.args.table.now c.in-Some.id chip c.in_ok-chip.ensures.chip;
      board = c.in_ok-chip.ensures.board;
      does = inr (stops_as way chip.id l.is_torn Own Back cause a e begun (met.0, met.1, back));
    }))
