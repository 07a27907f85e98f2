-- A session in which a write is verified, exit by exit.
use Rattle.stm_session.proofs.Names.{AreDoneInOrder, asking_steps, can_erase, cause_of, command_refusals, confirming, contact_way, Fault, Follows, image_fits, IsAfter, IsCoherent, IsConfirmedInPart}
use Rattle.stm_session.proofs.Names.{IsWrittenAndSeen, Opened, OutcomeData, ReachesInOrder, refused_unless, RunDoes, RunDoesInPart, RunsInOrder, Session, Step, StepsOf, StopsBy, verifies}
use Rattle.stm_session.proofs.Names.{was_verified, WritesAndSees, written_then}
use Rattle.std.proofs.Common.{◌≡◌, inr, ◌+◌, ◌&&◌, ◌||◌, nat_le, Bool, true, false, List, [], ◌∷◌, ◌++◌, length, Option, Result, Ok, Err, IfOk, IfErr, OnOk, refl, sym, ap, ◌∙◌, subst, arith}
use Rattle.stm_image.specs.Layout.{IsAmong}
use Rattle.stm_image.specs.Pairs.{Pairs}
use Rattle.stm_wire.proofs.Names.{ChipData, Device, RigState}
use Rattle.stm_journal.proofs.Names.{IsLoaded, IsSound, Loaded, StateData}
use Rattle.stm_session.specs.declared.fault.Fault.TheVariants as faults
use Rattle.stm_session.specs.Meaning.{writes}
use Rattle.stm_session.specs.RunOrder.{none as none_done, more}
use Rattle.stm_session.proofs.Fitting.{unrefused-fits}
use Rattle.stm_session.proofs.KeptParts.{part_fits}
use Rattle.stm_session.proofs.KeptRuns.{after_as, as_session, does_as}
use Rattle.stm_session.proofs.Orders.{settled_then}
use Rattle.stm_session.proofs.Reaching.{reached_stops}

-- a part of an image is refused where the image is
pub part_refusals : (s : StateData) (d : Device) (chip : ChipData) (image part : Pairs) → IsAmong part image → command_refusals s d chip (writes image ∷ []) ≡ command_refusals s d chip (written_then image part)
part_refusals s d chip image part among =
    let refusals : Bool → List (Option Fault) = λ inside. refused_unless (can_erase chip d) faults.NoErase
    ∷ refused_unless inside faults.OutOfFlash ∷ refused_unless (nat_le (length s.stack + 1) 65535) faults.Full ∷ [] in
    ap refusals (inside (image_fits chip image) refl)
  where
    inside : (fits : Bool) → image_fits chip image ≡ fits → (image_fits chip image && true) ≡ (image_fits chip image && (image_fits chip part && true))
    inside true is = ap (λ q. image_fits chip image && (q && true)) (sym (part_fits chip image part among is))
    inside false is = ap (λ p. p && true) is ∙ sym (ap (λ p. p && (image_fits chip part && true)) is)

-- such steps are those of the two commands
seen_done : (chip : ChipData) (image part : Pairs) (outcomes : List OutcomeData) (s last : StateData) (steps : List Step) → IsWrittenAndSeen chip image part outcomes s last steps → AreDoneInOrder chip (written_then image part) outcomes s last steps
seen_done chip image part outcomes s last steps seen =
    let w = writes image in
    let v = verifies part in
    let first : AreDoneInOrder chip (w ∷ []) (seen.said ∷ []) s last seen.written = more [] w [] seen.said s s last [] seen.written (none_done s) seen.is_written seen.deeper in
    let both : AreDoneInOrder chip (w ∷ (v ∷ [])) (seen.said ∷ (was_verified ∷ [])) s last (seen.written ++ seen.read) = more (w ∷ []) v (seen.said ∷ []) was_verified s last last seen.written seen.read first seen.is_read (omega arith) in
    let O : List OutcomeData → Type 0 = λ os. AreDoneInOrder chip (w ∷ (v ∷ [])) os s last (seen.written ++ seen.read) in
    let S : List Step → Type 0 = λ xs. AreDoneInOrder chip (w ∷ (v ∷ [])) outcomes s last xs in
    subst S (sym seen.is) (subst O (sym seen.told) both)

pub seen_runs : (table : List ChipData) (image part : Pairs) (outcomes : List OutcomeData) (a b : RigState) → WritesAndSees table image part outcomes a b → RunsInOrder table (written_then image part) a b
seen_runs table image part outcomes a b =
    as_session table a _ _ (λ chip l sound. does_as contact_way chip.id l.is_torn _ _ a b (after_as (confirming chip) _ _ (λ steps seen. (outcomes, seen.0, seen_done chip image part outcomes l.state seen.0 steps seen.1))))

-- what an answer is of
pub on_value : {T : Type 0} {P Q : T → Type 0} (r : Result T Fault) → ((x : T) → P x → Q x) → IfOk r P → IfOk r Q
on_value (Ok x) f p = f x p
on_value (Err e) f p = tt

pub on_done : {T : Type 0} {P : T → Type 0} {Q : Type 0} (r : Result T Fault) → ((x : T) → P x → Q) → IfOk r P → OnOk r Q
on_done (Ok x) f p = f x p
on_done (Err e) f p = tt

pub on_fault : {T : Type 0} {P Q : Fault → Type 0} (r : Result T Fault) → ((e : Fault) → P e → Q e) → IfErr r P → IfErr r Q
on_fault (Ok x) f p = tt
on_fault (Err e) f p = f e p

-- A session was opened, and the commands checked.
module _ (table : List ChipData) (a b : RigState) (opened : Opened) (coherent : IsCoherent table opened) (loaded : a.is_honest → IsLoaded opened.journal a.journal) (sound : IsSound opened.journal.state)
    (order : (torn : Bool) → ReachesInOrder contact_way opened.chip.now.id torn a b) where
  session : (Does : ChipData → Loaded → Type 0) → Does opened.chip.now opened.journal → Session table a Does
  session Does does =
      record { journal = opened.journal; loaded = loaded; sound = sound; chip = opened.chip.now; listed = coherent.chip; board = (unrefused-fits opened.chip.now opened.journal.state coherent.fits).board; does = does }

  -- such steps follow
  pub session_does : (P : StepsOf) (l2 : Loaded) (d : RigState) → Follows (IsAfter (confirming opened.chip.now) (P opened.chip.now opened.journal.state)) opened.journal l2 b d → RunDoes P table a d
  session_does P l2 d done =
      let l = opened.journal in
      let reached = order l.is_torn in
      session _ (reached.0, reached.1, done.0, done.1, settled_then contact_way l.is_torn (asking_steps reached.0 reached.1 _) done.0 a.calls b.calls d.calls refl reached.2 done.2.acts)

  -- or a beginning of such
  pub session_stops : (P : StepsOf) (d : RigState) (e : Fault) → StopsBy (IsConfirmedInPart opened.chip.now (P opened.chip.now opened.journal.state)) (cause_of e) opened.journal.is_torn b d → RunDoesInPart P table a d e
  session_stops P d e stops =
      let l = opened.journal in
      let reached = order l.is_torn in
      inr (session _ (reached.0, reached.1, reached_stops contact_way opened.chip.now.id reached.0 reached.1 (IsConfirmedInPart opened.chip.now (P opened.chip.now l.state)) (cause_of e) l.is_torn a b d reached.2 stops))
