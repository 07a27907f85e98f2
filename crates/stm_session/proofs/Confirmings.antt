-- Asking a device once more for its unique id: the frames of that, what it tells, and what comes behind.
use Rattle.std.proofs.Common.{◌≡◌, inl, inr, ⊎_elim, ℕ, ◌+◌, ◌≤◌, ◌&&◌, ◌==◌, Bool, true, false, List, [], ◌∷◌, length, Option, Some, None, Result, IsErrAnd, IsTrue, refl, sym, ◌∙◌, ap, ap₂, subst, arith}
use Rattle.std.specs.Prelude.{◌⊎◌, bytes_eq}
use Rattle.std.proofs.lemmas.Bool.Decides.{nat_tests}
use Rattle.std.proofs.lemmas.Slice.Eq.{bytes_eq-Decides}
use Rattle.stm_wire.specs.declared.fault.WireFault.{WireFault}
use Rattle.stm_wire.specs.declared.places.UniquePlace.{UniquePlace}
use Rattle.stm_wire.proofs.Names.{at_address, at_code, at_count, Call, ChipData, Device, GoesOn, is_unique_length, IsBrokenOff, IsDevice, IsFrame, IsHeadOfRead, IsPart, IsRefusedRead, IsTold}
use Rattle.stm_wire.proofs.Names.{read_frame, read_turns, ReadsOrIsRefused, RigState, sent_bytes, tells, Turn}
use Rattle.stm_wire.specs.lemmas.DialogueLaws.{read_sends}
use Rattle.stm_wire.specs.lemmas.PartLaws.{broken_is_part, held_is_part, part_longer}
use Rattle.stm_journal.proofs.Names.{Loaded}
use Rattle.stm_session.proofs.Names.{Begin, came_in, cause_of, confirm_steps, confirmed_at, confirming, DoesSteps, Fault, FaultEnds, HasAgain, IsAsked, IsConfirming, IsInOrder, IsOfLine}
use Rattle.stm_session.proofs.Names.{most_of_confirming, Sends, Step, StopsBy, TellsAgain, torn_behind}
use Rattle.stm_session.specs.declared.fault.Fault.TheVariants.{Memory, BoardChanged, Unfinished}
use Rattle.stm_session.specs.lemmas.ClosingLaws.{place_known}
use Rattle.stm_session.proofs.AskingBoards.{read_broken_length, refused_length}
use Rattle.stm_session.proofs.CutShort.{begin_as, part_stops}
use Rattle.stm_session.proofs.ToldBoards.{unique_same}

-- the frame of such a read, or its head
pub refused_sends : (address size : ℕ) (frame : List ℕ) (turns : List Turn) → IsRefusedRead address size frame turns → sent_bytes turns ≡ frame
refused_sends address size frame turns (at_code f t) = ap (λ (l : List Turn). sent_bytes l) t ∙ sym f
refused_sends address size frame turns (at_address f t) = ap (λ (l : List Turn). sent_bytes l) t ∙ sym f
refused_sends address size frame turns (at_count f t) = ap (λ (l : List Turn). sent_bytes l) t ∙ sym f

pub refused_head : (address size : ℕ) (frame : List ℕ) (turns : List Turn) → IsRefusedRead address size frame turns → IsHeadOfRead address size frame
refused_head address size frame turns (at_code f t) = inr (inl f)
refused_head address size frame turns (at_address f t) = inr (inr f)
refused_head address size frame turns (at_count f t) = inl f

module _ (chip : ChipData) (place : UniquePlace) (known : chip.places.unique ≡ Some place) (address size : ℕ) (at : address ≡ place.address) (same : size ≡ place.length) where
  telling : (frame : List ℕ) → IsHeadOfRead address size frame → IsFrame (Some chip) frame
  telling frame head =
      let P : ℕ → Type 0 = λ x. IsHeadOfRead x place.length frame in
      let Q : ℕ → Type 0 = λ n. IsHeadOfRead address n frame in
      tells chip place refl known (subst P at (subst Q same head))

  pub place_held : (bytes : List ℕ) (a b : RigState) (told : Bool) → length bytes ≡ size → ReadsOrIsRefused address size bytes a b told → GoesOn (IsPart (Some chip) true (12 + size)) a.calls b.calls
  place_held bytes a b true len held =
      held_is_part (Some chip) (12 + size) (read_frame address size) (read_turns address bytes) a.calls b.calls (read_sends address bytes ∙ ap (λ (n : ℕ). read_frame address n) len)
      (telling (read_frame address size) (inl refl)) (read_broken_length address size bytes len) held.recorded
  place_held bytes a b false len (frame, turns, is, held) =
      held_is_part (Some chip) (12 + size) frame turns a.calls b.calls (refused_sends address size frame turns is) (telling frame (refused_head address size frame turns is)) (refused_length address size frame turns is) held.recorded

  pub place_broken : (answer : List ℕ) (fault : WireFault) (a b : Option (List Call)) → length answer ≡ size → GoesOn (IsBrokenOff fault (read_turns address answer)) a b → GoesOn (IsPart (Some chip) false (12 + size)) a b
  place_broken answer fault a b len broken =
      broken_is_part (Some chip) (12 + size) (read_frame address size) (read_turns address answer) fault a b (read_sends address answer ∙ ap (λ (n : ℕ). read_frame address n) len)
      (telling (read_frame address size) (inl refl)) (read_broken_length address size answer len) broken

-- what came is the number, or isn't
module _ (place : UniquePlace) (unique : List ℕ) (torn : Bool) (a b : RigState) (count : ℕ) (long : count ≡ place.length) where
  abbrev Came : Bool → List ℕ → Type 0
  Came told bytes = (steps : List Step) × IsAsked place.address count (came_in told bytes) steps × GoesOn (IsInOrder torn steps) a.calls b.calls

  other : (told : Bool) (bytes : List ℕ) → Came told bytes → TellsAgain false place unique torn a b
  other told bytes (steps, asked, goes) =
      let A : ℕ → Type 0 = λ n. IsAsked place.address n (came_in told bytes) steps in
      (steps, (came_in told bytes, subst A long asked), goes)

  came_or_not : (bytes : List ℕ) (e : Bool) → bytes_eq bytes unique ≡ e → Came true bytes → TellsAgain e place unique torn a b
  came_or_not bytes true e (steps, (len, is), goes) =
      let one : bytes ≡ unique = (bytes_eq-Decides bytes unique).0 e in
      let P : List Step → Type 0 = λ l. GoesOn (IsInOrder torn l) a.calls b.calls in
      subst P (is ∙ ap (λ (xs : List ℕ). Sends (read_turns place.address xs) ∷ []) one) goes
  came_or_not bytes false e came = other true bytes came

  -- it is asked in part
  pub confirm_unasked : {U : Type 0} (e : Fault) (result : Result U Fault) → IsErrAnd result (λ x. x ≡ e) → StopsBy (Begin (λ steps. (came : Option (List ℕ)) × IsAsked place.address count came steps)) (cause_of e) torn a b
      → FaultEnds (Begin (IsConfirming (Some place))) torn a b result
  confirm_unasked e result is stops =
      let P : List Step → Type 0 = λ steps. (came : Option (List ℕ)) × IsAsked place.address count came steps in
      let C : (xs : List Step) → (came : Option (List ℕ)) → IsAsked place.address count came xs → IsAsked place.address place.length came xs = λ xs came asked. subst (λ (n : ℕ). IsAsked place.address n came xs) long asked in
      part_stops (Begin P) (Begin (IsConfirming (Some place))) torn a b e result is (begin_as P (IsConfirming (Some place)) (λ xs x. (x.0, C xs x.0 x.1))) stops

  pub told_again : (told same : Bool) (bytes : List ℕ) → same ≡ (told && bytes_eq bytes unique) → (steps : List Step) × IsAsked place.address count (came_in told bytes) steps × GoesOn (IsInOrder torn steps) a.calls b.calls
      → TellsAgain same place unique torn a b
  told_again told same bytes is came = let T : Bool → Type 0 = λ s. TellsAgain s place unique torn a b in subst T (sym is) (at told came)
    where
      at : (told : Bool) → Came told bytes → TellsAgain (told && bytes_eq bytes unique) place unique torn a b
      at true came = came_or_not bytes (bytes_eq bytes unique) refl came
      at false came = other false bytes came

-- in few calls
pub short_enough : (n : ℕ) → IsTrue (is_unique_length n) → n ≤ 32
short_enough n long = grind (arith, nat_tests)

pub confirm_part : (chip : ChipData) (whole : Bool) (place : UniquePlace) (count : ℕ) (a b : Option (List Call)) → count ≡ place.length → IsTrue (is_unique_length place.length) → GoesOn (IsPart (Some chip) whole (12 + count)) a b
    → GoesOn (IsPart (Some chip) whole most_of_confirming) a b
confirm_part chip whole place count a b same long p = part_longer (Some chip) whole (12 + count) most_of_confirming a b (omega (arith, same, short_enough place.length long)) p

-- a device that has it tells it
pub again_read : (d : Device) → IsDevice d → (place : UniquePlace) (unique bytes : List ℕ) (told same : Bool) (count : ℕ) → count ≡ place.length → same ≡ (told && bytes_eq bytes unique) → IsTold place.address count bytes d told
    → HasAgain place unique d.chip → same ≡ true
again_read d is place unique bytes told same count long eq told_is has =
    let one : (length d.chip.unique == place.length) ≡ true = ap (λ (u : List ℕ). length u == place.length) has.has ∙ has.long in
    let both = unique_same d is place has.known count bytes told long told_is one in
    eq ∙ ap₂ (λ (t : Bool) (xs : List ℕ). t && bytes_eq xs unique) both.0 (both.1 ∙ has.has) ∙ (bytes_eq-Decides unique unique).1 refl

-- a device of this chip has its unique id there
pub has_again : (chip own : ChipData) (place : UniquePlace) → own ≡ chip → confirmed_at chip ≡ Some place → HasAgain place chip.unique own
has_again chip own place same is =
    let known = place_known chip.places.unique chip.unique place is in
    record { known = ap (λ (c : ChipData). c.places.unique) same ∙ known.0; has = ap (λ (c : ChipData). c.unique) same; long = known.1 }

-- a torn tail stays
confirm_torn : (p : Option UniquePlace) (unique : List ℕ) (torn : Bool) → torn_behind torn (confirm_steps p unique) ≡ torn
confirm_torn None unique torn = refl
confirm_torn (Some place) unique torn = refl

pub does_confirm : (chip : ChipData) (l : Loaded) (a b : RigState) → GoesOn (IsInOrder l.is_torn (confirming chip)) a.calls b.calls → DoesSteps (confirming chip) l l a b
does_confirm chip l a b goes = record { acts = goes; torn = sym (confirm_torn (confirmed_at chip) chip.unique l.is_torn) }

-- its faults
pub is_no_memory : (e : Fault) → IsOfLine e ⊎ (e ≡ BoardChanged) → e ≡ Memory → ⊥
is_no_memory e named is = ⊎_elim (λ line. subst IsOfLine is line) (λ same. let h : BoardChanged ≡ Memory = sym same ∙ is in cc) named

pub is_finished : (e : Fault) → IsOfLine e ⊎ (e ≡ BoardChanged) → e ≡ Unfinished → ⊥
is_finished e named is = ⊎_elim (λ line. subst IsOfLine is line) (λ same. let h : BoardChanged ≡ Unfinished = sym same ∙ is in cc) named
