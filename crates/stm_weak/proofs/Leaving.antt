-- What a call leaves, behind settling under the intent of the lines.
use Rattle.std.proofs.Common.{◌≡◌, ⊎_elim, ℕ, zero, suc, ◌<◌, ◌==◌, ◌&&◌, Bool, true, false, not}
use Rattle.std.proofs.Common.{if◌then◌else◌, List, [], ◌∷◌, ◌++◌, Contains, Option, Some, None}
use Rattle.std.proofs.Common.{refl, sym, arith}
use Rattle.std.proofs.lemmas.Bool.{false≢true}
use Rattle.std.proofs.lemmas.Bool.Decides.{nat_tests}
use Rattle.stm_wire.specs.declared.intent.Intent.{Intent}
use Rattle.stm_wire.specs.declared.intent.Intent.TheVariants.{Erase, Program}
use Rattle.stm_wire.proofs.Names.{Call, ChipData, GoesOn, intended_pages, page_count, RigState}
use Rattle.stm_journal.specs.declared.stage.Stage.{Stage}
use Rattle.stm_journal.specs.declared.stage.Stage.TheVariants.{Open, Ended, Returning}
use Rattle.stm_journal.proofs.Names.{intent_at, intent_of, is_ended_stage, is_unfinished, SegmentData, StateData}
use Rattle.stm_session.proofs.Names.{AreCutShort, asking_steps, beside, Cause, confirming, has_companion, IsAfter, IsConfirmedInPart, pages_of_intent, ReachesAndStops, SettlesThen, Step, Way}
use Rattle.stm_weak.specs.Weak.{WeakEvent, settles, NoneIs, intent_after, intent_behind, weak_after}
use Rattle.stm_weak.specs.Weak.{weak_behind}
use Rattle.stm_weak.specs.Believed.{AreAtWork, NoneBelieved}
use Rattle.stm_weak.specs.History.{left_events, part_in, stopped_events}
use Rattle.stm_weak.proofs.Clauses.{all_believed}
use Rattle.stm_weak.proofs.Sessions.{Own, reached_goes, reached_none, stopped_goes}
use Rattle.stm_weak.proofs.Mending.{no_page}
use Rattle.stm_weak.proofs.Walking.{Free, done_of, none_believed, past, still}

-- Settling may change no page but those at work.
by_one : (m n : ℕ) (one two : Bool) → (m == 1) ≡ one → (n ≡ 257 → two ≡ true)
    → Contains (if one then 1 ∷ 257 ∷ [] else m ∷ []) n
    → Contains (m ∷ (if one && two then 257 ∷ [] else [])) n
by_one m n true true is has (zero, lt, e) =
    let same : m ≡ n = grind (arith, is, e) in
    (zero, omega arith, same)
by_one m n true true is has (suc zero, lt, e) = (suc zero, omega arith, e)
by_one m n true true is has (suc (suc k), lt, e) = absurd (omega (arith, lt))
by_one m n true false is has (zero, lt, e) =
    let same : m ≡ n = grind (arith, is, e) in
    (zero, omega arith, same)
by_one m n true false is has (suc zero, lt, e) = absurd (false≢true (has (sym e)))
by_one m n true false is has (suc (suc k), lt, e) = absurd (omega (arith, lt))
by_one m n false two is has p = p

settled_at_work : (chip : ChipData) (o : Option Intent) (n : ℕ) → n < page_count chip
    → Contains (intended_pages o) n → Contains (pages_of_intent o (has_companion chip)) n
settled_at_work chip None n lt is = is
settled_at_work chip (Some (Erase m)) n lt is =
    by_one m n (m == 1) (has_companion chip) refl
    (λ same. grind (arith, nat_tests, same, lt)) is
settled_at_work chip (Some (Program m)) n lt is = first is
  where
    first : Contains (m ∷ []) n → Contains (m ∷ beside m (has_companion chip)) n
    first (zero, lt, e) = (zero, omega arith, e)
    first (suc k, lt, e) = absurd (omega (arith, lt))

pub settled : (chip : ChipData) (W : ℕ → Type 0) (o : Option Intent)
    → AreAtWork (has_companion chip) W o
    → AreAtWork (has_companion chip) (weak_after chip W (settles o)) o
settled chip W o now n w =
    ⊎_elim (λ was. now n was) (λ own. settled_at_work chip o n own.0 own.1) w

-- where nothing is unfinished there is no intent
pub no_intent : (s : StateData) → is_unfinished s ≡ false → intent_of s ≡ None
no_intent s finished = by_stack s.stack finished
  where
    by_stack : (stack : List SegmentData)
        → is_unfinished (record s { stack = stack }) ≡ false
        → intent_of (record s { stack = stack }) ≡ None
    by_stack [] finished = refl
    by_stack (segment ∷ below) finished = by_stage segment.stage finished
      where
        by_stage : (stage : Stage) → not (is_ended_stage stage) ≡ false → intent_at stage ≡ None
        by_stage (Open i) finished = absurd (false≢true (sym finished))
        by_stage Ended finished = refl
        by_stage (Returning i) finished = absurd (false≢true (sym finished))

-- what a call has to leave
pub record Leaves (chip : ChipData) (W : ℕ → Type 0) (o : Option Intent)
    (events : List WeakEvent) : Type 0 where
  pub believed : NoneBelieved chip (has_companion chip) W o events
  pub none : NoneIs (λ n. weak_behind chip W events n)

-- A session whose steps were done, behind settling under the intent of the lines.
pub done_leaves : (chip : ChipData) (W : ℕ → Type 0) (o : Option Intent) (version : ℕ)
    (codes : List ℕ)
    (steps own : List Step) → AreAtWork (has_companion chip) W o → steps ≡ confirming chip ++ own
    → Own chip (has_companion chip) o own
    → ((W1 : ℕ → Type 0) → AreAtWork (has_companion chip) W1 o → NoneIs (λ n. past chip W1 own n))
    → Leaves chip W o (settles o ∷ done_of (asking_steps version codes chip.id ++ steps))
done_leaves chip W o version codes steps own now is go none =
    let W1 : ℕ → Type 0 = weak_after chip W (settles o) in
    let both = has_companion chip in
    let later = settled chip W o now in
    let all : List Step = asking_steps version codes chip.id ++ steps in
    record {
      believed = (
        refl,
        later,
        all_believed chip both W1 o all later
            (reached_goes chip both W1 o version codes steps own later is go),
      );
      none = reached_none chip both W1 o version codes steps own later is none;
    }

-- One that was stopped.
part_believed : (chip : ChipData) (W : ℕ → Type 0) (o : Option Intent) (whole version : ℕ)
    (codes : List ℕ) (way : Way) (torn : Bool) (cause : Cause) (P : List Step → Type 0)
    (a b : Option (List Call))
    (goes : GoesOn
    (SettlesThen way
    (AreCutShort (IsAfter (asking_steps version codes chip.id)
    (IsConfirmedInPart chip P)) cause torn))
    a b)
    → AreAtWork (has_companion chip) W o
    → ((xs : List Step) → P xs → Own chip (has_companion chip) o xs)
    → (let part =
    part_in way (IsAfter (asking_steps version codes chip.id)
    (IsConfirmedInPart chip P)) cause torn a b
    goes
    in
    NoneBelieved chip (has_companion chip) W o (done_of part.done ++ left_events whole part.failed))
part_believed chip W o whole version codes way torn cause P None b goes now go = tt
part_believed chip W o whole version codes way torn cause P (Some past) b goes now go =
    let cut = goes.2.5 in
    none_believed chip (has_companion chip) W o whole cut.done cut.failed now
    (stopped_goes chip (has_companion chip) W o version codes P _ cut.allowed.0 now cut.allowed.1
    cut.allowed.2 go)

pub stopped_believed : (chip : ChipData) (W : ℕ → Type 0) (o : Option Intent) (whole : ℕ)
    (way : Way)
    (torn : Bool) (cause : Cause) (P : List Step → Type 0) (old new : RigState)
    (reached : ReachesAndStops way chip.id torn (IsConfirmedInPart chip P) cause old new)
    → AreAtWork (has_companion chip) W o
    → ((xs : List Step) → P xs → Own chip (has_companion chip) o xs)
    → NoneBelieved chip (has_companion chip) W o
    (stopped_events o whole way chip.id torn (IsConfirmedInPart chip P) cause old new reached)
stopped_believed chip W o whole way torn cause P old new reached now go =
    let later = settled chip W o now in (
      refl,
      later,
      part_believed chip (weak_after chip W
          (settles o)) o whole reached.0 reached.1 way torn cause P
          old.calls new.calls reached.2 later go,
    )

-- where no page may be weak, and there is no intent
pub free_own : (chip : ChipData) (own : List Step) → Free chip (has_companion chip) own
    → Own chip (has_companion chip) None own
free_own chip own free W now = free W None (λ n w. no_page n (now n w))

pub free_none : (chip : ChipData) (own : List Step) (W : ℕ → Type 0)
    → AreAtWork (has_companion chip) W None → NoneIs (λ n. past chip W own n)
free_none chip own W now n w = no_page n (now n (still chip W own n w))

-- What is believed nowhere leaves each page that may be weak at work.
pub behind_at_work : (chip : ChipData) (both : Bool) (W : ℕ → Type 0) (o : Option Intent)
    (events : List WeakEvent) → AreAtWork both W o → NoneBelieved chip both W o events
    → AreAtWork both (λ n. weak_behind chip W events n) (intent_behind o events)
behind_at_work chip both W o [] now p = now
behind_at_work chip both W o (event ∷ events) now (may, later, p) =
    behind_at_work chip both (weak_after chip W event) (intent_after o event) events later p
