-- What an undo did, by its clauses: it believes no page at work.
use Rattle.std.proofs.Common.{◌⊎◌, inl, inr, ℕ, Bool, true, false, List, [], ◌∷◌, Contains, Option}
use Rattle.stm_wire.specs.declared.intent.Intent.{Intent}
use Rattle.stm_wire.proofs.Names.{ChipData, GoesOn, RigState}
use Rattle.stm_wire.specs.lemmas.DialogueLaws.{GoesOn-weaker}
use Rattle.stm_journal.proofs.Names.{intent_of, keeps, newest_has, pages_of_segments, StateData}
use Rattle.stm_session.specs.declared.fault.Fault.{Fault}
use Rattle.stm_session.specs.declared.returned.Returned.{Returned}
use Rattle.stm_session.proofs.Names.{Adds, AreCutShort, AreUndoneInOrder, asking_steps, BeginTaking, Cause, cause_of, GivesBackInOrder, IsAfter, IsConfirmedInPart, pages_at_work, ReachesAndStops}
use Rattle.stm_session.proofs.Names.{ReachesInPart, Sends, SettlesThen, settling_way, Step, StepsOf, UndoDoes, UndoDoesInPart, UndoesInOrder, UndoStopsAs, untold, Way}
use Rattle.stm_weak.specs.Weak.{does, intent_with_lines, weak_after}
use Rattle.stm_weak.specs.Believed.{AreAtWork, BelievesNone, HealsAll, NoneBelieved, UndoHeals}
use Rattle.stm_weak.specs.Believed.{UndoStopsHealing}
use Rattle.stm_weak.proofs.Misreading.{begun_goes}
use Rattle.stm_weak.proofs.Mending.{all_mend}
use Rattle.stm_weak.proofs.Walking.{Goes, done_of, within_all}

-- such steps believe no page that may be weak
pub all_believed : (chip : ChipData) (both : Bool) (W : ℕ → Type 0) (o : Option Intent)
    (steps : List Step) → AreAtWork both W o → Goes chip both W o steps
    → NoneBelieved chip both W o (done_of steps)
all_believed chip both W o [] now p = tt
all_believed chip both W o (Adds entries ∷ steps) now (within, p) =
    let later = within_all both W o entries now within in
    (tt, later, all_believed chip both W (intent_with_lines o entries) steps later p)
all_believed chip both W o (Sends turns ∷ steps) now (put, p) =
    let later : AreAtWork both (weak_after chip W (does (Sends turns))) o = λ n w. now n w.0 in
    (put, later, all_believed chip both (weak_after chip W (does (Sends turns))) o steps later p)

-- page 257 is at work with page 1
abbrev both_of : StateData → Bool
both_of s = newest_has (λ segment. keeps segment 257) s.stack

taken_heals : (again : Bool) (taken : ℕ) (chip : ChipData) (s : StateData) (steps : List Step)
    → AreUndoneInOrder again taken chip s steps → HealsAll chip s steps
taken_heals again taken chip s steps are =
    let W : ℕ → Type 0 = λ n. Contains (pages_at_work s.stack) n in
    let now : AreAtWork (both_of s) W (intent_of s) = λ n w. w in
    let mends =
    all_mend again chip (both_of s) untold (intent_of s) W taken (pages_of_segments s.stack) steps
    now are
    in
    (all_believed chip (both_of s) W (intent_of s) steps now mends.goes, mends.none)

begun_believes : (again : Bool) (count : ℕ) (chip : ChipData) (s : StateData) (steps : List Step)
    → BeginTaking again count chip s steps → BelievesNone chip s steps
begun_believes again count chip s steps (taken, depth, most, are) =
    let W : ℕ → Type 0 = λ n. Contains (pages_at_work s.stack) n in
    let now : AreAtWork (both_of s) W (intent_of s) = λ n w. w in
    all_believed chip (both_of s) W (intent_of s) steps now
    (begun_goes again chip (both_of s) untold (intent_of s) W taken (pages_of_segments s.stack)
    steps now are)

-- other steps are allowed too
undo_as : (table : List ChipData) (old new : RigState) (P Q : StepsOf)
    → ((chip : ChipData) (s : StateData) (steps : List Step) → P chip s steps → Q chip s steps)
    → UndoDoes P table old new → UndoDoes Q table old new
undo_as table old new P Q more x =
    let does = x.does in
    record {
      journal = x.journal;
      loaded = x.loaded;
      sound = x.sound;
      chip = x.chip;
      listed = x.listed;
      board = x.board;
      does = (
        does.0,
        does.1,
        does.2,
        (does.3.0, does.3.1, more x.chip x.journal.state does.3.0 does.3.2),
        does.4,
      );
    }

confirmed_as : (chip : ChipData) (P Q : List Step → Type 0) → ((xs : List Step) → P xs → Q xs)
    → (xs : List Step) → IsConfirmedInPart chip P xs → IsConfirmedInPart chip Q xs
confirmed_as chip P Q more xs (inl asked) = inl asked
confirmed_as chip P Q more xs (inr (own, is, p)) = inr (own, is, more own p)

stops_as : (way : Way) (chip : ChipData) (torn : Bool) (P Q : List Step → Type 0) (cause : Cause)
    (old new : RigState) → ((xs : List Step) → P xs → Q xs)
    → ReachesAndStops way chip.id torn (IsConfirmedInPart chip P) cause old new
    → ReachesAndStops way chip.id torn (IsConfirmedInPart chip Q) cause old new
stops_as way chip torn P Q cause old new more (version, codes, goes) =
    let asked : List Step = asking_steps version codes chip.id in (
      version,
      codes,
      GoesOn-weaker
          (SettlesThen way (AreCutShort (IsAfter asked (IsConfirmedInPart chip P)) cause torn))
          (SettlesThen way (AreCutShort (IsAfter asked (IsConfirmedInPart chip Q)) cause torn))
          old.calls new.calls goes
          (λ all x.
          let cut = x.5 in (
            x.0,
            x.1,
            x.2,
            x.3,
            x.4,
            record {
              done = cut.done;
              failed = cut.failed;
              allowed = (
                cut.allowed.0,
                cut.allowed.1,
                confirmed_as chip P Q more cut.allowed.0 cut.allowed.2,
              );
              last = cut.last;
              fails = cut.fails;
              is = cut.is;
            },
          )),
    )

undo_stops_as : (table : List ChipData) (old new : RigState) (fault : Fault)
    (P Q : StepsOf)
    → ((chip : ChipData) (s : StateData) (steps : List Step) → P chip s steps → Q chip s steps)
    → UndoDoesInPart P table old new fault → UndoDoesInPart Q table old new fault
undo_stops_as table old new fault P Q more (inl fetched) = inl fetched
undo_stops_as table old new fault P Q more (inr x) =
    inr
    (record {
      journal = x.journal;
      loaded = x.loaded;
      sound = x.sound;
      chip = x.chip;
      listed = x.listed;
      board = x.board;
      does = either x.does;
    })
  where
    either : (let way = settling_way x.chip.kind x.journal.is_greeted (intent_of x.journal.state) in
        GoesOn (ReachesInPart way (cause_of fault) x.journal.is_torn) old.calls new.calls
        ⊎ ReachesAndStops way x.chip.id x.journal.is_torn
        (IsConfirmedInPart x.chip (P x.chip x.journal.state)) (cause_of fault) old new)
        → (let way = settling_way x.chip.kind x.journal.is_greeted (intent_of x.journal.state) in
        GoesOn (ReachesInPart way (cause_of fault) x.journal.is_torn) old.calls new.calls
        ⊎ ReachesAndStops way x.chip.id x.journal.is_torn
        (IsConfirmedInPart x.chip (Q x.chip x.journal.state)) (cause_of fault) old new)
    either (inl unreached) = inl unreached
    either (inr stops) =
        inr
        (stops_as (settling_way x.chip.kind x.journal.is_greeted (intent_of x.journal.state)) x.chip
        x.journal.is_torn (P x.chip x.journal.state) (Q x.chip x.journal.state) (cause_of fault)
        old new (λ xs p. more x.chip x.journal.state xs p) stops)

pub undo_heals : (table : List ChipData) (taken : ℕ) (old new : RigState)
    → UndoesInOrder table taken old new → UndoHeals table old new
undo_heals table taken old new x =
    undo_as table old new (AreUndoneInOrder false taken) HealsAll
    (λ chip s steps are. taken_heals false taken chip s steps are) x

pub verified_heals : (table : List ChipData) (returned : Returned)
    (old new : RigState) → GivesBackInOrder true table returned old new
    → UndoHeals table old new
verified_heals table returned old new x =
    undo_as table old new _ HealsAll
    (λ chip s steps are. taken_heals true returned.segments chip s steps are.0) x

pub undo_stops_healing : (again : Bool) (table : List ChipData) (count : ℕ)
    (old new : RigState) (fault : Fault) → UndoStopsAs again table count old new fault
    → UndoStopsHealing table old new fault
undo_stops_healing again table count old new fault x =
    undo_stops_as table old new fault (BeginTaking again count) BelievesNone
    (λ chip s steps are. begun_believes again count chip s steps are) x
