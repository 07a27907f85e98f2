-- What a run and an undo did, by their clauses.
use Rattle.std.proofs.Common.{◌≡◌, ◌⊎◌, inl, inr, ℕ, List, [], ◌∷◌, ◌++◌, length, refl, sym, ◌∙◌, subst}
use Rattle.stm_image.specs.Lay.{lay}
use Rattle.stm_image.specs.Pairs.{Pairs}
use Rattle.stm_wire.proofs.Names.{Call, ChipData, GoesOn, RigState}
use Rattle.stm_journal.specs.declared.entry.Entry.{Entry}
use Rattle.stm_journal.proofs.Names.{intent_of, Loaded, pages_of_segments}
use Rattle.stm_session.specs.declared.fault.Fault.{Fault}
use Rattle.stm_session.proofs.Names.{Adds, AreBegun, AreDoneSomehow, cause_of, CommandData, contact_way, IsConfirmedInPart, PutsBackFrom, ReachesAndStops, ReachesInPart, RunsInOrder, RunStops, Sends}
use Rattle.stm_session.proofs.Names.{Session, settling_way, Step, UndoPutsBack, UndoStopsBack}
use Rattle.stm_any_line.specs.Segments.{segments_behind, segments_behind_lines, segments_behind_steps}
use Rattle.stm_any_line.specs.Texts.{IsLoadedAs, lines_of}
use Rattle.stm_any_line.specs.Calls.{DoesBehind, IsOfIfAny, Made, RunSays, UndoSays}
use Rattle.stm_any_line.proofs.Tracking.{Segments}
use Rattle.stm_any_line.proofs.Turning.{begun_track, done_tracks}
use Rattle.stm_any_line.proofs.Returning.{AreSame, puts_say, puts_track}
use Rattle.stm_any_line.proofs.Adding.{begun_say, done_say}
use Rattle.stm_any_line.proofs.Doing.{does_nothing, does_stopped, does_unreached, does_whole}

pub does_as : (Says : Entry → Type 0) (c chip : ChipData) (j l : Loaded) (before : List Step) (calls : List Call)
    → c ≡ chip → j ≡ l → DoesBehind Says c before j.is_torn calls → DoesBehind Says chip before l.is_torn calls
does_as Says c chip j l before calls same_chip same_journal does =
    let P : ChipData → Type 0 = λ x. DoesBehind Says x before l.is_torn calls in
    let Q : Loaded → Type 0 = λ x. DoesBehind Says c before x.is_torn calls in
    subst P same_chip (subst Q same_journal does)

-- the segments of lines, and of the steps that add them
lines-append : (s : Segments) (xs ys : List Entry)
    → segments_behind_lines s (xs ++ ys) ≡ segments_behind_lines (segments_behind_lines s xs) ys
lines-append s [] ys = refl
lines-append s (e ∷ xs) ys = lines-append (segments_behind s e) xs ys

steps-lines : (s : Segments) (steps : List Step)
    → segments_behind_steps s steps ≡ segments_behind_lines s (lines_of steps)
steps-lines s [] = refl
steps-lines s (Adds entries ∷ steps) =
    steps-lines (segments_behind_lines s entries) steps
    ∙ sym (lines-append s entries (lines_of steps))
steps-lines s (Sends turns ∷ steps) = steps-lines s steps

same_pages : (l : Loaded) (before : List Step) (tail : List ℕ) → IsLoadedAs l (lines_of before) tail
    → AreSame (pages_of_segments l.state.stack) (segments_behind_steps [] before)
same_pages l before tail loaded =
    let P : Segments → Type 0 = λ s. AreSame (pages_of_segments l.state.stack) s in
    subst P (sym (steps-lines [] before)) loaded.pages

module _ (lengths : (set : Pairs) (address : ℕ) (bytes : List ℕ) → length (lay set address bytes) ≡ length bytes) where
  pub run_does : (table : List ChipData) (commands : List CommandData) (old new : RigState)
      (calls : List Call) (before : List Step) (ran : RunsInOrder table commands old new)
      → Made calls old new → DoesBehind RunSays ran.chip before ran.journal.is_torn calls
  run_does table commands old new calls before ran made =
      let chip = ran.chip in
      let s = ran.journal.state in
      does_whole RunSays chip ran.journal.is_torn contact_way before calls
      (AreDoneSomehow commands chip s) old new
      (λ b own p. (
        done_tracks lengths chip commands p.0 s p.1 _ b own p.2,
        done_say chip commands p.0 s p.1 own p.2,
      )) made ran.does

  stopped_run : (table : List ChipData) (commands : List CommandData) (old new : RigState)
      (fault : Fault) (calls : List Call) (before : List Step)
      (session : Session table old (λ chip l.
      ReachesAndStops contact_way chip.id l.is_torn
      (IsConfirmedInPart chip (AreBegun fault chip commands l.state)) (cause_of fault) old new))
      → Made calls old new → DoesBehind RunSays session.chip before session.journal.is_torn calls
  stopped_run table commands old new fault calls before session made =
      let chip = session.chip in
      let s = session.journal.state in
      does_stopped RunSays chip session.journal.is_torn contact_way before calls
      (AreBegun fault chip commands s) (cause_of fault) old new
      (λ b own p. (
        begun_track lengths fault chip commands s _ b own p,
        begun_say fault chip commands s own p,
      )) made session.does

  pub run_stops_do : (table : List ChipData) (commands : List CommandData) (old new : RigState)
      (fault : Fault) (calls : List Call) (before : List Step) (chip : ChipData) (l : Loaded)
      (stop : RunStops table commands old new fault) → IsOfIfAny chip l stop
      → Made calls old new → DoesBehind RunSays chip before l.is_torn calls
  run_stops_do table commands old new fault calls before chip l (inl unreached) own made =
      does_unreached RunSays chip l.is_torn contact_way before calls (cause_of fault) old new made
      (unreached l.is_torn)
  run_stops_do table commands old new fault calls before chip l (inr session) own made =
      does_as RunSays session.chip chip session.journal l before calls own.0 own.1
      (stopped_run table commands old new fault calls before session made)

pub undo_does : (table : List ChipData) (old new : RigState) (calls : List Call)
    (before : List Step) (tail : List ℕ) (undid : UndoPutsBack table old new)
    → IsLoadedAs undid.journal (lines_of before) tail → Made calls old new
    → DoesBehind UndoSays undid.chip before undid.journal.is_torn calls
undo_does table old new calls before tail undid loaded made =
    let chip = undid.chip in
    let s = undid.journal.state in
    does_whole UndoSays chip undid.journal.is_torn (settling_way chip.kind undid.journal.is_greeted (intent_of s)) before calls
    (PutsBackFrom chip s) old new
    (λ b own p. (
      puts_track chip (pages_of_segments s.stack) _ b own
          (same_pages undid.journal before tail loaded) p,
      puts_say chip (pages_of_segments s.stack) own p,
    )) made undid.does

stopped_undo : (chip : ChipData) (l : Loaded) (old new : RigState)
    (fault : Fault) (calls : List Call) (before : List Step) (tail : List ℕ)
    → IsLoadedAs l (lines_of before) tail → Made calls old new
    → (let way = settling_way chip.kind l.is_greeted (intent_of l.state) in
    GoesOn (ReachesInPart way (cause_of fault) l.is_torn) old.calls new.calls
    ⊎ ReachesAndStops way chip.id l.is_torn (IsConfirmedInPart chip (PutsBackFrom chip l.state))
    (cause_of fault) old new)
    → DoesBehind UndoSays chip before l.is_torn calls
stopped_undo chip l old new fault calls before tail loaded made (inl unreached) =
    does_unreached UndoSays chip l.is_torn (settling_way chip.kind l.is_greeted (intent_of l.state)) before calls
    (cause_of fault) old new made unreached
stopped_undo chip l old new fault calls before tail loaded made (inr stops) =
    does_stopped UndoSays chip l.is_torn (settling_way chip.kind l.is_greeted (intent_of l.state)) before calls
    (PutsBackFrom chip l.state) (cause_of fault) old new
    (λ b own p. (
      puts_track chip (pages_of_segments l.state.stack) _ b own (same_pages l before tail loaded) p,
      puts_say chip (pages_of_segments l.state.stack) own p,
    ))
    made stops

pub undo_stops_do : (table : List ChipData) (old new : RigState) (fault : Fault)
    (calls : List Call) (before : List Step) (tail : List ℕ) (chip : ChipData) (l : Loaded)
    (stop : UndoStopsBack table old new fault) → IsOfIfAny chip l stop
    → IsLoadedAs l (lines_of before) tail → Made calls old new → DoesBehind UndoSays chip before l.is_torn calls
undo_stops_do table old new fault calls before tail chip l (inl fetched) own loaded made =
    does_nothing UndoSays chip l.is_torn before calls old new made fetched
undo_stops_do table old new fault calls before tail chip l (inr session) own loaded made =
    let P : Loaded → Type 0 = λ x. IsLoadedAs x (lines_of before) tail in
    does_as UndoSays session.chip chip session.journal l before calls own.0 own.1
    (stopped_undo session.chip session.journal old new fault calls before tail
    (subst P (sym own.1) loaded) made session.does)
