-- Calls of a session one behind another, with one journal.
use Rattle.std.proofs.Common.{◌≡◌, ℕ, List, [], ◌∷◌, ◌++◌, length, Option, Some, sym, subst}
use Rattle.stm_image.specs.Lay.{lay}
use Rattle.stm_image.specs.Pairs.{Pairs}
use Rattle.stm_wire.proofs.Names.{Call, ChipData, RigState}
use Rattle.stm_journal.specs.declared.entry.Entry.{Entry}
use Rattle.stm_journal.proofs.Names.{Loaded}
use Rattle.stm_session.proofs.Names.{Adds, Step, step_in}
use Rattle.stm_any_line.specs.Segments.{segments_behind, segments_behind_steps}
use Rattle.stm_any_line.specs.Texts.{IsLoadedAs, IsJournalText, lines_of, nothing}
use Rattle.stm_any_line.specs.Tracks.{MaySayAll, Tracks}
use Rattle.stm_any_line.specs.Calls.{DoesBehind, RunSays, UndoSays}
use Rattle.stm_any_line.specs.History.{AllTrack, AreHonest, Deed, Happens, Visit, left_of, ran, run_stopped, says_of, undid, undo_stopped}
use Rattle.stm_any_line.proofs.Tracking.{Segments, tracks_front, tracks_then}
use Rattle.stm_any_line.proofs.Remembering.{tracks_back}
use Rattle.stm_any_line.proofs.Clauses.{does_as, run_does, run_stops_do, undo_does, undo_stops_do}
use Rattle.stm_any_line.proofs.Texting.{ArePartOf, text_behind}

-- the first of some lines
say_front : (chip : ChipData) (s : Segments) (b : List Step) (xs ys : List Entry)
    → MaySayAll chip s b (xs ++ ys) → MaySayAll chip s b xs
say_front chip s b [] ys may = tt
say_front chip s b (e ∷ xs) ys (first, may) =
    (first, say_front chip (segments_behind s e) b xs ys may)

tracks_left : (chip : ChipData) (s : Segments) (b done : List Step) (failed : Option Step)
    (whole : List Entry) → ArePartOf failed whole → Tracks chip s b (done ++ step_in failed)
    → Tracks chip s b (done ++ left_of failed whole)
tracks_left chip s b done (Some (Adds entries)) whole (rest, is) tracks =
    let last : List Step = Adds entries ∷ [] in
    let later : Segments = segments_behind_steps s done in
    let back = tracks_back chip s b done last tracks in
    let P : List Entry → Type 0 = λ l. MaySayAll chip later (b ++ done) l in
    tracks_then chip s b done (Adds whole ∷ []) (tracks_front chip s b done last tracks)
    (say_front chip later (b ++ done) whole rest (subst P is back.0), tt)
tracks_left chip s b done failed whole part tracks = tracks

module _ (lengths : (set : Pairs) (address : ℕ) (bytes : List ℕ) → length (lay set address bytes) ≡ length bytes) where
  happens_does : {R : Type 0} (view : R → RigState) (chip : ChipData) (l : Loaded)
      (calls : List Call) (deed : Deed R) (before : List Step) (tail : List ℕ)
      → IsLoadedAs l (lines_of before) tail → Happens view chip l calls deed
      → DoesBehind (says_of deed) chip before l.is_torn calls
  happens_does view chip l calls (ran table commands old new) before tail loaded happens =
      let session = happens.0.0 in
      let own = happens.0.1 in
      does_as RunSays session.chip chip session.journal l before calls own.0 own.1
      (run_does lengths table commands (view old) (view new) calls before session happens.1)
  happens_does view chip l calls (run_stopped table commands old new fault) before tail loaded happens =
      run_stops_do lengths table commands (view old) (view new) fault calls before chip l
      happens.0.0 happens.0.1 happens.1
  happens_does view chip l calls (undid table old new) before tail loaded happens =
      let session = happens.0.0 in
      let own = happens.0.1 in
      let P : Loaded → Type 0 = λ x. IsLoadedAs x (lines_of before) tail in
      does_as UndoSays session.chip chip session.journal l before calls own.0 own.1
      (undo_does table (view old) (view new) calls before tail session
      (subst P (sym own.1) loaded) happens.1)
  happens_does view chip l calls (undo_stopped table old new fault) before tail loaded happens =
      undo_stops_do table (view old) (view new) fault calls before tail chip l
      happens.0.0 happens.0.1 loaded happens.1

  all_track : {R : Type 0} (view : R → RigState) (chip : ChipData) (before : List Step)
      (tail text : List ℕ) (visits : List (Visit R)) → IsJournalText (lines_of before) tail text
      → Tracks chip [] [] before → AreHonest view chip text visits → AllTrack chip before visits
  all_track view chip before tail text [] t tracks honest = tt
  all_track view chip before tail text (visit ∷ visits) t tracks (happens, honest, rest) =
      let l = visit.journal in
      let loaded = honest.loaded (lines_of before) tail t in
      let does = happens_does view chip l visit.calls visit.deed before tail loaded happens in
      let behind = text_behind before l.is_torn visit.calls does.did tail text loaded.is_torn t in
      let own : List Step = does.did.done ++ left_of does.did.failed behind.whole in
      let T : List ℕ → Type 0 = λ x. IsJournalText (lines_of (before ++ own)) behind.tail x in
      let now = subst T (sym honest.grown) behind.text_is in
      let all = tracks_then chip [] [] before own tracks
      (tracks_left chip (segments_behind_steps [] before) before does.did.done does.did.failed behind.whole
      behind.part does.tracks)
      in (
        does,
        behind.whole,
        (all, (behind.tail, now), all_track view chip (before ++ own) behind.tail visit.after visits now all rest),
      )

  pub history_tracks : {R : Type 0} (view : R → RigState) (chip : ChipData) (visits : List (Visit R))
      → AreHonest view chip [] visits → AllTrack chip [] visits
  history_tracks view chip visits honest = all_track view chip [] [] [] visits nothing tt honest
