-- Runs and undos one behind another: each page that may be weak is at work.
use Rattle.std.proofs.Common.{◌≡◌, ◌⊎◌, inl, inr, ℕ, Bool, true, false, List, [], ◌∷◌, length}
use Rattle.std.proofs.Common.{Option, None, refl, sym, ◌∙◌, subst}
use Rattle.stm_image.specs.Lay.{lay}
use Rattle.stm_image.specs.Pairs.{Pairs}
use Rattle.stm_wire.specs.declared.intent.Intent.{Intent}
use Rattle.stm_wire.proofs.Names.{ChipData, GoesOn, RigState}
use Rattle.stm_journal.proofs.Names.{intent_of, IsSound, Loaded, pages_of_segments, StateData}
use Rattle.stm_session.specs.declared.fault.Fault.{Fault}
use Rattle.stm_session.proofs.Names.{AreAllUndone, AreBegun, AreDoneSomehow, AreTakenWhole, AreUndoneInOrder, Begin, BeginTaking, cause_of, CommandData, confirming, contact_way, has_companion}
use Rattle.stm_session.proofs.Names.{IsAfter, IsConfirmedInPart, IsJournalOf, OrMisread, pages_at_work, pages_of_intent, ReachesAndStops, ReachesInPart, RunsInOrder, settling_way, Step, StepsOf}
use Rattle.stm_session.proofs.Names.{UndoDoes, untold}
use Rattle.stm_weak.specs.Weak.{NoneIs, intent_behind, weak_behind}
use Rattle.stm_weak.specs.Believed.{AreAtWork, NoneBelieved}
use Rattle.stm_weak.specs.History.{AllFind, AllHeal, AtOk, WeakDeed, asked, asking_stopped, Finds}
use Rattle.stm_weak.specs.History.{done_events, events_in, ran, run_stopped, stopped_events, undid}
use Rattle.stm_weak.specs.History.{undid_verified, undo_events, undo_stopped}
use Rattle.stm_weak.proofs.Leaving.{Leaves, behind_at_work, done_leaves, free_none, free_own}
use Rattle.stm_weak.proofs.Leaving.{no_intent, settled, stopped_believed}
use Rattle.stm_weak.proofs.Misreading.{begun_goes}
use Rattle.stm_weak.proofs.Running.{begun_free, done_free}
use Rattle.stm_weak.proofs.Mending.{all_mend}

-- the law of a journal of the chip: page 257 is at work with page 1 where the chip has it
abbrev pub WorkIs : Type 0
WorkIs = (chip : ChipData) (s : StateData) → IsSound s → IsJournalOf chip s
    → pages_at_work s.stack ≡ pages_of_intent (intent_of s) (has_companion chip)

module _ (lengths : (set : Pairs) (address : ℕ) (bytes : List ℕ) → length
    (lay set address bytes) ≡ length bytes) (work_is : WorkIs) where
  -- runs
  ran_leaves : (table : List ChipData) (commands : List CommandData) (old new : RigState)
      (session : RunsInOrder table commands old new) (W : ℕ → Type 0)
      → AreAtWork (has_companion session.chip) W None
      → Leaves session.chip W None
      (done_events None contact_way session.chip.id session.journal.is_torn
      (IsAfter (confirming session.chip)
      (AreDoneSomehow commands session.chip session.journal.state))
      old new session.does)
  ran_leaves table commands old new session W now =
      let chip = session.chip in
      let does = session.does in
      let own = does.3.0 in
      let done = does.3.2 in
      done_leaves chip W None does.0 does.1 does.2 own now does.3.1
      (free_own chip own
      (done_free lengths chip
      (has_companion chip) commands done.0 session.journal.state done.1 own done.2))
      (λ W1 now1. free_none chip own W1 now1)

  stopped_run : (table : List ChipData) (commands : List CommandData) (old new : RigState)
      (fault : Fault) (whole : ℕ) (chip : ChipData) (l : Loaded)
      (reached : ReachesAndStops contact_way chip.id l.is_torn
      (IsConfirmedInPart chip (AreBegun fault chip commands l.state)) (cause_of fault) old new)
      (W : ℕ → Type 0) → AreAtWork (has_companion chip) W None
      → NoneBelieved chip (has_companion chip) W None
      (stopped_events None whole contact_way chip.id l.is_torn
      (IsConfirmedInPart chip (AreBegun fault chip commands l.state))
      (cause_of fault) old new reached)
  stopped_run table commands old new fault whole chip l reached W now =
      stopped_believed chip W None whole contact_way l.is_torn (cause_of fault)
      (AreBegun fault chip commands l.state) old new reached now
      (λ xs are. free_own chip xs (begun_free lengths chip
      (has_companion chip) fault commands l.state xs are))

  -- undos
  undid_leaves : (again : Bool) (table : List ChipData) (taken : ℕ) (Taken : StepsOf)
      (more : (chip : ChipData) (s : StateData) (steps : List Step) → Taken chip s steps
      → AreUndoneInOrder again taken chip s steps) (old new : RigState)
      (session : UndoDoes Taken table old new) (W : ℕ → Type 0)
      → IsJournalOf session.chip session.journal.state
      → AreAtWork (has_companion session.chip) W (intent_of session.journal.state)
      → Leaves session.chip W (intent_of session.journal.state)
      (done_events (intent_of session.journal.state)
      (settling_way session.chip.kind session.journal.is_greeted (intent_of session.journal.state)) session.chip.id
      session.journal.is_torn
      (IsAfter (confirming session.chip) (Taken session.chip session.journal.state))
      old new session.does)
  undid_leaves again table taken Taken more old new session W fits now =
      let chip = session.chip in
      let s = session.journal.state in
      let o = intent_of s in
      let both = has_companion chip in
      let does = session.does in
      let own = does.3.0 in
      let segments = pages_of_segments s.stack in
      let P : List ℕ → Type 0 = λ work. AreAllUndone again chip untold work taken segments own in
      let are = subst P (work_is chip s session.sound fits) (more chip s own does.3.2) in
      done_leaves chip W o does.0 does.1 does.2 own now does.3.1
      (λ W1 now1. (all_mend again chip both untold o W1 taken segments own now1 are).goes)
      (λ W1 now1. (all_mend again chip both untold o W1 taken segments own now1 are).none)

  stopped_undo : (again : Bool) (count : ℕ) (old new : RigState) (fault : Fault)
      (whole : ℕ) (chip : ChipData) (l : Loaded) (W : ℕ → Type 0)
      (does : GoesOn (ReachesInPart (settling_way chip.kind l.is_greeted (intent_of l.state))
      (cause_of fault) l.is_torn)
      old.calls new.calls
      ⊎ ReachesAndStops (settling_way chip.kind l.is_greeted (intent_of l.state)) chip.id l.is_torn
      (IsConfirmedInPart chip (BeginTaking again count chip l.state)) (cause_of fault) old new)
      → IsSound l.state → IsJournalOf chip l.state
      → AreAtWork (has_companion chip) W (intent_of l.state)
      → NoneBelieved chip (has_companion chip) W (intent_of l.state)
      (undo_events (intent_of l.state) whole (settling_way chip.kind l.is_greeted
      (intent_of l.state)) chip.id
      l.is_torn (IsConfirmedInPart chip (BeginTaking again count chip l.state))
      (cause_of fault) old new does)
  stopped_undo again count old new fault whole chip l W (inl unreached) sound fits now =
      (refl, settled chip W (intent_of l.state) now, tt)
  stopped_undo again count old new fault whole chip l W (inr reached) sound fits now =
      let s = l.state in
      let o = intent_of s in
      let both = has_companion chip in
      let segments = pages_of_segments s.stack in
      stopped_believed chip W o whole (settling_way chip.kind l.is_greeted o) l.is_torn (cause_of fault)
      (BeginTaking again count chip s) old new reached now
      (λ xs p W1 now1.
      (let P : List ℕ → Type 0 = λ work. OrMisread again chip (Begin
      (AreAllUndone again chip untold work p.0 segments)) xs in
      begun_goes again chip both untold o W1 p.0 segments xs now1 (subst P
      (work_is chip s sound fits) p.3)))

  -- a call
  abbrev Good : {R : Type 0} {view : R → RigState} → (ℕ → Type 0) → Option Intent → WeakDeed R view
      → ChipData → Type 0
  Good W o deed chip = AreAtWork (has_companion chip) W o
      → NoneBelieved chip (has_companion chip) W o (events_in deed)
      × AtOk deed (NoneIs (λ n. weak_behind chip W (events_in deed) n))

  good : {R : Type 0} {view : R → RigState} (chip : ChipData) (W : ℕ → Type 0) (o : Option Intent)
      (deed : WeakDeed R view) → Finds chip o deed → Good W o deed chip
  good {R = R} {view = view} chip W o (ran table commands old new session)
      (same, intent, finished) =
      let deed : WeakDeed R view = ran table commands old new session in
      let P : ChipData → Type 0 = λ c. Good W o deed c in
      let Q : Option Intent → Type 0 = λ i. Good W i deed session.chip in
      let none : None ≡ o = sym (no_intent session.journal.state finished) ∙ intent in
      subst P same
      (subst Q none
      (λ now.
      (let leaves = ran_leaves table commands (view old) (view new) session W now in
      (leaves.believed, leaves.none))))
  good {R = R} {view = view} chip W o (run_stopped table commands old new fault whole
      (inl unreached)) finds =
      λ now. (tt, tt)
  good {R = R} {view = view} chip W o (run_stopped table commands old new fault whole
      (inr session)) (same, intent, finished) =
      let deed : WeakDeed R view = run_stopped table commands old new fault whole (inr session) in
      let P : ChipData → Type 0 = λ c. Good W o deed c in
      let Q : Option Intent → Type 0 = λ i. Good W i deed session.chip in
      let none : None ≡ o = sym (no_intent session.journal.state finished) ∙ intent in
      subst P same
      (subst Q none
      (λ now. (
        stopped_run table commands (view old) (view new) fault whole session.chip session.journal
            session.does W now,
        tt,
      )))
  good {R = R} {view = view} chip W o (undid table taken old new session)
      (same, intent, fits) =
      let deed : WeakDeed R view = undid table taken old new session in
      let P : ChipData → Type 0 = λ c. Good W o deed c in
      let Q : Option Intent → Type 0 = λ i. Good W i deed session.chip in
      let F : ChipData → Type 0 = λ c. IsJournalOf c session.journal.state in
      subst P same
      (subst Q intent
      (λ now.
      (let leaves =
      undid_leaves false table taken (AreUndoneInOrder false taken) (λ c s steps are. are)
      (view old) (view new)
      session W (subst F (sym same) fits) now
      in
      (leaves.believed, leaves.none))))
  good {R = R} {view = view} chip W o (undid_verified table returned old new session)
      (same, intent, fits) =
      let deed : WeakDeed R view = undid_verified table returned old new session in
      let P : ChipData → Type 0 = λ c. Good W o deed c in
      let Q : Option Intent → Type 0 = λ i. Good W i deed session.chip in
      let F : ChipData → Type 0 = λ c. IsJournalOf c session.journal.state in
      subst P same
      (subst Q intent
      (λ now.
      (let leaves =
      undid_leaves true table returned.segments (AreTakenWhole true untold returned)
      (λ c s steps are. are.0) (view old) (view new)
      session W (subst F (sym same) fits) now
      in
      (leaves.believed, leaves.none))))
  good {R = R} {view = view} chip W o (undo_stopped again table count old new fault whole
      (inl fetched)) finds =
      λ now. (tt, tt)
  good {R = R} {view = view} chip W o (undo_stopped again table count old new fault whole
      (inr session)) (same, intent, fits) =
      let deed : WeakDeed R view = undo_stopped again table count old new fault whole
      (inr session) in
      let P : ChipData → Type 0 = λ c. Good W o deed c in
      let Q : Option Intent → Type 0 = λ i. Good W i deed session.chip in
      let F : ChipData → Type 0 = λ c. IsJournalOf c session.journal.state in
      subst P same
      (subst Q intent
      (λ now. (
        stopped_undo again count (view old)
            (view new) fault whole session.chip session.journal W
            session.does session.sound (subst F (sym same) fits) now,
        tt,
      )))
  good {R = R} {view = view} chip W o (asked table board old new asks) intent =
      let deed : WeakDeed R view = asked table board old new asks in
      let Q : Option Intent → Type 0 = λ i. Good W i deed chip in
      subst Q intent
      (λ now. ((refl, settled chip W (intent_of asks.journal.state) now, tt), tt))
  good {R = R} {view = view} chip W o (asking_stopped table old new fault
      (inl fetched)) finds =
      λ now. (tt, tt)
  good {R = R} {view = view} chip W o (asking_stopped table old new fault
      (inr asks)) intent =
      let deed : WeakDeed R view = asking_stopped table old new fault (inr asks) in
      let Q : Option Intent → Type 0 = λ i. Good W i deed chip in
      subst Q intent
      (λ now. ((refl, settled chip W (intent_of asks.journal.state) now, tt), tt))

  all_heal : {R : Type 0} {view : R → RigState} (chip : ChipData) (W : ℕ → Type 0)
      (o : Option Intent) (deeds : List (WeakDeed R view)) → AreAtWork (has_companion chip) W o
      → AllFind chip o deeds → AllHeal chip W o deeds
  all_heal chip W o [] now finds = tt
  all_heal chip W o (deed ∷ deeds) now (find, finds) =
      let own = good chip W o deed find now in
      let later = behind_at_work chip (has_companion chip) W o (events_in deed) now own.0 in (
        own.0,
        own.1,
        all_heal chip (λ n. weak_behind chip W (events_in deed) n) (intent_behind o
            (events_in deed)) deeds later finds,
      )

  pub histories_heal : {R : Type 0} (view : R → RigState) (chip : ChipData)
      (deeds : List (WeakDeed R view)) → AllFind chip None deeds → AllHeal chip (λ n. ⊥) None deeds
  histories_heal {R = R} view chip deeds finds =
      all_heal {R = R} {view = view} chip (λ n. ⊥) None deeds (λ n none. absurd none) finds
