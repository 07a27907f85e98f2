-- A page's bytes are fetched from the journal between two steps.
use Rattle.std.proofs.Common.{◌≡◌, ℕ, List, [], Result, Ok, Err, IsErrAnd, refl, sym, subst, append-nil}
use Rattle.stm_wire.proofs.Names.{Device, IsModel, IsSettled, RigState}
use Rattle.stm_wire.specs.lemmas.MomentLaws.{weaker}
use Rattle.stm_journal.specs.declared.entry.Entry.{Entry}
use Rattle.stm_journal.specs.declared.fault.JournalFault.{JournalFault}
use Rattle.stm_journal.specs.declared.kept.PagePlace.{PagePlace}
use Rattle.stm_journal.proofs.Names.{FetchesPage, IsUntouched, Loaded}
use Rattle.stm_session.proofs.Names.{Fault, fault_of_journal, Goes, IsOutsideFault, IsSteady, KeepsFlashes, Stands, state_at, StepLaws}
use Rattle.stm_session.proofs.Going.{goes_still}
use Rattle.stm_session.proofs.Keeping.{good_at}
use Rattle.stm_session.proofs.Standing.{loses_nothing, same_make, settled_undoable}

-- a settled device owes nothing that a stop could lose: the moment is the one before
untouched_stands : (laws : StepLaws) (entries : List Entry) (flashes : List (List ℕ)) (l : Loaded) (old : RigState) → IsModel old → IsSteady flashes l old → (d : Device) (journal : List ℕ) → IsUntouched old d journal
    → Stands entries flashes old d journal
untouched_stands laws entries flashes l old model steady d journal same =
    let SD : Device → Type 0 = λ x. Stands entries flashes old x journal in
    let SJ : List ℕ → Type 0 = λ j. Stands entries flashes old old.device j in
    subst SD (sym (loses_nothing old.device d steady.settled same.1))
    (subst SJ (sym same.0)
    (record {
      undoable = settled_undoable laws flashes old.device old.journal (state_at old.journal) model.device steady.settled (good_at l old.journal steady.loaded) steady.keeps;
      make = same_make old.device;
      finished = λ f. (f, refl);
      written = 0;
      lines = sym (append-nil old.journal);
    }))

module _ (laws : StepLaws) (flashes : List (List ℕ)) (l : Loaded) (place : PagePlace) (after : List ℕ) (old new : RigState) (model : IsModel old) (steady : IsSteady flashes l old) where
  pub fetch_goes : {U : Type 0} (y : U) (Done : U → Type 0) → FetchesPage place after old new (Ok tt) → Done y → Goes flashes [] l old new (Ok y) Done
  fetch_goes y Done fetches done =
      let K : Device → Type 0 = λ d. IsSettled d × KeepsFlashes flashes d (state_at old.journal) in
      let at = subst K (sym fetches.same_device) (steady.settled, steady.keeps) in
      goes_still flashes l old new y Done (weaker (IsUntouched old) (Stands [] flashes old) old new fetches.moments (untouched_stands laws [] flashes l old model steady))
      fetches.honest fetches.journal steady.loaded at.0 at.1 done

  pub fetch_fails : {U : Type 0} {Done : U → Type 0} (ys : List Entry) (l3 : Loaded) (fault : JournalFault) (result : Result U Fault) → FetchesPage place after old new (Err fault)
      → IsErrAnd result (λ e. e ≡ fault_of_journal fault) → Goes flashes ys l3 old new result Done
  fetch_fails ys l3 fault (Ok y) fetches is = absurd is
  fetch_fails ys l3 fault (Err y) fetches is =
      record {
        moments = weaker (IsUntouched old) (Stands ys flashes old) old new fetches.moments (untouched_stands laws ys flashes l old model steady);
        fails = subst IsOutsideFault (sym is) (let F : JournalFault → Type 0 = λ f. IsOutsideFault (fault_of_journal f) in subst F (sym fetches.fails) tt);
        honest = fetches.honest;
        steady = tt;
        lines = tt;
        done = tt;
      }
