-- How a run starts: what its opening leaves, and the commands seen from there.
use Rattle.std.proofs.Common.{◌≡◌, ℕ, false, List, ◌++◌, take, reverse, Result, Ok, Err, IfErr, IfOk, OnOk, sym, ap, ap₂, ◌∙◌, subst, arith, append-nil}
use Rattle.stm_wire.proofs.Names.{ChipData, Device, IsSettled, LeavesOnly, RigState}
use Rattle.stm_wire.specs.lemmas.MomentLaws.{joined}
use Rattle.stm_journal.proofs.Names.{IsLoaded, Loaded}
use Rattle.stm_session.proofs.Names.{agreeing, AmidRun, answers_from, answers_of, AreDone, changes_of, CommandData, depth_at, Fault, flash_after_all, flashes_before, is_named_at, is_torn_at}
use Rattle.stm_session.proofs.Names.{is_unfinished_at, IsSteady, IsUnbegun, KeepsFlashes, OutcomeData, run_entries, run_text, RunFails, Runs, standing_commands, state_at, text_added, Undoable}
use Rattle.stm_session.specs.declared.fault.Fault.TheVariants as fault
use Rattle.stm_session.proofs.Keeping.{keeps_same}
use Rattle.stm_session.proofs.Standing.{makes_then}
use Rattle.stm_session.proofs.CanBeUndone.{unbegun_is_undoable}

-- where no segment was begun, none of a run's was
pub unbegun_amid : (commands : List CommandData) (flashes : List (List ℕ)) (old : RigState) → Undoable flashes old.device old.journal → is_unfinished_at old.journal ≡ false → (d : Device) (journal : List ℕ) → IsUnbegun old d journal
    → AmidRun commands flashes old d journal
unbegun_amid commands flashes old u finished d journal left =
    let J : List ℕ → Type 0 = λ j. Undoable flashes d j in
    let here = subst J (sym left.journal_same) (unbegun_is_undoable flashes old.device d old.journal u finished left.make left.flash left.safe) in
    record {
      begun = 0;
      within = omega arith;
      make = left.make;
      undoable = here;
      finished = λ f. left.flash;
      written = 0;
      lines = left.journal_same ∙ sym (append-nil old.journal);
    }

-- the Rig after it, as a step finds it
pub enters : (flashes : List (List ℕ)) (l : Loaded) (old mid : RigState) → IsUnbegun old mid.device mid.journal → Undoable flashes old.device old.journal → mid.is_honest → IsLoaded l old.journal → IsSettled mid.device → IsSteady flashes l mid
enters flashes l old mid left u honest loaded settled =
    let L : List ℕ → Type 0 = λ j. IsLoaded l j in
    let K : List ℕ → Type 0 = λ j. KeepsFlashes flashes mid.device (state_at j) in
    let keeps : KeepsFlashes flashes old.device (state_at old.journal) = record { own = u.own; fits = u.fits; before = u.keeps } in
    record {
      honest = honest;
      loaded = subst L (sym left.journal_same) loaded;
      settled = settled;
      keeps = subst K (sym left.journal_same) (keeps_same flashes old.device mid.device (state_at old.journal) keeps left.make left.flash);
    }

-- what is told of a run from there is so from the start
module _ (old mid : RigState) (left : IsUnbegun old mid.device mid.journal) where
  text_from : (commands : List CommandData) → run_text mid commands ≡ run_text old commands
  text_from commands =
      let text : List ℕ → ChipData → List ℕ → List ℕ = λ j k f. text_added (is_torn_at j) (run_entries (is_named_at j) k (depth_at j) f commands) in
      ap (λ (j : List ℕ). text j mid.device.chip mid.device.flash) left.journal_same
      ∙ ap₂ (λ (k : ChipData) f. text old.journal k f) left.make.chip left.flash

  standing_from : (commands : List CommandData) → standing_commands mid commands ≡ standing_commands old commands
  standing_from commands = ap₂ (λ (k : ChipData) f. agreeing k f commands) left.make.chip left.flash

  answers_same : (commands : List CommandData) → answers_from mid commands ≡ answers_from old commands
  answers_same commands =
      ap (λ (j : List ℕ). answers_of mid.device.chip (depth_at j) mid.device.flash commands) left.journal_same
      ∙ ap₂ (λ (k : ChipData) f. answers_of k (depth_at old.journal) f commands) left.make.chip left.flash

  before_from : (commands : List CommandData) → flashes_before mid.device.chip mid.device.flash commands ≡ flashes_before old.device.chip old.device.flash commands
  before_from commands = ap₂ (λ (k : ChipData) f. flashes_before k f commands) left.make.chip left.flash

  flash_from : (commands : List CommandData) → flash_after_all mid.device.chip mid.device.flash commands ≡ flash_after_all old.device.chip old.device.flash commands
  flash_from commands = ap₂ (λ (k : ChipData) f. flash_after_all k f commands) left.make.chip left.flash

  amid_from : (commands : List CommandData) (flashes : List (List ℕ)) (d : Device) (journal : List ℕ) → AmidRun commands flashes mid d journal → AmidRun commands flashes old d journal
  amid_from commands flashes d journal a =
      let U : List (List ℕ) → Type 0 = λ f. Undoable (reverse (take a.begun f) ++ flashes) d journal in
      record {
        begun = a.begun;
        within = a.within;
        make = makes_then old.device mid.device d left.make a.make;
        undoable = subst U (before_from commands) a.undoable;
        finished = λ f. a.finished f ∙ flash_from (take a.begun (changes_of commands));
        written = a.written;
        lines = a.lines ∙ ap₂ (λ (j : List ℕ) text. j ++ take a.written text) left.journal_same (text_from commands);
      }

  done_from : (commands : List CommandData) (flashes : List (List ℕ)) (d : Device) (journal : List ℕ) → AreDone commands flashes mid d journal → AreDone commands flashes old d journal
  done_from commands flashes d journal done =
      let U : List (List ℕ) → Type 0 = λ f. Undoable (reverse f ++ flashes) d journal in
      record {
        finished = done.finished;
        make = makes_then old.device mid.device d left.make done.make;
        flash = done.flash ∙ flash_from commands;
        undoable = subst U (before_from commands) done.undoable;
        lines = done.lines ∙ ap₂ (λ (j : List ℕ) text. j ++ text) left.journal_same (text_from commands);
      }

  fails_from : (commands : List CommandData) (flashes : List (List ℕ)) (new : RigState) (e : Fault) → RunFails commands flashes mid new e → RunFails commands flashes old new e
  fails_from commands flashes new (fault.Differs address) is =
      let D : List CommandData → Type 0 = λ cs. AreDone cs flashes old new.device new.journal in
      (sym (answers_same commands) ∙ is.0, subst D (standing_from commands) (done_from (standing_commands mid commands) flashes new.device new.journal is.1), is.2)
  fails_from commands flashes new e is = is

  -- an opening, and then the commands
  pub runs_from : {T : Type 0} (commands : List CommandData) (flashes : List (List ℕ)) (new : RigState) (result : Result T Fault) (outcomes_of : T → List OutcomeData) → Undoable flashes old.device old.journal
      → is_unfinished_at old.journal ≡ false → LeavesOnly (IsUnbegun old) old mid → Runs commands flashes mid new result outcomes_of → Runs commands flashes old new result outcomes_of
  runs_from {T} commands flashes new result outcomes_of u finished opening runs =
      let all = standing_commands old commands in
      let M : List CommandData → Type 0 = λ cs. LeavesOnly (AmidRun cs flashes mid) mid new in
      let L : List CommandData → Type 0 = λ cs. AmidRun cs flashes mid new.device new.journal in
      record {
        moments = joined (IsUnbegun old) (AmidRun all flashes mid) (AmidRun all flashes old) old mid new opening (subst M (standing_from commands) runs.moments) (unbegun_amid all flashes old u finished) (amid_from all flashes);
        left = amid_from all flashes new.device new.journal (subst L (standing_from commands) runs.left);
        honest = runs.honest;
        outcomes = answered result runs.outcomes;
        done = on_ok result (done_from commands flashes new.device new.journal) runs.done;
        settled = runs.settled;
        fails = on_err result runs.fails;
      }
    where
      answered : (r : Result T Fault) → IfOk r (λ x. answers_from mid commands ≡ Ok (outcomes_of x)) → IfOk r (λ x. answers_from old commands ≡ Ok (outcomes_of x))
      answered (Ok x) said = sym (answers_same commands) ∙ said
      answered (Err e) said = tt

      on_ok : {P Q : Type 0} (r : Result T Fault) → (P → Q) → OnOk r P → OnOk r Q
      on_ok (Ok x) f p = f p
      on_ok (Err e) f p = tt

      on_err : (r : Result T Fault) → IfErr r (RunFails commands flashes mid new) → IfErr r (RunFails commands flashes old new)
      on_err (Ok x) is = tt
      on_err (Err e) is = fails_from commands flashes new e is
