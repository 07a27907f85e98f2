-- What follows the question whether a device is still the chip's board, on one that follows the model.
use Rattle.std.proofs.Common.{◌≡◌, ℕ, ◌≤◌, false, List, [], ◌++◌, take, drop, Result, Ok, Err, IsErrAnd, OnOk, refl, sym, ◌∙◌, ap, ap₂, subst, arith}
use Rattle.std.proofs.Math.Seq.{take-nil}
use Rattle.stm_wire.proofs.Names.{ChipData, Device, IsModel, RigState}
use Rattle.stm_wire.specs.lemmas.MomentLaws.{joined, weaker}
use Rattle.stm_journal.specs.declared.entry.Entry.{Entry}
use Rattle.stm_journal.proofs.Names.{is_unfinished, Loaded}
use Rattle.stm_session.proofs.Names.{AddsLines, AmidNewestBy, AmidRun, Asks, CommandData, Fault, flash_undone, is_torn_at, is_unfinished_at, IsSteady, IsStill, IsUnbegun, OutcomeData, RunFails, Runs}
use Rattle.stm_session.proofs.Names.{SameMake, standing_commands, Stands, state_at, StepLaws, text_added, undo_entries, undo_lines, Undoable, UndoesBy}
use Rattle.stm_session.proofs.Going.{asks_fail, asks_on}
use Rattle.stm_session.proofs.GoingAll.{work_failed}
use Rattle.stm_session.proofs.Keeping.{good_at, unfinished_text}
use Rattle.stm_session.proofs.RunEnds.{outside_fails}
use Rattle.stm_session.proofs.RunStarts.{runs_from, unbegun_amid}
use Rattle.stm_session.proofs.Standing.{settled_undoable}

module _ (laws : StepLaws) (flashes : List (List ℕ)) (l : Loaded) (a b : RigState) (steady : IsSteady flashes l a) where
  -- the question was answered: nothing has changed
  pub confirmed_steady : Asks {T = Unit {0}} a b (Ok tt) (λ _. Unit {0}) → IsSteady flashes l b
  confirmed_steady asks = (asks_on laws flashes l a b steady tt asks).steady

  pub confirmed_chip : (chip : ChipData) → a.device.chip ≡ chip → Asks {T = Unit {0}} a b (Ok tt) (λ _. Unit {0}) → b.device.chip ≡ chip
  confirmed_chip chip is asks = ap (λ (d : Device). d.chip) asks.same ∙ is

  -- and then commands
  module _ (model : IsModel a) (finished : is_unfinished l.state ≡ false) where
    undoable : Undoable flashes a.device a.journal
    undoable = settled_undoable laws flashes a.device a.journal (state_at a.journal) model.device steady.settled (good_at l a.journal steady.loaded) steady.keeps

    over : is_unfinished_at a.journal ≡ false
    over = sym (unfinished_text l a.journal steady.loaded) ∙ finished

    still_unbegun : (d : Device) (journal : List ℕ) → IsStill a d journal → IsUnbegun a d journal
    still_unbegun d journal s = record { journal_same = s.journal_same; make = s.make; flash = s.flash; safe = record { harmless = s.harmless 0x7F; owed = s.owed } }

    pub run_unconfirmed : {U : Type 0} (commands : List CommandData) (e : Fault) (result : Result U Fault) (outcomes_of : U → List OutcomeData) → Asks {T = Unit {0}} a b (Err e) (λ _. Unit {0}) → IsErrAnd result (λ x. x ≡ e)
        → Runs commands flashes a b result outcomes_of
    run_unconfirmed commands e (Ok x) outcomes_of asks is = absurd is
    run_unconfirmed commands e (Err y) outcomes_of asks is =
        let all = standing_commands a commands in
        let amid : (d : Device) (journal : List ℕ) → IsStill a d journal → AmidRun all flashes a d journal = λ d journal s. unbegun_amid all flashes a undoable over d journal (still_unbegun d journal s) in
        record {
          moments = weaker (IsStill a) (AmidRun all flashes a) a b asks.moments amid;
          left = amid b.device b.journal asks.left;
          honest = asks.honest;
          outcomes = tt;
          done = tt;
          settled = tt;
          fails = let F : Fault → Type 0 = λ x. RunFails commands flashes a b x in subst F (sym is) (outside_fails commands flashes a b e asks.fails);
        }

    pub run_confirmed : {U : Type 0} (commands : List CommandData) (new : RigState) (result : Result U Fault) (outcomes_of : U → List OutcomeData) → Asks {T = Unit {0}} a b (Ok tt) (λ _. Unit {0}) → Runs commands flashes b new result outcomes_of
        → Runs commands flashes a new result outcomes_of
    run_confirmed commands new result outcomes_of asks runs =
        runs_from a b (still_unbegun b.device b.journal asks.left) commands flashes new result outcomes_of undoable over (weaker (IsStill a) (IsUnbegun a) a b asks.moments still_unbegun) runs

  -- and then segments are undone
  module _ (taken : ℕ) (one : 1 ≤ taken) (chip : ChipData) (chip_is : a.device.chip ≡ chip) where
    pub back_unconfirmed : {T : Type 0} (l2 : Loaded) (e : Fault) (result : Result T Fault) → Asks {T = Unit {0}} a b (Err e) (λ _. Unit {0}) → IsErrAnd result (λ x. x ≡ e) → UndoesBy (undo_lines taken a) taken flashes l2 a b result
    back_unconfirmed l2 e result asks is =
        let fails = asks_fail laws flashes l a b steady {T = Unit {0}} {U = Unit {0}} {Done = λ _. Unit {0}} _ l2 e (Err e) asks refl in
        work_failed taken flashes a b one chip chip_is l2 l2 e result fails is

    module _ (new : RigState) (l2 : Loaded) (asks : Asks {T = Unit {0}} a b (Ok tt) (λ _. Unit {0})) where
      lines_are : undo_lines taken b ≡ undo_lines taken a
      lines_are = ap₂ (λ (d : Device) (j : List ℕ). undo_entries d.chip taken (state_at j).stack d.flash) asks.same asks.left.journal_same

      before : (d : Device) (journal : List ℕ) → Stands [] flashes a d journal → AmidNewestBy (undo_lines taken a) taken flashes a d journal
      before d journal s =
          record {
            undone = 0;
            within = omega arith;
            make = s.make;
            undoable = s.undoable;
            finished = λ f. let p = s.finished f in ((λ z. p.0), p.1);
            written = 0;
            lines = s.lines ∙ ap (λ (t : List ℕ). a.journal ++ t) (take-nil s.written);
          }

      further : (d : Device) (journal : List ℕ) → AmidNewestBy (undo_lines taken b) taken flashes b d journal → AmidNewestBy (undo_lines taken a) taken flashes a d journal
      further d journal amid =
          record {
            undone = amid.undone;
            within = amid.within;
            make = subst (λ (x : Device). SameMake x d) asks.same amid.make;
            undoable = amid.undoable;
            finished = λ f. let p = amid.finished f in ((λ z. ap is_unfinished_at (sym asks.left.journal_same) ∙ p.0 z), p.1 ∙ ap (λ (x : Device). flash_undone amid.undone x.flash flashes) asks.same);
            written = amid.written;
            lines = amid.lines ∙ ap₂ (λ (j : List ℕ) (es : List Entry). j ++ take amid.written (text_added (is_torn_at j) es)) asks.left.journal_same lines_are;
          }

      on_ok : {T : Type 0} {P Q : Type 0} (r : Result T Fault) → (P → Q) → OnOk r P → OnOk r Q
      on_ok (Ok x) f p = f p
      on_ok (Err e) f p = tt

      pub back_confirmed : {T : Type 0} (result : Result T Fault) → UndoesBy (undo_lines taken b) taken flashes l2 b new result → UndoesBy (undo_lines taken a) taken flashes l2 a new result
      back_confirmed result goes =
          let asked = asks_on laws flashes l a b steady tt asks in
          let L : List ℕ → List Entry → Type 0 = λ j es. AddsLines es j new.journal in
          record {
            moments = joined (Stands [] flashes a) (AmidNewestBy (undo_lines taken b) taken flashes b) (AmidNewestBy (undo_lines taken a) taken flashes a) a b new asked.moments goes.moments before further;
            fails = goes.fails;
            honest = goes.honest;
            steady = goes.steady;
            lines = on_ok result (λ adds. subst (λ (es : List Entry). L a.journal es) lines_are (subst (λ (j : List ℕ). L j (undo_lines taken b)) asks.left.journal_same adds)) goes.lines;
            restored = on_ok result (λ is. is ∙ ap (λ (x : Device). flash_undone taken x.flash flashes) asks.same) goes.restored;
            below = on_ok result (λ is. is ∙ ap (λ (j : List ℕ). drop taken (state_at j).stack) asks.left.journal_same) goes.below;
            finished = goes.finished;
          }

-- the same fault, with another value beside it
pub back_failed : {T U : Type 0} (entries : List Entry) (taken : ℕ) (flashes : List (List ℕ)) (l2 : Loaded) (old new : RigState) (e : Fault) (result : Result U Fault) → IsErrAnd result (λ x. x ≡ e) → UndoesBy {T = T} entries taken flashes l2 old new (Err e)
    → UndoesBy entries taken flashes l2 old new result
back_failed entries taken flashes l2 old new e (Ok x) is goes = absurd is
back_failed {U = U} entries taken flashes l2 old new e (Err y) is goes =
    let G : Fault → Type 0 = λ x. UndoesBy {T = U} entries taken flashes l2 old new (Err x) in
    subst G (sym is) (record { moments = goes.moments; fails = goes.fails; honest = goes.honest; steady = tt; lines = tt; restored = tt; below = tt; finished = tt })
