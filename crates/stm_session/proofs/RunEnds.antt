-- How a run ends: with all its commands, or within one.
use Rattle.std.proofs.Common.{◌≡◌, ◌⊎◌, inl, inr, ℕ, ◌+◌, Bool, true, false, if◌then◌else◌, List, [], ◌∷◌, ◌++◌, Result, Ok, Err, IsErrAnd, sym, ap, ◌∙◌, subst, refl, append_assoc, append-nil}
use Rattle.stm_wire.proofs.Names.{Device, IsModel, IsSettled, LeavesOnly, RigState}
use Rattle.stm_wire.specs.lemmas.MomentLaws.{joined, weaker}
use Rattle.stm_journal.specs.declared.entry.Entry.{Entry}
use Rattle.stm_journal.proofs.Names.{is_unfinished, Loaded}
use Rattle.stm_session.proofs.Names.{agreeing, AmidOne, AmidRun, AreDone, command_lines, CommandData, depth_at, DoesCommand, Fault, flash_after, flash_left, is_change, is_named_at, IsOutsideFault}
use Rattle.stm_session.proofs.Names.{IsSteady, lines_if, OutcomeData, RunFails, Runs, segment_entries, standing_commands, Stands, StepLaws, TellsDifference}
use Rattle.stm_session.specs.declared.fault.Fault.TheVariants as fault
use Rattle.stm_session.proofs.CommandLists.{agreeing-append, answers-differ, change-agrees, difference-disagrees}
use Rattle.stm_session.proofs.Going.{at_exit}
use Rattle.stm_session.proofs.Keeping.{good_at, unfinished_text}
use Rattle.stm_session.proofs.Runs.{HasRun, amid_more, answer_next, asks_amid, flash_with, flashes_after, made_so_far, one_amid}
use Rattle.stm_session.proofs.Standing.{settled_undoable}

-- the line, the journal or memory fails
pub outside_fails : (commands : List CommandData) (flashes : List (List ℕ)) (old new : RigState) (e : Fault) → IsOutsideFault e → RunFails commands flashes old new e
outside_fails commands flashes old new (fault.Differs address) is = absurd is
outside_fails commands flashes old new e is = is

-- some commands are done
module _ (laws : StepLaws) (xs : List CommandData) (flashes : List (List ℕ)) (l l2 : Loaded) (old mid : RigState) (outcomes : List OutcomeData) (model : IsModel mid) (start : IsSteady flashes l old)
    (first : HasRun xs flashes l2 old mid outcomes) where
  pub are_done : is_unfinished l2.state ≡ false → AreDone xs flashes old mid.device mid.journal
  are_done finished =
      record {
        finished = sym (unfinished_text l2 mid.journal first.steady.loaded) ∙ finished;
        make = made_so_far laws xs flashes l l2 old mid outcomes model start first;
        flash = first.flash;
        undoable = settled_undoable laws (flashes_after old xs flashes) mid.device mid.journal _ model.device first.steady.settled (good_at l2 mid.journal first.steady.loaded) first.steady.keeps;
        lines = first.lines.added;
      }

  -- these are the first that stand
  pub standing_more : (ys : List CommandData) → standing_commands old (xs ++ ys) ≡ xs ++ agreeing old.device.chip (flash_with old xs) ys
  standing_more ys = agreeing-append old.device.chip (depth_at old.journal) old.device.flash xs ys outcomes first.answers

  -- all are done
  pub run_all : {T : Type 0} (y : T) (outcomes_of : T → List OutcomeData) → is_unfinished l2.state ≡ false → outcomes ≡ outcomes_of y → Runs xs flashes old mid (Ok y) outcomes_of
  run_all y outcomes_of finished same =
      let all : xs ≡ standing_commands old xs =
      sym (ap (standing_commands old) (sym (append-nil xs)) ∙ standing_more [] ∙ append-nil xs) in
      let A : List CommandData → Type 0 = λ cs. LeavesOnly (AmidRun cs flashes old) old mid in
      let M : List CommandData → Type 0 = λ cs. AmidRun cs flashes old mid.device mid.journal in
      record {
        moments = subst A all first.moments;
        left = subst M all (at_exit (AmidRun xs flashes old) old mid model first.moments);
        honest = first.steady.honest;
        outcomes = first.answers ∙ ap (λ os. Ok os) same;
        done = are_done finished;
        settled = first.steady.settled;
        fails = tt;
      }

  -- memory is refused before the next one
  pub run_refused : {T : Type 0} (ys : List CommandData) (outcomes_of : T → List OutcomeData) (result : Result T Fault) → IsErrAnd result (λ z. z ≡ fault.Memory) → Runs (xs ++ ys) flashes old mid result outcomes_of
  run_refused ys outcomes_of (Ok y) is = absurd is
  run_refused ys outcomes_of (Err y) is =
      let more = agreeing old.device.chip (flash_with old xs) ys in
      let A : List CommandData → Type 0 = λ cs. LeavesOnly (AmidRun cs flashes old) old mid in
      let M : List CommandData → Type 0 = λ cs. AmidRun cs flashes old mid.device mid.journal in
      record {
        moments = subst A (sym (standing_more ys)) (weaker (AmidRun xs flashes old) (AmidRun (xs ++ more) flashes old) old mid first.moments (amid_more xs more flashes old));
        left = subst M (sym (standing_more ys)) (amid_more xs more flashes old mid.device mid.journal (at_exit (AmidRun xs flashes old) old mid model first.moments));
        honest = first.steady.honest;
        outcomes = tt;
        done = tt;
        settled = tt;
        fails = subst (RunFails (xs ++ ys) flashes old mid) (sym is) tt;
      }

  -- the next one fails
  module _ (c : CommandData) (ys : List CommandData) where
    abbrev rest : List CommandData
    rest = agreeing old.device.chip (flash_with old xs) (c ∷ ys)

    stop_amid : (d : Device) (journal : List ℕ) → AmidOne (is_change c) (command_lines mid c) (flashes_after old xs flashes) (flash_left mid c) mid d journal → AmidRun (standing_commands old (xs ++ c ∷ ys)) flashes old d journal
    stop_amid d journal amid =
        let A : List CommandData → Type 0 = λ cs. AmidRun cs flashes old d journal in
        subst A (sym (standing_more (c ∷ ys))) (by_kind (is_change c) refl amid)
      where
        by_kind : (b : Bool) → is_change c ≡ b → AmidOne (is_change c) (command_lines mid c) (flashes_after old xs flashes) (flash_left mid c) mid d journal → AmidRun (xs ++ rest) flashes old d journal
        by_kind true e m =
            let later = agreeing old.device.chip (flash_after old.device.chip (flash_with old xs) c) ys in
            let is : rest ≡ c ∷ later = ap (λ (b : Bool). if b then c ∷ later else []) (change-agrees old.device.chip (flash_with old xs) c e) in
            let A : List CommandData → Type 0 = λ cs. AmidRun cs flashes old d journal in
            subst A (append_assoc xs (c ∷ []) later ∙ ap (λ (cs : List CommandData). xs ++ cs) (sym is))
            (amid_more (xs ++ c ∷ []) later flashes old d journal (one_amid laws xs flashes l l2 old mid outcomes model start first c d journal m))
        by_kind false e m =
            let none : command_lines mid c ≡ [] =
            ap (λ (b : Bool). lines_if b (segment_entries (is_named_at mid.journal) mid.device.chip (depth_at mid.journal + 1) mid.device.flash (flash_left mid c))) e in
            let O : Bool → Type 0 = λ b. AmidOne b (command_lines mid c) (flashes_after old xs flashes) (flash_left mid c) mid d journal in
            let still : Stands (command_lines mid c) (flashes_after old xs flashes) mid d journal = subst O e m in
            let S : List Entry → Type 0 = λ es. Stands es (flashes_after old xs flashes) mid d journal in
            amid_more xs rest flashes old d journal (asks_amid laws xs flashes l l2 old mid outcomes model start first d journal (subst S none still))

    -- it tells a difference
    differs_fails : (new : RigState) (e : Fault) → is_unfinished l2.state ≡ false → TellsDifference c mid new e → RunFails (xs ++ c ∷ ys) flashes old new e
    differs_fails new e finished t =
        let said = sym (answer_next laws xs flashes l l2 old mid outcomes model start first c) ∙ t.answer in
        let later = agreeing old.device.chip (flash_after old.device.chip (flash_with old xs) c) ys in
        let none : rest ≡ [] =
        ap (λ (b : Bool). if b then c ∷ later else []) (difference-disagrees old.device.chip _ (flash_with old xs) c t.address said) in
        let stands : xs ≡ standing_commands old (xs ++ c ∷ ys) = sym (standing_more (c ∷ ys) ∙ ap (λ (cs : List CommandData). xs ++ cs) none ∙ append-nil xs) in
        let done = are_done finished in
        let C : List CommandData → Type 0 = λ cs. AreDone cs flashes old new.device new.journal in
        let D : Device → Type 0 = λ d. AreDone xs flashes old d new.journal in
        let J : List ℕ → Type 0 = λ j. AreDone xs flashes old mid.device j in
        let S : Device → Type 0 = λ d. IsSettled d in
        subst (RunFails (xs ++ c ∷ ys) flashes old new) (sym t.is) (
          answers-differ old.device.chip (depth_at old.journal) old.device.flash xs c ys outcomes t.address first.answers said,
          subst C stands (subst D (sym t.device_same) (subst J (sym t.journal_same) done)),
          subst S (sym t.device_same) first.steady.settled,
        )

    pub run_stopped : {T U : Type 0} (l3 : Loaded) (new : RigState) (e : Fault) (outcome_in : T → OutcomeData) (result : Result U Fault) (outcomes_of : U → List OutcomeData) → is_unfinished l2.state ≡ false → IsModel new
        → DoesCommand (flashes_after old xs flashes) c l3 mid new (Err e) outcome_in → IsErrAnd result (λ z. z ≡ e) → Runs (xs ++ c ∷ ys) flashes old new result outcomes_of
    run_stopped l3 new e outcome_in (Ok y) outcomes_of finished model2 does is = absurd is
    run_stopped l3 new e outcome_in (Err y) outcomes_of finished model2 does is =
        let all = standing_commands old (xs ++ c ∷ ys) in
        let more : (d : Device) (journal : List ℕ) → AmidRun xs flashes old d journal → AmidRun all flashes old d journal = λ d journal a.
        let A : List CommandData → Type 0 = λ cs. AmidRun cs flashes old d journal in
        subst A (sym (standing_more (c ∷ ys))) (amid_more xs rest flashes old d journal a) in
        let moments = joined (AmidRun xs flashes old) (AmidOne (is_change c) (command_lines mid c) (flashes_after old xs flashes) (flash_left mid c) mid) (AmidRun all flashes old) old mid new first.moments does.moments more stop_amid in
        record {
          moments = moments;
          left = at_exit (AmidRun all flashes old) old new model2 moments;
          honest = does.honest;
          outcomes = tt;
          done = tt;
          settled = tt;
          fails = subst (RunFails (xs ++ c ∷ ys) flashes old new) (sym is) (by_fault does.fails);
        }
      where
        by_fault : IsOutsideFault e ⊎ TellsDifference c mid new e → RunFails (xs ++ c ∷ ys) flashes old new e
        by_fault (inl outside) = outside_fails (xs ++ c ∷ ys) flashes old new e outside
        by_fault (inr t) = differs_fails new e finished t
