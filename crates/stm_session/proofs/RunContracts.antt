-- A run, exit by exit.
use Rattle.std.proofs.Common.{◌≡◌, ◌≢◌, ⊎_elim, inl, inr, ℕ, ◌+◌, nat_le, not, ◌||◌, false, List, [], ◌∷◌, length, Option, Some, None, Result, Ok, Err, IsErrAnd, IfErr, sym, ap, ◌∙◌, subst}
use Rattle.std.specs.List.{list_all, list_any}
use Rattle.std.proofs.lemmas.Bool.{cases_Bool}
use Rattle.stm_wire.proofs.Names.{ChipData, Device, GoesOn, RigState}
use Rattle.stm_wire.specs.lemmas.MomentLaws.{weaker}
use Rattle.stm_chip.specs.Document.{IsChipWith}
use Rattle.stm_journal.proofs.Names.{AreFetches, IsUntouched, journal_of, JournalData, StateData}
use Rattle.stm_journal.specs.lemmas.ForgetLaws.{depth-forgets}
use Rattle.stm_session.proofs.Names.{AmidRun, AreCommandsOf, can_erase, changes_of, chip_with, command_refusals, CommandData, commands_refused, Fault, first_refusal, is_change, is_unfinished_at}
use Rattle.stm_session.proofs.Names.{IsCoherent, IsLaterRefusal, IsSafe, IsSteady, IsUnbegun, lies_in_flash, Opened, opening_refusal, Opens, OutcomeData, refused_unless, RefusesUnsent, run_refusal}
use Rattle.stm_session.proofs.Names.{RunContract, RunFails, Runs, standing_commands, state_at, Undoable, unsent_refusal}
use Rattle.stm_session.specs.declared.fault.Fault.TheVariants as fault
use Rattle.stm_session.proofs.Openings.{alone, device_is_no_memory, has_chip, refused_nothing, unfinished_refused, unsent_is_first}
use Rattle.stm_session.proofs.RunEnds.{outside_fails}
use Rattle.stm_session.proofs.RunStarts.{enters, runs_from, unbegun_amid}
use Rattle.stm_session.proofs.CanBeUndone.{finished_is_safe}

-- what the opening refuses is refused first
opening_first : (j : JournalData) (d : Device) (table : List ChipData) (commands : List CommandData) (e : Fault) → opening_refusal j d table ≡ Some e → run_refusal j d table commands ≡ Some e
opening_first j d table commands e is = ap (λ (o : Option Fault). first_refusal (o ∷ commands_refused j d (chip_with table d.chip.id) commands ∷ [])) is

same_refusal : (x : Option Fault) (a b : Fault) → x ≡ Some a → x ≡ Some b → a ≡ b
same_refusal x a b p q = let h : Some a ≡ Some b = sym p ∙ q in cc

-- where nothing is refused, the journal is finished
finished_of : (table : List ChipData) (commands : List CommandData) (flashes : List (List ℕ)) (old : RigState) → Undoable flashes old.device old.journal
    → run_refusal (journal_of old.journal) old.device table commands ≡ None → is_unfinished_at old.journal ≡ false
finished_of table commands flashes old u none =
    let j = journal_of old.journal in
    ⊎_elim
    (λ unended. refused_nothing (run_refusal j old.device table commands) fault.Unfinished none
    (opening_first j old.device table commands fault.Unfinished (unsent_is_first j old.device table fault.Unfinished (ap unsent_refusal u.good_journal ∙ unfinished_refused (state_at old.journal) unended))))
    (λ over. over)
    (cases_Bool (is_unfinished_at old.journal))

-- the session isn't opened
pub contract_unopened : {T : Type 0} (table : List ChipData) (commands : List CommandData) (old new : RigState) (e : Fault) (result : Result T Fault) (outcomes_of : T → List OutcomeData)
    → (old.is_honest → (refusal : Fault) → unsent_refusal (journal_of old.journal) ≡ Some refusal → RefusesUnsent {T = Opened} (IsUntouched old) refusal old new (Err e))
    → (old.is_honest → (refusal : Fault) → unsent_refusal (journal_of old.journal) ≡ Some refusal → GoesOn AreFetches old.calls new.calls)
    → (old.is_honest → IsSafe old.device → Opens table old new (Err e)) → (old.is_honest → old.journal ≡ [] → e ≢ fault.Memory) → IsErrAnd result (λ x. x ≡ e)
    → RunContract table commands old new result outcomes_of
contract_unopened table commands old new e (Ok x) outcomes_of unsent calls opens memory is = absurd is
contract_unopened {T} table commands old new e (Err y) outcomes_of unsent calls opens memory is =
    let C : Fault → Type 0 = λ x. RunContract {T = T} table commands old new (Err x) outcomes_of in
    subst C (sym is)
    (record {
      unsent = λ h refusal said.
          let r = unsent h refusal said in
          record { moments = r.moments; honest = r.honest; left = r.left; answers = r.answers };
      unsent_calls = calls;
      refused = λ h safe refusal said.
          let o = opens h safe in
          record {
            moments = o.moments;
            honest = o.honest;
            left = o.left;
            answers = ⊎_elim (λ outside. inr outside)
                (λ first. inl (same_refusal _ e refusal (opening_first (journal_of old.journal) old.device table commands e first) said)) o.answers;
          };
      runs = λ h flashes u listed none.
          let finished = finished_of table commands flashes old u none in
          let o = opens h (finished_is_safe flashes old.device old.journal u finished) in
          record {
            moments = weaker (IsUnbegun old) (AmidRun (standing_commands old commands) flashes old) old new o.moments (unbegun_amid (standing_commands old commands) flashes old u finished);
            left = unbegun_amid (standing_commands old commands) flashes old u finished new.device new.journal o.left;
            honest = o.honest;
            outcomes = tt;
            done = tt;
            settled = tt;
            fails = ⊎_elim (λ outside. outside_fails commands flashes old new e outside)
                (λ first. refused_nothing _ e none (opening_first (journal_of old.journal) old.device table commands e first)) o.answers;
          };
      spared = λ h empty none. memory h empty;
    })

-- it is
module _ (table : List ChipData) (commands : List CommandData) (old mid : RigState) (opened : Opened) (coherent : IsCoherent table opened)
    (unsent : old.is_honest → (refusal : Fault) → unsent_refusal (journal_of old.journal) ≡ Some refusal → RefusesUnsent {T = Opened} (IsUntouched old) refusal old mid (Ok opened))
    (opens : old.is_honest → IsSafe old.device → Opens table old mid (Ok opened)) where
  found : (h : old.is_honest) (safe : IsSafe old.device) → chip_with table old.device.chip.id ≡ Some opened.chip.now
  found h safe = ap (chip_with table) (sym (opens h safe).answers.id) ∙ has_chip table opened.chip.now.id opened.chip.now coherent.chip

  -- what is refused then is refused of the commands
  refusal_is : (h : old.is_honest) (safe : IsSafe old.device)
      → run_refusal (journal_of old.journal) old.device table commands ≡ first_refusal (command_refusals opened.journal.state old.device opened.chip.now commands)
  refusal_is h safe =
      let d = old.device in
      let answers = (opens h safe).answers in
      let loaded = answers.loaded in
      let refusals : ℕ → List (Option Fault) = λ n. refused_unless (not (list_any is_change commands) || can_erase opened.chip.now d) fault.NoErase
      ∷ refused_unless (list_all (lies_in_flash opened.chip.now) commands) fault.OutOfFlash ∷ refused_unless (nat_le (n + length (changes_of commands)) 65535) fault.Full ∷ [] in
      let depth : length loaded.text.stack ≡ length opened.journal.state.stack = sym (depth-forgets loaded.text) ∙ ap (λ (s : StateData). length s.stack) (sym loaded.state) in
      ap (λ (o : Option Fault). first_refusal (o ∷ commands_refused (journal_of old.journal) d (chip_with table d.chip.id) commands ∷ [])) answers.accepted
      ∙ alone (commands_refused (journal_of old.journal) d (chip_with table d.chip.id) commands)
      ∙ ap (λ (c : Option ChipData). commands_refused (journal_of old.journal) d c commands) (found h safe)
      ∙ ap (λ (j : JournalData). commands_refused j d (Some opened.chip.now) commands) loaded.means
      ∙ ap (λ (n : ℕ). first_refusal (refusals n)) depth

  -- a command is refused
  pub contract_refused : {T : Type 0} (e : Fault) (result : Result T Fault) (outcomes_of : T → List OutcomeData)
      → (old.is_honest → (refusal : Fault) → unsent_refusal (journal_of old.journal) ≡ Some refusal → GoesOn AreFetches old.calls mid.calls)
      → ((d : Device) → AreCommandsOf d opened.commands → first_refusal (command_refusals opened.journal.state d opened.chip.now commands) ≡ Some e) → IsLaterRefusal e → IsErrAnd result (λ x. x ≡ e)
      → RunContract table commands old mid result outcomes_of
  contract_refused e (Ok x) outcomes_of calls refused named is = absurd is
  contract_refused {T} e (Err y) outcomes_of calls refused named is =
      let C : Fault → Type 0 = λ x. RunContract {T = T} table commands old mid (Err x) outcomes_of in
      let said : (h : old.is_honest) (safe : IsSafe old.device) → run_refusal (journal_of old.journal) old.device table commands ≡ Some e =
      λ h safe. refusal_is h safe ∙ refused old.device (opens h safe).answers.commands in
      subst C (sym is)
      (record {
        unsent = λ h refusal is. absurd (unsent h refusal is).answers;
        unsent_calls = calls;
        refused = λ h safe refusal is.
            let o = opens h safe in
            record { moments = o.moments; honest = o.honest; left = o.left; answers = inl (same_refusal _ e refusal (said h safe) is) };
        runs = λ h flashes u listed none.
            refused_nothing _ e none (said h (finished_is_safe flashes old.device old.journal u (finished_of table commands flashes old u none)));
        spared = λ h empty none. device_is_no_memory e named;
      })

  -- the table's chip is the device's
  chip_is : (h : old.is_honest) (safe : IsSafe old.device) → IsChipWith table old.device.chip.id old.device.chip → mid.device.chip ≡ opened.chip.now
  chip_is h safe own =
      let o = opens h safe in
      let same : old.device.chip ≡ opened.chip.now = coherent.chip.only old.device.chip own.held (sym o.answers.id) in
      o.left.make.chip ∙ same

  -- the commands are begun
  pub contract_ran : {T : Type 0} (new : RigState) (result : Result T Fault) (outcomes_of : T → List OutcomeData)
      → ((d : Device) → AreCommandsOf d opened.commands → first_refusal (command_refusals opened.journal.state d opened.chip.now commands) ≡ None)
      → ((flashes : List (List ℕ)) → IsSteady flashes opened.journal mid → mid.device.chip ≡ opened.chip.now → Runs commands flashes mid new result outcomes_of)
      → (commands ≡ [] → IfErr result (λ x. x ≢ fault.Memory)) → RunContract table commands old new result outcomes_of
  contract_ran {T} new result outcomes_of accepted runs spared =
      let none : (h : old.is_honest) (safe : IsSafe old.device) → run_refusal (journal_of old.journal) old.device table commands ≡ None =
      λ h safe. refusal_is h safe ∙ accepted old.device (opens h safe).answers.commands in
      record {
        unsent = λ h refusal is. absurd (unsent h refusal is).answers;
        unsent_calls = λ h refusal is. absurd (unsent h refusal is).answers;
        refused = λ h safe refusal is. refused_nothing _ refusal (none h safe) is;
        runs = λ h flashes u listed nothing.
            let finished = finished_of table commands flashes old u nothing in
            let safe = finished_is_safe flashes old.device old.journal u finished in
            let o = opens h safe in
            runs_from old mid o.left commands flashes new result outcomes_of u finished o.moments
            (runs flashes (enters flashes opened.journal old mid o.left u o.honest o.answers.loaded o.answers.settled) (chip_is h safe listed));
        spared = λ h empty is. spared is;
      }

-- the same run with another value, or another fault, at its end
pub runs_ok : {T U : Type 0} (commands : List CommandData) (flashes : List (List ℕ)) (old new : RigState) (x : T) (y : U) (one : T → List OutcomeData) (two : U → List OutcomeData) → one x ≡ two y
    → Runs commands flashes old new (Ok x) one → Runs commands flashes old new (Ok y) two
runs_ok commands flashes old new x y one two same runs =
    record { moments = runs.moments; left = runs.left; honest = runs.honest; outcomes = runs.outcomes ∙ ap (λ os. Ok os) same; done = runs.done; settled = runs.settled; fails = tt }

pub runs_err : {T U : Type 0} (commands : List CommandData) (flashes : List (List ℕ)) (old new : RigState) (e : Fault) (result : Result U Fault) (one : T → List OutcomeData) (two : U → List OutcomeData) → IsErrAnd result (λ x. x ≡ e)
    → Runs commands flashes old new (Err e) one → Runs commands flashes old new result two
runs_err commands flashes old new e (Ok x) one two is runs = absurd is
runs_err commands flashes old new e (Err y) one two is runs =
    record {
      moments = runs.moments;
      left = runs.left;
      honest = runs.honest;
      outcomes = tt;
      done = tt;
      settled = tt;
      fails = let F : Fault → Type 0 = λ x. RunFails commands flashes old new x in subst F (sym is) runs.fails;
    }
