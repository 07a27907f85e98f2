-- What doing a list of commands wants and promises, with the question before it or without.
use Rattle.std.specs.Prelude.{◌≡◌, ◌≢◌, ℕ, ◌+◌, ◌≤◌, true, false, List, [], length, map}
use Rattle.std.specs.Prelude.{Some, Result, IfErr, IfOk}
use Rattle.std.specs.List.{list_all}
use Rattle.stm_wire.specs.Chip.{ChipData}
use Rattle.stm_wire.specs.Dialogue.{GoesOn}
use Rattle.stm_wire.specs.Parts.{IsPart}
use Rattle.stm_wire.specs.Rig.{RigState}
use Rattle.stm_journal.specs.Journals.{Loaded}
use Rattle.stm_journal.specs.States.{StateData, is_unfinished}
use Rattle.stm_session.specs.declared.command.Command.{Command}
use Rattle.stm_session.specs.declared.outcome.Outcome.{Outcome}
use Rattle.stm_session.specs.declared.fault.Fault.{Fault}
use Rattle.stm_session.specs.declared.fault.Fault.TheVariants.{Unfinished}
use Rattle.stm_session.specs.Answers.{OutcomeData, outcome_data}
use Rattle.stm_session.specs.Fault.{HasSessionCause}
use Rattle.stm_session.specs.Meaning.{changes_of, commands_in}
use Rattle.stm_session.specs.Order.{Step, Follows}
use Rattle.stm_session.specs.Refusals.{lies_in_flash}
use Rattle.stm_session.specs.RunOrder.{StopsTelling}
use Rattle.stm_session.specs.Running.{AreKindsOf}
use Rattle.stm_session.specs.Runs.{Runs}
use Rattle.stm_session.specs.Sending.{is_whole}
use Rattle.stm_session.specs.Steps.{IsSteady}

-- The commands lie in the chip's flash, and the journal, which is finished, has room for them.
pub record AreFit (chip : ChipData) (commands : List Command) (s : StateData) : Type 0 where
  pub in_flash : list_all (lies_in_flash chip) (commands_in commands) ≡ true
  pub room : length s.stack + length (changes_of (commands_in commands)) ≤ 65535
  pub finished : is_unfinished s ≡ false

-- So many bytes are put and got at most. At Ok such steps are done, with these outcomes and this
-- state behind them; a fault ends such a beginning, and is such a one where there is no command. On
-- a device that follows the model, which is of this chip, it is a run of the commands.
pub record DoesCommands {T : Type 0} (most : ℕ) (Done : List OutcomeData → StateData → List Step → Type 0)
    (Begun : Fault → List Step → Type 0) (IsOfNone : Fault → Type 0) (chip : ChipData)
    (commands : List Command) (l l2 : Loaded) (old new : RigState)
    (result : Result T Fault) (outcomes_of : T → List Outcome) : Type 0 where
  pub puts : GoesOn (IsPart (Some chip) (is_whole result) most) old.calls new.calls
  pub kinds : IfOk result (λ x. AreKindsOf commands (outcomes_of x))
  pub order : IfOk result (λ x. let said = map outcome_data (outcomes_of x) in
      Follows (Done said l2.state) l l2 old new)
  pub stops : StopsTelling Begun l.is_torn old new result
  pub none : commands ≡ [] → IfErr result IsOfNone
  pub cause : HasSessionCause old new result
  pub named : IfErr result (λ fault. fault ≢ Unfinished)
  pub honest : (flashes : List (List ℕ)) → IsSteady flashes l old → old.device.chip ≡ chip
      → Runs (commands_in commands) flashes old new result
      (λ x. map outcome_data (outcomes_of x))
