-- What a run of commands does that is refused nothing.
use Rattle.std.specs.Prelude.{◌≡◌, ℕ, ◌≤◌, false, List, ◌++◌, length, take, reverse, Result, Ok}
use Rattle.std.specs.Prelude.{Err, IfErr, IfOk, OnOk}
use Rattle.stm_wire.specs.Device.{Device, IsSettled}
use Rattle.stm_wire.specs.Rig.{RigState}
use Rattle.stm_wire.specs.Moments.{LeavesOnly}
use Rattle.stm_session.specs.declared.fault.Fault.{Fault}
use Rattle.stm_session.specs.declared.fault.Fault.TheVariants as fault
use Rattle.stm_session.specs.Moments.{SameMake}
use Rattle.stm_session.specs.Undoable.{Undoable, is_unfinished_at}
use Rattle.stm_session.specs.Meaning.{CommandData, flash_after_all, flashes_before, changes_of}
use Rattle.stm_session.specs.Answers.{OutcomeData, answers_of, agreeing}
use Rattle.stm_session.specs.Lines.{depth_at, is_named_at, is_torn_at, run_entries, text_added}

-- what these commands add to the journal
abbrev pub run_text : RigState → List CommandData → List ℕ
run_text old commands =
    text_added (is_torn_at old.journal) (run_entries (is_named_at old.journal) old.device.chip
    (depth_at old.journal) old.device.flash commands)

-- the flashes that can be had back when so many of the commands' segments are begun,
-- that before the newest first
abbrev pub flashes_with : ℕ → RigState → List CommandData → List (List ℕ) → List (List ℕ)
flashes_with begun old commands flashes =
    reverse (take begun (flashes_before old.device.chip old.device.flash commands)) ++ flashes

-- At a moment of a run so many of its segments are begun: the flashes before these can be had back
-- too; where none is unfinished, the flash is the one after so many commands that begin a segment;
-- and a beginning of the lines is added.
pub record AmidRun (commands : List CommandData) (flashes : List (List ℕ)) (old : RigState)
    (d : Device) (journal : List ℕ) : Type 0 where
  pub begun : ℕ
  pub within : begun ≤ length (changes_of commands)
  pub make : SameMake old.device d
  pub undoable : Undoable (flashes_with begun old commands flashes) d journal
  pub finished : is_unfinished_at journal ≡ false → d.flash
      ≡ flash_after_all old.device.chip old.device.flash (take begun (changes_of commands))
  pub written : ℕ
  pub lines : journal ≡ old.journal ++ take written (run_text old commands)

-- These commands stand: each that begins a segment has one, ended, and just their lines are added.
pub record AreDone (commands : List CommandData) (flashes : List (List ℕ)) (old : RigState)
    (d : Device) (journal : List ℕ) : Type 0 where
  pub finished : is_unfinished_at journal ≡ false
  pub make : SameMake old.device d
  pub flash : d.flash ≡ flash_after_all old.device.chip old.device.flash commands
  pub undoable : Undoable
      (reverse (flashes_before old.device.chip old.device.flash commands) ++ flashes) d journal
  pub lines : journal ≡ old.journal ++ run_text old commands

-- what the commands answer on the old flash
abbrev pub answers_from : RigState → List CommandData → Result (List OutcomeData) ℕ
answers_from old commands =
    answers_of old.device.chip (depth_at old.journal) old.device.flash commands

-- those before the first verify that doesn't agree
abbrev pub standing_commands : RigState → List CommandData → List CommandData
standing_commands old commands = agreeing old.device.chip old.device.flash commands

-- A run fails by the line, the journal or memory; or it tells where the first verify that doesn't
-- agree differs, and the commands before that stand.
abbrev pub RunFails : List CommandData → List (List ℕ) → RigState → RigState → Fault → Type 0
RunFails commands flashes old new fault.Line = Unit {0}
RunFails commands flashes old new fault.Journal = Unit {0}
RunFails commands flashes old new fault.Memory = Unit {0}
RunFails commands flashes old new (fault.Differs address) =
    (answers_from old commands ≡ Err address)
    × AreDone (standing_commands old commands) flashes old new.device new.journal × IsSettled new.device
RunFails commands flashes old new _ = ⊥

-- A run that is refused nothing.
pub record Runs {T : Type 0} (commands : List CommandData) (flashes : List (List ℕ))
    (old new : RigState) (result : Result T Fault)
    (outcomes_of : T → List OutcomeData) : Type 0 where
  pub moments : LeavesOnly (AmidRun (standing_commands old commands) flashes old) old new
  pub left : AmidRun (standing_commands old commands) flashes old new.device new.journal
  pub honest : new.is_honest
  pub outcomes : IfOk result (λ x. answers_from old commands ≡ Ok (outcomes_of x))
  pub done : OnOk result (AreDone commands flashes old new.device new.journal)
  pub settled : OnOk result (IsSettled new.device)
  pub fails : IfErr result (RunFails commands flashes old new)
