-- In which order a run puts frames and appends lines, on any line.
use Rattle.stm_session.specs.Fresh.{contact_way}
use Rattle.std.specs.Prelude.{◌≡◌, ◌⊎◌, ℕ, ◌+◌, ◌≤◌, Bool, true, false, List, [], ◌∷◌, ◌++◌, length}
use Rattle.std.specs.Prelude.{Result, IfErr}
use Rattle.std.specs.List.{AllByRecursion}
use Rattle.stm_wire.specs.Chip.{ChipData}
use Rattle.stm_wire.specs.Dialogue.{GoesOn}
use Rattle.stm_wire.specs.Frames.{read_turns}
use Rattle.stm_wire.specs.Intents.{InPage}
use Rattle.stm_wire.specs.Rig.{RigState}
use Rattle.stm_journal.specs.States.{StateData}
use Rattle.stm_session.specs.declared.change.Change.{Change}
use Rattle.stm_session.specs.declared.fault.Fault.{Fault}
use Rattle.stm_session.specs.Fault.{cause_of}
use Rattle.stm_session.specs.Answers.{OutcomeData, segments_of_command}
use Rattle.stm_session.specs.Came.{FaultTells, TellsWhatCame}
use Rattle.stm_session.specs.ChangeOrder.{IsOneSegment, IsSegmentBegun}
use Rattle.stm_session.specs.Contents.{command_of}
use Rattle.stm_session.specs.Meaning.{CommandData, is_change}
use Rattle.stm_session.specs.Order.{Step, Sends, IsAfter, IsInOrder, StopsBy}
use Rattle.stm_session.specs.Reaching.{StepsOf, IsConfirmedInPart, ReachesAndDoes, ReachesAndStops}
use Rattle.stm_session.specs.Reaching.{ReachesInPart, Session, confirming}

-- bytes of one page are read
pub record IsReading (chip : ChipData) (step : Step) : Type 0 where
  pub page : ℕ
  pub address : ℕ
  pub answer : List ℕ
  pub some : 1 ≤ length answer
  pub limit : length answer ≤ 256
  pub within : InPage chip page address (length answer)
  pub is : step ≡ Sends (read_turns address answer)

-- nothing else was put, and nothing appended; and these steps are such
abbrev pub OnlyReads : ChipData → (List Step → Type 0) → RigState → RigState → Type 0
OnlyReads chip P old new = (torn : Bool) → (steps : List Step)
    × AllByRecursion (IsReading chip) steps × P steps
    × GoesOn (IsInOrder torn steps) old.calls new.calls

-- a write or an erase is one segment, whose pages come by rising number; a
-- verify or a read only reads
abbrev pub IsDoneIf : Bool → ChipData → CommandData → StateData → List Step → Type 0
IsDoneIf true chip c s steps = (change : Change) × (command_of change ≡ c)
    × IsOneSegment chip change s steps
IsDoneIf false chip c s steps = AllByRecursion (IsReading chip) steps

abbrev pub IsDoneBy : ChipData → CommandData → StateData → List Step → Type 0
IsDoneBy chip c s steps = IsDoneIf (is_change c) chip c s steps

-- and what it tells is what came
abbrev pub IsDoneTelling : ChipData → CommandData → StateData → OutcomeData → List Step → Type 0
IsDoneTelling chip c s said steps = IsDoneBy chip c s steps × TellsWhatCame chip c said steps

-- The commands are done in their order, each above the segments of those before it, with an outcome
-- each.
pub data AreDoneInOrder (chip : ChipData) : List CommandData → List OutcomeData → StateData → StateData
    → List Step → Type 0 where
  none : (s : StateData) → AreDoneInOrder chip [] [] s s []
  more : (commands : List CommandData) (c : CommandData) (outcomes : List OutcomeData)
      (said : OutcomeData) (s mid last : StateData) (before own : List Step)
      → AreDoneInOrder chip commands outcomes s mid before → IsDoneTelling chip c mid said own
      → length last.stack ≡ length mid.stack + segments_of_command c
      → AreDoneInOrder chip (commands ++ c ∷ []) (outcomes ++ said ∷ []) s last (before ++ own)

-- A run that does such steps: settling by 7F, Get, Get ID, by which the device is the chip, the
-- question whether it is still the chip's board, and then these.
abbrev pub RunDoes : StepsOf → List ChipData → RigState → RigState → Type 0
RunDoes P table old new = Session table old (λ chip l.
    ReachesAndDoes contact_way chip.id l.is_torn
    (IsAfter (confirming chip) (P chip l.state)) old new)

-- its commands, with these outcomes
abbrev pub RunsTelling : List ChipData → List CommandData → List OutcomeData → RigState → RigState
    → Type 0
RunsTelling table commands outcomes old new = RunDoes (λ chip s steps.
    (last : StateData) × AreDoneInOrder chip commands outcomes s last steps) table old new

-- or with some
abbrev pub AreDoneSomehow : List CommandData → StepsOf
AreDoneSomehow commands chip s steps = (outcomes : List OutcomeData) × (last : StateData)
    × AreDoneInOrder chip commands outcomes s last steps

abbrev pub RunsInOrder : List ChipData → List CommandData → RigState → RigState → Type 0
RunsInOrder table commands old new = RunDoes (AreDoneSomehow commands) table old new

-- At a fault:

-- a beginning of a write or an erase; or frames that read
abbrev pub IsBegunIf : Bool → ChipData → CommandData → StateData → List Step → Type 0
IsBegunIf true chip c s steps = (change : Change) × (command_of change ≡ c)
    × IsSegmentBegun chip change s steps
IsBegunIf false chip c s steps = AllByRecursion (IsReading chip) steps

abbrev pub IsBegunBy : ChipData → CommandData → StateData → List Step → Type 0
IsBegunBy chip c s steps = IsBegunIf (is_change c) chip c s steps

-- the commands before one are done, and then that one is begun; where it tells a difference, that
-- is what came
pub record AreBegunAt (fault : Fault) (chip : ChipData) (commands : List CommandData)
    (s : StateData) (steps : List Step) : Type 0 where
  pub earlier : List CommandData
  pub command : CommandData
  pub later : List CommandData
  pub split : commands ≡ earlier ++ command ∷ later
  pub outcomes : List OutcomeData
  pub mid : StateData
  pub before : List Step
  pub are_done : AreDoneInOrder chip earlier outcomes s mid before
  pub own : List Step
  pub is_begun : IsBegunBy chip command mid own
  pub tells : FaultTells fault chip command own
  pub is : steps ≡ before ++ own

-- or none is
abbrev pub AreBegun : Fault → ChipData → List CommandData → StateData → List Step → Type 0
AreBegun fault chip commands s steps = (steps ≡ []) ⊎ AreBegunAt fault chip commands s steps

-- one command is
abbrev pub IsBegunTelling : ChipData → CommandData → StateData → Fault → List Step → Type 0
IsBegunTelling chip c s fault steps = IsBegunBy chip c s steps × FaultTells fault chip c steps

-- where a fault is answered, it ends such steps
abbrev pub StopsTelling : {T : Type 0} → (Fault → List Step → Type 0) → Bool → RigState → RigState
    → Result T Fault → Type 0
StopsTelling Allowed torn old new result =
    IfErr result (λ fault. StopsBy (Allowed fault) (cause_of fault) torn old new)

-- A run that is broken off: its device isn't reached, or isn't one for it; or it is, and then that
-- question, and such steps, were cut short.
abbrev pub RunDoesInPart : StepsOf → List ChipData → RigState → RigState → Fault → Type 0
RunDoesInPart P table old new fault =
    ((torn : Bool) → GoesOn (ReachesInPart contact_way (cause_of fault) torn) old.calls new.calls)
    ⊎ Session table old (λ chip l. ReachesAndStops contact_way chip.id l.is_torn
    (IsConfirmedInPart chip (P chip l.state)) (cause_of fault) old new)

-- a beginning of its commands
abbrev pub RunStops : List ChipData → List CommandData → RigState → RigState → Fault → Type 0
RunStops table commands old new fault =
    RunDoesInPart (λ chip s. AreBegun fault chip commands s) table old new fault
