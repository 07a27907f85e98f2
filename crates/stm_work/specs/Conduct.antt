-- What a step of the program does with a device: a run of just some commands, or an asking first.
use Rattle.std.specs.Prelude.{◌≡◌, ◌⊎◌, Bool, List, [], ◌∷◌, length, None, Result, Err, IfErr, IfOk}
use Rattle.std.specs.Prelude.{MatchResult, OnOk}
use Rattle.std.specs.List.{range_with_len}
use Rattle.stm_image.specs.Layout.{IsAmong}
use Rattle.stm_image.specs.Pairs.{Pairs}
use Rattle.stm_wire.specs.Chip.{ChipData}
use Rattle.stm_wire.specs.Dialogue.{GoesOn}
use Rattle.stm_wire.specs.Parts.{IsSession}
use Rattle.stm_wire.specs.Rig.{RigState}
use Rattle.stm_journal.specs.Calls.{AreFetches}
use Rattle.stm_journal.specs.Journals.{journal_of}
use Rattle.stm_session.specs.declared.contact.Told.{Told}
use Rattle.stm_session.specs.declared.fault.Fault.{Fault}
use Rattle.stm_session.specs.declared.fault.Fault.TheVariants.{Memory, Unfinished}
use Rattle.stm_session.specs.declared.information.Info.{Info}
use Rattle.stm_session.specs.Answers.{OutcomeData}
use Rattle.stm_session.specs.Fault.{HasSessionCause}
use Rattle.stm_session.specs.Fresh.{Settles}
use Rattle.stm_session.specs.Information.{Describes}
use Rattle.stm_session.specs.Moments.{IsSafe}
use Rattle.stm_session.specs.Opening.{TellsItself}
use Rattle.stm_session.specs.Refusal.{unsent_refusal}
use Rattle.stm_session.specs.Unwritten.{AppendsNothing}
use Rattle.stm_session.specs.Meaning.{CommandData, erases}
use Rattle.stm_session.specs.Reaching.{ReachesInOrder, StopsShort}
use Rattle.stm_session.specs.Promises.{IdentifyContract, InfoContract, RunContract}
use Rattle.stm_session.specs.RunOrder.{RunStops, RunsInOrder}
use Rattle.stm_session.specs.Sending.{SendsAsRun, is_whole, most_calls}
use Rattle.stm_session.specs.Seen.{SeesImage}
use Rattle.stm_session.specs.VerifiedWrite.{written_then}
use Rattle.stm_work.specs.declared.answer.Answer.{Answer}
use Rattle.stm_work.specs.Answer.{outcomes_told}

-- What `run` promises of just these commands.
pub record RunsJust {T : Type 0} (table : List ChipData) (commands : List CommandData)
    (old new : RigState) (result : Result T Fault)
    (outcomes_of : T → List OutcomeData) : Type 0 where
  pub promised : RunContract table commands old new result outcomes_of
  pub cause : HasSessionCause old new result
  pub puts : SendsAsRun table (is_whole result) (length commands) old new
  pub silent : IfErr result (λ fault. fault ≡ Unfinished → GoesOn AreFetches old.calls new.calls)
  pub order : OnOk result (RunsInOrder table commands old new)
  pub stops : IfErr result (RunStops table commands old new)

-- There was no memory for the commands, and nothing was called.
abbrev pub LacksMemory : {R : Type 0} → R → R → Result Answer Fault → Type 0
LacksMemory old new result = (result ≡ Err Memory) × (new ≡ old)

-- a run of just these commands, their outcomes told as an answer
abbrev pub RunsTold : List ChipData → List CommandData → RigState → RigState
    → Result Answer Fault → Type 0
RunsTold table commands old new result = RunsJust table commands old new result outcomes_told

-- A write that is verified is a run of it and of the verify of a part of its image, told as an answer.
-- At Ok each byte of the image was read, and was right, after the last change to its page.
pub record WritesVerified (table : List ChipData) (image : Pairs) (old new : RigState)
    (result : Result Answer Fault) : Type 0 where
  pub part : Pairs
  pub among : IsAmong part image
  pub runs : RunsTold table (written_then image part) old new result
  pub seen : OnOk result (SeesImage table image old new)

abbrev pub RunsIfRoom : {R : Type 0} → (R → RigState) → List ChipData → List CommandData → R → R
    → Result Answer Fault → Type 0
RunsIfRoom view table commands old new result =
    RunsTold table commands (view old) (view new) result ⊎ LacksMemory old new result

-- What `info` promises.
pub record PromisesInfo (table : List ChipData) (old new : RigState)
    (told : Result Info Fault) : Type 0 where
  pub promised : InfoContract table old new told
  pub describes : IfOk told (Describes table)
  pub unwritten : GoesOn AppendsNothing old.calls new.calls
  pub kept : old.is_honest → new.journal ≡ old.journal
  pub cause : HasSessionCause old new told
  pub puts : GoesOn (IsSession None 0x7F 131072 (is_whole told) (most_calls 0)) old.calls new.calls
  pub silent : IfErr told (λ fault. fault ≡ Unfinished → GoesOn AreFetches old.calls new.calls)
  pub order : (torn : Bool)
      → IfOk told (λ info. ReachesInOrder (Settles 0x7F 131072) info.id torn old new)
  pub stops : (torn : Bool) → StopsShort (Settles 0x7F 131072) torn old new told

-- What `identify` promises.
pub record Identifies (old new : RigState) (said : Result Told Fault) : Type 0 where
  pub promised : IdentifyContract old new said
  pub unwritten : GoesOn AppendsNothing old.calls new.calls
  pub kept : old.is_honest → new.journal ≡ old.journal
  pub cause : HasSessionCause old new said
  pub puts : GoesOn (IsSession None 0x7F 131072 (is_whole said) (most_calls 0)) old.calls new.calls
  pub silent : IfErr said (λ fault. fault ≡ Unfinished → GoesOn AreFetches old.calls new.calls)
  pub accepted : old.is_honest → OnOk said (unsent_refusal (journal_of old.journal) ≡ None)
  pub told : old.is_honest → IsSafe old.device → IfOk said (TellsItself old.device)
  pub order : (torn : Bool)
      → IfOk said (λ told. ReachesInOrder (Settles 0x7F 131072) told.id torn old new)
  pub stops : (torn : Bool) → StopsShort (Settles 0x7F 131072) torn old new said

-- The device is asked what it is, and by what it tells the step goes on; a fault of the asking is
-- the step's, and nothing more was called.
pub record AsksThenGoesOn {R T E : Type 0} (view : R → RigState) (table : List ChipData)
    (fails : Fault → E) (Then : Info → R → R → Result T E → Type 0) (old new : R)
    (result : Result T E) : Type 0 where
  pub mid : R
  pub told : Result Info Fault
  pub asks : PromisesInfo table (view old) (view mid) told
  pub goes_on : MatchResult told (λ info. Then info mid new result)
      (λ fault. (new ≡ mid) × (result ≡ Err (fails fault)))

-- Every page is erased, as many as the device is told to have.
abbrev pub ErasesAll : {R : Type 0} → (R → RigState) → List ChipData → R → R
    → Result Answer Fault → Type 0
ErasesAll view table old new result =
    AsksThenGoesOn view table (λ fault. fault)
    (λ told. RunsIfRoom view table (erases (range_with_len 0 told.pages) ∷ [])) old new result
