-- What a write promises that is verified: it reads again just what it may have changed, and what
-- else its image names it had read before, and found right.
use Rattle.std.specs.Prelude.{◌≡◌, ℕ, ◌+◌, ◌<◌, true, IsTrue, Contains, List, [], ◌∷◌, ◌++◌, length}
use Rattle.std.specs.Prelude.{Result, IfErr, IfOk, OnOk}
use Rattle.std.specs.List.{AllByRecursion}
use Rattle.stm_image.specs.Layout.{IsAmong}
use Rattle.stm_image.specs.Pairs.{Pairs, IsImage}
use Rattle.stm_image.specs.Part.{StandsIn}
use Rattle.stm_wire.specs.Chip.{ChipData, IsChip, page_count, page_size}
use Rattle.stm_wire.specs.Dialogue.{GoesOn}
use Rattle.stm_wire.specs.Rig.{RigState}
use Rattle.stm_journal.specs.Calls.{AreFetches}
use Rattle.stm_journal.specs.Journals.{Loaded}
use Rattle.stm_journal.specs.States.{StateData, newest_keeps}
use Rattle.stm_session.specs.declared.command.Command.TheVariants as command
use Rattle.stm_session.specs.declared.fault.Fault.{Fault}
use Rattle.stm_session.specs.declared.fault.Fault.TheVariants.{Unfinished}
use Rattle.stm_session.specs.declared.outcome.Outcome.{Outcome}
use Rattle.stm_session.specs.declared.outcome.Outcome.TheVariants as outcome
use Rattle.stm_session.specs.declared.outcome.VerifiedWrite.{VerifiedWrite}
use Rattle.stm_session.specs.Answers.{OutcomeData, was_verified, was_written}
use Rattle.stm_session.specs.ChangeOrder.{KeepsErased}
use Rattle.stm_session.specs.CommandList.{DoesCommands}
use Rattle.stm_session.specs.Fault.{HasSessionCause}
use Rattle.stm_session.specs.Meaning.{CommandData, verifies, writes}
use Rattle.stm_session.specs.Order.{Step, page_address}
use Rattle.stm_session.specs.Promises.{RunContract}
use Rattle.stm_session.specs.Refusals.{image_fits}
use Rattle.stm_session.specs.RunOrder.{IsDoneTelling, RunDoes, RunStops, RunsInOrder}
use Rattle.stm_session.specs.Sending.{SendsAsRun, is_whole}

-- a part of an image has what the image has in each page that the newest segment keeps
abbrev pub HoldsKept : ChipData → StateData → Pairs → Pairs → Type 0
HoldsKept chip s image part = (n : ℕ) → n < page_count chip → IsTrue (newest_keeps n s)
    → (p : ℕ × ℕ) → StandsIn image (page_address chip n) (page_size chip n) p → Contains part p

-- what the commands are that it does
abbrev pub written_then : Pairs → Pairs → List CommandData
written_then image part = writes image ∷ (verifies part ∷ [])

-- and what they answered
abbrev pub outcomes_told_by : VerifiedWrite → List Outcome
outcomes_told_by told = outcome.Written told.segment told.pages ∷ (outcome.Verified ∷ [])

abbrev pub outcomes_seen : VerifiedWrite → List OutcomeData
outcomes_seen told = was_written told.segment told.pages ∷ (was_verified ∷ [])

-- The image is written, as one segment, which keeps each page that was erased for it; and then such
-- a part of it is read: in each block came its bytes.
pub record IsWrittenAndSeen (chip : ChipData) (image part : Pairs) (outcomes : List OutcomeData)
    (s last : StateData) (steps : List Step) : Type 0 where
  pub limits : IsChip chip
  pub image_is : IsImage image
  pub part_is : IsImage part
  pub fits : image_fits chip image ≡ true
  pub said : OutcomeData
  pub written : List Step
  pub is_written : IsDoneTelling chip (writes image) s said written
  pub keeps : AllByRecursion (KeepsErased last) written
  pub deeper : length last.stack ≡ length s.stack + 1
  pub has_kept : HoldsKept chip last image part
  pub read : List Step
  pub is_read : IsDoneTelling chip (verifies part) last was_verified read
  pub told : outcomes ≡ said ∷ (was_verified ∷ [])
  pub is : steps ≡ written ++ read

-- It does the two commands so, and tells how many bytes the part has.
pub record WritesThen (most : ℕ) (Done : List OutcomeData → StateData → List Step → Type 0)
    (Begun : Fault → List Step → Type 0) (chip : ChipData) (image part : Pairs)
    (l l2 : Loaded) (old new : RigState) (result : Result VerifiedWrite Fault) : Type 0 where
  pub among : IsAmong part image
  pub counts : IfOk result (λ told. told.again ≡ length part)
  pub does : DoesCommands most Done Begun (λ fault. ⊥) chip
      (command.Write image ∷ (command.Verify part ∷ [])) l l2 old new result outcomes_told_by

-- A session does so of this image and part.
abbrev pub WritesAndSees : List ChipData → Pairs → Pairs → List OutcomeData → RigState → RigState
    → Type 0
WritesAndSees table image part outcomes old new = RunDoes (λ chip s steps.
    (last : StateData) × IsWrittenAndSeen chip image part outcomes s last steps) table old new

-- What a run promises of the write and the verify of a part of its image, whatever it answers; at
-- Ok the part has all that lies in the pages which the write's segment keeps, and its bytes are
-- those that are told to be read again.
pub record VerifiesWrite (table : List ChipData) (image part : Pairs) (old new : RigState)
    (result : Result VerifiedWrite Fault) : Type 0 where
  pub among : IsAmong part image
  pub promised : RunContract table (written_then image part) old new result outcomes_seen
  pub cause : HasSessionCause old new result
  pub puts : SendsAsRun table (is_whole result) 2 old new
  pub silent : IfErr result (λ fault. fault ≡ Unfinished → GoesOn AreFetches old.calls new.calls)
  pub order : OnOk result (RunsInOrder table (written_then image part) old new)
  pub told : IfOk result (λ told. WritesAndSees table image part (outcomes_seen told) old new)
  pub stops : IfErr result (RunStops table (written_then image part) old new)
  pub counts : IfOk result (λ told. told.again ≡ length part)
