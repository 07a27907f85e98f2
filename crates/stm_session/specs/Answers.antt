-- What the commands of a session answer: functions of the flash alone, that know
-- nothing of plans and frames.
use Rattle.std.specs.Prelude.{◌≡◌, ℕ, zero, suc, ◌+◌, Bool, true, ◌==◌, if◌then◌else◌, List, []}
use Rattle.std.specs.Prelude.{◌∷◌, map, bytes_eq, Option, Some, None, is_none, Result, Ok, Err}
use Rattle.stm_image.specs.Lay.{lay, AgreesWith, IsFirstDifference}
use Rattle.stm_image.specs.Pairs.{Pairs, byte_at}
use Rattle.stm_wire.specs.Chip.{ChipData, page_count, page_of}
use Rattle.stm_wire.specs.Effect.{erased_pages}
use Rattle.stm_session.specs.Running.{bytes_at}
use Rattle.stm_session.specs.declared.outcome.Outcome.{Outcome}
use Rattle.stm_session.specs.declared.outcome.Outcome.TheVariants as outcome
use Rattle.stm_session.specs.declared.outcome.Report.{Report}
use Rattle.stm_session.specs.Meaning.{CommandData, writes, erases, verifies, reads, flash_after}
use Rattle.stm_session.specs.Meaning.{is_change}

-- an outcome, with its bytes as a list
pub data OutcomeData : Type 0 where
  was_written : (segment pages : ℕ) → OutcomeData
  was_erased : (segment pages : ℕ) → OutcomeData
  was_verified : OutcomeData
  was_read : List ℕ → OutcomeData

abbrev pub outcome_data : Outcome → OutcomeData
outcome_data (outcome.Written segment pages) = was_written segment pages
outcome_data (outcome.Erased segment pages) = was_erased segment pages
outcome_data outcome.Verified = was_verified
outcome_data (outcome.Read bytes) = was_read bytes.items

abbrev pub outcomes_in : Report → List OutcomeData
outcomes_in report = map outcome_data report.outcomes.items

-- how many of the first n pages differ
abbrev pub differing_below : ℕ → ChipData → List ℕ → List ℕ → ℕ
differing_below zero chip old new = 0
differing_below (suc n) chip old new =
    differing_below n chip old new
    + (if bytes_eq (page_of chip old n) (page_of chip new n) then 0 else 1)

-- how many pages of the chip differ between two flashes
abbrev pub pages_that_differ : ChipData → List ℕ → List ℕ → ℕ
pages_that_differ chip old new = differing_below (page_count chip) chip old new

-- the image has no byte for this place, or this one
abbrev pub has_byte : Option ℕ → ℕ → Bool
has_byte None byte = true
has_byte (Some wanted) byte = wanted == byte

-- the least address, from this one on, where the flash hasn't the image's byte
abbrev pub first_difference : Pairs → ℕ → List ℕ → Option ℕ
first_difference image address [] = None
first_difference image address (byte ∷ flash) =
    if has_byte (byte_at image address) byte then first_difference image (address + 1) flash
    else Some address

-- the image agrees, or the least address that differs
abbrev pub verified_or : Option ℕ → Result OutcomeData ℕ
verified_or None = Ok was_verified
verified_or (Some address) = Err address

-- what a command answers on this flash, as segment k where it begins one
abbrev pub outcome_of : ChipData → ℕ → List ℕ → CommandData → Result OutcomeData ℕ
outcome_of chip k flash (writes image) =
    Ok (was_written k (pages_that_differ chip flash (lay image chip.base flash)))
outcome_of chip k flash (erases pages) =
    Ok (was_erased k (pages_that_differ chip flash (erased_pages chip pages flash)))
outcome_of chip k flash (verifies image) = verified_or (first_difference image chip.base flash)
outcome_of chip k flash (reads start size) = Ok (was_read (bytes_at chip flash start size))

-- one command's answer in front of those of the later ones; the first differing address decides
abbrev pub in_front_of : Result OutcomeData ℕ → Result (List OutcomeData) ℕ
    → Result (List OutcomeData) ℕ
in_front_of (Err address) rest = Err address
in_front_of (Ok said) (Err address) = Err address
in_front_of (Ok said) (Ok rest) = Ok (said ∷ rest)

-- how many segments the command begins: one or none
abbrev pub segments_of_command : CommandData → ℕ
segments_of_command c = if is_change c then 1 else 0

-- what commands answer above so many segments: an outcome each, or the least differing address of
-- the first verify that doesn't agree
abbrev pub answers_of : ChipData → ℕ → List ℕ → List CommandData → Result (List OutcomeData) ℕ
answers_of chip below flash [] = Ok []
answers_of chip below flash (c ∷ commands) =
    in_front_of (outcome_of chip (below + 1) flash c)
    (answers_of chip (below + segments_of_command c) (flash_after chip flash c) commands)

-- no byte of this flash differs from a verify's image; no other command can disagree
abbrev pub agrees : ChipData → List ℕ → CommandData → Bool
agrees chip flash (writes image) = true
agrees chip flash (erases pages) = true
agrees chip flash (verifies image) = is_none (first_difference image chip.base flash)
agrees chip flash (reads start size) = true

-- the commands before the first verify that doesn't agree
abbrev pub agreeing : ChipData → List ℕ → List CommandData → List CommandData
agreeing chip flash [] = []
agreeing chip flash (c ∷ commands) =
    if agrees chip flash c then c ∷ agreeing chip (flash_after chip flash c) commands else []

-- A law above the definition: it tells the first place that differs, and none only where all agree.
abbrev pub FirstDifferenceIsFirst : Type 0
FirstDifferenceIsFirst = (image : Pairs) (base : ℕ) (flash : List ℕ) (address : ℕ)
    → first_difference image base flash ≡ Some address
    → IsFirstDifference image base flash address

abbrev pub NoDifferenceAgrees : Type 0
NoDifferenceAgrees = (image : Pairs) (base : ℕ) (flash : List ℕ)
    → first_difference image base flash ≡ None → AgreesWith image base flash
