-- What is made of bytes of the flash that were read: their CRC, and a HEX text.
use Rattle.std.specs.Prelude.{◌≡◌, ℕ, List, Bool, true, false, Option, Some, None, Result, Ok, Err}
use Rattle.std.specs.Prelude.{IfOk, MatchResult}
use Rattle.std.specs.Option.{option_or}
use Rattle.stm_image.specs.Canon.{canon}
use Rattle.stm_image.specs.Pairs.{Pairs, raw_pairs}
use Rattle.stm_wire.specs.Chip.{ChipData}
use Rattle.stm_wire.specs.Rig.{RigState}
use Rattle.stm_words.specs.declared.range.Range.{Range}
use Rattle.stm_session.specs.declared.fault.Fault.{Fault}
use Rattle.stm_session.specs.declared.fault.Fault.TheVariants.{OutOfFlash}
use Rattle.stm_session.specs.declared.information.Info.{Info}
use Rattle.stm_work.specs.declared.answer.Answer.{Answer}
use Rattle.stm_work.specs.declared.answer.Answer.TheVariants as answer
use Rattle.stm_work.specs.declared.failure.Failure.{Failure}
use Rattle.stm_work.specs.declared.failure.Failure.TheVariants.{Session}
use Rattle.stm_files.specs.Crc.{crc_of}
use Rattle.stm_work.specs.Reading.{ReadsPart, part_given, start_given, to_the_end}

-- bytes are told by their CRC
abbrev pub summed : Answer → Answer
summed (answer.Bytes bytes) = answer.Sum (crc_of bytes.items)
summed said = said

-- what was read is told by its CRC, and a fault as it is
abbrev pub SumsUp : Result Answer Fault → Result Answer Failure → Type 0
SumsUp (Ok said) result = result ≡ Ok (summed said)
SumsUp (Err fault) result = result ≡ Err (Session fault)

-- the answer is a text of which this is true
abbrev pub IsText : (List ℕ → Type 0) → Answer → Type 0
IsText P (answer.Bytes text) = P text.items
IsText P _ = ⊥

-- the canonical text of just these bytes, or, where what is blank is left out, of some image
abbrev pub IsHexOf : Bool → ℕ → List ℕ → List ℕ → Type 0
IsHexOf false start bytes text = text ≡ canon (raw_pairs start bytes)
IsHexOf true start bytes text = (image : Pairs) × (text ≡ canon image)

-- what was read is told as HEX
abbrev pub TellsHex : Bool → ℕ → Answer → Result Answer Failure → Type 0
TellsHex skips start (answer.Bytes bytes) result =
    IfOk result (IsText (IsHexOf skips start bytes.items))
TellsHex skips start _ result = ⊥

-- a part is read, and told as HEX; none is refused before anything is called
abbrev pub ReadsPartAsHex : {R : Type 0} → (R → RigState) → List ChipData → Bool → Option (ℕ × ℕ)
    → R → R → Result Answer Failure → Type 0
ReadsPartAsHex view table skips None old new result =
    (result ≡ Err (Session OutOfFlash)) × (new ≡ old)
ReadsPartAsHex view table skips (Some part) old new result =
    (said : Result Answer Fault) × ReadsPart view table (Some part) old new said
    × MatchResult said (λ answer. TellsHex skips part.0 answer result)
    (λ fault. result ≡ Err (Session fault))

-- the part that a range names of a device that told where its flash lies
abbrev pub part_of : Option Range → Info → Option (ℕ × ℕ)
part_of range told =
    option_or (part_given range) (to_the_end (start_given range) told.base told.size)

-- it is read, and told as HEX
abbrev pub ReadsAsHex : {R : Type 0} → (R → RigState) → List ChipData → Option Range → Bool → Info
    → R → R → Result Answer Failure → Type 0
ReadsAsHex view table range skips told old new result =
    ReadsPartAsHex view table skips (part_of range told) old new result
