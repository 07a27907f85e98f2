-- Which part of a flash is read.
use Rattle.std.specs.Prelude.{◌≡◌, ℕ, ◌+◌, ◌-◌, ◌||◌, nat_lt, nat_le, if◌then◌else◌, [], ◌∷◌, List}
use Rattle.std.specs.Prelude.{Option, Some, None, option_map, MatchOption, Result, Err}
use Rattle.std.specs.Option.{unwrap_or}
use Rattle.stm_wire.specs.Chip.{ChipData}
use Rattle.stm_wire.specs.Rig.{RigState}
use Rattle.stm_words.specs.declared.range.Range.{Range}
use Rattle.stm_session.specs.declared.fault.Fault.{Fault}
use Rattle.stm_session.specs.declared.fault.Fault.TheVariants.{OutOfFlash}
use Rattle.stm_session.specs.Meaning.{reads}
use Rattle.stm_work.specs.declared.answer.Answer.{Answer}
use Rattle.stm_work.specs.Conduct.{AsksThenGoesOn, RunsTold}

-- the part that a range names, where it has a length
abbrev pub part_given : Option Range → Option (ℕ × ℕ)
part_given None = None
part_given (Some range) = option_map (λ length. (range.start, length)) range.length

-- where a range starts
abbrev pub start_given : Option Range → Option ℕ
start_given range = option_map (λ range. range.start) range

-- the part of a flash from a place on, or the whole; none where it would start outside
abbrev pub to_the_end : Option ℕ → ℕ → ℕ → Option (ℕ × ℕ)
to_the_end start base size =
    let from = unwrap_or start base in
    if nat_lt from base || nat_le (base + size) from then None else Some (from, base + size - from)

-- just this part is read; none is refused before anything is called
abbrev pub ReadsPart : {R : Type 0} → (R → RigState) → List ChipData → Option (ℕ × ℕ) → R → R
    → Result Answer Fault → Type 0
ReadsPart view table None old new result = (result ≡ Err OutOfFlash) × (new ≡ old)
ReadsPart view table (Some part) old new result =
    RunsTold table (reads part.0 part.1 ∷ []) (view old) (view new) result

-- The part that a range names is read; where it has no length, or none is given, the device is
-- asked where its flash ends.
abbrev pub ReadsRange : {R : Type 0} → (R → RigState) → List ChipData → Option Range → R → R
    → Result Answer Fault → Type 0
ReadsRange view table range old new result =
    MatchOption (part_given range)
    (AsksThenGoesOn view table (λ fault. fault)
    (λ told. ReadsPart view table (to_the_end (start_given range) told.base told.size))
    old new result)
    (λ part. ReadsPart view table (Some part) old new result)
