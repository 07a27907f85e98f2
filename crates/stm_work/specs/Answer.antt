-- What an answer of the program tells of a session.
use Rattle.std.specs.Prelude.{◌≡◌, ℕ, Bool, true, false, List, [], ◌∷◌, String, map, vec_len}
use Rattle.std.specs.Prelude.{Option, None, Some}
use Rattle.std.specs.declared.alloc.Global.{Global}
use Rattle.stm_image.specs.Pairs.{Pairs}
use Rattle.stm_session.specs.Answers.{OutcomeData, was_written, was_erased, was_verified, was_read}
use Rattle.stm_session.specs.declared.information.Info.{Info}
use Rattle.stm_files.specs.PageSum.{page_sum}
use Rattle.stm_work.specs.declared.answer.Answer.{Answer}
use Rattle.stm_work.specs.declared.answer.Answer.TheVariants as answer
use Rattle.stm_work.specs.TriedBoards.{AreTried}

-- the outcomes that it tells, in their order
abbrev pub outcomes_told : Answer → List OutcomeData
outcomes_told answer.Nothing = []
outcomes_told (answer.Told info tried) = []
outcomes_told (answer.Identified told table) = []
outcomes_told (answer.Bytes bytes) = was_read bytes.items ∷ []
outcomes_told (answer.Filed bytes crc) = []
outcomes_told (answer.Sum crc) = []
outcomes_told (answer.Written segment pages bytes crc (Some again)) =
    was_written segment pages ∷ was_verified ∷ []
outcomes_told (answer.Written segment pages bytes crc None) = was_written segment pages ∷ []
outcomes_told (answer.Verified bytes crc) = was_verified ∷ []
outcomes_told (answer.Erased segment pages) = was_erased segment pages ∷ []
outcomes_told (answer.Undone count bytes) = []
outcomes_told (answer.UndoneBeside count bytes unchanged left) = []
outcomes_told (answer.Logged text segments) = []
outcomes_told (answer.Kept count left) = []

-- it tells what a device is, and how many real boards with its chip were tried, where the texts of
-- tables tell that
pub record IsToldBeside (texts : List (List ℕ)) (info : Info) (told : Answer) : Type 0 where
  pub tried : Option ℕ
  pub told_is : told ≡ answer.Told info tried
  pub tried_is : AreTried info.id texts tried

-- An answer beside what the tables say: what the device is, with what they tell of such boards;
-- what it says itself, with the names of the tables; any other as it is.
abbrev pub IsBeside : List (List ℕ) → Answer → Answer → Type 0
IsBeside texts (answer.Told info tried) told = IsToldBeside texts info told
IsBeside texts (answer.Identified said before) told =
    (table : String Global) × (told ≡ answer.Identified said (Some table))
IsBeside texts other told = told ≡ other

-- it is what was read of the flash
abbrev pub is_flash : Answer → Bool
is_flash (answer.Bytes bytes) = true
is_flash other = false

-- the CRC of an image's bytes, by rising address
abbrev pub image_sum : Pairs → ℕ
image_sum image = page_sum (map (λ p. p.1) image)

-- what is told of bytes that are in a file
abbrev pub filed : Answer → Answer
filed (answer.Bytes bytes) = answer.Filed (vec_len bytes) (page_sum bytes.items)
filed other = other

-- it tells bytes, so many
abbrev pub IsReadAnswer : ℕ → Answer → Type 0
IsReadAnswer size (answer.Bytes bytes) = vec_len bytes ≡ size
IsReadAnswer size _ = ⊥
