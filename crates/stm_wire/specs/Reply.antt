-- What a device owes after the last byte of a list.
use Rattle.std.specs.Prelude.{ℕ, ◌+◌, ◌/◌, ◌%◌, ◌||◌, ◌==◌, if◌then◌else◌, List}
use Rattle.std.specs.Prelude.{[], ◌∷◌, ◌++◌, length, Option, Some, None}
use Rattle.stm_wire.specs.Chip.{ChipData}
use Rattle.stm_wire.specs.Telling.{readable_bytes}
use Rattle.stm_wire.specs.declared.verdict.Verdict.{Verdict}
use Rattle.stm_wire.specs.declared.verdict.Verdict.TheVariants.{Done, Refused, Loose}
use Rattle.stm_wire.specs.Exchange.{number_of, verdict}

-- the byte by which a device accepts a step
abbrev pub ack : ℕ
ack = 0x79

-- the byte by which a device refuses a step
abbrev pub nack : ℕ
nack = 0x1F

-- after 00 FF: how many codes, the version, the codes
abbrev pub commands_answer : ℕ → List ℕ → List ℕ
commands_answer version codes = length codes ∷ version ∷ codes ++ ack ∷ []

-- after 02 FD
abbrev pub id_answer : ChipData → List ℕ
id_answer chip = 1 ∷ chip.id / 256 ∷ chip.id % 256 ∷ ack ∷ []

-- after 11 EE: the bytes from the address
abbrev pub read_answer : ChipData → List ℕ → List ℕ → List ℕ
read_answer chip flash (a ∷ b ∷ c ∷ d ∷ check ∷ n ∷ rest) =
    readable_bytes chip flash (number_of a b c d) (n + 1)
read_answer chip flash bytes = []

-- the data that follow the acknowledgement of a done list
abbrev pub answer : ChipData → ℕ → List ℕ → List ℕ → List ℕ → List ℕ
answer chip version codes flash (code ∷ check ∷ rest) =
    if code == 0x00 then commands_answer version codes
    else (if code == 0x02 then id_answer chip
    else (if code == 0x11 then read_answer chip flash rest
    else []))
answer chip version codes flash bytes = []

-- an open list ends a step that is acknowledged: a code with its complement, or the address of a
-- read or a write
abbrev pub step_reply : List ℕ → List ℕ
step_reply (code ∷ check ∷ []) = ack ∷ []
step_reply (code ∷ check ∷ a ∷ b ∷ c ∷ d ∷ x ∷ []) =
    if code == 0x11 || code == 0x31 then ack ∷ [] else []
step_reply bytes = []

-- of the loose lists, this is promised of the protections alone
abbrev pub reply_to : Option Verdict → ChipData → ℕ → List ℕ → List ℕ → List ℕ → List ℕ
reply_to None chip version codes flash bytes = step_reply bytes
reply_to (Some Refused) chip version codes flash bytes = nack ∷ []
reply_to (Some Done) chip version codes flash bytes = ack ∷ answer chip version codes flash bytes
reply_to (Some Loose) chip version codes flash bytes = ack ∷ ack ∷ []

-- what the last byte of the list adds to the bytes owed
abbrev pub reply : ChipData → ℕ → List ℕ → List ℕ → List ℕ → List ℕ
reply chip version codes flash bytes =
    reply_to (verdict chip codes bytes) chip version codes flash bytes
