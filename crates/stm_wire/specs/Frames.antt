-- The frames that a host sends, and their dialogues.
use Rattle.std.specs.Prelude.{ℕ, ◌-◌, ◌/◌, ◌%◌, List, [], ◌∷◌, ◌++◌, length}
use Rattle.stm_wire.specs.declared.chip.EraseKind.{EraseKind}
use Rattle.stm_wire.specs.declared.chip.EraseKind.TheVariants.{Page, Extended}
use Rattle.stm_wire.specs.Exchange.{complement, xor}
use Rattle.stm_wire.specs.Reply.{ack}
use Rattle.stm_wire.specs.Dialogue.{Turn, Expects, Learns, learns, step_turns}

-- the four bytes of an address, the highest first
abbrev pub address_bytes : ℕ → List ℕ
address_bytes address =
    address / 16777216 ∷ address / 65536 % 256 ∷ address / 256 % 256 ∷ address % 256 ∷ []

-- the bytes, and their exclusive-or
abbrev pub with_checksum : List ℕ → List ℕ
with_checksum bytes = bytes ++ xor bytes ∷ []

-- a byte and its complement: so a command's code is sent, and the count of a read
abbrev pub command : ℕ → List ℕ
command code = code ∷ complement code ∷ []

abbrev pub read_frame : ℕ → ℕ → List ℕ
read_frame address size =
    command 0x11 ++ with_checksum (address_bytes address) ++ command (size - 1)

abbrev pub write_frame : ℕ → List ℕ → List ℕ
write_frame address bytes =
    command 0x31 ++ with_checksum (address_bytes address)
    ++ with_checksum ((length bytes - 1) ∷ bytes)

abbrev pub go_frame : ℕ → List ℕ
go_frame address = command 0x21 ++ with_checksum (address_bytes address)

abbrev pub erase_frame : EraseKind → ℕ → List ℕ
erase_frame Page n = command 0x43 ++ with_checksum (0 ∷ n ∷ [])
erase_frame Extended n = command 0x44 ++ with_checksum (0 ∷ 0 ∷ n / 256 ∷ n % 256 ∷ [])

-- the dialogues of these frames
abbrev pub address_turns : ℕ → ℕ → List Turn
address_turns code address =
    step_turns (command code) ++ step_turns (with_checksum (address_bytes address))

-- with the bytes that were read
abbrev pub read_turns : ℕ → List ℕ → List Turn
read_turns address answer =
    (address_turns 0x11 address ++ step_turns (command (length answer - 1))) ++ learns answer

abbrev pub write_turns : ℕ → List ℕ → List Turn
write_turns address bytes =
    address_turns 0x31 address ++ step_turns (with_checksum ((length bytes - 1) ∷ bytes))

abbrev pub go_turns : ℕ → List Turn
go_turns address = address_turns 0x21 address

abbrev pub erase_turns : EraseKind → ℕ → List Turn
erase_turns Page n = step_turns (command 0x43) ++ step_turns (with_checksum (0 ∷ n ∷ []))
erase_turns Extended n =
    step_turns (command 0x44) ++ step_turns (with_checksum (0 ∷ 0 ∷ n / 256 ∷ n % 256 ∷ []))

-- with the version and the codes that came
abbrev pub get_turns : ℕ → List ℕ → List Turn
get_turns version codes =
    (step_turns (command 0x00) ++ learns (length codes ∷ version ∷ codes)) ++ Expects ack ∷ []

-- with the two bytes of the number that came
abbrev pub get_id_turns : ℕ → ℕ → List Turn
get_id_turns high low =
    step_turns (command 0x02) ++ Expects 1 ∷ Learns high ∷ Learns low ∷ Expects ack ∷ []

-- a protection is acknowledged twice
abbrev pub protect_turns : ℕ → List Turn
protect_turns code = step_turns (command code) ++ Expects ack ∷ []
