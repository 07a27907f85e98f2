-- The simulator: one device of the model, with every choice made.
use Rattle.std.specs.Prelude.{ℕ, ◌-◌, ◌||◌, ◌==◌, if◌then◌else◌, List, [], ◌∷◌, ◌++◌, length}
use Rattle.std.specs.Prelude.{take, drop, replicate, bit_and, bit_or, Option, Some, None, IsTrue}
use Rattle.stm_wire.specs.declared.verdict.Verdict.{Verdict}
use Rattle.stm_wire.specs.declared.verdict.Verdict.TheVariants.{Done, Refused, Loose}
use Rattle.stm_wire.specs.declared.chip.EraseKind.{EraseKind}
use Rattle.stm_wire.specs.declared.chip.EraseKind.TheVariants.{Page, Extended}
use Rattle.stm_sim.specs.declared.simulator.Stage.{Stage}
use Rattle.stm_sim.specs.declared.simulator.Stage.TheVariants.{Fresh as StageFresh}
use Rattle.stm_sim.specs.declared.simulator.Stage.TheVariants.{Connected as StageConnected}
use Rattle.stm_sim.specs.declared.simulator.Stage.TheVariants.{Gone as StageGone}
use Rattle.stm_wire.specs.Chip.{ChipData, erased_byte, fits_inside, with_bytes}
use Rattle.stm_wire.specs.Exchange.{verdict}
use Rattle.stm_wire.specs.Effect.{Change, Nothing, ErasePages, EraseAll}
use Rattle.stm_wire.specs.Effect.{Write, change_of, erased_pages}
use Rattle.stm_wire.specs.Reply.{ack, nack}
use Rattle.stm_wire.specs.Device.{Device, Phase, Fresh, Connected, Gone, reply_of, phase_after}

-- A byte written over another: the bits that both have, since a write can only clear what an erase
-- has set; where an erased byte is 00, the bits that either has.
abbrev pub stored_byte : ℕ → ℕ → ℕ → ℕ
stored_byte erased old sent = if erased == 0 then bit_or old sent else bit_and old sent

-- place by place
abbrev pub stored_bytes : ℕ → List ℕ → List ℕ → List ℕ
stored_bytes erased (old ∷ olds) (sent ∷ sents) =
    stored_byte erased old sent ∷ stored_bytes erased olds sents
stored_bytes erased olds sents = []

-- the flash after a done list
abbrev pub changed_flash : ChipData → Change → List ℕ → List ℕ
changed_flash chip Nothing flash = flash
changed_flash chip (ErasePages pages) flash = erased_pages chip pages flash
changed_flash chip EraseAll flash = replicate (length flash) (erased_byte chip)
changed_flash chip (Write address sent) flash =
    with_bytes (address - chip.base)
    (stored_bytes (erased_byte chip) (take (length sent) (drop (address - chip.base) flash)) sent)
    flash

-- a write that is done stays inside the flash
abbrev pub Fits : ChipData → Change → Type 0
Fits chip (Write address sent) = IsTrue (fits_inside chip address (length sent))
Fits chip Nothing = Unit {0}
Fits chip (ErasePages pages) = Unit {0}
Fits chip EraseAll = Unit {0}

-- after a loose list: fresh after a protection, with an erased flash after the readout's end; other
-- lists are refused
abbrev pub after_loose : Device → List ℕ → Device
after_loose d (code ∷ rest) =
    if code == 0x92
    then record d {
      flash = replicate (length d.flash) (erased_byte d.chip);
      owed = d.owed ++ ack ∷ ack ∷ [];
      phase = Fresh;
    }
    else (if code == 0x73 || code == 0x82
    then record d { owed = d.owed ++ ack ∷ ack ∷ []; phase = Fresh }
    else record d { owed = d.owed ++ nack ∷ []; phase = Connected [] })
after_loose d [] = d

abbrev pub after_verdict : Device → List ℕ → Option Verdict → Device
after_verdict d bytes None = record d { owed = d.owed ++ reply_of d bytes; phase = Connected bytes }
after_verdict d bytes (Some Refused) =
    record d { owed = d.owed ++ reply_of d bytes; phase = Connected [] }
after_verdict d bytes (Some Done) =
    record d {
      flash = changed_flash d.chip (change_of bytes) d.flash;
      owed = d.owed ++ reply_of d bytes;
      phase = phase_after bytes;
    }
after_verdict d bytes (Some Loose) = after_loose d bytes

abbrev pub after_byte : Device → Phase → ℕ → Device
after_byte d Fresh byte =
    if byte == 0x7F then record d { owed = d.owed ++ ack ∷ []; phase = Connected [] } else d
after_byte d (Connected rest) byte =
    after_verdict d (rest ++ byte ∷ []) (verdict d.chip d.codes (rest ++ byte ∷ []))
after_byte d Gone byte = d

-- the device after a byte
unfoldable pub simulated_device : ℕ → Device → Device
simulated_device byte d = after_byte d d.phase byte

abbrev pub simulator_version : EraseKind → ℕ
simulator_version Page = 0x22
simulator_version Extended = 0x31

abbrev pub simulator_codes : EraseKind → List ℕ
simulator_codes Page = 0x00 ∷ 0x02 ∷ 0x11 ∷ 0x21 ∷ 0x31 ∷ 0x43 ∷ 0x73 ∷ 0x82 ∷ 0x92 ∷ []
simulator_codes Extended = 0x00 ∷ 0x02 ∷ 0x11 ∷ 0x21 ∷ 0x31 ∷ 0x44 ∷ 0x73 ∷ 0x82 ∷ 0x92 ∷ []

abbrev pub phase_of : Stage → List ℕ → Phase
phase_of StageFresh rest = Fresh
phase_of StageConnected rest = Connected rest
phase_of StageGone rest = Gone

abbrev pub device_of : ChipData → List ℕ → List ℕ → List ℕ → Stage → Device
device_of chip flash owed rest stage =
    record {
      chip = chip;
      version = simulator_version chip.kind;
      codes = simulator_codes chip.kind;
      flash = flash;
      owed = owed;
      phase = phase_of stage rest;
    }
