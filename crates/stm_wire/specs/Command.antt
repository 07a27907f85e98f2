-- What commands ask of a device that follows the model, and what they do to it.
use Rattle.std.specs.Prelude.{◌<◌, ◌-◌, [], IsTrue, ◌≡◌, ◌⊎◌, ℕ, List, ◌++◌}
use Rattle.std.specs.Prelude.{◌∷◌, length, take, drop, Result, IfErr, IfOk}
use Rattle.stm_wire.specs.declared.fault.WireFault.{WireFault}
use Rattle.stm_wire.specs.declared.fault.WireFault.TheVariants.{Line}
use Rattle.stm_wire.specs.Device.{Device, Connected, Fed, IsSettled}
use Rattle.stm_wire.specs.declared.chip.EraseKind.{EraseKind}
use Rattle.stm_wire.specs.Chip.{page_count, fits_inside, is_inside}
use Rattle.stm_wire.specs.Telling.{can_read, readable_bytes, takes_at}
use Rattle.stm_wire.specs.Exchange.{is_listed}
use Rattle.stm_wire.specs.Effect.{Effect, Write, erased_pages}

-- no other fault than that of the line
abbrev pub IsOkOrLine : {T : Type 0} → Result T WireFault → Type 0
IsOkOrLine result = IfErr result (λ fault. fault ≡ Line)

-- Of the faults it answers that of the line alone, and P holds where it answers Ok.
pub record Does {T : Type 0} (result : Result T WireFault) (P : T → Type 0) : Type 0 where
  pub fails : IsOkOrLine result
  pub done : IfOk result P

-- the device with these bytes owed before the others
abbrev pub owing : List ℕ → Device → Device
owing bytes d = record d { owed = bytes ++ d.owed }

-- this byte is owed first
abbrev pub OwesFirst : ℕ → Device → Type 0
OwesFirst byte d = (rest : List ℕ) × (d.owed ≡ byte ∷ rest)

-- whatever device the bytes leave, it owes this byte first
abbrev pub LeavesFirst : ℕ → List ℕ → Device → Type 0
LeavesFirst byte bytes old = (new : Device) → Fed bytes old new → OwesFirst byte new

-- connected with this rest, owing nothing
abbrev pub with_rest : List ℕ → Device → Device
with_rest rest d = record d { owed = []; phase = Connected rest }

-- the device waits for a command that reads or writes at this address
pub record TakesAddress (code address : ℕ) (d : Device) : Type 0 where
  pub settled : IsSettled d
  pub takes : (code ≡ 0x11) ⊎ (code ≡ 0x31)
  pub inside : IsTrue (takes_at d.chip code address)

-- it can read as many bytes from there
pub record CanRead (address size : ℕ) (d : Device) : Type 0 where
  pub settled : IsSettled d
  pub inside : IsTrue (fits_inside d.chip address size)

-- it tells as many bytes from there, of its flash or of its board
pub record CanTell (address size : ℕ) (d : Device) : Type 0 where
  pub settled : IsSettled d
  pub readable : IsTrue (can_read d.chip address size)

-- what it tells then
abbrev pub told_bytes : ℕ → ℕ → Device → List ℕ
told_bytes address size d = readable_bytes d.chip d.flash address size

-- the buffer holds the flash's bytes from there, and nothing changed
pub record HasRead (address : ℕ) (bytes : List ℕ) (old new : Device) : Type 0 where
  pub same : new ≡ old
  pub read : bytes ≡ take (length bytes) (drop (address - old.chip.base) old.flash)

-- it can erase this page by the command of this kind
pub record CanErase (kind : EraseKind) (n : ℕ) (d : Device) : Type 0 where
  pub settled : IsSettled d
  pub same_kind : d.chip.kind ≡ kind
  pub exists : n < page_count d.chip

-- these pages erased, and nothing else changed
abbrev pub with_pages_erased : List ℕ → Device → Device
with_pages_erased pages d = record d { flash = erased_pages d.chip pages d.flash }

-- the bytes lie inside the flash, and the device waits for a command
pub record CanWrite (address size : ℕ) (d : Device) : Type 0 where
  pub settled : IsSettled d
  pub inside : IsTrue (fits_inside d.chip address size)

-- the flash took the bytes, and nothing else changed
pub record HasWritten (address : ℕ) (bytes : List ℕ) (old new : Device) : Type 0 where
  pub same : new ≡ record old { flash = new.flash }
  pub written : Effect old.chip (Write address bytes) old.flash new.flash

-- it can be told to go to this address
pub record CanGo (address : ℕ) (d : Device) : Type 0 where
  pub settled : IsSettled d
  pub listed : IsTrue (is_listed d.codes 0x21)
  pub inside : IsTrue (is_inside d.chip address)

-- it can change a protection by this code
pub record CanProtect (code : ℕ) (d : Device) : Type 0 where
  pub settled : IsSettled d
  pub listed : IsTrue (is_listed d.codes code)
