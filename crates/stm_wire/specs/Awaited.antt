-- How many copies of a byte a device takes at most until it refuses one.
use Rattle.std.specs.Prelude.{◌≡◌, ℕ, zero, suc, ◌+◌, ◌*◌, ◌<◌, ◌≤◌, ◌==◌, if◌then◌else◌, min, max}
use Rattle.std.specs.Prelude.{List, [], ◌∷◌, ◌++◌, Option, Some, None}
use Rattle.stm_wire.specs.declared.chip.EraseKind.{EraseKind}
use Rattle.stm_wire.specs.declared.chip.EraseKind.TheVariants.{Page, Extended}
use Rattle.stm_wire.specs.declared.intent.Intent.{Intent}
use Rattle.stm_wire.specs.declared.intent.Intent.TheVariants.{Erase, Program}
use Rattle.stm_wire.specs.Chip.{ChipData}
use Rattle.stm_wire.specs.declared.verdict.Verdict.{Verdict}
use Rattle.stm_wire.specs.declared.verdict.Verdict.TheVariants.{Done, Refused, Loose}
use Rattle.stm_wire.specs.Exchange.{verdict}
use Rattle.stm_wire.specs.Device.{Device, Phase, Fresh, Connected, Gone, IsDevice, Feeds}
use Rattle.stm_wire.specs.Harmless.{Harmless}
use Rattle.stm_wire.specs.Intents.{settling_byte}

-- Behind a list with this verdict so many bytes are enough: a refusal needs none, and behind any
-- other end two of the byte are a pair that is refused. Where the list is open, P has to hold.
abbrev pub IsEnough : Option Verdict → Type 0 → ℕ → Type 0
IsEnough None P left = P
IsEnough (Some Refused) P left = Unit {0}
IsEnough (Some Done) P left = 2 ≤ left
IsEnough (Some Loose) P left = 2 ≤ left

-- a device with these bytes since its last verdict refuses one of so many copies of the byte
unfoldable pub IsRefusedIn : ChipData → List ℕ → ℕ → ℕ → List ℕ → Type 0
IsRefusedIn chip codes byte zero rest = ⊥
IsRefusedIn chip codes byte (suc left) rest =
    let more = rest ++ byte ∷ [] in
    IsEnough (verdict chip codes more) (IsRefusedIn chip codes byte left more) left

-- and wherever a device is: a fresh one is connected by 7F first, and refuses no other byte
abbrev pub AwaitsIn : ChipData → List ℕ → ℕ → ℕ → Phase → Type 0
AwaitsIn chip codes byte left Fresh = byte ≡ 0x7F → 3 ≤ left
AwaitsIn chip codes byte left (Connected rest) = IsRefusedIn chip codes byte left rest
AwaitsIn chip codes byte left Gone = Unit {0}

-- the device awaits so many of the byte at most: of these it refuses one, or it is fresh all along
abbrev pub Awaits : ℕ → ℕ → Device → Type 0
Awaits byte left d = AwaitsIn d.chip d.codes byte left d.phase

-- how many suffice for every device of such chips
abbrev pub most_awaited : EraseKind → ℕ
most_awaited Page = 267
most_awaited Extended = 131047

abbrev pub AwaitedIsLimited : Type 0
AwaitedIsLimited =
    (d : Device) → IsDevice d → (byte : ℕ) → byte < 256 → Awaits byte (most_awaited d.chip.kind) d

-- How many of this byte suffice behind a beginning of an erase of one page, which it goes on with.
-- Behind 44 BB the byte twice is a count of 257 * byte + 1 pages, of two bytes each. 7F is also the
-- byte of a host without an intent, which waits for any list.
abbrev pub most_for : EraseKind → ℕ → ℕ
most_for Page byte = 267
most_for Extended byte =
    if byte == 0x7F then 131047 else min 131047 (max 267 (514 * byte + 8))

-- and behind what a host that stopped under this intent had sent: no erase but under an intent to
-- erase
abbrev pub most_under : EraseKind → Option Intent → ℕ
most_under kind None = 267
most_under kind (Some (Erase n)) = most_for kind (settling_byte (Some (Erase n)))
most_under kind (Some (Program n)) = 267

abbrev pub MoreSuffice : Type 0
MoreSuffice =
    (d : Device) (byte left more : ℕ) → left ≤ more → Awaits byte left d → Awaits byte more d

-- it awaits no more once the byte was fed
abbrev pub FedAwaitsNoMore : Type 0
FedAwaitsNoMore = (old new : Device) (byte most : ℕ) (pages : List ℕ) → Harmless old byte pages
    → 3 ≤ most → Awaits byte most old → Feeds byte old new → Awaits byte most new
