-- What a client of a served simulator is told in the place of the device's replies: as the device,
-- and Get Version besides.
use Rattle.std.specs.Prelude.{ℕ, ◌+◌, ◌&&◌, ◌==◌, if◌then◌else◌, Bool, List, [], ◌∷◌, ◌++◌}
use Rattle.std.specs.Prelude.{false, fold, nat_lt}
use Rattle.stm_wire.specs.declared.chip.EraseKind.{EraseKind}
use Rattle.stm_wire.specs.Device.{Device, Phase, Connected}
use Rattle.stm_wire.specs.Reply.{ack}
use Rattle.stm_sim.specs.Simulator.{simulated_device, simulator_version}

-- a device that holds no more than a command's code gets the byte that ends it
abbrev pub completes : ℕ → ℕ → Phase → ℕ → Bool
completes code check (Connected (held ∷ [])) byte = held == code && byte == check
completes code check phase byte = false

-- the reply to Get Version: the version that Get tells, and two option bytes
abbrev pub version_reply : EraseKind → List ℕ
version_reply kind = ack ∷ simulator_version kind ∷ 0 ∷ 0 ∷ ack ∷ []

-- the reply to Get, with Get Version among the codes
abbrev pub with_version : List ℕ → List ℕ
with_version (first ∷ count ∷ version ∷ get ∷ codes) =
    if nat_lt count 255
    then first ∷ (count + 1) ∷ version ∷ get ∷ 0x01 ∷ codes
    else first ∷ count ∷ version ∷ get ∷ codes
with_version reply = reply

-- what is told in the place of the device's reply
abbrev pub told_for : Bool → Bool → EraseKind → List ℕ → List ℕ
told_for is_version is_get kind reply =
    if is_version then version_reply kind else (if is_get then with_version reply else reply)

-- what a device's client is told of a byte
abbrev pub told_of : Device → ℕ → List ℕ
told_of d byte =
    told_for (completes 0x01 0xFE d.phase byte) (completes 0x00 0xFF d.phase byte) d.chip.kind
    (simulated_device byte d).owed

-- it owes nothing any more
abbrev pub drained : Device → Device
drained d = record d { owed = [] }

-- a device, and what its client was told
pub record Telling : Type 0 where
  pub device : Device
  pub told : List ℕ

-- a device whose client was told nothing yet
abbrev pub telling_begun : Device → Telling
telling_begun d = record { device = d; told = [] }

-- its client is told of a byte
abbrev pub tell_one : Telling → ℕ → Telling
tell_one t byte =
    record {
      device = drained (simulated_device byte t.device);
      told = t.told ++ told_of t.device byte;
    }

-- the same, after these bytes, one after the other
abbrev pub telling : Telling → List ℕ → Telling
telling t bytes = fold tell_one t bytes
