-- When a device is as what is known of it says.
use Rattle.std.specs.Prelude.{◌≡◌, ℕ, List, [], ◌∷◌, ◌++◌, take, drop, Option, Some, None}
use Rattle.stm_watch.specs.declared.sight.Sight.{Sight}
use Rattle.stm_watch.specs.declared.sight.Sight.TheVariants.{Follows, Left, Lost}
use Rattle.stm_watch.specs.Known.{Known}
use Rattle.stm_wire.specs.Device.{Device, Phase, Connected, Gone}

-- a place of which this is known may hold this byte
abbrev pub MayHold : Option ℕ → ℕ → Type 0
MayHold None byte = Unit {0}
MayHold (Some known) byte = known ≡ byte

-- each place of a flash holds what is known of it
abbrev pub Agrees : List (Option ℕ) → List ℕ → Type 0
Agrees [] [] = Unit {0}
Agrees (place ∷ places) (byte ∷ bytes) = MayHold place byte × Agrees places bytes
Agrees places bytes = ⊥

-- the device of which this is known, with this flash
abbrev pub device_known : Phase → Known → List ℕ → Device
device_known phase k flash =
    record {
      chip = k.chip;
      version = k.version;
      codes = k.codes;
      flash = flash;
      owed = k.due ++ take k.count (drop k.at flash);
      phase = phase;
    }

abbrev pub IsIn : Phase → Known → Device → Type 0
IsIn phase k d = (flash : List ℕ) × (d ≡ device_known phase k flash) × Agrees k.flash flash

abbrev pub IsSeenAs : Sight → Known → Device → Type 0
IsSeenAs Follows k d = IsIn (Connected k.list) k d
IsSeenAs Left k d = IsIn Gone k d
IsSeenAs Lost k d = Unit {0}

-- the device may be this one
abbrev pub IsSeen : Known → Device → Type 0
IsSeen k d = IsSeenAs k.sight k d
