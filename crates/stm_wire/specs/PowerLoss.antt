-- What a loss of power inside an erase or a write of one page leaves of a device.
use Rattle.std.specs.Prelude.{ℕ, List, []}
use Rattle.stm_wire.specs.Chip.{with_page}
use Rattle.stm_wire.specs.Device.{Device, Fresh}

-- fresh and owing nothing, with these bytes as page n
abbrev pub powered_again : ℕ → List ℕ → Device → Device
powered_again n bytes d =
    record d { flash = with_page d.chip n bytes d.flash; owed = []; phase = Fresh }
