-- A line in memory whose device may have a weak page.
use Rattle.std.specs.Prelude.{ℕ, Bool, false, ◌==◌, Option, Some, None}
use Rattle.stm_sim.specs.Memory.{MemoryData}
use Rattle.stm_weak.specs.WeakDevice.{WeakDevice}

-- it is the weak one, if there is any
abbrev pub is_the_page : Option ℕ → ℕ → Bool
is_the_page None n = false
is_the_page (Some page) n = n == page

-- the device of a Rig in memory, with this page weak
abbrev pub weakly : MemoryData → Option ℕ → WeakDevice
weakly m page = record { device = m.device; weak = is_the_page page }
