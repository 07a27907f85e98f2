-- A line of which nothing is promised: it follows no model and keeps no record.
use Rattle.std.specs.Prelude.{ℕ, [], None}
use Rattle.stm_wire.specs.Chip.{chip_of}
use Rattle.stm_wire.specs.declared.chip.EraseKind.TheVariants.{Page}
use Rattle.stm_wire.specs.Device.{Device, Gone}
use Rattle.stm_wire.specs.Rig.{RigState}

-- stands where a state has to have a device
abbrev pub no_device : Device
no_device =
    record {
      chip = chip_of 0 0 [] Page 0xFF;
      version = 0;
      codes = [];
      flash = [];
      owed = [];
      phase = Gone;
    }

-- with these counts of failures
abbrev pub unmodelled : ℕ → ℕ → RigState
unmodelled line journal =
    record {
      is_honest = ⊥;
      device = no_device;
      journal = [];
      line_failures = line;
      journal_failures = journal;
      moment = 0;
      left_since = λ moment d journal. ⊥;
      calls = None;
      has_room = ⊥;
      long_gets = None;
      told = None;
    }
