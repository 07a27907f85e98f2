-- A Rig with its journal on a disk follows the model, as its line does: it tells what that tells,
-- but for its counts.
use Rattle.stm_wire.specs.Rig.{IsModel}
use Rattle.stm_disk.specs.DiskRig.{DiskState, disk_rig_state}

pub follows : (disk : DiskState) → IsModel disk.line → IsModel (disk_rig_state disk)
follows disk m = record {
  device = m.device;
  journal = m.journal;
  counts_now = m.counts_now;
  only_now = m.only_now;
}
