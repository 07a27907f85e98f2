use Rattle.std.proofs.Common.{◌≡◌, take}
use Rattle.stm_wire.proofs.Names.{Connected}
use Rattle.stm_files.specs.SimulatorFile.{Becomes, standing_at}
use Rattle.stm_files.proofs.restoring.lengthen.Given as goal

abbrev pub invariant-loop-byte : goal.invariant-loop-byte
invariant-loop-byte l =
    Becomes (standing_at (Connected (take l.byte-index l.bytes)) l.fn.rig.device) l.fn.rig l.rig × (l.size ≡ l.byte-index)
