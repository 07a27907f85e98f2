use Rattle.std.proofs.Common.{take}
use Rattle.stm_wire.proofs.Names.{Fed, IsHeldToEnd, says}
use Rattle.stm_wire.proofs.dialogue.put_all.Given as goal

abbrev pub invariant-loop-byte : goal.invariant-loop-byte
invariant-loop-byte g l =
    IsHeldToEnd (take l.byte-index l.bytes) (says (take l.byte-index l.bytes)) (g.R.Rig.view l.fn.rig) (g.R.Rig.view l.rig)
    × ((g.R.Rig.view l.fn.rig).is_honest → Fed (take l.byte-index l.bytes) (g.R.Rig.view l.fn.rig).device (g.R.Rig.view l.rig).device)
