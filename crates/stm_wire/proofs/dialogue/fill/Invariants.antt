use Rattle.std.proofs.Common.{◌≡◌, [], take}
use Rattle.stm_wire.proofs.Names.{IsHeldToEnd, learns, owing}
use Rattle.stm_wire.proofs.dialogue.fill.Given as goal

abbrev pub invariant-loop-slot : goal.invariant-loop-slot
invariant-loop-slot g l =
    IsHeldToEnd [] (learns (take l.slot-index l.buf)) (g.R.Rig.view l.fn.rig) (g.R.Rig.view l.rig)
    × ((g.R.Rig.view l.fn.rig).is_honest → (g.R.Rig.view l.fn.rig).device ≡ owing (take l.slot-index l.buf) (g.R.Rig.view l.rig).device)
