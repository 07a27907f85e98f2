use Rattle.std.proofs.Common.{◌≡◌, ◌∷◌, ◌++◌, take}
use Rattle.stm_session.specs.declared.deed.Deed.TheVariants as deed
use Rattle.stm_session.proofs.Names.{write_deeds}
use Rattle.stm_session.proofs.rewriting.plan_rewrite.Given as goal

abbrev pub invariant-loop-frame : goal.invariant-loop-frame
invariant-loop-frame l =
    l.deeds.items ≡ l.fn.first ++ deed.IntendErase l.new.n ∷ deed.Erase l.new.n
    ∷ deed.IntendProgram l.new.n ∷ write_deeds l.new.n l.new.bytes (take l.frame-index l.frames)
