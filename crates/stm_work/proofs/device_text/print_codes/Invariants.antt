use Rattle.std.proofs.Common.{◌++◌, codes, flat_map, take}
use Rattle.std.specs.Io.KnownBytes.{Appends}
use Rattle.stm_work.specs.DeviceText.{code_text}
use Rattle.stm_work.proofs.device_text.print_codes.Given as goal

-- the codes so far are told
abbrev pub invariant-loop-code : goal.invariant-loop-code
invariant-loop-code g l =
    Appends (g.O.Write.contents l.fn.out) (g.O.Write.contents l.out)
    (codes "codes" ++ flat_map code_text (take l.code-index l.codes))
