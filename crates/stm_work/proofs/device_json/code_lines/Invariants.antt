use Rattle.std.proofs.Common.{◌≡◌, flat_map, take}
use Rattle.stm_work.specs.DeviceJson.{code_line}
use Rattle.stm_work.proofs.device_json.code_lines.Given as goal

-- the codes so far have their lines
abbrev pub invariant-loop-code : goal.invariant-loop-code
invariant-loop-code l = l.text.items ≡ flat_map code_line (take l.code-index l.codes)
