use Rattle.std.proofs.Common.{◌*◌, rules}
use Rattle.stm_wire.proofs.Cutting.{end_inside, cut_chip}
use Rattle.stm_wire.proofs.chip.Chip.cut.Goals as goal

pub returns-clause-inside : goal.returns-clause-inside
returns-clause-inside c = end_inside c.args.self (c.args.kib * 1024)

pub returns-clause-limits : goal.returns-clause-limits
returns-clause-limits c = search (rules, cut_chip c.args.self c.args.kib)
