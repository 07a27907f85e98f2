use Rattle.std.proofs.Common.{inl, inr, arith}
use Rattle.stm_image.proofs.Reading.{two_data}
use Rattle.stm_image.proofs.data.take_up.Goals as goal

pub two_bytes-requires : goal.two_bytes-requires
two_bytes-requires c = let seven = two_data c.args.bytes.now c.requires.least c.requires.good (inl c.if-kind-eq4.true) in omega arith

pub two_bytes-requires-then-kind-eq2 : goal.two_bytes-requires-then-kind-eq2
two_bytes-requires-then-kind-eq2 c = let seven = two_data c.args.bytes.now c.requires.least c.requires.good (inr c.if-kind-eq2.true) in omega arith
