use Rattle.std.proofs.Common.{◌≡◌, take}
use Rattle.stm_files.specs.Replies.{telling_begun, telling}
use Rattle.stm_files.proofs.replies.tell_all.Given as goal

abbrev pub invariant-loop-byte : goal.invariant-loop-byte
invariant-loop-byte l = record { device = l.sim; told = l.told.items } ≡ telling (telling_begun l.fn.sim) (take l.byte-index l.bytes)
