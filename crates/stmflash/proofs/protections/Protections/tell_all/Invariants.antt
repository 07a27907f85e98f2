use Rattle.std.proofs.Common.{◌≡◌, take}
use Rattle.stm_files.specs.Replies.{telling_begun}
use Rattle.stmflash.specs.Protections.{guarding}
use Rattle.stmflash.proofs.protections.Protections.tell_all.Given as goal

abbrev pub invariant-loop-byte : goal.invariant-loop-byte
invariant-loop-byte l =
    record { protected = l.self; telling = record { device = l.sim; told = l.told.items } }
    ≡ guarding (record { protected = l.fn.self; telling = telling_begun l.fn.sim }) (take l.byte-index l.bytes)
