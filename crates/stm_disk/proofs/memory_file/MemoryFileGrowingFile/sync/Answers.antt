-- All is synced, and the moment before it is kept.
use Rattle.std.proofs.Common.{◌≡◌, length, arith}
use Rattle.stm_disk.proofs.Remembering.{synced_now}
use Rattle.stm_disk.proofs.memory_file.MemoryFileGrowingFile.sync.Goals as goal

pub returns-clause-honest : goal.returns-clause-honest
returns-clause-honest c = λ h.
    let m = c.args.self.now in
    let is : c.len-size.result ≡ length m.bytes.items = omega (arith, c.len-size.ensures, m.bytes.ok.0) in
    synced_now _ m.bytes.items m.synced c.len-size.result m.past.items c.push.new.self.items is c.in_ok-push.ensures.items h
