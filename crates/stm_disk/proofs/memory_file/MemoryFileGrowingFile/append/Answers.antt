-- The bytes, and the moment before them.
use Rattle.std.proofs.Common.{◌≡◌, ◌+◌, ◌-◌, ◌≤◌, ◌^◌, length, arith}
use Rattle.stm_disk.proofs.Remembering.{appended, unappended}
use Rattle.stm_disk.proofs.memory_file.MemoryFileGrowingFile.append.Goals as goal

pub returns-in_err-extend_from_slice-clause-honest : goal.returns-in_err-extend_from_slice-clause-honest
returns-in_err-extend_from_slice-clause-honest c = λ h.
    let m = c.args.self.now in
    let is : c.len-size.result ≡ length m.bytes.items = omega (arith, c.len-size.ensures, m.bytes.ok.0) in
    unappended c.from_residual-in_err-extend_from_slice.result _ m.bytes.items c.args.bytes.now c.extend_from_slice.new.self.items
    m.synced c.len-size.result m.past.items c.push.new.self.items c.from_residual-in_err-extend_from_slice.ensures.1 is
    c.in_ok-push.ensures.items c.in_err-extend_from_slice.ensures.items h

pub returns-clause-honest : goal.returns-clause-honest
returns-clause-honest c = λ h.
    let m = c.args.self.now in
    let is : c.len-size.result ≡ length m.bytes.items = omega (arith, c.len-size.ensures, m.bytes.ok.0) in
    let room : c.len-size.result + length c.args.bytes.now ≤ 2 ^ 63 - 1 =
    omega (arith, c.if-bytes-size.false, c.if-size-gt-LONGEST.false) in
    appended _ m.bytes.items c.args.bytes.now c.extend_from_slice.new.self.items
    m.synced c.len-size.result m.past.items c.push.new.self.items is
    c.in_ok-push.ensures.items c.in_ok-extend_from_slice.ensures.items room h
