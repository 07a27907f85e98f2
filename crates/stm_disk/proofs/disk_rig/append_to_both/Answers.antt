-- Bytes that a line's journal took, or not, and then the file.
use Rattle.std.proofs.Common.{Err, refl}
use Rattle.stm_wire.specs.declared.fault.RigFault.TheVariants.{File}
use Rattle.stm_disk.proofs.OnDisk.{untaken_covers, taken_covers, append_failed, failed_recorded}
use Rattle.stm_disk.proofs.disk_rig.append_to_both.Goals as goal

pub returns-in_err-append-clause-crash : goal.returns-in_err-append-clause-crash
returns-in_err-append-clause-crash g c = λ h held.
    let V = g.L.Rig.view in
    let W = g.F.GrowingFile.view in
    let a = c.in_err-append.ensures.honest h in
    untaken_covers c.args.bytes.now c.args.size (V c.args.line.now) (V c.append.new.self) (W c.args.file.now)
    (g.met.F.GrowingFile.model c.args.file.now held.honest) held a.err.0 a.beginnings

pub returns-in-Ok-clause-crash : goal.returns-in-Ok-clause-crash
returns-in-Ok-clause-crash g c = λ h held.
    let V = g.L.Rig.view in
    let W = g.F.GrowingFile.view in
    let a = c.in_ok-append.ensures.honest h in
    taken_covers c.args.bytes.now c.args.size (V c.args.line.now) (V c.append.new.self) (W c.args.file.now) (W c.add_lines.new.file)
    held a.ok.1 a.beginnings (λ left since. (c.add_lines.ensures.honest held.honest held.settled).time.each left since)

pub returns-in-Err-clause-crash : goal.returns-in-Err-clause-crash
returns-in-Err-clause-crash g c = λ h held.
    let V = g.L.Rig.view in
    let W = g.F.GrowingFile.view in
    let a = c.in_ok-append.ensures.honest h in
    taken_covers c.args.bytes.now c.args.size (V c.args.line.now) (V c.append.new.self) (W c.args.file.now) (W c.add_lines.new.file)
    held a.ok.1 a.beginnings (λ left since. (c.add_lines.ensures.honest held.honest held.settled).time.each left since)

pub returns-in-Err-clause-recorded : goal.returns-in-Err-clause-recorded
returns-in-Err-clause-recorded g c =
    failed_recorded c.args.bytes.now c.append.result (Err File) (g.L.Rig.view c.args.line.now).calls
    (g.L.Rig.view c.append.new.self).calls refl c.append.ensures.recorded

pub returns-in-Err-clause-honest : goal.returns-in-Err-clause-honest
returns-in-Err-clause-honest g c = λ h.
    append_failed c.args.bytes.now c.append.result (Err File) (g.L.Rig.view c.args.line.now)
    (g.L.Rig.view c.append.new.self) refl (c.append.ensures.honest h)
