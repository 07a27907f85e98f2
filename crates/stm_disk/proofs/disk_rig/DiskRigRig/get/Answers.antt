-- A byte that is taken, or refused.
use Rattle.std.proofs.Common.{ap, refl, None}
use Rattle.stm_wire.proofs.Names.{Get}
use Rattle.stm_disk.specs.DiskRig.{DiskState, disk_of}
use Rattle.stm_disk.proofs.OnDisk.{get_done, get_refused, crashes_kept}
use Rattle.stm_disk.proofs.disk_rig.DiskRigRig.get.Goals as goal

pub returns-then-self-clause-rig : goal.returns-then-self-clause-rig
returns-then-self-clause-rig g c =
    let disk = disk_of g.L.Rig.view g.F.GrowingFile.view in
    let no = c.refuse in
    let rig = no.new.self in
    get_refused c.args.patience no.result rig.refused (disk c.args.self.now) (disk rig)
    (ap disk no.ensures.rest) no.ensures.err no.ensures.count

pub returns-clause-rig : goal.returns-clause-rig
returns-clause-rig g c =
    let old = disk_of g.L.Rig.view g.F.GrowingFile.view c.args.self.now in
    let by = c.get.ensures in
    get_done c.args.patience c.get.result old (g.L.Rig.view c.get.new.self) (assumption by)

pub returns-clause-crash : goal.returns-clause-crash
returns-clause-crash g c =
    let old = disk_of g.L.Rig.view g.F.GrowingFile.view c.args.self.now in
    let new : DiskState = record old { line = g.L.Rig.view c.get.new.self } in
    crashes_kept (Get None) old new refl (g.met.F.GrowingFile.model c.args.self.now.file)
    (λ d journal left. left.0)
