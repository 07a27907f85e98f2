-- Bytes that are fetched, or refused.
use Rattle.std.proofs.Common.{ap}
use Rattle.stm_wire.proofs.Names.{Fetch}
use Rattle.stm_disk.specs.DiskRig.{disk_of}
use Rattle.stm_disk.proofs.OnDisk.{fetch_done, fetch_refused, crashes_kept, failed}
use Rattle.stm_disk.proofs.disk_rig.DiskRigRig.fetch.Goals as goal

pub returns-then-self-clause-rig : goal.returns-then-self-clause-rig
returns-then-self-clause-rig g c =
    let disk = disk_of g.L.Rig.view g.F.GrowingFile.view in
    let no = c.count_journal in
    let rig = no.new.self in
    fetch_refused c.args.at c.args.buf.now no.result rig.journal_failures (disk c.args.self.now)
    (disk rig) (ap disk no.ensures.rest) (failed no.ensures.answer) no.ensures.cause

pub returns-clause-rig : goal.returns-clause-rig
returns-clause-rig g c =
    let disk = disk_of g.L.Rig.view g.F.GrowingFile.view in
    let got = c.fetch-answer in
    let by = got.ensures in
    let done = c.count_journal-2 in
    let rig = done.new.self in
    fetch_done c.args.at c.args.buf.now got.new.buf got.result done.result rig.journal_failures
    (g.L.Rig.view got.new.self) (disk c.args.self.now) (disk rig) (ap disk done.ensures.rest)
    done.ensures.answer done.ensures.cause (assumption by)

pub returns-clause-crash : goal.returns-clause-crash
returns-clause-crash g c =
    let disk = disk_of g.L.Rig.view g.F.GrowingFile.view in
    let done = c.count_journal-2 in
    crashes_kept Fetch (disk c.args.self.now) (disk done.new.self)
    (ap (λ rig. g.F.GrowingFile.view rig.file) done.ensures.rest)
    (g.met.F.GrowingFile.model c.args.self.now.file) (λ d journal left. left.0)
