-- Bytes that are added to both, or refused.
use Rattle.std.proofs.Common.{◌∙◌, ap, not, refl}
use Rattle.stm_disk.specs.DiskRig.{DiskState, disk_of}
use Rattle.stm_disk.proofs.OnDisk.{appended, append_crashes, append_done, append_refused, cause_kept}
use Rattle.stm_disk.proofs.OnDisk.{stays_kept, failed}
use Rattle.stm_disk.proofs.disk_rig.DiskRigRig.append.Goals as goal

pub returns-then-self-clause-rig : goal.returns-then-self-clause-rig
returns-then-self-clause-rig g c =
    let disk = disk_of g.L.Rig.view g.F.GrowingFile.view in
    let no = c.count_journal in
    let rig = no.new.self in
    append_refused c.args.bytes.now no.result rig.journal_failures (disk c.args.self.now)
    (disk rig) (ap disk no.ensures.rest) (failed no.ensures.answer) no.ensures.cause
    (g.met.L.Rig.model c.args.self.now.line)

pub returns-clause-rig : goal.returns-clause-rig
returns-clause-rig g c =
    let disk = disk_of g.L.Rig.view g.F.GrowingFile.view in
    let old = disk c.args.self.now in
    let by = c.append_to_both-answer in
    let kept = c.keep_size.new.self in
    let done = c.count_journal-2 in
    let there : DiskState = record old {
      line = g.L.Rig.view by.new.line;
      file = g.F.GrowingFile.view by.new.file;
      size = kept.size;
      has_failed = not c.is_ok.result;
      journal_failures = done.new.self.journal_failures;
    } in
    append_done c.args.bytes.now by.result done.result old there (disk done.new.self)
    (appended there.line there.file there.size there.journal_failures there.has_failed old
    (disk kept) (disk done.new.self) (ap disk c.keep_size.ensures.rest) (ap disk done.ensures.rest))
    done.ensures.answer refl (ap not c.is_ok.ensures.value)
    (cause_kept old.journal_failures kept.journal_failures there.journal_failures by.result
    done.result (ap (λ rig. rig.journal_failures) c.keep_size.ensures.rest) done.ensures.answer
    done.ensures.cause)
    by.ensures.line_count by.ensures.recorded by.ensures.aside by.ensures.honest
    (λ is small. c.keep_size.ensures.size (c.is_ok.ensures.value ∙ is) small)
    (g.met.F.GrowingFile.model by.new.file)
    (λ is. by.ensures.on_disk is.line (is.file c.if-self.false))

pub returns-clause-crash : goal.returns-clause-crash
returns-clause-crash g c =
    let disk = disk_of g.L.Rig.view g.F.GrowingFile.view in
    let old = disk c.args.self.now in
    let by = c.append_to_both-answer in
    let kept = c.keep_size.new.self in
    let done = c.count_journal-2 in
    let there : DiskState = record old {
      line = g.L.Rig.view by.new.line;
      file = g.F.GrowingFile.view by.new.file;
      size = kept.size;
      has_failed = not c.is_ok.result;
      journal_failures = done.new.self.journal_failures;
    } in
    append_crashes c.args.bytes.now old there (disk done.new.self)
    (appended there.line there.file there.size there.journal_failures there.has_failed old
    (disk kept) (disk done.new.self) (ap disk c.keep_size.ensures.rest) (ap disk done.ensures.rest))
    (λ is begins. by.ensures.crash is.line (is.file begins))

pub returns-clause-on_disk : goal.returns-clause-on_disk
returns-clause-on_disk g c = λ is.
    let line = g.L.Rig.view in
    let file = g.F.GrowingFile.view in
    let s = c.args.self.now in
    let by = c.append_to_both-answer in
    let done = c.count_journal-2 in
    stays_kept c.args.bytes.now by.result done.result s.size (line by.new.line).journal
    (file s.file) (file by.new.file) (file done.new.self.file) done.ensures.answer
    (ap (λ rig. file rig.file) done.ensures.rest
    ∙ ap (λ rig. file rig.file) c.keep_size.ensures.rest)
    (by.ensures.on_disk is.line (is.file c.if-self.false))
