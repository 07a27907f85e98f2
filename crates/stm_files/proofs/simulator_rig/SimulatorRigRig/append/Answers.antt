use Rattle.std.proofs.Common.{◌≡◌, ◌⊎◌, inl, inr, ◌∙◌, Err, subst, rules}
use Rattle.stm_wire.specs.declared.fault.RigFault.TheVariants.{File}
use Rattle.stm_wire.proofs.Names.{RecordsAppend}
use Rattle.stm_files.specs.SimulatorRig.{SimulatorState, AppendsToBoth, simulator_rig_state}
use Rattle.stm_files.specs.lemmas.SimulatorRigLaws.{appended, append_recorded, refused_at_once}
use Rattle.stm_files.proofs.Growing.{taken, failed, to_file}
use Rattle.stm_files.proofs.simulator_rig.SimulatorRigRig.append.Goals as goal
use Rattle.stm_files.proofs.simulator_rig.SimulatorRigRig.append.Goals.{in-Ok, in-Err}

pub returns-then-has_failed-clause-honest : goal.returns-then-has_failed-clause-honest
returns-then-has_failed-clause-honest g c =
    let done = c.count_journal in
    λ is. refused_at_once c.args.bytes.now done.result File c.args.self.now done.new.self done.ensures.answer done.ensures.memory is

pub returns-clause-honest : goal.returns-clause-honest
returns-clause-honest g c =
    let bytes = c.args.bytes.now in
    let answer = c.append-answer.result in
    let done = c.count_journal-2 in
    let old : SimulatorState =
    record { memory = c.self.inside.memory; file = c.self.inside.file; journal_failures = c.self.inside.journal_failures } in
    let memory_is = ◌∙◌ {a = done.new.self.memory} done.ensures.memory c.append_to_file.ensures.memory in
    let is : (done.result ≡ answer) ⊎ (done.result ≡ Err File) =
    elim c.match-append_to_file.branch [
      | in-Ok w ↦ inl (done.ensures.answer ∙ w.answer-is)
      | in-Err w ↦ inr (done.ensures.answer ∙ w.answer-is)
    ] in
    rw (← c.self.view_is) (λ honest. appended bytes answer done.result File old done.new.self c.append-answer.new.self memory_is is (c.append-answer.ensures.honest honest))

pub returns-clause-recorded : goal.returns-clause-recorded
returns-clause-recorded g c =
    let bytes = c.args.bytes.now in
    let answer = c.append-answer.result in
    let done = c.count_journal-2 in
    let old : SimulatorState =
    record { memory = c.self.inside.memory; file = c.self.inside.file; journal_failures = c.self.inside.journal_failures } in
    let memory_is = ◌∙◌ {a = done.new.self.memory} done.ensures.memory c.append_to_file.ensures.memory in
    let is : (done.result ≡ answer) ⊎ (done.result ≡ Err File) =
    elim c.match-append_to_file.branch [
      | in-Ok w ↦ inl (done.ensures.answer ∙ w.answer-is)
      | in-Err w ↦ inr (done.ensures.answer ∙ w.answer-is)
    ] in
    let Goal : SimulatorState → Type 0 = λ s. RecordsAppend bytes done.result (simulator_rig_state s).calls (simulator_rig_state done.new.self).calls in
    subst Goal c.self.view_is
    (append_recorded bytes answer done.result File old done.new.self c.append-answer.new.self memory_is is c.append-answer.ensures.recorded)

pub returns-clause-in_file : goal.returns-clause-in_file
returns-clause-in_file g c =
    let bytes = c.args.bytes.now in
    let answer = c.append-answer.result in
    let done = c.count_journal-2 in
    let result = done.result in
    let old : SimulatorState =
    record { memory = c.self.inside.memory; file = c.self.inside.file; journal_failures = c.self.inside.journal_failures } in
    let new = done.new.self in
    let memory_is = ◌∙◌ {a = done.new.self.memory} done.ensures.memory c.append_to_file.ensures.memory in
    let file_is = done.ensures.file in
    let does = c.append-answer.ensures.simulated in
    let both : AppendsToBoth bytes result old new =
    elim c.match-append_to_file.branch [
      | in-Ok w ↦
          taken bytes answer result old new c.append-answer.new.self c.append_to_file.new.self.file memory_is file_is does
          c.journal-start.result.now c.journal-start.ensures.bytes (done.ensures.answer ∙ w.answer-is) w.in-Ok.ensures.added
      | in-Err w ↦
          failed bytes answer result old new c.append-answer.new.self c.append_to_file.new.self.file memory_is file_is does
          (done.ensures.answer ∙ w.answer-is) w.in-Err.ensures.err
    ] in
    rw c.self.view_is at (to_file bytes result old new (search (rules, c.has_failed.ensures, c.if-has_failed.false)) both)
