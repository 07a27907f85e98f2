use Rattle.std.proofs.Common.{◌≡◌, ℕ, List, Option, Some, sym, ◌∙◌, ap, ap₂}
use Rattle.std.specs.Prelude.{option_map}
use Rattle.stm_wire.proofs.Names.{ChipData, Device, Phase}
use Rattle.stm_files.specs.declared.standing.Standing.{Standing}
use Rattle.stm_files.specs.SimulatorFile.{simulator_at}
use Rattle.stm_files.specs.Standing.{standing_line, phase_from, standing_phase, standing_of}
use Rattle.stm_files.proofs.Standings.{HasBytes, open-bytes, phase-is, reads-back}
use Rattle.stm_files.proofs.simulator_file.StoredSimulator.left.Goals as goal

pub returns : goal.returns
returns c honest =
    let d : Device = c.args.rig.now.device in
    let standing : Standing = c.in-Some.standing in
    let flash : List ℕ = c.in_ok-flash.flash.items in
    let stood : Phase = phase_from c.is_gone.result (option_map (λ r. r.now) c.rest.result) in
    let is : stood ≡ d.phase =
    phase-is d.phase c.is_gone.result c.rest.result c.is_gone.ensures c.rest.ensures in
    let bytes : HasBytes stood =
    rw is (open-bytes d.chip d.codes d.phase honest.is_device.phase) in
    let read : Some (standing_phase standing) ≡ standing_of c.as_slice.result.now =
    ap (λ (o : Option Standing). option_map standing_phase o) (sym c.in-Some.is)
    ∙ c.in_ok-standing.ensures in
    let written : c.as_slice.result.now ≡ standing_line stood =
    c.as_slice.ensures.value ∙ c.in_ok-line.ensures in
    let phase =
    reads-back stood (standing_phase standing) c.as_slice.result.now bytes written read ∙ is in
    ap (λ (chip : ChipData). simulator_at chip flash (standing_phase standing))
    (c.in_ok-chip.ensures.cases ∙ c.chip.ensures)
    ∙ ap₂ (λ (bytes : List ℕ) (p : Phase). simulator_at d.chip bytes p)
    (c.in_ok-flash.ensures.items ∙ c.flash.ensures) phase
