-- A simulator between two runs of the program.
use Rattle.std.proofs.Common.{◌≡◌, ℕ, List, [], ◌∷◌, length, drop, refl, sym, ◌∙◌, ap, subst, arith}
use Rattle.stm_wire.proofs.Names.{ChipData, Device, IsDevice, IsReady, IsReadyPhase, Phase}
use Rattle.stm_session.proofs.Names.{Undoable}
use Rattle.stm_histories.specs.Histories.{StoredCanBegin, StoredGoesOn}
use Rattle.stm_files.specs.SimulatorFile.{simulator_at}

-- a list without as many as it has
drop-all : (xs : List ℕ) → drop (length xs) xs ≡ []
drop-all [] = refl
drop-all (x ∷ xs) = drop-all xs

pub stored-can-begin : ((d : Device) → IsDevice d → IsReady d → Undoable [] d []) → StoredCanBegin
stored-can-begin law chip flash phase rig stands ready =
    let P : Phase → Type 0 = λ p. IsReadyPhase rig.device.codes p in
    let U : List ℕ → Type 0 = λ j. Undoable [] rig.device j in
    subst U (sym stands.journal)
    (law rig.device stands.honest.is_device (record { phase = subst P (sym (ap (λ (d : Device). d.phase) stands.device)) ready; owed = omega (arith, ap (λ (d : Device). length d.owed) stands.device) }))

-- a simulator of this make, with what another device has
same-simulator : (chip : ChipData) (flash : List ℕ) (phase : Phase) (d : Device) → d.chip ≡ (simulator_at chip flash phase).chip → d.version ≡ (simulator_at chip flash phase).version → d.codes ≡ (simulator_at chip flash phase).codes
    → simulator_at d.chip d.flash d.phase ≡ record d { owed = [] }
same-simulator chip flash phase d own version codes =
    let S : ChipData → Type 0 = λ c. simulator_at c d.flash d.phase ≡ record { chip = c; version = d.version; codes = d.codes; flash = d.flash; owed = []; phase = d.phase } in
    subst S (sym own) (rw (version, codes) refl)

pub stored-goes-on : StoredGoesOn
stored-goes-on chip flash journal phase first left next stands make again =
    let from : Device = simulator_at chip flash phase in
    let is = same-simulator chip flash phase left.device (make.chip ∙ ap (λ (d : Device). d.chip) stands.device) (make.version ∙ ap (λ (d : Device). d.version) stands.device) (make.codes ∙ ap (λ (d : Device). d.codes) stands.device) in
    let D : List ℕ → Type 0 = λ owed. next.device ≡ record left.device { owed = owed } in
    ((length left.device.owed, subst D (sym (drop-all left.device.owed)) (again.device ∙ is)), again.journal)
