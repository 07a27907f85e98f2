-- An action that is stopped, a loss of power and an undo in the next run of the program, together.
use Rattle.std.proofs.Common.{◌≡◌, ℕ, List, [], Result, Ok, sym, ◌∙◌, ap, ap₂, subst}
use Rattle.stm_sim.specs.declared.plan.Stop.TheVariants.{After}
use Rattle.stm_wire.proofs.Names.{ChipData, Device, IsReady, IsReadyPhase, Phase}
use Rattle.stm_sim.specs.Memory.{MemoryData, rig_state}
use Rattle.stm_session.proofs.Names.{IsStart, Knows, Leads, lost_owed, lost_power, now_of, oldest_start, SameMake, World}
use Rattle.stm_work.specs.declared.action.Action.{Action}
use Rattle.stm_work.specs.declared.action.Action.TheVariants as action
use Rattle.stm_work.specs.declared.answer.Answer.{Answer}
use Rattle.stm_work.specs.declared.failure.Failure.{Failure}
use Rattle.stm_histories.specs.Histories.{ActionsAreHistories, CanAct, IsHistory, StaysInSession, StoppedActionsAreUndone, StoredCanBegin, StoredGoesOn}
use Rattle.stm_files.specs.SimulatorFile.{StandsSo, simulator_at}
use Rattle.stm_files.specs.SimulatorRig.{SimulatorState, simulator_rig_state}
use Rattle.stm_histories.specs.Unpowered.{DoesOnFiles, IsUndoneUnpowered, SuitsWorld}
use Rattle.stm_histories.proofs.Risks.{same-world}

abbrev Follows : MemoryData → Type 0
Follows m = (rig_state m).is_honest

-- what is promised of actions over files, and of a simulator from one run to the next
pub record FileLaws : Type 0 where
  pub history : ActionsAreHistories SimulatorState simulator_rig_state
  pub back : StoppedActionsAreUndone SimulatorState simulator_rig_state
  pub begins : StoredCanBegin
  pub goes_on : StoredGoesOn

module _ (laws : FileLaws) (table : List ChipData) (starts : List (List ℕ)) (does : Action)
    -- the simulator as it was found, and with a stop ahead; what the action left, and with the stop
    -- lifted; what the loss of power left; as it was found again; and what the undo left
    (chip : ChipData) (flash journal : List ℕ) (phase : Phase)
    (found planned left lifted lost again last : MemoryData)
    (said : Result Answer Failure) (told : Answer)
    (stands : StandsSo (simulator_at chip flash phase) journal found)
    (planned_device : planned.device ≡ found.device)
    (planned_journal : planned.journal ≡ found.journal)
    (planned_honest : (rig_state found).is_honest → (rig_state planned).is_honest)
    (steps : ℕ) (planned_stop : planned.plan.stop ≡ After steps)
    (acts : DoesOnFiles table does planned left said)
    (lifted_device : lifted.device ≡ left.device) (lifted_journal : lifted.journal ≡ left.journal)
    (lifted_honest : (rig_state left).is_honest → (rig_state lifted).is_honest)
    (loses : (rig_state lifted).is_honest
    → Leads rig_state lost_power (now_of (rig_state lifted)) (now_of (rig_state lost)))
    (lost_honest : (rig_state lifted).is_honest → (rig_state lost).is_honest)
    (stands_again : (rig_state lost).is_honest
    → StandsSo (simulator_at lost.device.chip lost.device.flash lost.device.phase) lost.journal again)
    (undoes : DoesOnFiles table (action.Undo 0) again last (Ok told)) where
  abbrev start : World
  start = record { device = simulator_at chip flash phase; journal = journal }

  first_device : acts.first.memory.device ≡ simulator_at chip flash phase
  first_device = ap (λ (m : MemoryData). m.device) acts.begins ∙ planned_device ∙ stands.device

  first_world : now_of (simulator_rig_state acts.first) ≡ start
  first_world =
      ap₂ (λ (d : Device) (j : List ℕ). record { device = d; journal = j }) first_device
      (ap (λ (m : MemoryData). m.journal) acts.begins ∙ planned_journal ∙ stands.journal)

  first_honest : (simulator_rig_state acts.first).is_honest
  first_honest = subst Follows (sym acts.begins) (planned_honest stands.honest)

  can : IsStart starts start → SuitsWorld table does start
      → CanAct simulator_rig_state table starts does acts.first
  can is suits =
      let S : World → Type 0 = λ w. IsStart starts w in
      let K : World → Type 0 = λ w. Knows table w in
      let J : World → Type 0 = λ w. StaysInSession does w.journal in
      record {
        honest = first_honest;
        start = subst S (sym first_world) is;
        knows = subst K (sym first_world) suits.knows;
        stays = subst J (sym first_world) suits.stays;
      }

  module _ (is : IsStart starts start) (suits : SuitsWorld table does start) where
    is_history : IsHistory simulator_rig_state acts.first acts.last
    is_history = laws.history table starts does acts.first acts.last said (can is suits) acts.done

    left_honest : (rig_state left).is_honest
    left_honest = subst Follows acts.leaves is_history.honest

    free : (rig_state lifted).is_honest
    free = lifted_honest left_honest

    last_world : now_of (rig_state lifted) ≡ now_of (simulator_rig_state acts.last)
    last_world =
        same-world lifted acts.last.memory
        (lifted_device ∙ sym (ap (λ (m : MemoryData). m.device) acts.leaves))
        (lifted_journal ∙ sym (ap (λ (m : MemoryData). m.journal) acts.leaves))

    powerless : Leads simulator_rig_state lost_power (now_of (simulator_rig_state acts.last))
        (now_of (rig_state lost))
    powerless =
        let L : World → Type 0 = λ w. Leads rig_state lost_power w (now_of (rig_state lost)) in
        subst L last_world (loses free)

    make : SameMake found.device lost.device
    make =
        let own = is_history.make in
        let lose = powerless.0.make in
        let from : acts.first.memory.device ≡ found.device =
        ap (λ (m : MemoryData). m.device) acts.begins ∙ planned_device in
        record {
          chip = lose.chip ∙ own.chip ∙ ap (λ (d : Device). d.chip) from;
          version = lose.version ∙ own.version ∙ ap (λ (d : Device). d.version) from;
          codes = lose.codes ∙ own.codes ∙ ap (λ (d : Device). d.codes) from;
        }

    stood : StandsSo
        (simulator_at lost.device.chip lost.device.flash lost.device.phase) lost.journal again
    stood = stands_again (lost_honest free)

    again_world : now_of (rig_state again) ≡ now_of (simulator_rig_state undoes.first)
    again_world =
        same-world again undoes.first.memory
        (sym (ap (λ (m : MemoryData). m.device) undoes.begins))
        (sym (ap (λ (m : MemoryData). m.journal) undoes.begins))

    goes-on : Leads simulator_rig_state lost_owed (now_of (rig_state lost))
        (now_of (simulator_rig_state undoes.first))
    goes-on =
        let L : World → Type 0 = λ w. Leads rig_state lost_owed (now_of (rig_state lost)) w in
        subst L again_world
        (laws.goes_on chip flash journal phase found lost again stands make stood)

    again_honest : (simulator_rig_state undoes.first).is_honest
    again_honest = subst Follows (sym undoes.begins) stood.honest

    all-done : IsUndoneUnpowered table does steps start last
    all-done =
        record {
          first = acts.first;
          stopped = acts.last;
          lost = now_of (rig_state lost);
          again = undoes.first;
          last = undoes.last;
          said = said;
          told = told;
          begins = first_world;
          stops = ap (λ (m : MemoryData). m.plan.stop) acts.begins ∙ planned_stop;
          acts = acts.done;
          loses = powerless;
          owes = goes-on;
          undoes = undoes.done;
          ends = undoes.leaves;
        }

    same-flash : last.device.flash ≡ oldest_start starts start
    same-flash =
        sym (ap (λ (m : MemoryData). m.device.flash) undoes.leaves)
        ∙ laws.back table starts does acts.first acts.last undoes.first undoes.last said told
        (now_of (rig_state lost)) (can is suits) acts.done powerless goes-on again_honest undoes.done
        ∙ ap (λ w. oldest_start starts w) first_world

    pub undone-whole :
        IsUndoneUnpowered table does steps start last × (last.device.flash ≡ oldest_start starts start)
    undone-whole = (all-done, same-flash)

-- a session can begin on a ready simulator beside an empty journal
pub can-begin : StoredCanBegin
    → (chip : ChipData) (flash journal : List ℕ) (phase : Phase) (found : MemoryData)
    → StandsSo (simulator_at chip flash phase) journal found
    → journal ≡ [] → IsReady (simulator_at chip flash phase)
    → IsStart [] (record { device = simulator_at chip flash phase; journal = journal })
can-begin law chip flash journal phase found stands none ready =
    let So : List ℕ → Type 0 = λ j. StandsSo (simulator_at chip flash phase) j found in
    let P : List ℕ → Type 0 = λ codes. IsReadyPhase codes phase in
    let S : World → Type 0 = λ w. IsStart [] w in
    let world =
    ap₂ (λ (d : Device) (j : List ℕ). let w : World = record { device = d; journal = j } in w)
    stands.device stands.journal in
    subst S world
    (law chip flash phase found (subst So none stands)
    (subst P (sym (ap (λ (d : Device). d.codes) stands.device)) ready.phase))
