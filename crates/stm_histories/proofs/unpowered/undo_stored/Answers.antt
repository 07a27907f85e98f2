use Rattle.std.proofs.Common.{◌≡◌, ℕ, List, [], Result, ap, subst}
use Rattle.stm_wire.proofs.Names.{ChipData, Phase}
use Rattle.stm_sim.specs.Memory.{MemoryData}
use Rattle.stm_session.proofs.Names.{IsStart, oldest_start, World}
use Rattle.stm_work.specs.declared.action.Action.{Action}
use Rattle.stm_work.specs.declared.action.Action.TheVariants as action
use Rattle.stm_work.specs.declared.answer.Answer.{Answer}
use Rattle.stm_work.specs.declared.failure.Failure.{Failure}
use Rattle.stm_files.specs.Standing.{standing_phase}
use Rattle.stm_histories.specs.Unpowered.{DoesOnFiles, IsUndoneUnpowered, SuitsWorld, found}
use Rattle.stm_histories.proofs.NextRun.{FileLaws, can-begin, undone-whole}
use Rattle.stm_histories.proofs.unpowered.undo_stored.Goals as goal

pub returns : goal.returns
returns g c =
    let table : List ChipData = c.args.table.now in
    let does : Action = c.args.action in
    let chip : ChipData = c.args.stored.chip in
    let flash : List ℕ = c.args.stored.flash.items in
    let journal : List ℕ = c.args.journal.items in
    let phase : Phase = standing_phase c.args.stored.standing in
    let w : World = found c.args.stored journal in
    let m0 : MemoryData = c.in_ok-memory.memory in
    let m1 : MemoryData = c.stop_after.new.self in
    let m2 : MemoryData = c.in_ok-memory-2.memory in
    let m3 : MemoryData = c.stop_after-2.new.self in
    let m4 : MemoryData = c.lose_power.new.memory in
    let m5 : MemoryData = c.in_ok-memory-3.memory in
    let m6 : MemoryData = c.in_ok-memory-4.memory in
    let U : Result Answer Failure → Type 0 = λ said. DoesOnFiles table (action.Undo 0) m5 m6 said in
    let undoes = subst U c.in_ok-said.was c.in_ok-memory-4.ensures in
    let laws : FileLaws = record {
      history = c.actions_are_histories.ensures.history;
      back = c.actions_are_histories.ensures.back;
      begins = c.a_stored_simulator_goes_on.ensures.begins;
      goes_on = c.a_stored_simulator_goes_on.ensures.goes_on;
    } in
    let both : (starts : List (List ℕ)) → IsStart starts w → SuitsWorld table does w
    → IsUndoneUnpowered table does c.args.steps w m6 × (m6.device.flash ≡ oldest_start starts w) =
    λ starts is suits. undone-whole laws table starts does chip flash journal phase m0 m1 m2 m3 m4 m5
    m6 c.in_ok-memory-2._stopped c.in_ok-said.field-0 c.in_ok-memory.ensures
    (ap (λ (m : MemoryData). m.device) c.stop_after.ensures.plan)
    (ap (λ (m : MemoryData). m.journal) c.stop_after.ensures.plan) c.stop_after.ensures.honest
    c.args.steps (ap (λ (m : MemoryData). m.plan.stop) c.stop_after.ensures.plan)
    c.in_ok-memory-2.ensures
    (ap (λ (m : MemoryData). m.device) c.stop_after-2.ensures.plan)
    (ap (λ (m : MemoryData). m.journal) c.stop_after-2.ensures.plan) c.stop_after-2.ensures.honest
    c.in_ok-lose_power.ensures.lost c.in_ok-lose_power.ensures.honest c.in_ok-memory-3.ensures
    undoes is suits in
    record {
      done = λ starts is suits. (both starts is suits).0;
      back = λ starts is suits. (both starts is suits).1;
      first = λ none ready suits.
          let is =
          can-begin laws.begins chip flash journal phase m0 c.in_ok-memory.ensures none ready in
          (both [] is suits).1;
    }
