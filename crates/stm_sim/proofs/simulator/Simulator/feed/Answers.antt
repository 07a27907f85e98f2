use Rattle.std.proofs.Common.{List, ℕ, ◌<◌, ◌∙◌, ap₂, arith}
use Rattle.stm_sim.specs.Simulator.{simulated_device, device_of}
use Rattle.stm_sim.specs.lemmas.SimulatedDevice.{simulated_device-IsDevice}
use Rattle.stm_sim.proofs.simulator.Simulator.feed.Goals as goal

pub invariant_of-self-2 : goal.invariant_of-self-2
invariant_of-self-2 c =
    let i = c.self.inside in
    let byte = c.args.byte in
    let small : byte < 256 = omega arith in
    let old = device_of i.chip i.flash.items i.owed.items i.rest.bytes.items i.stage in (
      rw (c.feed.ensures.device
          ∙ ap₂ (λ (owed rest : List ℕ). simulated_device byte (device_of i.chip i.flash.items owed rest i.stage)) c.in_ok-reserve.ensures.items c.in_ok-reserve-2.ensures.same) (simulated_device-IsDevice byte old small c.self.invariant.0),
      c.feed.ensures.current,
    )
