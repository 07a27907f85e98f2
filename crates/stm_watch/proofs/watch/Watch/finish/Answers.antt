use Rattle.std.proofs.Common.{List, ℕ, sym, subst, arith}
use Rattle.stm_wire.proofs.Names.{change_of}
use Rattle.stm_sim.specs.Simulator.{Fits}
use Rattle.stm_sim.specs.lemmas.SimulatedChange.{done-change-fits}
use Rattle.stm_watch.specs.Known.{Known}
use Rattle.stm_watch.proofs.watch.Watch.finish.Goals as goal

pub change_all-requires-clause-fits : goal.change_all-requires-clause-fits
change_all-requires-clause-fits c =
    let i = c.self.inside in
    let k = c.args.self.now in
    let D : Known → Type 0 = λ w. Fits w.chip (change_of w.list) in
    let fits : Fits i.chip (change_of i.list.items) =
    subst D (sym c.self.view_is) (done-change-fits k.chip k.codes k.list c.requires) in
    let P : List ℕ → Type 0 = λ bytes. Fits i.chip (change_of bytes) in
    subst P (sym c.as_slice-bytes.ensures.value) fits

pub invariant_of-self-2 : goal.invariant_of-self-2
invariant_of-self-2 c =
    record {
      chip = c.self.invariant.chip;
      size = c.change_all.ensures.length;
      codes = c.self.invariant.codes;
      inside = λ some.
          let h = c.count_read-self-inside.ensures.inside some in
          omega (arith, h, c.place_read-self-inside.ensures);
    }
