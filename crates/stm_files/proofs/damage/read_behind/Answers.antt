use Rattle.std.proofs.Common.{◌≡◌, ◌+◌, ◌<◌, length, arith, length-drop}
use Rattle.stm_files.proofs.Damages.{read-all, read-one}
use Rattle.stm_files.proofs.damage.read_behind.Goals as goal

pub loop-i-preserved : goal.loop-i-preserved
loop-i-preserved g c = λ honest.
    let V = g.L.Rig.view in
    let n = c.in_ok-fetch.field-0 in
    let has = c.loop-i.invariant honest in
    let model = g.met.L.Rig.model c.args.rig.now honest in
    let exact : c.saturating_add.result ≡ c.args.at + c.loop-i.i =
    omega (arith, c.saturating_add.ensures, has.within, length-drop c.args.at (V c.args.rig.now).journal, model.journal, c.ranges.at.fits) in
    read-one c.args.at c.loop-i.i c.saturating_add.result n _ c.fetch.new.buf c.loop-i.line.items c.extend_from_slice.new.self.items (V c.args.rig.now) (V c.loop-i.rig) (V c.fetch.new.rig)
    has exact (c.in_ok-fetch.ensures.honest has.stays.honest) (omega (arith, c.fetch.auto.buf)) (omega (arith, c.in_ok-fetch.ensures.within, c.if-branch-eq0.false)) c.in_ok-extend_from_slice.ensures.items
