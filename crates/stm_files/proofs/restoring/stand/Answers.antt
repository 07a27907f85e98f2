use Rattle.std.proofs.Common.{◌∙◌, ap, refl, sym}
use Rattle.std.proofs.lemmas.Result.{IfOk-weaker}
use Rattle.stm_wire.proofs.Names.{Connected, Gone}
use Rattle.stm_files.specs.lemmas.SimulatorFileLaws.{connected, settles, from_there}
use Rattle.stm_files.specs.Standing.{standing_phase}
use Rattle.stm_files.proofs.restoring.stand.Goals as goal

pub lengthen-requires : goal.lengthen-requires
lengthen-requires c =
    let d = c.args.rig.now.device in
    settles d c.args.rig.now c.feed.new.rig (connected d c.args.rig.now c.feed.new.rig refl c.requires.fresh c.in_ok-feed-in-Connected.ensures)

pub leave-requires : goal.leave-requires
leave-requires c =
    let d = c.args.rig.now.device in
    settles d c.args.rig.now c.feed-in-Gone.new.rig (connected d c.args.rig.now c.feed-in-Gone.new.rig refl c.requires.fresh c.in_ok-feed-in-Gone.ensures)

pub returns-in_ok-feed-in-Connected : goal.returns-in_ok-feed-in-Connected
returns-in_ok-feed-in-Connected c =
    let old = c.args.rig.now in
    let mid = c.feed.new.rig in
    let new = c.lengthen.new.rig in
    let was = connected old.device old mid refl c.requires.fresh c.in_ok-feed-in-Connected.ensures in
    let rest = c.deref.result.now in
    let is = ap Connected c.deref.ensures.value ∙ sym (ap standing_phase c.in-Connected.is) in
    IfOk-weaker c.lengthen.result _ _ (λ stays h yes. rw is at (from_there (Connected rest) old.device old mid new was (h yes))) c.lengthen.ensures

pub returns-in_ok-feed-in-Gone : goal.returns-in_ok-feed-in-Gone
returns-in_ok-feed-in-Gone c =
    let old = c.args.rig.now in
    let mid = c.feed-in-Gone.new.rig in
    let new = c.leave.new.rig in
    let was = connected old.device old mid refl c.requires.fresh c.in_ok-feed-in-Gone.ensures in
    IfOk-weaker c.leave.result _ _ (λ left h yes. rw (ap standing_phase c.in-Gone.is) (from_there Gone old.device old mid new was (h yes))) c.leave.ensures
