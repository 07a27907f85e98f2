-- The least of all places and one past the flash decide for each.
use Rattle.std.proofs.Common.{◌≡◌, ◌↔◌, rules, false, not, IsTrue}
use Rattle.stm_chip.specs.Touch.{HasOutside}
use Rattle.stm_chip.proofs.Touching.{inside_each}
use Rattle.stm_chip.proofs.touch.is_inside_flash.Goals as goal

pub returns-then-not-has_before-clause-each : goal.returns-then-not-has_before-clause-each
returns-then-not-has_before-clause-each c =
    let chip = c.args.chip.now in
    let image = c.args.image.now in
    let inside = not c.has_from.result in
    let all_inside : IsTrue inside ↔ ¬ HasOutside chip image = search rules in
    let one_outside : inside ≡ false → HasOutside chip image = search rules in
    inside_each chip image inside all_inside one_outside
