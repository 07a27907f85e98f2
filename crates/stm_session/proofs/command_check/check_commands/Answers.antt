use Rattle.std.proofs.Common.{rules, ◌≡◌, ◌+◌, true, false, not, ◌||◌, nat_le, length, map, ◌∙◌}
use Rattle.std.proofs.lemmas.List.Folds.{list_all-map}
use Rattle.std.specs.List.{list_all, list_any}
use Rattle.stm_session.proofs.Names.{can_erase, changes_of, command_data, is_change, is_in_flash, lies_in_flash}
use Rattle.stm_session.proofs.CommandChecks.{full, nothing, outside}
use Rattle.stm_session.proofs.command_check.check_commands.Goals as goal

pub returns-then-not-are_in_flash-clause-refusal : goal.returns-then-not-are_in_flash-clause-refusal
returns-then-not-are_in_flash-clause-refusal c d told =
    let able : (not (list_any is_change (map command_data c.args.commands.now)) || can_erase c.args.chip.now d) ≡ true = search (rules, c.can_change.ensures d told, c.if-not-can_change.false) in
    let is : list_all (is_in_flash c.args.chip.now) c.args.commands.now ≡ false = search (rules, c.are_in_flash.ensures, c.if-not-are_in_flash.true) in
    outside c.args.journal.now.state d c.args.chip.now c.args.commands.now able is

pub returns-then-not-has_room-clause-refusal : goal.returns-then-not-has_room-clause-refusal
returns-then-not-has_room-clause-refusal c d told =
    let able : (not (list_any is_change (map command_data c.args.commands.now)) || can_erase c.args.chip.now d) ≡ true = search (rules, c.can_change.ensures d told, c.if-not-can_change.false) in
    let inside : list_all (is_in_flash c.args.chip.now) c.args.commands.now ≡ true = search (rules, c.are_in_flash.ensures, c.if-not-are_in_flash.false) in
    let is : nat_le (length c.args.journal.now.state.stack + length (changes_of (map command_data c.args.commands.now))) 65535 ≡ false = search (rules, c.has_room.ensures.value, c.if-not-has_room.true) in
    full c.args.journal.now.state d c.args.chip.now c.args.commands.now able inside is

pub returns-clause-in_flash : goal.returns-clause-in_flash
returns-clause-in_flash c =
    let inside : list_all (is_in_flash c.args.chip.now) c.args.commands.now ≡ true = search (rules, c.are_in_flash.ensures, c.if-not-are_in_flash.false) in
    list_all-map (lies_in_flash c.args.chip.now) command_data c.args.commands.now ∙ inside

pub returns-clause-refusal : goal.returns-clause-refusal
returns-clause-refusal c d told =
    let able : (not (list_any is_change (map command_data c.args.commands.now)) || can_erase c.args.chip.now d) ≡ true = search (rules, c.can_change.ensures d told, c.if-not-can_change.false) in
    let inside : list_all (is_in_flash c.args.chip.now) c.args.commands.now ≡ true = search (rules, c.are_in_flash.ensures, c.if-not-are_in_flash.false) in
    let is : nat_le (length c.args.journal.now.state.stack + length (changes_of (map command_data c.args.commands.now))) 65535 ≡ true = search (rules, c.has_room.ensures.value, c.if-not-has_room.false) in
    nothing c.args.journal.now.state d c.args.chip.now c.args.commands.now able inside is
