use Rattle.std.proofs.Common.{◌∙◌}
use Rattle.stm_session.proofs.CommandChecks.{counted, room_for}
use Rattle.stm_session.proofs.command_check.has_room.Goals as goal

pub returns-clause-value : goal.returns-clause-value
returns-clause-value c = room_for _ _ _ _ c.depth-room.ensures.value c.depth-room.ensures.sound.depth (c.count_changes.ensures ∙ counted c.args.commands.now)
