use Rattle.stm_session.proofs.ToldBoards.{told_board_is_the_devices}
use Rattle.stm_session.proofs.asking_board.told_board_is_the_devices.Goals as goal

pub returns : goal.returns
returns c = told_board_is_the_devices
