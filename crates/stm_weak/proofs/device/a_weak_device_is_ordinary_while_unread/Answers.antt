use Rattle.stm_weak.proofs.Ordinary.{fed_as_ordinary}
use Rattle.stm_weak.proofs.Leading.{led_as_ordinary, one_is_left, sound_is_ordinary}
use Rattle.stm_weak.proofs.device.a_weak_device_is_ordinary_while_unread.Goals as goal

pub returns-clause-fed : goal.returns-clause-fed
returns-clause-fed c = fed_as_ordinary

pub returns-clause-led : goal.returns-clause-led
returns-clause-led c = led_as_ordinary

pub returns-clause-one : goal.returns-clause-one
returns-clause-one c = one_is_left

pub returns-clause-sound : goal.returns-clause-sound
returns-clause-sound c = sound_is_ordinary
