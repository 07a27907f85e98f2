use Rattle.stm_weak.proofs.Stepping.{events_are_ordinary}
use Rattle.stm_weak.proofs.device.events_that_believe_no_weak_page_are_ordinary.Goals as goal

pub returns : goal.returns
returns c = record { events = events_are_ordinary }
