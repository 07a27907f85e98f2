use Rattle.stm_image.proofs.Sets.{byte_at_next, byte_at_beyond, byte_at_none}
use Rattle.stm_image.proofs.set.Image.get.Goals as goal

pub returns-then-found-address : goal.returns-then-found-address
returns-then-found-address c = byte_at_next _ _ _ (rw (← c.self.view_is) c.self.invariant.image.rises) _ c.in-Some.ensures c.if-found-address.true

pub returns-else-found-address : goal.returns-else-found-address
returns-else-found-address c = byte_at_beyond _ _ _ c.in-Some.ensures c.if-found-address.false

pub returns-in-None : goal.returns-in-None
returns-in-None c = byte_at_none _ _ c.in-None.ensures
