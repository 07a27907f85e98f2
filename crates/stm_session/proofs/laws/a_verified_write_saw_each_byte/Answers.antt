use Rattle.stm_session.proofs.Names.{confirming, contact_way}
use Rattle.stm_session.proofs.KeptRuns.{after_as, as_session, does_as}
use Rattle.stm_session.proofs.SeenImages.{sees_byte}
use Rattle.stm_session.proofs.laws.a_verified_write_saw_each_byte.Goals as goal

pub returns : goal.returns
returns g c table image part outcomes old new =
    let V = g.R.Rig.view in
    as_session table (V old) _ _ (λ chip l sound. does_as contact_way chip.id l.is_torn _ _ (V old) (V new) (after_as (confirming chip) _ _ (λ steps seen.
    sees_byte c.laying_by_parts.ensures.length c.laying_keeps_places.ensures.each chip image part outcomes l.state seen.0 steps seen.1)))
