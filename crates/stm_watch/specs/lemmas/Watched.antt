-- What a watched Rig tells.
use Rattle.std.proofs.Common.{◌≡◌, ℕ, suc, List, [], ◌∷◌, length, Option, Some, None, refl, sym}
use Rattle.std.proofs.Common.{◌∙◌, ap}
use Rattle.stm_wire.specs.Call.{Call}
use Rattle.stm_wire.specs.Rig.{RigState, IsModel, IsPlace}
use Rattle.stm_watch.specs.Known.{Known}
use Rattle.stm_watch.specs.Watching.{quieted, quieted_record, watched}

pub watched-model : {A : Type 0} (k : Known) (refusal : Option A) (line journal : ℕ) (rig :
    RigState)
    → (rig.is_honest → IsModel rig) → (watched k refusal line journal rig).is_honest
    → IsModel (watched k refusal line journal rig)
watched-model k (Some refusal) line journal rig model honest = absurd honest
watched-model k None line journal rig model honest =
    let m = model honest.0 in
    record {
      device = m.device;
      journal = m.journal;
      counts_now = m.counts_now;
      only_now = m.only_now;
    }

length-quieted : (calls : List Call) → length (quieted calls) ≡ length calls
length-quieted [] = refl
length-quieted (call ∷ []) = refl
length-quieted (call ∷ next ∷ calls) = ap suc (length-quieted (next ∷ calls))

place-quieted : (moment : ℕ) (calls : Option (List Call)) → IsPlace moment calls
    → IsPlace moment (quieted_record calls)
place-quieted moment None is = tt
place-quieted moment (Some calls) is = is ∙ sym (length-quieted calls)

pub watched-places : {A : Type 0} (k : Known) (refusal : Option A) (line journal : ℕ) (rig :
    RigState)
    → IsPlace rig.moment rig.calls
    → IsPlace (watched k refusal line journal rig).moment (watched k refusal line journal rig).calls
watched-places k None line journal rig is = is
watched-places k (Some refusal) line journal rig is = place-quieted rig.moment rig.calls is
