-- Making a value of a struct without fields, step by step. Assumes `Logic`.
use Rattle.std.proofs.Common.{List, [], ◌∷◌, refl}
use seplogic.Ra.Ura.{Ura}
use mir.Val.{Val, vstruct, vnil}
use types.Logic.{Logic}
use types.Kit.{Goal, Step, step, Item, ‵, ◌$◌, fjoin, fpack, feq_i}
use denote.RattleType.{RattleType, Valss}
use denote.Steps.{nothing}
use denote.Struct.Struct.{Struct, within}

abbrev pub empty : Val
empty = vstruct vnil

abbrev pub without_fields : RattleType
without_fields = Struct (record { name = []; args = []; types = []; fields = [] })

pub empty_made : {M : Type 1} {𝓤 : Ura M} {𝓛 : Logic 𝓤} {K : Type 0} {Γ : List (Item 𝓤)} {G : Goal 𝓤 𝓛.H} → K → Step K 𝓛 (‵ (without_fields.own_val tt (empty ∷ [])) ∷ Γ) G Γ G
empty_made k = step (λ rest.
    nothing k $ feq_i k (List Val) (empty ∷ []) (empty ∷ []) refl $ fjoin k $
    fpack k (Valss []) (within (record { name = []; args = []; types = []; fields = [] }) tt (empty ∷ [])) tt $ rest)
