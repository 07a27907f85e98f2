-- One outcome a command, of its kind.
use Rattle.std.proofs.Common.{◌≡◌, ℕ, ◌+◌, ◌<◌, List, [], ◌∷◌, ◌++◌, length, get_or, take, sym, subst}
use Rattle.std.proofs.lemmas.List.{take_more}
use Rattle.stm_session.proofs.Names.{AreKindsOf, Command, IsKindOf, Outcome}

kinds_append : (commands : List Command) (outcomes : List Outcome) (c : Command) (o : Outcome) → AreKindsOf commands outcomes → IsKindOf c o → AreKindsOf (commands ++ c ∷ []) (outcomes ++ o ∷ [])
kinds_append [] [] c o kinds kind = (kind, tt)
kinds_append [] (said ∷ outcomes) c o kinds kind = absurd kinds
kinds_append (first ∷ commands) [] c o kinds kind = absurd kinds
kinds_append (first ∷ commands) (said ∷ outcomes) c o kinds kind = (kinds.0, kinds_append commands outcomes c o kinds.1 kind)

-- one outcome more, of the next command
pub kinds_more : (commands : List Command) (i : ℕ) (d : Command) (outcomes new : List Outcome) (o : Outcome) → i < length commands → new ≡ outcomes ++ o ∷ []
    → AreKindsOf (take i commands) outcomes → IsKindOf (get_or commands i d) o → AreKindsOf (take (i + 1) commands) new
kinds_more commands i d outcomes new o lt is so_far kind =
    let P : List Command → List Outcome → Type 0 = λ cs os. AreKindsOf cs os in
    subst (λ (cs : List Command). P cs new) (sym (take_more commands i d lt))
    (subst (λ (os : List Outcome). P (take i commands ++ get_or commands i d ∷ []) os) (sym is) (kinds_append (take i commands) outcomes (get_or commands i d) o so_far kind))
