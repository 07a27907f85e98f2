-- Bytes sent from a list, or taken into one, turn by turn.
use Rattle.std.proofs.Common.{set, ◌<◌, get_or, take-append-drop, ◌≡◌, ℕ, ◌+◌, List, [], ◌∷◌, ◌++◌, length, take, drop, refl, sym, ◌∙◌, ap, subst, append_assoc}
use Rattle.std.proofs.lemmas.List.{take_more_set, take_more}
use Rattle.stm_wire.proofs.Names.{BreaksOff, Device, Fed, Feeds, IsHeldToEnd, learns, owing, RigState, says, Turn, WireFault}
use Rattle.stm_wire.proofs.Feeding.{Fed-append}
use Rattle.stm_wire.proofs.Turns.{says-append, learns-append}
use Rattle.stm_wire.proofs.Holding.{Holds-append, BreaksOff-second, BreaksOff-first}

-- one byte more of a list is sent
pub Holds-more : (bytes : List ℕ) (i : ℕ) (a b c : RigState) → i < length bytes → IsHeldToEnd (take i bytes) (says (take i bytes)) a b → IsHeldToEnd (get_or bytes i 0 ∷ []) (says (get_or bytes i 0 ∷ [])) b c
    → IsHeldToEnd (take (i + 1) bytes) (says (take (i + 1) bytes)) a c
Holds-more bytes i a b c h p q =
    let one = get_or bytes i 0 ∷ [] in
    let P : List ℕ → Type 0 = λ zs. IsHeldToEnd zs (says zs) a c in
    let Q : List Turn → Type 0 = λ zs. IsHeldToEnd (take i bytes ++ one) zs a c in
    subst P (sym (take_more bytes i 0 h)) (subst Q (sym (says-append (take i bytes) one)) (Holds-append (take i bytes) one (says (take i bytes)) (says one) a b c p q))

-- and where that byte was not sent, a part of the list was
pub BreaksOff-more : (fault : WireFault) (bytes : List ℕ) (i : ℕ) (a b c : RigState) → i < length bytes → IsHeldToEnd (take i bytes) (says (take i bytes)) a b → BreaksOff fault (get_or bytes i 0 ∷ []) (says (get_or bytes i 0 ∷ [])) b c
    → BreaksOff fault bytes (says bytes) a c
BreaksOff-more fault bytes i a b c h p q =
    let one = get_or bytes i 0 ∷ [] in
    let left = drop (i + 1) bytes in
    let P : List ℕ → Type 0 = λ zs. BreaksOff fault zs (says zs) a c in
    let Q : List Turn → Type 0 = λ zs. BreaksOff fault ((take i bytes ++ one) ++ left) zs a c in
    let whole : (take i bytes ++ one) ++ left ≡ bytes = ap (λ zs. zs ++ left) (sym (take_more bytes i 0 h)) ∙ take-append-drop (i + 1) bytes in
    let turns : (says (take i bytes) ++ says one) ++ says left ≡ says ((take i bytes ++ one) ++ left) = sym (says-append (take i bytes ++ one) left ∙ ap (λ zs. zs ++ says left) (says-append (take i bytes) one)) in
    subst P whole (subst Q turns (BreaksOff-first fault (take i bytes ++ one) left (says (take i bytes) ++ says one) (says left) a c (BreaksOff-second fault (take i bytes) one (says (take i bytes)) (says one) a b c p q)))

pub Fed-more : (bytes : List ℕ) (i : ℕ) (a b c : Device) → i < length bytes → Fed (take i bytes) a b → Feeds (get_or bytes i 0) b c → Fed (take (i + 1) bytes) a c
Fed-more bytes i a b c h p q =
    let P : List ℕ → Type 0 = λ zs. Fed zs a c in
    subst P (sym (take_more bytes i 0 h)) (Fed-append (take i bytes) (get_or bytes i 0 ∷ []) a b c p (c, q, refl))

-- bytes owed, of which the first were taken, and then one more
pub owing-more : (bytes : List ℕ) (i byte : ℕ) (a b c : Device) → i < length bytes → a ≡ owing (take i bytes) b → b ≡ owing (byte ∷ []) c → a ≡ owing (take (i + 1) (set bytes i byte)) c
owing-more bytes i byte a b c h p q =
    let with_owed : List ℕ → Device = λ zs. record c { owed = zs } in
    p ∙ ap (λ (d : Device). owing (take i bytes) d) q ∙ ap with_owed (sym (append_assoc (take i bytes) (byte ∷ []) c.owed) ∙ ap (λ zs. zs ++ c.owed) (sym (take_more_set bytes i byte h)))

-- one byte more of an answer came
pub Holds-learned : (bytes : List ℕ) (i byte : ℕ) (a b c : RigState) → i < length bytes → IsHeldToEnd [] (learns (take i bytes)) a b → IsHeldToEnd [] (learns (byte ∷ [])) b c → IsHeldToEnd [] (learns (take (i + 1) (set bytes i byte))) a c
Holds-learned bytes i byte a b c h p q =
    let Q : List Turn → Type 0 = λ zs. IsHeldToEnd [] zs a c in
    subst Q (sym (learns-append (take i bytes) (byte ∷ [])) ∙ ap learns (sym (take_more_set bytes i byte h))) (Holds-append [] [] (learns (take i bytes)) (learns (byte ∷ [])) a b c p q)

-- and where it did not come, a part of the answer had
pub BreaksOff-learned : (fault : WireFault) (bytes : List ℕ) (i : ℕ) (a b c : RigState) → i < length bytes → IsHeldToEnd [] (learns (take i bytes)) a b → BreaksOff fault [] (learns (get_or bytes i 0 ∷ [])) b c
    → BreaksOff fault [] (learns bytes) a c
BreaksOff-learned fault bytes i a b c h p q =
    let one = get_or bytes i 0 ∷ [] in
    let left = drop (i + 1) bytes in
    let Q : List Turn → Type 0 = λ zs. BreaksOff fault [] zs a c in
    let whole : (take i bytes ++ one) ++ left ≡ bytes = ap (λ zs. zs ++ left) (sym (take_more bytes i 0 h)) ∙ take-append-drop (i + 1) bytes in
    let turns : (learns (take i bytes) ++ learns one) ++ learns left ≡ learns bytes = sym (learns-append (take i bytes ++ one) left ∙ ap (λ zs. zs ++ learns left) (learns-append (take i bytes) one)) ∙ ap learns whole in
    subst Q turns (BreaksOff-first fault [] [] (learns (take i bytes) ++ learns one) (learns left) a c (BreaksOff-second fault [] [] (learns (take i bytes)) (learns one) a b c p q))
