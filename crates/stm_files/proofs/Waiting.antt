-- Bytes that wait to be sent.
use Rattle.std.proofs.Common.{◌≡◌, ℕ, ◌≤◌, Bool, true, false, List, [], ◌∷◌, ◌++◌, length, MatchBool, ◌∙◌, ap, arith}

-- where nothing waits there is room
pub alone : (done : Bool) (old new : List ℕ) (byte : ℕ) → old ≡ []
    → MatchBool done (new ≡ old ++ byte ∷ []) ((new ≡ old) × (512 ≤ length old)) → new ≡ byte ∷ []
alone true old new byte none is = is ∙ ap (λ (xs : List ℕ). xs ++ byte ∷ []) none
alone false old new byte none is = absurd (omega (arith, is.1, ap length none))

-- where there was none, the same bytes wait
pub unmoved : (done : Bool) (old new : List ℕ) (byte : ℕ) → done ≡ false
    → MatchBool done (new ≡ old ++ byte ∷ []) ((new ≡ old) × (512 ≤ length old)) → new ≡ old
unmoved true old new byte e is = cc
unmoved false old new byte e is = is.0
