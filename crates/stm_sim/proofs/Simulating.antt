-- Steps of the simulator's loops.
use Rattle.std.proofs.Common.{◌≡◌, ℕ, zero, suc, ◌<◌, List, [], ◌∷◌, ◌++◌, length, take, drop, refl, ap, arith, get_or}
use Rattle.std.proofs.Math.ListN.{set}
use Rattle.stm_sim.specs.Simulator.{stored_byte, stored_bytes}

-- the first places have what is stored there, the others what they had
abbrev pub stored_so_far : ℕ → ℕ → List ℕ → List ℕ → List ℕ
stored_so_far erased i olds sents = stored_bytes erased (take i olds) (take i sents) ++ drop i olds

pub stored_so_far-more : (erased i : ℕ) (olds sents : List ℕ) → length olds ≡ length sents → i < length sents
    → set (stored_so_far erased i olds sents) i (stored_byte erased (get_or (stored_so_far erased i olds sents) i 0) (get_or sents i 0)) ≡ stored_so_far erased (suc i) olds sents
stored_so_far-more e zero (o ∷ olds) (s ∷ sents) same h = refl
stored_so_far-more e (suc i) (o ∷ olds) (s ∷ sents) same h = ap (λ xs. stored_byte e o s ∷ xs) (stored_so_far-more e i olds sents (omega (arith, same)) (omega (arith, h)))
stored_so_far-more e i olds sents same h = absurd (omega (arith, same, h))

pub stored_so_far-all : (erased : ℕ) (olds sents : List ℕ) → length olds ≡ length sents → stored_so_far erased (length sents) olds sents ≡ stored_bytes erased olds sents
stored_so_far-all e [] [] same = refl
stored_so_far-all e (o ∷ olds) (s ∷ sents) same = ap (λ xs. stored_byte e o s ∷ xs) (stored_so_far-all e olds sents (omega (arith, same)))
stored_so_far-all e olds sents same = absurd (omega (arith, same))
