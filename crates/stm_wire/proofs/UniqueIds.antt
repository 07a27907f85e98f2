-- Bytes that are put into the fields of a unique id are told by them.
use Rattle.std.proofs.Common.{◌≡◌, ℕ, ◌<◌, ◌≤◌, List, ◌++◌, length, take, drop, All}
use Rattle.std.proofs.Common.{replicate, sym, ap, subst, ◌∙◌, arith, inr, IsTrue, w8, Fits}
use Rattle.std.proofs.Common.{slice_index_or}
use Rattle.std.proofs.lemmas.Bool.Decides.{nat_tests}
use Rattle.std.proofs.lemmas.List.{length-append, drop-replicate}
use Rattle.std.proofs.Math.Facts.{Fits-lt-pow}
use Rattle.std.proofs.lemmas.List.Elements.{All-from_get_or}
use Rattle.std.proofs.Math.Seq.{take-append_seam}
use Rattle.stm_wire.proofs.Names.{AreFields, filled_up, is_unique_length, IsUniqueId}

limits : (n : ℕ) → 8 ≤ n → n ≤ 32 → IsTrue (is_unique_length n)
limits n least most = grind (arith, nat_tests)

are-bytes : (id : List ℕ) → ((i : ℕ) → Fits w8 (slice_index_or id i 0))
    → All (λ byte. byte < 256) id
are-bytes id fits = All-from_get_or (λ byte. byte < 256) id 0 (λ i within. Fits-lt-pow {w = w8} (fits i))

pub held-fields : (id : List ℕ) → 8 ≤ length id → length id ≤ 32
    → ((i : ℕ) → Fits w8 (slice_index_or id i 0))
    → AreFields (record { bytes = id ++ drop (length id) (replicate 32 0); length = length id })
held-fields id least most fits =
    let held : List ℕ = id ++ drop (length id) (replicate 32 0) in
    let told : take (length id) held ≡ id = take-append_seam id (drop (length id) (replicate 32 0)) in
    record {
      within = omega (arith, length-append id (drop (length id) (replicate 32 0)));
      bytes = ap (λ (zeros : List ℕ). id ++ zeros) (drop-replicate (length id) 32 0)
          ∙ sym (ap filled_up told);
      told = subst IsUniqueId (sym told)
          (record { length = inr (limits (length id) least most); bytes = are-bytes id fits });
    }
