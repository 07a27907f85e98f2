-- From bytes added to entries added.
use Rattle.std.proofs.Common.{◌≤◌, ℕ, ◌-◌, ◌^◌, List, ◌∷◌, ◌++◌, length, Result, Ok, Err, sym, subst}
use Rattle.stm_wire.proofs.Names.{IsModel, RigState}
use Rattle.stm_journal.proofs.Names.{added_bytes, AddsBytes, Appends, Entry, IsLoaded, JournalFault, Loaded, loaded_after, past_mark, Prepares}
use Rattle.stm_journal.proofs.Ties.{AllAllowed, IsLoaded-after}

pub Appends-added : {T : Type 0} (e : Entry) (entries : List Entry) (l l2 : Loaded) (bytes : List ℕ) (a b : RigState) (result : Result T JournalFault) → IsModel b
    → Prepares (e ∷ entries) l l2 bytes → IsLoaded l a.journal → AllAllowed (e ∷ entries) (past_mark l) → AddsBytes bytes a b result → Appends (e ∷ entries) l l2 a b result
Appends-added e entries l l2 bytes a b (Ok x) model prepares tied may adds =
    let A : List ℕ → Type 0 = λ xs. AddsBytes xs a b (Ok x) in
    let adds2 : AddsBytes (added_bytes l.is_torn (e ∷ entries)) a b (Ok x) = subst A prepares.text adds in
    let J : List ℕ → Type 0 = λ xs. length xs ≤ 2 ^ 63 - 1 in
    let after : IsLoaded (loaded_after (e ∷ entries) l) (a.journal ++ added_bytes l.is_torn (e ∷ entries)) = IsLoaded-after e entries l a.journal tied may (subst J adds2.added model.journal) in
    let B : List ℕ → Type 0 = λ xs. IsLoaded l2 xs in
    let L : Loaded → Type 0 = λ x. IsLoaded x (a.journal ++ added_bytes l.is_torn (e ∷ entries)) in
    record { bytes = adds2; loaded = subst B (sym adds2.added) (subst L (sym prepares.after) after) }
Appends-added {T} e entries l l2 bytes a b (Err fault) model prepares tied may adds =
    let A : List ℕ → Type 0 = λ xs. AddsBytes {T = T} xs a b (Err fault) in
    record { bytes = subst A prepares.text adds; loaded = tt }

-- with another answer
pub Appends-ok : {S T : Type 0} (x : S) (y : T) (entries : List Entry) (l l2 : Loaded) (a b : RigState) → Appends entries l l2 a b (Ok x) → Appends entries l l2 a b (Ok y)
Appends-ok x y entries l l2 a b is =
    record {
      bytes = record { honest = is.bytes.honest; moments = is.bytes.moments; added = is.bytes.added; same_device = is.bytes.same_device; fails = tt };
      loaded = is.loaded;
    }

pub Appends-err : {S T : Type 0} (e : JournalFault) (entries : List Entry) (l l2 : Loaded) (a b : RigState) → Appends {T = S} entries l l2 a b (Err e) → Appends {T = T} entries l l2 a b (Err e)
Appends-err e entries l l2 a b is =
    record {
      bytes = record { honest = is.bytes.honest; moments = is.bytes.moments; added = tt; same_device = tt; fails = is.bytes.fails };
      loaded = tt;
    }
