-- Pieces that are added one after another, each synced before the next, leave a beginning of lines.
use Rattle.std.proofs.Common.{◌≡◌, ◌+◌, ◌-◌, ◌≤◌, ◌^◌, ℕ, List, [], ◌++◌, Result, Ok, Err}
use Rattle.std.proofs.Common.{length, take, drop, sym, ap, subst, ◌∙◌, arith, OnOk, OnErr}
use Rattle.std.specs.Result.{IsErrAnd}
use Rattle.std.proofs.lemmas.List.{append-nil, append_assoc, length-append, length-take-le, take_all}
use Rattle.std.proofs.Math.Seq.{take-add}
use Rattle.stm_sim.specs.lemmas.Honest.{take-of-take}
use Rattle.stm_disk.specs.Sectors.{LinesEndWhole}
use Rattle.stm_disk.specs.Crash.{MayBeLeft}
use Rattle.stm_disk.specs.GrowingFile.{FileState, GrowsHonestly, SyncsHonestly, FollowsFileModel}
use Rattle.stm_disk.specs.Moments.{CrashLeavesOnly}
use Rattle.stm_disk.specs.Lines.{LeftByAdding, IsSynced, StaysOnDisk, AddsHonestly}
use Rattle.stm_disk.proofs.Crashes.{piece_left, settled_left}
use Rattle.stm_disk.proofs.Times.{started, joined, elapsed}

-- nothing was added
pub nothing_added : (old bytes left : List ℕ) → left ≡ old → LeftByAdding old bytes left
nothing_added old bytes left is = (0, [], is ∙ sym (append-nil old), tt)

-- what a settled file leaves
pub settled_leaves : (bytes : List ℕ) (at : ℕ) (a : FileState) → IsSynced at a → (left : List ℕ)
    → MayBeLeft a.synced a.seen left → LeftByAdding a.seen bytes left
settled_leaves bytes at a s left m =
    nothing_added a.seen bytes left
    (settled_left a.seen left (subst (λ (n : ℕ). MayBeLeft n a.seen left) s.synced m))

-- what a file leaves that a piece is being added to
pub piece_leaves : (at : ℕ) (piece : List ℕ) (a : FileState) → LinesEndWhole at piece
    → IsSynced at a → (left : List ℕ) → MayBeLeft a.synced (a.seen ++ piece) left
    → LeftByAdding a.seen piece left
piece_leaves at piece a whole s left m =
    piece_left a.seen piece left (subst (λ (n : ℕ). LinesEndWhole n piece) s.place whole)
    (subst (λ (n : ℕ). MayBeLeft n (a.seen ++ piece) left) s.synced m)

-- the append of a piece
pub piece_appended : {T E : Type 0} (result : Result T E) (at : ℕ) (piece : List ℕ) (a b : FileState)
    → FollowsFileModel a → LinesEndWhole at piece → IsSynced at a → GrowsHonestly piece result a b
    → CrashLeavesOnly (LeftByAdding a.seen piece) a b
piece_appended result at piece a b model whole s by =
    elapsed (MayBeLeft a.synced (a.seen ++ piece)) (LeftByAdding a.seen piece) a b model by.time
    (settled_leaves piece at a s) (piece_leaves at piece a whole s)

-- what it leaves until it is synced
pub unsynced_leaves : (at : ℕ) (piece : List ℕ) (a b : FileState) → LinesEndWhole at piece
    → IsSynced at a → b.seen ≡ a.seen ++ piece → b.synced ≡ a.synced
    → (left : List ℕ) → MayBeLeft b.synced b.seen left → LeftByAdding a.seen piece left
unsynced_leaves at piece a b whole s seen synced left m =
    piece_leaves at piece a whole s left
    (rw synced at (subst (λ (xs : List ℕ). MayBeLeft b.synced xs left) seen m))

-- its sync
pub piece_at_sync : {T E : Type 0} (result : Result T E) (at : ℕ) (piece : List ℕ)
    (a b c : FileState) → FollowsFileModel b → LinesEndWhole at piece → IsSynced at a
    → b.seen ≡ a.seen ++ piece → b.synced ≡ a.synced
    → CrashLeavesOnly (LeftByAdding a.seen piece) a b → SyncsHonestly result b c
    → CrashLeavesOnly (LeftByAdding a.seen piece) a c
piece_at_sync result at piece a b c model whole s seen synced first by =
    let P : List ℕ → Type 0 = LeftByAdding a.seen piece in
    joined P P P a b c first
    (elapsed (MayBeLeft b.synced b.seen) P b c model by.time
    (unsynced_leaves at piece a b whole s seen synced)
    (unsynced_leaves at piece a b whole s seen synced))
    (λ left p. p) (λ left p. p)

-- all is there, and stays
pub all_stays : (bytes : List ℕ) (a b : FileState) → FollowsFileModel b → b.is_honest
    → b.seen ≡ a.seen ++ bytes → b.synced ≡ length b.seen → StaysOnDisk bytes a b
all_stays bytes a b model honest seen synced = record {
  honest = honest;
  seen = seen;
  synced = synced;
  left = λ left now.
      settled_left b.seen left
      (subst (λ (n : ℕ). MayBeLeft n b.seen left) synced (model.only_now left now)) ∙ seen;
}

-- the end of a call that has failed
pub failed_adding : {T E : Type 0} (result : Result T E) (Q : E → Type 0) (bytes : List ℕ)
    (a b : FileState) → IsErrAnd result Q → (n : ℕ) × (b.seen ≡ a.seen ++ take n bytes)
    → CrashLeavesOnly (LeftByAdding a.seen bytes) a b → AddsHonestly bytes result a b
failed_adding (Ok x) Q bytes a b failed some time = absurd failed
failed_adding (Err e) Q bytes a b failed some time =
    record { ok = tt; err = some; time = time }

-- a piece whose sync has failed is there all the same
piece_there : {T E : Type 0} (result : Result T E) (piece : List ℕ) (a b c : FileState)
    → b.seen ≡ a.seen ++ piece → c.seen ≡ b.seen
    → OnErr result ((n : ℕ) × (c.seen ≡ a.seen ++ take n piece))
piece_there (Ok x) piece a b c seen same = tt
piece_there (Err e) piece a b c seen same = (
  length piece,
  same ∙ seen
      ∙ ap (λ (xs : List ℕ). a.seen ++ xs) (sym (take_all (length piece) piece (omega arith))),
)

pub piece_stays : {T E : Type 0} (result : Result T E) (piece : List ℕ) (a b c : FileState)
    → (c.is_honest → FollowsFileModel c) → b.seen ≡ a.seen ++ piece → SyncsHonestly result b c
    → OnOk result (StaysOnDisk piece a c)
piece_stays (Ok x) piece a b c model seen by =
    all_stays piece a c (model by.honest) by.honest (by.seen ∙ seen)
    (by.ok ∙ ap (λ (xs : List ℕ). length xs) (sym by.seen))
piece_stays (Err e) piece a b c model seen by = tt

-- a piece that was appended, and its sync, whatever it answers
pub piece_added : {T E : Type 0} (result : Result T E) (at : ℕ) (piece : List ℕ)
    (a b c : FileState) → FollowsFileModel a → FollowsFileModel b → (c.is_honest → FollowsFileModel c)
    → LinesEndWhole at piece → IsSynced at a
    → b.seen ≡ a.seen ++ piece → b.synced ≡ a.synced
    → CrashLeavesOnly (LeftByAdding a.seen piece) a b → SyncsHonestly result b c
    → AddsHonestly piece result a c
piece_added result at piece a b c model_a model_b model_c whole s seen synced first by = record {
  ok = piece_stays result piece a b c model_c seen by;
  err = piece_there result piece a b c seen by.seen;
  time = piece_at_sync result at piece a b c model_b whole s seen synced first by;
}

-- what the next piece leaves is a beginning of the whole
next_leaves : (old bytes mid piece left : List ℕ) (done count : ℕ) → mid ≡ old ++ take done bytes
    → piece ≡ take count (drop done bytes) → LeftByAdding mid piece left
    → LeftByAdding old bytes left
next_leaves old bytes mid piece left done count before is by =
    let tail = by.1 in
    let some = take-of-take by.0 count (drop done bytes) in
    let front : List ℕ = take done bytes in
    let more : List ℕ = take some.0 (drop done bytes) in
    let begun : take by.0 piece ≡ more = ap (λ (xs : List ℕ). take by.0 xs) is ∙ some.1 in (
      done + some.0,
      tail,
      by.2 ∙ ap (λ (xs : List ℕ). mid ++ (xs ++ tail)) begun
          ∙ ap (λ (xs : List ℕ). xs ++ (more ++ tail)) before
          ∙ append_assoc old front (more ++ tail)
          ∙ ap (λ (xs : List ℕ). old ++ xs) (sym (append_assoc front more tail))
          ∙ ap (λ (xs : List ℕ). old ++ (xs ++ tail)) (sym (take-add done some.0 bytes)),
      by.3,
    )

-- what is there of the next piece is a beginning of the whole
pub next_there : (done count : ℕ) (bytes piece : List ℕ) (a b c : FileState)
    → piece ≡ take count (drop done bytes) → b.seen ≡ a.seen ++ take done bytes
    → (n : ℕ) × (c.seen ≡ b.seen ++ take n piece) → (n : ℕ) × (c.seen ≡ a.seen ++ take n bytes)
next_there done count bytes piece a b c is before by =
    let some = take-of-take by.0 count (drop done bytes) in
    let more : List ℕ = take some.0 (drop done bytes) in
    let begun : take by.0 piece ≡ more = ap (λ (xs : List ℕ). take by.0 xs) is ∙ some.1 in (
      done + some.0,
      by.1 ∙ ap (λ (xs : List ℕ). b.seen ++ xs) begun ∙ ap (λ (xs : List ℕ). xs ++ more) before
          ∙ append_assoc a.seen (take done bytes) more
          ∙ ap (λ (xs : List ℕ). a.seen ++ xs) (sym (take-add done some.0 bytes)),
    )

-- so many bytes were added, and are synced
pub record SoFar (done : ℕ) (bytes : List ℕ) (a b : FileState) : Type 0 where
  pub honest : b.is_honest
  pub seen : b.seen ≡ a.seen ++ take done bytes
  pub synced : b.synced ≡ length b.seen
  pub time : CrashLeavesOnly (LeftByAdding a.seen bytes) a b

pub so_far_none : (at : ℕ) (bytes : List ℕ) (a : FileState) → FollowsFileModel a → a.is_honest
    → IsSynced at a → SoFar 0 bytes a a
so_far_none at bytes a model honest s = assumption (
  honest,
  sym (append-nil a.seen),
  s,
  started (LeftByAdding a.seen bytes) a model (settled_leaves bytes at a s),
)

-- the end of the file, where the place of the next piece is no more than a number can be
pub so_far_settled : (at place done : ℕ) (bytes : List ℕ) (a b : FileState) → FollowsFileModel b
    → at ≡ length a.seen → done ≤ length bytes → (at + done ≤ 2 ^ 64 - 1 → place ≡ at + done)
    → SoFar done bytes a b → IsSynced place b
so_far_settled at place done bytes a b model is le place_is s =
    let long : length b.seen ≡ at + done =
    ap (λ (xs : List ℕ). length xs) s.seen ∙ length-append a.seen (take done bytes)
    ∙ ap (λ (n : ℕ). length a.seen + n) (length-take-le done bytes le)
    ∙ ap (λ (n : ℕ). n + done) (sym is) in
    let small : at + done ≤ 2 ^ 64 - 1 = omega (arith, long, model.limit) in
    record { place = place_is small ∙ sym long; synced = s.synced }

-- the next piece, whatever its call answers
pub next_time : {T E : Type 0} (result : Result T E) (done count : ℕ) (bytes piece : List ℕ)
    (a b c : FileState) → piece ≡ take count (drop done bytes) → SoFar done bytes a b
    → AddsHonestly piece result b c → CrashLeavesOnly (LeftByAdding a.seen bytes) a c
next_time result done count bytes piece a b c is s by =
    let P : List ℕ → Type 0 = LeftByAdding a.seen bytes in
    joined P (LeftByAdding b.seen piece) P a b c s.time by.time (λ left p. p)
    (λ left p. next_leaves a.seen bytes b.seen piece left done count s.seen is p)

pub so_far_more : (done count : ℕ) (bytes piece : List ℕ) (a b c : FileState)
    → piece ≡ take count (drop done bytes) → SoFar done bytes a b → StaysOnDisk piece b c
    → CrashLeavesOnly (LeftByAdding a.seen bytes) a c → SoFar (done + count) bytes a c
so_far_more done count bytes piece a b c is s stays time = record {
  honest = stays.honest;
  seen =
      stays.seen ∙ ap (λ (xs : List ℕ). xs ++ piece) s.seen
      ∙ append_assoc a.seen (take done bytes) piece
      ∙ ap (λ (xs : List ℕ). a.seen ++ (take done bytes ++ xs)) is
      ∙ ap (λ (xs : List ℕ). a.seen ++ xs) (sym (take-add done count bytes));
  synced = stays.synced;
  time = time;
}

pub so_far_all : (done : ℕ) (bytes : List ℕ) (a b : FileState) → FollowsFileModel b → length bytes ≤ done
    → SoFar done bytes a b → StaysOnDisk bytes a b
so_far_all done bytes a b model le s =
    all_stays bytes a b model s.honest
    (s.seen ∙ ap (λ (xs : List ℕ). a.seen ++ xs) (take_all done bytes le)) s.synced
