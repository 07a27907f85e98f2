-- What is so of a file in memory at each moment.
use Rattle.std.proofs.Common.{◌≤◌, ℕ, List, length, take, sym, subst, arith}
use Rattle.std.proofs.lemmas.List.{take_all, get_or_past}
use Rattle.stm_disk.specs.Crash.{MayBeLeft}
use Rattle.stm_disk.specs.GrowingFile.{FollowsFileModel}
use Rattle.stm_disk.specs.MemoryFile.{IsFileInMemory, CrashLeftSince, file_state}

-- what a crash may leave where these are the sizes
abbrev pub LeftAt : List ℕ → ℕ × ℕ → List ℕ → Type 0
LeftAt bytes sizes left = MayBeLeft sizes.0 (take sizes.1 bytes) left

pub left_now : (bytes : List ℕ) (synced : ℕ) (left : List ℕ) → MayBeLeft synced bytes left
    → LeftAt bytes (synced, length bytes) left
left_now bytes synced left m =
    subst (λ (xs : List ℕ). MayBeLeft synced xs left)
    (sym (take_all (length bytes) bytes (omega arith))) m

pub now_left : (bytes : List ℕ) (synced : ℕ) (left : List ℕ)
    → LeftAt bytes (synced, length bytes) left → MayBeLeft synced bytes left
now_left bytes synced left m =
    subst (λ (xs : List ℕ). MayBeLeft synced xs left)
    (take_all (length bytes) bytes (omega arith)) m

pub counts_now : (bytes : List ℕ) (synced : ℕ) (past : List (ℕ × ℕ)) (t : ℕ) (left : List ℕ)
    → t ≤ length past → MayBeLeft synced bytes left → CrashLeftSince bytes synced past t left
counts_now bytes synced past t left le m = (
  length past,
  le,
  subst (λ (sizes : ℕ × ℕ). LeftAt bytes sizes left)
      (sym (get_or_past past (length past) (synced, length bytes) (omega arith)))
      (left_now bytes synced left m),
)

pub only_now : (bytes : List ℕ) (synced : ℕ) (past : List (ℕ × ℕ)) (left : List ℕ)
    → CrashLeftSince bytes synced past (length past) left → MayBeLeft synced bytes left
only_now bytes synced past left since =
    now_left bytes synced left
    (subst (λ (sizes : ℕ × ℕ). LeftAt bytes sizes left)
    (get_or_past past since.0 (synced, length bytes) since.1) since.2)

pub is_model : (bytes : List ℕ) (synced : ℕ) (past : List (ℕ × ℕ)) → IsFileInMemory bytes synced past
    → FollowsFileModel (file_state bytes synced past)
is_model bytes synced past h = record {
  limit = h.limit;
  synced = h.within;
  counts_now = λ t left. counts_now bytes synced past t left;
  only_now = λ left. only_now bytes synced past left;
}
