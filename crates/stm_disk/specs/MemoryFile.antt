-- A file in memory, and what it has been.
use Rattle.std.specs.Prelude.{◌^◌, ◌-◌, ◌≤◌, ℕ, List, length, take, get_or, Some}
use Rattle.stm_disk.specs.Crash.{MayBeLeft}
use Rattle.stm_disk.specs.GrowingFile.{FileState}

-- how many bytes were synced at a moment, and how many there were: before the call of that number,
-- and now from the last on
abbrev pub sizes_at : List ℕ → ℕ → List (ℕ × ℕ) → ℕ → ℕ × ℕ
sizes_at bytes synced past moment = get_or past moment (synced, length bytes)

pub record IsFileInMemory (bytes : List ℕ) (synced : ℕ) (past : List (ℕ × ℕ)) : Type 0 where
  pub limit : length bytes ≤ 2 ^ 63 - 1
  pub within : synced ≤ length bytes
  -- it only grew
  pub grew : (moment : ℕ) → (sizes_at bytes synced past moment).1 ≤ length bytes

-- a crash at some moment from that one on may have left it
abbrev pub CrashLeftSince : List ℕ → ℕ → List (ℕ × ℕ) → ℕ → List ℕ → Type 0
CrashLeftSince bytes synced past t left =
    (moment : ℕ) × (t ≤ moment)
    × MayBeLeft (sizes_at bytes synced past moment).0
    (take (sizes_at bytes synced past moment).1 bytes) left

abbrev pub file_state : List ℕ → ℕ → List (ℕ × ℕ) → FileState
file_state bytes synced past = record {
  is_honest = IsFileInMemory bytes synced past;
  seen = bytes;
  synced = synced;
  moment = length past;
  left_since = CrashLeftSince bytes synced past;
  known = Some bytes;
}
