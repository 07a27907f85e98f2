-- What a run of calls that holds a dialogue does to a Rig, honest or not.
use Rattle.std.specs.Prelude.{◌≡◌, ℕ, ◌≤◌, List}
use Rattle.stm_wire.specs.declared.fault.WireFault.{WireFault}
use Rattle.stm_wire.specs.declared.fault.WireFault.TheVariants.{Line, Nack, Quiet, Garbled}
use Rattle.stm_wire.specs.Rig.{RigState, Rises}
use Rattle.stm_wire.specs.Moments.{LeavesOnly, FedAndTaken, PartlyFed, LeftBySending}
use Rattle.stm_wire.specs.Dialogue.{Turn, calls_of, IsBrokenOff, Adds, GoesOn}

-- the count of failures is as it was, unless the line is to blame
abbrev pub KeepsCount : ℕ → ℕ → WireFault → Type 0
KeepsCount before now Line = Unit {0}
KeepsCount before now Nack = now ≡ before
KeepsCount before now Quiet = now ≡ before
KeepsCount before now Garbled = now ≡ before

-- an honest Rig was sent these bytes
pub record SentHonestly (bytes : List ℕ) (old new : RigState) : Type 0 where
  pub honest : new.is_honest
  pub journal : new.journal ≡ old.journal
  pub fed : FedAndTaken bytes old.device new.device
  pub moments : LeavesOnly (LeftBySending bytes old) old new

-- or a beginning of them
pub record PartSentHonestly (bytes : List ℕ) (old new : RigState) : Type 0 where
  pub honest : new.is_honest
  pub journal : new.journal ≡ old.journal
  pub fed : PartlyFed bytes old.device new.device
  pub moments : LeavesOnly (LeftBySending bytes old) old new

-- The dialogue was held to its end, and these are the bytes that it sends.
pub record IsHeldToEnd (bytes : List ℕ) (turns : List Turn) (old new : RigState) : Type 0 where
  pub recorded : Adds (calls_of turns) old.calls new.calls
  pub line_count : new.line_failures ≡ old.line_failures
  pub journal_count : new.journal_failures ≡ old.journal_failures
  pub honestly : old.is_honest → SentHonestly bytes old new

-- It was broken off with this fault.
pub record BreaksOff (fault : WireFault) (bytes : List ℕ) (turns : List Turn)
    (old new : RigState) : Type 0 where
  pub recorded : GoesOn (IsBrokenOff fault turns) old.calls new.calls
  pub line_count : old.line_failures ≤ new.line_failures
  pub line_cause : fault ≡ Line → Rises old.line_failures new.line_failures
  pub line_kept : KeepsCount old.line_failures new.line_failures fault
  pub journal_count : new.journal_failures ≡ old.journal_failures
  pub honestly : old.is_honest → PartSentHonestly bytes old new
