-- Loading a journal: what of its bytes was read.
use Rattle.std.specs.Prelude.{◌≡◌, ℕ, ◌+◌, ◌<◌, ◌≤◌, List, ◌++◌, length, take, drop, Result, Ok}
use Rattle.std.specs.Prelude.{Err, OnOk, IfOk, OnErr}
use Rattle.stm_wire.specs.Rig.{RigState}
use Rattle.stm_wire.specs.Device.{LosesOwed}
use Rattle.stm_wire.specs.Moments.{LeavesOnly}
use Rattle.stm_journal.specs.declared.fault.JournalFault.{JournalFault}
use Rattle.stm_journal.specs.declared.fault.JournalFault.TheVariants.{File, Bad, OtherDevice}
use Rattle.stm_journal.specs.declared.fault.JournalFault.TheVariants.{OtherBoard, Memory}
use Rattle.stm_journal.specs.Text.{text_of}
use Rattle.stm_journal.specs.Greetings.{is_greeted}
use Rattle.stm_journal.specs.Journals.{Loaded, capped, journal_of, good, bad}
use Rattle.stm_journal.specs.States.{StateData}
use Rattle.stm_journal.specs.InMemory.{forget_state}
use Rattle.stm_journal.specs.Summary.{Summary, summary_of, greets_by}
use Rattle.stm_journal.specs.Forget.{after_summary}
use Rattle.stm_journal.specs.Calls.{IsUntouched}

-- a journal in memory takes a whole line more by its summary; at the LF its bytes so far end
pub record PassesLine (y : Summary) (old new : Loaded) : Type 0 where
  pub state : after_summary (capped (old.lines + 1)) old.size (good old.state) y ≡ good new.state
  pub lines : new.lines ≡ capped (old.lines + 1)
  pub size : new.size ≡ capped (old.size + 1)
  pub is_torn : new.is_torn ≡ old.is_torn
  pub is_greeted : new.is_greeted ≡ greets_by y

abbrev pub BadLine : Summary → Loaded → JournalFault → Type 0
BadLine y old File = ⊥
BadLine y old (Bad line) =
    after_summary (capped (old.lines + 1)) old.size (good old.state) y ≡ bad line
BadLine y old OtherDevice = ⊥
BadLine y old OtherBoard = ⊥
BadLine y old Memory = Unit {0}

-- these bytes were read: their whole lines are good, and this is the summary of their torn tail
pub record IsRead (l : Loaded) (y : Summary) (bytes : List ℕ) : Type 0 where
  pub text : StateData
  pub means : journal_of bytes ≡ good text
  pub state : l.state ≡ forget_state text
  pub lines : l.lines ≡ length (text_of bytes).lines
  pub size : l.size ≡ length bytes
  pub greeted : l.is_greeted ≡ is_greeted bytes
  pub rest : summary_of (text_of bytes).tail ≡ y

-- these bytes have a bad line, whatever follows; or there was no memory
abbrev pub LoadingStopsAt : List ℕ → JournalFault → Type 0
LoadingStopsAt bytes File = ⊥
LoadingStopsAt bytes (Bad line) = (rest : List ℕ) → journal_of (bytes ++ rest) ≡ bad line
LoadingStopsAt bytes OtherDevice = ⊥
LoadingStopsAt bytes OtherBoard = ⊥
LoadingStopsAt bytes Memory = Unit {0}

abbrev pub IsLoadFault : JournalFault → Type 0
IsLoadFault File = ⊥
IsLoadFault (Bad line) = Unit {0}
IsLoadFault OtherDevice = ⊥
IsLoadFault OtherBoard = ⊥
IsLoadFault Memory = Unit {0}

-- the bytes that were read, and these after them
abbrev pub TakesBytes : {T : Type 0} → List ℕ → List ℕ → Loaded → Summary
    → Result T JournalFault → Type 0
TakesBytes more bytes l y (Ok x) = IsRead l y (bytes ++ more)
TakesBytes more bytes l y (Err e) = LoadingStopsAt (bytes ++ more) e

-- a fetch of an honest Rig's journal
pub record Fetches (at : ℕ) (before after : List ℕ) (old new : RigState)
    (result : Result ℕ JournalFault) : Type 0 where
  pub honest : new.is_honest
  pub moments : LeavesOnly (IsUntouched old) old new
  pub journal : new.journal ≡ old.journal
  pub same_device : OnOk result (new.device ≡ old.device)
  pub kept_device : OnErr result (LosesOwed old.device new.device)
  pub bytes : IfOk result (λ n. take n after ≡ take n (drop at old.journal))
  pub more : IfOk result (λ n. n ≡ 0 → at < length old.journal → length before ≡ 0)

-- an honest Rig's journal, of which a beginning was read and nothing was changed
pub record HasReadJournal (l : Loaded) (y : Summary) (old new : RigState) : Type 0 where
  pub honest : new.is_honest
  pub journal : new.journal ≡ old.journal
  pub device : new.device ≡ old.device
  pub moments : LeavesOnly (IsUntouched old) old new
  pub read : IsRead l y (take l.size old.journal)
  pub within : l.size ≤ length old.journal
