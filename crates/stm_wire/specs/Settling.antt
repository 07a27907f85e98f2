-- What settling does to a Rig: on any line, and on one that follows the model.
use Rattle.std.specs.Prelude.{◌≡◌, ◌⊎◌, ℕ, ◌+◌, ◌-◌, ◌*◌, ◌≤◌, List}
use Rattle.std.specs.Prelude.{[], length, take, replicate, Bool, Option, Result, IfOk, OnOk}
use Rattle.std.specs.Prelude.{IfErr, MatchBool}
use Rattle.stm_wire.specs.declared.fault.WireFault.{WireFault}
use Rattle.stm_wire.specs.declared.fault.WireFault.TheVariants.{Line}
use Rattle.stm_wire.specs.declared.rig.Patience.TheVariants.{Long}
use Rattle.stm_wire.specs.Call.{Call}
use Rattle.stm_wire.specs.Awaited.{Awaits}
use Rattle.stm_wire.specs.Device.{Device, IsSettled}
use Rattle.stm_wire.specs.Harmless.{SameOutside, Harmless}
use Rattle.stm_wire.specs.Rig.{RigState, Rises, StaysHonest, waited}
use Rattle.stm_wire.specs.Moments.{LeavesOnly}
use Rattle.stm_wire.specs.Dialogue.{GoesOn, puts_of, AreLineCalls}
use Rattle.stm_wire.specs.SentList.{IsSettlingRun}
use Rattle.stm_wire.specs.Command.{IsOkOrLine}
use Rattle.stm_wire.specs.Sending.{KeepsCount}

-- On any line:

-- puts and gets alone, at most so many; what they put has P
pub record Talks (P : List ℕ → Type 0) (most : ℕ) (calls : List Call) : Type 0 where
  pub line : AreLineCalls calls
  pub puts : P (puts_of calls)
  pub few : length calls ≤ most

-- these bytes are put
abbrev pub PutsAll : List ℕ → ℕ → List Call → Type 0
PutsAll bytes most calls = Talks (λ puts. puts ≡ bytes) most calls

-- or a beginning of them
abbrev pub PutsPart : List ℕ → ℕ → List Call → Type 0
PutsPart bytes most calls = Talks (λ puts. (n : ℕ) × (puts ≡ take n bytes)) most calls

-- what settling puts, and how many calls it makes
abbrev pub SettlesWithin : ℕ → ℕ → List Call → Type 0
SettlesWithin byte limit calls = Talks (IsSettlingRun byte limit) (4100 * (limit + 4)) calls

-- A fault of the line is answered only where its count rose, and at Ok and at every other fault the
-- count is as it was. That of the journal always is. An honest Rig stays honest, whatever its
-- device is, and nothing is appended to its journal.
pub record HasLineCause {T : Type 0} (result : Result T WireFault)
    (old new : RigState) : Type 0 where
  pub later : old.line_failures ≤ new.line_failures
  pub done : OnOk result (new.line_failures ≡ old.line_failures)
  pub failed : IfErr result (λ fault. fault ≡ Line → Rises old.line_failures new.line_failures)
  pub kept : IfErr result (KeepsCount old.line_failures new.line_failures)
  pub stays : old.is_honest → StaysHonest old new
  pub journal_count : new.journal_failures ≡ old.journal_failures

-- no get waited long, or one did
abbrev pub WaitsOnce : Option ℕ → Option ℕ → Type 0
WaitsOnce old new = (new ≡ old) ⊎ (new ≡ waited Long old)

-- a part of settling that puts these bytes
pub record Speaks {T : Type 0} (bytes : List ℕ) (most : ℕ) (result : Result T WireFault)
    (old new : RigState) : Type 0 where
  pub cause : HasLineCause result old new
  pub part : GoesOn (PutsPart bytes most) old.calls new.calls
  pub whole : OnOk result (GoesOn (PutsAll bytes most) old.calls new.calls)

-- batches of the byte, and how many bytes of the limit they leave
pub record SpeaksBatches (byte limit : ℕ) (result : Result ℕ WireFault)
    (old new : RigState) : Type 0 where
  pub cause : HasLineCause result old new
  pub part : GoesOn (PutsPart (replicate limit byte) (4099 * limit)) old.calls new.calls
  pub within : IfOk result (λ left. left ≤ limit)
  pub whole : IfOk result (λ left. let sent = limit - left in
      GoesOn (PutsAll (replicate sent byte) (4099 * sent)) old.calls new.calls)

-- On a line that follows the model:

-- the device is the start's chip, with its version and codes, as harmless, with its flash outside
-- the pages, awaits no more than the start, and owes little
pub record IsSettling (byte : ℕ) (pages : List ℕ) (start d : Device) : Type 0 where
  pub same_chip : d.chip ≡ start.chip
  pub same_version : d.version ≡ start.version
  pub same_codes : d.codes ≡ start.codes
  pub harmless : Harmless d byte pages
  pub awaits : (most : ℕ) → 3 ≤ most → Awaits byte most start → Awaits byte most d
  pub flash : SameOutside start.chip pages start.flash d.flash
  pub owed : length d.owed ≤ 4096

-- before a byte: nothing is owed
pub record IsGoing (byte : ℕ) (pages : List ℕ) (start : Device) (left : ℕ)
    (d : Device) : Type 0 where
  pub settling : IsSettling byte pages start d
  pub quiet : d.owed ≡ []
  pub within : Awaits byte left d

abbrev pub with_nothing_owed : Device → Device
with_nothing_owed d = record d { owed = [] }

-- this journal, and a device that has P
abbrev pub LeftWith : (Device → Type 0) → List ℕ → Device → List ℕ → Type 0
LeftWith P kept d journal = (journal ≡ kept) × P d

-- at each moment from old to new
pub record Keeps (P : Device → Type 0) (old new : RigState) : Type 0 where
  pub honest : new.is_honest
  pub journal : new.journal ≡ old.journal
  pub moments : LeavesOnly (LeftWith P old.journal) old new

abbrev pub LeftBySettling : ℕ → List ℕ → Device → List ℕ → Device → List ℕ → Type 0
LeftBySettling byte pages start = LeftWith (IsSettling byte pages start)

abbrev pub KeepsSettling : ℕ → List ℕ → Device → RigState → RigState → Type 0
KeepsSettling byte pages start = Keeps (IsSettling byte pages start)

-- what one byte of settling does, and whether it was refused
pub record SendsOnce (byte : ℕ) (pages : List ℕ) (start : Device) (left : ℕ)
    (result : Result Bool WireFault)
    (old new : RigState) : Type 0 where
  pub keeps : KeepsSettling byte pages start old new
  pub ok : IfOk result
      (λ refused.
      MatchBool refused (IsSettled new.device) (IsGoing byte pages start left new.device))
  pub fails : IsOkOrLine result

-- what a batch does
pub record SendsBatch {T : Type 0} (byte : ℕ) (pages : List ℕ) (start : Device) (left : ℕ)
    (result : Result T WireFault)
    (old new : RigState) : Type 0 where
  pub keeps : KeepsSettling byte pages start old new
  pub ok : OnOk result (IsGoing byte pages start left new.device)
  pub fails : IsOkOrLine result

-- what all batches do, where so many bytes are left
pub record SendsBatches (byte : ℕ) (pages : List ℕ) (start : Device) (result : Result ℕ WireFault)
    (old new : RigState) : Type 0 where
  pub keeps : KeepsSettling byte pages start old new
  pub ok : IfOk result (λ left. IsGoing byte pages start left new.device)
  pub fails : IsOkOrLine result

-- what settling does
pub record Settles {T : Type 0} (byte : ℕ) (pages : List ℕ) (start : Device)
    (result : Result T WireFault)
    (old new : RigState) : Type 0 where
  pub keeps : KeepsSettling byte pages start old new
  pub ok : OnOk result (IsSettled new.device)
  pub fails : IsOkOrLine result

-- it keeps what settling keeps, and at the end the device is this one
pub record LeadsTo {T : Type 0} (byte : ℕ) (pages : List ℕ) (start : Device)
    (result : Result T WireFault)
    (old new : RigState) (target : Device) : Type 0 where
  pub keeps : KeepsSettling byte pages start old new
  pub ok : OnOk result (new.device ≡ target)
  pub fails : IsOkOrLine result
