-- A Rig, as contracts see it: a device on a line and a journal, and what its calls do to them.
use Rattle.std.specs.Prelude.{◌≡◌, ◌⊎◌, ℕ, ◌+◌, ◌-◌, ◌^◌, ◌<◌, ◌≤◌, min, List}
use Rattle.std.specs.Prelude.{[], ◌∷◌, ◌++◌, length, take, drop, Option, Some}
use Rattle.std.specs.Prelude.{None, Result, Ok, Err, OnOk, OnErr, IfOk}
use Rattle.stm_wire.specs.declared.rig.Patience.{Patience}
use Rattle.stm_wire.specs.declared.rig.Patience.TheVariants.{Brief, Long}
use Rattle.stm_wire.specs.Call.{Call, Get, Append}
use Rattle.stm_wire.specs.declared.fault.RigFault.{RigFault}
use Rattle.stm_wire.specs.Device.{Device, IsDevice, Feeds, LosesOwed}

-- what a Rig tells of itself at one time: the device on its line, its journal, and its calls
pub record RigState : Type 1 where
  -- it follows the model
  pub is_honest : Type 0
  pub device : Device
  pub journal : List ℕ
  -- how often a put or a get failed, and an append or a fetch; a count stays at 2^64 - 1
  pub line_failures : ℕ
  pub journal_failures : ℕ
  -- a number that doesn't fall
  pub moment : ℕ
  -- what a stop at some moment from that one on may have left
  pub left_since : ℕ → Device → List ℕ → Type 0
  -- all calls so far, where it keeps a record
  pub calls : Option (List Call)
  -- the record has room for one entry more: the next call stands in it, whatever it answers
  pub has_room : Type 0
  -- how many gets waited long, and the bytes that fetches brought, where it keeps these
  pub long_gets : Option ℕ
  pub told : Option (List ℕ)

-- the count rose, or stands at its top
abbrev pub Rises : ℕ → ℕ → Type 0
Rises before now = min (before + 1) (2 ^ 64 - 1) ≤ now

-- an error is answered only where the count rose, and it rises in no call that answers Ok
pub record HasCause {T : Type 0} (before now : ℕ) (result : Result T RigFault) : Type 0 where
  pub later : before ≤ now
  pub done : OnOk result (now ≡ before)
  pub failed : OnErr result (Rises before now)

-- The call stands in the record; one that fails for want of memory may not. Such a call has done
-- nothing on an honest Rig, since its moment is the old one, and of that moment the Rig tells the
-- old state alone.
abbrev pub Records : {T : Type 0} → Call → Result T RigFault → Option (List Call)
    → Option (List Call) → Type 0
Records call result None new = new ≡ None
Records call (Ok x) (Some past) new = new ≡ Some (past ++ call ∷ [])
Records call (Err e) (Some past) new = (new ≡ Some (past ++ call ∷ [])) ⊎ (new ≡ Some past)

-- An append stands in the record with the bytes that were handed in; one that failed, if it does,
-- with a beginning of them.
abbrev pub RecordsAppend : {T : Type 0} → List ℕ → Result T RigFault → Option (List Call)
    → Option (List Call) → Type 0
RecordsAppend bytes result None new = new ≡ None
RecordsAppend bytes (Ok x) (Some past) new = new ≡ Some (past ++ Append bytes ∷ [])
RecordsAppend bytes (Err e) (Some past) new =
    ((n : ℕ) × (new ≡ Some (past ++ Append (take n bytes) ∷ []))) ⊎ (new ≡ Some past)

-- where the record has room, the call stands in it, also one that fails
abbrev pub Enters : Call → RigState → RigState → Type 0
Enters call old new = old.has_room → Records {T = Unit {0}} call (Ok tt) old.calls new.calls

abbrev pub EntersAppend : List ℕ → RigState → RigState → Type 0
EntersAppend bytes old new =
    old.has_room
    → (n : ℕ) × Records {T = Unit {0}} (Append (take n bytes)) (Ok tt) old.calls new.calls

-- a get counts where it waits long; the count stays at 2^64 - 1
abbrev pub waited : Patience → Option ℕ → Option ℕ
waited Brief count = count
waited Long None = None
waited Long (Some n) = Some (min (n + 1) (2 ^ 64 - 1))

-- what a fetch brought stands behind what was brought before
abbrev pub TellsBehind : List ℕ → Result ℕ RigFault → Option (List ℕ) → Option (List ℕ) → Type 0
TellsBehind after result None new = new ≡ None
TellsBehind after (Ok n) (Some past) new = new ≡ Some (past ++ take n after)
TellsBehind after (Err e) (Some past) new = new ≡ Some past

-- beside its entry, a put and an append leave no trace
pub record PutsAside (old new : RigState) : Type 0 where
  pub long_gets : new.long_gets ≡ old.long_gets
  pub told : new.told ≡ old.told

-- a get says how long it waited
pub record GetsAside (patience : Patience) (old new : RigState) : Type 0 where
  pub long_gets : new.long_gets ≡ waited patience old.long_gets
  pub told : new.told ≡ old.told

-- a fetch says what it brought
pub record FetchesAside (after : List ℕ) (result : Result ℕ RigFault)
    (old new : RigState) : Type 0 where
  pub long_gets : new.long_gets ≡ old.long_gets
  pub told : TellsBehind after result old.told new.told

-- the entry of a get
abbrev pub entry_of_get : Result (Option ℕ) RigFault → Call
entry_of_get (Ok answer) = Get answer
entry_of_get (Err e) = Get None

-- From old to new, a stop may have left what it might have left before, or what has P.
pub record Elapses (P : Device → List ℕ → Type 0) (old new : RigState) : Type 0 where
  pub later : old.moment ≤ new.moment
  pub nothing_else : (t : ℕ) (d : Device) (journal : List ℕ) → t ≤ old.moment
      → new.left_since t d journal → old.left_since t d journal ⊎ P d journal
  pub keeps : (t : ℕ) (d : Device) (journal : List ℕ) → t ≤ old.moment → old.left_since t d journal
      → new.left_since t d journal

-- during a put: the byte is fed or not, and owed bytes may be lost
abbrev pub LeftByPut : ℕ → RigState → Device → List ℕ → Type 0
LeftByPut byte old d journal =
    (journal ≡ old.journal)
    × ((mid : Device) × ((mid ≡ old.device) ⊎ Feeds byte old.device mid) × LosesOwed mid d)

-- during a get or a fetch: owed bytes may be lost
abbrev pub LeftByGet : RigState → Device → List ℕ → Type 0
LeftByGet old d journal = (journal ≡ old.journal) × LosesOwed old.device d

-- during an append: a beginning of the bytes is added, and owed bytes may be lost
abbrev pub LeftByAppend : List ℕ → RigState → Device → List ℕ → Type 0
LeftByAppend bytes old d journal =
    ((n : ℕ) × (journal ≡ old.journal ++ take n bytes)) × LosesOwed old.device d

-- a put on such a line: at Ok the device got the byte; at a fault it got it or not, and no more
pub record PutsHonestly {T : Type 0} (byte : ℕ) (result : Result T RigFault)
    (old new : RigState) : Type 0 where
  pub honest : new.is_honest
  pub ok : OnOk result (Feeds byte old.device new.device × (new.journal ≡ old.journal))
  pub err : OnErr result (LeftByPut byte old new.device new.journal)
  pub time : Elapses (LeftByPut byte old) old new

-- nothing was owed, or the first byte owed is answered
abbrev pub GetsFirst : Option ℕ → Device → Device → Type 0
GetsFirst None old new = (old.owed ≡ []) × (new ≡ old)
GetsFirst (Some byte) old new = old ≡ record new { owed = byte ∷ new.owed }

-- a get on such a line: at Ok the first byte owed was taken, or nothing was owed
pub record GetsHonestly (result : Result (Option ℕ) RigFault) (old new : RigState) : Type 0 where
  pub honest : new.is_honest
  pub ok : IfOk result (λ answer. GetsFirst answer old.device new.device)
  pub journal : new.journal ≡ old.journal
  pub err : OnErr result (LeftByGet old new.device new.journal)
  pub time : Elapses (LeftByGet old) old new

-- an append on such a line: at Ok the journal has all bytes, at a fault a beginning of them
pub record AppendsHonestly {T : Type 0} (bytes : List ℕ) (result : Result T RigFault)
    (old new : RigState) : Type 0 where
  pub honest : new.is_honest
  pub ok : OnOk result ((new.device ≡ old.device) × (new.journal ≡ old.journal ++ bytes))
  pub err : OnErr result (LeftByAppend bytes old new.device new.journal)
  pub time : Elapses (LeftByAppend bytes old) old new
  -- a stop in it may have left each beginning of what was added
  pub beginnings : (t n : ℕ) (d : Device) → t ≤ old.moment → length old.journal ≤ n
      → LosesOwed old.device d
      → new.left_since t d (take n new.journal)

-- a fetch on such a line: the journal's bytes from the place on, as many as were answered; none only
-- where there are none or no room
pub record FetchesHonestly (at : ℕ) (before after : List ℕ) (result : Result ℕ RigFault)
    (old new : RigState) : Type 0 where
  pub honest : new.is_honest
  pub ok : OnOk result ((new.device ≡ old.device) × (new.journal ≡ old.journal))
  pub bytes : IfOk result (λ n. take n after ≡ take n (drop at old.journal))
  pub more : IfOk result (λ n. n ≡ 0 → at < length old.journal → length before ≡ 0)
  pub err : OnErr result (LeftByGet old new.device new.journal)
  pub time : Elapses (LeftByGet old) old new

-- a call answers at most the buffer's length, and nothing from the last place on
pub record FetchesWithin (at : ℕ) (before after : List ℕ)
    (result : Result ℕ RigFault) : Type 0 where
  pub same_length : length after ≡ length before
  pub within : IfOk result (λ n. n ≤ length before)
  pub last : 2 ^ 63 - 1 ≤ at → IfOk result (λ n. n ≡ 0)

-- an honest Rig stays honest, and its journal is as it was
pub record StaysHonest (old new : RigState) : Type 0 where
  pub honest : new.is_honest
  pub journal : new.journal ≡ old.journal

-- what is so of a Rig that follows the model, at each moment
pub record IsModel (rig : RigState) : Type 0 where
  pub device : IsDevice rig.device
  pub journal : length rig.journal ≤ 2 ^ 63 - 1
  -- this moment is one of those since an earlier one, and since this moment there is no other
  pub counts_now : (t : ℕ) (d : Device) → t ≤ rig.moment → LosesOwed rig.device d
      → rig.left_since t d rig.journal
  pub only_now : (d : Device) (journal : List ℕ) → rig.left_since rig.moment d journal
      → (journal ≡ rig.journal) × LosesOwed rig.device d

-- where there is a record, a moment is a place in it
abbrev pub IsPlace : ℕ → Option (List Call) → Type 0
IsPlace moment None = Unit {0}
IsPlace moment (Some calls) = moment ≡ length calls
