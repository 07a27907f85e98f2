-- A Rig in memory: its device, its journal and its record, what it has been, and when it is to stop
-- or fail.
use Rattle.std.specs.Prelude.{◌≡◌, ◌⊎◌, ℕ, ◌+◌, ◌-◌, ◌^◌, ◌<◌, ◌≤◌, nat_lt, Bool}
use Rattle.std.specs.Prelude.{true, false, List, [], ◌∷◌, ◌++◌, min, length}
use Rattle.std.specs.Prelude.{take, drop, Option, Some, None, Result, Ok, Err, MatchResult}
use Rattle.stm_wire.specs.declared.fault.RigFault.{RigFault}
use Rattle.stm_wire.specs.declared.fault.RigFault.TheVariants.{Line, File, Stopped}
use Rattle.stm_wire.specs.declared.rig.RigCall.{RigCall}
use Rattle.stm_wire.specs.declared.rig.RigCall.TheVariants.{Put, Get, Append, Fetch}
use Rattle.stm_sim.specs.declared.past.PastStep.{PastStep}
use Rattle.stm_sim.specs.declared.past.PastStep.TheVariants.{Fed, Taken, Added, Nothing}
use Rattle.stm_sim.specs.declared.plan.Plan.{Plan}
use Rattle.stm_sim.specs.declared.plan.Stop.{Stop}
use Rattle.stm_sim.specs.declared.plan.Stop.TheVariants.{Never, After, Fallen}
use Rattle.stm_wire.specs.Device.{Device, Fresh, IsDevice, LosesOwed}
use Rattle.stm_sim.specs.lemmas.Recorded.{calls_told}
use Rattle.stm_wire.specs.Rig.{RigState}
use Rattle.stm_sim.specs.Simulator.{simulated_device, device_of}
use Rattle.stm_sim.specs.declared.simulator.Stage.TheVariants.{Fresh as StageFresh}
use Rattle.stm_wire.specs.Chip.{ChipData}

pub record MemoryData : Type 0 where
  pub device : Device
  pub journal : List ℕ
  pub line_failures : ℕ
  pub journal_failures : ℕ
  pub calls : List RigCall
  -- for so many calls from now on there is room in the record, since it was asked for
  pub room : ℕ
  -- when it is to stop, and which later call is to fail
  pub plan : Plan
  -- since it was made or last reset: the device and the journal's length at first, how many calls
  -- there were, and what each call did
  pub first : Device
  pub begun : ℕ
  pub start : ℕ
  pub past : List PastStep

abbrev pub after_past_step : PastStep → Device → Device
after_past_step (Fed byte) d = simulated_device byte d
after_past_step Taken d = record d { owed = drop 1 d.owed }
after_past_step (Added n) d = d
after_past_step Nothing d = d

-- the device after these steps
abbrev pub replay : List PastStep → Device → Device
replay [] d = d
replay (s ∷ past) d = replay past (after_past_step s d)

-- how many bytes these steps added to the journal
abbrev pub added_by : List PastStep → ℕ
added_by [] = 0
added_by (Added n ∷ past) = n + added_by past
added_by (Fed byte ∷ past) = added_by past
added_by (Taken ∷ past) = added_by past
added_by (Nothing ∷ past) = added_by past

-- what it keeps
pub record KeepsOfPast (now : Device) (written : List ℕ) (entries : List RigCall) (at_first : Device)
    (size_at_first calls_at_first : ℕ) (steps : List PastStep) : Type 0 where
  pub is_device : IsDevice now
  pub places : calls_at_first + length steps ≡ length entries
  pub replayed : now ≡ replay steps at_first
  pub added : size_at_first + added_by steps ≡ length written
  pub limit : length written ≤ 2 ^ 63 - 1

abbrev pub IsMemory : MemoryData → Type 0
IsMemory m = KeepsOfPast m.device m.journal m.calls m.first m.begun m.start m.past

-- after some call since place t, or inside the call behind it: the device is as after that call,
-- but for owed bytes lost from the front, and the journal ends with or before what the next call
-- added
pub record LeftSince (written : List ℕ) (at_first : Device) (size_at_first calls_at_first : ℕ)
    (steps : List PastStep) (t : ℕ) (d : Device) (left : List ℕ) : Type 0 where
  pub place : ℕ
  pub since : t ≤ calls_at_first + place
  pub until : place ≤ length steps
  pub device : LosesOwed (replay (take place steps) at_first) d
  pub size : ℕ
  pub from : size_at_first + added_by (take place steps) ≤ size
  pub to : size ≤ size_at_first + added_by (take (place + 1) steps)
  pub same : left ≡ take size written

abbrev pub rig_state : MemoryData → RigState
rig_state m =
    record {
      is_honest = IsMemory m;
      device = m.device;
      journal = m.journal;
      line_failures = m.line_failures;
      journal_failures = m.journal_failures;
      moment = length m.calls;
      left_since = LeftSince m.journal m.first m.begun m.start m.past;
      calls = Some (calls_told m.journal m.calls);
      has_room = 0 < m.room;
      long_gets = None;
      told = None;
    }

-- the flash at first, where it was kept; else it is as it was
abbrev pub first_flash : Option (List ℕ) → List ℕ → List ℕ
first_flash None flash = flash
first_flash (Some first) flash = first

abbrev pub first_device : Option (List ℕ) → Device → Device
first_device first d = record d { flash = first_flash first d.flash; owed = []; phase = Fresh }

abbrev pub memory_of : Device → List ℕ → ℕ → ℕ → List RigCall → ℕ → Plan → Option (List ℕ) → ℕ → ℕ
    → List PastStep → MemoryData
memory_of device journal line_failures journal_failures calls room plan first begun start past =
    record {
      device = device;
      journal = journal;
      line_failures = line_failures;
      journal_failures = journal_failures;
      calls = calls;
      room = room;
      plan = plan;
      first = first_device first device;
      begun = begun;
      start = start;
      past = past;
    }

-- with no stop and no failure ahead
abbrev pub no_plan : Plan
no_plan = record { stop = Never; put_fails = 0; get_fails = 0; append_fails = 0 }

-- a fresh device with this flash and this journal, and no call yet
abbrev pub fresh_memory : ChipData → List ℕ → List ℕ → MemoryData
fresh_memory chip flash journal =
    record {
      device = device_of chip flash [] [] StageFresh;
      journal = journal;
      line_failures = 0;
      journal_failures = 0;
      calls = [];
      room = 0;
      plan = no_plan;
      first = device_of chip flash [] [] StageFresh;
      begun = length journal;
      start = 0;
      past = [];
    }

-- from now on its past begins here
abbrev pub begins_anew : Device → MemoryData → MemoryData
begins_anew d m =
    record m { device = d; first = d; begun = length m.journal; start = length m.calls; past = [] }

-- so many steps more would run into the stop: a call that does them is stopped
abbrev pub runs_into_stop : ℕ → Stop → Bool
runs_into_stop steps Never = false
runs_into_stop steps (After left) = nat_lt left steps
runs_into_stop steps Fallen = true

abbrev pub after_steps : ℕ → Stop → Stop
after_steps steps Never = Never
after_steps steps (After left) = After (left - steps)
after_steps steps Fallen = Fallen

-- how many steps are done before the stop
abbrev pub steps_left : Stop → ℕ
steps_left Never = 0
steps_left (After left) = left
steps_left Fallen = 0

-- the stop fell
abbrev pub stopped : MemoryData → MemoryData
stopped m = record m { plan = record m.plan { stop = Fallen } }

-- so many steps were done
abbrev pub takes_steps : ℕ → MemoryData → MemoryData
takes_steps steps m = record m { plan = record m.plan { stop = after_steps steps m.plan.stop } }

-- a call of this kind came nearer to the one that is to fail: the call at which the count is 1
abbrev pub counts_put : MemoryData → MemoryData
counts_put m = record m { plan = record m.plan { put_fails = m.plan.put_fails - 1 } }

abbrev pub counts_get : MemoryData → MemoryData
counts_get m = record m { plan = record m.plan { get_fails = m.plan.get_fails - 1 } }

abbrev pub counts_append : MemoryData → MemoryData
counts_append m = record m { plan = record m.plan { append_fails = m.plan.append_fails - 1 } }

-- one failure more, as long as the count can rise
abbrev pub count_more : ℕ → ℕ
count_more count = min (count + 1) (2 ^ 64 - 1)

abbrev pub counts_line : MemoryData → MemoryData
counts_line m = record m { line_failures = count_more m.line_failures }

abbrev pub counts_journal : MemoryData → MemoryData
counts_journal m = record m { journal_failures = count_more m.journal_failures }

-- the same with one call more, after which the device is this
abbrev pub with_call : RigCall → PastStep → Device → MemoryData → MemoryData
with_call call s device m =
    record m {
      device = device;
      calls = m.calls ++ call ∷ [];
      room = m.room - 1;
      past = m.past ++ s ∷ [];
    }

-- the same with one append more, which added these bytes
abbrev pub with_append : List ℕ → MemoryData → MemoryData
with_append bytes m =
    record m {
      journal = m.journal ++ bytes;
      calls = m.calls ++ Append (length bytes) ∷ [];
      room = m.room - 1;
      past = m.past ++ Added (length bytes) ∷ [];
    }

-- a call that did nothing stands in the record; or there was no room, and no memory, for its entry
abbrev pub Fails : RigCall → MemoryData → MemoryData → Type 0
Fails call old new =
    (new ≡ with_call call Nothing old.device old) ⊎ ((new ≡ old) × (old.room ≡ 0))

-- A put is one step. It fails where one is to fail, or where memory is refused.
abbrev pub PutsInMemory : ℕ → Result (Unit {0}) RigFault → MemoryData → MemoryData → Type 0
PutsInMemory byte (Ok done) old new =
    (runs_into_stop 1 old.plan.stop ≡ false) × (old.plan.put_fails ≡ 1 → ⊥)
    × (new
    ≡ with_call (Put byte) (Fed byte) (simulated_device byte old.device)
    (takes_steps 1 (counts_put old)))
PutsInMemory byte (Err Stopped) old new =
    (runs_into_stop 1 old.plan.stop ≡ true) × Fails (Put byte) (counts_line (stopped old)) new
PutsInMemory byte (Err Line) old new =
    (runs_into_stop 1 old.plan.stop ≡ false) × Fails (Put byte) (counts_line (counts_put old)) new
PutsInMemory byte (Err File) old new = ⊥

-- nothing was owed, or the first byte owed was taken
abbrev pub GetsFrom : Option ℕ → MemoryData → MemoryData → Type 0
GetsFrom None old new = (old.device.owed ≡ []) × (new ≡ with_call (Get None) Nothing old.device old)
GetsFrom (Some byte) old new =
    (rest : List ℕ) × (old.device.owed ≡ byte ∷ rest)
    × (new ≡ with_call (Get (Some byte)) Taken (record old.device { owed = rest }) old)

-- a get is one step where a byte is owed
abbrev pub steps_of_get : MemoryData → ℕ
steps_of_get m = min 1 (length m.device.owed)

abbrev pub GetsInMemory : Result (Option ℕ) RigFault → MemoryData → MemoryData → Type 0
GetsInMemory (Ok None) old new =
    (runs_into_stop 0 old.plan.stop ≡ false) × (old.plan.get_fails ≡ 1 → ⊥) × (old.device.owed ≡ [])
    × (new ≡ with_call (Get None) Nothing old.device (counts_get old))
GetsInMemory (Ok (Some byte)) old new =
    (runs_into_stop 1 old.plan.stop ≡ false) × (old.plan.get_fails ≡ 1 → ⊥)
    × ((rest : List ℕ) × (old.device.owed ≡ byte ∷ rest)
    × (new
    ≡ with_call (Get (Some byte)) Taken (record old.device { owed = rest })
    (takes_steps 1 (counts_get old))))
GetsInMemory (Err Stopped) old new =
    (runs_into_stop (steps_of_get old) old.plan.stop ≡ true)
    × Fails (Get None) (counts_line (stopped old)) new
GetsInMemory (Err Line) old new =
    (runs_into_stop (steps_of_get old) old.plan.stop ≡ false)
    × Fails (Get None) (counts_line (counts_get old)) new
GetsInMemory (Err File) old new = ⊥

-- An append is a step a byte. One that runs into the stop adds the bytes before it, where there is
-- memory for these and for its entry, or else nothing. Its entry tells how many it added.
abbrev pub AppendsInMemory : List ℕ → Result (Unit {0}) RigFault → MemoryData → MemoryData → Type 0
AppendsInMemory bytes (Ok done) old new =
    (runs_into_stop (length bytes) old.plan.stop ≡ false) × (old.plan.append_fails ≡ 1 → ⊥)
    × (new ≡ with_append bytes (takes_steps (length bytes) (counts_append old)))
AppendsInMemory bytes (Err Stopped) old new =
    (runs_into_stop (length bytes) old.plan.stop ≡ true)
    × ((new
    ≡ with_append (take (steps_left old.plan.stop) bytes) (counts_journal (stopped old)))
    ⊎ Fails (Append 0) (counts_journal (stopped old)) new)
AppendsInMemory bytes (Err File) old new =
    (runs_into_stop (length bytes) old.plan.stop ≡ false)
    × Fails (Append 0) (counts_journal (counts_append old)) new
AppendsInMemory bytes (Err Line) old new = ⊥

-- the journal stays within its limit, where bytes were added
abbrev pub StaysWithin : Result (Unit {0}) RigFault → List ℕ → Type 0
StaysWithin result journal =
    MatchResult result (λ done. length journal ≤ 2 ^ 63 - 1)
    (λ fault. fault ≡ Stopped → length journal ≤ 2 ^ 63 - 1)

-- a fetch is no step
abbrev pub FetchesInMemory : ℕ → List ℕ → List ℕ → Result ℕ RigFault → MemoryData → MemoryData
    → Type 0
FetchesInMemory at before after (Ok n) old new =
    (runs_into_stop 0 old.plan.stop ≡ false) × (n ≡ min (length before) (length old.journal - at))
    × (after ≡ take n (drop at old.journal) ++ drop n before)
    × (new ≡ with_call Fetch Nothing old.device old)
FetchesInMemory at before after (Err Stopped) old new =
    (runs_into_stop 0 old.plan.stop ≡ true) × Fails Fetch (counts_journal (stopped old)) new
FetchesInMemory at before after (Err File) old new =
    (runs_into_stop 0 old.plan.stop ≡ false) × Fails Fetch (counts_journal old) new
FetchesInMemory at before after (Err Line) old new = ⊥
