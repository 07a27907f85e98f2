-- In which order a session sends frames and appends lines, on any line: at Ok all of it, at a fault
-- a beginning. Fetches are left out: they change nothing.
use Rattle.std.specs.Prelude.{◌≡◌, ◌≢◌, ℕ, zero, suc, ◌+◌, ◌*◌, ◌/◌, ◌<◌, Bool, true, false}
use Rattle.std.specs.Prelude.{if◌then◌else◌, List, [], ◌∷◌, ◌++◌, length, take, drop, map, bytes_eq}
use Rattle.std.specs.Prelude.{Option, Some, None, Result, IfErr}
use Rattle.stm_wire.specs.declared.fault.WireFault.{WireFault}
use Rattle.stm_wire.specs.declared.fault.WireFault.TheVariants.{Line}
use Rattle.stm_wire.specs.Call.{Call, Put, Get, Append, Fetch}
use Rattle.stm_wire.specs.Chip.{ChipData, erased_byte, page_offset, page_size}
use Rattle.stm_wire.specs.Dialogue.{Turn, GoesOn, IsBrokenOff, calls_of}
use Rattle.stm_wire.specs.Frames.{erase_turns, read_turns, write_turns}
use Rattle.stm_wire.specs.Rig.{RigState}
use Rattle.stm_chip.specs.declared.plan.Frame.{Frame}
use Rattle.stm_chip.specs.Plan.{frames_of}
use Rattle.stm_journal.specs.declared.entry.Entry.{Entry}
use Rattle.stm_journal.specs.declared.entry.Entry.TheVariants.{Erases, Programs}
use Rattle.stm_journal.specs.declared.kept.Kept.{Kept}
use Rattle.stm_journal.specs.Calls.{AppendsInPart}
use Rattle.stm_journal.specs.Journals.{Loaded, added_bytes}
use Rattle.stm_session.specs.declared.fault.Fault.{Fault}
use Rattle.stm_session.specs.Fault.{Cause, of_file, of_line, of_memory, of_protocol, of_refusal}
use Rattle.stm_session.specs.Fault.{of_session, cause_of}

-- What the host does on purpose: it appends lines, in one call; or it sends a frame, whose dialogue
-- is held to its end, with each acknowledgement and each byte of the reply.
pub data Step : Type 0 where
  Adds : List Entry → Step
  Sends : List Turn → Step

-- the calls but for fetches
abbrev pub acts_of : List Call → List Call
acts_of [] = []
acts_of (Put byte ∷ calls) = Put byte ∷ acts_of calls
acts_of (Get answer ∷ calls) = Get answer ∷ acts_of calls
acts_of (Append n ∷ calls) = Append n ∷ acts_of calls
acts_of (Fetch ∷ calls) = acts_of calls

-- the calls that steps are, where a torn tail stands at first or not: that is
-- ended with the next line
abbrev pub acts_of_steps : Bool → List Step → List Call
acts_of_steps torn [] = []
acts_of_steps torn (Adds entries ∷ steps) =
    Append (added_bytes torn entries) ∷ acts_of_steps false steps
acts_of_steps torn (Sends turns ∷ steps) = calls_of turns ++ acts_of_steps torn steps

-- a torn tail still stands behind the steps
abbrev pub torn_behind : Bool → List Step → Bool
torn_behind torn [] = torn
torn_behind torn (Adds entries ∷ steps) = torn_behind false steps
torn_behind torn (Sends turns ∷ steps) = torn_behind torn steps

-- the calls are just these steps
abbrev pub IsInOrder : Bool → List Step → List Call → Type 0
IsInOrder torn steps calls = acts_of calls ≡ acts_of_steps torn steps

-- These steps were done, and the journal in memory knows whether a torn tail stands behind them.
pub record DoesSteps (steps : List Step) (l l2 : Loaded) (old new : RigState) : Type 0 where
  pub acts : GoesOn (IsInOrder l.is_torn steps) old.calls new.calls
  pub torn : l2.is_torn ≡ torn_behind l.is_torn steps

-- some steps of which this holds were done
abbrev pub Follows : (List Step → Type 0) → Loaded → Loaded → RigState → RigState → Type 0
Follows P l l2 old new = (steps : List Step) × P steps × DoesSteps steps l l2 old new

-- At a fault:

-- the step that failed, if one did
abbrev pub step_in : Option Step → List Step
step_in None = []
step_in (Some step) = step ∷ []

-- The calls of a step that failed, by what the fault comes of: its frame's dialogue was broken
-- off, by the line, or by another byte than is due, a refusal or silence; or the file took its
-- lines only in part. Where something is refused, or memory fails, no step failed; nor where
-- the journal can't be read.
abbrev pub StepFailsBy : Cause → Bool → Option Step → List Call → Type 0
StepFailsBy of_line torn (Some (Sends turns)) calls = IsBrokenOff Line turns calls
StepFailsBy of_protocol torn (Some (Sends turns)) calls = (fault : WireFault) × (fault ≢ Line)
    × IsBrokenOff fault turns calls
StepFailsBy of_file torn (Some (Adds entries)) calls = AppendsInPart (added_bytes torn entries) calls
StepFailsBy of_file torn None calls = calls ≡ []
StepFailsBy of_memory torn None calls = calls ≡ []
StepFailsBy of_session torn None calls = calls ≡ []
StepFailsBy of_refusal torn None calls = calls ≡ []
StepFailsBy _ torn step calls = ⊥

-- Calls that end with a fault: some steps were done whole, and perhaps one more was begun, which
-- failed; all these are allowed.
pub record AreCutShort (Allowed : List Step → Type 0) (cause : Cause) (torn : Bool)
    (acts : List Call) : Type 0 where
  pub done : List Step
  pub failed : Option Step
  pub allowed : Allowed (done ++ step_in failed)
  pub last : List Call
  pub fails : StepFailsBy cause (torn_behind torn done) failed last
  pub is : acts ≡ acts_of_steps torn done ++ last

abbrev pub StopsBy : (List Step → Type 0) → Cause → Bool → RigState → RigState → Type 0
StopsBy Allowed cause torn old new =
    GoesOn (λ calls. AreCutShort Allowed cause torn (acts_of calls)) old.calls new.calls

-- where a fault is answered, it ends such steps
abbrev pub FaultEnds : {T : Type 0} → (List Step → Type 0) → Bool → RigState → RigState
    → Result T Fault → Type 0
FaultEnds Allowed torn old new result =
    IfErr result (λ fault. StopsBy Allowed (cause_of fault) torn old new)

-- just these steps
abbrev pub Are : List Step → List Step → Type 0
Are these steps = steps ≡ these

-- these steps, and then such
abbrev pub IsAfter : List Step → (List Step → Type 0) → List Step → Type 0
IsAfter these P steps = (own : List Step) × (steps ≡ these ++ own) × P own

-- steps that can go on to be such
abbrev pub Begin : (List Step → Type 0) → List Step → Type 0
Begin P steps = (rest : List Step) × P (steps ++ rest)

-- Frames and lines:

-- so many blocks of 256 bytes are read from an address on, rising, and these bytes come
abbrev pub read_steps : ℕ → ℕ → List ℕ → List Step
read_steps address zero bytes = []
read_steps address (suc blocks) bytes =
    read_steps address blocks bytes
    ++ Sends (read_turns (address + 256 * blocks) (take 256 (drop (256 * blocks) bytes))) ∷ []

-- one frame reads so many bytes, whatever comes
pub record IsReadOf (address count : ℕ) (steps : List Step) : Type 0 where
  pub answer : List ℕ
  pub size : length answer ≡ count
  pub is : steps ≡ Sends (read_turns address answer) ∷ []

-- and so do blocks
pub record AreReadsOf (address count : ℕ) (steps : List Step) : Type 0 where
  pub held : List ℕ
  pub size : length held ≡ count
  pub is : steps ≡ read_steps address (count / 256) held

-- a block was read, and these bytes came
pub record ReadsBlock (address count : ℕ) (answer : List ℕ) (old new : RigState) : Type 0 where
  pub size : length answer ≡ count
  pub sent : (torn : Bool)
      → GoesOn (IsInOrder torn (Sends (read_turns address answer) ∷ [])) old.calls new.calls

abbrev pub page_address : ChipData → ℕ → ℕ
page_address chip n = chip.base + page_offset chip n

-- a page is read whole, and holds these bytes
abbrev pub page_reads : ChipData → ℕ → List ℕ → List Step
page_reads chip n held = read_steps (page_address chip n) (page_size chip n / 256) held

-- these frames of a page's new bytes are written
abbrev pub write_step : ChipData → ℕ → List ℕ → Frame → Step
write_step chip n page f =
    Sends (write_turns (page_address chip n + f.offset) (take f.length (drop f.offset page)))

abbrev pub write_steps : ChipData → ℕ → List ℕ → List Frame → List Step
write_steps chip n page frames = map (write_step chip n page) frames

-- where there are any: the intent's line stands before them
abbrev pub program_steps : ChipData → ℕ → List ℕ → List Frame → List Step
program_steps chip n page [] = []
program_steps chip n page (f ∷ frames) =
    Adds (Programs n ∷ []) ∷ write_steps chip n page (f ∷ frames)

-- a page is erased, its intent's line first, and written
abbrev pub erase_steps : ChipData → ℕ → List Step
erase_steps chip n = Adds (Erases n ∷ []) ∷ Sends (erase_turns chip.kind n) ∷ []

abbrev pub rewrite_steps : ChipData → ℕ → List ℕ → List Frame → List Step
rewrite_steps chip n page frames = erase_steps chip n ++ program_steps chip n page frames

-- where it doesn't hold its new bytes already
abbrev pub give_back_steps : ChipData → ℕ → List ℕ → List ℕ → List Step
give_back_steps chip n held page =
    if bytes_eq held page then []
    else rewrite_steps chip n page (frames_of (erased_byte chip) page (length page / 256))

-- What the journal told on the way: behind these steps just the digits of these bytes.
abbrev pub Tells : Type 1
Tells = List Step → List ℕ → Type 0

-- as steps tell it that come behind others
abbrev pub tells_behind : List Step → Tells → Tells
tells_behind before Told steps page = Told (before ++ steps) page

-- nothing is said of what it told
abbrev pub untold : Tells
untold steps page = Unit {0}

-- what is said of it counts where fewer steps stand before it than these
abbrev pub so_far : ℕ → Tells → Tells
so_far count Told steps page = length steps < count → Told steps page

-- Steps that can go on to be such; the journal told each page of which they begin more than to
-- read it.
abbrev pub BeginTold : (Tells → List Step → Type 0) → Tells → List Step → Type 0
BeginTold P Told steps = Begin (P (so_far (length steps) Told)) steps

-- and then it may be read again: whole, and just the bytes that it was given come
abbrev pub return_steps : Bool → ChipData → ℕ → List ℕ → List ℕ → List Step
return_steps false chip n held page = give_back_steps chip n held page
return_steps true chip n held page = give_back_steps chip n held page ++ page_reads chip n page

-- a page is read, and given the bytes that the journal told behind that; and then it is read again,
-- where that is asked for
pub record IsGivenBack (again : Bool) (chip : ChipData) (Told : Tells) (n : ℕ)
    (steps : List Step) : Type 0 where
  pub held : List ℕ
  pub held_size : length held ≡ page_size chip n
  pub page : List ℕ
  pub size : length page ≡ page_size chip n
  pub told : Told (page_reads chip n held) page
  pub is : steps ≡ page_reads chip n held ++ return_steps again chip n held page

-- each of the pages, in the order of their lines
abbrev pub AreGivenBack : Bool → ChipData → Tells → List Kept → List Step → Type 0
AreGivenBack again chip Told [] steps = steps ≡ []
AreGivenBack again chip Told (kept ∷ pages) steps = (first : List Step) × (rest : List Step)
    × (steps ≡ first ++ rest) × IsGivenBack again chip Told kept.page first
    × AreGivenBack again chip (tells_behind first Told) pages rest

-- a page is given the bytes that the journal told first, unread
pub record IsRewritten (chip : ChipData) (Told : Tells) (n : ℕ) (steps : List Step) : Type 0 where
  pub page : List ℕ
  pub size : length page ≡ page_size chip n
  pub told : Told [] page
  pub is : steps ≡ rewrite_steps chip n page (frames_of (erased_byte chip) page (length page / 256))

-- and so is each of some, one after another
abbrev pub AreRewritten : ChipData → Tells → List ℕ → List Step → Type 0
AreRewritten chip Told [] steps = steps ≡ []
AreRewritten chip Told (n ∷ pages) steps = (first : List Step) × (rest : List Step)
    × (steps ≡ first ++ rest) × IsRewritten chip Told n first
    × AreRewritten chip (tells_behind first Told) pages rest
