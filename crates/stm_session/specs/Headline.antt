-- The headline: any list of calls, stops, resets and losses of power, from any
-- state that can be undone.
use Rattle.std.specs.Prelude.{◌≡◌, ℕ, ◌+◌, ◌-◌, false, List, [], ◌∷◌, ◌++◌, length, take, drop}
use Rattle.std.specs.Prelude.{reverse, Ok, Err}
use Rattle.stm_image.specs.Lay.{lay}
use Rattle.stm_image.specs.Pairs.{Pairs}
use Rattle.stm_wire.specs.Chip.{ChipData}
use Rattle.stm_wire.specs.Rig.{RigState}
use Rattle.stm_chip.specs.Document.{IsChipWith}
use Rattle.stm_session.specs.Events.{World, Event, Happening, AllLead, Leads, end_of, ran}
use Rattle.stm_session.specs.Events.{run_stopped, informed, info_stopped, identified}
use Rattle.stm_session.specs.Events.{identify_stopped, undid, undo_stopped}
use Rattle.stm_session.specs.Events.{left_refused, refusal_stopped, unprotected, unprotect_stopped}
use Rattle.stm_session.specs.Events.{kept, was_reset, lost_owed, lost_power}
use Rattle.stm_session.specs.Fault.{IsOutsideFault}
use Rattle.stm_session.specs.Moments.{SameMake}
use Rattle.stm_session.specs.Undoable.{Undoable, is_unfinished_at}
use Rattle.stm_session.specs.Meaning.{CommandData, writes, flash_after_all, flashes_before}
use Rattle.stm_session.specs.Meaning.{changes_of}
use Rattle.stm_session.specs.Answers.{OutcomeData, agreeing}
use Rattle.stm_session.specs.Lines.{depth_at}
use Rattle.stm_session.specs.Undoes.{taken_count, flash_undone}

-- the commands of a run that can begin: those before the first verify that doesn't agree
abbrev pub standing_in : World → List CommandData → List CommandData
standing_in w commands = agreeing w.device.chip w.device.flash commands

-- by how many segments the journal grew, and by how many it shrank
abbrev pub grown : World → World → ℕ
grown w w2 = depth_at w2.journal - depth_at w.journal

-- the flashes at the starts of the segments on the stack, the newest first, behind a run: it adds
-- those before the commands whose segments it began
abbrev pub starts_of_run : List CommandData → World → World → List (List ℕ) → List (List ℕ)
starts_of_run commands w w2 starts =
    reverse
    (take (grown w w2) (flashes_before w.device.chip w.device.flash (standing_in w commands)))
    ++ starts

-- the same behind any event: a run adds some, an undo drops as many as leave the stack, and giving
-- up the way back drops all
abbrev pub starts_after : {R : Type 0} → Event R → World → World → List (List ℕ) → List (List ℕ)
starts_after (ran table commands old new result) w w2 starts = starts_of_run commands w w2 starts
starts_after (run_stopped table commands old new result) w w2 starts =
    starts_of_run commands w w2 starts
starts_after (undid table count old new result) w w2 starts = drop (grown w2 w) starts
starts_after (undo_stopped table count old new result) w w2 starts = drop (grown w2 w) starts
starts_after kept w w2 starts = []
starts_after _ w w2 starts = starts

-- a run that reports success leaves what the commands mean, each change as one ended segment
pub record RunHolds (commands : List CommandData) (w w2 : World) : Type 0 where
  pub flash : w2.device.flash ≡ flash_after_all w.device.chip w.device.flash commands
  pub finished : is_unfinished_at w2.journal ≡ false
  pub segments : depth_at w2.journal ≡ depth_at w.journal + length (changes_of commands)

-- an undo that reports success leaves the flash as it was before the commands that it undid
pub record UndoHolds (count n : ℕ) (w w2 : World) (starts : List (List ℕ)) : Type 0 where
  pub answer : n ≡ taken_count count (depth_at w.journal)
  pub segments : depth_at w2.journal + n ≡ depth_at w.journal
  pub finished : is_unfinished_at w2.journal ≡ false
  pub flash : w2.device.flash ≡ flash_undone n w.device.flash starts

-- where no segment is unfinished, the flash is that after the commands whose segments were begun
abbrev pub RunLeaves : List CommandData → World → World → Type 0
RunLeaves commands w w2 = is_unfinished_at w2.journal ≡ false
    → w2.device.flash ≡ flash_after_all w.device.chip w.device.flash
    (take (grown w w2) (changes_of (standing_in w commands)))

-- where no segment is unfinished, the flash is the one at the start of the oldest segment off the
-- stack; where none is off, it is as it was
abbrev pub UndoLeaves : World → World → List (List ℕ) → Type 0
UndoLeaves w w2 starts =
    is_unfinished_at w2.journal ≡ false
    → w2.device.flash ≡ flash_undone (grown w2 w) w.device.flash starts

-- the flash and the journal are as they were
abbrev pub LeavesAlone : World → World → Type 0
LeavesAlone w w2 = (w2.device.flash ≡ w.device.flash) × (w2.journal ≡ w.journal)

-- the flash stands as it is, and no segment is left
abbrev pub StandsAlone : World → World → Type 0
StandsAlone w w2 = (w2.device.flash ≡ w.device.flash) × (depth_at w2.journal ≡ 0)

-- What is promised of one event. An undo fails by the line, the journal or memory alone where the
-- table holds the device's chip.
abbrev pub Holds : {R : Type 0} → Event R → World → World → List (List ℕ) → Type 0
Holds (ran table commands old new (Ok outcomes)) w w2 starts = RunHolds commands w w2
Holds (ran table commands old new (Err e)) w w2 starts = RunLeaves commands w w2
Holds (run_stopped table commands old new result) w w2 starts = RunLeaves commands w w2
Holds (informed table old new result) w w2 starts = LeavesAlone w w2
Holds (info_stopped table old new result) w w2 starts = LeavesAlone w w2
Holds (identified old new result) w w2 starts = LeavesAlone w w2
Holds (identify_stopped old new result) w w2 starts = LeavesAlone w w2
Holds (undid table count old new (Ok n)) w w2 starts = UndoHolds count n w w2 starts
Holds (undid table count old new (Err e)) w w2 starts =
    (IsChipWith table w.device.chip.id w.device.chip → IsOutsideFault e) × UndoLeaves w w2 starts
Holds (undo_stopped table count old new result) w w2 starts = UndoLeaves w w2 starts
Holds (left_refused refusal old new result) w w2 starts = LeavesAlone w w2
Holds (refusal_stopped refusal old new result) w w2 starts = LeavesAlone w w2
Holds (unprotected old new result) w w2 starts = LeavesAlone w w2
Holds (unprotect_stopped old new result) w w2 starts = LeavesAlone w w2
Holds kept w w2 starts = StandsAlone w w2
Holds was_reset w w2 starts = LeavesAlone w w2
Holds lost_owed w w2 starts = LeavesAlone w w2
Holds lost_power w w2 starts = is_unfinished_at w.journal ≡ false → LeavesAlone w w2

-- each event holds what is promised of it, and wherever the history ends what
-- was begun can be undone
abbrev pub AllHold : {R : Type 0} → List (Happening R) → World → List (List ℕ) → Type 0
AllHold [] w starts = Undoable starts w.device w.journal
AllHold (x ∷ history) w starts =
    Undoable starts w.device w.journal × Holds x.event w x.after starts
    × AllHold history x.after (starts_after x.event w x.after starts)

-- a session begins wherever what was begun before can be undone to these flashes
abbrev pub IsStart : List (List ℕ) → World → Type 0
IsStart starts w = Undoable starts w.device w.journal

-- The headline: whatever calls, stops, resets and losses of power follow.
abbrev pub Headline : {R : Type 0} → (R → RigState) → Type 0
Headline {R} view =
    (history : List (Happening R)) (start : World) (starts : List (List ℕ)) → IsStart starts start
    → AllLead view history start
    → AllHold history start starts

-- the Rig of a call is honest afterwards, so that another call can begin on it
abbrev pub IsHonestAfter : {R : Type 0} → (R → RigState) → Event R → Type 0
IsHonestAfter view (ran table commands old new result) = (view new).is_honest
IsHonestAfter view (run_stopped table commands old new result) = (view new).is_honest
IsHonestAfter view (informed table old new result) = (view new).is_honest
IsHonestAfter view (info_stopped table old new result) = (view new).is_honest
IsHonestAfter view (identified old new result) = (view new).is_honest
IsHonestAfter view (identify_stopped old new result) = (view new).is_honest
IsHonestAfter view (undid table count old new result) = (view new).is_honest
IsHonestAfter view (undo_stopped table count old new result) = (view new).is_honest
IsHonestAfter view (left_refused refusal old new result) = (view new).is_honest
IsHonestAfter view (refusal_stopped refusal old new result) = (view new).is_honest
IsHonestAfter view (unprotected old new result) = (view new).is_honest
IsHonestAfter view (unprotect_stopped old new result) = (view new).is_honest
IsHonestAfter view kept = Unit {0}
IsHonestAfter view was_reset = Unit {0}
IsHonestAfter view lost_owed = Unit {0}
IsHonestAfter view lost_power = Unit {0}

-- Another event can follow: the device is of the same make, so that a table that knew it does, and
-- the Rig of a call is honest.
pub record CanFollow {R : Type 0} (view : R → RigState) (event : Event R)
    (w w2 : World) : Type 0 where
  pub make : SameMake w.device w2.device
  pub honest : IsHonestAfter view event

-- whatever event happens where all that was begun can be taken back, another can follow it
abbrev pub EachCanFollow : {R : Type 0} → (R → RigState) → Type 0
EachCanFollow {R} view =
    (event : Event R) (starts : List (List ℕ)) (w w2 : World) → IsStart starts w
    → Leads view event w w2 → CanFollow view event w w2

-- The flash to which an undo of everything leads, while the way back isn't given up: that at the
-- start of the oldest segment when the session began. If there was none, it is the flash as the
-- session found it.
abbrev pub oldest_start : List (List ℕ) → World → List ℕ
oldest_start starts start = flash_undone (length starts) start.device.flash starts

-- that flash after one event: where the way back is given up, the flash as it is then, and else
-- the same as before
abbrev pub oldest_after : {R : Type 0} → Event R → World → List ℕ → List ℕ
oldest_after kept w2 flash = w2.device.flash
oldest_after _ w2 flash = flash

-- that flash after a whole history, from event to event
abbrev pub oldest_of : {R : Type 0} → List (Happening R) → List ℕ → List ℕ
oldest_of [] flash = flash
oldest_of (x ∷ history) flash = oldest_of history (oldest_after x.event x.after flash)

-- In short: whatever calls, stops, resets and losses of power came before, an undo of everything
-- that reports success leaves every byte of the flash as it was at the start of the oldest segment,
-- which is when the session began, or when the way back was last given up; and no segment.
abbrev pub AllIsUndone : {R : Type 0} → (R → RigState) → Type 0
AllIsUndone {R} view =
    (history : List (Happening R)) (start : World) (starts : List (List ℕ)) → IsStart starts start
    → AllLead view history start
    → (table : List ChipData) (old new : R) (n : ℕ) (w2 : World)
    → Leads view (undid table 0 old new (Ok n)) (end_of history start) w2
    → (w2.device.flash ≡ oldest_of history (oldest_start starts start)) × (depth_at w2.journal ≡ 0)

-- And a write that reports success leaves the image in its places and every other byte as it was.
abbrev pub WritesWhole : {R : Type 0} → (R → RigState) → Type 0
WritesWhole {R} view =
    (history : List (Happening R)) (start : World) (starts : List (List ℕ)) → IsStart starts start
    → AllLead view history start
    → (table : List ChipData) (image : Pairs) (old new : R)
    (outcomes : List OutcomeData) (w2 : World)
    → Leads view (ran table (writes image ∷ []) old new (Ok outcomes)) (end_of history start) w2
    → w2.device.flash
    ≡ lay image (end_of history start).device.chip.base (end_of history start).device.flash
