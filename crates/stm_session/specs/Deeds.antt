-- What a session does on purpose, deed by deed: its step, its line, what it makes of the journal's
-- state and of the flash, and when it may be done.
use Rattle.std.specs.Prelude.{◌≡◌, ℕ, ◌+◌, ◌<◌, List, [], ◌∷◌, length, take, drop, map, flat_map, fold}
use Rattle.std.specs.Prelude.{IsTrue, Result}
use Rattle.std.specs.Borrow.{Bor}
use Rattle.hex.specs.Hex.{IsBytes}
use Rattle.stm_wire.specs.declared.intent.Intent.TheVariants.{Erase, Program}
use Rattle.stm_wire.specs.Chip.{ChipData, IsErasedAt, erased_page, page_count, page_of}
use Rattle.stm_wire.specs.Chip.{page_offset, page_size, with_bytes, with_page}
use Rattle.stm_wire.specs.Frames.{erase_turns}
use Rattle.stm_wire.specs.Rig.{RigState}
use Rattle.stm_chip.specs.declared.plan.Frame.{Frame}
use Rattle.stm_chip.specs.Plan.{IsFrameOfPlan}
use Rattle.stm_journal.specs.declared.entry.Entry.{Entry}
use Rattle.stm_journal.specs.declared.entry.Entry.TheVariants.{Keeps, Erases, Programs}
use Rattle.stm_journal.specs.Journals.{Loaded}
use Rattle.stm_journal.specs.Newest.{HasIntended, KeepsSame}
use Rattle.stm_journal.specs.States.{StateData, newest_is_open, newest_keeps, newest_may_keep}
use Rattle.stm_session.specs.declared.deed.Deed.{Deed}
use Rattle.stm_session.specs.declared.deed.Deed.TheVariants as deed
use Rattle.stm_session.specs.declared.fault.Fault.{Fault}
use Rattle.stm_session.specs.Changing.{HasSaved}
use Rattle.stm_session.specs.Order.{Step, Adds, Are, Sends, write_step}
use Rattle.stm_session.specs.Performs.{Performs}
use Rattle.stm_session.specs.Steps.{IsUnder}
use Rattle.stm_session.specs.Undoable.{has_companion}

-- its line, where it has one
abbrev pub lines_of_deed : Deed → List Entry
lines_of_deed (deed.Keep n held) = Keeps n held.now ∷ []
lines_of_deed (deed.IntendErase n) = Erases n ∷ []
lines_of_deed (deed.Erase n) = []
lines_of_deed (deed.IntendProgram n) = Programs n ∷ []
lines_of_deed (deed.Write n frame page) = []

abbrev pub step_of_deed : ChipData → Deed → Step
step_of_deed chip (deed.Keep n held) = Adds (Keeps n held.now ∷ [])
step_of_deed chip (deed.IntendErase n) = Adds (Erases n ∷ [])
step_of_deed chip (deed.Erase n) = Sends (erase_turns chip.kind n)
step_of_deed chip (deed.IntendProgram n) = Adds (Programs n ∷ [])
step_of_deed chip (deed.Write n frame page) = write_step chip n page.now frame

-- what it makes of the flash
abbrev pub flash_with : ChipData → List ℕ → Deed → List ℕ
flash_with chip flash (deed.Keep n held) = flash
flash_with chip flash (deed.IntendErase n) = flash
flash_with chip flash (deed.Erase n) = with_page chip n (erased_page chip n) flash
flash_with chip flash (deed.IntendProgram n) = flash
flash_with chip flash (deed.Write n frame page) =
    with_bytes (page_offset chip n + frame.offset) (take frame.length (drop frame.offset page.now))
    flash

-- and of the journal's state
abbrev pub HasDone : Deed → StateData → StateData → Type 0
HasDone (deed.Keep n held) s s2 = HasSaved n s s2
HasDone (deed.IntendErase n) s s2 = HasIntended n (Erase n) s s2
HasDone (deed.Erase n) s s2 = s2 ≡ s
HasDone (deed.IntendProgram n) s s2 = HasIntended n (Program n) s s2
HasDone (deed.Write n frame page) s s2 = s2 ≡ s

abbrev pub HasDoneAll : List Deed → StateData → StateData → Type 0
HasDoneAll [] s s2 = s2 ≡ s
HasDoneAll (d ∷ deeds) s s2 = (between : StateData) × HasDone d s between
    × HasDoneAll deeds between s2

-- it may come next: a page may be kept, with its companion before it; an intent is on a page that is
-- kept, and what is erased or written is under one
abbrev pub MayDo : ChipData → Deed → StateData → Type 0
MayDo chip (deed.Keep n held) s = (n < page_count chip) × (length held.now ≡ page_size chip n)
    × IsBytes held.now × IsTrue (newest_may_keep n s)
    × (n ≡ 1 → IsTrue (has_companion chip) → IsTrue (newest_keeps 257 s))
MayDo chip (deed.IntendErase n) s = (n < page_count chip) × IsTrue (newest_keeps n s)
MayDo chip (deed.Erase n) s = (n < page_count chip) × IsUnder n (Erase n) s
MayDo chip (deed.IntendProgram n) s = (n < page_count chip) × IsTrue (newest_keeps n s)
MayDo chip (deed.Write n frame page) s = (n < page_count chip)
    × (length page.now ≡ page_size chip n) × IsFrameOfPlan 0 (length page.now) frame
    × IsUnder n (Program n) s

abbrev pub MayDoAll : ChipData → List Deed → StateData → Type 0
MayDoAll chip [] s = Unit {0}
MayDoAll chip (d ∷ deeds) s = MayDo chip d s
    × ((s2 : StateData) → HasDone d s s2 → MayDoAll chip deeds s2)

-- what it needs of the flash: what is kept is what the page holds, and a place that is written is
-- erased
abbrev pub Suits : ChipData → List ℕ → Deed → Type 0
Suits chip flash (deed.Keep n held) = held.now ≡ page_of chip flash n
Suits chip flash (deed.IntendErase n) = Unit {0}
Suits chip flash (deed.Erase n) = Unit {0}
Suits chip flash (deed.IntendProgram n) = Unit {0}
Suits chip flash (deed.Write n frame page) =
    IsErasedAt chip (page_offset chip n + frame.offset) frame.length flash

abbrev pub AllSuit : ChipData → List ℕ → List Deed → Type 0
AllSuit chip flash [] = Unit {0}
AllSuit chip flash (d ∷ deeds) = Suits chip flash d × AllSuit chip (flash_with chip flash d) deeds

-- Deeds are their steps, and add their lines; where they suit the flash, it becomes what they make.
abbrev pub DoesDeeds : {T : Type 0} → ChipData → List Deed → Loaded → Loaded → RigState → RigState
    → Result T Fault → Type 0
DoesDeeds chip deeds l l2 old new result =
    Performs (Are (map (step_of_deed chip) deeds)) (flat_map lines_of_deed deeds)
    ((old.device.chip ≡ chip) × AllSuit chip old.device.flash deeds)
    (λ _. new.device.flash ≡ fold (flash_with chip) old.device.flash deeds) l l2 old new result

-- Plans:

-- these frames of a page's new bytes are written
abbrev pub write_deeds : ℕ → Bor (List ℕ) → List Frame → List Deed
write_deeds n page frames = map (λ frame. deed.Write n frame page) frames

-- a page that is kept is erased, and where there are frames written, each under its intent
abbrev pub rewrite_deeds : ℕ → Bor (List ℕ) → List Frame → List Deed
rewrite_deeds n page [] = deed.IntendErase n ∷ deed.Erase n ∷ []
rewrite_deeds n page (f ∷ frames) = deed.IntendErase n ∷ deed.Erase n ∷ deed.IntendProgram n
    ∷ write_deeds n page (f ∷ frames)

-- Such deeds were done, and then the lines of a rewrite were added: the newest segment keeps what it
-- kept behind them.
pub record IsRewrittenBehind (first : List Deed) (old new : StateData) : Type 0 where
  pub between : StateData
  pub done : HasDoneAll first old between
  pub same : KeepsSame between new
  pub is_open : newest_is_open new ≡ newest_is_open between
