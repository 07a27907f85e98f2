-- A greeting ahead of an undo: a line of the journal, and then 7F once.
use Rattle.std.specs.Prelude.{◌≡◌, ◌⊎◌, ℕ, ◌==◌, Bool, true, false, not, ◌&&◌, is_some, List, [], ◌∷◌}
use Rattle.std.specs.Prelude.{◌++◌, take, Option, None, Some, option_map, Result, IfErr}
use Rattle.stm_wire.specs.declared.chip.EraseKind.{EraseKind}
use Rattle.stm_wire.specs.declared.chip.EraseKind.TheVariants.{Extended, Page}
use Rattle.stm_wire.specs.Call.{Call, Append}
use Rattle.stm_wire.specs.Chip.{ChipData}
use Rattle.stm_wire.specs.declared.intent.Intent.{Intent}
use Rattle.stm_wire.specs.declared.intent.Intent.TheVariants.{Erase, Program}
use Rattle.stm_wire.specs.Device.{Device, Fresh, IsDevice, IsSettled, LosesOwed}
use Rattle.stm_wire.specs.Greeting.{MayBeGreeted}
use Rattle.stm_wire.specs.Harmless.{SameOutside}
use Rattle.stm_wire.specs.Intents.{settling_byte}
use Rattle.stm_wire.specs.Moments.{LeavesOnly, PartlyFed}
use Rattle.stm_wire.specs.Rig.{RigState}
use Rattle.stm_wire.specs.Stopped.{IsFrameUnder}
use Rattle.stm_wire.specs.Settling.{PutsAll, PutsPart}
use Rattle.stm_journal.specs.Calls.{AppendsInPart, AreFetches}
use Rattle.stm_journal.specs.Greetings.{greeting_line, may_greet}
use Rattle.stm_journal.specs.GreetingCalls.{allows_greeting}
use Rattle.stm_journal.specs.Journals.{Loaded, journal_of}
use Rattle.stm_journal.specs.States.{StateData, intent_of}
use Rattle.stm_session.specs.declared.fault.Fault.{Fault}
use Rattle.stm_session.specs.declared.greeting.Greeting.{Greeting}
use Rattle.stm_session.specs.declared.greeting.Greeting.TheVariants as greeting
use Rattle.stm_session.specs.Fault.{IsOutsideFault}
use Rattle.stm_session.specs.Fresh.{IsReset}
use Rattle.stm_session.specs.Moments.{SameMake}
use Rattle.stm_session.specs.Refusal.{chip_with}
use Rattle.stm_session.specs.Unasked.{asking_refusal}
use Rattle.stm_session.specs.Undoable.{Undoable, state_at}
use Rattle.stm_session.specs.Undoes.{risked_at}

-- Behind 80 once a device that lists a command 80 takes its complement, which 7F is, for a whole one.
abbrev pub is_doubtful : Option Intent → Bool
is_doubtful intent = settling_byte intent == 0x80

-- The journal has an intent, under which no 80 was sent, and a greeting may come: its last line isn't
-- one, and is whole.
abbrev pub wants_greeting : List ℕ → Bool
wants_greeting journal = let intent = intent_of (state_at journal) in
    is_some intent && (not (is_doubtful intent) && may_greet journal)

-- the intent is an erase
abbrev pub is_erase : Option Intent → Bool
is_erase None = false
is_erase (Some (Program page)) = false
is_erase (Some (Erase page)) = true

-- the pages of a chip have numbers of two bytes
abbrev pub is_extended : EraseKind → Bool
is_extended Page = false
is_extended Extended = true

abbrev pub is_wide : Option ChipData → Bool
is_wide None = false
is_wide (Some chip) = is_extended chip.kind

abbrev pub lists_wide : List ChipData → Option ℕ → Bool
lists_wide table None = false
lists_wide table (Some id) = is_wide (chip_with table id)

-- An erase by the command 44 was begun. Behind its first two bytes a 7F makes a list of 65,000 bytes.
abbrev pub is_long_list : List ChipData → StateData → Bool
is_long_list table s =
    is_erase (intent_of s) && lists_wide table (option_map (λ header. header.id) s.header)

-- where such a greeting comes
abbrev pub greets : Greeting → List ChipData → List ℕ → Bool
greets greeting.Brief table journal =
    wants_greeting journal && not (is_long_list table (state_at journal))
greets greeting.Plain table journal = wants_greeting journal
greets greeting.Fresh table journal = is_some (intent_of (state_at journal))

-- the same of a journal in memory, whose chip is this
abbrev pub wants_loaded : Loaded → Bool
wants_loaded l = let intent = intent_of l.state in
    is_some intent && (not (is_doubtful intent) && allows_greeting l)

abbrev pub greets_loaded : Greeting → ChipData → Loaded → Bool
greets_loaded greeting.Brief chip l =
    wants_loaded l && not (is_erase (intent_of l.state) && is_extended chip.kind)
greets_loaded greeting.Plain chip l = wants_loaded l
greets_loaded greeting.Fresh chip l = is_some (intent_of l.state)

-- and where the journal wants one, one 7F ahead of the intent's byte harms no page but those at risk
abbrev pub IsGreetable : Device → List ℕ → Type 0
IsGreetable d journal = wants_greeting journal ≡ true
    → MayBeGreeted d (intent_of (state_at journal)) (risked_at journal)

-- what has to be so of a device for such a greeting: that it may come, or is fresh as is said
abbrev pub IsGreetableAs : Greeting → Device → List ℕ → Type 0
IsGreetableAs greeting.Brief d journal = IsGreetable d journal
IsGreetableAs greeting.Plain d journal = IsGreetable d journal
IsGreetableAs greeting.Fresh d journal = IsReset d

-- a device that such a greeting connects
abbrev pub IsConnectable : Greeting → Device → Type 0
IsConnectable greeting.Brief d = d.phase ≡ Fresh
IsConnectable greeting.Plain d = d.phase ≡ Fresh
IsConnectable greeting.Fresh d = IsReset d

-- so is one that is fresh from reset, or after a loss of power
abbrev pub FreshIsGreetable : Type 0
FreshIsGreetable =
    (d : Device) (journal : List ℕ) → IsDevice d → d.phase ≡ Fresh → IsGreetable d journal

-- it stays so where owed bytes are lost
abbrev pub LossIsGreetable : Type 0
LossIsGreetable = (old new : Device) (journal : List ℕ) → IsGreetable old journal
    → LosesOwed old new → IsGreetable new journal

-- and so is one that a session settled, wrote an intent down for, and was stopped at in a frame
abbrev pub StoppedIsGreetable : Type 0
StoppedIsGreetable = (flashes : List (List ℕ)) (old d : Device) (journal : List ℕ)
    (intent : Intent) (frame : List ℕ) → IsDevice old → IsSettled old → Undoable flashes old journal
    → intent_of (state_at journal) ≡ Some intent → IsFrameUnder old.chip (Some intent) frame
    → PartlyFed frame old d → IsGreetable d journal

-- On any line: the journal is read, and then come such calls.
pub record ReadsFirst (Then : List Call → Type 0) (calls : List Call) : Type 0 where
  pub fetches : List Call
  pub are_fetches : AreFetches fetches
  pub rest : List Call
  pub is : calls ≡ fetches ++ rest
  pub then : Then rest

-- the line is appended, and behind it comes what is said
abbrev pub WritesFirst : (List Call → Type 0) → List Call → Type 0
WritesFirst Says calls =
    (said : List Call) × (calls ≡ Append greeting_line ∷ said) × Says said

-- the line, and 7F once
abbrev pub GreetsOnce : List Call → Type 0
GreetsOnce = WritesFirst (PutsAll (0x7F ∷ []) 8196)

-- a part of the line; or all of it, and 7F once or not at all
abbrev pub GreetsInPart : List Call → Type 0
GreetsInPart calls =
    AppendsInPart greeting_line calls ⊎ WritesFirst (PutsPart (0x7F ∷ []) 8196) calls

-- of a device that is said to be fresh the line is left out where it can't come, or stands already
abbrev pub GreetsBy : Greeting → List Call → Type 0
GreetsBy greeting.Brief calls = GreetsOnce calls
GreetsBy greeting.Plain calls = GreetsOnce calls
GreetsBy greeting.Fresh calls = GreetsOnce calls ⊎ PutsAll (0x7F ∷ []) 8196 calls

abbrev pub GreetsInPartBy : Greeting → List Call → Type 0
GreetsInPartBy greeting.Brief calls = GreetsInPart calls
GreetsInPartBy greeting.Plain calls = GreetsInPart calls
GreetsInPartBy greeting.Fresh calls = GreetsInPart calls ⊎ PutsPart (0x7F ∷ []) 8196 calls

-- At a moment of a greeting: what could be undone still can, the device may be greeted where the
-- journal doesn't say that it was, its flash is the same outside the pages at risk, and a beginning
-- of the line is added.
pub record AmidGreeting (flashes : List (List ℕ)) (start : Device) (before : List ℕ) (d : Device)
    (journal : List ℕ) : Type 0 where
  pub undoable : Undoable flashes d journal
  pub greetable : IsGreetable d journal
  pub make : SameMake start d
  pub flash : SameOutside start.chip (risked_at before) start.flash d.flash
  pub written : ℕ
  pub lines : journal ≡ before ++ take written greeting_line

-- A greeting on an honest Rig, where what was begun can be undone.
pub record GreetsSafely (table : List ChipData) (flashes : List (List ℕ)) (old new : RigState)
    (result : Result Bool Fault) : Type 0 where
  pub moments : LeavesOnly (AmidGreeting flashes old.device old.journal) old new
  pub left : AmidGreeting flashes old.device old.journal new.device new.journal
  pub honest : new.is_honest
  pub fails : IfErr result (λ fault. IsOutsideFault fault
      ⊎ (asking_refusal (journal_of old.journal) table ≡ Some fault))
