-- Which frames may be sent while pages may be weak, and that each page that may be weak is at work.
use Rattle.std.specs.Prelude.{◌≡◌, ℕ, ◌+◌, ◌≤◌, Bool, List, [], ◌∷◌, length, map, Contains}
use Rattle.std.specs.Prelude.{Option, Some}
use Rattle.stm_wire.specs.declared.intent.Intent.{Intent}
use Rattle.stm_wire.specs.declared.intent.Intent.TheVariants.{Erase, Program}
use Rattle.stm_wire.specs.declared.places.UniquePlace.{UniquePlace}
use Rattle.stm_wire.specs.Chip.{ChipData, page_size}
use Rattle.stm_wire.specs.Dialogue.{Turn}
use Rattle.stm_wire.specs.Frames.{erase_turns, get_id_turns, get_turns, read_turns, write_turns}
use Rattle.stm_wire.specs.Refused.{IsRefusedRead}
use Rattle.stm_wire.specs.Rig.{RigState}
use Rattle.stm_journal.specs.States.{intent_of, keeps, newest_has}
use Rattle.stm_session.specs.declared.fault.Fault.{Fault}
use Rattle.stm_session.specs.Order.{Adds, Sends, page_address}
use Rattle.stm_session.specs.Reaching.{StepsOf, confirmed_at}
use Rattle.stm_session.specs.UndoOrder.{UndoDoes, UndoDoesInPart}
use Rattle.stm_session.specs.Work.{pages_at_work, pages_of_intent}
use Rattle.stm_weak.specs.Weak.{WeakEvent, does, settles, breaks, NoneIs, intent_after, weak_after}
use Rattle.stm_weak.specs.Weak.{weak_behind}

-- A frame that asks which commands a device has, or what it is, or for its unique id, which may be
-- refused. Or it reads, where no page may be weak. Or it changes the page of the intent.
pub data MayPutBelieving (chip : ChipData) (Weak : ℕ → Type 0) (intent : Option Intent)
    (turns : List Turn) : Type 0 where
  asks : (version : ℕ) (codes : List ℕ) → turns ≡ get_turns version codes
      → MayPutBelieving chip Weak intent turns
  names : (high low : ℕ) → turns ≡ get_id_turns high low → MayPutBelieving chip Weak intent turns
  confirms : (place : UniquePlace) (answer : List ℕ) → confirmed_at chip ≡ Some place
      → turns ≡ read_turns place.address answer → MayPutBelieving chip Weak intent turns
  refused : (place : UniquePlace) (frame : List ℕ) → confirmed_at chip ≡ Some place
      → IsRefusedRead place.address place.length frame turns → MayPutBelieving chip Weak intent turns
  reads : (address : ℕ) (answer : List ℕ) → NoneIs Weak → turns ≡ read_turns address answer
      → MayPutBelieving chip Weak intent turns
  erases : (n : ℕ) → intent ≡ Some (Erase n) → turns ≡ erase_turns chip.kind n
      → MayPutBelieving chip Weak intent turns
  writes : (n offset : ℕ) (bytes : List ℕ) → intent ≡ Some (Program n) → 1 ≤ length bytes
      → offset + length bytes ≤ page_size chip n
      → turns ≡ write_turns (page_address chip n + offset) bytes → MayPutBelieving chip Weak intent turns

-- an event that may come while these pages may be weak, under the intent of the lines so far
abbrev pub MayCome : ChipData → (ℕ → Type 0) → Option Intent → WeakEvent → Type 0
MayCome chip Weak intent (settles own) = own ≡ intent
MayCome chip Weak intent (does (Adds entries)) = Unit {0}
MayCome chip Weak intent (does (Sends turns)) = MayPutBelieving chip Weak intent turns
MayCome chip Weak intent (breaks turns) = MayPutBelieving chip Weak intent turns

-- Each page that may be weak is at work: it is the page of the intent, or page 257 beside page 1,
-- where both are at work.
abbrev pub AreAtWork : Bool → (ℕ → Type 0) → Option Intent → Type 0
AreAtWork both Weak intent = (n : ℕ) → Weak n → Contains (pages_of_intent intent both) n

-- No page is believed that may be weak: each event may come behind those before it, and behind
-- each of them the pages that may be weak are at work.
abbrev pub NoneBelieved : ChipData → Bool → (ℕ → Type 0) → Option Intent → List WeakEvent → Type 0
NoneBelieved chip both Weak intent [] = Unit {0}
NoneBelieved chip both Weak intent (event ∷ events) =
    MayCome chip Weak intent event
    × AreAtWork both (weak_after chip Weak event) (intent_after intent event)
    × NoneBelieved chip both (weak_after chip Weak event) (intent_after intent event) events

-- Of an undo: each page at work may be weak when it begins. It believes none of them.
abbrev pub BelievesNone : StepsOf
BelievesNone chip s steps =
    NoneBelieved chip (newest_has (λ segment. keeps segment 257) s.stack)
    (λ n. Contains (pages_at_work s.stack) n) (intent_of s) (map (λ step. does step) steps)

-- and behind it no page may be weak
abbrev pub HealsAll : StepsOf
HealsAll chip s steps = BelievesNone chip s steps
    × NoneIs (λ n. weak_behind chip (λ m. Contains (pages_at_work s.stack) m)
    (map (λ step. does step) steps) n)

-- an undo, at Ok
abbrev pub UndoHeals : List ChipData → RigState → RigState → Type 0
UndoHeals table old new = UndoDoes HealsAll table old new

-- and at a fault: of all that was done, and of what failed
abbrev pub UndoStopsHealing : List ChipData → RigState → RigState → Fault → Type 0
UndoStopsHealing table old new fault = UndoDoesInPart BelievesNone table old new fault
