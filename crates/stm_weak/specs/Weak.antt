-- Which pages of a device may be weak, by what befell it.
--
-- A page whose erase or write was cut by a loss of power may be weak: each read of it may answer
-- other bytes, also just those that it had, until it is erased whole. Where the power goes isn't
-- asked here. Each settling counts as one in which it went, and so does each frame that was broken
-- off, whose device may still be at work behind it. So more pages count as weak than are.
use Rattle.std.specs.Prelude.{◌≡◌, ◌≢◌, ◌⊎◌, ℕ, ◌+◌, ◌<◌, ◌≤◌, List, [], ◌∷◌, length, Contains}
use Rattle.std.specs.Prelude.{Option, Some, None}
use Rattle.stm_wire.specs.declared.intent.Intent.{Intent}
use Rattle.stm_wire.specs.declared.intent.Intent.TheVariants.{Erase, Program}
use Rattle.stm_wire.specs.Chip.{ChipData, page_count, page_size}
use Rattle.stm_wire.specs.Dialogue.{Turn}
use Rattle.stm_wire.specs.Frames.{erase_turns, write_turns}
use Rattle.stm_wire.specs.Intents.{intended_pages}
use Rattle.stm_journal.specs.declared.entry.Entry.{Entry}
use Rattle.stm_journal.specs.declared.entry.Entry.TheVariants.{Names, Opens, Keeps, Erases}
use Rattle.stm_journal.specs.declared.entry.Entry.TheVariants.{Programs, Ends, Undoes}
use Rattle.stm_session.specs.Order.{Step, Adds, Sends, page_address}

-- What befalls a device and its journal.
pub data WeakEvent : Type 0 where
  -- it was settled under this intent, or that was begun
  settles : Option Intent → WeakEvent
  -- a step was done whole: lines were appended, or each turn of a frame was held
  does : Step → WeakEvent
  -- a frame was begun and broken off
  breaks : List Turn → WeakEvent

-- a frame that erases page n, or writes into it
pub data ChangesPage (chip : ChipData) (n : ℕ) (turns : List Turn) : Type 0 where
  erases : turns ≡ erase_turns chip.kind n → ChangesPage chip n turns
  writes : (offset : ℕ) (bytes : List ℕ) → 1 ≤ length bytes
      → offset + length bytes ≤ page_size chip n
      → turns ≡ write_turns (page_address chip n + offset) bytes → ChangesPage chip n turns

-- Where these pages may be weak, those behind an event: each page that settling may change may be;
-- so may the page of a frame that was broken off; and a page that is erased whole is weak no more.
abbrev pub weak_after : ChipData → (ℕ → Type 0) → WeakEvent → ℕ → Type 0
weak_after chip Weak (settles intent) n =
    Weak n ⊎ ((n < page_count chip) × Contains (intended_pages intent) n)
weak_after chip Weak (does (Adds entries)) n = Weak n
weak_after chip Weak (does (Sends turns)) n = Weak n × (turns ≢ erase_turns chip.kind n)
weak_after chip Weak (breaks turns) n = Weak n ⊎ ChangesPage chip n turns

-- and behind events
abbrev pub weak_behind : ChipData → (ℕ → Type 0) → List WeakEvent → ℕ → Type 0
weak_behind chip Weak [] n = Weak n
weak_behind chip Weak (event ∷ events) n = weak_behind chip (weak_after chip Weak event) events n

-- no page is
abbrev pub NoneIs : (ℕ → Type 0) → Type 0
NoneIs Weak = (n : ℕ) → Weak n → ⊥

-- The intent of the journal's unfinished segment: behind a line,
abbrev pub intent_with : Option Intent → Entry → Option Intent
intent_with intent (Names version id unique) = intent
intent_with intent (Opens number) = None
intent_with intent (Keeps n bytes) = intent
intent_with intent (Erases n) = Some (Erase n)
intent_with intent (Programs n) = Some (Program n)
intent_with intent (Ends number) = None
intent_with intent (Undoes number) = None

-- behind lines,
abbrev pub intent_with_lines : Option Intent → List Entry → Option Intent
intent_with_lines intent [] = intent
intent_with_lines intent (entry ∷ entries) = intent_with_lines (intent_with intent entry) entries

-- behind an event,
abbrev pub intent_after : Option Intent → WeakEvent → Option Intent
intent_after intent (settles own) = intent
intent_after intent (does (Adds entries)) = intent_with_lines intent entries
intent_after intent (does (Sends turns)) = intent
intent_after intent (breaks turns) = intent

-- and behind events.
abbrev pub intent_behind : Option Intent → List WeakEvent → Option Intent
intent_behind intent [] = intent
intent_behind intent (event ∷ events) = intent_behind (intent_after intent event) events
