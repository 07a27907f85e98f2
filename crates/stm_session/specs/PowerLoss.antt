-- What a loss of power leaves, also one inside an erase or a write, and what a
-- loss of owed bytes does.
use Rattle.std.specs.Prelude.{◌≡◌, ℕ, ◌<◌, false, List, [], length, All, Contains, Some}
use Rattle.stm_wire.specs.declared.intent.Intent.{Intent}
use Rattle.stm_wire.specs.Chip.{page_count, page_size}
use Rattle.stm_wire.specs.Device.{Device, Fresh, IsDevice, LosesOwed}
use Rattle.stm_wire.specs.Harmless.{SameOutside}
use Rattle.stm_wire.specs.Intents.{intended_pages}
use Rattle.stm_wire.specs.PowerLoss.{powered_again}
use Rattle.stm_journal.specs.States.{intent_of}
use Rattle.stm_session.specs.Moments.{SameMake}
use Rattle.stm_session.specs.Undoable.{Undoable, is_unfinished_at, risked_pages, state_at}

-- The device's power was lost, at whatever moment of whatever command, and is back: it is fresh and
-- owes nothing. The pages that the journal's unfinished newest segment keeps may hold any bytes at
-- all; every other page is as it was.
pub record LosesPower (journal : List ℕ) (old new : Device) : Type 0 where
  pub device : IsDevice new
  pub make : SameMake old new
  pub phase : new.phase ≡ Fresh
  pub owed : new.owed ≡ []
  pub flash : SameOutside old.chip (risked_pages (state_at journal)) old.flash new.flash

-- what can be undone, still can where bytes that the device owed are lost
abbrev pub OwedLossKeepsFlashes : Type 0
OwedLossKeepsFlashes = (flashes : List (List ℕ)) (old new : Device) (journal : List ℕ)
    → Undoable flashes old journal → LosesOwed old new → Undoable flashes new journal

-- and after a loss of power
abbrev pub PowerLossKeepsFlashes : Type 0
PowerLossKeepsFlashes = (flashes : List (List ℕ)) (old new : Device) (journal : List ℕ)
    → Undoable flashes old journal → LosesPower journal old new → Undoable flashes new journal

-- where no command is unfinished, the whole flash is as it was
abbrev pub FinishedLosesNothing : Type 0
FinishedLosesNothing = (old new : Device) (journal : List ℕ)
    → is_unfinished_at journal ≡ false → LosesPower journal old new → new.flash ≡ old.flash

-- The page of the journal's intent is among those that may hold any bytes, and so is
-- each that settling the device by that intent may change: no command that was sent is
-- at work on another page.
abbrev pub IntentIsAtRisk : Type 0
IntentIsAtRisk = (flashes : List (List ℕ)) (d : Device) (journal : List ℕ) (intent : Intent) (n : ℕ)
    → Undoable flashes d journal → intent_of (state_at journal) ≡ Some intent
    → n < page_count d.chip → Contains (intended_pages (Some intent)) n
    → Contains (risked_pages (state_at journal)) n

-- Each page at risk can hold any bytes: a device with them there is one that lost its power.
abbrev pub AnyBytesAreLeft : Type 0
AnyBytesAreLeft = (d : Device) (journal : List ℕ) (n : ℕ) (bytes : List ℕ) → IsDevice d
    → Contains (risked_pages (state_at journal)) n → length bytes ≡ page_size d.chip n
    → All (λ byte. byte < 256) bytes
    → LosesPower journal d (powered_again n bytes d)
