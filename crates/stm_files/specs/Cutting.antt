-- A journal without its oldest segments.
use Rattle.std.specs.Prelude.{◌≡◌, ℕ, ◌-◌, ◌≤◌, List, Option, length, map, option_map, take}
use Rattle.stm_journal.specs.declared.kept.Kept.{Kept}
use Rattle.stm_journal.specs.declared.stage.Stage.{Stage}
use Rattle.stm_journal.specs.declared.header.JournalHeader.{JournalHeader}
use Rattle.stm_journal.specs.States.{SegmentData, StateData, depth, header_board}

-- a kept page, but for where it stands and which bytes it has: its number, and how many they are
abbrev pub page_outline : Kept → ℕ × ℕ
page_outline kept = (kept.page, length kept.bytes)

-- a segment, but for where its pages stand and which bytes they have
abbrev pub outline : SegmentData → Stage × List (ℕ × ℕ)
outline segment = (segment.stage, map page_outline segment.pages)

-- a header, but for where it stands: its version, the device, and the board that it names
abbrev pub header_outline : Option JournalHeader → Option (ℕ × ℕ × Option (List ℕ))
header_outline = option_map (λ header. (header.version, header.id, header_board header))

-- The header is the same, and so are the segments, but for so many of the oldest. The newest is the
-- first of a stack.
pub record IsCut (given_up : ℕ) (old new : StateData) : Type 0 where
  pub within : given_up ≤ depth old
  pub header : header_outline old.header ≡ header_outline new.header
  pub stack : map outline new.stack ≡ map outline (take (depth old - given_up) old.stack)
