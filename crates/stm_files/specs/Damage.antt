-- Kept pages whose digits don't agree with the CRC that stands behind them.
use Rattle.std.specs.Prelude.{◌≡◌, ℕ, ◌+◌, ◌-◌, ◌*◌, ◌<◌, ◌==◌, ◌&&◌, Bool, true, List, [], ◌∷◌}
use Rattle.std.specs.Prelude.{false, length, take, drop, codes, Option, None, Some, option_and_then}
use Rattle.std.specs.List.{list_all}
use Rattle.stm_wire.specs.Rig.{RigState, StaysHonest}
use Rattle.stm_journal.specs.declared.fault.JournalFault.{JournalFault}
use Rattle.stm_journal.specs.declared.fault.JournalFault.TheVariants.{File, Bad, OtherDevice}
use Rattle.stm_journal.specs.declared.fault.JournalFault.TheVariants.{OtherBoard, Memory}
use Rattle.stm_journal.specs.declared.kept.Kept.{Kept}
use Rattle.stm_journal.specs.declared.kept.PagePlace.{PagePlace}
use Rattle.stm_journal.specs.Entries.{behind, is_upper_digit}
use Rattle.stm_journal.specs.InMemory.{forget_state}
use Rattle.stm_journal.specs.KeptPlaces.{kept_entry, place_of}
use Rattle.stm_journal.specs.States.{StateData, depth}
use Rattle.stm_files.specs.PageSeal.{ahead, sum_line}
use Rattle.stm_files.specs.PageSum.{page_sum}
use Rattle.stm_files.specs.declared.damage.Damage.{Damage}

-- the digits of a CRC
abbrev pub are_digits : Option (List ℕ) → Bool
are_digits None = false
are_digits (Some digits) = length digits == 8 && list_all is_upper_digit digits

-- a line that says a CRC
abbrev pub is_sum : List ℕ → Bool
is_sum line = are_digits (option_and_then (ahead (33 ∷ 10 ∷ [])) (behind (codes "crc ") line))

-- what stands behind the digits of a page and the LF that ends its line
abbrev pub behind_page : List ℕ → PagePlace → List ℕ
behind_page bytes place = take 14 (drop (place.at + 2 * place.length + 1) bytes)

-- a CRC that stands behind a page is that of its bytes
abbrev pub HasItsSum : List ℕ → Kept → Type 0
HasItsSum bytes kept =
    is_sum (behind_page bytes (place_of kept)) ≡ true
    → behind_page bytes (place_of kept) ≡ sum_line (page_sum kept.bytes)

-- it is another one
abbrev pub Differs : List ℕ → Kept → Type 0
Differs bytes kept =
    (is_sum (behind_page bytes (place_of kept)) ≡ true)
    × (behind_page bytes (place_of kept) ≡ sum_line (page_sum kept.bytes) → ⊥)

-- whether it is right
abbrev pub TellsWhether : List ℕ → Kept → Bool → Type 0
TellsWhether bytes kept true = HasItsSum bytes kept
TellsWhether bytes kept false = Differs bytes kept

-- this is a page of that segment, and doesn't agree
abbrev pub IsDamaged : List ℕ → StateData → Damage → Type 0
IsDamaged bytes s found =
    (i : ℕ) × ((kept : Kept) × ((kept_entry s found.segment i ≡ Some kept) × ((kept.page ≡ found.page)
    × Differs bytes kept)))

-- what was found in segment k: nothing where all its pages agree
abbrev pub FindsIn : List ℕ → StateData → ℕ → Option Damage → Type 0
FindsIn bytes s k None = (i : ℕ) (kept : Kept) → kept_entry s k i ≡ Some kept → HasItsSum bytes kept
FindsIn bytes s k (Some found) = (found.segment ≡ k) × IsDamaged bytes s found

-- and in the newest segments, so many
abbrev pub FindsDamage : List ℕ → StateData → ℕ → Option Damage → Type 0
FindsDamage bytes s taken None =
    (newer : ℕ) → newer < taken → FindsIn bytes s (depth (forget_state s) - newer) None
FindsDamage bytes s taken (Some found) = IsDamaged bytes s found

-- there was no memory, or the file failed
abbrev pub IsReadFault : JournalFault → Type 0
IsReadFault File = Unit {0}
IsReadFault Memory = Unit {0}
IsReadFault (Bad line) = ⊥
IsReadFault OtherDevice = ⊥
IsReadFault OtherBoard = ⊥
