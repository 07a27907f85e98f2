-- What is known of a device whose exchange is watched, and what a byte makes of it.
use Rattle.std.specs.Prelude.{◌≡◌, ◌⊎◌, ℕ, ◌≤◌, ◌+◌, ◌-◌, Bool, true, false, ◌==◌, if◌then◌else◌}
use Rattle.std.specs.Prelude.{List, [], ◌∷◌, ◌++◌, length, take, drop, replicate, get_or, set}
use Rattle.std.specs.Prelude.{Option, Some, None}
use Rattle.stm_watch.specs.declared.sight.Sight.{Sight}
use Rattle.stm_watch.specs.declared.sight.Sight.TheVariants.{Follows, Left, Lost}
use Rattle.stm_wire.specs.declared.verdict.Verdict.{Verdict}
use Rattle.stm_wire.specs.declared.verdict.Verdict.TheVariants.{Done, Refused, Loose}
use Rattle.stm_wire.specs.Chip.{ChipData, erased_byte, fits_inside, flash_size, IsChip}
use Rattle.stm_wire.specs.Chip.{page_offset, page_size}
use Rattle.stm_wire.specs.Exchange.{number_of, verdict}
use Rattle.stm_wire.specs.Effect.{Change, Nothing, ErasePages, EraseAll, Write, change_of}
use Rattle.stm_wire.specs.Reply.{ack, nack, step_reply, commands_answer, id_answer}
use Rattle.stm_wire.specs.Telling.{asks_unique, kib_bytes}

pub record Known : Type 0 where
  pub chip : ChipData
  pub version : ℕ
  pub codes : List ℕ
  -- each byte of the flash that was read or written, or erased
  pub flash : List (Option ℕ)
  -- the bytes since the last verdict
  pub list : List ℕ
  -- the replies that are due
  pub due : List ℕ
  -- and behind these so many bytes of the flash, from this place on
  pub at : ℕ
  pub count : ℕ
  pub sight : Sight

abbrev pub known_of : ChipData → ℕ → List ℕ → List (Option ℕ) → List ℕ → List ℕ → ℕ → ℕ → Sight
    → Known
known_of chip version codes flash list due at count sight =
    record {
      chip = chip;
      version = version;
      codes = codes;
      flash = flash;
      list = list;
      due = due;
      at = at;
      count = count;
      sight = sight;
    }

-- a list with these items at this place
abbrev pub with_items : {A : Type 0} → ℕ → List A → List A → List A
with_items at items xs = take at xs ++ items ++ drop (at + length items) xs

-- A place over which a byte was written: where it was erased, that byte; else any may stand there.
abbrev pub stored : ℕ → Option ℕ → ℕ → Option ℕ
stored erased None sent = None
stored erased (Some old) sent = if old == erased then Some sent else None

abbrev pub stored_all : ℕ → List (Option ℕ) → List ℕ → List (Option ℕ)
stored_all erased (old ∷ olds) (sent ∷ sents) =
    stored erased old sent ∷ stored_all erased olds sents
stored_all erased olds sents = []

abbrev pub erased_known : ChipData → List ℕ → List (Option ℕ) → List (Option ℕ)
erased_known chip [] flash = flash
erased_known chip (n ∷ pages) flash =
    erased_known chip pages
    (with_items (page_offset chip n) (replicate (page_size chip n) (Some (erased_byte chip))) flash)

abbrev pub changed_known : ChipData → Change → List (Option ℕ) → List (Option ℕ)
changed_known chip Nothing flash = flash
changed_known chip (ErasePages pages) flash = erased_known chip pages flash
changed_known chip EraseAll flash = replicate (length flash) (Some (erased_byte chip))
changed_known chip (Write address sent) flash =
    with_items (address - chip.base)
    (stored_all (erased_byte chip) (take (length sent) (drop (address - chip.base) flash)) sent)
    flash

-- how many bytes of the flash a read brings, after 11 EE
abbrev pub count_of_read : ChipData → List ℕ → ℕ
count_of_read chip (a ∷ b ∷ c ∷ d ∷ check ∷ n ∷ rest) =
    if fits_inside chip (number_of a b c d) (n + 1) then n + 1 else 0
count_of_read chip bytes = 0

-- from which place on
abbrev pub place_of_read : ChipData → List ℕ → ℕ
place_of_read chip (a ∷ b ∷ c ∷ d ∷ rest) = number_of a b c d - chip.base
place_of_read chip bytes = 0

-- what else it brings
abbrev pub told_of_read : ChipData → List ℕ → List ℕ
told_of_read chip (a ∷ b ∷ c ∷ d ∷ check ∷ n ∷ rest) =
    if fits_inside chip (number_of a b c d) (n + 1) then []
    else (if asks_unique chip (number_of a b c d) (n + 1) then chip.unique
    else kib_bytes (flash_size chip))
told_of_read chip bytes = []

-- the same of any done list
abbrev pub count_read : ChipData → List ℕ → ℕ
count_read chip (code ∷ check ∷ rest) =
    if code == 0x00 then 0
    else (if code == 0x02 then 0
    else (if code == 0x11 then count_of_read chip rest
    else 0))
count_read chip bytes = 0

abbrev pub place_read : ChipData → List ℕ → ℕ
place_read chip (code ∷ check ∷ rest) = place_of_read chip rest
place_read chip bytes = 0

abbrev pub told : ChipData → ℕ → List ℕ → List ℕ → List ℕ
told chip version codes (code ∷ check ∷ rest) =
    if code == 0x00 then commands_answer version codes
    else (if code == 0x02 then id_answer chip
    else (if code == 0x11 then told_of_read chip rest
    else []))
told chip version codes bytes = []

-- a settled device of this chip, with these codes, of whose flash nothing is known
abbrev pub known_at_first : ChipData → ℕ → List ℕ → Known
known_at_first chip version codes =
    record {
      chip = chip;
      version = version;
      codes = codes;
      flash = replicate (flash_size chip) None;
      list = [];
      due = [];
      at = 0;
      count = 0;
      sight = Follows;
    }

-- nothing is known any more
abbrev pub lost : Known → Known
lost k = record k { sight = Lost }

-- where a done list leaves the device
abbrev pub sight_after : List ℕ → Sight
sight_after (code ∷ rest) = if code == 0x21 then Left else Follows
sight_after [] = Follows

-- a connected device has all of a list, with this verdict
abbrev pub judged : Option Verdict → List ℕ → Known → Known
judged None bytes k =
    record k { list = bytes; due = k.due ++ step_reply bytes; at = 0; count = 0 }
judged (Some Refused) bytes k =
    record k { list = []; due = k.due ++ nack ∷ []; at = 0; count = 0 }
judged (Some Done) bytes k =
    record k {
      flash = changed_known k.chip (change_of bytes) k.flash;
      list = [];
      due = k.due ++ ack ∷ told k.chip k.version k.codes bytes;
      at = place_read k.chip bytes;
      count = count_read k.chip bytes;
      sight = sight_after bytes;
    }
judged (Some Loose) bytes k = lost k

abbrev pub fed_to : Sight → ℕ → Known → Known
fed_to Follows byte k =
    judged (verdict k.chip k.codes (k.list ++ byte ∷ [])) (k.list ++ byte ∷ []) k
fed_to Left byte k = k
fed_to Lost byte k = k

-- After a byte that was sent. Where bytes of the flash are due, what follows is not watched: a host
-- that follows the protocol sends nothing then.
abbrev pub fed : ℕ → Known → Known
fed byte k = if k.count == 0 then fed_to k.sight byte k else lost k

-- a place of which this is known may hold this byte
abbrev pub may_hold : ℕ → Option ℕ → Bool
may_hold byte None = true
may_hold byte (Some known) = known == byte

-- this byte may come now, where these are the replies that are due
abbrev pub is_due_of : Known → List ℕ → ℕ → Bool
is_due_of k (due ∷ rest) byte = due == byte
is_due_of k [] byte = if k.count == 0 then false else may_hold byte (get_or k.flash k.at None)

abbrev pub is_due_in : Sight → ℕ → Known → Bool
is_due_in Lost byte k = true
is_due_in Follows byte k = is_due_of k k.due byte
is_due_in Left byte k = is_due_of k k.due byte

abbrev pub is_due : ℕ → Known → Bool
is_due byte k = is_due_in k.sight byte k

-- the byte that has to come next, where only one may
abbrev pub first_due : Known → List ℕ → Option ℕ
first_due k (due ∷ rest) = Some due
first_due k [] = if k.count == 0 then None else get_or k.flash k.at None

-- the address of the byte of the flash that has to come next, where one has
abbrev pub address_due : Known → List ℕ → Option ℕ
address_due k (due ∷ rest) = None
address_due k [] = if k.count == 0 then None else Some (k.chip.base + k.at)

-- after a byte that came
abbrev pub heard_of : Known → List ℕ → ℕ → Known
heard_of k (due ∷ rest) byte = record k { due = rest }
heard_of k [] byte =
    record k { flash = set k.flash k.at (Some byte); at = k.at + 1; count = k.count - 1 }

abbrev pub heard_by_sight : Sight → ℕ → Known → Known
heard_by_sight Lost byte k = k
heard_by_sight Follows byte k = heard_of k k.due byte
heard_by_sight Left byte k = heard_of k k.due byte

abbrev pub heard : ℕ → Known → Known
heard byte k = heard_by_sight k.sight byte k

-- A byte that was sent has come to what is known; or memory was refused, and nothing is known.
abbrev pub IsFed : ℕ → Known → Known → Type 0
IsFed byte old new = (new ≡ fed byte old) ⊎ (new.sight ≡ Lost)

-- what is due of the flash lies in it
pub record IsWhole (k : Known) : Type 0 where
  pub chip : IsChip k.chip
  pub size : length k.flash ≡ flash_size k.chip
  pub codes : length k.codes ≤ 255
  pub inside : 1 ≤ k.count → k.at + k.count ≤ flash_size k.chip
