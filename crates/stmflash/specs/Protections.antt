-- The protections of a served simulator. The device that it is knows none: where a byte would
-- complete an erase of a write-protected page, or a write into one, or the code of a command that
-- readout protection forbids, it is fed the complement in its place.
use Rattle.std.specs.Prelude.{◌≡◌, ℕ, ◌+◌, ◌*◌, Bool, false, true, ◌&&◌, not, nat_lt, ◌==◌}
use Rattle.std.specs.Prelude.{if◌then◌else◌, List, [], ◌∷◌, ◌++◌, length, fold, Option, Some, None}
use Rattle.std.specs.Prelude.{IsTrue}
use Rattle.std.specs.List.{list_any}
use Rattle.stm_wire.specs.declared.verdict.Verdict.TheVariants.{Done, Refused}
use Rattle.stm_wire.specs.Chip.{ChipData, page_count, page_offset, page_size}
use Rattle.stm_wire.specs.Device.{Device, Phase, Connected}
use Rattle.stm_wire.specs.Effect.{Change, Nothing, ErasePages, EraseAll, Write, change_of}
use Rattle.stm_wire.specs.Exchange.{complement, is_listed, pair_of, verdict, xor}
use Rattle.stm_files.specs.Replies.{Telling, telling_begun, completes, tell_one, telling}
use Rattle.stm_files.specs.Serving.{fed_all}

-- so many bytes from this address on reach into page n
abbrev pub reaches : ChipData → ℕ → ℕ → ℕ → Bool
reaches chip address count n =
    nat_lt n (page_count chip)
    && (nat_lt address (chip.base + page_offset chip n + page_size chip n)
    && nat_lt (chip.base + page_offset chip n) (address + count))

-- the change is one of page n, by what it names
abbrev pub changes_page : ChipData → Change → ℕ → Bool
changes_page chip Nothing n = false
changes_page chip (ErasePages pages) n = is_listed pages n
changes_page chip EraseAll n = true
changes_page chip (Write address sent) n = reaches chip address (length sent) n

-- it is one of a page of these
abbrev pub changes_any : ChipData → Change → List ℕ → Bool
changes_any chip change pages = list_any (changes_page chip change) pages

-- Behind the code of a command and its complement: the check that is due next, where nothing else
-- is lacking.

-- of a write: n, n + 1 bytes
abbrev pub write_check : List ℕ → Option ℕ
write_check (a ∷ b ∷ c ∷ d ∷ check ∷ n ∷ sent) =
    if length sent == n + 1 then Some (xor (n ∷ sent)) else None
write_check rest = None

-- of an erase of all pages
abbrev pub all_check : List ℕ → Option ℕ
all_check [] = Some 0
all_check (byte ∷ rest) = None

-- of an erase: n, n + 1 pages
abbrev pub erase_check : List ℕ → Option ℕ
erase_check (n ∷ pages) =
    if n == 0xFF then all_check pages
    else (if length pages == n + 1 then Some (xor (n ∷ pages)) else None)
erase_check [] = None

-- the same with numbers of two bytes
abbrev pub extended_check : List ℕ → Option ℕ
extended_check (high ∷ low ∷ pages) =
    if pair_of high low == 0xFFFF then all_check pages
    else (if length pages == 2 * (pair_of high low + 1) then Some (xor (high ∷ low ∷ pages)) else None)
extended_check rest = None

-- of a whole list
abbrev pub check_due : List ℕ → Option ℕ
check_due (code ∷ check ∷ rest) =
    if code == 0x31 then write_check rest
    else (if code == 0x43 then erase_check rest
    else (if code == 0x44 then extended_check rest
    else None))
check_due bytes = None

-- the byte is the check that is due
abbrev pub is_check : Option ℕ → ℕ → Bool
is_check None byte = false
is_check (Some check) byte = byte == check

-- behind these bytes it would complete an erase or a write of a page of these
abbrev pub completes_change : List ℕ → ChipData → List ℕ → ℕ → Bool
completes_change pages chip rest byte =
    is_check (check_due rest) byte && changes_any chip (change_of rest) pages

-- what a device with these bytes since its last verdict is fed in the place of a byte, for its pages
abbrev pub fed_behind : List ℕ → ChipData → List ℕ → ℕ → ℕ
fed_behind pages chip rest byte =
    if completes_change pages chip rest byte then complement byte else byte

-- readout protection forbids Read Memory, Go, Write Memory, both erases, Write Protect and Write
-- Unprotect (AN3155)
abbrev pub is_barred : ℕ → Bool
is_barred code = is_listed (0x11 ∷ 0x21 ∷ 0x31 ∷ 0x43 ∷ 0x44 ∷ 0x63 ∷ 0x73 ∷ []) code

-- the byte would complete the code of such a command
abbrev pub completes_barred : List ℕ → ℕ → Bool
completes_barred (code ∷ []) byte = is_barred code && byte == complement code
completes_barred rest byte = false

-- what the device is fed for its readout protection
abbrev pub fed_unreadable : Bool → List ℕ → ℕ → ℕ
fed_unreadable on rest byte = if on && completes_barred rest byte then complement byte else byte

-- which protections a device has: the pages that are write-protected; whether Readout Protect takes
-- effect; and whether it did
pub record Protected : Type 0 where
  pub pages : List ℕ
  pub has_readout : Bool
  pub is_unreadable : Bool

-- nothing is protected, nor will be
abbrev pub is_unprotected : Protected → Bool
is_unprotected p = length p.pages == 0 && (not p.has_readout && not p.is_unreadable)

abbrev pub fed_in : Protected → ChipData → Phase → ℕ → ℕ
fed_in p chip (Connected rest) byte = fed_behind p.pages chip rest (fed_unreadable p.is_unreadable rest byte)
fed_in p chip phase byte = byte

-- what a device is fed in the place of a byte
abbrev pub fed_while_protected : Protected → Device → ℕ → ℕ
fed_while_protected p d byte = fed_in p d.chip d.phase byte

-- the protections behind what it is fed: Write Unprotect frees all pages, Readout Protect and Readout
-- Unprotect begin and end the other
abbrev pub protected_behind : Protected → Device → ℕ → Protected
protected_behind p d byte =
    record {
      pages = if completes 0x73 0x8C d.phase byte then [] else p.pages;
      has_readout = p.has_readout;
      is_unreadable =
          if completes 0x82 0x7D d.phase byte then p.has_readout
          else (if completes 0x92 0x6D d.phase byte then false else p.is_unreadable);
    }

-- no list of bytes that ends so is done and changes a page of these
abbrev pub Spares : List ℕ → ChipData → Phase → ℕ → Type 0
Spares pages chip (Connected rest) byte = (codes : List ℕ)
    → verdict chip codes (rest ++ byte ∷ []) ≡ Some Done
    → IsTrue (changes_any chip (change_of (rest ++ byte ∷ [])) pages) → ⊥
Spares pages chip phase byte = Unit {0}

-- while the flash is readout-protected, this byte behind the code of a command that it forbids is
-- refused
abbrev pub Bars : Bool → ChipData → Phase → ℕ → Type 0
Bars on chip (Connected (code ∷ [])) byte = (codes : List ℕ) → IsTrue on → IsTrue (is_barred code)
    → verdict chip codes (code ∷ byte ∷ []) ≡ Some Refused
Bars on chip phase byte = Unit {0}

-- a device with protections, and what its client was told
pub record Guarded : Type 0 where
  pub protected : Protected
  pub telling : Telling

-- it gets a byte
abbrev pub guard_one : Guarded → ℕ → Guarded
guard_one g byte =
    let fed : ℕ = fed_while_protected g.protected g.telling.device byte in
    record {
      protected = protected_behind g.protected g.telling.device fed;
      telling = tell_one g.telling fed;
    }

-- the same, after these bytes, one after the other
abbrev pub guarding : Guarded → List ℕ → Guarded
guarding g bytes = fold guard_one g bytes

-- a device with these protections got these bytes, and became this one; with none it is fed just
-- these bytes
abbrev pub Serves : Protected → Device → List ℕ → Protected → Device → List ℕ → Type 0
Serves p old bytes left new told =
    (IsTrue (is_unprotected p) → (left ≡ p)
    × (new ≡ record (fed_all old bytes) { owed = new.owed })
    × (record { device = new; told = told } ≡ telling (telling_begun old) bytes))
    × (IsTrue (not (is_unprotected p)) → record { protected = left; telling = record { device = new; told = told } }
    ≡ guarding (record { protected = p; telling = telling_begun old }) bytes)
