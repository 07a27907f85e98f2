-- What a done list does to the flash.
use Rattle.std.specs.Prelude.{◌≡◌, ℕ, ◌+◌, ◌-◌, ◌*◌, ◌<◌, ◌==◌, if◌then◌else◌}
use Rattle.std.specs.Prelude.{List, [], ◌∷◌, length, take, drop, replicate}
use Rattle.stm_wire.specs.Chip.{ChipData, erased_byte, erased_page, with_bytes, with_page}
use Rattle.stm_wire.specs.Exchange.{number_of, pair_of, two_byte_numbers}

-- the change that a list asks for
pub data Change : Type 0 where
  Nothing : Change
  ErasePages : List ℕ → Change
  EraseAll : Change
  -- the address, and the bytes
  Write : ℕ → List ℕ → Change

-- after 43 BC
abbrev pub erase_change : List ℕ → Change
erase_change (n ∷ rest) = if n == 0xFF then EraseAll else ErasePages (take (n + 1) rest)
erase_change [] = Nothing

-- after 44 BB
abbrev pub extended_change : List ℕ → Change
extended_change (high ∷ low ∷ rest) =
    if pair_of high low == 0xFFFF then EraseAll
    else ErasePages (two_byte_numbers (take (2 * (pair_of high low + 1)) rest))
extended_change rest = Nothing

-- after 31 CE
abbrev pub write_change : List ℕ → Change
write_change (a ∷ b ∷ c ∷ d ∷ check ∷ n ∷ rest) = Write (number_of a b c d) (take (n + 1) rest)
write_change rest = Nothing

-- the change that a whole list of bytes asks for, by the code that it begins with
abbrev pub change_of : List ℕ → Change
change_of (code ∷ check ∷ rest) =
    if code == 0x31 then write_change rest
    else (if code == 0x43 then erase_change rest
    else (if code == 0x44 then extended_change rest
    else Nothing))
change_of bytes = Nothing

-- the flash with these pages erased, one after another
abbrev pub erased_pages : ChipData → List ℕ → List ℕ → List ℕ
erased_pages chip [] flash = flash
erased_pages chip (n ∷ pages) flash =
    erased_pages chip pages (with_page chip n (erased_page chip n) flash)

-- Place by place, a byte written over an erased one becomes the byte sent; over another it may
-- become any byte.
abbrev pub Stores : ℕ → List ℕ → List ℕ → List ℕ → Type 0
Stores erased (old ∷ olds) (sent ∷ sents) (new ∷ news) =
    (new < 256) × (old ≡ erased → new ≡ sent) × Stores erased olds sents news
Stores erased [] [] [] = Unit {0}
Stores erased olds sents news = ⊥

-- from old, the change may leave new
abbrev pub Effect : ChipData → Change → List ℕ → List ℕ → Type 0
Effect chip Nothing old new = new ≡ old
Effect chip (ErasePages pages) old new = new ≡ erased_pages chip pages old
Effect chip EraseAll old new = new ≡ replicate (length old) (erased_byte chip)
Effect chip (Write address sent) old new =
    (written : List ℕ)
    × Stores (erased_byte chip) (take (length sent) (drop (address - chip.base) old)) sent written
    × (new ≡ with_bytes (address - chip.base) written old)
