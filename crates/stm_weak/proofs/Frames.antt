-- Of which page a frame is.
use Rattle.std.proofs.Common.{◌≡◌, ◌⊎◌, inl, inr, ⊎_elim, ℕ, zero, ◌+◌, ◌/◌, ◌%◌, ◌<◌, ◌≤◌, Bool}
use Rattle.std.proofs.Common.{List, ◌∷◌, length, Contains, get_or, Option, Some, refl, sym, ap}
use Rattle.std.proofs.Common.{subst, arith}
use Rattle.std.proofs.lemmas.Bool.{cases_lt, cases_order}
use Rattle.std.proofs.lemmas.List.{get_or_past}
use Rattle.stm_wire.specs.declared.chip.EraseKind.{EraseKind}
use Rattle.stm_wire.specs.declared.chip.EraseKind.TheVariants.{Page, Extended}
use Rattle.stm_wire.specs.declared.intent.Intent.{Intent}
use Rattle.stm_wire.specs.declared.intent.Intent.TheVariants.{Erase, Program}
use Rattle.stm_wire.proofs.Names.{at_address, at_code, at_count, ChipData, erase_turns, IsRefusedRead, page_size, read_turns, sent_bytes, Turn, write_turns}
use Rattle.stm_wire.specs.lemmas.PageLaws.{page_end}
use Rattle.stm_session.proofs.Names.{page_address, pages_of_intent}
use Rattle.stm_weak.specs.Weak.{ChangesPage, erases, writes}
use Rattle.stm_weak.specs.Believed.{MayPutBelieving, asks, confirms, names, reads, refused}
use Rattle.stm_weak.specs.Believed.{erases as may_erase, writes as may_write}

-- a byte that a dialogue sends
abbrev pub byte_at : ℕ → List Turn → ℕ
byte_at k turns = get_or (sent_bytes turns) k 0

same_byte : (k : ℕ) (xs ys : List Turn) → xs ≡ ys → byte_at k xs ≡ byte_at k ys
same_byte k xs ys e = ap (λ (l : List Turn). byte_at k l) e

-- the addresses of two writes
same_address : (a b : ℕ) (xs ys : List ℕ) → write_turns a xs ≡ write_turns b ys → a ≡ b
same_address a b xs ys e =
    let h2 : a / 16777216 ≡ b / 16777216 = same_byte 2 (write_turns a xs) (write_turns b ys) e in
    let h3 : a / 65536 % 256 ≡ b / 65536 % 256 = same_byte 3 (write_turns a xs)
    (write_turns b ys) e in
    let h4 : a / 256 % 256 ≡ b / 256 % 256 = same_byte 4 (write_turns a xs) (write_turns b ys) e in
    let h5 : a % 256 ≡ b % 256 = same_byte 5 (write_turns a xs) (write_turns b ys) e in
    omega (arith, h2, h3, h4, h5)

-- the pages of two erases
same_erased : (kind : EraseKind) (n m : ℕ) → erase_turns kind n ≡ erase_turns kind m → n ≡ m
same_erased Page n m e = same_byte 3 (erase_turns Page n) (erase_turns Page m) e
same_erased Extended n m e =
    let h4 : n / 256 ≡ m / 256 = same_byte 4 (erase_turns Extended n) (erase_turns Extended m) e in
    let h5 : n % 256 ≡ m % 256 = same_byte 5 (erase_turns Extended n) (erase_turns Extended m) e in
    omega (arith, h4, h5)

-- an erase is no write, and neither is another frame
pub first_of_erase : (kind : EraseKind) (n : ℕ) → 0x40 ≤ byte_at 0 (erase_turns kind n)
first_of_erase Page n = omega arith
first_of_erase Extended n = omega arith

pub no_erase_writes : (kind : EraseKind) (n a : ℕ) (bytes : List ℕ)
    → erase_turns kind n ≡ write_turns a bytes → ⊥
no_erase_writes kind n a bytes e =
    let P : List Turn → Type 0 = λ l. 0x40 ≤ byte_at 0 l in
    let h : 0x40 ≤ 0x31 = subst P e (first_of_erase kind n) in
    omega (arith, h)

pub no_erase_reads : (kind : EraseKind) (n a : ℕ) (answer : List ℕ)
    → erase_turns kind n ≡ read_turns a answer → ⊥
no_erase_reads kind n a answer e =
    let P : List Turn → Type 0 = λ l. 0x40 ≤ byte_at 0 l in
    let h : 0x40 ≤ 0x11 = subst P e (first_of_erase kind n) in
    omega (arith, h)

changes_first : (chip : ChipData) (n : ℕ) (turns : List Turn) → ChangesPage chip n turns
    → 0x30 ≤ byte_at 0 turns
changes_first chip n turns (erases e) =
    let P : List Turn → Type 0 = λ l. 0x30 ≤ byte_at 0 l in
    let h = first_of_erase chip.kind n in
    subst P (sym e) (omega (arith, h))
changes_first chip n turns (writes offset bytes some within e) =
    let P : List Turn → Type 0 = λ l. 0x30 ≤ byte_at 0 l in
    subst P (sym e) (omega arith)

-- a frame that begins otherwise changes no page
no_change : (chip : ChipData) (n : ℕ) (turns : List Turn) → byte_at 0 turns < 0x30
    → ChangesPage chip n turns → ⊥
no_change chip n turns lt changes =
    let h = changes_first chip n turns changes in
    omega (arith, h, lt)

begins_as : (xs ys : List Turn) → ys ≡ xs → byte_at 0 xs < 0x30 → byte_at 0 ys < 0x30
begins_as xs ys e lt = let P : List Turn → Type 0 = λ l. byte_at 0 l < 0x30 in subst P (sym e) lt

refused_first : (address size : ℕ) (frame : List ℕ) (turns : List Turn)
    → IsRefusedRead address size frame turns → byte_at 0 turns < 0x30
refused_first address size frame turns (at_code same e) = begins_as _ turns e (omega arith)
refused_first address size frame turns (at_address same e) = begins_as _ turns e (omega arith)
refused_first address size frame turns (at_count same e) = begins_as _ turns e (omega arith)

-- two pages that have a byte at one place
here_if : (chip : ChipData) (n : ℕ) → 1 ≤ page_size chip n → n < length chip.sizes
here_if chip n some =
    ⊎_elim (λ lt. lt) (λ le. absurd (omega (arith, some, get_or_past chip.sizes n 0 le)))
    (cases_lt n (length chip.sizes))

same_page : (chip : ChipData) (n m o p a b : ℕ) → 1 ≤ a → o + a ≤ page_size chip n → 1 ≤ b
    → p + b ≤ page_size chip m → page_address chip n + o ≡ page_address chip m + p → n ≡ m
same_page chip n m o p a b one within two inside e = sides (cases_order n m)
  where
    sides : (n ≡ m) ⊎ ((n < m) ⊎ (m < n)) → n ≡ m
    sides (inl same) = same
    sides (inr (inl lt)) =
        let h = page_end chip.sizes n m lt (here_if chip n (omega (arith, one, within))) in
        absurd (omega (arith, h, one, within, two, inside, e))
    sides (inr (inr gt)) =
        let h = page_end chip.sizes m n gt (here_if chip m (omega (arith, two, inside))) in
        absurd (omega (arith, h, one, within, two, inside, e))

-- the first of a list is in it
pub here : (n : ℕ) (pages : List ℕ) → Contains (n ∷ pages) n
here n pages = (zero, omega arith, refl)

of_erase : (both : Bool) (intent : Option Intent) (m n : ℕ) → intent ≡ Some (Erase m) → n ≡ m
    → Contains (pages_of_intent intent both) n
of_erase both intent m n is e =
    let P : Option Intent → Type 0 = λ i. Contains (pages_of_intent i both) n in
    let Q : ℕ → Type 0 = λ k. Contains (pages_of_intent (Some (Erase m)) both) k in
    subst P (sym is) (subst Q (sym e) (here m _))

of_program : (both : Bool) (intent : Option Intent) (m n : ℕ) → intent ≡ Some (Program m) → n ≡ m
    → Contains (pages_of_intent intent both) n
of_program both intent m n is e =
    let P : Option Intent → Type 0 = λ i. Contains (pages_of_intent i both) n in
    let Q : ℕ → Type 0 = λ k. Contains (pages_of_intent (Some (Program m)) both) k in
    subst P (sym is) (subst Q (sym e) (here m _))

-- A frame that may be sent changes no page but one at work.
pub changed_at_work : (chip : ChipData) (both : Bool) (W : ℕ → Type 0) (intent : Option Intent)
    (turns : List Turn) (n : ℕ) → MayPutBelieving chip W intent turns → ChangesPage chip n turns
    → Contains (pages_of_intent intent both) n
changed_at_work chip both W intent turns n (asks version codes e) changes =
    absurd (no_change chip n turns (begins_as _ turns e (omega arith)) changes)
changed_at_work chip both W intent turns n (names high low e) changes =
    absurd (no_change chip n turns (begins_as _ turns e (omega arith)) changes)
changed_at_work chip both W intent turns n (confirms place answer at e) changes =
    absurd (no_change chip n turns (begins_as _ turns e (omega arith)) changes)
changed_at_work chip both W intent turns n (refused place frame at is) changes =
    absurd (no_change chip n turns
    (refused_first place.address place.length frame turns is) changes)
changed_at_work chip both W intent turns n (reads address answer none e) changes =
    absurd (no_change chip n turns (begins_as _ turns e (omega arith)) changes)
changed_at_work chip both W intent turns n (may_erase m is e) (erases own) =
    of_erase both intent m n is
    (same_erased chip.kind n m (let P : List Turn
    → Type 0 = λ l. l ≡ erase_turns chip.kind m in subst P own e))
changed_at_work chip both W intent turns n (may_erase m is e)
    (writes offset bytes some within own) =
    absurd
    (no_erase_writes chip.kind m (page_address chip n + offset) bytes
    (let P : List Turn → Type 0 = λ l. l ≡ write_turns
    (page_address chip n + offset) bytes in subst P e own))
changed_at_work chip both W intent turns n (may_write m offset bytes is some within e)
    (erases own) =
    absurd
    (no_erase_writes chip.kind n (page_address chip m + offset) bytes
    (let P : List Turn → Type 0 = λ l. l ≡ write_turns
    (page_address chip m + offset) bytes in subst P own e))
changed_at_work chip both W intent turns n (may_write m o xs is one inside e)
    (writes p ys two within own) =
    let P : List Turn → Type 0 = λ l. l ≡ write_turns (page_address chip m + o) xs in
    let same = same_address (page_address chip n + p) (page_address chip m + o) ys xs
    (subst P own e) in
    of_program both intent m n is
    (same_page chip n m p o (length ys) (length xs) two within one inside same)
