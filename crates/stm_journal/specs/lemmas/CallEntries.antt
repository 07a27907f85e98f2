-- The entries that a call adds are allowed where the call may be made, and what a beginning of
-- them leaves of the header.
use Rattle.std.proofs.Common.{◌≡◌, ◌⊎◌, ℕ, zero, suc, ◌+◌, ◌<◌, ◌≤◌, Bool, true, false, not, ◌&&◌, ◌==◌}
use Rattle.std.proofs.Common.{nat_lt, List, [], ◌∷◌, length, Option, Some, None, refl, sym, ◌∙◌, ap}
use Rattle.std.proofs.Common.{subst, inl, inr, ⊎_elim, arith, IsTrue, if◌then◌else◌}
use Rattle.std.specs.Prelude.{is_some, is_none, IsSome, bytes_eq, All, slice_index}
use Rattle.std.proofs.lemmas.Bool.{false≢true}
use Rattle.std.proofs.lemmas.Bool.Decides.{nat_tests}
use Rattle.std.proofs.lemmas.Slice.Eq.{bytes_eq-Decides}
use Rattle.stm_wire.specs.UniqueId.{IsUniqueId}
use Rattle.stm_journal.specs.declared.header.JournalHeader.{JournalHeader}
use Rattle.stm_journal.specs.declared.entry.Entry.{Entry}
use Rattle.stm_journal.specs.declared.entry.Entry.TheVariants.{Names, Opens, Keeps, Erases}
use Rattle.stm_journal.specs.declared.entry.Entry.TheVariants.{Programs, Ends, Undoes}
use Rattle.stm_journal.specs.States.{StateData, SegmentData, allows, after_entry, is_unfinished}
use Rattle.stm_journal.specs.States.{newest_is_open, newest_keeps, newest_may_keep, newest_has}
use Rattle.stm_journal.specs.States.{names_other, names_other_board, is_other_board, header_board}
use Rattle.stm_journal.specs.States.{fresh_segment, IsSound}
use Rattle.stm_journal.specs.Journals.{begin_entries, version_for, IsHeaderOf}
use Rattle.stm_journal.specs.Beginnings.{EntriesLead, AllAllowed, AllPrintable}

both : (a b : Bool) → a ≡ true → b ≡ true → (a && b) ≡ true
both true b h g = g
both false b h g = h

same-number : (n : ℕ) → (n == n) ≡ true
same-number n = grind (arith, nat_tests)

finished : (unfinished : Bool) → unfinished ≡ false → not unfinished ≡ true
finished true h = sym h
finished false h = refl

filled : (test : SegmentData → Bool) (stack : List SegmentData) → newest_has test stack ≡ true
    → 0 < length stack
filled test [] has = absurd (false≢true has)
filled test (segment ∷ below) has = omega arith

-- `begin`
allowed-begin_at : (id : ℕ) (unique : List ℕ) (header : Option JournalHeader)
    (stack : List SegmentData)
    → is_unfinished (record { header = header; stack = stack }) ≡ false
    → AllAllowed (begin_entries id unique (record { header = header; stack = stack }))
    (record { header = header; stack = stack })
allowed-begin_at id unique None stack ended = (
  refl,
  λ line ends. (
    both (not (is_unfinished (record { header = None; stack = stack })))
        (length stack + 1 == length stack + 1)
        (finished (is_unfinished (record { header = None; stack = stack })) ended)
        (same-number (length stack + 1)),
    λ line2 ends2. tt,
  ),
)
allowed-begin_at id unique (Some h) stack ended = (
  both (not (is_unfinished (record { header = Some h; stack = stack })))
      (length stack + 1 == length stack + 1)
      (finished (is_unfinished (record { header = Some h; stack = stack })) ended)
      (same-number (length stack + 1)),
  λ line ends. tt,
)

pub allowed-begin : (id : ℕ) (unique : List ℕ) (s : StateData) → is_unfinished s ≡ false
    → AllAllowed (begin_entries id unique s) s
allowed-begin id unique s ended = allowed-begin_at id unique s.header s.stack ended

byte-at : (bytes : List ℕ) (i : ℕ) → All (λ byte. byte < 256) bytes → slice_index bytes i < 256
byte-at [] i all = omega arith
byte-at (byte ∷ bytes) zero all = all 0 0 (omega arith)
byte-at (byte ∷ bytes) (suc i) all =
    byte-at bytes i (λ k d within. all (suc k) d (omega (arith, within)))

-- the version of a new header is the one that its unique id asks for
pub header-for : (unique : List ℕ) → IsUniqueId unique → IsHeaderOf (version_for unique) unique
header-for [] is = inl (inr refl, refl)
header-for (byte ∷ bytes) is =
    inr (
      ap (λ (none : Bool). if none then 2 else 3) (filled-out (length bytes)),
      (
        ⊎_elim (λ none. absurd (some none)) (λ many. many) is.length,
        λ i. byte-at (byte ∷ bytes) i is.bytes,
      ),
    )
  where
    some : byte ∷ bytes ≡ [] → ⊥
    some e = cc e

    filled-out : (n : ℕ) → (suc n == 0) ≡ false
    filled-out n = grind (arith, nat_tests)

printable-begin_at : (id : ℕ) (unique : List ℕ) (header : Option JournalHeader)
    (stack : List SegmentData) → id ≤ 65535 → IsUniqueId unique → length stack < 65535
    → AllPrintable (begin_entries id unique (record { header = header; stack = stack }))
printable-begin_at id unique None stack within is room =
    ((header-for unique is, within), ((omega (arith, room)), tt))
printable-begin_at id unique (Some h) stack within is room = ((omega (arith, room)), tt)

pub printable-begin : (id : ℕ) (unique : List ℕ) (s : StateData) → id ≤ 65535
    → IsUniqueId unique → length s.stack < 65535 → AllPrintable (begin_entries id unique s)
printable-begin id unique s within is room =
    printable-begin_at id unique s.header s.stack within is room

-- a beginning of what `begin` adds may be the header alone
stack-begin_at : (id : ℕ) (unique : List ℕ) (header : Option JournalHeader)
    (stack : List SegmentData) (s2 : StateData)
    → EntriesLead (begin_entries id unique (record { header = header; stack = stack }))
    (record { header = header; stack = stack }) s2
    → (s2.stack ≡ stack) ⊎ (s2.stack ≡ fresh_segment ∷ stack)
stack-begin_at id unique None stack s2 leads =
    ⊎_elim
    (λ none. inl (ap (λ (s : StateData). s.stack) none))
    (λ named. ⊎_elim (λ none. inl (ap (λ (s : StateData). s.stack) none))
    (λ begun. inr (ap (λ (s : StateData). s.stack) begun.2)) named.2)
    leads
stack-begin_at id unique (Some h) stack s2 leads =
    ⊎_elim (λ none. inl (ap (λ (s : StateData). s.stack) none))
    (λ begun. inr (ap (λ (s : StateData). s.stack) begun.2)) leads

pub stack-begin : (id : ℕ) (unique : List ℕ) (s s2 : StateData)
    → EntriesLead (begin_entries id unique s) s s2
    → (s2.stack ≡ s.stack) ⊎ (s2.stack ≡ fresh_segment ∷ s.stack)
stack-begin id unique s s2 leads = stack-begin_at id unique s.header s.stack s2 leads

-- a new header names its own board
pub own-board : (unique : List ℕ) (header : JournalHeader) → header.unique ≡ unique
    → is_other_board unique (header_board header) ≡ false
own-board unique header same = at (header.version == 3)
  where
    at : (b : Bool)
        → is_other_board unique (if b then Some header.unique else None) ≡ false
    at false = refl
    at true =
        ap (λ (xs : List ℕ). not (bytes_eq xs unique)) same
        ∙ ap (λ (b : Bool). not b) ((bytes_eq-Decides unique unique).1 refl)

names-begin_at : (id : ℕ) (unique : List ℕ) (header : Option JournalHeader)
    (stack : List SegmentData) (s2 : StateData)
    → names_other id (record { header = header; stack = stack }) ≡ false
    → EntriesLead (begin_entries id unique (record { header = header; stack = stack }))
    (record { header = header; stack = stack }) s2 → names_other id s2 ≡ false
names-begin_at id unique None stack s2 mine leads =
    let own : not (id == id) ≡ false = ap (λ (b : Bool). not b) (same-number id) in
    ⊎_elim
    (λ none. ap (λ (s : StateData). names_other id s) none)
    (λ named. ⊎_elim (λ none. ap (λ (s : StateData). names_other id s) none ∙ own)
    (λ begun. ap (λ (s : StateData). names_other id s) begun.2 ∙ own) named.2)
    leads
names-begin_at id unique (Some h) stack s2 mine leads =
    ⊎_elim (λ none. ap (λ (s : StateData). names_other id s) none ∙ mine)
    (λ begun. ap (λ (s : StateData). names_other id s) begun.2 ∙ mine) leads

pub names-begin : (id : ℕ) (unique : List ℕ) (s s2 : StateData) → names_other id s ≡ false
    → EntriesLead (begin_entries id unique s) s s2 → names_other id s2 ≡ false
names-begin id unique s s2 mine leads = names-begin_at id unique s.header s.stack s2 mine leads

board-begin_at : (id : ℕ) (unique : List ℕ) (header : Option JournalHeader)
    (stack : List SegmentData) (s2 : StateData)
    → names_other_board unique (record { header = header; stack = stack }) ≡ false
    → EntriesLead (begin_entries id unique (record { header = header; stack = stack }))
    (record { header = header; stack = stack }) s2 → names_other_board unique s2 ≡ false
board-begin_at id unique None stack s2 mine leads =
    let named : ℕ → JournalHeader = λ line.
    record { version = version_for unique; id = id; unique = unique; line = line }
    in
    ⊎_elim
    (λ none. ap (λ (s : StateData). names_other_board unique s) none)
    (λ more. ⊎_elim
    (λ none.
    ap (λ (s : StateData). names_other_board unique s) none
    ∙ own-board unique (named more.0) refl)
    (λ begun.
    ap (λ (s : StateData). names_other_board unique s) begun.2
    ∙ own-board unique (named more.0) refl)
    more.2)
    leads
board-begin_at id unique (Some h) stack s2 mine leads =
    ⊎_elim (λ none. ap (λ (s : StateData). names_other_board unique s) none ∙ mine)
    (λ begun. ap (λ (s : StateData). names_other_board unique s) begun.2 ∙ mine) leads

pub board-begin : (id : ℕ) (unique : List ℕ) (s s2 : StateData)
    → names_other_board unique s ≡ false
    → EntriesLead (begin_entries id unique s) s s2 → names_other_board unique s2 ≡ false
board-begin id unique s s2 mine leads =
    board-begin_at id unique s.header s.stack s2 mine leads

-- the other calls, each of which adds one entry
pub allowed-keep_page : (n : ℕ) (bytes : List ℕ) (s : StateData) → IsSound s
    → newest_may_keep n s ≡ true → AllAllowed (Keeps n bytes ∷ []) s
allowed-keep_page n bytes s sound may = (
  both (is_some s.header) (newest_may_keep n s) (sound.named (filled _ s.stack may)) may,
  λ line ends. tt,
)

pub allowed-intend_erase : (n : ℕ) (s : StateData) → IsSound s → newest_keeps n s ≡ true
    → AllAllowed (Erases n ∷ []) s
allowed-intend_erase n s sound kept = (
  both (is_some s.header) (newest_keeps n s) (sound.named (filled _ s.stack kept)) kept,
  λ line ends. tt,
)

pub allowed-intend_program : (n : ℕ) (s : StateData) → IsSound s → newest_keeps n s ≡ true
    → AllAllowed (Programs n ∷ []) s
allowed-intend_program n s sound kept = (
  both (is_some s.header) (newest_keeps n s) (sound.named (filled _ s.stack kept)) kept,
  λ line ends. tt,
)

pub allowed-end : (s : StateData) → IsSound s → newest_is_open s ≡ true
    → AllAllowed (Ends (length s.stack) ∷ []) s
allowed-end s sound may = (
  both (is_some s.header && newest_is_open s) (length s.stack == length s.stack)
      (both (is_some s.header) (newest_is_open s) (sound.named (filled _ s.stack may)) may)
      (same-number (length s.stack)),
  λ line ends. tt,
)

lt-tested : (n : ℕ) → 0 < n → nat_lt 0 n ≡ true
lt-tested n some = grind (arith, nat_tests)

pub allowed-undone : (s : StateData) → IsSound s → 0 < length s.stack
    → AllAllowed (Undoes (length s.stack) ∷ []) s
allowed-undone s sound some = (
  both (is_some s.header && nat_lt 0 (length s.stack)) (length s.stack == length s.stack)
      (both (is_some s.header) (nat_lt 0 (length s.stack)) (sound.named some)
      (lt-tested (length s.stack) some)) (same-number (length s.stack)),
  λ line ends. tt,
)

-- a header stays
pub header-entry : (line ends : ℕ) (s : StateData) (e : Entry) → IsSome s.header
    → IsTrue (allows s e) → (after_entry line ends s e).header ≡ s.header
header-entry line ends s (Names version id unique) named may = absurd (no_none s.header named may)
  where
    no_none : (header : Option JournalHeader) → IsSome header → IsTrue (is_none header) → ⊥
    no_none None named may = false≢true named
    no_none (Some h) named may = false≢true may
header-entry line ends s (Opens k) named may = refl
header-entry line ends s (Keeps n bytes) named may = refl
header-entry line ends s (Erases n) named may = refl
header-entry line ends s (Programs n) named may = refl
header-entry line ends s (Ends k) named may = refl
header-entry line ends s (Undoes k) named may = refl

pub header-leads : (entries : List Entry) (s s2 : StateData) → IsSome s.header
    → AllAllowed entries s → EntriesLead entries s s2 → s2.header ≡ s.header
header-leads [] s s2 named may leads = ap (λ (x : StateData). x.header) leads
header-leads (e ∷ entries) s s2 named may leads =
    ⊎_elim
    (λ none. ap (λ (x : StateData). x.header) none)
    (λ more.
    let same : (after_entry more.0 more.1 s e).header ≡ s.header =
    header-entry more.0 more.1 s e named may.0 in
    let H : Option JournalHeader → Type 0 = λ h. IsSome h in
    header-leads entries (after_entry more.0 more.1 s e) s2 (subst H (sym same) named)
    (may.1 more.0 more.1) more.2 ∙ same)
    leads
