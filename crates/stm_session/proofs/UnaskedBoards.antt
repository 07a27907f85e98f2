-- A journal of a board isn't refused before that is asked: what fits a board fits the whole chip, or one with fewer pages.
use Rattle.std.proofs.Common.{◌≡◌, ◌⊎◌, inl, inr, ℕ, ◌*◌, ◌<◌, ◌≤◌, Bool, true, false, not, ◌&&◌, ◌||◌, ◌==◌, nat_lt, if◌then◌else◌, List, [], ◌∷◌, length, take, Option, Some, None, IsTrue, refl, sym, ◌∙◌, ap, subst, arith}
use Rattle.std.specs.Prelude.{bytes_eq, is_none, is_some}
use Rattle.std.specs.Option.{option_map_or}
use Rattle.std.proofs.lemmas.Bool.{cases_Bool, true≢false}
use Rattle.std.proofs.lemmas.Bool.Decides.{nat_tests}
use Rattle.std.proofs.lemmas.List.{length-take}
use Rattle.std.proofs.lemmas.Slice.Eq.{bytes_eq-Decides}
use Rattle.stm_wire.specs.declared.places.UniquePlace.{UniquePlace}
use Rattle.stm_wire.proofs.Names.{ChipData, flash_size, of_board, page_count, page_size, pages_within}
use Rattle.stm_journal.specs.declared.header.JournalHeader.{JournalHeader}
use Rattle.stm_journal.specs.declared.kept.Kept.{Kept}
use Rattle.stm_journal.proofs.Names.{AllFit, AllKeptFit, board_of, fits_chip, is_other_board, names_other_board, SegmentData, StateData}
use Rattle.stm_session.proofs.Names.{AllKeepCompanions, cut_as_told, Fault, first_of, fits_fewer, has_companion, HasVersion, is_never_told, IsJournalOf, IsPartOf, line_refusal, names_no_board}
use Rattle.stm_session.proofs.Names.{size_at, size_of, told_length, unasked_refusal, unique_at, unique_of, unique_told}
use Rattle.stm_session.specs.declared.fault.Fault.TheVariants.{OtherBoard}
use Rattle.stm_session.proofs.Fitting.{and-both, both-hold, fits-unrefused, no-board}
use Rattle.stm_session.proofs.Misfits.{first_all, first_size}

less : (a b : ℕ) → nat_lt a b ≡ true → a < b
less a b h = grind (arith, nat_tests)

is-less : (a b : ℕ) → a < b → nat_lt a b ≡ true
is-less a b h = grind (arith, nat_tests)

same-tested : (a b : ℕ) → (a == b) ≡ true → a ≡ b
same-tested a b h = grind (arith, nat_tests)

-- The first p pages of a chip, and the first q, which are as many or more.
module _ (chip : ChipData) (p q : ℕ) (le : page_count (first_of p chip) ≤ page_count (first_of q chip)) where
  kept-further : (kept : Kept) → fits_chip (first_of p chip) kept ≡ true → fits_chip (first_of q chip) kept ≡ true
  kept-further kept fits =
      let both = and-both (nat_lt kept.page (page_count (first_of p chip))) (length kept.bytes == page_size (first_of p chip) kept.page) fits in
      let within : kept.page < page_count (first_of p chip) = less kept.page (page_count (first_of p chip)) both.0 in
      let further : kept.page < page_count (first_of q chip) = omega (arith, within, le) in
      both-hold (nat_lt kept.page (page_count (first_of q chip))) (length kept.bytes == page_size (first_of q chip) kept.page) (is-less kept.page (page_count (first_of q chip)) further)
      (ap (λ (n : ℕ). length kept.bytes == n) (first_size q chip kept.page further ∙ sym (first_size p chip kept.page within)) ∙ both.1)

  pages-further : (pages : List Kept) → AllKeptFit (first_of p chip) pages → AllKeptFit (first_of q chip) pages
  pages-further [] fit = tt
  pages-further (kept ∷ pages) (first, rest) = (kept-further kept first, pages-further pages rest)

  stack-further : (stack : List SegmentData) → AllFit (first_of p chip) stack → AllFit (first_of q chip) stack
  stack-further [] fit = tt
  stack-further (segment ∷ older) (first, rest) = (pages-further segment.pages first, stack-further older rest)

  companions-further : (IsTrue (has_companion (first_of q chip)) → IsTrue (has_companion (first_of p chip))) → (stack : List SegmentData) → AllKeepCompanions (first_of p chip) stack → AllKeepCompanions (first_of q chip) stack
  companions-further has [] keep = tt
  companions-further has (segment ∷ older) (first, rest) = (λ there. first (has there), companions-further has older rest)

  version-further : (IsTrue (nat_lt 256 (page_count (first_of q chip))) → IsTrue (nat_lt 256 (page_count (first_of p chip)))) → (header : Option JournalHeader) → HasVersion (first_of p chip) header → HasVersion (first_of q chip) header
  version-further many None version = tt
  version-further many (Some header) version = λ there. version (many there)

  journal-further : (unique : List ℕ) (s : StateData) → (IsTrue (has_companion (first_of q chip)) → IsTrue (has_companion (first_of p chip)))
      → (IsTrue (nat_lt 256 (page_count (first_of q chip))) → IsTrue (nat_lt 256 (page_count (first_of p chip)))) → IsJournalOf (of_board unique (first_of p chip)) s → IsJournalOf (of_board unique (first_of q chip)) s
  journal-further unique s has many of = record {
    board = of.board;
    version = version-further many s.header of.version;
    pages = stack-further s.stack of.pages;
    companions = companions-further has s.stack of.companions;
  }

-- a journal of a board is refused for no line, by the same chip of any board
line-none : (chip : ChipData) (unique : List ℕ) (s : StateData) → IsJournalOf (of_board unique chip) s → line_refusal chip s ≡ None
line-none chip unique s of = (no-board (names_other_board unique s) (line_refusal chip s) (fits-unrefused (of_board unique chip) s of)).1

never : (b : Bool) → b ≡ false → IsTrue b → ⊥
never true is there = true≢false is
never false is there = true≢false (sym there)

-- of a board with the first p pages
module _ (chip : ChipData) (unique : List ℕ) (s : StateData) (p : ℕ) (of : IsJournalOf (of_board unique (first_of p chip)) s) where
  abbrev count : ℕ
  count = page_count (first_of p chip)

  fits-first : (q : ℕ) → count ≤ page_count (first_of q chip) → (257 < page_count (first_of q chip) → 257 < count) → (256 < page_count (first_of q chip) → 256 < count) → line_refusal (first_of q chip) s ≡ None
  fits-first q le has many =
      line-none (first_of q chip) unique s
      (journal-further chip p q le unique s (λ there. is-less 257 count (has (less 257 (page_count (first_of q chip)) there))) (λ there. is-less 256 count (many (less 256 (page_count (first_of q chip)) there))) of)

  -- it has more pages than page 257, and the whole chip is as it is
  whole : 257 < count → line_refusal chip s ≡ None
  whole more =
      let all : ℕ = page_count chip in
      let same : first_of all chip ≡ chip = first_all all chip (omega arith) in
      ap (λ (c : ChipData). line_refusal c s) (sym same)
      ∙ fits-first all (omega (arith, length-take p chip.sizes, length-take all chip.sizes)) (λ there. more) (λ there. omega (arith, more))

  -- or it has just 257, or fewer
  of257 : count ≤ 257 → 257 ≤ count → line_refusal (first_of 257 chip) s ≡ None
  of257 most least =
      fits-first 257 (omega (arith, most, length-take p chip.sizes, length-take 257 chip.sizes)) (λ there. absurd (omega (arith, there, length-take 257 chip.sizes))) (λ there. omega (arith, least))

  of256 : count ≤ 256 → line_refusal (first_of 256 chip) s ≡ None
  of256 most =
      fits-first 256 (omega (arith, most, length-take p chip.sizes, length-take 256 chip.sizes)) (λ there. absurd (omega (arith, there, length-take 256 chip.sizes))) (λ there. absurd (omega (arith, there, length-take 256 chip.sizes)))

unrefused-by : (size : Bool) (first second all : Option Fault) → size ≡ true → (first ≡ None) ⊎ (second ≡ None) ⊎ (all ≡ None) → (if size && (is_none first || is_none second) then None else all) ≡ None
unrefused-by true None second all is e = refl
unrefused-by true (Some x) None all is e = refl
unrefused-by true (Some x) (Some y) all is (inl e) = absurd (cc)
unrefused-by true (Some x) (Some y) all is (inr (inl e)) = absurd (cc)
unrefused-by true (Some x) (Some y) all is (inr (inr e)) = e
unrefused-by false first second all is e = absurd (true≢false (sym is))

unrefused-whole : (size : Bool) (first second all : Option Fault) → all ≡ None → (if size && (is_none first || is_none second) then None else all) ≡ None
unrefused-whole size first second all none = by_test (size && (is_none first || is_none second))
  where
    by_test : (b : Bool) → (if b then None else all) ≡ None
    by_test true = refl
    by_test false = none

abbrev lines : ChipData → StateData → Option Fault
lines chip s = if fits_fewer chip s then None else line_refusal chip s

some-size : (place : Option ℕ) (size kib : ℕ) → size_at place size ≡ Some kib → is_some place ≡ true
some-size None size kib e = absurd (let h : None ≡ Some kib = e in cc)
some-size (Some address) size kib e = refl

-- the lines of a journal of a board that told this size
fits-told : (listed : ChipData) (unique : List ℕ) (s : StateData) (told : Option ℕ) → ((kib : ℕ) → told ≡ Some kib → is_some listed.places.size ≡ true) → IsJournalOf (of_board unique (cut_as_told told listed)) s → lines listed s ≡ None
fits-told listed unique s None sized of =
    unrefused-whole (is_some listed.places.size) (line_refusal (first_of 257 listed) s) (line_refusal (first_of 256 listed) s) (line_refusal listed s) (line-none listed unique s of)
fits-told listed unique s (Some kib) sized of = elim (cases_Bool (p == 0)) [
  | inl zero ↦
      let J : List ℕ → Type 0 = λ sizes. IsJournalOf (of_board unique (record listed { sizes = sizes })) s in
      unrefused-whole (is_some listed.places.size) (line_refusal (first_of 257 listed) s) (line_refusal (first_of 256 listed) s) (line_refusal listed s)
      (line-none listed unique s (subst J (ap (λ (b : Bool). if b then listed.sizes else take p listed.sizes) zero) of))
  | inr some ↦
      let J : List ℕ → Type 0 = λ sizes. IsJournalOf (of_board unique (record listed { sizes = sizes })) s in
      let first = subst J (ap (λ (b : Bool). if b then listed.sizes else take p listed.sizes) some) of in
      unrefused-by (is_some listed.places.size) (line_refusal (first_of 257 listed) s) (line_refusal (first_of 256 listed) s) (line_refusal listed s) (sized kib refl)
      (by_count first (cases_Bool (nat_lt 257 (page_count (first_of p listed)))) (cases_Bool (nat_lt 256 (page_count (first_of p listed)))))
]
  where
    p : ℕ
    p = pages_within listed.sizes (kib * 1024)

    no-more : (a b : ℕ) → nat_lt a b ≡ false → b ≤ a
    no-more a b h = grind (arith, nat_tests)

    by_count : IsJournalOf (of_board unique (first_of p listed)) s → (nat_lt 257 (page_count (first_of p listed)) ≡ true) ⊎ (nat_lt 257 (page_count (first_of p listed)) ≡ false)
        → (nat_lt 256 (page_count (first_of p listed)) ≡ true) ⊎ (nat_lt 256 (page_count (first_of p listed)) ≡ false)
        → (line_refusal (first_of 257 listed) s ≡ None) ⊎ (line_refusal (first_of 256 listed) s ≡ None) ⊎ (line_refusal listed s ≡ None)
    by_count first (inl more) many = inr (inr (whole listed unique s p first (less 257 (page_count (first_of p listed)) more)))
    by_count first (inr few) (inl many) = inl (of257 listed unique s p first (no-more 257 (page_count (first_of p listed)) few) (omega (arith, less 256 (page_count (first_of p listed)) many)))
    by_count first (inr few) (inr fewer) = inr (inl (of256 listed unique s p first (no-more 256 (page_count (first_of p listed)) fewer)))

-- a unique id that a board tells, or none
told-of : (place : Option UniquePlace) (unique : List ℕ) → unique ≡ unique_at place unique → (length unique ≡ 0) ⊎ (length unique ≡ told_length place)
told-of None unique e = inl (ap (λ (u : List ℕ). length u) e)
told-of (Some place) unique e = elim (cases_Bool (length unique == place.length)) [
  | inl same ↦ inr (same-tested (length unique) place.length same)
  | inr other ↦ inl (ap (λ (u : List ℕ). length u) (e ∙ ap (λ (b : Bool). if b then unique_told (Some unique) else []) other))
]

same-at : (a b : ℕ) → a ≡ b → (a == b) ≡ true
same-at a b h = grind (arith, nat_tests)

is-told : (listed : ChipData) (unique : List ℕ) → (length unique ≡ 0) ⊎ (length unique ≡ told_length listed.places.unique) → is_never_told listed unique ≡ false
is-told listed unique (inl none) = ap (λ (b : Bool). not b && not (length unique == told_length listed.places.unique)) (same-at (length unique) 0 none)
is-told listed unique (inr told) =
    ap (λ (b : Bool). not (length unique == 0) && not b) (same-at (length unique) (told_length listed.places.unique) told) ∙ no-and (not (length unique == 0))
  where
    no-and : (a : Bool) → (a && false) ≡ false
    no-and true = refl
    no-and false = refl

not-false : (b : Bool) → not b ≡ false → b ≡ true
not-false true e = refl
not-false false e = absurd (true≢false e)

names-told : (listed : ChipData) (unique : List ℕ) (board : Option (List ℕ)) → is_other_board unique board ≡ false → is_never_told listed unique ≡ false → option_map_or (is_never_told listed) board false ≡ false
names-told listed unique None own told = refl
names-told listed unique (Some board) own told = ap (is_never_told listed) ((bytes_eq-Decides board unique).0 (not-false (bytes_eq board unique) own)) ∙ told

cut-places : (told : Option ℕ) (listed : ChipData) → (cut_as_told told listed).places ≡ listed.places
cut-places None listed = refl
cut-places (Some kib) listed = refl

unasked-by : (b : Bool) (rest : Option Fault) → b ≡ false → rest ≡ None → (if b then Some OtherBoard else rest) ≡ None
unasked-by true rest is none = absurd (true≢false is)
unasked-by false rest is none = none

pub part-unasked : (listed chip : ChipData) (s : StateData) → IsPartOf listed chip → IsJournalOf chip s → unasked_refusal listed s ≡ None
part-unasked listed chip s part of =
    let places : chip.places ≡ listed.places = ap (λ (c : ChipData). c.places) part ∙ cut-places (size_of chip) listed in
    let own : chip.unique ≡ unique_of chip = ap (λ (c : ChipData). c.unique) part in
    let told : (length chip.unique ≡ 0) ⊎ (length chip.unique ≡ told_length listed.places.unique) =
    subst (λ (p : Option UniquePlace). (length chip.unique ≡ 0) ⊎ (length chip.unique ≡ told_length p)) (ap (λ p. p.unique) places) (told-of chip.places.unique chip.unique own)
    in
    let J : ChipData → Type 0 = λ c. IsJournalOf c s in
    unasked-by (names_no_board listed s) (lines listed s) (names-told listed chip.unique (board_of s) of.board (is-told listed chip.unique told))
    (fits-told listed (unique_of chip) s (size_of chip) (λ kib e. ap (λ p. is_some p.size) (sym places) ∙ some-size chip.places.size (flash_size chip) kib e) (subst J part of))
