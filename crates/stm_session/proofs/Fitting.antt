-- A journal is refused for what it keeps exactly where it isn't one of the chip.
use Rattle.std.proofs.Common.{◌≡◌, ℕ, ◌≤◌, Bool, true, false, not, ◌&&◌, ◌||◌, ◌==◌, nat_lt, if◌then◌else◌, List, [], ◌∷◌, ◌++◌, Option, Some, None, option_map, refl, sym, ◌∙◌, ap, arith}
use Rattle.std.specs.List.{list_any}
use Rattle.std.proofs.lemmas.Bool.{true≢false}
use Rattle.std.proofs.lemmas.Bool.Decides.{nat_tests}
use Rattle.stm_wire.proofs.Names.{ChipData, page_count}
use Rattle.stm_journal.specs.declared.header.JournalHeader.{JournalHeader}
use Rattle.stm_journal.specs.declared.kept.Kept.{Kept}
use Rattle.stm_journal.proofs.Names.{AllFit, AllKeptFit, fits_chip, names_other_board, SegmentData, StateData}
use Rattle.stm_session.proofs.Names.{AllKeepCompanions, Fault, fits_among, has_companion, HasVersion, header_misfits, IsJournalOf, lacks_companion, least, least_with, lesser, line_refusal}
use Rattle.stm_session.proofs.Names.{misfit_lines, misfit_lines_of, misfit_refusal}
use Rattle.stm_session.specs.declared.fault.Fault.TheVariants.{BadJournal, OtherBoard}

same-tested : (a b : ℕ) → (a == b) ≡ true → a ≡ b
same-tested a b h = grind (arith, nat_tests)

-- where there is no such line, each page fits
least-some : (least : ℕ) (lines : List ℕ) → least_with (Some least) lines ≡ None → ⊥
least-some least [] e = cc
least-some least (line ∷ lines) e = least-some (lesser (Some least) line) lines e

no-lines : (lines : List ℕ) → option_map (λ line. BadJournal line) (least lines) ≡ None → lines ≡ []
no-lines [] e = refl
no-lines (line ∷ lines) e = absurd (least-some line lines (unmapped (least_with (Some line) lines) e))
  where
    unmapped : (o : Option ℕ) → option_map (λ line. BadJournal line) o ≡ None → o ≡ None
    unmapped None e = refl
    unmapped (Some line) e = absurd (cc)

both-empty : (xs ys : List ℕ) → xs ++ ys ≡ [] → (xs ≡ []) × (ys ≡ [])
both-empty [] ys e = (refl, e)
both-empty (x ∷ xs) ys e = absurd (cc)

pub and-both : (a b : Bool) → (a && b) ≡ true → (a ≡ true) × (b ≡ true)
and-both true b h = (refl, h)
and-both false b h = absurd (true≢false (sym h))

no-line : (b : Bool) (line : ℕ) → (if b then [] else line ∷ []) ≡ [] → b ≡ true
no-line true line e = refl
no-line false line e = absurd (cc)

kept-fit : (chip : ChipData) (among pages : List Kept) → misfit_lines_of chip among pages ≡ [] → AllKeptFit chip pages
kept-fit chip among [] e = tt
kept-fit chip among (kept ∷ pages) e =
    let both = both-empty (if fits_among chip among kept then [] else kept.line ∷ []) (misfit_lines_of chip among pages) e in
    let each = and-both (fits_chip chip kept) (not (lacks_companion chip among kept.page)) (no-line (fits_among chip among kept) kept.line both.0) in
    (each.0, kept-fit chip among pages both.1)

-- where a page of these is page 1, its companion is among them
companion-there : (chip : ChipData) (among pages : List Kept) → misfit_lines_of chip among pages ≡ [] → has_companion chip ≡ true → list_any (λ kept. kept.page == 1) pages ≡ true
    → list_any (λ kept. kept.page == 257) among ≡ true
companion-there chip among [] e has one = absurd (true≢false (sym one))
companion-there chip among (kept ∷ pages) e has one =
    let both = both-empty (if fits_among chip among kept then [] else kept.line ∷ []) (misfit_lines_of chip among pages) e in
    let each = and-both (fits_chip chip kept) (not (lacks_companion chip among kept.page)) (no-line (fits_among chip among kept) kept.line both.0) in
    by_page (kept.page == 1) (companion-there chip among pages both.1 has) each.1 one
  where
    by_page : (b : Bool) → (list_any (λ kept. kept.page == 1) pages ≡ true → list_any (λ kept. kept.page == 257) among ≡ true) → not (b && has_companion chip && not (list_any (λ kept. kept.page == 257) among)) ≡ true → (b || list_any (λ kept. kept.page == 1) pages) ≡ true
        → list_any (λ kept. kept.page == 257) among ≡ true
    by_page false rest free later = rest later
    by_page true rest free later = kept-there (has_companion chip) (list_any (λ kept. kept.page == 257) among) has free
      where
        kept-there : (a b : Bool) → a ≡ true → not (true && a && not b) ≡ true → b ≡ true
        kept-there true true has free = refl
        kept-there true false has free = absurd (true≢false (sym free))
        kept-there false b has free = absurd (true≢false (sym has))

all-fit : (chip : ChipData) (stack : List SegmentData) → misfit_lines chip stack ≡ [] → AllFit chip stack × AllKeepCompanions chip stack
all-fit chip [] e = (tt, tt)
all-fit chip (segment ∷ older) e =
    let both = both-empty (misfit_lines_of chip segment.pages segment.pages) (misfit_lines chip older) e in
    let rest = all-fit chip older both.1 in
    ((kept-fit chip segment.pages segment.pages both.0, rest.0), (λ has one. companion-there chip segment.pages segment.pages both.0 has one, rest.1))

header-fits : (chip : ChipData) (header : Option JournalHeader) → header_misfits chip header ≡ [] → HasVersion chip header
header-fits chip None e = tt
header-fits chip (Some header) e = λ many. late (by_test (nat_lt 256 (page_count chip)) (nat_lt header.version 2) many e)
  where
    late : nat_lt header.version 2 ≡ false → 2 ≤ header.version
    late h = grind (arith, nat_tests)

    by_test : (a b : Bool) → a ≡ true → (if a && b then header.line ∷ [] else []) ≡ [] → b ≡ false
    by_test true true many e = absurd (cc)
    by_test true false many e = refl
    by_test false b many e = absurd (true≢false (sym many))

-- a journal that isn't refused is one of the chip
pub no-board : (other : Bool) (line : Option Fault) → (if other then Some OtherBoard else line) ≡ None → (other ≡ false) × (line ≡ None)
no-board true line e = absurd (let h : Some OtherBoard ≡ None = e in cc)
no-board false line e = (refl, e)

pub unrefused-fits : (chip : ChipData) (s : StateData) → misfit_refusal chip s ≡ None → IsJournalOf chip s
unrefused-fits chip s e =
    let own = no-board (names_other_board chip.unique s) (line_refusal chip s) e in
    let none = both-empty (header_misfits chip s.header) (misfit_lines chip s.stack) (no-lines (header_misfits chip s.header ++ misfit_lines chip s.stack) own.1) in
    let each = all-fit chip s.stack none.1 in
    record { board = own.0; version = header-fits chip s.header none.0; pages = each.0; companions = each.1 }

-- a page isn't alone where the segment keeps its companion
not-alone : (n : ℕ) (chip : ChipData) (among : List Kept) → ((n == 1) ≡ true → has_companion chip ≡ true → list_any (λ kept. kept.page == 257) among ≡ true) → not (lacks_companion chip among n) ≡ true
not-alone n chip among there = by_test (n == 1) (has_companion chip) (list_any (λ kept. kept.page == 257) among) there
  where
    by_test : (a b c : Bool) → (a ≡ true → b ≡ true → c ≡ true) → not (a && b && not c) ≡ true
    by_test true true true there = refl
    by_test true true false there = there refl refl
    by_test true false c there = refl
    by_test false b c there = refl

one-there : (a b : Bool) → a ≡ true → (a || b) ≡ true
one-there true b h = refl
one-there false b h = absurd (true≢false (sym h))

rest-there : (a b : Bool) → b ≡ true → (a || b) ≡ true
rest-there true b h = refl
rest-there false b h = h

pub both-hold : (a b : Bool) → a ≡ true → b ≡ true → (a && b) ≡ true
both-hold true b p q = q
both-hold false b p q = p

no-misfit : (b : Bool) (line : ℕ) (rest : List ℕ) → b ≡ true → rest ≡ [] → (if b then [] else line ∷ []) ++ rest ≡ []
no-misfit true line rest is none = none
no-misfit false line rest is none = absurd (true≢false (sym is))

pages-fit : (chip : ChipData) (among pages : List Kept) → (has_companion chip ≡ true → list_any (λ kept. kept.page == 1) pages ≡ true → list_any (λ kept. kept.page == 257) among ≡ true) → AllKeptFit chip pages
    → misfit_lines_of chip among pages ≡ []
pages-fit chip among [] there fit = refl
pages-fit chip among (kept ∷ pages) there (first, rest) =
    no-misfit (fits_among chip among kept) kept.line (misfit_lines_of chip among pages)
    (both-hold (fits_chip chip kept) (not (lacks_companion chip among kept.page)) first
    (not-alone kept.page chip among (λ one has. there has (one-there (kept.page == 1) (list_any (λ k. k.page == 1) pages) one))))
    (pages-fit chip among pages (λ has one. there has (rest-there (kept.page == 1) (list_any (λ k. k.page == 1) pages) one)) rest)

segments-fit : (chip : ChipData) (stack : List SegmentData) → AllFit chip stack → AllKeepCompanions chip stack → misfit_lines chip stack ≡ []
segments-fit chip [] fit there = refl
segments-fit chip (segment ∷ older) (first, rest) (has, more) =
    ap (λ lines. lines ++ misfit_lines chip older) (pages-fit chip segment.pages segment.pages has first) ∙ segments-fit chip older rest more

header-unrefused : (chip : ChipData) (header : Option JournalHeader) → HasVersion chip header → header_misfits chip header ≡ []
header-unrefused chip None is = refl
header-unrefused chip (Some header) is = by_test (nat_lt 256 (page_count chip)) (nat_lt header.version 2) (λ many. late (is many))
  where
    late : 2 ≤ header.version → nat_lt header.version 2 ≡ false
    late h = grind (arith, nat_tests)

    by_test : (a b : Bool) → (a ≡ true → b ≡ false) → (if a && b then header.line ∷ [] else []) ≡ []
    by_test true true is = absurd (true≢false (is refl))
    by_test true false is = refl
    by_test false b is = refl

pub fits-unrefused : (chip : ChipData) (s : StateData) → IsJournalOf chip s → misfit_refusal chip s ≡ None
fits-unrefused chip s of =
    ap (λ (other : Bool). if other then Some OtherBoard else line_refusal chip s) of.board
    ∙ ap (λ lines. option_map (λ line. BadJournal line) (least lines))
    (ap (λ lines. lines ++ misfit_lines chip s.stack) (header-unrefused chip s.header of.version) ∙ segments-fit chip s.stack of.pages of.companions)
