-- What was acknowledged stands before the first bad line of what a crash left, and before each line of
-- a page that doesn't fit the chip.
use Rattle.std.proofs.Common.{◌≡◌, ◌≤◌, ◌<◌, ◌+◌, ◌-◌, ◌==◌, ◌⊎◌, ⊎_elim, ℕ, suc, zero, Bool, true, false, if◌then◌else◌}
use Rattle.std.proofs.Common.{List, [], ◌∷◌, ◌++◌, length, take, drop, fold, refl, sym, ap, ◌∙◌, subst}
use Rattle.std.proofs.Common.{inl, inr, arith, Option, None, Some}
use Rattle.std.proofs.lemmas.Bool.{cases_Bool, true≢false}
use Rattle.std.proofs.lemmas.List.{length-take-le, take-take, take-append-drop}
use Rattle.std.proofs.lemmas.List.Sums.{fold-append}
use Rattle.stm_wire.proofs.Names.{ChipData}
use Rattle.stm_wire.specs.declared.intent.Intent.TheVariants.{Erase, Program}
use Rattle.stm_journal.specs.declared.kept.Kept.{Kept}
use Rattle.stm_journal.specs.declared.entry.Entry.{Entry}
use Rattle.stm_journal.specs.declared.entry.Entry.TheVariants.{Names, Opens, Keeps, Erases, Programs, Ends, Undoes}
use Rattle.stm_journal.proofs.Names.{after_entry, after_line, after_said, AllFit, AllKeptFit, allows, bad, ended_segment, entry_of, fits_chip, good, in_front, intending, is_void, journal_of}
use Rattle.stm_journal.proofs.Names.{JournalData, keeping, kept_in, on_newest, read_line, Reading, reading_of, SegmentData, start, StateData, Text, text_of}
use Rattle.stm_disk.specs.UnsyncedEnd.{lines_size, lines_before_bad, HasMisfit, KeepsMisfit, CutsKeepAcknowledged}
use Rattle.stm_disk.proofs.Stopping.{lines_in_front, lines-cons}

-- the tail is empty only where a line is behind the byte
front-whole : (b : ℕ) (lines : List (List ℕ)) (tail : List ℕ)
    → (in_front b (record { lines = lines; tail = tail })).tail ≡ []
    → (tail ≡ []) × (0 < length lines)
front-whole b [] tail is = absurd (omega (arith, ap (λ (ys : List ℕ). length ys) is))
front-whole b (l ∷ lines) tail is = (is, omega arith)

ends-whole : (xs : List ℕ) (b : ℕ) → (b == 10) ≡ true → (text_of (b ∷ xs)).tail ≡ []
    → (text_of xs).tail ≡ []
ends-whole xs b here is =
    subst (λ (v : Bool). (let t : Text = if v then record { lines = [] ∷ (text_of xs).lines; tail = (text_of xs).tail } else in_front b (text_of xs) in t).tail ≡ []) here is

goes-whole : (xs : List ℕ) (b : ℕ) → (b == 10) ≡ false → (text_of (b ∷ xs)).tail ≡ []
    → ((text_of xs).tail ≡ []) × (0 < length (text_of xs).lines)
goes-whole xs b other is =
    front-whole b (text_of xs).lines (text_of xs).tail
    (subst (λ (v : Bool). (let t : Text = if v then record { lines = [] ∷ (text_of xs).lines; tail = (text_of xs).tail } else in_front b (text_of xs) in t).tail ≡ []) other is)

front-behind : (b : ℕ) (xs ys : List (List ℕ)) → 0 < length xs
    → lines_in_front b (xs ++ ys) ≡ lines_in_front b xs ++ ys
front-behind b [] ys some = absurd (omega (arith, some))
front-behind b (l ∷ xs) ys some = refl

-- whole lines, and what stands behind them
lines-behind : (xs ys : List ℕ) → (text_of xs).tail ≡ []
    → (text_of (xs ++ ys)).lines ≡ (text_of xs).lines ++ (text_of ys).lines
lines-behind [] ys whole = refl
lines-behind (b ∷ xs) ys whole =
    let there = lines-cons b (xs ++ ys) in
    let alone = lines-cons b xs in
    elim (cases_Bool (b == 10)) as (λ _. (text_of ((b ∷ xs) ++ ys)).lines ≡ (text_of (b ∷ xs)).lines ++ (text_of ys).lines) [
      | inl here ↦
          there ∙ ap (λ (v : Bool). if v then [] ∷ (text_of (xs ++ ys)).lines else lines_in_front b (text_of (xs ++ ys)).lines) here
          ∙ ap (λ (ls : List (List ℕ)). [] ∷ ls) (lines-behind xs ys (ends-whole xs b here whole))
          ∙ sym (ap (λ (ls : List (List ℕ)). ls ++ (text_of ys).lines) (alone ∙ ap (λ (v : Bool). if v then [] ∷ (text_of xs).lines else lines_in_front b (text_of xs).lines) here))
      | inr other ↦
          let w = goes-whole xs b other whole in
          there ∙ ap (λ (v : Bool). if v then [] ∷ (text_of (xs ++ ys)).lines else lines_in_front b (text_of (xs ++ ys)).lines) other
          ∙ ap (λ (ls : List (List ℕ)). lines_in_front b ls) (lines-behind xs ys w.0)
          ∙ front-behind b (text_of xs).lines (text_of ys).lines w.1
          ∙ sym (ap (λ (ls : List (List ℕ)). ls ++ (text_of ys).lines) (alone ∙ ap (λ (v : Bool). if v then [] ∷ (text_of xs).lines else lines_in_front b (text_of xs).lines) other))
    ]

front-size : (b : ℕ) (rest : List ℕ) (lines : List (List ℕ)) → 0 < length lines → (b == 10) ≡ false
    → lines_size (length (lines_in_front b lines)) (b ∷ rest) ≡ suc (lines_size (length lines) rest)
front-size b rest [] some other = absurd (omega (arith, some))
front-size b rest (l ∷ lines) some other = rw other refl

-- so many lines are just these bytes
size-whole : (xs ys : List ℕ) → (text_of xs).tail ≡ []
    → lines_size (length (text_of xs).lines) (xs ++ ys) ≡ length xs
size-whole [] ys whole = refl
size-whole (b ∷ xs) ys whole =
    let alone = lines-cons b xs in
    elim (cases_Bool (b == 10)) as (λ _. lines_size (length (text_of (b ∷ xs)).lines) ((b ∷ xs) ++ ys) ≡ length (b ∷ xs)) [
      | inl here ↦
          ap (λ (ls : List (List ℕ)). lines_size (length ls) (b ∷ (xs ++ ys)))
          (alone ∙ ap (λ (v : Bool). if v then [] ∷ (text_of xs).lines else lines_in_front b (text_of xs).lines) here)
          ∙ ap (λ (v : Bool). if v then suc (lines_size (length (text_of xs).lines) (xs ++ ys)) else suc (lines_size (suc (length (text_of xs).lines)) (xs ++ ys))) here
          ∙ ap (λ (n : ℕ). suc n) (size-whole xs ys (ends-whole xs b here whole))
      | inr other ↦
          let w = goes-whole xs b other whole in
          ap (λ (ls : List (List ℕ)). lines_size (length ls) (b ∷ (xs ++ ys)))
          (alone ∙ ap (λ (v : Bool). if v then [] ∷ (text_of xs).lines else lines_in_front b (text_of xs).lines) other)
          ∙ front-size b (xs ++ ys) (text_of xs).lines w.1 other
          ∙ ap (λ (n : ℕ). suc n) (size-whole xs ys w.0)
    ]

-- more lines have no fewer bytes
size-rises : (xs : List ℕ) (k n : ℕ) → k ≤ n → lines_size k xs ≤ lines_size n xs
size-rises xs zero n le = omega arith
size-rises xs (suc k) zero le = absurd (omega (arith, le))
size-rises [] (suc k) (suc n) le = omega arith
size-rises (b ∷ xs) (suc k) (suc n) le =
    elim (cases_Bool (b == 10)) as (λ _. lines_size (suc k) (b ∷ xs) ≤ lines_size (suc n) (b ∷ xs)) [
      | inl here ↦ rw here (omega (arith, size-rises xs k n (omega (arith, le))))
      | inr other ↦ rw other (omega (arith, size-rises xs (suc k) (suc n) le))
    ]

-- A journal is good and has P, or its first bad line comes behind so many.
abbrev GoodOrBehind : (StateData → Type 0) → ℕ → JournalData → Type 0
GoodOrBehind P k (good s) = P s
GoodOrBehind P k (bad line) = k < line

-- P stays behind each line that comes behind so many
abbrev StaysBehind : (StateData → Type 0) → ℕ → Type 0
StaysBehind P k = (line ends : ℕ) (s : StateData) (e : Entry) → k < line → P s
    → P (after_entry line ends s e)

said-behind : (P : StateData → Type 0) (k n ends : ℕ) (s : StateData) (e : Option Entry)
    → StaysBehind P k → k ≤ n → P s → GoodOrBehind P k (after_said (n + 1) ends s e)
said-behind P k n ends s None stays le h = omega (arith, le)
said-behind P k n ends s (Some e) stays le h =
    elim (cases_Bool (allows s e)) as (λ _. GoodOrBehind P k (after_said (n + 1) ends s (Some e))) [
      | inl allowed ↦ rw allowed (stays (n + 1) ends s e (omega (arith, le)) h)
      | inr refused ↦ rw refused (omega (arith, le))
    ]

line-behind : (P : StateData → Type 0) (k n ends : ℕ) (j : JournalData) (text : List ℕ)
    → StaysBehind P k → k ≤ n → GoodOrBehind P k j
    → GoodOrBehind P k (after_line (n + 1) ends j text)
line-behind P k n ends (bad line) text stays le h = h
line-behind P k n ends (good s) text stays le h =
    elim (cases_Bool (is_void text)) as (λ _. GoodOrBehind P k (after_line (n + 1) ends (good s) text)) [
      | inl void ↦ rw void h
      | inr says ↦ rw says (said-behind P k n ends s (entry_of text) stays le h)
    ]

lines-stay-behind : (P : StateData → Type 0) (k : ℕ) (r : Reading) (ls : List (List ℕ))
    → StaysBehind P k → k ≤ r.lines → GoodOrBehind P k r.journal
    → GoodOrBehind P k (fold read_line r ls).journal
lines-stay-behind P k r [] stays le h = h
lines-stay-behind P k r (l ∷ ls) stays le h =
    lines-stay-behind P k (read_line r l) ls stays (omega (arith, le))
    (line-behind P k r.lines (r.size + length l) r.journal l stays le h)

count-lines : (r : Reading) (ls : List (List ℕ)) → (fold read_line r ls).lines ≡ r.lines + length ls
count-lines r [] = omega arith
count-lines r (l ∷ ls) = omega (arith, count-lines (read_line r l) ls)

-- what stands behind whole lines that are good and have P
behind-whole : (P : StateData → Type 0) (xs ys : List ℕ) (s : StateData)
    → StaysBehind P (length (text_of xs).lines) → (text_of xs).tail ≡ [] → journal_of xs ≡ good s
    → P s → GoodOrBehind P (length (text_of xs).lines) (journal_of (xs ++ ys))
behind-whole P xs ys s stays whole is p =
    let r : Reading = reading_of (text_of xs).lines in
    let count : r.lines ≡ length (text_of xs).lines = omega (arith, count-lines start (text_of xs).lines) in
    let ends : (reading_of (text_of (xs ++ ys)).lines).journal ≡ (fold read_line r (text_of ys).lines).journal =
    ap (λ (ls : List (List ℕ)). (reading_of ls).journal) (lines-behind xs ys whole)
    ∙ ap (λ (x : Reading). x.journal) (fold-append read_line start (text_of xs).lines (text_of ys).lines) in
    subst (λ (j : JournalData). GoodOrBehind P (length (text_of xs).lines) j) (sym ends)
    (lines-stay-behind P (length (text_of xs).lines) r (text_of ys).lines stays (omega (arith, count))
    (subst (λ (j : JournalData). GoodOrBehind P (length (text_of xs).lines) j) (sym is) p))

-- each page fits the chip, or its line comes behind so many
abbrev PagesFitOrBehind : ChipData → ℕ → List Kept → Type 0
PagesFitOrBehind chip k [] = Unit {0}
PagesFitOrBehind chip k (p ∷ ps) =
    ((fits_chip chip p ≡ true) ⊎ (k < p.line)) × PagesFitOrBehind chip k ps

abbrev FitOrBehind : ChipData → ℕ → List SegmentData → Type 0
FitOrBehind chip k [] = Unit {0}
FitOrBehind chip k (segment ∷ below) = PagesFitOrBehind chip k segment.pages × FitOrBehind chip k below

pages-fit : (chip : ChipData) (k : ℕ) (ps : List Kept) → AllKeptFit chip ps → PagesFitOrBehind chip k ps
pages-fit chip k [] h = tt
pages-fit chip k (p ∷ ps) h = (inl h.0, pages-fit chip k ps h.1)

all-fit : (chip : ChipData) (k : ℕ) (stack : List SegmentData) → AllFit chip stack → FitOrBehind chip k stack
all-fit chip k [] h = tt
all-fit chip k (segment ∷ below) h = (pages-fit chip k segment.pages h.0, all-fit chip k below h.1)

page-more : (chip : ChipData) (k : ℕ) (ps : List Kept) (p : Kept) → k < p.line
    → PagesFitOrBehind chip k ps → PagesFitOrBehind chip k (ps ++ p ∷ [])
page-more chip k [] p lt h = (inr lt, tt)
page-more chip k (x ∷ ps) p lt h = (h.0, page-more chip k ps p lt h.1)

newest-stays : (chip : ChipData) (k : ℕ) (change : SegmentData → SegmentData) (stack : List SegmentData)
    → ((x : SegmentData) → PagesFitOrBehind chip k x.pages → PagesFitOrBehind chip k (change x).pages)
    → FitOrBehind chip k stack → FitOrBehind chip k (on_newest change stack)
newest-stays chip k change [] stays h = tt
newest-stays chip k change (x ∷ below) stays h = (stays x h.0, h.1)

fewer-stay : (chip : ChipData) (k : ℕ) (stack : List SegmentData) → FitOrBehind chip k stack
    → FitOrBehind chip k (drop 1 stack)
fewer-stay chip k [] h = tt
fewer-stay chip k (x ∷ below) h = h.1

fit-stays : (chip : ChipData) (k line ends : ℕ) (s : StateData) (e : Entry) → k < line
    → FitOrBehind chip k s.stack → FitOrBehind chip k (after_entry line ends s e).stack
fit-stays chip k line ends s (Names version id unique) lt h = h
fit-stays chip k line ends s (Opens j) lt h = (tt, h)
fit-stays chip k line ends s (Keeps n bytes) lt h =
    newest-stays chip k (keeping (kept_in line ends n bytes)) s.stack
    (λ x old. page-more chip k x.pages (kept_in line ends n bytes) lt old) h
fit-stays chip k line ends s (Erases n) lt h =
    newest-stays chip k (intending (Erase n)) s.stack (λ x old. old) h
fit-stays chip k line ends s (Programs n) lt h =
    newest-stays chip k (intending (Program n)) s.stack (λ x old. old) h
fit-stays chip k line ends s (Ends j) lt h = newest-stays chip k ended_segment s.stack (λ x old. old) h
fit-stays chip k line ends s (Undoes j) lt h = fewer-stay chip k s.stack h

page-behind : (chip : ChipData) (k line : ℕ) (ps : List Kept) → PagesFitOrBehind chip k ps
    → HasMisfit chip line ps → k < line
page-behind chip k line [] h found = absurd found
page-behind chip k line (p ∷ ps) h (inr found) = page-behind chip k line ps h.1 found
page-behind chip k line (p ∷ ps) h (inl found) =
    ⊎_elim (λ fits. absurd (true≢false (sym fits ∙ found.1))) (λ lt. omega (arith, lt, found.0)) h.0

misfit-behind : (chip : ChipData) (k line : ℕ) (stack : List SegmentData) → FitOrBehind chip k stack
    → KeepsMisfit chip line stack → k < line
misfit-behind chip k line [] h found = absurd found
misfit-behind chip k line (x ∷ below) h (inl found) = page-behind chip k line x.pages h.0 found
misfit-behind chip k line (x ∷ below) h (inr found) = misfit-behind chip k line below h.1 found

-- behind whole lines that are good, a line is bad that is none of them
bad-behind : (xs ys : List ℕ) (s : StateData) (line : ℕ) → (text_of xs).tail ≡ []
    → journal_of xs ≡ good s → journal_of (xs ++ ys) ≡ bad line
    → length (text_of xs).lines < line
bad-behind xs ys s line whole is bad_there =
    subst (λ (j : JournalData). GoodOrBehind (λ _. Unit {0}) (length (text_of xs).lines) j) bad_there
    (behind-whole (λ _. Unit {0}) xs ys s (λ line ends s e lt h. h) whole is tt)

-- and where their pages fit the chip, so is a line whose page doesn't
no-fit-behind : (chip : ChipData) (xs ys : List ℕ) (s s2 : StateData) (line : ℕ)
    → (text_of xs).tail ≡ [] → journal_of xs ≡ good s → AllFit chip s.stack
    → journal_of (xs ++ ys) ≡ good s2 → KeepsMisfit chip line s2.stack
    → length (text_of xs).lines < line
no-fit-behind chip xs ys s s2 line whole is fit good_there found =
    let k : ℕ = length (text_of xs).lines in
    let P : StateData → Type 0 = λ (s : StateData). FitOrBehind chip k s.stack in
    misfit-behind chip k line s2.stack
    (subst (λ (j : JournalData). GoodOrBehind P k j) good_there
    (behind-whole P xs ys s (λ line ends s e lt h. fit-stays chip k line ends s e lt h) whole is
    (all-fit chip k s.stack fit))) found

-- what is before the first bad line has these lines at its front
front-before : (xs left : List ℕ) (n : ℕ) (j : JournalData) → n ≤ length left → take n left ≡ xs
    → ((line : ℕ) → j ≡ bad line → n ≤ lines_size (line - 1) left)
    → (ys : List ℕ) × (xs ++ ys ≡ lines_before_bad j left)
front-before xs left n (good s) le same within =
    (drop n left, ap (λ (ys : List ℕ). ys ++ drop n left) (sym same) ∙ take-append-drop n left)
front-before xs left n (bad line) le same within =
    let m : ℕ = lines_size (line - 1) left in (
      drop n (take m left),
      ap (λ (ys : List ℕ). ys ++ drop n (take m left)) (sym same ∙ sym (take-take n m left (within line refl)))
          ∙ take-append-drop n (take m left),
    )

pub keeps-acknowledged : CutsKeepAcknowledged
keeps-acknowledged chip synced n line seen left s m le whole is refused =
    let xs : List ℕ = take n seen in
    let same : take n left ≡ xs =
    sym (take-take n synced left le) ∙ ap (λ (ys : List ℕ). take n ys) m.kept ∙ take-take n synced seen le in
    let parts : left ≡ xs ++ drop n left =
    sym (take-append-drop n left) ∙ ap (λ (ys : List ℕ). ys ++ drop n left) same in
    let long : n ≤ length left = omega (arith, le, m.least) in
    let size : length xs ≡ n =
    ap (λ (ys : List ℕ). length ys) (sym same) ∙ length-take-le n left long in
    let k : ℕ = length (text_of xs).lines in
    let whole_size : lines_size k left ≡ n =
    ap (λ (ys : List ℕ). lines_size k ys) parts ∙ size-whole xs (drop n left) whole ∙ size in
    let behind : (b : ℕ) → k < b → n ≤ lines_size (b - 1) left =
    λ b lt. (let rises = size-rises left k (b - 1) (omega (arith, lt)) in omega (arith, rises, whole_size)) in
    let bad_at : (b : ℕ) → journal_of left ≡ bad b → k < b =
    λ b there. bad-behind xs (drop n left) s b whole is (ap (λ (ys : List ℕ). journal_of ys) (sym parts) ∙ there) in
    let at : k < line =
    ⊎_elim (λ there. bad_at line there)
    (λ misfit.
    (let front = front-before xs left n (journal_of left) long same (λ b there. behind b (bad_at b there)) in
    no-fit-behind chip xs front.0 s misfit.1.0 line whole is misfit.0
    (ap (λ (ys : List ℕ). journal_of ys) front.1 ∙ misfit.1.1) misfit.1.2)) refused in
    let within : n ≤ lines_size (line - 1) left = behind line at in
    (within, take-take n (lines_size (line - 1) left) left within ∙ same)
