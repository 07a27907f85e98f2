-- The steps of an undo change only pages that the newest segment of the lines keeps.
use Rattle.std.proofs.Common.{◌≡◌, ◌+◌, Contains, ℕ, zero, suc, List, [], ◌∷◌, ◌++◌, length, map, inl, inr, refl, ap, subst, arith}
use Rattle.std.specs.List.{AllByRecursion}
use Rattle.stm_wire.proofs.Names.{ChipData, Turn}
use Rattle.stm_journal.specs.declared.entry.Entry.{Entry}
use Rattle.stm_journal.specs.declared.entry.Entry.TheVariants.{Undoes}
use Rattle.stm_journal.specs.declared.kept.Kept.{Kept}
use Rattle.stm_session.proofs.Names.{Adds, erasing, IsOfNewest, looks, MaySend, MayTake, programming, PutsBack, Sends, Step, undoing}
use Rattle.stm_session.specs.Kept.{erases, reads, writes}
use Rattle.stm_any_line.specs.Calls.{AllSay, UndoSays}
use Rattle.stm_any_line.specs.Segments.{HasPage, IsNewest, SavedPage, saved, segments_behind_lines}
use Rattle.stm_any_line.specs.Tracks.{MayPut, MaySayAll, sends, Tracks}
use Rattle.stm_any_line.proofs.Tracking.{Segments}

-- the numbers of kept pages, and of those that lines keep
abbrev numbers_of : List Kept → List ℕ
numbers_of pages = map (λ kept. kept.page) pages

abbrev saved_numbers : List SavedPage → List ℕ
saved_numbers pages = map (λ page. page.number) pages

-- the same numbers in each segment
abbrev pub AreSame : List (List Kept) → Segments → Type 0
AreSame kept s = map (λ pages. numbers_of pages) kept ≡ map (λ pages. saved_numbers pages) s

-- lists of lists of numbers
first_list : List (List ℕ) → List ℕ
first_list [] = []
first_list (x ∷ xs) = x

other_lists : List (List ℕ) → List (List ℕ)
other_lists [] = []
other_lists (x ∷ xs) = xs

no_lists : (x : List ℕ) (xs : List (List ℕ)) → x ∷ xs ≡ [] → ⊥
no_lists x xs e = cc e

has-number : (pages : List SavedPage) (n : ℕ) → Contains (saved_numbers pages) n
    → (bytes : List ℕ) × HasPage pages n bytes
has-number [] n (k, lt, e) = absurd (omega (arith, lt))
has-number (page ∷ pages) n (zero, lt, e) =
    let P : ℕ → Type 0 = λ m. page ≡ saved m page.bytes in
    (page.bytes, inl (subst P e refl))
has-number (page ∷ pages) n (suc k, lt, e) =
    let rest = has-number pages n (k, omega (arith, lt), e) in
    (rest.0, inr rest.1)

newest-same : (kept : List (List Kept)) (s : Segments) (n : ℕ) → AreSame kept s
    → IsOfNewest n kept → IsNewest n s
unfolding first_list
newest-same [] s n same is = absurd is
newest-same (pages ∷ kept) [] n same is =
    absurd (no_lists (numbers_of pages) (map (λ ps. numbers_of ps) kept) same)
newest-same (pages ∷ kept) (own ∷ s) n same is =
    let P : List ℕ → Type 0 = λ l. Contains l n in
    has-number own n (subst P (ap first_list same) is)

below-same : (pages : List Kept) (below : List (List Kept)) (s : Segments)
    → AreSame (pages ∷ below) s → AreSame below (segments_behind_lines s (Undoes (length below + 1) ∷ []))
unfolding other_lists
below-same pages below [] same =
    absurd (no_lists (numbers_of pages) (map (λ ps. numbers_of ps) below) same)
below-same pages below (own ∷ s) same = ap other_lists same

puts-same : (chip : ChipData) (kept : List (List Kept)) (s : Segments) (turns : List Turn)
    → AreSame kept s → MaySend chip (λ n. IsOfNewest n kept) turns
    → MayPut chip (λ n. IsNewest n s) turns
puts-same chip kept s turns same (reads address answer is) = sends (reads address answer is)
puts-same chip kept s turns same (looks place look) = sends (looks place look)
puts-same chip kept s turns same (erases n own is) =
    sends (erases n (newest-same kept s n same own) is)
puts-same chip kept s turns same (writes n offset bytes own some within is) =
    sends (writes n offset bytes (newest-same kept s n same own) some within is)

-- a line that may come next
record Takes (chip : ChipData) (s : Segments) (b : List Step) (entries : List Entry)
    (later : List (List Kept)) : Type 0 where
  may : MaySayAll chip s b entries
  same : AreSame later (segments_behind_lines s entries)

takes : (chip : ChipData) (kept later : List (List Kept)) (s : Segments) (b : List Step)
    (entries : List Entry) → AreSame kept s → MayTake kept entries later
    → Takes chip s b entries later
takes chip kept _ s b _ same (erasing n _ own) =
    record { may = (newest-same kept s n same own, tt); same = same }
takes chip kept _ s b _ same (programming n _ own) =
    record { may = (newest-same kept s n same own, tt); same = same }
takes chip _ _ s b _ same (undoing pages below) =
    record { may = (tt, tt); same = below-same pages below s same }

pub puts_track : (chip : ChipData) (kept : List (List Kept)) (s : Segments) (b steps : List Step)
    → AreSame kept s → PutsBack chip kept steps → Tracks chip s b steps
puts_track chip kept s b [] same puts = tt
puts_track chip kept s b (Adds entries ∷ steps) same (later, may, puts) =
    let taken = takes chip kept later s b entries same may in
    (taken.may, puts_track chip later (segments_behind_lines s entries) (b ++ Adds entries ∷ []) steps taken.same puts)
puts_track chip kept s b (Sends turns ∷ steps) same (may, puts) =
    (puts-same chip kept s turns same may, puts_track chip kept s (b ++ Sends turns ∷ []) steps same puts)

-- and they add no line but those of an undo
take-says : (kept later : List (List Kept)) (entries : List Entry) → MayTake kept entries later
    → AllByRecursion UndoSays entries
take-says _ _ _ (undoing pages below) = (tt, tt)
take-says kept _ _ x = (tt, tt)

pub puts_say : (chip : ChipData) (kept : List (List Kept)) (steps : List Step)
    → PutsBack chip kept steps → AllSay UndoSays steps
puts_say chip kept [] puts = tt
puts_say chip kept (Adds entries ∷ steps) (later, may, puts) =
    (take-says kept later entries may, puts_say chip later steps puts)
puts_say chip kept (Sends turns ∷ steps) (may, puts) = puts_say chip kept steps puts
