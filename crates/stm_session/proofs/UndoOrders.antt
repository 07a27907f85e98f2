-- Beginnings of what an undo does: there is always something left to do, or nothing is.
use Rattle.std.proofs.Common.{◌≡◌, ℕ, zero, suc, ◌+◌, ◌-◌, ◌/◌, ◌<◌, ◌≤◌, Bool, List, [], ◌∷◌, ◌++◌, length, take, drop, replicate, Some, None, Result, IsErrAnd, refl, sym, ◌∙◌, ap, ap₂, subst, arith, append_assoc, length-append}
use Rattle.std.specs.Prelude.{slice_get}
use Rattle.std.proofs.lemmas.List.{length-drop, length-map, length-replicate}
use Rattle.stm_wire.proofs.Names.{ChipData, erased_byte, GoesOn, page_size, RigState}
use Rattle.stm_chip.specs.Plan.{frames_of}
use Rattle.stm_journal.specs.declared.fault.JournalFault.{JournalFault}
use Rattle.stm_journal.specs.declared.fault.JournalFault.TheVariants.{File}
use Rattle.stm_journal.specs.declared.kept.Kept.{Kept}
use Rattle.stm_journal.proofs.Names.{pages_of_segments, SegmentData}
use Rattle.stm_session.proofs.Names.{Are, AreAllUndone, AreGivenBack, AreReadsOf, AreRewritten, AreSegmentsUndone, Begin, BeginTold, Cause, cause_of, ending_steps, Fault, fault_of_journal, FaultEnds}
use Rattle.stm_session.proofs.Names.{IsGivenBack, IsInOrder, IsRewritten, IsSegmentUndone, page_address, page_reads, read_steps, return_steps, rewrite_steps, so_far, Step, StepFailsBy, StopsBy, Tells}
use Rattle.stm_session.proofs.Names.{tells_behind, torn_behind}
use Rattle.stm_session.proofs.CutShort.{by_fault, halts}
use Rattle.stm_session.proofs.Orders.{returned_next, taken_next}
use Rattle.stm_session.proofs.Tellings.{SaysAlso, behind_both, pages_as, returned_as, rewritten_as, segments_as, taken_as, work_as}

-- the journal may have told anything
abbrev pub IsFree : Tells → Type 0
IsFree Told = (steps : List Step) (page : List ℕ) → Told steps page

free_behind : (Told : Tells) (first : List Step) → IsFree Told → IsFree (tells_behind first Told)
free_behind Told first free steps page = free (first ++ steps) page

-- a page is returned, once it was read
pub some_return : (again : Bool) (chip : ChipData) (Told : Tells) (n : ℕ) (held : List ℕ) → length held ≡ page_size chip n → ((page : List ℕ) → Told (page_reads chip n held) page) → (more : List Step) × IsGivenBack again chip Told n (page_reads chip n held ++ more)
some_return again chip Told n held size free =
    let page : List ℕ = replicate (page_size chip n) 0 in
    (return_steps again chip n held page, record { held = held; held_size = size; page = page; size = length-replicate {A = ℕ} (page_size chip n) 0; told = free page; is = refl })

some_page : (again : Bool) (chip : ChipData) (Told : Tells) (n : ℕ) → IsFree Told → (steps : List Step) × IsGivenBack again chip Told n steps
some_page again chip Told n free =
    let held : List ℕ = replicate (page_size chip n) 0 in
    let made = some_return again chip Told n held (length-replicate {A = ℕ} (page_size chip n) 0) (free (page_reads chip n held)) in
    (page_reads chip n held ++ made.0, made.1)

-- a page is begun: it was read, or in part
pub return_read : (again : Bool) (chip : ChipData) (Told : Tells) (n : ℕ) (held : List ℕ) → length held ≡ page_size chip n → BeginTold (λ T. IsGivenBack again chip T n) Told (page_reads chip n held)
return_read again chip Told n held size = some_return again chip (so_far (length (page_reads chip n held)) Told) n held size (λ page lt. absurd (omega (arith, lt)))

pub return_reading : (again : Bool) (chip : ChipData) (Told : Tells) (n start size : ℕ) → start ≡ page_address chip n → size ≡ page_size chip n → (ys : List Step) → Begin (AreReadsOf start size) ys → BeginTold (λ T. IsGivenBack again chip T n) Told ys
return_reading again chip Told n start size at whole ys (rest, reads) =
    let T = so_far (length ys) Told in
    let is : ys ++ rest ≡ page_reads chip n reads.held = reads.is ∙ ap₂ (λ (k z : ℕ). read_steps k (z / 256) reads.held) at whole in
    let long : length ys + length rest ≡ length (page_reads chip n reads.held) = sym (length-append ys rest) ∙ ap (λ (l : List Step). length l) is in
    let made = some_return again chip T n reads.held (reads.size ∙ whole) (λ page lt. absurd (omega (arith, lt, long))) in
    let P : List Step → Type 0 = λ l. IsGivenBack again chip T n l in
    (rest ++ made.0, subst P (ap (λ (l : List Step). l ++ made.0) (sym is) ∙ append_assoc ys rest made.0) made.1)

-- pages are
some_pages : (again : Bool) (chip : ChipData) (Told : Tells) (pages : List Kept) → IsFree Told → (steps : List Step) × AreGivenBack again chip Told pages steps
some_pages again chip Told [] free = ([], refl)
some_pages again chip Told (kept ∷ pages) free =
    let first = some_page again chip Told kept.page free in
    let rest = some_pages again chip (tells_behind first.0 Told) pages (free_behind Told first.0 free) in
    (first.0 ++ rest.0, (first.0, rest.0, refl, first.1, rest.1))

-- a page at work is
pub some_rewrite : (chip : ChipData) (Told : Tells) (n : ℕ) → BeginTold (λ T. IsRewritten chip T n) Told []
some_rewrite chip Told n =
    let page : List ℕ = replicate (page_size chip n) 0 in (
      rewrite_steps chip n page (frames_of (erased_byte chip) page (length page / 256)),
      record { page = page; size = length-replicate {A = ℕ} (page_size chip n) 0; told = λ lt. absurd (omega (arith, lt)); is = refl },
    )

-- more of them are
some_rewrites : (chip : ChipData) (Told : Tells) (work : List ℕ) → IsFree Told → (steps : List Step) × AreRewritten chip Told work steps
some_rewrites chip Told [] free = ([], refl)
some_rewrites chip Told (n ∷ work) free =
    let page : List ℕ = replicate (page_size chip n) 0 in
    let first : List Step = rewrite_steps chip n page (frames_of (erased_byte chip) page (length page / 256)) in
    let rest = some_rewrites chip (tells_behind first Told) work (free_behind Told first free) in
    (first ++ rest.0, (first, rest.0, refl, record { page = page; size = length-replicate {A = ℕ} (page_size chip n) 0; told = free [] page; is = refl }, rest.1))

-- segments are undone
pub some_segments : (again : Bool) (chip : ChipData) (Told : Tells) (taken : ℕ) (segments : List (List Kept)) → IsFree Told → taken ≤ length segments → (steps : List Step) × AreSegmentsUndone again chip Told taken segments steps
some_segments again chip Told zero segments free within = ([], refl)
some_segments again chip Told (suc taken) [] free within = absurd (omega (arith, within))
some_segments again chip Told (suc taken) (pages ∷ below) free within =
    let returns = some_pages again chip Told pages free in
    let first : List Step = returns.0 ++ ending_steps chip (length below + 1) in
    let rest = some_segments again chip (tells_behind first Told) taken below (free_behind Told first free) (omega (arith, within)) in
    (first ++ rest.0, (first, rest.0, refl, record { returns = returns.0; are_returns = returns.1; is = refl }, rest.1))

-- pages before others
pages_join : (again : Bool) (chip : ChipData) (Told : Tells) (k : ℕ) (pages : List Kept) (xs ys : List Step) → AreGivenBack again chip Told (take k pages) xs → AreGivenBack again chip (tells_behind xs Told) (drop k pages) ys → AreGivenBack again chip Told pages (xs ++ ys)
pages_join again chip Told zero pages xs ys are q =
    let P : List Step → Type 0 = λ zs. AreGivenBack again chip Told pages (zs ++ ys) in
    let Q : List Step → Type 0 = λ l. AreGivenBack again chip (tells_behind l Told) pages ys in
    let here : AreGivenBack again chip Told pages ys = subst Q are q in
    subst P (sym are) here
pages_join again chip Told (suc k) [] xs ys are q =
    let P : List Step → Type 0 = λ zs. AreGivenBack again chip Told [] (zs ++ ys) in
    subst P (sym are) q
pages_join again chip Told (suc k) (kept ∷ pages) xs ys (first, rest, e, one, more) q = (
  first,
  rest ++ ys,
  ap (λ (zs : List Step). zs ++ ys) e ∙ append_assoc first rest ys,
  one,
  pages_join again chip (tells_behind first Told) k pages rest ys more (pages_as again chip (tells_behind xs Told) (tells_behind rest (tells_behind first Told)) (drop k pages) ys (behind_both Told xs first rest e) q),
)

-- segments before others
segments_join : (again : Bool) (chip : ChipData) (Told : Tells) (k m n : ℕ) (segments : List (List Kept)) (xs ys : List Step) → n ≡ k + m → AreSegmentsUndone again chip Told k segments xs → AreSegmentsUndone again chip (tells_behind xs Told) m (drop k segments) ys
    → AreSegmentsUndone again chip Told n segments (xs ++ ys)
segments_join again chip Told zero m n segments xs ys all are q =
    let same : m ≡ n = omega (arith, all) in
    let N : ℕ → Type 0 = λ k. AreSegmentsUndone again chip Told k segments (xs ++ ys) in
    let P : List Step → Type 0 = λ zs. AreSegmentsUndone again chip Told m segments (zs ++ ys) in
    let Q : List Step → Type 0 = λ l. AreSegmentsUndone again chip (tells_behind l Told) m segments ys in
    let here : AreSegmentsUndone again chip Told m segments ys = subst Q are q in
    subst N same (subst P (sym are) here)
segments_join again chip Told (suc k) m n [] xs ys all are q = absurd are
segments_join again chip Told (suc k) m n (pages ∷ below) xs ys all (first, rest, e, one, more) q =
    let same : suc (k + m) ≡ n = omega (arith, all) in
    let N : ℕ → Type 0 = λ k. AreSegmentsUndone again chip Told k (pages ∷ below) (xs ++ ys) in
    subst N same (
      first,
      rest ++ ys,
      ap (λ (zs : List Step). zs ++ ys) e ∙ append_assoc first rest ys,
      one,
      segments_join again chip (tells_behind first Told) k m (k + m) below rest ys refl more
          (segments_as again chip (tells_behind xs Told) (tells_behind rest (tells_behind first Told)) m (drop k below) ys (behind_both Told xs first rest e) q),
    )

-- lists of four parts
regroup : (xs ys zs ws : List Step) → (xs ++ (ys ++ zs)) ++ ws ≡ (xs ++ ys) ++ (zs ++ ws)
regroup xs ys zs ws = ap (λ (l : List Step). l ++ ws) (sym (append_assoc xs ys zs)) ∙ append_assoc (xs ++ ys) zs ws

-- What is told before some steps, and from them on, behind those before them.
module _ (A B Told : Tells) (xs : List Step) (first : SaysAlso A Told) (own : SaysAlso B (tells_behind xs Told)) (ys rest : List Step) where
  abbrev Now : Tells
  Now = so_far (length (xs ++ ys)) Told

  told_before : SaysAlso A Now
  told_before steps page told = λ lt. first steps page told

  told_own : SaysAlso (so_far (length ys) B) (tells_behind xs Now)
  told_own steps page told = λ lt. own steps page (told (omega (arith, lt, length-append xs steps, length-append xs ys)))

  told_later : IsFree (tells_behind (xs ++ (ys ++ rest)) Now)
  told_later steps page = λ lt. absurd (omega (arith, lt, length-append (xs ++ (ys ++ rest)) steps, length-append xs (ys ++ rest), length-append ys rest, length-append xs ys))

-- a page is begun, behind others
pub return_begun : (again : Bool) (chip : ChipData) (A B Told : Tells) (pages : List Kept) (i : ℕ) (kept : Kept) (xs : List Step) → slice_get pages i ≡ Some kept → SaysAlso A Told → SaysAlso B (tells_behind xs Told) → AreGivenBack again chip A (take i pages) xs → (ys : List Step)
    → BeginTold (λ T. IsGivenBack again chip T kept.page) B ys → BeginTold (λ T. AreGivenBack again chip T pages) Told (xs ++ ys)
return_begun again chip A B Told pages i kept xs at first own are ys (rest, is) =
    let T = so_far (length (xs ++ ys)) Told in
    let before = pages_as again chip A T (take i pages) xs (told_before A B Told xs first own ys rest) are in
    let one = returned_as again chip (so_far (length ys) B) (tells_behind xs T) kept.page (ys ++ rest) (told_own A B Told xs first own ys rest) is in
    let more = some_pages again chip (tells_behind (xs ++ (ys ++ rest)) T) (drop (i + 1) pages) (told_later A B Told xs first own ys rest) in
    let P : List Step → Type 0 = λ l. AreGivenBack again chip T pages l in
    (rest ++ more.0, subst P (regroup xs ys rest more.0) (pages_join again chip T (i + 1) pages (xs ++ (ys ++ rest)) more.0 (returned_next again chip T pages i kept xs (ys ++ rest) at before one) more.1))

-- its segment is, with it
pub pages_begun : (again : Bool) (chip : ChipData) (Told : Tells) (pages : List Kept) (number : ℕ) (ys : List Step) → BeginTold (λ T. AreGivenBack again chip T pages) Told ys → BeginTold (λ T. IsSegmentUndone again chip T pages number) Told ys
pages_begun again chip Told pages number ys (rest, are) =
    let own = ending_steps chip number in
    (rest ++ own, record { returns = ys ++ rest; are_returns = are; is = sym (append_assoc ys rest own) })

-- or its end, behind all of them
pub undoes_begun : (again : Bool) (chip : ChipData) (A Told : Tells) (pages : List Kept) (number : ℕ) (xs : List Step) → SaysAlso A Told → AreGivenBack again chip A pages xs → (ys : List Step) → Begin (Are (ending_steps chip number)) ys
    → BeginTold (λ T. IsSegmentUndone again chip T pages number) Told (xs ++ ys)
undoes_begun again chip A Told pages number xs more are ys (rest, is) =
    let T = so_far (length (xs ++ ys)) Told in
    (rest, record { returns = xs; are_returns = pages_as again chip A T pages xs (λ steps page told lt. more steps page told) are; is = append_assoc xs ys rest ∙ ap (λ (l : List Step). xs ++ l) is })

-- a segment is, behind others
pub back_begun : (again : Bool) (chip : ChipData) (A B Told : Tells) (segments : List (List Kept)) (taken i : ℕ) (pages : List Kept) (below : List (List Kept)) (xs : List Step) → i < taken → taken ≤ length segments → drop i segments ≡ pages ∷ below
    → SaysAlso A Told → SaysAlso B (tells_behind xs Told) → AreSegmentsUndone again chip A i segments xs → (ys : List Step) → BeginTold (λ T. IsSegmentUndone again chip T pages (length below + 1)) B ys → BeginTold (λ T. AreSegmentsUndone again chip T taken segments) Told (xs ++ ys)
back_begun again chip A B Told segments taken i pages below xs lt within at first own are ys (rest, is) =
    let T = so_far (length (xs ++ ys)) Told in
    let before = segments_as again chip A T i segments xs (told_before A B Told xs first own ys rest) are in
    let one = taken_as again chip (so_far (length ys) B) (tells_behind xs T) pages (length below + 1) (ys ++ rest) (told_own A B Told xs first own ys rest) is in
    let left : ℕ = taken - (i + 1) in
    let more = some_segments again chip (tells_behind (xs ++ (ys ++ rest)) T) left (drop (i + 1) segments) (told_later A B Told xs first own ys rest) (omega (arith, length-drop (i + 1) segments, lt, within)) in
    let all : taken ≡ (i + 1) + left = omega (arith, lt) in
    let P : List Step → Type 0 = λ l. AreSegmentsUndone again chip T taken segments l in
    (rest ++ more.0, subst P (regroup xs ys rest more.0) (segments_join again chip T (i + 1) left taken segments (xs ++ (ys ++ rest)) more.0 all (taken_next again chip T segments i pages below xs (ys ++ rest) at before one) more.1))

-- the pages at work are begun with the first
pub first_begun : (chip : ChipData) (Told : Tells) (n : ℕ) (work : List ℕ) (ys : List Step) → BeginTold (λ T. IsRewritten chip T n) Told ys → BeginTold (λ T. AreRewritten chip T (n ∷ work)) Told ys
first_begun chip Told n work ys (rest, one) =
    let T = so_far (length ys) Told in
    let free : IsFree (tells_behind (ys ++ rest) T) = λ steps page lt. absurd (omega (arith, lt, length-append (ys ++ rest) steps, length-append ys rest)) in
    let more = some_rewrites chip (tells_behind (ys ++ rest) T) work free in
    (rest ++ more.0, (ys ++ rest, more.0, sym (append_assoc ys rest more.0), one, more.1))

-- and with others behind it
pub others_begun : (chip : ChipData) (A B Told : Tells) (n : ℕ) (work : List ℕ) (xs : List Step) → SaysAlso A Told → SaysAlso B (tells_behind xs Told) → IsRewritten chip A n xs → (ys : List Step) → BeginTold (λ T. AreRewritten chip T work) B ys
    → BeginTold (λ T. AreRewritten chip T (n ∷ work)) Told (xs ++ ys)
others_begun chip A B Told n work xs first own one ys (rest, others) =
    let T = so_far (length (xs ++ ys)) Told in
    let before = rewritten_as chip A T n xs (told_before A B Told xs first own ys rest) one in
    let behind_it = work_as chip (so_far (length ys) B) (tells_behind xs T) work (ys ++ rest) (told_own A B Told xs first own ys rest) others in
    (rest, (xs, ys ++ rest, append_assoc xs ys rest, before, behind_it))

-- all of it is begun with the pages at work
pub work_begun : (again : Bool) (chip : ChipData) (Told : Tells) (pages : List ℕ) (taken : ℕ) (segments : List (List Kept)) → taken ≤ length segments → (ys : List Step) → BeginTold (λ T. AreRewritten chip T pages) Told ys
    → BeginTold (λ T. AreAllUndone again chip T pages taken segments) Told ys
work_begun again chip Told pages taken segments deep ys (rest, work) =
    let T = so_far (length ys) Told in
    let free : IsFree (tells_behind (ys ++ rest) T) = λ steps page lt. absurd (omega (arith, lt, length-append (ys ++ rest) steps, length-append ys rest)) in
    let more = some_segments again chip (tells_behind (ys ++ rest) T) taken segments free deep in
    (rest ++ more.0, record { first = ys ++ rest; is_first = work; back = more.0; are_back = more.1; is = sym (append_assoc ys rest more.0) })

-- and with a segment behind it
pub segments_begun : (again : Bool) (chip : ChipData) (A B Told : Tells) (pages : List ℕ) (taken : ℕ) (segments : List (List Kept)) (xs : List Step) → SaysAlso A Told → SaysAlso B (tells_behind xs Told) → AreRewritten chip A pages xs → (ys : List Step)
    → BeginTold (λ T. AreSegmentsUndone again chip T taken segments) B ys → BeginTold (λ T. AreAllUndone again chip T pages taken segments) Told (xs ++ ys)
segments_begun again chip A B Told pages taken segments xs first own work ys (rest, back) =
    let T = so_far (length (xs ++ ys)) Told in (
      rest,
      record {
        first = xs;
        is_first = work_as chip A T pages xs (told_before A B Told xs first own ys rest) work;
        back = ys ++ rest;
        are_back = segments_as again chip (so_far (length ys) B) (tells_behind xs T) taken segments (ys ++ rest) (told_own A B Told xs first own ys rest) back;
        is = append_assoc xs ys rest;
      },
    )

-- the journal can't be read, or refuses
idle_journal : (e : JournalFault) (t : Bool) → StepFailsBy (cause_of (fault_of_journal e)) t None []
idle_journal File t = refl
idle_journal e t = refl

pub journal_stops : {U : Type 0} (Q : List Step → Type 0) (torn : Bool) (xs : List Step) (e : JournalFault) (a b : RigState) (result : Result U Fault) → IsErrAnd result (λ x. x ≡ fault_of_journal e) → Q xs
    → GoesOn (IsInOrder torn xs) a.calls b.calls → FaultEnds Q torn a b result
journal_stops Q torn xs e a b result is allowed done =
    by_fault (λ (k : Cause). StopsBy Q k torn a b) (fault_of_journal e) result is (halts Q (cause_of (fault_of_journal e)) torn xs a b allowed (idle_journal e (torn_behind torn xs)) done)

-- a segment's pages for each segment
pub pages_count : (stack : List SegmentData) → length (pages_of_segments stack) ≡ length stack
pages_count stack = length-map stack (λ (s : SegmentData). s.pages)
