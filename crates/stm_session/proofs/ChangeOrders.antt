-- The order of what a command that changes the flash puts and appends.
use Rattle.std.proofs.Common.{◌≡◌, ◌≢◌, ℕ, ◌+◌, ◌/◌, ◌==◌, ◌&&◌, Bool, true, false, if◌then◌else◌, List, [], ◌∷◌, ◌++◌, inr, not, replicate, length, refl, sym, ap, ⊎_elim, subst}
use Rattle.std.specs.Prelude.{bytes_eq}
use Rattle.std.proofs.lemmas.Bool.{cases_Bool}
use Rattle.std.proofs.lemmas.List.{length-replicate}
use Rattle.std.proofs.lemmas.Slice.Eq.{bytes_eq-Decides}
use Rattle.stm_journal.specs.declared.entry.Entry.TheVariants.{Keeps}
use Rattle.stm_wire.proofs.Names.{ChipData, erased_byte, page_size}
use Rattle.stm_chip.specs.declared.plan.Frame.{Frame}
use Rattle.stm_chip.specs.Plan.{frames_of}
use Rattle.stm_session.proofs.Names.{Adds, AreBothSaved, AreTurned, Change, content, has_companion, IsChanged, IsChangedUnless, IsCompanionSaved, IsPageChanged, IsPageTurn, IsSaved, IsSavedWith}
use Rattle.stm_session.proofs.Names.{IsTurnOf, MayTouch, page_reads, rewrite_steps, Step}
use Rattle.stm_session.specs.ChangeOrder.{more}
use Rattle.stm_session.proofs.Savings.{is_first}

-- which pages are kept
pub saved_none : (kept : Bool) (chip : ChipData) (n : ℕ) (held : List ℕ) → kept ≡ true → IsSaved kept chip n held []
saved_none kept chip n held is = let P : Bool → Type 0 = λ b. IsSaved b chip n held [] in subst P (sym is) refl

pub saved_both : (kept : Bool) (chip : ChipData) (n : ℕ) (held : List ℕ) (steps : List Step) → kept ≡ false → (n == 1 && has_companion chip) ≡ true → AreBothSaved chip 1 held steps → IsSaved kept chip n held steps
saved_both kept chip n held steps is both saved =
    let P : Bool → Type 0 = λ b. IsSaved b chip n held steps in
    let Q : Bool → Type 0 = λ b. IsSavedWith b chip n held steps in
    let R : ℕ → Type 0 = λ m. AreBothSaved chip m held steps in
    subst P (sym is) (subst Q (sym both) (subst R (sym (is_first n (has_companion chip) both)) saved))

pub saved_one : (kept : Bool) (chip : ChipData) (n : ℕ) (held : List ℕ) (steps : List Step) → kept ≡ false → (n == 1 && has_companion chip) ≡ false → IsSavedWith false chip n held steps → IsSaved kept chip n held steps
saved_one kept chip n held steps is alone saved =
    let P : Bool → Type 0 = λ b. IsSaved b chip n held steps in
    let Q : Bool → Type 0 = λ b. IsSavedWith b chip n held steps in
    subst P (sym is) (subst Q (sym alone) saved)

-- whether a page is changed
pub changed_none : (kept : Bool) (chip : ChipData) (n : ℕ) (held page : List ℕ) → held ≡ page → IsChanged kept chip n held page []
changed_none kept chip n held page same = let P : Bool → Type 0 = λ b. IsChangedUnless b kept chip n held page [] in subst P (sym ((bytes_eq-Decides held page).1 same)) refl

pub changed_some : (kept : Bool) (chip : ChipData) (n : ℕ) (held page : List ℕ) (frames : List Frame) (saved : List Step) → held ≢ page → frames ≡ frames_of (erased_byte chip) page (length page / 256) → IsSaved kept chip n held saved
    → IsChanged kept chip n held page (saved ++ rewrite_steps chip n page frames)
changed_some kept chip n held page frames saved other is is_saved =
    let steps = saved ++ rewrite_steps chip n page frames in
    let P : Bool → Type 0 = λ b. IsChangedUnless b kept chip n held page steps in
    let differs : bytes_eq held page ≡ false = ⊎_elim (λ yes. absurd (other ((bytes_eq-Decides held page).0 yes))) (λ none. none) (cases_Bool (bytes_eq held page)) in
    let rewritten : IsPageChanged kept chip n held page steps = record { saved = saved; is_saved = is_saved; is = ap (λ (fs : List Frame). saved ++ rewrite_steps chip n page fs) is } in
    subst P (sym differs) rewritten

-- Beginnings: there is always something left to do, or nothing is.

-- any page could be kept
pub some_saved : (kept : Bool) (chip : ChipData) (n : ℕ) (held : List ℕ) → (steps : List Step) × IsSaved kept chip n held steps
some_saved true chip n held = ([], refl)
some_saved false chip n held = by_pair (n == 1 && has_companion chip)
  where
    by_pair : (both : Bool) → (steps : List Step) × IsSavedWith both chip n held steps
    by_pair false = (Adds (Keeps n held ∷ []) ∷ [], refl)
    by_pair true =
        let other : List ℕ = replicate (page_size chip 257) 0 in
        let first : List Step = page_reads chip 257 other ++ Adds (Keeps 257 other ∷ []) ∷ [] in
        let saved : IsCompanionSaved chip first = record { other = other; size = length-replicate {A = ℕ} (page_size chip 257) 0; is = refl } in
        (first ++ Adds (Keeps n held ∷ []) ∷ [], record { first = first; is_first = saved; is = refl })

-- and changed
pub some_changed : (kept : Bool) (chip : ChipData) (n : ℕ) (held page : List ℕ) → (steps : List Step) × IsChanged kept chip n held page steps
some_changed kept chip n held page = by_same (bytes_eq held page)
  where
    by_same : (same : Bool) → (steps : List Step) × IsChangedUnless same kept chip n held page steps
    by_same true = ([], refl)
    by_same false =
        let saved = some_saved kept chip n held in
        let own = rewrite_steps chip n page (frames_of (erased_byte chip) page (length page / 256)) in
        (saved.0 ++ own, record { saved = saved.0; is_saved = saved.1; is = refl })

-- a page that was read, and what is made of it
pub turn_of : (kept : Bool) (chip : ChipData) (c : Change) (n : ℕ) (held page : List ℕ) (later : List Step) → MayTouch chip c n → length held ≡ page_size chip n → page ≡ content chip c n held → IsChanged kept chip n held page later
    → IsPageTurn kept chip c n (page_reads chip n held ++ later)
turn_of kept chip c n held page later may size made changed =
    let P : List ℕ → Type 0 = λ xs. IsChanged kept chip n held xs later in
    (not (bytes_eq held (content chip c n held)), inr (record { may = may; held = held; size = size; counts = refl; later = later; is_changed = subst P made changed; is = refl }))

pub some_turn : (kept : Bool) (chip : ChipData) (c : Change) (n : ℕ) → MayTouch chip c n → (held : List ℕ) → length held ≡ page_size chip n → (more : List Step) × IsPageTurn kept chip c n (page_reads chip n held ++ more)
some_turn kept chip c n may held size =
    let later = some_changed kept chip n held (content chip c n held) in
    (later.0, turn_of kept chip c n held (content chip c n held) later.0 may size refl later.1)

-- one page more
pub all_turned : (chip : ChipData) (c : Change) (n : ℕ) (was kept changed first : Bool) (before own : List Step) → kept ≡ (n == 257 && was) → first ≡ (if n == 1 then changed else was) → AreTurned chip c n was before
    → IsTurnOf kept chip c n changed own → AreTurned chip c (n + 1) first (before ++ own)
all_turned chip c n was kept changed first before own kept_is first_is are turn =
    let K : Bool → Type 0 = λ k. IsTurnOf k chip c n changed own in
    let F : Bool → Type 0 = λ f. AreTurned chip c (n + 1) f (before ++ own) in
    subst F (sym first_is) (more n was changed before own are (subst K kept_is turn))
