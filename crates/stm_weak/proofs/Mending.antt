-- The steps of an undo: the pages at work first, which it doesn't read; and then no page may be
-- weak.
use Rattle.std.proofs.Common.{◌≡◌, ◌⊎◌, inl, inr, ⊎_elim, ℕ, zero, suc, ◌+◌, ◌/◌, ◌==◌, ◌&&◌, Bool}
use Rattle.std.proofs.Common.{true, false, if◌then◌else◌, List, [], ◌∷◌, ◌++◌, length, Contains}
use Rattle.std.proofs.Common.{Option, Some, None, refl, sym, ◌∙◌, ap, subst, arith, append-nil}
use Rattle.stm_wire.specs.declared.intent.Intent.{Intent}
use Rattle.stm_wire.specs.declared.intent.Intent.TheVariants.{Erase}
use Rattle.stm_wire.proofs.Names.{ChipData, erased_byte}
use Rattle.stm_chip.specs.Plan.{frames_of}
use Rattle.stm_journal.specs.declared.entry.Entry.TheVariants.{Undoes}
use Rattle.stm_journal.specs.declared.kept.Kept.{Kept}
use Rattle.stm_journal.proofs.Names.{intent_page}
use Rattle.stm_session.proofs.Names.{Adds, AreAllUndone, AreGivenBack, AreRewritten, AreSegmentsUndone, beside, closing, confirmed_at, IsGivenBack, IsRewritten, IsSegmentUndone, page_reads}
use Rattle.stm_session.proofs.Names.{pages_of_intent, return_steps, Step, Tells, tells_behind}
use Rattle.stm_session.specs.lemmas.ClosingLaws.{closing_is_looked}
use Rattle.stm_weak.specs.Weak.{NoneIs}
use Rattle.stm_weak.specs.Believed.{AreAtWork}
use Rattle.stm_weak.proofs.Frames.{here}
use Rattle.stm_weak.proofs.Pieces.{all_frames_inside, free_page, free_return, rewrite_goes}
use Rattle.stm_weak.proofs.Pieces.{rewritten}
use Rattle.stm_weak.proofs.Sessions.{looked_goes}
use Rattle.stm_weak.proofs.Walking.{Free, Goes, free_as, free_lines, free_nothing, free_then}
use Rattle.stm_weak.proofs.Walking.{goes_as, goes_then, intended, past, past_then, still}

module _ (again : Bool) (chip : ChipData) (both : Bool) where
  free_returned : (Told : Tells) (n : ℕ) (steps : List Step) → IsGivenBack again chip Told n steps
      → Free chip both steps
  free_returned Told n steps returned =
      free_as chip both
      (page_reads chip n returned.held ++ return_steps again chip n returned.held returned.page)
      steps
      returned.is
      (free_then chip both (page_reads chip n returned.held)
      (return_steps again chip n returned.held returned.page) (free_page chip both n returned.held)
      (free_return again chip both n returned.held returned.page returned.size))

  free_pages : (Told : Tells) (pages : List Kept) (steps : List Step)
      → AreGivenBack again chip Told pages steps → Free chip both steps
  free_pages Told [] steps is = free_as chip both [] steps is (free_nothing chip both)
  free_pages Told (kept ∷ pages) steps (first, rest, is, one, others) =
      free_as chip both (first ++ rest) steps is
      (free_then chip both first rest (free_returned Told kept.page first one)
      (free_pages (tells_behind first Told) pages rest others))

  free_segment : (Told : Tells) (pages : List Kept) (number : ℕ) (steps : List Step)
      → IsSegmentUndone again chip Told pages number steps → Free chip both steps
  free_segment Told pages number steps taken =
      let line : List Step = Adds (Undoes number ∷ []) ∷ [] in
      free_as chip both (taken.returns ++ (closing chip ++ line)) steps taken.is
      (free_then chip both taken.returns (closing chip ++ line)
      (free_pages Told pages taken.returns taken.are_returns)
      (free_then chip both (closing chip) line
      (λ W o none.
      looked_goes chip both W o (confirmed_at chip) (closing chip) refl (closing_is_looked chip))
      (free_lines chip both (Undoes number ∷ []))))

  free_segments : (Told : Tells) (count : ℕ) (segments : List (List Kept)) (steps : List Step)
      → AreSegmentsUndone again chip Told count segments steps → Free chip both steps
  free_segments Told zero segments steps is =
      free_as chip both [] steps is (free_nothing chip both)
  free_segments Told (suc count) [] steps is = absurd is
  free_segments Told (suc count) (pages ∷ below) steps (first, rest, is, one, others) =
      free_as chip both (first ++ rest) steps is
      (free_then chip both first rest (free_segment Told pages (length below + 1) first one)
      (free_segments (tells_behind first Told) count below rest others))

-- pages of lists
pub no_page : (n : ℕ) → Contains [] n → ⊥
no_page n (k, lt, e) = omega (arith, lt)

one_page : (p n : ℕ) → Contains (p ∷ []) n → n ≡ p
one_page p n (zero, lt, e) = sym e
one_page p n (suc k, lt, e) = absurd (omega (arith, lt))

either_page : (p q n : ℕ) → Contains (p ∷ q ∷ []) n → (n ≡ p) ⊎ (n ≡ q)
either_page p q n (zero, lt, e) = inl (sym e)
either_page p q n (suc zero, lt, e) = inr (sym e)
either_page p q n (suc (suc k), lt, e) = absurd (omega (arith, lt))

-- Such steps, behind which no page may be weak.
pub record Mends (chip : ChipData) (both : Bool) (W : ℕ → Type 0) (o : Option Intent)
    (steps : List Step) : Type 0 where
  pub goes : Goes chip both W o steps
  pub none : NoneIs (λ n. past chip W steps n)

mends_as : (chip : ChipData) (both : Bool) (W : ℕ → Type 0) (o : Option Intent)
    (xs ys : List Step) → ys ≡ xs → Mends chip both W o xs → Mends chip both W o ys
mends_as chip both W o xs ys is p =
    let P : List Step → Type 0 = λ l. Mends chip both W o l in
    subst P (sym is) p

mends_then : (chip : ChipData) (both : Bool) (W : ℕ → Type 0) (o : Option Intent)
    (xs ys : List Step) → Goes chip both W o xs
    → Mends chip both (λ n. past chip W xs n) (intended o xs) ys → Mends chip both W o (xs ++ ys)
mends_then chip both W o xs ys p q =
    record {
      goes = goes_then chip both W o xs ys p q.goes;
      none = λ n w. q.none n (past_then chip W xs ys n w);
    }

-- One page is written unread.
one_goes : (chip : ChipData) (both : Bool) (Told : Tells) (n : ℕ) (steps : List Step)
    (W : ℕ → Type 0) (o : Option Intent) → AreAtWork both W (Some (Erase n))
    → IsRewritten chip Told n steps → Goes chip both W o steps
one_goes chip both Told n steps W o own one =
    goes_as chip both W o _ steps one.is
    (rewrite_goes chip both n one.page _ W o own one.size (all_frames_inside chip one.page))

one_mends : (chip : ChipData) (Told : Tells) (n : ℕ) (steps : List Step) (W : ℕ → Type 0)
    → IsRewritten chip Told n steps → (m : ℕ) → past chip W steps m → m ≡ n → ⊥
one_mends chip Told n steps W one m w =
    let frames = frames_of (erased_byte chip) one.page (length one.page / 256) in
    let P : List Step → Type 0 = λ l. past chip W l m in
    rewritten chip n one.page frames W m (subst P one.is w)

-- the page of the intent, and that beside it
both_mend : (chip : ChipData) (both : Bool) (Told : Tells) (i : Intent) (W : ℕ → Type 0)
    (o : Option Intent) (first rest : List Step) → AreAtWork both W (Some i)
    → IsRewritten chip Told (intent_page i) first
    → AreRewritten chip (tells_behind first Told) (beside (intent_page i) both) rest
    → Mends chip both W o (first ++ rest)
both_mend chip both Told i W o first rest own one others =
    mends_then chip both W o first rest
    (one_goes chip both Told (intent_page i) first W o own one)
    (by_two (intent_page i == 1 && both) own others)
  where
    by_two : (two : Bool)
        → ((m : ℕ) → W m → Contains (intent_page i ∷ (if two then 257 ∷ [] else [])) m)
        → AreRewritten chip (tells_behind first Told) (if two then 257 ∷ [] else []) rest
        → Mends chip both (λ n. past chip W first n) (intended o first) rest
    by_two false may is =
        mends_as chip both (λ n. past chip W first n) (intended o first) [] rest is
        (record {
          goes = tt;
          none = λ m w.
              one_mends chip Told (intent_page i) first W one m w
              (one_page (intent_page i) m (may m (still chip W first m w)));
        })
    by_two true may (second, last, is, next, none) =
        let W1 : ℕ → Type 0 = λ n. past chip W first n in
        let alone : (m : ℕ) → W1 m → m ≡ 257 =
        λ m w.
        ⊎_elim (λ same. absurd (one_mends chip Told (intent_page i) first W one m w same))
        (λ other. other) (either_page (intent_page i) 257 m (may m (still chip W first m w)))
        in
        let at_work : AreAtWork both W1 (Some (Erase 257)) =
        λ m w.
        (let P : ℕ → Type 0 = λ k. Contains (257 ∷ beside 257 both) k in
        subst P (sym (alone m w)) (here 257 (beside 257 both)))
        in
        let told = tells_behind first Told in
        mends_as chip both W1 (intended o first) second rest
        (is ∙ ap (λ (l : List Step). second ++ l) none ∙ append-nil second)
        (record {
          goes = one_goes chip both told 257 second W1 (intended o first) at_work next;
          none = λ m w.
              one_mends chip told 257 second W1 next m w (alone m (still chip W1 second m w));
        })

-- The pages at work are.
pub work_mends : (chip : ChipData) (both : Bool) (Told : Tells) (o : Option Intent) (W : ℕ → Type 0)
    (steps : List Step) → AreAtWork both W o
    → AreRewritten chip Told (pages_of_intent o both) steps → Mends chip both W o steps
work_mends chip both Told None W steps own is =
    mends_as chip both W None [] steps is
    (record { goes = tt; none = λ n w. no_page n (own n w) })
work_mends chip both Told (Some i) W steps own (first, rest, is, one, others) =
    mends_as chip both W (Some i) (first ++ rest) steps is
    (both_mend chip both Told i W (Some i) first rest own one others)

-- and then so many segments are undone
pub all_mend : (again : Bool) (chip : ChipData) (both : Bool) (Told : Tells) (o : Option Intent)
    (W : ℕ → Type 0) (count : ℕ) (segments : List (List Kept)) (steps : List Step)
    → AreAtWork both W o
    → AreAllUndone again chip Told (pages_of_intent o both) count segments steps
    → Mends chip both W o steps
all_mend again chip both Told o W count segments steps own taken =
    let work = work_mends chip both Told o W taken.first own taken.is_first in
    let free = free_segments again chip both
    (tells_behind taken.first Told) count segments taken.back taken.are_back in
    let W2 : ℕ → Type 0 = λ n. past chip W taken.first n in
    mends_as chip both W o (taken.first ++ taken.back) steps taken.is
    (mends_then chip both W o taken.first taken.back work.goes
    (record {
      goes = free W2 (intended o taken.first) work.none;
      none = λ n w. work.none n (still chip W2 taken.back n w);
    }))
