-- What an undo does changes only pages of the segment that it undoes.
use Rattle.std.proofs.Common.{◌≡◌, Contains, ⊎_elim, inl, inr, ℕ, zero, suc, ◌+◌, ◌*◌, ◌/◌, ◌≤◌, Bool, true, false, ◌&&◌, ◌==◌, if◌then◌else◌, List, [], ◌∷◌, ◌++◌, map, length, take, drop, Option, Some, None, refl, sym, ◌∙◌, ap, subst, arith, append-nil, append_assoc}
use Rattle.std.specs.Prelude.{bytes_eq}
use Rattle.stm_wire.specs.declared.intent.Intent.{Intent}
use Rattle.stm_wire.specs.declared.places.UniquePlace.{UniquePlace}
use Rattle.stm_wire.proofs.Names.{ChipData, erased_byte, page_size, read_turns, RigState}
use Rattle.stm_chip.specs.declared.plan.Frame.{Frame}
use Rattle.stm_chip.specs.Plan.{frames_of}
use Rattle.stm_journal.specs.declared.entry.Entry.TheVariants.{Undoes}
use Rattle.stm_journal.specs.declared.kept.Kept.{Kept}
use Rattle.stm_journal.proofs.Names.{intent_of, intent_page, IsSound, keeps, newest_has, newest_keeps, pages_of_newest, pages_of_segments, SegmentData, StateData}
use Rattle.stm_session.proofs.Names.{Adds, AreAllUndone, AreGivenBack, AreReadsOf, AreRewritten, AreSegmentsUndone, AreUndoneInOrder, Begin, BeginTaking, beside, cause_of, closing, confirmed_at}
use Rattle.stm_session.proofs.Names.{elsewhere, EndsOtherwise, erasing, Fault, give_back_steps, GivesBackInOrder, IsGivenBack, IsLookedAgain, IsOfNewest, IsSegmentUndone, looks, misread, OrMisread}
use Rattle.stm_session.proofs.Names.{page_address, page_reads, pages_at_work, pages_of_intent, programming, PutsBack, PutsBackFrom, read_steps, return_steps, Returned, rewrite_steps, Sends}
use Rattle.stm_session.proofs.Names.{settling_way, Step, StepsOf, such, Tells, tells_behind, UndoDoes, UndoesInOrder, undoing, UndoPutsBack, UndoStopsAs, UndoStopsBack, untold, write_steps}
use Rattle.stm_session.specs.Kept.{erases, reads, writes}
use Rattle.stm_session.specs.lemmas.ClosingLaws.{closing_is_looked, looked_by}
use Rattle.stm_session.proofs.Keeping.{newest-listed}
use Rattle.stm_session.proofs.KeptRuns.{after_as, as_session, confirmed_as, does_as, stops_as}
use Rattle.stm_session.specs.lemmas.FramesInside.{AreInside, bytes_inside, frames_inside}
use Rattle.stm_session.proofs.KeptSteps.{here, later as further}

-- the numbers of kept pages
abbrev numbers : List Kept → List ℕ
numbers pages = map (λ kept. kept.page) pages

-- a beginning of such steps is such
puts_front : (chip : ChipData) (segments : List (List Kept)) (xs ys : List Step) → PutsBack chip segments (xs ++ ys) → PutsBack chip segments xs
puts_front chip segments [] ys p = tt
puts_front chip segments (Adds entries ∷ xs) ys (later, may, p) = (later, may, puts_front chip later xs ys p)
puts_front chip segments (Sends turns ∷ xs) ys (may, p) = (may, puts_front chip segments xs ys p)

-- steps behind which such steps may come
abbrev Within : ChipData → List (List Kept) → List Step → Type 0
Within chip segments xs = (ys : List Step) → PutsBack chip segments ys → PutsBack chip segments (xs ++ ys)

within_then : (chip : ChipData) (segments : List (List Kept)) (xs zs : List Step) → Within chip segments xs → Within chip segments zs → Within chip segments (xs ++ zs)
within_then chip segments xs zs p q ys r = let P : List Step → Type 0 = λ l. PutsBack chip segments l in subst P (sym (append_assoc xs zs ys)) (p (zs ++ ys) (q ys r))

within_as : (chip : ChipData) (segments : List (List Kept)) (xs zs : List Step) → zs ≡ xs → Within chip segments xs → Within chip segments zs
within_as chip segments xs zs is p = let P : List Step → Type 0 = λ l. Within chip segments l in subst P (sym is) p

-- reads
reads_within : (chip : ChipData) (segments : List (List Kept)) (address blocks : ℕ) (bytes : List ℕ) → Within chip segments (read_steps address blocks bytes)
reads_within chip segments address zero bytes = λ ys p. p
reads_within chip segments address (suc blocks) bytes =
    let answer = take 256 (drop (256 * blocks) bytes) in
    within_then chip segments (read_steps address blocks bytes) (Sends (read_turns (address + 256 * blocks) answer) ∷ []) (reads_within chip segments address blocks bytes) (λ ys p. (reads (address + 256 * blocks) answer refl, p))

-- and the question which board it is, whatever it answers
looked_within : (chip : ChipData) (segments : List (List Kept)) (place : Option UniquePlace) (steps : List Step) → IsLookedAgain place steps → Within chip segments steps
looked_within chip segments place steps = looked_by (Within chip segments) place steps (λ ys p. p) (λ at turns later same look more ys p. (looks at look, more ys p))

module _ (chip : ChipData) (pages : List Kept) (below : List (List Kept)) where
  writes_within : (n : ℕ) (page : List ℕ) (frames : List Frame) → Contains (numbers pages) n → length page ≡ page_size chip n → AreInside (length page) frames → Within chip (pages ∷ below) (write_steps chip n page frames)
  writes_within n page [] is size inside ys p = p
  writes_within n page (f ∷ frames) is size (first, inside) ys p =
      let bytes = take f.length (drop f.offset page) in
      let within = bytes_inside page f.offset f.length first.0 first.1 in
      (writes n f.offset bytes is within.0 (subst (λ (s : ℕ). f.offset + length bytes ≤ s) size within.1) refl, writes_within n page frames is size inside ys p)

  rewrite_within : (n : ℕ) (page : List ℕ) → Contains (numbers pages) n → length page ≡ page_size chip n → Within chip (pages ∷ below) (rewrite_steps chip n page (frames_of (erased_byte chip) page (length page / 256)))
  rewrite_within n page is size = with_frames (frames_of (erased_byte chip) page (length page / 256)) (frames_inside (length page) (erased_byte chip) page (length page / 256) (omega arith))
    where
      with_frames : (frames : List Frame) → AreInside (length page) frames → Within chip (pages ∷ below) (rewrite_steps chip n page frames)
      with_frames [] inside ys p = (pages ∷ below, erasing n (pages ∷ below) is, (erases n is refl, p))
      with_frames (f ∷ frames) inside ys p =
          (pages ∷ below, erasing n (pages ∷ below) is, (erases n is refl, (pages ∷ below, programming n (pages ∷ below) is, writes_within n page (f ∷ frames) is size inside ys p)))

  restore_within : (n : ℕ) (held page : List ℕ) → Contains (numbers pages) n → length page ≡ page_size chip n → Within chip (pages ∷ below) (give_back_steps chip n held page)
  restore_within n held page is size = by_same (bytes_eq held page)
    where
      by_same : (same : Bool) → Within chip (pages ∷ below) (if same then [] else rewrite_steps chip n page (frames_of (erased_byte chip) page (length page / 256)))
      by_same true = λ ys p. p
      by_same false = rewrite_within n page is size

  -- and the page is read again, or it isn't
  return_within : (again : Bool) (n : ℕ) (held page : List ℕ) → Contains (numbers pages) n → length page ≡ page_size chip n → Within chip (pages ∷ below) (return_steps again chip n held page)
  return_within false n held page is size = restore_within n held page is size
  return_within true n held page is size =
      let segments : List (List Kept) = pages ∷ below in
      within_then chip segments (give_back_steps chip n held page) (page_reads chip n page) (restore_within n held page is size) (reads_within chip segments (page_address chip n) (page_size chip n / 256) page)

  returned_within : (again : Bool) (Told : Tells) (n : ℕ) (steps : List Step) → Contains (numbers pages) n → IsGivenBack again chip Told n steps → Within chip (pages ∷ below) steps
  returned_within again Told n steps is returned =
      let read = read_steps (page_address chip n) (page_size chip n / 256) returned.held in
      let restored = return_steps again chip n returned.held returned.page in
      within_as chip (pages ∷ below) (read ++ restored) steps returned.is
      (within_then chip (pages ∷ below) read restored (reads_within chip (pages ∷ below) (page_address chip n) (page_size chip n / 256) returned.held) (return_within again n returned.held returned.page is returned.size))

  all_within : (again : Bool) (Told : Tells) (kept : List Kept) (steps : List Step) → ((m : ℕ) → Contains (numbers kept) m → Contains (numbers pages) m) → AreGivenBack again chip Told kept steps → Within chip (pages ∷ below) steps
  all_within again Told [] steps among is = within_as chip (pages ∷ below) [] steps is (λ ys p. p)
  all_within again Told (k ∷ kept) steps among (first, rest, is, one, others) =
      within_as chip (pages ∷ below) (first ++ rest) steps is
      (within_then chip (pages ∷ below) first rest (returned_within again Told k.page first (among k.page (here k.page (numbers kept))) one) (all_within again (tells_behind first Told) kept rest (λ m is_one. among m (further m k.page (numbers kept) is_one)) others))

  -- the segment is undone
  taken_within : (again : Bool) (Told : Tells) (steps : List Step) → IsSegmentUndone again chip Told pages (length below + 1) steps → (ys : List Step) → PutsBack chip below ys → PutsBack chip (pages ∷ below) (steps ++ ys)
  taken_within again Told steps taken ys p =
      let segments : List (List Kept) = pages ∷ below in
      let asked = closing chip in
      let last : List Step = Adds (Undoes (length below + 1) ∷ []) ∷ [] in
      let P : List Step → Type 0 = λ l. PutsBack chip segments l in
      let returned = all_within again Told pages taken.returns (λ m is_one. is_one) taken.are_returns in
      let all = within_then chip segments taken.returns asked returned (looked_within chip segments (confirmed_at chip) asked (closing_is_looked chip)) in
      let is : steps ++ ys ≡ (taken.returns ++ asked) ++ (last ++ ys) = ap (λ (l : List Step). l ++ ys) (taken.is ∙ sym (append_assoc taken.returns asked last)) ∙ append_assoc (taken.returns ++ asked) last ys in
      subst P (sym is) (all (last ++ ys) (below, undoing pages below, p))

-- and one after another
taken_puts : (again : Bool) (chip : ChipData) (Told : Tells) (count : ℕ) (segments : List (List Kept)) (steps : List Step) → AreSegmentsUndone again chip Told count segments steps → PutsBack chip segments steps
taken_puts again chip Told zero segments steps is = let P : List Step → Type 0 = λ l. PutsBack chip segments l in subst P (sym is) tt
taken_puts again chip Told (suc count) [] steps is = absurd is
taken_puts again chip Told (suc count) (pages ∷ below) steps (first, rest, is, one, others) =
    let P : List Step → Type 0 = λ l. PutsBack chip (pages ∷ below) l in
    subst P (sym is) (taken_within chip pages below again Told first one rest (taken_puts again chip (tells_behind first Told) count below rest others))

-- pages that the newest segment keeps
abbrev AreOfNewest : List (List Kept) → List ℕ → Type 0
AreOfNewest segments [] = Unit {0}
AreOfNewest segments (n ∷ work) = IsOfNewest n segments × AreOfNewest segments work

work_within : (chip : ChipData) (pages : List Kept) (below : List (List Kept)) (Told : Tells) (work : List ℕ) (steps : List Step) → AreOfNewest (pages ∷ below) work → AreRewritten chip Told work steps → Within chip (pages ∷ below) steps
work_within chip pages below Told [] steps own is = within_as chip (pages ∷ below) [] steps is (λ ys p. p)
work_within chip pages below Told (n ∷ work) steps (kept, own) (first, rest, is, one, others) =
    let segments : List (List Kept) = pages ∷ below in
    let page = within_as chip segments _ first one.is (rewrite_within chip pages below n one.page kept one.size) in
    within_as chip segments (first ++ rest) steps is (within_then chip segments first rest page (work_within chip pages below (tells_behind first Told) work rest own others))

-- the pages at work first
all_puts : (again : Bool) (chip : ChipData) (Told : Tells) (work : List ℕ) (count : ℕ) (segments : List (List Kept)) (steps : List Step) → AreOfNewest segments work → AreAllUndone again chip Told work count segments steps → PutsBack chip segments steps
all_puts again chip Told [] count segments steps own taken =
    let P : List Step → Type 0 = λ l. PutsBack chip segments l in
    subst P (sym (taken.is ∙ ap (λ (l : List Step). l ++ taken.back) taken.is_first)) (taken_puts again chip (tells_behind taken.first Told) count segments taken.back taken.are_back)
all_puts again chip Told (n ∷ work) count [] steps own taken = absurd own.0
all_puts again chip Told (n ∷ work) count (pages ∷ below) steps own taken =
    let segments : List (List Kept) = pages ∷ below in
    let P : List Step → Type 0 = λ l. PutsBack chip segments l in
    subst P (sym taken.is) (work_within chip pages below Told (n ∷ work) taken.first own taken.is_first taken.back (taken_puts again chip (tells_behind taken.first Told) count segments taken.back taken.are_back))

-- it keeps that of its intent in each journal without a bad line, and page 257 where that is at work
of_newest : (stack : List SegmentData) (n : ℕ) → newest_has (λ segment. keeps segment n) stack ≡ true → IsOfNewest n (pages_of_segments stack)
of_newest stack n kept = by_stack stack (newest-listed n stack kept)
  where
    by_stack : (stack : List SegmentData) → Contains (pages_of_newest stack) n → IsOfNewest n (pages_of_segments stack)
    by_stack [] kept = absurd (nowhere kept)
      where
        nowhere : Contains [] n → ⊥
        nowhere (k, lt, e) = omega (arith, lt)
    by_stack (segment ∷ below) kept = kept

beside_own : (stack : List SegmentData) (n : ℕ) → AreOfNewest (pages_of_segments stack) (beside n (newest_has (λ segment. keeps segment 257) stack))
beside_own stack n = by_kept (n == 1) (newest_has (λ segment. keeps segment 257) stack) (of_newest stack 257)
  where
    by_kept : (one kept : Bool) → (kept ≡ true → IsOfNewest 257 (pages_of_segments stack)) → AreOfNewest (pages_of_segments stack) (if one && kept then 257 ∷ [] else [])
    by_kept true true own = (own refl, tt)
    by_kept true false own = tt
    by_kept false kept own = tt

work_own : (s : StateData) → IsSound s → AreOfNewest (pages_of_segments s.stack) (pages_at_work s.stack)
work_own s sound = by_intent (intent_of s) sound.intended
  where
    by_intent : (o : Option Intent) → ((i : Intent) → o ≡ Some i → newest_keeps (intent_page i) s ≡ true) → AreOfNewest (pages_of_segments s.stack) (pages_of_intent o (newest_has (λ segment. keeps segment 257) s.stack))
    by_intent None own = tt
    by_intent (Some i) own = (of_newest s.stack (intent_page i) (own i refl), beside_own s.stack (intent_page i))

taken_puts_back : (again : Bool) (taken : ℕ) (chip : ChipData) (s : StateData) (steps : List Step) → IsSound s → AreUndoneInOrder again taken chip s steps → PutsBackFrom chip s steps
taken_puts_back again taken chip s steps sound = all_puts again chip untold (pages_at_work s.stack) taken (pages_of_segments s.stack) steps (work_own s sound)

-- such steps, or those whose last question was answered otherwise
puts_otherwise : (chip : ChipData) (segments : List (List Kept)) (P Comes : List Step → Type 0) (due steps : List Step) → ((xs : List Step) → P xs → PutsBack chip segments xs) → ((later : List (List Kept)) (xs : List Step) → Comes xs → Within chip later xs) → EndsOtherwise P due Comes steps → PutsBack chip segments steps
puts_otherwise chip segments P Comes due steps puts comes o =
    let Q : List Step → Type 0 = λ l. PutsBack chip segments l in
    subst Q (sym o.is) (replaced segments o.before (puts (o.before ++ due) o.own))
  where
    replaced : (segments : List (List Kept)) (xs : List Step) → PutsBack chip segments (xs ++ due) → PutsBack chip segments (xs ++ o.came)
    replaced segments [] p =
        let R : List Step → Type 0 = λ l. PutsBack chip segments l in
        puts_front chip segments o.came o.begun.0 (subst R (append-nil (o.came ++ o.begun.0)) (comes segments (o.came ++ o.begun.0) o.begun.1 [] tt))
    replaced segments (Adds entries ∷ xs) (later, may, p) = (later, may, replaced later xs p)
    replaced segments (Sends turns ∷ xs) (may, p) = (may, replaced segments xs p)

-- or a beginning of them
begun_whole : (again : Bool) (taken : ℕ) (chip : ChipData) (s : StateData) → IsSound s → (xs : List Step) → Begin (AreUndoneInOrder again taken chip s) xs → PutsBackFrom chip s xs
begun_whole again taken chip s sound xs (rest, are) = puts_front chip (pages_of_segments s.stack) xs rest (taken_puts_back again taken chip s (xs ++ rest) sound are)

begun_puts_back : (again : Bool) (taken : ℕ) (chip : ChipData) (s : StateData) (steps : List Step) → IsSound s → OrMisread again chip (Begin (AreUndoneInOrder again taken chip s)) steps → PutsBackFrom chip s steps
begun_puts_back again taken chip s steps sound (such p) = begun_whole again taken chip s sound steps p
begun_puts_back again taken chip s steps sound (elsewhere o) =
    puts_otherwise chip (pages_of_segments s.stack) (Begin (AreUndoneInOrder again taken chip s)) (IsLookedAgain (confirmed_at chip)) (closing chip) steps (begun_whole again taken chip s sound) (λ later xs. looked_within chip later (confirmed_at chip) xs) o
begun_puts_back again taken chip s steps sound (misread is n page size o) =
    puts_otherwise chip (pages_of_segments s.stack) (Begin (AreUndoneInOrder again taken chip s)) (AreReadsOf (page_address chip n) (page_size chip n)) (page_reads chip n page) steps (begun_whole again taken chip s sound)
    (λ later xs read. within_as chip later (page_reads chip n read.held) xs read.is (reads_within chip later (page_address chip n) (page_size chip n / 256) read.held)) o

-- other steps are allowed too
pub undo_does_as : (table : List ChipData) (old new : RigState) (P Q : StepsOf) → ((chip : ChipData) (s : StateData) (steps : List Step) → P chip s steps → Q chip s steps) → UndoDoes P table old new → UndoDoes Q table old new
undo_does_as table old new P Q weaker =
    as_session table old _ _ (λ chip l sound. does_as (settling_way chip.kind l.is_greeted (intent_of l.state)) chip.id l.is_torn _ _ old new (after_as _ _ _ (λ steps are. weaker chip l.state steps are)))

pub undo_puts_back : (table : List ChipData) (taken : ℕ) (old new : RigState) → UndoesInOrder table taken old new → UndoPutsBack table old new
undo_puts_back table taken old new =
    as_session table old _ _ (λ chip l sound. does_as (settling_way chip.kind l.is_greeted (intent_of l.state)) chip.id l.is_torn _ _ old new (after_as _ _ _ (λ steps are. taken_puts_back false taken chip l.state steps sound are)))

-- and one that tells what it returned
pub return_puts_back : (again : Bool) (table : List ChipData) (returned : Returned) (old new : RigState) → GivesBackInOrder again table returned old new → UndoPutsBack table old new
return_puts_back again table returned old new =
    as_session table old _ _ (λ chip l sound. does_as (settling_way chip.kind l.is_greeted (intent_of l.state)) chip.id l.is_torn _ _ old new (after_as _ _ _ (λ steps are. taken_puts_back again returned.segments chip l.state steps sound are.0)))

pub undo_stops_back : (again : Bool) (table : List ChipData) (count : ℕ) (old new : RigState) (fault : Fault) → UndoStopsAs again table count old new fault → UndoStopsBack table old new fault
undo_stops_back again table count old new fault (inl fetched) = inl fetched
undo_stops_back again table count old new fault (inr cut) =
    inr (as_session table old _ _ (λ chip l sound. ⊎_elim (λ reached. inl reached)
    (λ stopped. inr (stops_as (settling_way chip.kind l.is_greeted (intent_of l.state)) chip.id l.is_torn _ _ (cause_of fault) old new
    (confirmed_as chip (BeginTaking again count chip l.state) _ (λ steps (begun : BeginTaking again count chip l.state steps). begun_puts_back again begun.0 chip l.state steps sound begun.3)) stopped))) cut)
