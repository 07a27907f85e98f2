-- Segments are undone, one after another.
use Rattle.std.proofs.Common.{Bool, ◌≡◌, inl, inr, ℕ, zero, suc, ◌+◌, ◌<◌, ◌≤◌, List, [], ◌∷◌, ◌++◌, length, take, drop, get_or, Result, Ok, Err, IsErrAnd, refl, sym, ◌∙◌, ap, ap₂, subst, arith, append_assoc}
use Rattle.std.proofs.lemmas.List.{length-map, length-drop, drop-drop}
use Rattle.stm_wire.proofs.Names.{ChipData, Device, IsModel, LeavesOnly, RigState}
use Rattle.stm_wire.specs.lemmas.MomentLaws.{joined, weaker}
use Rattle.stm_journal.specs.declared.entry.Entry.{Entry}
use Rattle.stm_journal.specs.declared.entry.Entry.TheVariants.{Undoes}
use Rattle.stm_journal.specs.declared.kept.Kept.{Kept}
use Rattle.stm_journal.proofs.Names.{AllFit, AllKeptFit, flashes_before_segments, Loaded, pages_of_segments, SegmentData, StateData, with_kept_pages}
use Rattle.stm_session.proofs.Names.{AmidNewest, AmidSegmentUndo, AreSegmentsUndone, Fault, flash_undone, Follows, give_back_lines, going_lines, is_torn_at, IsOutsideFault, IsSteady, newest_kept}
use Rattle.stm_session.proofs.Names.{Stands, state_at, StepLaws, taken_entries, taking_lines, Tells, text_added, torn_after, Undoable, UndoesNewest, UndoesSegment}
use Rattle.stm_session.proofs.Going.{at_exit}
use Rattle.stm_session.proofs.Keeping.{depth_text}
use Rattle.stm_session.proofs.Standing.{makes_then, stands_now}
use Rattle.stm_session.proofs.Texts.{adds_none, adds_then, front_part, lines_later, text_added-append}

-- the pages of segments that a chip has, whichever are off
PagesFit : ChipData → List (List Kept) → Type 0
PagesFit chip [] = Unit {0}
PagesFit chip (pages ∷ rest) = AllKeptFit chip pages × PagesFit chip rest

fit_pages : (chip : ChipData) (stack : List SegmentData) → AllFit chip stack → PagesFit chip (pages_of_segments stack)
unfolding PagesFit
fit_pages chip [] fits = tt
fit_pages chip (segment ∷ below) fits = (fits.0, fit_pages chip below fits.1)

pages_fit : (chip : ChipData) (stack : List SegmentData) → PagesFit chip (pages_of_segments stack) → AllFit chip stack
unfolding PagesFit
pages_fit chip [] fits = tt
pages_fit chip (segment ∷ below) fits = (fits.0, pages_fit chip below fits.1)

fit_dropped : (chip : ChipData) (i : ℕ) (all : List (List Kept)) → PagesFit chip all → PagesFit chip (drop i all)
unfolding PagesFit
fit_dropped chip zero all fit = fit
fit_dropped chip (suc i) [] fit = tt
fit_dropped chip (suc i) (pages ∷ rest) fit = fit_dropped chip i rest fit.1

pub rest_fits : (chip : ChipData) (i : ℕ) (old now : StateData) → pages_of_segments now.stack ≡ drop i (pages_of_segments old.stack) → AllFit chip old.stack → AllFit chip now.stack
rest_fits chip i old now rest fits = pages_fit chip now.stack (subst (PagesFit chip) (sym rest) (fit_dropped chip i (pages_of_segments old.stack) (fit_pages chip old.stack fits)))

pub rest_next : (i : ℕ) (all mid now : List (List Kept)) → mid ≡ drop i all → now ≡ drop 1 mid → now ≡ drop (i + 1) all
rest_next i all mid now before after = after ∙ ap (λ (xs : List (List Kept)). drop 1 xs) before ∙ drop-drop 1 i all

pub rest_depth : (i : ℕ) (old now : StateData) → pages_of_segments now.stack ≡ drop i (pages_of_segments old.stack) → i ≤ length old.stack → length now.stack + i ≡ length old.stack
rest_depth i old now rest le =
    let a : length (pages_of_segments now.stack) ≡ length now.stack = length-map now.stack (λ (segment : SegmentData). segment.pages) in
    let b : length (pages_of_segments old.stack) ≡ length old.stack = length-map old.stack (λ (segment : SegmentData). segment.pages) in
    let c = ap (λ (xs : List (List Kept)). length xs) rest in
    let d = length-drop i (pages_of_segments old.stack) in
    omega (arith, a, b, c, d, le)

-- the flashes that are left
pub next_flash : (i : ℕ) (flashes : List (List ℕ)) → 0 < length (drop i flashes) → drop i flashes ≡ get_or flashes i [] ∷ drop (suc i) flashes
next_flash zero [] some = absurd (omega (arith, some))
next_flash zero (flash ∷ flashes) some = refl
next_flash (suc i) [] some = absurd (omega (arith, some))
next_flash (suc i) (flash ∷ flashes) some = next_flash i flashes some

pub flashes_count : (chip : ChipData) (stack : List SegmentData) (flash : List ℕ) → length (flashes_before_segments chip stack flash) ≡ length stack
flashes_count chip [] flash = refl
flashes_count chip (segment ∷ below) flash = let h = flashes_count chip below (with_kept_pages chip segment flash) in omega (arith, h)

pub some_left : (flashes : List (List ℕ)) (l : Loaded) (rig : RigState) → IsSteady flashes l rig → 0 < length l.state.stack → 0 < length flashes
some_left flashes l rig steady some =
    let a = flashes_count rig.device.chip (state_at rig.journal).stack rig.device.flash in
    let b = ap (λ (xs : List (List ℕ)). length xs) steady.keeps.before in
    omega (arith, a, b, some, depth_text l rig.journal steady.loaded)

-- the lines of one segment more
lines_at : ChipData → List SegmentData → List ℕ → List Entry
lines_at chip stack flash = give_back_lines chip flash (newest_kept stack) ++ Undoes (length stack) ∷ []

shifted : (i : ℕ) (flash first : List ℕ) (flashes : List (List ℕ)) → flash_undone i first flashes ≡ flash_undone (suc i) flash (first ∷ flashes)
shifted zero flash first flashes = refl
shifted (suc i) flash first flashes = refl

undo_next : (chip : ChipData) (i : ℕ) (stack : List SegmentData) (flash : List ℕ) → i < length stack
    → taken_entries chip (suc i) stack flash ≡ taken_entries chip i stack flash ++ lines_at chip (drop i stack) (flash_undone i flash (flashes_before_segments chip stack flash))
unfolding lines_at
undo_next chip i [] flash lt = absurd (omega (arith, lt))
undo_next chip zero (segment ∷ below) flash lt =
    let count : length below + 1 ≡ length (segment ∷ below) = omega arith in
    ap (λ (m : ℕ). give_back_lines chip flash segment.pages ++ Undoes m ∷ []) count
undo_next chip (suc i) (segment ∷ below) flash lt =
    let front = give_back_lines chip flash segment.pages in
    let first = with_kept_pages chip segment flash in
    let head = Undoes (length below + 1) in
    let before = taken_entries chip i below first in
    let next = undo_next chip i below first (omega (arith, lt)) in
    let L : List ℕ → List Entry = λ f. lines_at chip (drop i below) f in
    ap (λ (es : List Entry). front ++ head ∷ es) (next ∙ ap (λ (f : List ℕ). before ++ L f) (shifted i flash first (flashes_before_segments chip below first)))
    ∙ sym (append_assoc front (head ∷ before) (L (flash_undone (suc i) flash (first ∷ flashes_before_segments chip below first))))

undo_more : (chip : ChipData) (n m : ℕ) (stack : List SegmentData) (flash : List ℕ) → n ≤ m → (rest : List Entry) × (taken_entries chip m stack flash ≡ taken_entries chip n stack flash ++ rest)
undo_more chip zero m stack flash le = (taken_entries chip m stack flash, refl)
undo_more chip (suc n) zero stack flash le = absurd (omega (arith, le))
undo_more chip (suc n) (suc m) [] flash le = ([], refl)
undo_more chip (suc n) (suc m) (segment ∷ below) flash le =
    let front = give_back_lines chip flash segment.pages in
    let first = with_kept_pages chip segment flash in
    let head = Undoes (length below + 1) in
    let more = undo_more chip n m below first (omega (arith, le)) in
    (more.0, ap (λ (es : List Entry). front ++ head ∷ es) more.1 ∙ sym (append_assoc front (head ∷ taken_entries chip n below first) more.0))

-- a beginning of some lines is one of those and more
pub lines_more : (xs ys : List Entry) (a journal : List ℕ) (written : ℕ) → journal ≡ a ++ take written (text_added (is_torn_at a) xs)
    → (m : ℕ) × (journal ≡ a ++ take m (text_added (is_torn_at a) (xs ++ ys)))
lines_more xs ys a journal written lines =
    let torn = is_torn_at a in
    let part = front_part written (text_added torn xs) (text_added (torn_after torn xs) ys) in
    (part.0, lines ∙ ap (λ bytes. a ++ bytes) (part.1 ∙ ap (λ bytes. take part.0 bytes) (sym (text_added-append torn xs ys))))

-- more segments may be undone
more_back : (n m : ℕ) (flashes : List (List ℕ)) (a : RigState) → n ≤ m → (d : Device) (journal : List ℕ) → AmidNewest n flashes a d journal → AmidNewest m flashes a d journal
more_back n m flashes a le d journal amid =
    let more = undo_more a.device.chip n m (state_at a.journal).stack a.device.flash le in
    let part = lines_more (going_lines n a) more.0 a.journal journal amid.written amid.lines in
    record {
      undone = amid.undone;
      within = omega (arith, amid.within, le);
      make = amid.make;
      undoable = amid.undoable;
      finished = amid.finished;
      written = part.0;
      lines = part.1 ∙ ap (λ (es : List Entry). a.journal ++ take part.0 (text_added (is_torn_at a.journal) es)) (sym more.1);
    }

pub undoes_nowhere : (laws : StepLaws) (flashes : List (List ℕ)) (l : Loaded) (a : RigState) → IsModel a → IsSteady flashes l a → UndoesNewest {T = Unit {0}} 0 flashes l a a (Ok tt)
undoes_nowhere laws flashes l a model steady =
    record {
      moments = weaker (Stands [] flashes a) (AmidNewest 0 flashes a) a a (stands_now laws [] flashes l a model steady)
          (λ d journal s. record { undone = 0; within = omega arith; make = s.make; undoable = s.undoable; finished = λ f. let p = s.finished f in ((λ z. p.0), p.1); written = s.written; lines = s.lines });
      fails = tt;
      honest = steady.honest;
      steady = steady;
      lines = adds_none a.journal;
      restored = refl;
      below = refl;
      finished = λ one. absurd (omega (arith, one));
    }

-- one segment more
module _ (chip : ChipData) (i : ℕ) (flashes : List (List ℕ)) (l l2 l3 : Loaded) (a b c : RigState) (model : IsModel b) (start : IsSteady flashes l a) (first : UndoesNewest {T = Unit {0}} i flashes l2 a b (Ok tt))
    (chip_is : a.device.chip ≡ chip) (lt : i < length l.state.stack) (split : drop i flashes ≡ get_or flashes i [] ∷ drop (suc i) flashes) where
  pub steady_split : IsSteady (get_or flashes i [] ∷ drop (suc i) flashes) l2 b
  steady_split = let S : List (List ℕ) → Type 0 = λ fs. IsSteady fs l2 b in subst S split first.steady

  abbrev own : List Entry
  own = taking_lines chip b.device.flash b.journal

  lines_same : going_lines i a ++ own ≡ going_lines (suc i) a
  unfolding lines_at
  lines_same =
      let stack = (state_at a.journal).stack in
      let next = undo_next a.device.chip i stack a.device.flash (omega (arith, lt, depth_text l a.journal start.loaded)) in
      let flash_is : b.device.flash ≡ flash_undone i a.device.flash (flashes_before_segments a.device.chip stack a.device.flash) =
      first.restored ∙ ap (λ (fs : List (List ℕ)). flash_undone i a.device.flash fs) (sym start.keeps.before) in
      ap (λ (es : List Entry). going_lines i a ++ es)
      (ap₂ (λ (s : List SegmentData) (f : List ℕ). lines_at chip s f) first.below flash_is ∙ ap (λ (p : ChipData). lines_at p (drop i stack) (flash_undone i a.device.flash (flashes_before_segments a.device.chip stack a.device.flash))) (sym chip_is))
      ∙ sym next

  later_lines : (journal : List ℕ) (written : ℕ) → journal ≡ b.journal ++ take written (text_added (is_torn_at b.journal) own)
      → journal ≡ a.journal ++ take (length (text_added (is_torn_at a.journal) (going_lines i a)) + written) (text_added (is_torn_at a.journal) (going_lines (suc i) a))
  later_lines journal written lines =
      lines_later (going_lines i a) own a.journal b.journal journal written first.lines lines
      ∙ ap (λ (es : List Entry). a.journal ++ take (length (text_added (is_torn_at a.journal) (going_lines i a)) + written) (text_added (is_torn_at a.journal) es)) lines_same

  later : (d : Device) (journal : List ℕ) → AmidSegmentUndo own (get_or flashes i []) (drop (suc i) flashes) b d journal → AmidNewest (suc i) flashes a d journal
  later d journal (inl s) =
      let at = at_exit (AmidNewest i flashes a) a b model first.moments in
      let U : List (List ℕ) → Type 0 = λ fs. Undoable fs d journal in
      record {
        undone = i;
        within = omega arith;
        make = makes_then a.device b.device d at.make s.make;
        undoable = subst U (sym split) s.undoable;
        finished = λ f. let p = s.finished f in ((λ z. (at.finished p.0).0 (omega (arith, z, at.within))), p.1 ∙ first.restored);
        written = length (text_added (is_torn_at a.journal) (going_lines i a)) + s.written;
        lines = later_lines journal s.written s.lines;
      }
  later d journal (inr t) =
      let at = at_exit (AmidNewest i flashes a) a b model first.moments in
      record {
        undone = suc i;
        within = omega arith;
        make = makes_then a.device b.device d at.make t.make;
        undoable = t.undoable;
        finished = λ f. ((λ z. absurd (omega (arith, z))), t.restored);
        written = length (text_added (is_torn_at a.journal) (going_lines i a)) + t.written;
        lines = later_lines journal t.written t.lines;
      }

  moments_then : {U : Type 0} (second : Result U Fault) → UndoesSegment own (get_or flashes i []) (drop (suc i) flashes) l3 b c second → LeavesOnly (AmidNewest (suc i) flashes a) a c
  moments_then second next =
      joined (AmidNewest i flashes a) (AmidSegmentUndo own (get_or flashes i []) (drop (suc i) flashes) b) (AmidNewest (suc i) flashes a) a b c
      first.moments next.moments (more_back i (suc i) flashes a (omega arith)) later

  pub undoes_more : {U : Type 0} (y : U) (n : ℕ) → suc i ≡ n → UndoesSegment own (get_or flashes i []) (drop (suc i) flashes) l3 b c (Ok y) → UndoesNewest {T = Unit {0}} n flashes l3 a c (Ok tt)
  undoes_more y n is next =
      let G : ℕ → Type 0 = λ m. UndoesNewest {T = Unit {0}} m flashes l3 a c (Ok tt) in
      let A : List Entry → Type 0 = λ es. Rattle.stm_session.specs.Steps.AddsLines es a.journal c.journal in
      let one : i + 1 ≡ suc i = omega arith in
      subst G is
      (record {
        moments = moments_then (Ok y) next;
        fails = tt;
        honest = next.honest;
        steady = next.steady;
        lines = subst A lines_same (adds_then (going_lines i a) own a.journal b.journal c.journal first.lines next.lines);
        restored = next.restored;
        below = next.below ∙ ap (λ (xs : List SegmentData). drop 1 xs) first.below ∙ drop-drop 1 i (state_at a.journal).stack ∙ ap (λ (m : ℕ). drop m (state_at a.journal).stack) one;
        finished = λ some. next.finished;
      })

  pub undoes_failed : {T U : Type 0} (taken : ℕ) (l4 : Loaded) (e : Fault) (result : Result T Fault) → suc i ≤ taken → UndoesSegment {T = U} own (get_or flashes i []) (drop (suc i) flashes) l3 b c (Err e)
      → IsErrAnd result (λ x. x ≡ e) → UndoesNewest taken flashes l4 a c result
  undoes_failed taken l4 e (Ok y) le next is = absurd is
  undoes_failed taken l4 e (Err y) le next is =
      record {
        moments = weaker (AmidNewest (suc i) flashes a) (AmidNewest taken flashes a) a c (moments_then (Err e) next) (more_back (suc i) taken flashes a le);
        fails = subst IsOutsideFault (sym is) next.fails;
        honest = next.honest;
        steady = tt;
        lines = tt;
        restored = tt;
        below = tt;
        finished = tt;
      }

pub undoes_all_newest : (i n : ℕ) (flashes : List (List ℕ)) (l2 : Loaded) (a b : RigState) → i ≡ n → UndoesNewest {T = Unit {0}} i flashes l2 a b (Ok tt) → UndoesNewest {T = Unit {0}} n flashes l2 a b (Ok tt)
undoes_all_newest i n flashes l2 a b is goes = let G : ℕ → Type 0 = λ m. UndoesNewest {T = Unit {0}} m flashes l2 a b (Ok tt) in subst G is goes

-- how far the segments are undone
pub record IsBackSoFar (again : Bool) (chip : ChipData) (Told : Tells) (i : ℕ) (l l2 : Loaded) (old new : RigState) : Type 0 where
  pub rest : pages_of_segments l2.state.stack ≡ drop i (pages_of_segments l.state.stack)
  pub line : new.line_failures ≡ old.line_failures
  pub journal : new.journal_failures ≡ old.journal_failures
  pub stays : old.is_honest → new.is_honest
  pub order : Follows (AreSegmentsUndone again chip Told i (pages_of_segments l.state.stack)) l l2 old new
  pub honest : (flashes : List (List ℕ)) → IsSteady flashes l old → old.device.chip ≡ chip → UndoesNewest {T = Unit {0}} i flashes l2 old new (Ok tt)
