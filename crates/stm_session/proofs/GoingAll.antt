-- The pages at work are put back, and then segments are undone.
use Rattle.std.proofs.Common.{◌≡◌, ℕ, zero, suc, ◌+◌, ◌/◌, ◌≤◌, List, [], ◌∷◌, ◌++◌, length, take, drop, Result, Ok, Err, IsErrAnd, refl, sym, ◌∙◌, ap, ap₂, subst, arith}
use Rattle.std.specs.Prelude.{flat_map}
use Rattle.std.proofs.lemmas.List.{drop-drop}
use Rattle.stm_wire.proofs.Names.{ChipData, Device, erased_byte, IsModel, LeavesOnly, RigState}
use Rattle.stm_wire.specs.lemmas.MomentLaws.{joined, weaker}
use Rattle.stm_chip.specs.declared.plan.Frame.{Frame}
use Rattle.stm_chip.specs.Plan.{frames_of}
use Rattle.stm_journal.specs.declared.entry.Entry.{Entry}
use Rattle.stm_journal.specs.declared.entry.Entry.TheVariants.{Undoes}
use Rattle.stm_journal.specs.declared.kept.Kept.{Kept}
use Rattle.stm_journal.proofs.Names.{KeepsSame, Loaded, pages_of_segments, SegmentData, with_kept_pages}
use Rattle.stm_session.proofs.Names.{AddsLines, AmidNewest, AmidNewestBy, AreIntents, Fault, flash_undone, Goes, going_lines, is_torn_at, IsOutsideFault, kept_at_work, program_entries, return_entries}
use Rattle.stm_session.proofs.Names.{Stands, state_at, taken_entries, text_added, undo_entries, undo_lines, UndoesBy, UndoesNewest, with_work, work_entries}
use Rattle.stm_session.proofs.Going.{at_exit}
use Rattle.stm_session.proofs.UndoesOfSegments.{lines_more}
use Rattle.stm_session.proofs.Standing.{makes_then}
use Rattle.stm_session.proofs.Texts.{adds_then, lines_later}

-- once a segment is off, the flash at the start doesn't count
pub flash_at : (n : ℕ) (x y : List ℕ) (flashes : List (List ℕ)) → (n ≡ 0 → x ≡ y) → flash_undone n x flashes ≡ flash_undone n y flashes
flash_at zero x y flashes h = h refl
flash_at (suc n) x y flashes h = refl

-- nor does the stage of the newest count for the lines
same_taken : (chip : ChipData) (n : ℕ) (xs ys : List SegmentData) (flash : List ℕ) → pages_of_segments xs ≡ pages_of_segments ys → taken_entries chip n xs flash ≡ taken_entries chip n ys flash
same_taken chip zero xs ys flash same = refl
same_taken chip (suc n) [] [] flash same = refl
same_taken chip (suc n) [] (y ∷ ys) flash same = absurd (let h : [] ≡ y.pages ∷ pages_of_segments ys = same in cc)
same_taken chip (suc n) (x ∷ xs) [] flash same = absurd (let h : x.pages ∷ pages_of_segments xs ≡ [] = same in cc)
same_taken chip (suc n) (x ∷ xs) (y ∷ ys) flash same =
    let both : x.pages ∷ pages_of_segments xs ≡ y.pages ∷ pages_of_segments ys = same in
    let pages : x.pages ≡ y.pages = cc in
    let rest : pages_of_segments xs ≡ pages_of_segments ys = cc in
    let flash_is : with_kept_pages chip x flash ≡ with_kept_pages chip y flash = ap (λ (ps : List Kept). with_kept_pages chip (record y { pages = ps }) flash) pages in
    let count : length xs ≡ length ys = sym (count_pages xs) ∙ ap (λ (ps : List (List Kept)). length ps) rest ∙ count_pages ys in
    ap (λ (ps : List Kept). flat_map (return_entries chip flash) ps ++ (Undoes (length xs + 1) ∷ taken_entries chip n xs (with_kept_pages chip x flash))) pages
    ∙ ap₂ (λ (m : ℕ) (es : List Entry). flat_map (return_entries chip flash) y.pages ++ (Undoes (m + 1) ∷ es)) count
    (ap (λ (f : List ℕ). taken_entries chip n xs f) flash_is ∙ same_taken chip n xs ys (with_kept_pages chip y flash) rest)
  where
    count_pages : (stack : List SegmentData) → length (pages_of_segments stack) ≡ length stack
    count_pages [] = refl
    count_pages (s ∷ below) = ap suc (count_pages below)

below_same : (n : ℕ) (xs ys : List SegmentData) → 1 ≤ n → drop 1 xs ≡ drop 1 ys → drop n xs ≡ drop n ys
below_same zero xs ys one same = absurd (omega (arith, one))
below_same (suc n) xs ys one same =
    let next : 1 + n ≡ suc n = omega arith in
    ap (λ (m : ℕ). drop m xs) (sym next) ∙ sym (drop-drop n 1 xs) ∙ ap (λ (s : List SegmentData). drop n s) same ∙ drop-drop n 1 ys ∙ ap (λ (m : ℕ). drop m ys) next

-- they are intents alone
rewrites_intend : (n : ℕ) (frames : List Frame) (entries : List Entry) → AreIntents entries → AreIntents (program_entries n frames ++ entries)
rewrites_intend n [] entries rest = rest
rewrites_intend n (f ∷ frames) entries rest = rest

pub work_intends : (chip : ChipData) (work : List Kept) → AreIntents (work_entries chip work)
work_intends chip [] = tt
work_intends chip (kept ∷ work) = rewrites_intend kept.page (frames_of (erased_byte chip) kept.bytes (length kept.bytes / 256)) (work_entries chip work) (work_intends chip work)

module _ (taken : ℕ) (flashes : List (List ℕ)) (a b : RigState) (one : 1 ≤ taken) (chip : ChipData) (chip_is : a.device.chip ≡ chip) where
  abbrev work : List Kept
  work = kept_at_work (state_at a.journal).stack

  abbrev front : List Entry
  front = work_entries chip work

  abbrev rest : List Entry
  rest = taken_entries chip taken (state_at a.journal).stack (with_work chip work a.device.flash)

  -- in the words of the device
  as_undone : {T : Type 0} (l3 : Loaded) (c : RigState) (result : Result T Fault) → UndoesBy (front ++ rest) taken flashes l3 a c result → UndoesBy (undo_lines taken a) taken flashes l3 a c result
  as_undone {T} l3 c result goes =
      let G : ChipData → Type 0 = λ p. UndoesBy {T = T} (undo_entries p taken (state_at a.journal).stack a.device.flash) taken flashes l3 a c result in
      subst G (sym chip_is) goes

  -- while they are put back
  before : (d : Device) (journal : List ℕ) → Stands front flashes a d journal → AmidNewestBy (front ++ rest) taken flashes a d journal
  before d journal s =
      let part = lines_more front rest a.journal journal s.written s.lines in
      record {
        undone = 0;
        within = omega arith;
        make = s.make;
        undoable = s.undoable;
        finished = λ f. let p = s.finished f in ((λ z. p.0), p.1);
        written = part.0;
        lines = part.1;
      }

  pub work_failed : {T U : Type 0} {Done : U → Type 0} (l2 l3 : Loaded) (e : Fault) (result : Result T Fault) → Goes {T = U} flashes front l2 a b (Err e) Done → IsErrAnd result (λ x. x ≡ e)
      → UndoesBy (undo_lines taken a) taken flashes l3 a b result
  work_failed l2 l3 e (Ok y) goes is = absurd is
  work_failed {T} l2 l3 e (Err y) goes is =
      as_undone {T = T} l3 b (Err y) (record {
        moments = weaker (Stands front flashes a) (AmidNewestBy (front ++ rest) taken flashes a) a b goes.moments before;
        fails = subst IsOutsideFault (sym is) goes.fails;
        honest = goes.honest;
        steady = tt;
        lines = tt;
        restored = tt;
        below = tt;
        finished = tt;
      })

  module _ (c : RigState) (l2 l3 : Loaded) (model : IsModel b) (first : Goes {T = Unit {0}} flashes front l2 a b (Ok tt) (λ x. b.device.flash ≡ with_work chip work a.device.flash)) where
    at_b : Stands front flashes a b.device b.journal
    at_b = at_exit (Stands front flashes a) a b model first.moments

    same : KeepsSame (state_at a.journal) (state_at b.journal)
    same = first.lines.same (work_intends chip work)

    lines_are : going_lines taken b ≡ rest
    lines_are =
        ap (λ (p : ChipData). taken_entries p taken (state_at b.journal).stack b.device.flash) (at_b.make.chip ∙ chip_is)
        ∙ ap (λ (f : List ℕ). taken_entries chip taken (state_at b.journal).stack f) first.done
        ∙ same_taken chip taken (state_at b.journal).stack (state_at a.journal).stack (with_work chip work a.device.flash) same.same

    after : (d : Device) (journal : List ℕ) → AmidNewest taken flashes b d journal → AmidNewestBy (front ++ rest) taken flashes a d journal
    after d journal amid =
        record {
          undone = amid.undone;
          within = amid.within;
          make = makes_then a.device b.device d at_b.make amid.make;
          undoable = amid.undoable;
          finished = λ f.
              let p = amid.finished f in
              ((λ z. (at_b.finished (p.0 z)).0), p.1 ∙ flash_at amid.undone b.device.flash a.device.flash flashes (λ z. (at_b.finished (p.0 z)).1));
          written = length (text_added (is_torn_at a.journal) front) + amid.written;
          lines = lines_later front (going_lines taken b) a.journal b.journal journal amid.written first.lines amid.lines
              ∙ ap (λ (es : List Entry). a.journal ++ take (length (text_added (is_torn_at a.journal) front) + amid.written) (text_added (is_torn_at a.journal) (front ++ es))) lines_are;
        }

    moments_all : LeavesOnly (AmidNewest taken flashes b) b c → LeavesOnly (AmidNewestBy (front ++ rest) taken flashes a) a c
    moments_all moments = joined (Stands front flashes a) (AmidNewest taken flashes b) (AmidNewestBy (front ++ rest) taken flashes a) a b c first.moments moments before after

    pub all_failed : {T U : Type 0} (e : Fault) (result : Result T Fault) → UndoesNewest {T = U} taken flashes l3 b c (Err e) → IsErrAnd result (λ x. x ≡ e) → UndoesBy (undo_lines taken a) taken flashes l3 a c result
    all_failed e (Ok y) next is = absurd is
    all_failed {T} e (Err y) next is =
        as_undone {T = T} l3 c (Err y) (record {
          moments = moments_all next.moments;
          fails = subst IsOutsideFault (sym is) next.fails;
          honest = next.honest;
          steady = tt;
          lines = tt;
          restored = tt;
          below = tt;
          finished = tt;
        })

    pub all_back : UndoesNewest {T = Unit {0}} taken flashes l3 b c (Ok tt) → UndoesBy {T = Unit {0}} (undo_lines taken a) taken flashes l3 a c (Ok tt)
    all_back next =
        let A : List Entry → Type 0 = λ es. AddsLines (front ++ es) a.journal c.journal in
        as_undone {T = Unit {0}} l3 c (Ok tt) (record {
          moments = moments_all next.moments;
          fails = tt;
          honest = next.honest;
          steady = next.steady;
          lines = subst A lines_are (adds_then front (going_lines taken b) a.journal b.journal c.journal first.lines next.lines);
          restored = next.restored ∙ flash_at taken b.device.flash a.device.flash flashes (λ z. absurd (omega (arith, z, one)));
          below = next.below ∙ below_same taken (state_at b.journal).stack (state_at a.journal).stack one same.below;
          finished = next.finished;
        })
