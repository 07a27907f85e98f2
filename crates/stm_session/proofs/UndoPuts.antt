-- The newest segment is undone: its pages are put back one after another, and then it is gone.
use Rattle.std.proofs.Common.{◌≡◌, ◌⊎◌, inl, inr, ℕ, suc, ◌+◌, ◌<◌, ◌≤◌, ◌/◌, Bool, true, false, if◌then◌else◌, List, [], ◌∷◌, ◌++◌, length, get_or, take, drop, Some, Result, Ok, Err, IsErrAnd, refl, sym, ◌∙◌, ap, subst, arith, IsTrue}
use Rattle.std.specs.Prelude.{slice_get, bytes_eq, OnOk}
use Rattle.stm_wire.proofs.Names.{ChipData, Device, erased_byte, flash_size, IsModel, IsSettled, LeavesOnly, LeftByAppend, page_of, RigState, with_page}
use Rattle.stm_wire.specs.lemmas.MomentLaws.{joined, weaker}
use Rattle.stm_chip.specs.declared.plan.Frame.{Frame}
use Rattle.stm_chip.specs.Plan.{frames_of}
use Rattle.stm_journal.specs.declared.entry.Entry.{Entry}
use Rattle.stm_journal.specs.declared.entry.Entry.TheVariants.{Undoes}
use Rattle.stm_journal.specs.declared.fault.JournalFault.{JournalFault}
use Rattle.stm_journal.specs.declared.kept.Kept.{Kept}
use Rattle.stm_journal.specs.declared.kept.PagePlace.{PagePlace}
use Rattle.stm_journal.proofs.Names.{added_bytes, AllKeptFit, allows, Appends, flashes_before_segments, good, HasAdded, HasUndone, is_unfinished, journal_of, KeepsSame, kept_at, kept_entry}
use Rattle.stm_journal.proofs.Names.{kept_place, LeavesLoaded, Loaded, loaded_after, place_of, SegmentData, StateData}
use Rattle.stm_journal.specs.lemmas.CallEntries.{allowed-undone}
use Rattle.stm_session.proofs.Names.{AddsLines, AmidSegmentUndo, AreGivenBack, AreIntents, Fault, fault_of_journal, Follows, give_back_lines, Goes, is_torn_at, IsOutsideFault, IsSteady, KeepsFlashes}
use Rattle.stm_session.proofs.Names.{newest_at, newest_kept, program_entries, return_entries, rewrite_entries, Stands, state_at, StepLaws, Tells, text_added, UndoesSegment, with_pages}
use Rattle.stm_session.proofs.Going.{at_exit, goes_as, goes_failed, goes_ok, goes_then, stands_later, stands_more}
use Rattle.stm_session.proofs.Keeping.{depth_text, good_at, keeps_undone, unfinished_is}
use Rattle.stm_session.proofs.Returns.{entry_newest, kept_in_text, lines_all, lines_by, lines_next, newest_fits, newest_once, page_until, pages_next}
use Rattle.stm_session.proofs.Standing.{journal_outside, loses_nothing, makes_then, same_make, settled_undoable}
use Rattle.stm_session.proofs.Texts.{adds_then, intents_then, lines_later}

-- the lines by which pages are put back are intents
intents_return : (chip : ChipData) (flash : List ℕ) (kept : Kept) → AreIntents (return_entries chip flash kept)
intents_return chip flash kept = either (bytes_eq (page_of chip flash kept.page) kept.bytes)
  where
    programs : (frames : List Frame) → AreIntents (program_entries kept.page frames)
    programs [] = tt
    programs (f ∷ frames) = tt

    either : (b : Bool) → AreIntents (if b then [] else rewrite_entries chip kept.page kept.bytes)
    either true = tt
    either false = programs (frames_of (erased_byte chip) kept.bytes (length kept.bytes / 256))

pub intents_returns : (chip : ChipData) (flash : List ℕ) (pages : List Kept) → AreIntents (give_back_lines chip flash pages)
intents_returns chip flash [] = tt
intents_returns chip flash (kept ∷ pages) = intents_then (return_entries chip flash kept) (give_back_lines chip flash pages) (intents_return chip flash kept) (intents_returns chip flash pages)

-- how far the pages are put back
pub record IsGivenBackSoFar (again : Bool) (chip : ChipData) (Told : Tells) (i : ℕ) (l l2 : Loaded) (old new : RigState) : Type 0 where
  pub same : KeepsSame l.state l2.state
  pub line : new.line_failures ≡ old.line_failures
  pub journal : new.journal_failures ≡ old.journal_failures
  pub stays : old.is_honest → new.is_honest
  pub order : Follows (AreGivenBack again chip Told (take i (newest_kept l.state.stack))) l l2 old new
  pub honest : (flashes : List (List ℕ)) → IsSteady flashes l old → old.device.chip ≡ chip
      → Goes {T = Unit {0}} flashes (give_back_lines chip old.device.flash (take i (newest_at old.journal))) l2 old new (Ok tt)
      (λ x. new.device.flash ≡ with_pages chip (take i (newest_at old.journal)) old.device.flash)

-- one page more
module _ {again : Bool} {Told : Tells} (laws : StepLaws) (chip : ChipData) (l l2 : Loaded) (a b : RigState) (newest i n line : ℕ) (place : PagePlace) (flashes : List (List ℕ)) (so_far : IsGivenBackSoFar again chip Told i l l2 a b)
    (model : IsModel a) (model_then : b.is_honest → IsModel b) (steady : IsSteady flashes l a) (chip_is : a.device.chip ≡ chip) (newest_is : newest ≡ length l.state.stack)
    (place_is : kept_place l2.state newest i ≡ Some place) (number_is : kept_at l2.state newest i ≡ Some (n, line)) where
  pub first : Goes {T = Unit {0}} flashes (give_back_lines chip a.device.flash (take i (newest_at a.journal))) l2 a b (Ok tt) (λ x. b.device.flash ≡ with_pages chip (take i (newest_at a.journal)) a.device.flash)
  first = so_far.honest flashes steady chip_is

  pub chip_still : b.device.chip ≡ chip
  chip_still = (at_exit _ a b (model_then first.honest) first.moments).make.chip ∙ chip_is

  abbrev pub the_line : (kept : Kept) × (kept_entry (state_at b.journal) newest i ≡ Some kept) × (place_of kept ≡ place) × (kept.page ≡ n)
  the_line = kept_in_text l2 b.journal newest i n line place first.steady.loaded place_is number_is

  here : slice_get (newest_at a.journal) i ≡ Some the_line.0
  here =
      let same = first.lines.same (intents_returns chip a.device.flash (take i (newest_at a.journal))) in
      sym (entry_newest (state_at a.journal) newest i (newest_is ∙ depth_text l a.journal steady.loaded)) ∙ sym (same.entry newest i) ∙ the_line.1

  page_same : page_of chip b.device.flash the_line.0.page ≡ page_of chip a.device.flash the_line.0.page
  page_same =
      let sound = laws.sound a.journal (state_at a.journal) (good_at l a.journal steady.loaded) in
      let fits = newest_fits a.device.chip (state_at a.journal).stack steady.keeps.fits.pages in
      let size = model.device.size in
      let F : ChipData → Type 0 = λ c. AllKeptFit c (newest_at a.journal) in
      let S : ChipData → Type 0 = λ c. length a.device.flash ≡ flash_size c in
      ap (λ (f : List ℕ). page_of chip f the_line.0.page) first.done
      ∙ page_until chip (newest_at a.journal) a.device.flash i the_line.0 (newest_once (state_at a.journal).stack sound.once) (subst F chip_is fits) (subst S chip_is size) here

  own_lines : return_entries chip b.device.flash the_line.0 ≡ return_entries chip a.device.flash the_line.0
  own_lines = lines_by chip a.device.flash b.device.flash the_line.0 page_same

  module _ (l3 : Loaded) (c : RigState) where
    pub returned : {T : Type 0} (x : T) → Goes flashes (return_entries chip b.device.flash the_line.0) l3 b c (Ok x) (λ y. c.device.flash ≡ with_page chip n the_line.0.bytes b.device.flash)
        → Goes {T = Unit {0}} flashes (give_back_lines chip a.device.flash (take (i + 1) (newest_at a.journal))) l3 a c (Ok tt) (λ y. c.device.flash ≡ with_pages chip (take (i + 1) (newest_at a.journal)) a.device.flash)
    returned x next =
        let pages = newest_at a.journal in
        let f : Kept → List Entry = λ kept. return_entries chip a.device.flash kept in
        let front = give_back_lines chip a.device.flash (take i pages) in
        let one : suc i ≡ i + 1 = omega arith in
        let Own : Unit {0} → Type 0 = λ y. c.device.flash ≡ with_page chip n the_line.0.bytes b.device.flash in
        goes_as flashes (front ++ return_entries chip b.device.flash the_line.0) (give_back_lines chip a.device.flash (take (i + 1) pages)) l3 a c _
        (ap (λ es. front ++ es) own_lines ∙ sym (lines_next f pages i the_line.0 here) ∙ ap (λ (m : ℕ). give_back_lines chip a.device.flash (take m pages)) one)
        (goes_then {Done2 = Own} flashes front (return_entries chip b.device.flash the_line.0) l2 l3 a b c (tt {0}) (Ok tt) (model_then first.honest) first
        (goes_ok flashes (return_entries chip b.device.flash the_line.0) l3 b c x (tt {0}) next (λ p. p))
        (λ y done. done ∙ ap (λ (m : ℕ). with_page chip m the_line.0.bytes b.device.flash) (sym the_line.3)
        ∙ ap (λ (g : List ℕ). with_page chip the_line.0.page the_line.0.bytes g) first.done
        ∙ sym (pages_next chip pages a.device.flash i the_line.0 here) ∙ ap (λ (m : ℕ). with_pages chip (take m pages) a.device.flash) one))

    pub return_failed : {T U : Type 0} {Done1 : T → Type 0} {Done : U → Type 0} (l4 : Loaded) (e : Fault) (result : Result U Fault) → Goes flashes (return_entries chip b.device.flash the_line.0) l3 b c (Err e) Done1
        → IsErrAnd result (λ x. x ≡ e) → Goes flashes (give_back_lines chip a.device.flash (newest_at a.journal)) l4 a c result Done
    return_failed {Done = Done} l4 e result next is =
        let pages = newest_at a.journal in
        let f : Kept → List Entry = λ kept. return_entries chip a.device.flash kept in
        let front = give_back_lines chip a.device.flash (take i pages) in
        let rest = give_back_lines chip a.device.flash (drop (suc i) pages) in
        goes_as flashes (front ++ (return_entries chip b.device.flash the_line.0 ++ rest)) (give_back_lines chip a.device.flash pages) l4 a c result
        (ap (λ es. front ++ (es ++ rest)) own_lines ∙ sym (lines_all f pages i the_line.0 here))
        (goes_then flashes front (return_entries chip b.device.flash the_line.0 ++ rest) l2 l4 a b c (tt {0}) result (model_then first.honest) first
        (goes_failed {Done = Done} flashes (return_entries chip b.device.flash the_line.0) rest l3 l4 b c e result next is) (λ y p. p))

-- the flash with the newest segment's pages put back is the one before it
pub first_flash : (chip : ChipData) (stack : List SegmentData) (f flash : List ℕ) (flashes : List (List ℕ)) → flashes_before_segments chip stack f ≡ flash ∷ flashes → with_pages chip (newest_kept stack) f ≡ flash
first_flash chip [] f flash flashes e = absurd (let h : [] ≡ flash ∷ flashes = e in cc)
first_flash chip (segment ∷ below) f flash flashes e = ap (λ (fs : List (List ℕ)). get_or fs 0 []) e

-- the line that says so, where the flash is the one before the newest segment
module _ (laws : StepLaws) (flash : List ℕ) (flashes : List (List ℕ)) (l l2 : Loaded) (k : ℕ) (old new : RigState) (model : IsModel old) (steady : IsSteady (flash ∷ flashes) l old)
    (k_is : k ≡ length (state_at old.journal).stack) (some : 0 < length (state_at old.journal).stack) (restored : old.device.flash ≡ flash) where
  undone_at : (d : Device) (journal : List ℕ) → LeftByAppend (added_bytes l.is_torn (Undoes k ∷ [])) old d journal → AmidSegmentUndo (Undoes k ∷ []) flash flashes old d journal
  undone_at d journal left =
      let n = left.0.0 in
      let good_old = good_at l old.journal steady.loaded in
      let sound = laws.sound old.journal (state_at old.journal) good_old in
      let A : ℕ → Type 0 = λ m. IsTrue (allows (state_at old.journal) (Undoes m)) in
      let P : ℕ → Type 0 = λ m. m ≤ 65535 in
      let allowed = subst A (sym k_is) (allowed-undone (state_at old.journal) sound some).0 in
      let stopped = laws.entry l old.journal (state_at old.journal) (Undoes k) n steady.loaded good_old allowed (subst P (sym k_is) sound.depth) in
      let J : List ℕ → Type 0 = λ j. journal_of j ≡ good stopped.0 in
      let B : Device → Type 0 = λ x. AmidSegmentUndo (Undoes k ∷ []) flash flashes old x journal in
      let added = left.0.1 ∙ ap (λ (t : Bool). old.journal ++ take n (added_bytes t (Undoes k ∷ []))) steady.loaded.is_torn in
      subst B (sym (loses_nothing old.device d steady.settled left.1)) (at n added stopped.0 (subst J (sym left.0.1) stopped.1) stopped.2)
    where
      at : (n : ℕ) → journal ≡ old.journal ++ take n (text_added (is_torn_at old.journal) (Undoes k ∷ [])) → (s : StateData) → journal_of journal ≡ good s
          → (s ≡ state_at old.journal) ⊎ HasAdded (Undoes k) (state_at old.journal) s → AmidSegmentUndo (Undoes k ∷ []) flash flashes old old.device journal
      at n added s is (inl same) =
          let K : StateData → Type 0 = λ t. KeepsFlashes (flash ∷ flashes) old.device t in
          inl (record {
            undoable = settled_undoable laws (flash ∷ flashes) old.device journal s model.device steady.settled is (subst K (sym same) steady.keeps);
            make = same_make old.device;
            finished = λ f. (sym (ap (λ (t : StateData). is_unfinished t) same) ∙ sym (unfinished_is journal s is) ∙ f, refl);
            written = n;
            lines = added;
          })
      at n added s is (inr has) =
          inr (record {
            undoable = settled_undoable laws flashes old.device journal s model.device steady.settled is (keeps_undone flash flashes old.device (state_at old.journal) s has steady.keeps restored);
            make = same_make old.device;
            finished = unfinished_is journal s is ∙ has.finished;
            restored = restored;
            written = n;
            lines = added;
          })

  undone_moments : {T : Type 0} (result : Result T JournalFault) → Appends (Undoes k ∷ []) l l2 old new result → LeavesOnly (AmidSegmentUndo (Undoes k ∷ []) flash flashes old) old new
  undone_moments result appends = weaker (LeftByAppend (added_bytes l.is_torn (Undoes k ∷ [])) old) (AmidSegmentUndo (Undoes k ∷ []) flash flashes old) old new appends.bytes.moments undone_at

  pub undone_goes : {T U : Type 0} (x : T) (y : U) → Appends (Undoes k ∷ []) l l2 old new (Ok x) → l2 ≡ loaded_after (Undoes k ∷ []) l → HasUndone (state_at old.journal) (state_at new.journal)
      → UndoesSegment (Undoes k ∷ []) flash flashes l2 old new (Ok y)
  undone_goes x y appends after has =
      let D : Device → Type 0 = λ d. KeepsFlashes flashes d (state_at new.journal) in
      record {
        moments = undone_moments (Ok x) appends;
        fails = tt;
        honest = appends.bytes.honest;
        steady = record {
          honest = appends.bytes.honest;
          loaded = appends.loaded;
          settled = subst IsSettled (sym appends.bytes.same_device) steady.settled;
          keeps = subst D (sym appends.bytes.same_device) (keeps_undone flash flashes old.device (state_at old.journal) (state_at new.journal) has steady.keeps restored);
        };
        lines = record {
          added = appends.bytes.added ∙ ap (λ (t : Bool). old.journal ++ added_bytes t (Undoes k ∷ [])) steady.loaded.is_torn;
          torn = sym appends.loaded.is_torn ∙ ap (λ (m : Loaded). m.is_torn) after;
          same = λ none. absurd none;
        };
        restored = ap (λ (d : Device). d.flash) appends.bytes.same_device ∙ restored;
        below = has.stack;
        finished = has.finished;
      }

  pub undone_fails : {T U : Type 0} (l3 : Loaded) (fault : JournalFault) (result : Result U Fault) → Appends {T = T} (Undoes k ∷ []) l l2 old new (Err fault) → LeavesLoaded l l2 fault
      → IsErrAnd result (λ y. y ≡ fault_of_journal fault) → UndoesSegment (Undoes k ∷ []) flash flashes l3 old new result
  undone_fails l3 fault (Ok y) appends left is = absurd is
  undone_fails l3 fault (Err y) appends left is =
      record {
        moments = undone_moments (Err fault) appends;
        fails = subst IsOutsideFault (sym is) (journal_outside l l2 fault left);
        honest = appends.bytes.honest;
        steady = tt;
        lines = tt;
        restored = tt;
        below = tt;
        finished = tt;
      }

-- steps that keep all, and then these
pub back_then : {T U : Type 0} {Done : T → Type 0} (xs ys : List Entry) (flash : List ℕ) (flashes : List (List ℕ)) (l2 l3 : Loaded) (a b c : RigState) (x : T) (second : Result U Fault) → IsModel b → AreIntents xs
    → Goes (flash ∷ flashes) xs l2 a b (Ok x) Done → UndoesSegment ys flash flashes l3 b c second → UndoesSegment (xs ++ ys) flash flashes l3 a c second
back_then {U = U} xs ys flash flashes l2 l3 a b c x second model intents first next =
    let at = at_exit (Stands xs (flash ∷ flashes) a) a b model first.moments in
    record {
      moments = joined (Stands xs (flash ∷ flashes) a) (AmidSegmentUndo ys flash flashes b) (AmidSegmentUndo (xs ++ ys) flash flashes a) a b c
          first.moments next.moments (λ d journal s. inl (stands_more xs ys (flash ∷ flashes) a d journal s)) (later at);
      fails = next.fails;
      honest = next.honest;
      steady = next.steady;
      lines = lines_then second next.lines;
      restored = next.restored;
      below = below_then second next.below;
      finished = next.finished;
    }
  where
    later : Stands xs (flash ∷ flashes) a b.device b.journal → (d : Device) (journal : List ℕ) → AmidSegmentUndo ys flash flashes b d journal → AmidSegmentUndo (xs ++ ys) flash flashes a d journal
    later at d journal (inl s) = inl (stands_later xs ys (flash ∷ flashes) a b at first.lines d journal s)
    later at d journal (inr t) =
        inr (record {
          undoable = t.undoable;
          make = makes_then a.device b.device d at.make t.make;
          finished = t.finished;
          restored = t.restored;
          written = length (text_added (is_torn_at a.journal) xs) + t.written;
          lines = lines_later xs ys a.journal b.journal journal t.written first.lines t.lines;
        })

    lines_then : (r : Result U Fault) → OnOk r (AddsLines ys b.journal c.journal) → OnOk r (AddsLines (xs ++ ys) a.journal c.journal)
    lines_then (Ok y) adds = adds_then xs ys a.journal b.journal c.journal first.lines adds
    lines_then (Err e) adds = tt

    below_then : (r : Result U Fault) → OnOk r ((state_at c.journal).stack ≡ drop 1 (state_at b.journal).stack) → OnOk r ((state_at c.journal).stack ≡ drop 1 (state_at a.journal).stack)
    below_then (Ok y) below = below ∙ (first.lines.same intents).below
    below_then (Err e) below = tt

pub back_failed : {T U : Type 0} {Done : T → Type 0} (xs ys : List Entry) (flash : List ℕ) (flashes : List (List ℕ)) (l2 l3 : Loaded) (a b : RigState) (e : Fault) (result : Result U Fault)
    → Goes {T = T} (flash ∷ flashes) xs l2 a b (Err e) Done → IsErrAnd result (λ x. x ≡ e) → UndoesSegment (xs ++ ys) flash flashes l3 a b result
back_failed xs ys flash flashes l2 l3 a b e (Ok x) goes is = absurd is
back_failed xs ys flash flashes l2 l3 a b e (Err y) goes is =
    record {
      moments = weaker (Stands xs (flash ∷ flashes) a) (AmidSegmentUndo (xs ++ ys) flash flashes a) a b goes.moments (λ d journal s. inl (stands_more xs ys (flash ∷ flashes) a d journal s));
      fails = subst IsOutsideFault (sym is) goes.fails;
      honest = goes.honest;
      steady = tt;
      lines = tt;
      restored = tt;
      below = tt;
      finished = tt;
    }

-- the same lines, spelled otherwise
pub takes_as : {T : Type 0} (xs ys : List Entry) (flash : List ℕ) (flashes : List (List ℕ)) (l2 : Loaded) (a b : RigState) (result : Result T Fault) → xs ≡ ys → UndoesSegment xs flash flashes l2 a b result → UndoesSegment ys flash flashes l2 a b result
takes_as {T} xs ys flash flashes l2 a b result same takes = let G : List Entry → Type 0 = λ es. UndoesSegment {T = T} es flash flashes l2 a b result in subst G same takes
