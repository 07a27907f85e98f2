-- What a whole session leaves, by the flash at the start of the oldest segment on the stack.
use Rattle.std.proofs.Common.{◌≡◌, ◌≤◌, ℕ, zero, suc, Bool, true, false, List, [], ◌∷◌, ◌++◌, length, take, drop, reverse, Ok, refl, sym, ◌∙◌, ap, ap₂, subst, arith, get_or, length-drop}
use Rattle.std.proofs.lemmas.List.{reverse-append}
use Rattle.stm_wire.proofs.Names.{ChipData, RigState}
use Rattle.stm_session.proofs.Names.{AllIsUndone, AllLead, before_if, changes_of, CommandData, end_of, Event, flash_after, flash_after_all, flash_undone, flashes_before, grown, Happening, identified}
use Rattle.stm_session.proofs.Names.{identify_stopped, info_stopped, informed, is_change, kept, Knows, Leads, left_refused, lost_owed, lost_power, now_of, oldest_after, oldest_of, oldest_start, ran}
use Rattle.stm_session.proofs.Names.{refusal_stopped, run_stopped, standing_in, starts_after, starts_of_run, undid, undo_stopped, Undoable, unprotect_stopped, unprotected, verifies, was_reset, World}
use Rattle.stm_session.proofs.Names.{WritesWhole}
use Rattle.stm_session.specs.Meaning.{writes, reads}
use Rattle.stm_session.proofs.RunHistories.{Laws, RunLeft, depth-is, length-before, run-left, run-begun}
use Rattle.stm_session.proofs.UndoHistories.{UndoLeft, none-finished, undo-left, undo-undone}
use Rattle.stm_session.proofs.Histories.{gives}

-- the flash at the start of the oldest segment, and with none the flash itself
abbrev pub oldest : List (List ℕ) → List ℕ → List ℕ
oldest [] flash = flash
oldest (f ∷ fs) flash = oldest fs f

oldest-append : (xs ys : List (List ℕ)) (a : List ℕ) → oldest (xs ++ ys) a ≡ oldest ys (oldest xs a)
oldest-append [] ys a = refl
oldest-append (x ∷ xs) ys a = oldest-append xs ys x

oldest-other : (starts : List (List ℕ)) (a b : List ℕ) → (starts ≡ [] → a ≡ b) → oldest starts a ≡ oldest starts b
oldest-other [] a b e = e refl
oldest-other (f ∷ fs) a b e = refl

oldest-reverse : (h : List ℕ) (xs : List (List ℕ)) (a : List ℕ) → oldest (reverse (h ∷ xs)) a ≡ h
oldest-reverse h xs a = ap (λ (l : List (List ℕ)). oldest l a) (reverse-append (h ∷ []) xs) ∙ oldest-append (reverse xs) (h ∷ []) a

first-before_if : (b : Bool) (flash : List ℕ) (flashes : List (List ℕ)) (h : List ℕ) (rest : List (List ℕ)) → (b ≡ false → flashes ≡ h ∷ rest → h ≡ flash) → before_if b flash flashes ≡ h ∷ rest → h ≡ flash
first-before_if true flash flashes h rest later e = cc
first-before_if false flash flashes h rest later e = later refl e

pub same-after : (chip : ChipData) (flash : List ℕ) (c : CommandData) → is_change c ≡ false → flash_after chip flash c ≡ flash
same-after chip flash (verifies image) e = refl
same-after chip flash (reads start size) e = refl
same-after chip flash c e = cc

-- the first flash before a change is the one at the start
first-before : (chip : ChipData) (flash : List ℕ) (commands : List CommandData) (h : List ℕ) (rest : List (List ℕ)) → flashes_before chip flash commands ≡ h ∷ rest → h ≡ flash
first-before chip flash [] h rest e = cc
first-before chip flash (c ∷ commands) h rest e =
    first-before_if (is_change c) flash (flashes_before chip (flash_after chip flash c) commands) h rest
    (λ no_change more. first-before chip (flash_after chip flash c) commands h rest more ∙ same-after chip flash c no_change) e

oldest-taken : (b : ℕ) (hs : List (List ℕ)) (flash after : List ℕ) → ((h : List ℕ) (rest : List (List ℕ)) → hs ≡ h ∷ rest → h ≡ flash) → b ≤ length hs → (b ≡ 0 → after ≡ flash)
    → oldest (reverse (take b hs)) after ≡ flash
oldest-taken zero hs flash after first within none = none refl
oldest-taken (suc b) [] flash after first within none = absurd (no_more within)
  where
    no_more : suc b ≤ 0 → ⊥
    no_more le = omega (arith, le)
oldest-taken (suc b) (h ∷ hs) flash after first within none = oldest-reverse h (take b hs) after ∙ first h hs refl

taken-oldest : (f : List ℕ) (fs : List (List ℕ)) → get_or (f ∷ fs) (length fs) [] ≡ oldest fs f
taken-oldest f [] = refl
taken-oldest f (g ∷ fs) = taken-oldest g fs

all-oldest : (flash : List ℕ) (flashes : List (List ℕ)) → flash_undone (length flashes) flash flashes ≡ oldest flashes flash
all-oldest flash [] = refl
all-oldest flash (f ∷ fs) = taken-oldest f fs

oldest-drop : (n : ℕ) (flashes : List (List ℕ)) (old new : List ℕ) → n ≤ length flashes → (n ≡ length flashes → new ≡ flash_undone n old flashes) → oldest (drop n flashes) new ≡ oldest flashes old
oldest-drop n flashes old new within same = by_length n flashes old within same
  where
    next : (n : ℕ) (old f : List ℕ) (fs : List (List ℕ)) → flash_undone (suc n) old (f ∷ fs) ≡ flash_undone n f fs
    next zero old f fs = refl
    next (suc n) old f fs = refl

    no_more : (n : ℕ) → suc n ≤ 0 → ⊥
    no_more n le = omega (arith, le)

    by_length : (n : ℕ) (flashes : List (List ℕ)) (old : List ℕ) → n ≤ length flashes → (n ≡ length flashes → new ≡ flash_undone n old flashes) → oldest (drop n flashes) new ≡ oldest flashes old
    by_length zero [] old within same = same refl
    by_length zero (f ∷ fs) old within same = refl
    by_length (suc n) [] old within same = absurd (no_more n within)
    by_length (suc n) (f ∷ fs) old within same = by_length n fs f (omega (arith, within)) (λ e. same (ap suc e) ∙ next n old f fs)

module _ (laws : Laws) {R : Type 0} (view : R → RigState) where
  run-oldest : (table : List ChipData) (commands : List CommandData) (starts : List (List ℕ)) (s t : World) → Undoable starts s.device s.journal → RunLeft laws commands starts s t
      → oldest (starts_of_run commands s t starts) t.device.flash ≡ oldest starts s.device.flash
  run-oldest table commands starts s t u left =
      let hs = flashes_before s.device.chip s.device.flash (standing_in s commands) in
      let O : ℕ → Type 0 = λ n. oldest (reverse (take n hs) ++ starts) t.device.flash ≡ oldest starts s.device.flash in
      subst O (sym (run-begun laws table commands starts s t u left))
      (oldest-append (reverse (take left.begun hs)) starts t.device.flash
      ∙ oldest-other starts (oldest (reverse (take left.begun hs)) t.device.flash) s.device.flash
      (λ none. oldest-taken left.begun hs s.device.flash t.device.flash (λ h rest e. first-before s.device.chip s.device.flash (standing_in s commands) h rest e)
      (omega (arith, left.within, length-before s.device.chip s.device.flash (standing_in s commands)))
      (λ unbegun.
      let there : reverse (take left.begun hs) ++ starts ≡ [] = ap₂ (λ n (x : List (List ℕ)). reverse (take n hs) ++ x) unbegun none in
      left.finished (none-finished t.journal (depth-is (reverse (take left.begun hs) ++ starts) t.device t.journal left.undoable ∙ ap length there))
      ∙ ap (λ n. flash_after_all s.device.chip s.device.flash (take n (changes_of (standing_in s commands)))) unbegun)))

  undo-oldest : (starts : List (List ℕ)) (s t : World) → Undoable starts s.device s.journal → UndoLeft laws starts s t
      → oldest (drop (grown t s) starts) t.device.flash ≡ oldest starts s.device.flash
  undo-oldest starts s t u left =
      let O : ℕ → Type 0 = λ n. oldest (drop n starts) t.device.flash ≡ oldest starts s.device.flash in
      subst O (sym (undo-undone laws starts s t u left))
      (oldest-drop left.undone starts s.device.flash t.device.flash left.within
      (λ all. left.finished (none-finished t.journal (depth-is (drop left.undone starts) t.device t.journal left.undoable ∙ length-drop left.undone starts ∙ omega (arith, all)))))

  -- what leaves the flash alone keeps the oldest
  alone-oldest : (starts : List (List ℕ)) (s t : World) → t.device.flash ≡ s.device.flash → oldest starts t.device.flash ≡ oldest starts s.device.flash
  alone-oldest starts s t e = ap (λ (flash : List ℕ). oldest starts flash) e

  keeps : (event : Event R) (starts : List (List ℕ)) (s t : World) → Leads view event s t → Undoable starts s.device s.journal
      → oldest (starts_after event s t starts) t.device.flash ≡ oldest_after event t (oldest starts s.device.flash)
  keeps (ran table commands old new result) starts s t (begins, knows, contract, returns) =
      let A : World → Type 0 = λ x. Knows table x → Undoable starts x.device x.journal → oldest (starts_of_run commands x t starts) t.device.flash ≡ oldest starts x.device.flash in
      let B : World → Type 0 = λ y. oldest (starts_of_run commands (now_of (view old)) y starts) y.device.flash ≡ oldest starts (view old).device.flash in
      subst A begins.1 (λ known u. subst B returns (run-oldest table commands starts (now_of (view old)) (now_of (view new)) u (run-left laws table commands starts (view old) (view new) result begins.0 u known contract).1)) knows
  keeps (run_stopped table commands old new result) starts s t (begins, knows, contract, left) =
      let A : World → Type 0 = λ x. Knows table x → Undoable starts x.device x.journal → oldest (starts_of_run commands x t starts) t.device.flash ≡ oldest starts x.device.flash in
      subst A begins.1 (λ known u. run-oldest table commands starts (now_of (view old)) t u ((run-left laws table commands starts (view old) (view new) result begins.0 u known contract).0 t left)) knows
  keeps (informed table old new result) starts s t leads = λ u. alone-oldest starts s t (gives laws view (informed table old new result) starts s t leads u).2.0
  keeps (info_stopped table old new result) starts s t leads = λ u. alone-oldest starts s t (gives laws view (info_stopped table old new result) starts s t leads u).2.0
  keeps (identified old new result) starts s t leads = λ u. alone-oldest starts s t (gives laws view (identified old new result) starts s t leads u).2.0
  keeps (identify_stopped old new result) starts s t leads = λ u. alone-oldest starts s t (gives laws view (identify_stopped old new result) starts s t leads u).2.0
  keeps (undid table count old new result) starts s t (begins, knows, contract, returns) =
      let A : World → Type 0 = λ x. Knows table x → Undoable starts x.device x.journal → oldest (drop (grown t x) starts) t.device.flash ≡ oldest starts x.device.flash in
      let B : World → Type 0 = λ y. oldest (drop (grown y (now_of (view old))) starts) y.device.flash ≡ oldest starts (view old).device.flash in
      subst A begins.1 (λ known u. subst B returns (undo-oldest starts (now_of (view old)) (now_of (view new)) u (undo-left laws table count starts (view old) (view new) result begins.0 u contract known).1)) knows
  keeps (undo_stopped table count old new result) starts s t (begins, knows, contract, left) =
      let A : World → Type 0 = λ x. Knows table x → Undoable starts x.device x.journal → oldest (drop (grown t x) starts) t.device.flash ≡ oldest starts x.device.flash in
      subst A begins.1 (λ known u. undo-oldest starts (now_of (view old)) t u ((undo-left laws table count starts (view old) (view new) result begins.0 u contract known).0 t left)) knows
  keeps (left_refused refusal old new result) starts s t leads = λ u. alone-oldest starts s t (gives laws view (left_refused refusal old new result) starts s t leads u).2.0
  keeps (refusal_stopped refusal old new result) starts s t leads = λ u. alone-oldest starts s t (gives laws view (refusal_stopped refusal old new result) starts s t leads u).2.0
  keeps (unprotected old new result) starts s t leads = λ u. alone-oldest starts s t (gives laws view (unprotected old new result) starts s t leads u).2.0
  keeps (unprotect_stopped old new result) starts s t leads = λ u. alone-oldest starts s t (gives laws view (unprotect_stopped old new result) starts s t leads u).2.0
  keeps kept starts s t leads = λ u. refl
  keeps was_reset starts s t leads = λ u. alone-oldest starts s t (gives laws view was_reset starts s t leads u).2.0
  keeps lost_owed starts s t leads = λ u. alone-oldest starts s t (gives laws view lost_owed starts s t leads u).2.0
  keeps lost_power starts s t (lost, e) = λ u.
      oldest-other starts t.device.flash s.device.flash
      (λ none. laws.loses_nothing s.device t.device s.journal (none-finished s.journal (depth-is starts s.device s.journal u ∙ ap length none)) lost)

  -- where a history ends
  record Ends (first : List ℕ) (w : World) : Type 0 where
    starts : List (List ℕ)
    undoable : Undoable starts w.device w.journal
    oldest_is : oldest starts w.device.flash ≡ first

  ends : (history : List (Happening R)) (s : World) (starts : List (List ℕ)) (first : List ℕ) → Undoable starts s.device s.journal → oldest starts s.device.flash ≡ first → AllLead view history s
      → Ends (oldest_of history first) (end_of history s)
  ends [] s starts first u is all = record { starts = starts; undoable = u; oldest_is = is }
  ends (x ∷ history) s starts first u is (leads, rest) =
      let g = gives laws view x.event starts s x.after leads u in
      ends history x.after (starts_after x.event s x.after starts) (oldest_after x.event x.after first) g.0 (keeps x.event starts s x.after leads u ∙ next x.event) rest
    where
      next : (event : Event R) → oldest_after event x.after (oldest starts s.device.flash) ≡ oldest_after event x.after first
      next event = ap (λ (flash : List ℕ). oldest_after event x.after flash) is

  pub all-undone : AllIsUndone view
  all-undone history start starts u all table old new n w2 leads =
      let e = ends history start starts (oldest_start starts start) u (sym (all-oldest start.device.flash starts)) all in
      let w = end_of history start in
      let held = (gives laws view (undid table 0 old new (Ok n)) e.starts w w2 leads e.undoable).2 in
      let depth = depth-is e.starts w.device w.journal e.undoable in (
        held.flash ∙ ap (λ k. flash_undone k w.device.flash e.starts) (held.answer ∙ depth) ∙ all-oldest w.device.flash e.starts ∙ e.oldest_is,
        omega (arith, held.segments, held.answer),
      )

  pub writes-whole : WritesWhole view
  writes-whole history start starts u all table image old new outcomes w2 leads =
      let e = ends history start starts (oldest_start starts start) u (sym (all-oldest start.device.flash starts)) all in
      (gives laws view (ran table (writes image ∷ []) old new (Ok outcomes)) e.starts (end_of history start) w2 leads e.undoable).2.flash
