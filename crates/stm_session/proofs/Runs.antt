-- Commands, one after another: what some of them have done, and the next.
use Rattle.std.proofs.Common.{◌≡◌, inl, inr, ℕ, zero, suc, ◌+◌, ◌≤◌, Bool, true, false, List, [], ◌∷◌, ◌++◌, length, take, reverse, Ok, refl, sym, ap, ap₂, ◌∙◌, subst, arith, append-nil}
use Rattle.std.proofs.lemmas.List.{take_all, take-append-le, length-append, length-reverse}
use Rattle.stm_wire.proofs.Names.{ChipData, Device, IsModel, LeavesOnly, RigState}
use Rattle.stm_wire.specs.lemmas.MomentLaws.{joined, weaker}
use Rattle.stm_journal.specs.declared.entry.Entry.{Entry}
use Rattle.stm_journal.proofs.Names.{Loaded}
use Rattle.stm_session.proofs.Names.{AddsLines, AmidOne, AmidRun, answer_on, answers_from, before_if, changes_of, command_lines, CommandData, depth_at, DoesCommand, flash_after, flash_after_all}
use Rattle.stm_session.proofs.Names.{flash_left, flashes_before, HasOpened, is_change, is_named_at, is_torn_at, IsSteady, lines_if, outcome_of, OutcomeData, run_entries, SameMake, segment_entries}
use Rattle.stm_session.proofs.Names.{Stands, state_at, StepLaws, text_added, torn_after, Undoable}
use Rattle.stm_session.proofs.CommandLists.{after-changes, after-push, answers-push, before-append, before-push, changes-append, entries-append, entries-none, entries-one, named-as-before, named-by-changes, named_after}
use Rattle.stm_session.proofs.Going.{at_exit}
use Rattle.stm_session.proofs.UndoesOfSegments.{flashes_count}
use Rattle.stm_session.proofs.RunHistories.{length-before}
use Rattle.stm_session.proofs.Keeping.{good_at}
use Rattle.stm_session.proofs.Standing.{makes_then, stands_now}
use Rattle.stm_session.proofs.Texts.{adds_none, adds_then, front_part, lines_later, text_added-append}

-- the lines of some commands, on a Rig as it is
abbrev pub lines_of : RigState → List CommandData → List Entry
lines_of old xs = run_entries (is_named_at old.journal) old.device.chip (depth_at old.journal) old.device.flash xs

abbrev pub flash_with : RigState → List CommandData → List ℕ
flash_with old xs = flash_after_all old.device.chip old.device.flash xs

abbrev pub flashes_after : RigState → List CommandData → List (List ℕ) → List (List ℕ)
flashes_after old xs flashes = reverse (flashes_before old.device.chip old.device.flash xs) ++ flashes

-- Some commands are done, on an honest Rig.
pub record HasRun (xs : List CommandData) (flashes : List (List ℕ)) (l2 : Loaded) (old mid : RigState) (outcomes : List OutcomeData) : Type 0 where
  pub moments : LeavesOnly (AmidRun xs flashes old) old mid
  pub steady : IsSteady (flashes_after old xs flashes) l2 mid
  pub flash : mid.device.flash ≡ flash_with old xs
  pub lines : AddsLines (lines_of old xs) old.journal mid.journal
  pub answers : answers_from old xs ≡ Ok outcomes

-- a journal has as many segments as flashes can be had back
steady_depth : (flashes : List (List ℕ)) (l : Loaded) (rig : RigState) → IsSteady flashes l rig → depth_at rig.journal ≡ length flashes
steady_depth flashes l rig steady = sym (flashes_count rig.device.chip (state_at rig.journal).stack rig.device.flash) ∙ ap length steady.keeps.before

-- a moment of some commands is one of more
pub amid_more : (xs ys : List CommandData) (flashes : List (List ℕ)) (old : RigState) (d : Device) (journal : List ℕ) → AmidRun xs flashes old d journal → AmidRun (xs ++ ys) flashes old d journal
amid_more xs ys flashes old d journal a =
    let chip = old.device.chip in
    let flash = old.device.flash in
    let torn = is_torn_at old.journal in
    let more = run_entries (named_after (is_named_at old.journal) xs) chip (depth_at old.journal + length (changes_of xs)) (flash_with old xs) ys in
    let lines : lines_of old (xs ++ ys) ≡ lines_of old xs ++ more = entries-append (is_named_at old.journal) chip (depth_at old.journal) flash xs ys in
    let part = front_part a.written (text_added torn (lines_of old xs)) (text_added (torn_after torn (lines_of old xs)) more) in
    let count = ap length (changes-append xs ys) ∙ length-append (changes_of xs) (changes_of ys) in
    let hs = flashes_before chip flash xs in
    let within : a.begun ≤ length hs = omega (arith, a.within, length-before chip flash xs) in
    let fs : take a.begun (flashes_before chip flash (xs ++ ys)) ≡ take a.begun hs =
    ap (λ (f : List (List ℕ)). take a.begun f) (before-append chip flash xs ys) ∙ take-append-le a.begun hs (flashes_before chip (flash_with old xs) ys) within in
    let cs : take a.begun (changes_of (xs ++ ys)) ≡ take a.begun (changes_of xs) =
    ap (λ (c : List CommandData). take a.begun c) (changes-append xs ys) ∙ take-append-le a.begun (changes_of xs) (changes_of ys) a.within in
    let U : List (List ℕ) → Type 0 = λ f. Undoable (reverse f ++ flashes) d journal in
    record {
      begun = a.begun;
      within = omega (arith, a.within, count);
      make = a.make;
      undoable = subst U (sym fs) a.undoable;
      finished = λ f. a.finished f ∙ ap (λ (c : List CommandData). flash_after_all chip flash c) (sym cs);
      written = part.0;
      lines = a.lines ∙ ap (λ bytes. old.journal ++ bytes) (part.1 ∙ ap (λ bytes. take part.0 bytes) (sym (text_added-append torn (lines_of old xs) more) ∙ ap (text_added torn) (sym lines)));
    }

-- before the first command
pub run_nothing : (laws : StepLaws) (flashes : List (List ℕ)) (l : Loaded) (a : RigState) → IsModel a → IsSteady flashes l a → HasRun [] flashes l a a []
run_nothing laws flashes l a model steady =
    record {
      moments = weaker (Stands [] flashes a) (AmidRun [] flashes a) a a (stands_now laws [] flashes l a model steady)
          (λ d journal s. record { begun = 0; within = omega arith; make = s.make; undoable = s.undoable; finished = λ f. (s.finished f).1; written = s.written; lines = s.lines });
      steady = steady;
      flash = refl;
      lines = adds_none a.journal;
      answers = refl;
    }

-- some commands are done
module _ (laws : StepLaws) (xs : List CommandData) (flashes : List (List ℕ)) (l l2 : Loaded) (old mid : RigState) (outcomes : List OutcomeData) (model : IsModel mid) (start : IsSteady flashes l old)
    (first : HasRun xs flashes l2 old mid outcomes) where
  pub made_so_far : SameMake old.device mid.device
  made_so_far = (at_exit (AmidRun xs flashes old) old mid model first.moments).make

  depth_so_far : depth_at mid.journal ≡ depth_at old.journal + length (changes_of xs)
  depth_so_far =
      let hs = flashes_before old.device.chip old.device.flash xs in
      let now : depth_at mid.journal ≡ length (reverse hs ++ flashes) = steady_depth (flashes_after old xs flashes) l2 mid first.steady in
      omega (arith, now, length-append (reverse hs) flashes, length-reverse hs, length-before old.device.chip old.device.flash xs, steady_depth flashes l old start)

  named_so_far : is_named_at mid.journal ≡ named_after (is_named_at old.journal) xs
  named_so_far = by_count (length (changes_of xs)) refl
    where
      by_count : (n : ℕ) → length (changes_of xs) ≡ n → is_named_at mid.journal ≡ named_after (is_named_at old.journal) xs
      by_count zero e =
          let same : mid.journal ≡ old.journal =
          first.lines.added ∙ ap (λ (es : List Entry). old.journal ++ text_added (is_torn_at old.journal) es) (entries-none (is_named_at old.journal) old.device.chip (depth_at old.journal) old.device.flash xs e)
          ∙ append-nil old.journal in
          ap is_named_at same ∙ sym (named-as-before (is_named_at old.journal) xs e)
      by_count (suc n) e =
          let deep = depth_so_far in
          let sound = laws.sound mid.journal (state_at mid.journal) (good_at l2 mid.journal first.steady.loaded) in
          sound.named (omega (arith, e, deep)) ∙ sym (named-by-changes (is_named_at old.journal) xs (omega (arith, e)))

  -- the lines of the next command
  lines_next : (c : CommandData) → lines_of old (xs ++ c ∷ []) ≡ lines_of old xs ++ command_lines mid c
  lines_next c =
      let named = is_named_at old.journal in
      let chip = old.device.chip in
      let below = depth_at old.journal in
      let now = flash_with old xs in
      let of : Bool → ChipData → ℕ → List ℕ → List Entry = λ n k b f. lines_if (is_change c) (segment_entries n k (b + 1) f (flash_after k f c)) in
      let b2 = below + length (changes_of xs) in
      entries-append named chip below old.device.flash xs (c ∷ [])
      ∙ ap (λ (es : List Entry). lines_of old xs ++ es)
      (entries-one (named_after named xs) chip b2 now c
      ∙ ap (λ (n : Bool). of n chip b2 now) (sym named_so_far)
      ∙ ap (λ (k : ChipData). of (is_named_at mid.journal) k b2 now) (sym made_so_far.chip)
      ∙ ap (λ (b : ℕ). of (is_named_at mid.journal) mid.device.chip b now) (sym depth_so_far)
      ∙ ap (λ (f : List ℕ). of (is_named_at mid.journal) mid.device.chip (depth_at mid.journal) f) (sym first.flash))

  flash_next : (c : CommandData) → flash_left mid c ≡ flash_with old (xs ++ c ∷ [])
  flash_next c =
      ap₂ (λ (k : ChipData) f. flash_after k f c) made_so_far.chip first.flash ∙ sym (after-push old.device.chip old.device.flash xs c)

  pub answer_next : (c : CommandData) → answer_on mid c ≡ outcome_of old.device.chip (depth_at old.journal + length (changes_of xs) + 1) (flash_with old xs) c
  answer_next c =
      ap₂ (λ (k : ChipData) f. outcome_of k (depth_at mid.journal + 1) f c) made_so_far.chip first.flash
      ∙ ap (λ (b : ℕ). outcome_of old.device.chip (b + 1) (flash_with old xs) c) depth_so_far

  -- all of these flashes, of more commands
  taken_flashes : (ys : List CommandData) → take (length (changes_of xs)) (flashes_before old.device.chip old.device.flash (xs ++ ys)) ≡ flashes_before old.device.chip old.device.flash xs
  taken_flashes ys =
      let hs = flashes_before old.device.chip old.device.flash xs in
      let n = length-before old.device.chip old.device.flash xs in
      ap (λ (f : List (List ℕ)). take (length (changes_of xs)) f) (before-append old.device.chip old.device.flash xs ys)
      ∙ take-append-le (length (changes_of xs)) hs (flashes_before old.device.chip (flash_with old xs) ys) (omega (arith, n))
      ∙ take_all (length (changes_of xs)) hs (omega (arith, n))

  taken_flash : (ys : List CommandData) → flash_with old xs ≡ flash_after_all old.device.chip old.device.flash (take (length (changes_of xs)) (changes_of (xs ++ ys)))
  taken_flash ys =
      let cs : take (length (changes_of xs)) (changes_of (xs ++ ys)) ≡ changes_of xs =
      ap (λ (c : List CommandData). take (length (changes_of xs)) c) (changes-append xs ys) ∙ take-append-le (length (changes_of xs)) (changes_of xs) (changes_of ys) (omega arith)
      ∙ take_all (length (changes_of xs)) (changes_of xs) (omega arith) in
      sym (ap (λ (c : List CommandData). flash_after_all old.device.chip old.device.flash c) cs ∙ after-changes old.device.chip old.device.flash xs)

  -- a moment of the next command that hasn't begun a segment
  stands_amid : (ys : List CommandData) (entries : List Entry) → lines_of old (xs ++ ys) ≡ lines_of old xs ++ entries → (d : Device) (journal : List ℕ) → Stands entries (flashes_after old xs flashes) mid d journal
      → AmidRun (xs ++ ys) flashes old d journal
  stands_amid ys entries more d journal s =
      let torn = is_torn_at old.journal in
      let U : List (List ℕ) → Type 0 = λ f. Undoable (reverse f ++ flashes) d journal in
      let written = length (text_added torn (lines_of old xs)) + s.written in
      record {
        begun = length (changes_of xs);
        within = omega (arith, ap length (changes-append xs ys), length-append (changes_of xs) (changes_of ys));
        make = makes_then old.device mid.device d made_so_far s.make;
        undoable = subst U (sym (taken_flashes ys)) s.undoable;
        finished = λ f. (s.finished f).1 ∙ first.flash ∙ taken_flash ys;
        written = written;
        lines = lines_later (lines_of old xs) entries old.journal mid.journal journal s.written first.lines s.lines ∙ ap (λ (es : List Entry). old.journal ++ take written (text_added torn es)) (sym more);
      }

  -- nor will
  pub asks_amid : (d : Device) (journal : List ℕ) → Stands [] (flashes_after old xs flashes) mid d journal → AmidRun xs flashes old d journal
  asks_amid d journal s =
      let A : List CommandData → Type 0 = λ cs. AmidRun cs flashes old d journal in
      let E : lines_of old (xs ++ []) ≡ lines_of old xs ++ [] = ap (lines_of old) (append-nil xs) ∙ sym (append-nil (lines_of old xs)) in
      subst A (append-nil xs) (stands_amid [] [] E d journal s)

  -- one that has
  opened_amid : (c : CommandData) → is_change c ≡ true → (d : Device) (journal : List ℕ) → HasOpened (command_lines mid c) (flashes_after old xs flashes) (flash_left mid c) mid d journal
      → AmidRun (xs ++ c ∷ []) flashes old d journal
  opened_amid c change d journal h =
      let all = xs ++ c ∷ [] in
      let chip = old.device.chip in
      let flash = old.device.flash in
      let torn = is_torn_at old.journal in
      let n = length (changes_of all) in
      let hs = flashes_before chip flash all in
      let fs : mid.device.flash ∷ flashes_after old xs flashes ≡ reverse (take n hs) ++ flashes =
      ap (λ (f : List ℕ). f ∷ flashes_after old xs flashes) first.flash
      ∙ ap (λ (b : Bool). before_if b (flash_with old xs) (flashes_after old xs flashes)) (sym change)
      ∙ sym (before-push chip flash xs c flashes)
      ∙ ap (λ (f : List (List ℕ)). reverse f ++ flashes) (sym (take_all n hs (omega (arith, length-before chip flash all)))) in
      let U : List (List ℕ) → Type 0 = λ f. Undoable f d journal in
      let written = length (text_added torn (lines_of old xs)) + h.written in
      record {
        begun = n;
        within = omega arith;
        make = makes_then old.device mid.device d made_so_far h.make;
        undoable = subst U fs h.undoable;
        finished = λ f. h.finished f ∙ flash_next c ∙ sym (ap (λ (cs : List CommandData). flash_after_all chip flash cs) (take_all n (changes_of all) (omega arith)) ∙ after-changes chip flash all);
        written = written;
        lines = lines_later (lines_of old xs) (command_lines mid c) old.journal mid.journal journal h.written first.lines h.lines
            ∙ ap (λ (es : List Entry). old.journal ++ take written (text_added torn es)) (sym (lines_next c));
      }

  pub one_amid : (c : CommandData) (d : Device) (journal : List ℕ) → AmidOne (is_change c) (command_lines mid c) (flashes_after old xs flashes) (flash_left mid c) mid d journal → AmidRun (xs ++ c ∷ []) flashes old d journal
  one_amid c d journal = by_kind (is_change c) refl
    where
      by_kind : (b : Bool) → is_change c ≡ b → AmidOne b (command_lines mid c) (flashes_after old xs flashes) (flash_left mid c) mid d journal → AmidRun (xs ++ c ∷ []) flashes old d journal
      by_kind true e (inl s) = stands_amid (c ∷ []) (command_lines mid c) (lines_next c) d journal s
      by_kind true e (inr h) = opened_amid c e d journal h
      by_kind false e s = stands_amid (c ∷ []) (command_lines mid c) (lines_next c) d journal s

  -- the next command
  pub run_next : {T : Type 0} (c : CommandData) (l3 : Loaded) (new : RigState) (x : T) (outcome_in : T → OutcomeData) → DoesCommand (flashes_after old xs flashes) c l3 mid new (Ok x) outcome_in
      → HasRun (xs ++ c ∷ []) flashes l3 old new (outcomes ++ outcome_in x ∷ [])
  run_next c l3 new x outcome_in does =
      let S : List (List ℕ) → Type 0 = λ fs. IsSteady fs l3 new in
      let L : List Entry → Type 0 = λ es. AddsLines es old.journal new.journal in
      record {
        moments = joined (AmidRun xs flashes old) (AmidOne (is_change c) (command_lines mid c) (flashes_after old xs flashes) (flash_left mid c) mid) (AmidRun (xs ++ c ∷ []) flashes old) old mid new
            first.moments does.moments (amid_more xs (c ∷ []) flashes old) (one_amid c);
        steady = subst S (ap (λ (f : List ℕ). before_if (is_change c) f (flashes_after old xs flashes)) first.flash ∙ sym (before-push old.device.chip old.device.flash xs c flashes)) does.steady;
        flash = does.flash ∙ flash_next c;
        lines = subst L (sym (lines_next c)) (adds_then (lines_of old xs) (command_lines mid c) old.journal mid.journal new.journal first.lines does.lines);
        answers = answers-push old.device.chip (depth_at old.journal) old.device.flash xs c outcomes (outcome_in x) first.answers (sym (answer_next c) ∙ does.answer);
      }
