-- What a stop leaves at any moment of one step: a line appended, a frame sent under an intent, a question.
use Rattle.std.proofs.Common.{◌≡◌, ◌⊎◌, inl, inr, ℕ, zero, suc, ◌<◌, ◌≤◌, ◌==◌, Bool, true, false, List, [], ◌∷◌, ◌++◌, length, take, drop, Option, Some, if◌then◌else◌, refl, sym, ap, ◌∙◌, subst, arith, append-nil, IsTrue}
use Rattle.std.specs.Prelude.{Contains}
use Rattle.std.proofs.lemmas.Bool.{true≢false}
use Rattle.std.proofs.lemmas.Bool.Decides.{nat_tests}
use Rattle.stm_wire.specs.declared.intent.Intent.{Intent}
use Rattle.stm_wire.specs.declared.intent.Intent.TheVariants.{Erase, Program}
use Rattle.stm_wire.proofs.Names.{Awaits, AwaitsUnder, ChipData, command, Device, get, Harmless, intended_pages, IsDevice, IsFrameUnder, IsModel, IsSettled, LeavesOnly, LeftByAppend, LeftBySending}
use Rattle.stm_wire.proofs.Names.{LosesOwed, most_under, page_count, RigState, settling_byte}
use Rattle.stm_session.proofs.Awaiting.{asked_under, sent_under}
use Rattle.stm_wire.specs.lemmas.MomentLaws.{started}
use Rattle.stm_journal.proofs.Names.{added_bytes, allows, good, HasAdded, intent_of, is_greeted, is_unfinished, IsPrintable, journal_of, LeavesLoaded, Loaded, newest_keeps, StateData}
use Rattle.stm_journal.specs.declared.entry.Entry.{Entry}
use Rattle.stm_journal.specs.declared.fault.JournalFault.{JournalFault}
use Rattle.stm_journal.specs.declared.fault.JournalFault.TheVariants.{File, Memory}
use Rattle.stm_session.proofs.Names.{fault_of_journal, has_companion, is_unfinished_at, IsJournalOf, IsOutsideFault, IsSteady, IsStill, IsUnder, KeepsFlashes, risked_pages, SameMake, Stands, state_at}
use Rattle.stm_session.proofs.Names.{StepLaws, Undoable}
use Rattle.stm_session.proofs.Keeping.{companion_kept, good_at, is_risked, keeps_over, keeps_same, undoable_with, unfinished_is}

drop-none : (n : ℕ) → drop {A = ℕ} n [] ≡ []
drop-none zero = refl
drop-none (suc n) = refl

-- a settled device owes nothing that could be lost
pub loses_nothing : (d e : Device) → IsSettled d → LosesOwed d e → e ≡ d
loses_nothing d e settled (n, is) =
    let with_owed : List ℕ → Device = λ xs. let r : Device = record d { owed = xs } in r in
    is ∙ ap (λ (xs : List ℕ). with_owed (drop n xs)) settled.owed ∙ ap with_owed (drop-none n) ∙ ap with_owed (sym settled.owed)

pub same_make : (d : Device) → SameMake d d
same_make d = record { chip = refl; version = refl; codes = refl }

pub makes_then : (a b c : Device) → SameMake a b → SameMake b c → SameMake a c
makes_then a b c p q = record { chip = q.chip ∙ p.chip; version = q.version ∙ p.version; codes = q.codes ∙ p.codes }

-- the page of an intent, and its companion, are kept by the newest segment
pub intended_kept : (i : Intent) (n : ℕ) (chip : ChipData) (s : StateData) → (i ≡ Erase n) ⊎ (i ≡ Program n) → IsJournalOf chip s → IsTrue (newest_keeps n s)
    → (m : ℕ) → m < page_count chip → Contains (intended_pages (Some i)) m → IsTrue (newest_keeps m s)
intended_kept i n chip s (inl is) fits kept m here c =
    let C : Intent → Type 0 = λ j. Contains (intended_pages (Some j)) m in
    by_page (n == 1) refl (let D : Intent → Type 0 = λ j. Contains (intended_pages (Some j)) m in subst D is c)
  where
    is_one : (n == 1) ≡ true → n ≡ 1
    is_one e = grind (arith, e)

    many : 257 ≡ m → has_companion chip ≡ true
    many e = grind (arith, nat_tests, e, here)

    only : (x : ℕ) → Contains (x ∷ []) m → x ≡ m
    only x (zero, k, e) = e
    only x (suc j, k, e) = absurd (omega (arith, k))

    K : ℕ → Type 0
    K x = IsTrue (newest_keeps x s)

    two : (n == 1) ≡ true → Contains (1 ∷ 257 ∷ []) m → IsTrue (newest_keeps m s)
    two e (zero, k, same) = let P : ℕ → Type 0 = λ x. IsTrue (newest_keeps x s) in subst P (is_one e ∙ same) kept
    two e (suc zero, k, same) =
        let P : ℕ → Type 0 = λ x. IsTrue (newest_keeps x s) in
        subst P same (companion_kept chip s fits (many same) (subst P (is_one e) kept))
    two e (suc (suc j), k, same) = absurd (omega (arith, k))

    by_page : (b : Bool) → (n == 1) ≡ b → Contains (if b then 1 ∷ 257 ∷ [] else n ∷ []) m → IsTrue (newest_keeps m s)
    by_page true e c = two e c
    by_page false e c = let P : ℕ → Type 0 = λ x. IsTrue (newest_keeps x s) in subst P (only n c) kept
intended_kept i n chip s (inr is) fits kept m here c =
    let D : Intent → Type 0 = λ j. Contains (intended_pages (Some j)) m in
    let P : ℕ → Type 0 = λ x. IsTrue (newest_keeps x s) in
    subst P (only (subst D is c)) kept
  where
    only : Contains (n ∷ []) m → n ≡ m
    only (zero, k, e) = e
    only (suc j, k, e) = absurd (omega (arith, k))

-- a settled device: no byte harms any page
module _ (laws : StepLaws) where
  pub settled_harmless : (d : Device) (byte : ℕ) (pages : List ℕ) → IsDevice d → IsSettled d → Harmless d byte pages
  settled_harmless d byte pages is settled =
      laws.more_pages d byte [] pages (λ n here c. absurd (omega (arith, c.1))) (laws.asking d d byte (command 0x00) is settled (get refl) (0, (d, refl, (0, refl)))).0.harmless

  settled_under : (greeted : Bool) (d : Device) (o : Option Intent) → IsDevice d → IsSettled d → AwaitsUnder greeted o d
  settled_under greeted d o is settled = asked_under laws greeted d o (laws.asking d d (settling_byte o) (command 0x00) is settled (get refl) (0, (d, refl, (0, refl)))).0.awaits

  settled_owes : (d : Device) → IsSettled d → length d.owed ≤ 4096
  settled_owes d settled = let e : length d.owed ≡ 0 = ap (λ (xs : List ℕ). length xs) settled.owed in omega (arith, e)

  pub settled_undoable : (flashes : List (List ℕ)) (d : Device) (journal : List ℕ) (s : StateData) → IsDevice d → IsSettled d → journal_of journal ≡ good s → KeepsFlashes flashes d s → Undoable flashes d journal
  settled_undoable flashes d journal s is settled state keeps =
      undoable_with flashes d journal s state keeps (settled_harmless d (settling_byte (intent_of s)) (risked_pages s) is settled) (settled_under (is_greeted journal) d (intent_of s) is settled) (settled_owes d settled)

  -- before the first step
  pub stands_now : (entries : List Entry) (flashes : List (List ℕ)) (l : Loaded) (a : RigState) → IsModel a → IsSteady flashes l a → LeavesOnly (Stands entries flashes a) a a
  stands_now entries flashes l a model steady =
      let S : Device → Type 0 = λ d. Stands entries flashes a d a.journal in
      let here : S a.device = record {
        undoable = settled_undoable flashes a.device a.journal (state_at a.journal) model.device steady.settled (good_at l a.journal steady.loaded) steady.keeps;
        make = same_make a.device;
        finished = λ f. (f, refl);
        written = 0;
        lines = sym (append-nil a.journal);
      } in
      started (Stands entries flashes a) a model (λ d loses. subst S (sym (loses_nothing a.device d steady.settled loses)) here)

  -- a line is appended that keeps the flashes
  pub append_stands : (e : Entry) (flashes : List (List ℕ)) (l : Loaded) (old : RigState) → IsModel old → IsSteady flashes l old → IsTrue (allows (state_at old.journal) e) → IsPrintable e
      → ((s : StateData) → HasAdded e (state_at old.journal) s → KeepsFlashes flashes old.device s) → ((s : StateData) → HasAdded e (state_at old.journal) s → is_unfinished s ≡ true)
      → (d : Device) (journal : List ℕ) → LeftByAppend (added_bytes l.is_torn (e ∷ [])) old d journal → Stands (e ∷ []) flashes old d journal
  append_stands e flashes l old model steady allowed printable keeps unfinished d journal left =
      let n = left.0.0 in
      let stopped = laws.entry l old.journal (state_at old.journal) e n steady.loaded (good_at l old.journal steady.loaded) allowed printable in
      let J : List ℕ → Type 0 = λ j. journal_of j ≡ good stopped.0 in
      let at : journal_of journal ≡ good stopped.0 = subst J (sym left.0.1) stopped.1 in
      let S : Device → Type 0 = λ x. Stands (e ∷ []) flashes old x journal in
      subst S (sym (loses_nothing old.device d steady.settled left.1))
      (record {
        undoable = settled_undoable flashes old.device journal stopped.0 model.device steady.settled at (state_keeps stopped.0 stopped.2);
        make = same_make old.device;
        finished = λ f. (finished stopped.0 stopped.2 (sym (unfinished_is journal stopped.0 at) ∙ f), refl);
        written = n;
        lines = left.0.1 ∙ ap (λ (t : Bool). old.journal ++ take n (added_bytes t (e ∷ []))) steady.loaded.is_torn;
      })
    where
      state_keeps : (s : StateData) → (s ≡ state_at old.journal) ⊎ HasAdded e (state_at old.journal) s → KeepsFlashes flashes old.device s
      state_keeps s (inl same) = let K : StateData → Type 0 = λ t. KeepsFlashes flashes old.device t in subst K (sym same) steady.keeps
      state_keeps s (inr has) = keeps s has

      finished : (s : StateData) → (s ≡ state_at old.journal) ⊎ HasAdded e (state_at old.journal) s → is_unfinished s ≡ false → is_unfinished_at old.journal ≡ false
      finished s (inl same) f = sym (ap (λ (t : StateData). is_unfinished t) same) ∙ f
      finished s (inr has) f = absurd (true≢false (sym (unfinished s has) ∙ f))

  -- a frame is sent under an intent on a page that the newest segment keeps
  pub frame_stands : (flashes : List (List ℕ)) (l : Loaded) (n : ℕ) (i : Intent) (frame : List ℕ) (old : RigState) → IsModel old → IsSteady flashes l old → IsUnder n i (state_at old.journal)
      → (i ≡ Erase n) ⊎ (i ≡ Program n) → IsFrameUnder old.device.chip (Some i) frame → (d : Device) (journal : List ℕ) → LeftBySending frame old d journal
      → Stands [] flashes old d journal × KeepsFlashes flashes d (state_at old.journal)
  frame_stands flashes l n i frame old model steady under of frames d journal left =
      let s = state_at old.journal in
      let safely = laws.sending old.device d (Some i) frame model.device steady.settled frames left.1 in
      let make : SameMake old.device d = record { chip = safely.same_chip; version = safely.same_version; codes = safely.same_codes } in
      let covered = intended_kept i n old.device.chip s of steady.keeps.fits under.kept in
      let Byte : Option Intent → Type 0 = λ o. Harmless d (settling_byte o) (risked_pages s) in
      let C : ChipData → Type 0 = λ c. (m : ℕ) → m < page_count c → Contains (intended_pages (Some i)) m → IsTrue (newest_keeps m s) in
      let keeps = keeps_over laws.changing flashes old.device d s (intended_pages (Some i)) model.device steady.keeps make safely.flash covered in
      let harmless = laws.more_pages d (settling_byte (Some i)) (intended_pages (Some i)) (risked_pages s)
      (λ m here c. is_risked s m under.unfinished (subst C (sym make.chip) covered m here c)) safely.harmless in
      let awaits = sent_under laws (is_greeted journal) d (Some i) (subst (λ (c : ChipData). Awaits (settling_byte (Some i)) (most_under c.kind (Some i)) d) (sym make.chip) safely.awaits) in
      let J : List ℕ → Type 0 = λ j. journal_of j ≡ good s in
      let at : journal_of journal ≡ good s = subst J (sym left.0) (good_at l old.journal steady.loaded) in (
        record {
          undoable = undoable_with flashes d journal s at keeps (subst Byte (sym under.newest) harmless) (subst (λ (o : Option Intent). AwaitsUnder (is_greeted journal) o d) (sym under.newest) awaits) safely.owed;
          make = make;
          finished = λ f. absurd (true≢false (sym (unfinished_is journal s at ∙ under.unfinished) ∙ f));
          written = 0;
          lines = left.0 ∙ sym (append-nil old.journal);
        },
        keeps,
      )

  -- a question changes nothing
  pub still_stands : (entries : List Entry) (flashes : List (List ℕ)) (l : Loaded) (old : RigState) → IsSteady flashes l old → (d : Device) (journal : List ℕ) → IsStill old d journal → Stands entries flashes old d journal
  still_stands entries flashes l old steady d journal still =
      let s = state_at old.journal in
      let J : List ℕ → Type 0 = λ j. journal_of j ≡ good s in
      let at : journal_of journal ≡ good s = subst J (sym still.journal_same) (good_at l old.journal steady.loaded) in
      let byte = settling_byte (intent_of s) in
      record {
        undoable = undoable_with flashes d journal s at (keeps_same flashes old.device d s steady.keeps still.make still.flash)
            (laws.more_pages d byte [] (risked_pages s) (λ n here c. absurd (omega (arith, c.1))) (still.harmless byte)) (asked_under laws (is_greeted journal) d (intent_of s) (still.awaits byte)) still.owed;
        make = still.make;
        finished = λ f. (sym (unfinished_is journal s at) ∙ f, still.flash);
        written = 0;
        lines = still.journal_same ∙ sym (append-nil old.journal);
      }

pub journal_outside : (l l2 : Loaded) (e : JournalFault) → LeavesLoaded l l2 e → IsOutsideFault (fault_of_journal e)
journal_outside l l2 File left = tt
journal_outside l l2 Memory left = tt
journal_outside l l2 e left = absurd left
