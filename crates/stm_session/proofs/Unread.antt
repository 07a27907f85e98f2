-- An undo whose journal could not be read, and what a loss of owed bytes leaves.
use Rattle.std.proofs.Common.{◌≡◌, ◌⊎◌, inl, inr, ℕ, ◌≤◌, not, List, [], ◌++◌, length, Option, Some, None, Result, Ok, Err, IsErrAnd, refl, sym, ◌∙◌, ap, ap₂, subst, arith, append-nil}
use Rattle.std.proofs.Math.Seq.{take-nil}
use Rattle.std.proofs.lemmas.List.{length-drop}
use Rattle.stm_wire.proofs.Names.{Awaits, ChipData, Device, GoesOn, Harmless, LosesOwed, RigState, SameOutside, settling_byte}
use Rattle.stm_session.proofs.Awaiting.{lost_under}
use Rattle.stm_wire.specs.lemmas.MomentLaws.{weaker}
use Rattle.stm_journal.proofs.Names.{AreFetches, bad, flashes_before_segments, good, intent_of, is_greeted, IsFaultOf, IsUntouched, journal_of, JournalData, KeepsDevice, Loaded, Loads, names_other}
use Rattle.stm_journal.proofs.Names.{StateData}
use Rattle.stm_journal.specs.declared.fault.JournalFault.{JournalFault}
use Rattle.stm_journal.specs.declared.fault.JournalFault.TheVariants.{File, Bad, OtherDevice as OtherJournal, OtherBoard as OtherJournalBoard, Memory as JournalMemory}
use Rattle.stm_session.proofs.Names.{AmidUndo, byte_at_journal, Fault, fault_of_journal, IsElsewhere, IsFlashSettled, IsJournalOf, IsJournalOrMemory, IsOutsideFault, risked_at, risked_pages, SameMake}
use Rattle.stm_session.proofs.Names.{Stands, state_at, StepLaws, taken_count, undo_refusal, Undoable, UndoContract}
use Rattle.stm_session.specs.declared.fault.Fault.TheVariants as fault
use Rattle.stm_session.proofs.Openings.{unsent_outside}

pub same_flash : (old : RigState) (flash : List ℕ) → flash ≡ old.device.flash → IsFlashSettled old flash
same_flash old flash same =
    let Out : List ℕ → Type 0 = λ bytes. SameOutside old.device.chip (risked_at old.journal) old.device.flash bytes in
    subst Out (sym same) (record { same_length = refl; elsewhere = λ n here none. refl })

-- owed bytes alone are lost
pub untouched_make : (old d : Device) → LosesOwed old d → SameMake old d
untouched_make old d loses =
    record { chip = ap (λ (x : Device). x.chip) loses.1; version = ap (λ (x : Device). x.version) loses.1; codes = ap (λ (x : Device). x.codes) loses.1 }

pub lost_owed : (old d : Device) → LosesOwed old d → length old.owed ≤ 4096 → length d.owed ≤ 4096
lost_owed old d loses le = omega (arith, le, ap (λ (x : Device). length x.owed) loses.1, length-drop loses.0 old.owed)

pub untouched_amid : (laws : StepLaws) (taken : ℕ) (flashes : List (List ℕ)) (old : RigState) → Undoable flashes old.device old.journal → (d : Device) (journal : List ℕ) → IsUntouched old d journal → AmidUndo taken flashes old d journal
untouched_amid laws taken flashes old u d journal left =
    let make = untouched_make old.device d left.1 in
    let flash : d.flash ≡ old.device.flash = ap (λ (x : Device). x.flash) left.1.1 in
    let fit : ChipData → Type 0 = λ c. IsJournalOf c (state_at old.journal) in
    let U : List ℕ → Type 0 = λ j. Undoable flashes d j in
    record {
      undone = 0;
      within = omega arith;
      make = make;
      undoable = subst U (sym left.0)
          (record {
            good_journal = u.good_journal;
            own = ap (λ (c : ChipData). names_other c.id (state_at old.journal)) make.chip ∙ u.own;
            fits = subst fit (sym make.chip) u.fits;
            keeps = ap₂ (λ (c : ChipData) bytes. flashes_before_segments c (state_at old.journal).stack bytes) make.chip flash ∙ u.keeps;
            harmless = laws.lost old.device d (settling_byte (intent_of (state_at old.journal))) (risked_pages (state_at old.journal)) u.harmless left.1;
            awaits = lost_under (is_greeted old.journal) old.device d (intent_of (state_at old.journal)) left.1 u.awaits;
            owed = lost_owed old.device d left.1 u.owed;
          });
      finished = λ f. flash;
      settled = old.device.flash;
      is_settled = same_flash old old.device.flash refl;
      written = 0;
      lines = left.0 ∙ sym (append-nil old.journal);
    }

-- and once the journal was read
pub stands_amid : (l : Loaded) (old a : RigState) → Loads old a (Ok l) → (taken : ℕ) (flashes : List (List ℕ)) (d : Device) (journal : List ℕ) → Stands [] flashes a d journal → AmidUndo taken flashes old d journal
stands_amid l old a loads taken flashes d journal s =
    let M : Device → Type 0 = λ x. SameMake x d in
    record {
      undone = 0;
      within = omega arith;
      make = subst M loads.same_device s.make;
      undoable = s.undoable;
      finished = λ f. (s.finished f).1 ∙ ap (λ (x : Device). x.flash) loads.same_device;
      settled = old.device.flash;
      is_settled = same_flash old old.device.flash refl;
      written = 0;
      lines = s.lines ∙ ap₂ (λ (j t : List ℕ). j ++ t) loads.journal (take-nil s.written);
    }

pub untouched_stray : (laws : StepLaws) (old : RigState) → Harmless old.device (byte_at_journal old.journal) (risked_at old.journal) → length old.device.owed ≤ 4096 → (d : Device) (journal : List ℕ) → IsUntouched old d journal
    → IsElsewhere old d journal
untouched_stray laws old harmless owed d journal left =
    let flash : d.flash ≡ old.device.flash = ap (λ (x : Device). x.flash) left.1.1 in
    let Out : List ℕ → Type 0 = λ bytes. SameOutside old.device.chip (risked_at old.journal) old.device.flash bytes in
    record {
      journal_same = left.0;
      make = untouched_make old.device d left.1;
      flash = subst Out (sym flash) (record { same_length = refl; elsewhere = λ n here none. refl });
      harmless = laws.lost old.device d (byte_at_journal old.journal) (risked_at old.journal) harmless left.1;
      awaits = λ most least w. subst (Awaits (byte_at_journal old.journal) most) (sym left.1.1) w;
      owed = lost_owed old.device d left.1 owed;
    }

-- faults of a load
pub lost_by : (old new : RigState) (e : JournalFault) → KeepsDevice old new e → LosesOwed old.device new.device
lost_by old new File kept = kept
lost_by old new e kept = (0, kept)

abbrev pub IsBadLine : List ℕ → Fault → Type 0
IsBadLine journal e = (line : ℕ) × (journal_of journal ≡ bad line) × (e ≡ fault.BadJournal line)

pub by_fault : (journal : List ℕ) (e : JournalFault) → IsFaultOf journal e → IsJournalOrMemory (fault_of_journal e) ⊎ IsBadLine journal (fault_of_journal e)
by_fault journal (Bad line) f = inr (line, f, refl)
by_fault journal OtherJournal f = absurd f
by_fault journal OtherJournalBoard f = absurd f
by_fault journal e f = inl tt

pub of_outside : (e : Fault) → IsJournalOrMemory e → IsOutsideFault e
of_outside e is = unsent_outside e is

pub load_spared : (journal : List ℕ) (e : JournalFault) → IsFaultOf journal e → journal ≡ [] → fault_of_journal e ≡ fault.Memory → ⊥
load_spared journal OtherJournal f empty m = f
load_spared journal OtherJournalBoard f empty m = f
load_spared journal JournalMemory f empty m = subst (λ (j : List ℕ). IsFaultOf j JournalMemory) empty f
load_spared journal e f empty m = cc

pub bad_refused : (table : List ChipData) (j : JournalData) (line : ℕ) → j ≡ bad line → undo_refusal j table ≡ Some (fault.BadJournal line)
bad_refused table j line is = ap (λ (x : JournalData). undo_refusal x table) is

pub none_some : {A : Type 0} (x : Option Fault) (e : Fault) → x ≡ None → x ≡ Some e → A
none_some x e none some = absurd (let h : None ≡ Some e = sym none ∙ some in cc)

pub bad_good : {A : Type 0} (j : JournalData) (line : ℕ) (s : StateData) → j ≡ bad line → j ≡ good s → A
bad_good j line s is not = absurd (let h : bad line ≡ good s = sym is ∙ not in cc)

-- the journal couldn't be read
pub contract_unread : (laws : StepLaws) (table : List ChipData) (count : ℕ) (old new : RigState) (e : JournalFault) (result : Result ℕ Fault) → (old.is_honest → Loads old new (Err e)) → GoesOn AreFetches old.calls new.calls
    → IsErrAnd result (λ x. x ≡ fault_of_journal e) → UndoContract table count old new result
contract_unread laws table count old new e (Ok x) loads calls is = absurd is
contract_unread laws table count old new e (Err x) loads calls is =
    record {
      refused = λ h refusal r.
          record { moments = (loads h).moments; honest = (loads h).honest; left = left h; answers = refuses h refusal r (by_fault old.journal e (loads h).faults) };
      refused_calls = λ h refusal r. calls;
      nothing = λ h s g none.
          record { moments = (loads h).moments; honest = (loads h).honest; left = left h; answer = tt; fails = subst IsJournalOrMemory (sym is) (unless_bad h s g (by_fault old.journal e (loads h).faults)) };
      nothing_calls = λ h s g none. calls;
      elsewhere = λ h accepted some header chip named listed harmless owed within refusal misfit.
          record {
            moments = weaker (IsUntouched old) (IsElsewhere old) old new (loads h).moments (untouched_stray laws old harmless owed);
            honest = (loads h).honest;
            left = untouched_stray laws old harmless owed new.device new.journal (left h);
            answers = inr (subst IsOutsideFault (sym is) (of_outside (fault_of_journal e) (unless_refused h accepted (by_fault old.journal e (loads h).faults))));
          };
      undoes = λ h flashes u listed.
          let taken = taken_count count (length flashes) in
          record {
            moments = weaker (IsUntouched old) (AmidUndo taken flashes old) old new (loads h).moments (untouched_amid laws taken flashes old u);
            honest = (loads h).honest;
            left = untouched_amid laws taken flashes old u new.device new.journal (left h);
            answer = tt;
            done = tt;
            settled = tt;
            fails = subst IsOutsideFault (sym is) (of_outside (fault_of_journal e) (unless_bad h (state_at old.journal) u.good_journal (by_fault old.journal e (loads h).faults)));
          };
      spared = λ h empty memory. load_spared old.journal e (loads h).faults empty (sym is ∙ memory);
    }
  where
    left : old.is_honest → IsUntouched old new.device new.journal
    left h = ((loads h).journal, lost_by old new e (loads h).kept_device)

    unless_bad : old.is_honest → (s : StateData) → journal_of old.journal ≡ good s → IsJournalOrMemory (fault_of_journal e) ⊎ IsBadLine old.journal (fault_of_journal e) → IsJournalOrMemory (fault_of_journal e)
    unless_bad h s g (inl outside) = outside
    unless_bad h s g (inr b) = bad_good (journal_of old.journal) b.0 s b.1 g

    unless_refused : old.is_honest → undo_refusal (journal_of old.journal) table ≡ None → IsJournalOrMemory (fault_of_journal e) ⊎ IsBadLine old.journal (fault_of_journal e) → IsJournalOrMemory (fault_of_journal e)
    unless_refused h accepted (inl outside) = outside
    unless_refused h accepted (inr b) = none_some (undo_refusal (journal_of old.journal) table) (fault.BadJournal b.0) accepted (bad_refused table (journal_of old.journal) b.0 b.1)

    refuses : old.is_honest → (refusal : Fault) → undo_refusal (journal_of old.journal) table ≡ Some refusal → IsJournalOrMemory (fault_of_journal e) ⊎ IsBadLine old.journal (fault_of_journal e) → (x ≡ refusal) ⊎ IsJournalOrMemory x
    refuses h refusal r (inl outside) = inr (subst IsJournalOrMemory (sym is) outside)
    refuses h refusal r (inr b) =
        let both : Some refusal ≡ Some (fault.BadJournal b.0) = sym r ∙ bad_refused table (journal_of old.journal) b.0 b.1 in
        let same : refusal ≡ fault.BadJournal b.0 = cc in
        inl (is ∙ b.2 ∙ sym same)
