-- A journal that isn't refused can be undone.
use Rattle.std.proofs.Common.{◌≡◌, ℕ, Bool, true, false, not, List, [], ◌∷◌, Option, Some, None, refl, sym, ◌∙◌, ap, subst}
use Rattle.stm_wire.proofs.Names.{ChipData, Device}
use Rattle.stm_chip.specs.Document.{IsChipWith}
use Rattle.stm_journal.proofs.Names.{bad, flashes_before_segments, good, is_greeted, is_unfinished, journal_of, JournalData, names_other, StateData}
use Rattle.stm_session.proofs.Names.{chip_with, CommandData, commands_refused, device_refusals, Fault, first_refusal, IsJournalOf, IsSafe, opening_refusal, refused_unless, run_refusal, state_at}
use Rattle.stm_session.proofs.Names.{table_refusal, Undoable}
use Rattle.stm_session.specs.declared.fault.Fault.TheVariants.{OtherDevice, Unfinished}
use Rattle.stm_session.proofs.Fitting.{unrefused-fits}
use Rattle.stm_session.proofs.Openings.{alone, has_chip}
use Rattle.stm_session.proofs.CanBeUndone.{finished_awaits, finished_risks_nothing}

-- what isn't refused first, is refused nothing by its first test, nor by the rest
first_free : (test : Bool) (fault : Fault) (rest : List (Option Fault)) → first_refusal (refused_unless (not test) fault ∷ rest) ≡ None → (test ≡ false) × (first_refusal rest ≡ None)
first_free false fault rest none = (refl, none)
first_free true fault rest none = absurd (let h : Some fault ≡ None = none in cc)

first_of_two : (a b : Option Fault) → first_refusal (a ∷ b ∷ []) ≡ None → a ≡ None
first_of_two None b none = refl
first_of_two (Some fault) b none = none

-- what a good journal is, that isn't refused
good_unrefused : (s : StateData) (table : List ChipData) (d : Device) → IsChipWith table d.chip.id d.chip → first_refusal (refused_unless (not (is_unfinished s)) Unfinished ∷ device_refusals s d.chip.id table) ≡ None
    → (is_unfinished s ≡ false) × (names_other d.chip.id s ≡ false) × IsJournalOf d.chip s
good_unrefused s table d held none =
    let stage = first_free (is_unfinished s) Unfinished (device_refusals s d.chip.id table) none in
    let misfit : Option Fault = table_refusal s d.chip.id (chip_with table d.chip.id) in
    let own = first_free (names_other d.chip.id s) OtherDevice (misfit ∷ []) stage.1 in
    (stage.0, own.0, unrefused-fits d.chip s (ap (table_refusal s d.chip.id) (sym (has_chip table d.chip.id d.chip held)) ∙ sym (alone misfit) ∙ own.1))

pub unrefused_is_undoable : (table : List ChipData) (d : Device) (journal : List ℕ) → IsSafe d → IsChipWith table d.chip.id d.chip → opening_refusal (journal_of journal) d table ≡ None
    → Undoable (flashes_before_segments d.chip (state_at journal).stack d.flash) d journal
unrefused_is_undoable table d journal safe held none = by_journal (journal_of journal) refl
  where
    by_journal : (j : JournalData) → journal_of journal ≡ j → Undoable (flashes_before_segments d.chip (state_at journal).stack d.flash) d journal
    by_journal (bad line) e = absurd (let h : opening_refusal (bad line) d table ≡ None = ap (λ (j : JournalData). opening_refusal j d table) (sym e) ∙ none in cc)
    by_journal (good s) e =
        let same : good s ≡ good (state_at journal) = rw e refl in
        let free = good_unrefused (state_at journal) table d held (ap (λ (j : JournalData). opening_refusal j d table) (sym (e ∙ same)) ∙ none) in
        record {
          good_journal = e ∙ same;
          own = free.1;
          fits = free.2;
          keeps = refl;
          harmless = subst (λ (T : Type 0). T) (sym (finished_risks_nothing (state_at journal) d free.0)) safe.harmless;
          awaits = finished_awaits (is_greeted journal) (state_at journal) d free.0;
          owed = safe.owed;
        }

pub unrefused_run_is_undoable : (table : List ChipData) (commands : List CommandData) (d : Device) (journal : List ℕ) → IsSafe d → IsChipWith table d.chip.id d.chip → run_refusal (journal_of journal) d table commands ≡ None
    → Undoable (flashes_before_segments d.chip (state_at journal).stack d.flash) d journal
unrefused_run_is_undoable table commands d journal safe held none =
    unrefused_is_undoable table d journal safe held
    (first_of_two (opening_refusal (journal_of journal) d table) (commands_refused (journal_of journal) d (chip_with table d.chip.id) commands) none)
