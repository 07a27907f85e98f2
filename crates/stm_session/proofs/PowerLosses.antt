-- What can be undone still can after a loss of power, and where owed bytes are lost.
use Rattle.std.proofs.Common.{◌≡◌, ◌⊎◌, inl, inr, ℕ, ◌+◌, ◌<◌, ◌≤◌, Bool, true, not, List, [], ◌∷◌, ◌++◌, length, take, drop, map, if◌then◌else◌, Some, refl, sym, ◌∙◌, ap, subst, lit≤, arith, length-drop}
use Rattle.std.proofs.lemmas.List.Elements.{All-take, All-append, All-drop}
use Rattle.std.specs.Prelude.{Contains}
use Rattle.stm_wire.specs.declared.intent.Intent.{Intent}
use Rattle.stm_wire.specs.declared.intent.Intent.TheVariants.{Erase, Program}
use Rattle.stm_wire.proofs.Names.{ChipData, Device, flash_size, FreshIsHarmless, LossStaysHarmless, page_offset, SameOutside, SameOutsideNoneIsSame, settling_byte}
use Rattle.stm_wire.specs.lemmas.PageLaws.{length-with_page, page_put-other}
use Rattle.stm_journal.specs.declared.stage.Stage.{Stage}
use Rattle.stm_journal.specs.declared.stage.Stage.TheVariants.{Open, Ended, Returning}
use Rattle.stm_journal.proofs.Names.{ChangesKeepFlashes, flashes_before_segments, good, intent_at, intent_of, intent_page, is_ended_stage, is_greeted, IsSound, journal_of, names_other, newest_has}
use Rattle.stm_journal.proofs.Names.{newest_intent, SegmentData, StateData}
use Rattle.stm_session.proofs.Names.{AnyBytesAreLeft, FinishedLosesNothing, IntentIsAtRisk, IsJournalOf, LosesPower, newest_kept, OwedLossKeepsFlashes, PowerLossKeepsFlashes, risked_pages, state_at}
use Rattle.stm_session.proofs.Names.{Undoable}
use Rattle.stm_session.proofs.Awaiting.{fresh_under, lost_under}
use Rattle.stm_session.proofs.Keeping.{is_risked, risked_is}
use Rattle.stm_session.proofs.Standing.{intended_kept}

pub owed-keeps : LossStaysHarmless → OwedLossKeepsFlashes
owed-keeps law flashes d e journal u (n, lost) =
    let less : Device = record d { owed = drop n d.owed } in
    let U : Device → Type 0 = λ x. Undoable flashes x journal in
    subst U (sym lost) (record {
      good_journal = u.good_journal;
      own = u.own;
      fits = u.fits;
      keeps = u.keeps;
      harmless = law d less (settling_byte (intent_of (state_at journal))) (risked_pages (state_at journal)) u.harmless (n, refl);
      awaits = lost_under (is_greeted journal) d less (intent_of (state_at journal)) (n, refl) u.awaits;
      owed = omega (arith, u.owed, length-drop n d.owed);
    })

-- the flash that there was has the chip's size
old_size : (journal : List ℕ) (old new : Device) → LosesPower journal old new → length old.flash ≡ flash_size old.chip
old_size journal old new lost = sym lost.flash.same_length ∙ lost.device.size ∙ ap (λ (c : ChipData). flash_size c) lost.make.chip

pub loss-keeps : ChangesKeepFlashes → FreshIsHarmless → PowerLossKeepsFlashes
loss-keeps changing fresh flashes old new journal u lost =
    let fit : ChipData → Type 0 = λ c. IsJournalOf c (state_at journal) in
    let Few : List ℕ → Type 0 = λ xs. length xs ≤ 4096 in
    let s = state_at journal in
    record {
      good_journal = u.good_journal;
      own = ap (λ (c : ChipData). names_other c.id (state_at journal)) lost.make.chip ∙ u.own;
      fits = subst fit (sym lost.make.chip) u.fits;
      keeps = ap (λ (c : ChipData). flashes_before_segments c (state_at journal).stack new.flash) lost.make.chip
          ∙ changing old.chip s.stack (risked_pages s) old.flash new.flash (old_size journal old new lost) u.fits.pages lost.flash (λ n c. risked_is s n c) ∙ u.keeps;
      harmless = fresh new (settling_byte (intent_of s)) (risked_pages s) lost.device lost.phase;
      awaits = fresh_under (is_greeted journal) new (intent_of s) lost.phase;
      owed = subst Few (sym lost.owed) (lit≤ tt);
    }

pub finished-same : SameOutsideNoneIsSame → FinishedLosesNothing
finished-same same old new journal finished lost =
    let none : risked_pages (state_at journal) ≡ [] = ap (λ (b : Bool). if b then map (λ k. k.page) (newest_kept (state_at journal).stack) else []) finished in
    let Out : List ℕ → Type 0 = λ pages. SameOutside old.chip pages old.flash new.flash in
    same old.chip old.flash new.flash (old_size journal old new lost) (subst Out none lost.flash)

-- a journal with an intent is unfinished
with_intent : (stack : List SegmentData) (i : Intent) → newest_intent stack ≡ Some i → newest_has (λ segment. not (is_ended_stage segment.stage)) stack ≡ true
with_intent [] i e = absurd (cc)
with_intent (segment ∷ below) i e = by_stage segment.stage e
  where
    by_stage : (stage : Stage) → intent_at stage ≡ Some i → not (is_ended_stage stage) ≡ true
    by_stage (Open j) e = refl
    by_stage Ended e = absurd (cc)
    by_stage (Returning j) e = refl

pub intent-risked : ((bytes : List ℕ) (s : StateData) → journal_of bytes ≡ good s → IsSound s) → IntentIsAtRisk
intent-risked sound flashes d journal intent n u intended here c =
    let s = state_at journal in
    let kept = (sound journal s u.good_journal).intended intent intended in
    is_risked s n (with_intent s.stack intent intended) (intended_kept intent (intent_page intent) d.chip s (which intent) u.fits kept n here c)
  where
    which : (i : Intent) → (i ≡ Erase (intent_page i)) ⊎ (i ≡ Program (intent_page i))
    which (Erase m) = inl refl
    which (Program m) = inr refl

abbrev IsByte : ℕ → Type 0
IsByte b = b < 256

pub any-bytes : AnyBytesAreLeft
any-bytes d journal n bytes is risked whole small =
    let at = page_offset d.chip n in
    record {
      device = record {
        chip = is.chip;
        version = is.version;
        codes = is.codes;
        count = is.count;
        get = is.get;
        get_id = is.get_id;
        read = is.read;
        write = is.write;
        erase = is.erase;
        no_connect = is.no_connect;
        size = length-with_page d.chip d.flash bytes n is.size whole;
        flash = All-append IsByte (take at d.flash ++ bytes) (drop (at + length bytes) d.flash)
            (All-append IsByte (take at d.flash) bytes (All-take IsByte at d.flash is.flash) small)
            (All-drop IsByte (at + length bytes) d.flash is.flash);
        phase = tt;
      };
      make = record { chip = refl; version = refl; codes = refl };
      phase = refl;
      owed = refl;
      flash = record {
        same_length = length-with_page d.chip d.flash bytes n is.size whole ∙ sym is.size;
        elsewhere = λ m here out.
            let Risked : ℕ → Type 0 = λ x. Contains (risked_pages (state_at journal)) x in
            page_put-other d.chip d.flash bytes n is.size whole m here (λ e. out (subst Risked (sym e) risked));
      };
    }
