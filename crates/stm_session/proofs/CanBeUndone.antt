-- What can be undone.
use Rattle.std.proofs.Common.{◌≡◌, ℕ, Bool, true, false, not, List, [], ◌∷◌, None, refl, sym, ◌∙◌, ap, ap₂, subst, lit≤}
use Rattle.stm_wire.proofs.Names.{AwaitsUnder, ChipData, Connected, Device, Fresh, FreshIsHarmless, Gone, Harmless, in_ready, IsDevice, IsReady, IsReadyPhase, Phase, reset, ResetStaysHarmless}
use Rattle.stm_wire.proofs.Names.{settling_byte, StoppedIsHarmless}
use Rattle.stm_journal.specs.declared.stage.Stage.{Stage}
use Rattle.stm_journal.specs.declared.stage.Stage.TheVariants.{Open, Ended, Returning}
use Rattle.stm_journal.proofs.Names.{flashes_before_segments, intent_at, intent_of, is_ended_stage, is_greeted, is_unfinished, names_other, newest_has, newest_intent, SegmentData, StateData}
use Rattle.stm_session.proofs.Names.{is_unfinished_at, IsJournalOf, IsSafe, risked_pages, SameMake, state_at, Undoable}
use Rattle.stm_session.proofs.Awaiting.{fresh_under}

-- a ready device is safe
pub ready_is_safe : StoppedIsHarmless → FreshIsHarmless → (d : Device) → IsDevice d → IsReady d → IsSafe d
ready_is_safe stopped fresh d is ready = record { harmless = by_phase d.phase refl ready.phase; owed = ready.owed }
  where
    by_phase : (phase : Phase) → d.phase ≡ phase → IsReadyPhase d.codes phase → Harmless d 0x7F []
    by_phase Fresh at p = fresh d 0x7F [] is at
    by_phase (Connected rest) at p = stopped d None rest is at (in_ready refl p)
    by_phase Gone at p = absurd p

-- with an empty journal there is nothing to undo
pub empty_is_undoable : (d : Device) → IsSafe d → Undoable [] d []
empty_is_undoable d safe = record { good_journal = refl; own = refl; fits = record { board = refl; version = tt; pages = tt; companions = tt }; keeps = refl; harmless = safe.harmless; awaits = tt; owed = safe.owed }

pub reset_is_undoable : ResetStaysHarmless → (flashes : List (List ℕ)) (d : Device) (journal : List ℕ) → Undoable flashes d journal → Undoable flashes (reset d) journal
reset_is_undoable law flashes d journal u =
    record {
      good_journal = u.good_journal;
      own = u.own;
      fits = u.fits;
      keeps = u.keeps;
      harmless = law d (settling_byte (intent_of (state_at journal))) (risked_pages (state_at journal)) u.harmless;
      awaits = fresh_under (is_greeted journal) (reset d) (intent_of (state_at journal)) refl;
      owed = lit≤ tt;
    }

-- a finished journal has no intent
no_intent : (stack : List SegmentData) → newest_has (λ segment. not (is_ended_stage segment.stage)) stack ≡ false → newest_intent stack ≡ None
no_intent [] finished = refl
no_intent (segment ∷ below) finished = by_stage segment.stage finished
  where
    by_stage : (stage : Stage) → not (is_ended_stage stage) ≡ false → intent_at stage ≡ None
    by_stage (Open i) e = absurd (let h : true ≡ false = e in cc)
    by_stage Ended e = refl
    by_stage (Returning i) e = absurd (let h : true ≡ false = e in cc)

-- so that 7F settles it, and no page is at risk
pub finished_risks_nothing : (s : StateData) (d : Device) → is_unfinished s ≡ false → Harmless d (settling_byte (intent_of s)) (risked_pages s) ≡ Harmless d 0x7F []
finished_risks_nothing s d finished = rw (no_intent s.stack finished, finished) refl

pub finished_awaits : (greeted : Bool) (s : StateData) (d : Device) → is_unfinished s ≡ false → AwaitsUnder greeted (intent_of s) d
finished_awaits greeted s d finished = rw (no_intent s.stack finished) tt

pub finished_is_safe : (flashes : List (List ℕ)) (d : Device) (journal : List ℕ) → Undoable flashes d journal → is_unfinished_at journal ≡ false → IsSafe d
finished_is_safe flashes d journal u finished =
    let same = finished_risks_nothing (state_at journal) d finished in
    record { harmless = subst (λ (T : Type 0). T) same u.harmless; owed = u.owed }

pub unbegun_is_undoable : (flashes : List (List ℕ)) (old d : Device) (journal : List ℕ) → Undoable flashes old journal → is_unfinished_at journal ≡ false → SameMake old d → d.flash ≡ old.flash → IsSafe d
    → Undoable flashes d journal
unbegun_is_undoable flashes old d journal u finished make flash safe =
    let fit : ChipData → Type 0 = λ c. IsJournalOf c (state_at journal) in
    record {
      good_journal = u.good_journal;
      own = ap (λ (c : ChipData). names_other c.id (state_at journal)) make.chip ∙ u.own;
      fits = subst fit (sym make.chip) u.fits;
      keeps = ap₂ (λ (c : ChipData) bytes. flashes_before_segments c (state_at journal).stack bytes) make.chip flash ∙ u.keeps;
      harmless = subst (λ (T : Type 0). T) (sym (finished_risks_nothing (state_at journal) d finished)) safe.harmless;
      awaits = finished_awaits (is_greeted journal) (state_at journal) d finished;
      owed = safe.owed;
    }
