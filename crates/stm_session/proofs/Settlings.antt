-- A device is settled by the journal's intent, from wherever a session was stopped.
use Rattle.std.proofs.Common.{◌≡◌, ℕ, Bool, false, if◌then◌else◌, List, [], map, Result, Ok, Err, IsErrAnd, sym, ◌∙◌, ap, ap₂, subst, subst₂, append-nil}
use Rattle.stm_wire.specs.declared.fault.WireFault.{WireFault}
use Rattle.stm_wire.specs.declared.fault.WireFault.TheVariants.{Line}
use Rattle.stm_wire.proofs.Names.{Awaits, AwaitsUnder, ChipData, Device, IsModel, IsSettled, KeepsSettling, LeftBySettling, RigState, SameOutside, settling_byte}
use Rattle.stm_wire.specs.lemmas.MomentLaws.{weaker}
use Rattle.stm_journal.proofs.Names.{good, intent_of, is_greeted, is_unfinished, IsLoaded, journal_of, Loaded, StateData}
use Rattle.stm_journal.specs.lemmas.ForgetLaws.{intent_of-forgets}
use Rattle.stm_session.proofs.Names.{byte_at_journal, Fault, fault_of, Goes, IsOutsideFault, IsWithinLimit, KeepsFlashes, newest_kept, risked_pages, SameMake, settling_limit, Stands, state_at}
use Rattle.stm_session.proofs.Names.{StepLaws, Undoable}
use Rattle.stm_session.proofs.Awaiting.{settling_under}
use Rattle.stm_session.proofs.Going.{at_exit, goes_still, line_outside}
use Rattle.stm_session.proofs.Keeping.{good_at, keeps_over, risked_is, text_is, undoable_with, unfinished_is}

-- the intent in memory is that of the text
pub intent_text : (l : Loaded) (journal : List ℕ) → IsLoaded l journal → intent_of l.state ≡ intent_of (state_at journal)
intent_text l journal loaded = ap (λ (s : StateData). intent_of s) loaded.state ∙ intent_of-forgets loaded.text ∙ ap (λ (s : StateData). intent_of s) (text_is l journal loaded)

-- as many bytes are sent as the device awaits
pub enough_sent : (chip : ChipData) (old : RigState) (l : Loaded) → IsLoaded l old.journal → (byte limit : ℕ) → byte ≡ byte_at_journal old.journal → limit ≡ settling_limit chip.kind l.is_greeted (intent_of l.state) → IsWithinLimit chip old
    → Awaits byte limit old.device
enough_sent chip old l loaded byte limit byte_is limit_is within =
    let same : limit ≡ settling_limit chip.kind (is_greeted old.journal) (intent_of (state_at old.journal)) = limit_is ∙ ap₂ (λ g o. settling_limit chip.kind g o) loaded.greeted (intent_text l old.journal loaded) in
    subst₂ (λ (b n : ℕ). Awaits b n old.device) (sym byte_is) (sym same) within

module _ (laws : StepLaws) (flashes : List (List ℕ)) (l : Loaded) (old new : RigState) (model : IsModel old) (loaded : IsLoaded l old.journal) (undoable : Undoable flashes old.device old.journal) where
  abbrev Both : Device → List ℕ → Type 0
  Both d journal = Stands [] flashes old d journal × KeepsFlashes flashes d (state_at old.journal)

  pub settling_stands : (d : Device) (journal : List ℕ) → LeftBySettling (settling_byte (intent_of (state_at old.journal))) (risked_pages (state_at old.journal)) old.device old.journal d journal
      → Stands [] flashes old d journal × KeepsFlashes flashes d (state_at old.journal)
  settling_stands d journal left =
      let s = left.1 in
      let t = state_at old.journal in
      let make : SameMake old.device d = record { chip = s.same_chip; version = s.same_version; codes = s.same_codes } in
      let keeps = keeps_over laws.changing flashes old.device d t (risked_pages t) model.device (record { own = undoable.own; fits = undoable.fits; before = undoable.keeps }) make s.flash (λ n here c. risked_is t n c) in
      let J : List ℕ → Type 0 = λ j. journal_of j ≡ good t in
      let at : journal_of journal ≡ good t = subst J (sym left.0) (good_at l old.journal loaded) in (
        record {
          undoable = undoable_with flashes d journal t at keeps s.harmless (subst (λ (j : List ℕ). AwaitsUnder (is_greeted j) (intent_of t) d) (sym left.0) (settling_under (is_greeted old.journal) old.device d (intent_of t) s.same_chip s.awaits undoable.awaits)) s.owed;
          make = make;
          finished = λ f.
              let ended : is_unfinished t ≡ false = sym (unfinished_is journal t at) ∙ f in
              let Out : Bool → Type 0 = λ b. SameOutside old.device.chip (if b then map (λ k. k.page) (newest_kept t.stack) else []) old.device.flash d.flash in
              (ended, laws.same_flash old.device.chip old.device.flash d.flash model.device.size (subst Out ended s.flash));
          written = 0;
          lines = left.0 ∙ sym (append-nil old.journal);
        },
        keeps,
      )

  pub settled_goes : {T : Type 0} (y : T) → KeepsSettling (settling_byte (intent_of (state_at old.journal))) (risked_pages (state_at old.journal)) old.device old new → IsModel new → IsSettled new.device
      → Goes flashes [] l old new (Ok y) (λ x. Unit {0})
  settled_goes y keeps model_new settled =
      let moments = weaker (LeftBySettling (settling_byte (intent_of (state_at old.journal))) (risked_pages (state_at old.journal)) old.device old.journal) Both old new keeps.moments settling_stands in
      goes_still flashes l old new y (λ x. Unit {0}) (weaker Both (Stands [] flashes old) old new moments (λ d journal p. p.0))
      keeps.honest keeps.journal loaded settled (at_exit Both old new model_new moments).1 tt

  pub settling_failed : {U : Type 0} {Done : U → Type 0} {fault : WireFault} (result : Result U Fault) → KeepsSettling (settling_byte (intent_of (state_at old.journal))) (risked_pages (state_at old.journal)) old.device old new
      → fault ≡ Line → IsErrAnd result (λ e. e ≡ fault_of fault) → Goes flashes [] l old new result Done
  settling_failed (Ok y) keeps line is = absurd is
  settling_failed {fault = fault} (Err y) keeps line is =
      let moments = weaker (LeftBySettling (settling_byte (intent_of (state_at old.journal))) (risked_pages (state_at old.journal)) old.device old.journal) Both old new keeps.moments settling_stands in
      record {
        moments = weaker Both (Stands [] flashes old) old new moments (λ d journal p. p.0);
        fails = subst IsOutsideFault (sym is) (line_outside fault line);
        honest = keeps.honest;
        steady = tt;
        lines = tt;
        done = tt;
      }
