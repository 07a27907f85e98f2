-- Calls one behind another at a device with weak pages, and at an ordinary one beside it.
use Rattle.std.proofs.Common.{◌≡◌, ℕ, ◌<◌, IsTrue, List, [], ◌∷◌, Option, None, refl, sym, ◌∙◌}
use Rattle.std.proofs.Common.{subst}
use Rattle.stm_wire.specs.declared.intent.Intent.{Intent}
use Rattle.stm_wire.proofs.Names.{ChipData, Device, IsDevice, page_count, RigState}
use Rattle.stm_session.proofs.Names.{has_companion}
use Rattle.stm_weak.specs.Weak.{NoneIs, intent_behind, weak_behind}
use Rattle.stm_weak.specs.History.{AllHeal, AtOk, WeakDeed, HistoriesHeal, events_in}
use Rattle.stm_weak.specs.History.{ran, undid, undid_verified}
use Rattle.stm_weak.specs.WeakDevice.{CanBe, WeakDevice}
use Rattle.stm_weak.specs.WeakEvents.{DeedsAreAsOrdinary, HistoriesAreOrdinary, WeakDeeds}
use Rattle.stm_weak.proofs.Agreeing.{agrees_same}
use Rattle.stm_weak.proofs.Leading.{one_is_left}
use Rattle.stm_weak.proofs.Stepping.{AmongThese, events_from}

module _ (R : Type 0) (view : R → RigState) where
  pub at_ok : (deed : WeakDeed R view) (P Q : Type 0) → (P → Q) → AtOk deed P → AtOk deed Q
  at_ok (ran table commands old new session) P Q f p = f p
  at_ok (undid table taken old new session) P Q f p = f p
  at_ok (undid_verified table returned old new session) P Q f p = f p
  at_ok deed P Q f p = tt

  pub none_left : (chip : ChipData) (MayBe : ℕ → Type 0) (mid : WeakDevice) (e : Device) → CanBe mid e
      → e.chip ≡ chip → AmongThese chip MayBe mid → NoneIs MayBe → e ≡ mid.device
  none_left chip MayBe mid e can same among none =
      let R : ChipData → Type 0 = λ c. (n : ℕ) → n < page_count c → IsTrue (mid.weak n) → ⊥ in
      let sound : (n : ℕ) → n < page_count chip → IsTrue (mid.weak n)
      → ⊥ = λ n lt weak. none n (among n lt weak) in
      one_is_left mid e (subst R (sym same ∙ can.chip) sound) can

  deeds_from : (deeds : List (WeakDeed R view)) (old new : WeakDevice) (d : Device) (chip : ChipData)
      (MayBe : ℕ → Type 0) (intent : Option Intent) → d.chip ≡ chip → IsDevice d → CanBe old d
      → AmongThese chip MayBe old
      → AllHeal chip MayBe intent deeds → (led : WeakDeeds deeds old new) → (e : Device)
      × DeedsAreAsOrdinary deeds old new led d e × CanBe new e × IsDevice e
  deeds_from [] old new d chip MayBe intent same is can among heal led =
      (d, refl, subst (λ (w : WeakDevice). CanBe w d) (sym led) can, is)
  deeds_from (deed ∷ deeds) old new d chip MayBe intent same is can among heal (mid, led, more) =
      let Behind : ℕ → Type 0 = λ n. weak_behind chip MayBe (events_in deed) n in
      let one = events_from (events_in deed) old mid d chip MayBe
      (has_companion chip) intent same is can among heal.0 led in
      let ok : AtOk deed (one.0.0 ≡ mid.device) = at_ok deed (NoneIs Behind) (one.0.0 ≡ mid.device)
      (none_left chip Behind mid one.0.0 one.0.2 one.0.4 one.1) heal.1 in
      let rest = deeds_from deeds mid new one.0.0 chip Behind
      (intent_behind intent (events_in deed)) one.0.4 one.0.3 one.0.2 one.1 heal.2 more in
      (rest.0, (one.0.0, one.0.1, ok, rest.1), rest.2, rest.3)

pub histories_are_ordinary : {R : Type 0} (view : R → RigState) → HistoriesHeal view
    → HistoriesAreOrdinary view
histories_are_ordinary {R} view heal deeds old new is none find led =
    let d = old.device in
    let can : CanBe old d = record {
      chip = refl;
      version = refl;
      codes = refl;
      owed = refl;
      phase =
          refl;
      flash = agrees_same d.chip old.weak d.flash;
      bytes = is.flash;
    } in
    deeds_from R view deeds old new d d.chip (λ n. ⊥) None refl is can none
    (heal d.chip deeds find) led
