-- Calls one behind another at a device with weak pages, by what is fed to it alone.
use Rattle.std.proofs.Common.{◌≡◌, ◌⊎◌, ⊎_elim, inl, inr, ℕ, ◌<◌, Bool, List, [], ◌∷◌, Option, None}
use Rattle.std.proofs.Common.{refl, sym, ◌∙◌, ap, subst}
use Rattle.stm_wire.specs.declared.intent.Intent.{Intent}
use Rattle.stm_wire.proofs.Names.{ChipData, Device, GoesOn, IsDevice, page_count, RigState, settling_byte}
use Rattle.stm_journal.proofs.Names.{intent_of}
use Rattle.stm_session.proofs.Names.{BeginTaking, Cause, cause_of, has_companion, IsConfirmedInPart, ReachesAndStops, ReachesInPart, settling_way, Step, Way}
use Rattle.stm_weak.specs.Weak.{NoneIs, WeakEvent, intent_behind, settles, weak_after, weak_behind}
use Rattle.stm_weak.specs.Believed.{NoneBelieved}
use Rattle.stm_weak.specs.FedEvents.{AreFedAsOrdinary}
use Rattle.stm_weak.specs.FedAsking.{IsAskedAlone, IsAskedAsOrdinary}
use Rattle.stm_weak.specs.FedHistory.{DeedsAreFedAsOrdinary, FedAs, FedDeeds, FedHistoriesAreOrdinary}
use Rattle.stm_weak.specs.FedHistory.{IsFedAsOrdinary, fed_kind, asked_at_most, kind_of_undo}
use Rattle.stm_weak.specs.History.{AllHeal, AtOk, WeakDeed, HistoriesHeal, events_in, undo_events}
use Rattle.stm_weak.specs.History.{ran, run_stopped, undid, undid_verified, undo_stopped, asked}
use Rattle.stm_weak.specs.History.{asking_stopped}
use Rattle.stm_weak.specs.WeakDevice.{CanBe, NoneIsWeak, WeakDevice}
use Rattle.stm_weak.proofs.Agreeing.{agrees_same}
use Rattle.stm_weak.proofs.Calming.{IsSafeFor}
use Rattle.stm_weak.proofs.Dealing.{at_ok, none_left}
use Rattle.stm_weak.proofs.FedQuestioning.{board_asked}
use Rattle.stm_weak.proofs.FedStepping.{EndsAs, ends_now, fed_from}
use Rattle.stm_weak.proofs.Mending.{no_page}
use Rattle.stm_weak.proofs.Stepping.{AmongThese}

-- what a call leads to
abbrev pub DeedTo : ChipData → (ℕ → Type 0) → Option Intent → List WeakEvent
    → (Device → Type 0) → WeakDevice → Type 0
DeedTo chip MayBe intent events Ordinary mid =
    EndsAs chip (λ n. weak_behind chip MayBe events n) (settling_byte (intent_behind intent events))
    mid Ordinary

-- a call that asks for the board
of_asking : (chip : ChipData) (MayBe : ℕ → Type 0) (both : Bool) (intent own : Option Intent)
    (old mid : WeakDevice) (asks : IsAskedAlone own old mid) (d : Device) → d.chip ≡ chip
    → IsDevice d → CanBe old d → AmongThese chip MayBe old
    → NoneBelieved chip both MayBe intent (settles own ∷ [])
    → IsSafeFor (settling_byte intent) old
    → DeedTo chip MayBe intent (settles own ∷ []) (λ e. IsAskedAsOrdinary own old mid asks d e) mid
of_asking chip MayBe both intent own old mid asks d same is can among believed safe =
    let byte_is : settling_byte own ≡ settling_byte intent =
    ap (λ (i : Option Intent). settling_byte i) believed.0 in
    subst (λ (b : ℕ). EndsAs chip (λ n. weak_after chip MayBe (settles own) n) b mid
    (λ e. IsAskedAsOrdinary own old mid asks d e)) byte_is
    (board_asked own old mid d chip MayBe same is can among
    (subst (λ (b : ℕ). IsSafeFor b old) (sym byte_is) safe) asks)

-- a run that didn't reach its device
of_none : (chip : ChipData) (MayBe : ℕ → Type 0) (intent : Option Intent) (old mid : WeakDevice)
    (d : Device) → d.chip ≡ chip → IsDevice d → CanBe old d → AmongThese chip MayBe old
    → IsSafeFor (settling_byte intent) old → (led : FedAs intent asked_at_most old mid)
    → DeedTo chip MayBe intent [] (λ e. IsFedAsOrdinary intent asked_at_most old mid led d e) mid
of_none chip MayBe intent old mid d same is can among safe (inl nothing) =
    ends_now chip MayBe (settling_byte intent) old mid d nothing same is can among safe
of_none chip MayBe intent old mid d same is can among safe (inr (none, asks)) =
    let byte_is : settling_byte intent ≡ settling_byte None =
    ap (λ (i : Option Intent). settling_byte i) none in
    let x = board_asked None old mid d chip MayBe same is can among
    (subst (λ (b : ℕ). IsSafeFor b old) byte_is safe) asks in
    record {
      end = x.end;
      ordinary = x.ordinary;
      can = x.can;
      is = x.is;
      same = x.same;
      among = λ n lt weak. ⊎_elim (λ (w : MayBe n). w) (λ c. absurd (no_page n c.1))
          (x.among n lt weak);
      safe = subst (λ (b : ℕ). IsSafeFor b mid) (sym byte_is) x.safe;
    }

-- an undo that was stopped
of_undo : (chip : ChipData) (MayBe : ℕ → Type 0) (both : Bool) (intent own : Option Intent)
    (whole : ℕ) (way : Way) (id : ℕ) (torn : Bool) (P : List Step → Type 0) (cause : Cause)
    (before after : RigState)
    (does : GoesOn (ReachesInPart way cause torn) before.calls after.calls
    ⊎ ReachesAndStops way id torn P cause before after) (old mid : WeakDevice) (d : Device)
    → d.chip ≡ chip → IsDevice d → CanBe old d → AmongThese chip MayBe old
    → (let events = undo_events own whole way id torn P cause before after does in
    NoneBelieved chip both MayBe intent events → IsSafeFor (settling_byte intent) old
    → (led : FedAs intent (kind_of_undo own events does) old mid)
    → DeedTo chip MayBe intent events
    (λ e. IsFedAsOrdinary intent (kind_of_undo own events does) old mid led d e) mid)
of_undo chip MayBe both intent own whole way id torn P cause before after (inl unreached) old mid d
    same is can among believed safe led =
    of_asking chip MayBe both intent own old mid led d same is can among believed safe
of_undo chip MayBe both intent own whole way id torn P cause before after (inr reached) old mid d
    same is can among believed safe led =
    let events = undo_events own whole way id torn P cause before after (inr reached) in
    fed_from events old mid d chip MayBe both intent same is can among believed safe led

module _ (R : Type 0) (view : R → RigState) where
  -- what befalls it in a call
  abbrev pub Leaves : WeakDeed R view → ChipData → (ℕ → Type 0) → Option Intent → WeakDevice
      → WeakDevice → Device → Type 0
  Leaves deed chip MayBe intent old mid d = (led : FedAs intent (fed_kind deed) old mid)
      → DeedTo chip MayBe intent (events_in deed)
      (λ e. IsFedAsOrdinary intent (fed_kind deed) old mid led d e) mid

  pub deed_from : (deed : WeakDeed R view) (old mid : WeakDevice) (d : Device) (chip : ChipData)
      (MayBe : ℕ → Type 0) (intent : Option Intent) → d.chip ≡ chip → IsDevice d → CanBe old d
      → AmongThese chip MayBe old
      → NoneBelieved chip (has_companion chip) MayBe intent (events_in deed)
      → IsSafeFor (settling_byte intent) old → Leaves deed chip MayBe intent old mid d
  deed_from (ran table commands before after session) old mid d chip MayBe intent same is can among
      believed safe led =
      fed_from (events_in {R = R} {view = view}
      (ran table commands before after session)) old mid
      d chip MayBe (has_companion chip) intent same is can among believed safe led
  deed_from (run_stopped table commands before after fault whole (inl unreached)) old mid d chip
      MayBe intent same is can among believed safe led =
      of_none chip MayBe intent old mid d same is can among safe led
  deed_from (run_stopped table commands before after fault whole (inr session)) old mid d chip MayBe
      intent same is can among believed safe led =
      fed_from (events_in {R = R} {view = view}
      (run_stopped table commands before after fault whole (inr session))) old mid
      d chip MayBe (has_companion chip) intent same is can among believed safe led
  deed_from (undid table taken before after session) old mid d chip MayBe intent same is
      can among believed safe led =
      fed_from (events_in {R = R} {view = view}
      (undid table taken before after session)) old mid
      d chip MayBe (has_companion chip) intent same is can among believed safe led
  deed_from (undid_verified table returned before after session) old mid d chip MayBe
      intent same is can among believed safe led =
      fed_from (events_in {R = R} {view = view}
      (undid_verified table returned before after session)) old mid
      d chip MayBe (has_companion chip) intent same is can among believed safe led
  deed_from (undo_stopped again table count before after fault whole (inl fetched)) old mid
      d chip MayBe intent same is can among believed safe led =
      fed_from [] old mid d chip MayBe (has_companion chip) intent same is can among believed
      safe led
  deed_from (undo_stopped again table count before after fault whole (inr session)) old mid
      d chip MayBe intent same is can among believed safe led =
      let own = intent_of session.journal.state in
      of_undo chip MayBe (has_companion chip) intent own whole
      (settling_way session.chip.kind session.journal.is_greeted own) session.chip.id session.journal.is_torn
      (IsConfirmedInPart session.chip
      (BeginTaking again count session.chip session.journal.state))
      (cause_of fault) (view before) (view after) session.does old mid d same is can among believed
      safe led
  deed_from (asked table board before after asks) old mid d chip MayBe intent same is can
      among believed safe led =
      of_asking chip MayBe (has_companion chip) intent (intent_of asks.journal.state) old mid led d
      same is can among believed safe
  deed_from (asking_stopped table before after fault (inl fetched)) old mid d chip MayBe
      intent same is can among believed safe led =
      fed_from [] old mid d chip MayBe (has_companion chip) intent same is can among believed
      safe led
  deed_from (asking_stopped table before after fault (inr asks)) old mid d chip MayBe
      intent same is can among believed safe led =
      of_asking chip MayBe (has_companion chip) intent (intent_of asks.journal.state) old mid led d
      same is can among believed safe

  -- where none may be, none is
  pub no_weak : (chip : ChipData) (MayBe : ℕ → Type 0) (mid : WeakDevice) (e : Device) → CanBe mid e
      → e.chip ≡ chip → AmongThese chip MayBe mid → NoneIs MayBe → NoneIsWeak mid
  no_weak chip MayBe mid e can same among none n lt weak =
      none n (among n (subst (λ (c : ChipData). n < page_count c) (sym can.chip ∙ same) lt) weak)

  deeds_from : (deeds : List (WeakDeed R view)) (old new : WeakDevice) (d : Device)
      (chip : ChipData) (MayBe : ℕ → Type 0) (intent : Option Intent) → d.chip ≡ chip → IsDevice d
      → CanBe old d → AmongThese chip MayBe old → AllHeal chip MayBe intent deeds
      → IsSafeFor (settling_byte intent) old → (led : FedDeeds intent deeds old new) → (e : Device)
      × DeedsAreFedAsOrdinary intent deeds old new led d e × CanBe new e × IsDevice e
  deeds_from [] old new d chip MayBe intent same is can among heal safe led =
      (d, refl, subst (λ (w : WeakDevice). CanBe w d) (sym led) can, is)
  deeds_from (deed ∷ deeds) old new d chip MayBe intent same is can among heal safe
      (mid, led, more) =
      let Behind : ℕ → Type 0 = λ n. weak_behind chip MayBe (events_in deed) n in
      let one = deed_from deed old mid d chip MayBe intent same is can among heal.0 safe led in
      let ok : AtOk deed (NoneIsWeak mid × (one.end ≡ mid.device)) =
      at_ok R view deed (NoneIs Behind) (NoneIsWeak mid × (one.end ≡ mid.device))
      (λ none. (
        no_weak chip Behind mid one.end one.can one.same one.among none,
        none_left R view chip Behind mid one.end one.can one.same one.among none,
      )) heal.1 in
      let rest = deeds_from deeds mid new one.end chip Behind
      (intent_behind intent (events_in deed)) one.same one.is one.can one.among heal.2 one.safe more
      in
      (rest.0, (one.end, one.ordinary, ok, rest.1), rest.2, rest.3)

-- it can be taken for itself
pub can_be_itself : (w : WeakDevice) → IsDevice w.device → CanBe w w.device
can_be_itself w is = record {
  chip = refl;
  version = refl;
  codes = refl;
  owed = refl;
  phase = refl;
  flash = agrees_same w.device.chip w.weak w.device.flash;
  bytes = is.flash;
}

pub fed_histories_are_ordinary : {R : Type 0} (view : R → RigState) → HistoriesHeal view
    → FedHistoriesAreOrdinary view
fed_histories_are_ordinary {R} view heal deeds old new is none find led =
    let d = old.device in
    deeds_from R view deeds old new d d.chip (λ n. ⊥) None refl is (can_be_itself old is) none
    (heal d.chip deeds find) (inr none) led
