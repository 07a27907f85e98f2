-- The headline over a device with weak pages: an undo of everything that reports success leaves no
-- page weak, and every byte of the flash as it was.
use Rattle.std.proofs.Common.{◌≡◌, inl, inr, ℕ, List, [], ◌∷◌, ◌++◌, Option, None, Ok}
use Rattle.stm_wire.specs.declared.intent.Intent.{Intent}
use Rattle.stm_wire.specs.Chip.{ChipData}
use Rattle.stm_wire.specs.Device.{IsDevice}
use Rattle.stm_wire.specs.Rig.{RigState}
use Rattle.stm_session.specs.Events.{AllLead, Event, Happening, Leads, World, end_of, kept}
use Rattle.stm_session.specs.Events.{undid as undid_event}
use Rattle.stm_session.specs.Headline.{IsStart}
use Rattle.stm_session.specs.Order.{Adds, Sends}
use Rattle.stm_weak.specs.Weak.{WeakEvent, breaks, does, intent_behind, settles}
use Rattle.stm_weak.specs.FedAsking.{FedQuestions, IsAskedAlone}
use Rattle.stm_weak.specs.FedEvents.{FedEvents}
use Rattle.stm_weak.specs.FedHistory.{FedAs, FedDeeds, FedKind, as_told, asked_at_most, fed_kind}
use Rattle.stm_weak.specs.FedHistory.{settled_and_asked}
use Rattle.stm_weak.specs.History.{AllFind, WeakDeed, events_in, undid, ran, undid_verified}
use Rattle.stm_weak.specs.WeakDevice.{CanBe, NoneIsWeak, WeakDevice}
use Rattle.stm_weak.specs.WeakRuns.{IsUnread}

-- No byte completed a read of a weak page: of events,
abbrev pub AreFedUnread : (events : List WeakEvent) (old new : WeakDevice)
    → FedEvents events old new → Type 0
AreFedUnread [] old new led = Unit {0}
AreFedUnread (settles own ∷ events) old new led =
    IsUnread led.1.happenings old led.0 led.1.led × AreFedUnread events led.0 new led.3
AreFedUnread (does (Adds entries) ∷ events) old new led = AreFedUnread events old new led
AreFedUnread (does (Sends turns) ∷ events) old new led =
    IsUnread led.1.part.happenings old led.0 led.1.part.led × AreFedUnread events led.0 new led.3
AreFedUnread (breaks turns ∷ events) old new led =
    IsUnread led.1.happenings old led.0 led.1.led × AreFedUnread events led.0 new led.3

-- of questions,
abbrev pub AreQuestionsUnread : (frames : List (List ℕ)) (old new : WeakDevice)
    → FedQuestions frames old new → Type 0
AreQuestionsUnread [] old new led = Unit {0}
AreQuestionsUnread (frame ∷ frames) old new led =
    IsUnread led.2.happenings old led.0 led.2.led × AreQuestionsUnread frames led.0 new led.4

-- of these behind a settling,
abbrev pub IsAskedUnread : (own : Option Intent) (w w2 : WeakDevice) → IsAskedAlone own w w2
    → Type 0
IsAskedUnread own w w2 led =
    IsUnread led.settling.happenings w led.settled led.settling.led
    × AreQuestionsUnread led.frames led.settled w2 led.questions

-- and of a call.
abbrev pub IsFedUnread : (intent : Option Intent) (kind : FedKind) (w w2 : WeakDevice)
    → FedAs intent kind w w2 → Type 0
IsFedUnread intent (settled_and_asked own) w w2 led = IsAskedUnread own w w2 led
IsFedUnread intent asked_at_most w w2 (inl nothing) = Unit {0}
IsFedUnread intent asked_at_most w w2 (inr (none, led)) = IsAskedUnread None w w2 led
IsFedUnread intent (as_told events) w w2 led = AreFedUnread events w w2 led

-- the way back isn't given up
abbrev pub IsNotKept : {R : Type 0} → Event R → Type 0
IsNotKept kept = ⊥
IsNotKept event = Unit {0}

-- nor is it in a history
abbrev pub NoneIsKept : {R : Type 0} → List (Happening R) → Type 0
NoneIsKept [] = Unit {0}
NoneIsKept (x ∷ history) = IsNotKept x.event × NoneIsKept history

-- The line follows the model as long as no byte completes a read of a weak page: then each call,
-- and what befell the device beside it, are events of a session at an ordinary device, from where
-- those before it ended.
abbrev pub FollowsUnread : {R : Type 0} {view : R → RigState} → (intent : Option Intent)
    (deeds : List (WeakDeed R view)) (old new : WeakDevice) → FedDeeds intent deeds old new → World
    → World → List (Happening R) → Type 0
FollowsUnread intent [] old new led w w2 history = (w2 ≡ w) × (history ≡ [])
FollowsUnread {R = R} {view = view} intent (deed ∷ deeds) old new led w w2 history =
    (own : List (Happening R)) × (rest : List (Happening R)) × (history ≡ own ++ rest)
    × (IsFedUnread intent (fed_kind deed) old led.0 led.1 → AllLead view own w)
    × FollowsUnread (intent_behind intent (events_in deed)) deeds led.0 new led.2 (end_of own w) w2
    rest

-- an undo that answered Ok, from the one to the other
abbrev pub IsUndone : {R : Type 0} {view : R → RigState} → R → R → WeakDeed R view → Type 0
IsUndone before after (undid table taken old new session) = (old ≡ before) × (new ≡ after)
IsUndone before after (undid_verified table returned old new session) =
    (old ≡ before) × (new ≡ after)
IsUndone before after deed = ⊥

-- So does an undo of everything that reports success, behind what befell the device since: it leads
-- to an ordinary device that the one with weak pages can be taken for.
pub record UndoFollowsUnread {R : Type 0} (view : R → RigState) (deed : WeakDeed R view)
    (intent : Option Intent) (mid new : WeakDevice) (led : FedAs intent (fed_kind deed) mid new)
    (w w2 : World) : Type 0 where
  pub table : List ChipData
  pub before : R
  pub after : R
  pub count : ℕ
  pub is : IsUndone before after deed
  pub own : List (Happening R)
  pub none_kept : NoneIsKept own
  pub leads : IsFedUnread intent (fed_kind deed) mid new led → AllLead view own w
  pub undoes : IsFedUnread intent (fed_kind deed) mid new led
      → Leads view (undid_event table 0 before after (Ok count)) (end_of own w) w2
  pub can : IsFedUnread intent (fed_kind deed) mid new led → CanBe new w2.device

-- the intent of the lines of such calls
abbrev pub intent_of_deeds : {R : Type 0} {view : R → RigState} → Option Intent
    → List (WeakDeed R view) → Option Intent
intent_of_deeds intent [] = intent
intent_of_deeds intent (deed ∷ deeds) =
    intent_of_deeds (intent_behind intent (events_in deed)) deeds

-- Whatever runs, undos and questions came, each at success or stopped anywhere, with losses of
-- power: an undo of everything that reports success leaves no page weak, and the flash as it was at
-- first.
abbrev pub WeakHeadline : {R : Type 0} → (R → RigState) → Type 0
WeakHeadline {R} view = (deeds : List (WeakDeed R view)) (last : WeakDeed R view)
    (old mid new : WeakDevice) (w w2 : World) (history : List (Happening R))
    → IsDevice old.device → NoneIsWeak old
    → IsStart [] (record { device = old.device; journal = [] })
    → AllFind old.device.chip None (deeds ++ last ∷ [])
    → (led : FedDeeds None deeds old mid)
    → (undone : FedAs (intent_of_deeds None deeds) (fed_kind last) mid new)
    → FollowsUnread None deeds old mid led (record { device = old.device; journal = [] }) w history
    → NoneIsKept history
    → UndoFollowsUnread view last (intent_of_deeds None deeds) mid new undone w w2
    → NoneIsWeak new × (new.device.flash ≡ old.device.flash)

-- a run or an undo that answered Ok
abbrev pub IsAnsweredOk : {R : Type 0} {view : R → RigState} → WeakDeed R view → Type 0
IsAnsweredOk (ran table commands old new session) = Unit {0}
IsAnsweredOk (undid table taken old new session) = Unit {0}
IsAnsweredOk (undid_verified table returned old new session) = Unit {0}
IsAnsweredOk deed = ⊥

-- Such a call follows too, with what befell the device since: it leads to an ordinary device that
-- the one with weak pages can be taken for.
pub record LastFollowsUnread {R : Type 0} (view : R → RigState) (deed : WeakDeed R view)
    (intent : Option Intent) (mid new : WeakDevice) (led : FedAs intent (fed_kind deed) mid new)
    (w w2 : World) : Type 0 where
  pub own : List (Happening R)
  pub leads : IsFedUnread intent (fed_kind deed) mid new led → AllLead view own w
  pub ends : end_of own w ≡ w2
  pub can : IsFedUnread intent (fed_kind deed) mid new led → CanBe new w2.device

-- Behind a run or an undo that answers Ok no page is weak, and the device is just that to which a
-- session of the headline led.
abbrev pub WeakHistoriesAreSessions : {R : Type 0} → (R → RigState) → Type 0
WeakHistoriesAreSessions {R} view = (deeds : List (WeakDeed R view)) (last : WeakDeed R view)
    (old mid new : WeakDevice) (first w w2 : World) (history : List (Happening R))
    → IsAnsweredOk last → IsDevice old.device → NoneIsWeak old
    → AllFind old.device.chip None (deeds ++ last ∷ [])
    → (led : FedDeeds None deeds old mid)
    → (done : FedAs (intent_of_deeds None deeds) (fed_kind last) mid new)
    → FollowsUnread None deeds old mid led first w history
    → (follows : LastFollowsUnread view last (intent_of_deeds None deeds) mid new done w w2)
    → AllLead view (history ++ follows.own) first
    × (end_of (history ++ follows.own) first ≡ w2) × NoneIsWeak new × (w2.device ≡ new.device)
