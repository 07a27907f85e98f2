-- Runs, undos and calls that ask for the board at a device with weak pages, by what is fed to it
-- alone; and that it is the history of an ordinary device.
use Rattle.std.proofs.Common.{◌≡◌, ◌⊎◌, inl, inr, List, [], ◌∷◌, Option, None}
use Rattle.stm_wire.specs.declared.intent.Intent.{Intent}
use Rattle.stm_wire.specs.Device.{Device, IsDevice}
use Rattle.stm_wire.specs.Rig.{RigState}
use Rattle.stm_journal.specs.States.{intent_of}
use Rattle.stm_weak.specs.Weak.{WeakEvent, intent_behind}
use Rattle.stm_weak.specs.FedAsking.{IsAskedAlone, IsAskedAsOrdinary}
use Rattle.stm_weak.specs.FedEvents.{AreFedAsOrdinary, FedEvents}
use Rattle.stm_weak.specs.History.{AllFind, AtOk, WeakDeed, asked, asking_stopped, events_in}
use Rattle.stm_weak.specs.History.{run_stopped, undo_stopped}
use Rattle.stm_weak.specs.WeakDevice.{CanBe, NoneIsWeak, WeakDevice}

-- What is fed to a device in a call:
pub data FedKind : Type 0 where
  -- it is settled under this intent, whole or in part, and then asked which board it is
  settled_and_asked : Option Intent → FedKind
  -- nothing; or, where no segment is unfinished, it is settled without an intent, and asked
  asked_at_most : FedKind
  -- what these events tell
  as_told : List WeakEvent → FedKind

-- an undo that was stopped: its device wasn't reached, or it was
abbrev pub kind_of_undo : {A B : Type 0} → Option Intent → List WeakEvent → A ⊎ B → FedKind
kind_of_undo own events (inl unreached) = settled_and_asked own
kind_of_undo own events (inr reached) = as_told events

-- A run that didn't reach its device asked it at most, and so did a call that asks for the board.
abbrev pub fed_kind : {R : Type 0} {view : R → RigState} → WeakDeed R view → FedKind
fed_kind (run_stopped table commands old new fault whole (inl unreached)) = asked_at_most
fed_kind {R = R} {view = view}
    (undo_stopped again table count old new fault whole (inr session)) =
    kind_of_undo (intent_of session.journal.state)
    (events_in {R = R} {view = view}
    (undo_stopped again table count old new fault whole (inr session))) session.does
fed_kind (asked table board old new asks) = settled_and_asked (intent_of asks.journal.state)
fed_kind (asking_stopped table old new fault (inr asks)) =
    settled_and_asked (intent_of asks.journal.state)
fed_kind deed = as_told (events_in deed)

-- it befalls a device, under the intent of the lines so far
abbrev pub FedAs : Option Intent → FedKind → WeakDevice → WeakDevice → Type 0
FedAs intent (settled_and_asked own) w w2 = IsAskedAlone own w w2
FedAs intent asked_at_most w w2 = (w2 ≡ w) ⊎ ((intent ≡ None) × IsAskedAlone None w w2)
FedAs intent (as_told events) w w2 = FedEvents events w w2

-- No byte of it completed a read of a weak page, and it led an ordinary device from d to e.
abbrev pub IsFedAsOrdinary : (intent : Option Intent) (kind : FedKind) (w w2 : WeakDevice)
    → FedAs intent kind w w2 → Device → Device → Type 0
IsFedAsOrdinary intent (settled_and_asked own) w w2 led d e = IsAskedAsOrdinary own w w2 led d e
IsFedAsOrdinary intent asked_at_most w w2 (inl nothing) d e = e ≡ d
IsFedAsOrdinary intent asked_at_most w w2 (inr (none, led)) d e =
    IsAskedAsOrdinary None w w2 led d e
IsFedAsOrdinary intent (as_told events) w w2 led d e = AreFedAsOrdinary events w w2 led d e

-- calls, one behind another
abbrev pub FedDeeds : {R : Type 0} {view : R → RigState} → Option Intent → List (WeakDeed R view)
    → WeakDevice → WeakDevice → Type 0
FedDeeds intent [] old new = new ≡ old
FedDeeds intent (deed ∷ deeds) old new = (mid : WeakDevice) × FedAs intent (fed_kind deed) old mid
    × FedDeeds (intent_behind intent (events_in deed)) deeds mid new

-- They led an ordinary device from d to e. Where a run or an undo answered Ok, no page is weak, and
-- that device is just this one, with each byte of its flash.
abbrev pub DeedsAreFedAsOrdinary : {R : Type 0} {view : R → RigState} → (intent : Option Intent)
    (deeds : List (WeakDeed R view)) (old new : WeakDevice) → FedDeeds intent deeds old new → Device
    → Device → Type 0
DeedsAreFedAsOrdinary intent [] old new led d e = e ≡ d
DeedsAreFedAsOrdinary intent (deed ∷ deeds) old new led d e =
    (mid : Device) × IsFedAsOrdinary intent (fed_kind deed) old led.0 led.1 d mid
    × AtOk deed (NoneIsWeak led.0 × (mid ≡ led.0.device))
    × DeedsAreFedAsOrdinary (intent_behind intent (events_in deed)) deeds led.0 new led.2 mid e

-- a history that begins with no journal, and no weak page
abbrev pub FedHistoriesAreOrdinary : {R : Type 0} → (R → RigState) → Type 0
FedHistoriesAreOrdinary {R} view = (deeds : List (WeakDeed R view)) (old new : WeakDevice)
    → IsDevice old.device → NoneIsWeak old → AllFind old.device.chip None deeds
    → (led : FedDeeds None deeds old new)
    → (e : Device) × DeedsAreFedAsOrdinary None deeds old new led old.device e × CanBe new e
    × IsDevice e
