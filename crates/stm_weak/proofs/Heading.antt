-- The headline over a device with weak pages.
use Rattle.std.proofs.Common.{◌≡◌, inl, inr, ℕ, List, [], ◌∷◌, ◌++◌, Option, None, Ok}
use Rattle.std.proofs.Common.{refl, sym, ◌∙◌, ap, subst}
use Rattle.stm_wire.specs.declared.intent.Intent.{Intent}
use Rattle.stm_wire.proofs.Names.{ChipData, Device, IsDevice, RigState, settling_byte}
use Rattle.stm_session.proofs.Names.{Adds, AllIsUndone, AllLead, end_of, Event, Happening, kept, Leads, oldest_after, oldest_of, run_stopped, Sends, undid, undo_stopped, World}
use Rattle.stm_weak.specs.Weak.{NoneIs, WeakEvent, breaks, does, intent_behind, settles}
use Rattle.stm_weak.specs.Weak.{weak_behind}
use Rattle.stm_weak.specs.FedAsking.{AreQuestionsAsOrdinary, FedQuestions, IsAskedAlone}
use Rattle.stm_weak.specs.FedAsking.{IsAskedAsOrdinary}
use Rattle.stm_weak.specs.FedEvents.{AreFedAsOrdinary, FedEvents}
use Rattle.stm_weak.specs.FedHistory.{FedAs, FedDeeds, FedKind, IsFedAsOrdinary, fed_kind}
use Rattle.stm_weak.specs.FedHistory.{settled_and_asked, asked_at_most, as_told}
use Rattle.stm_weak.specs.History.{AllHeal, AtOk, HistoriesHeal, WeakDeed, events_in}
use Rattle.stm_weak.specs.History.{run_stopped as deed_run_stopped, undid as deed_undid}
use Rattle.stm_weak.specs.History.{undid_verified as deed_undid_verified, undo_stopped as deed_undo_stopped}
use Rattle.stm_weak.specs.History.{asked as deed_asked, asking_stopped as deed_asking_stopped}
use Rattle.stm_weak.specs.WeakDevice.{CanBe, NoneIsWeak, WeakDevice}
use Rattle.stm_weak.specs.WeakHeadline.{AreFedUnread, AreQuestionsUnread, IsAskedUnread}
use Rattle.stm_weak.specs.WeakHeadline.{IsFedUnread, intent_of_deeds, FollowsUnread, IsAnsweredOk}
use Rattle.stm_weak.specs.WeakHeadline.{IsNotKept, IsUndone, NoneIsKept, WeakHistoriesAreSessions}
use Rattle.stm_weak.specs.WeakHeadline.{WeakHeadline}
use Rattle.stm_weak.proofs.Calming.{IsSafeFor}
use Rattle.stm_weak.proofs.FedDealing.{can_be_itself, deed_from, no_weak}
use Rattle.stm_weak.proofs.Leading.{one_is_left}
use Rattle.stm_weak.proofs.Stepping.{AmongThese}

-- What is as at an ordinary device is unread:

events_unread : (events : List WeakEvent) (old new : WeakDevice) (led : FedEvents events old new)
    (d e : Device) → AreFedAsOrdinary events old new led d e → AreFedUnread events old new led
events_unread [] old new led d e ordinary = tt
events_unread (settles own ∷ events) old new led d e (unread, (mid, fed, more)) =
    (unread, events_unread events led.0 new led.3 mid e more)
events_unread (does (Adds entries) ∷ events) old new led d e ordinary =
    events_unread events old new led d e ordinary
events_unread (does (Sends turns) ∷ events) old new led d e (unread, (mid, fed, more)) =
    (unread, events_unread events led.0 new led.3 mid e more)
events_unread (breaks turns ∷ events) old new led d e (unread, (mid, fed, more)) =
    (unread, events_unread events led.0 new led.3 mid e more)

questions_unread : (frames : List (List ℕ)) (old new : WeakDevice)
    (led : FedQuestions frames old new) (d e : Device)
    → AreQuestionsAsOrdinary frames old new led d e → AreQuestionsUnread frames old new led
questions_unread [] old new led d e ordinary = tt
questions_unread (frame ∷ frames) old new led d e (unread, (mid, fed, more)) =
    (unread, questions_unread frames led.0 new led.4 mid e more)

asked_unread : (own : Option Intent) (old new : WeakDevice) (led : IsAskedAlone own old new)
    (d e : Device) → IsAskedAsOrdinary own old new led d e → IsAskedUnread own old new led
asked_unread own old new led d e (unread, (mid, fed, more)) =
    (unread, questions_unread led.frames led.settled new led.questions mid e more)

fed_unread : (intent : Option Intent) (kind : FedKind) (old new : WeakDevice)
    (led : FedAs intent kind old new) (d e : Device) → IsFedAsOrdinary intent kind old new led d e
    → IsFedUnread intent kind old new led
fed_unread intent (settled_and_asked own) old new led d e ordinary = asked_unread own old new led d e ordinary
fed_unread intent asked_at_most old new (inl nothing) d e ordinary = tt
fed_unread intent asked_at_most old new (inr (none, led)) d e ordinary =
    asked_unread None old new led d e ordinary
fed_unread intent (as_told events) old new led d e ordinary =
    events_unread events old new led d e ordinary

module _ (R : Type 0) (view : R → RigState) where
  -- Histories, one behind another.

  lead_on : (xs ys : List (Happening R)) (w : World) → AllLead view xs w
      → AllLead view ys (end_of xs w) → AllLead view (xs ++ ys) w
  lead_on [] ys w p q = q
  lead_on (x ∷ xs) ys w (first, p) q = (first, lead_on xs ys x.after p q)

  end_on : (xs ys : List (Happening R)) (w : World) → end_of (xs ++ ys) w ≡ end_of ys (end_of xs w)
  end_on [] ys w = refl
  end_on (x ∷ xs) ys w = end_on xs ys x.after

  kept_on : (xs ys : List (Happening R)) → NoneIsKept xs → NoneIsKept ys → NoneIsKept (xs ++ ys)
  kept_on [] ys p q = q
  kept_on (x ∷ xs) ys (first, p) q = (first, kept_on xs ys p q)

  -- where the way back is never given up, the oldest flash is the first
  same_after : (event : Event R) (w2 : World) (flash : List ℕ) → IsNotKept event
      → oldest_after event w2 flash ≡ flash
  same_after kept w2 flash is = absurd is
  same_after event w2 flash is = refl

  oldest_same : (history : List (Happening R)) (flash : List ℕ) → NoneIsKept history
      → oldest_of history flash ≡ flash
  oldest_same [] flash none = refl
  oldest_same (x ∷ history) flash (first, none) =
      oldest_same history (oldest_after x.event x.after flash) none
      ∙ same_after x.event x.after flash first

  -- Calls that follow the model while unread, and then one.
  record Through (deed : WeakDeed R view) (intent : Option Intent) (mid new : WeakDevice)
      (undone : FedAs intent (fed_kind deed) mid new) (w w2 : World)
      (history : List (Happening R)) : Type 0 where
    lead : AllLead view history w
    ends : end_of history w ≡ w2
    unread : IsFedUnread intent (fed_kind deed) mid new undone
    sound : NoneIsWeak new

  -- what holds behind an undo that answered Ok
  at_undone : (before after : R) (last : WeakDeed R view) (P : Type 0) → IsUndone before after last
      → AtOk last P → P
  at_undone before after (deed_run_stopped table commands old new fault whole stop) P is ok =
      absurd is
  at_undone before after (deed_undid table taken old new session) P is ok = ok
  at_undone before after (deed_undid_verified table returned old new session) P is ok = ok
  at_undone before after (deed_undo_stopped again table count old new fault whole stop) P is
      ok = absurd is
  at_undone before after last P is ok = absurd is

  at_answered : (last : WeakDeed R view) (P : Type 0) → IsAnsweredOk last → AtOk last P → P
  at_answered (deed_run_stopped table commands old new fault whole stop) P is ok = absurd is
  at_answered (deed_undo_stopped again table count old new fault whole stop) P is ok =
      absurd is
  at_answered (deed_asked table board old new asks) P is ok = absurd is
  at_answered (deed_asking_stopped table old new fault stop) P is ok = absurd is
  at_answered last P is ok = ok

  module _ (last : WeakDeed R view) (at_last : (P : Type 0) → AtOk last P → P) where
    through : (deeds : List (WeakDeed R view)) (old mid new : WeakDevice) (d : Device)
        (chip : ChipData) (MayBe : ℕ → Type 0) (intent : Option Intent) → d.chip ≡ chip
        → IsDevice d → CanBe old d → AmongThese chip MayBe old
        → AllHeal chip MayBe intent (deeds ++ last ∷ []) → IsSafeFor (settling_byte intent) old
        → (led : FedDeeds intent deeds old mid)
        (undone : FedAs (intent_of_deeds intent deeds) (fed_kind last) mid new) (w w2 : World)
        (history : List (Happening R)) → FollowsUnread intent deeds old mid led w w2 history
        → Through last (intent_of_deeds intent deeds) mid new undone w w2 history
    through [] old mid new d chip MayBe intent same is can among heal safe led undone w w2 history
        (stays, nothing) =
        let Behind : ℕ → Type 0 = λ n. weak_behind chip MayBe (events_in last) n in
        let P : WeakDevice → Type 0 = λ x. CanBe x d in
        let A : WeakDevice → Type 0 = λ x. AmongThese chip MayBe x in
        let S : WeakDevice → Type 0 = λ x. IsSafeFor (settling_byte intent) x in
        let back = sym led in
        let one = deed_from R view last mid new d chip MayBe intent same is (subst P back can)
        (subst A back among) heal.0 (subst S back safe) undone in
        let L : List (Happening R) → Type 0 = λ xs. AllLead view xs w in
        record {
          lead = subst L (sym nothing) tt;
          ends = ap (λ (xs : List (Happening R)). end_of xs w) nothing ∙ sym stays;
          unread = fed_unread intent (fed_kind last) mid new undone d one.end one.ordinary;
          sound = no_weak R view chip Behind new one.end one.can one.same one.among
              (at_last (NoneIs Behind) heal.1);
        }
    through (deed ∷ deeds) old mid new d chip MayBe intent same is can among heal safe
        (next, led, more) undone w w2 history (own, rest, joined, leads, follows) =
        let Behind : ℕ → Type 0 = λ n. weak_behind chip MayBe (events_in deed) n in
        let one = deed_from R view deed old next d chip MayBe intent same is can among heal.0 safe
        led in
        let lead : AllLead view own w = leads
        (fed_unread intent (fed_kind deed) old next led d one.end one.ordinary) in
        let x = through deeds next mid new one.end chip Behind
        (intent_behind intent (events_in deed)) one.same one.is one.can one.among heal.2 one.safe
        more undone (end_of own w) w2 rest follows in
        let L : List (Happening R) → Type 0 = λ xs. AllLead view xs w in
        record {
          lead = subst L (sym joined) (lead_on own rest w lead x.lead);
          ends = ap (λ (xs : List (Happening R)). end_of xs w) joined ∙ end_on own rest w ∙ x.ends;
          unread = x.unread;
          sound = x.sound;
        }

pub weak_headline : {R : Type 0} (view : R → RigState) → HistoriesHeal view → AllIsUndone view
    → WeakHeadline view
weak_headline {R} view heal undone_all deeds last old mid new w w2 history is none start find led
    undone follows kept_none undo =
    let d = old.device in
    let first : World = record { device = d; journal = [] } in
    let x = through R view last (λ P ok. at_undone R view undo.before undo.after last P undo.is ok)
    deeds old mid new d d.chip
    (λ n. ⊥) None refl is (can_be_itself old is) none (heal d.chip (deeds ++ last ∷ []) find)
    (inr none) led undone first w history follows in
    let A : World → Type 0 = λ v. AllLead view undo.own v in
    let all : List (Happening R) = history ++ undo.own in
    let lead : AllLead view all first = lead_on R view history undo.own first x.lead
    (subst A (sym x.ends) (undo.leads x.unread)) in
    let at : end_of undo.own w ≡ end_of all first =
    sym (end_on R view history undo.own first
    ∙ ap (λ (v : World). end_of undo.own v) x.ends) in
    let B : World → Type 0 =
    λ v. Leads view (undid undo.table 0 undo.before undo.after (Ok undo.count)) v w2 in
    let back = undone_all all first [] start lead undo.table undo.before undo.after undo.count w2
    (subst B at (undo.undoes x.unread)) in
    let ordinary : w2.device ≡ new.device = one_is_left new w2.device x.sound (undo.can x.unread) in (
      x.sound,
      ap (λ (v : Device). v.flash) (sym ordinary) ∙ back.0
          ∙ oldest_same R view all d.flash (kept_on R view history undo.own kept_none
          undo.none_kept),
    )

pub weak_sessions : {R : Type 0} (view : R → RigState) → HistoriesHeal view
    → WeakHistoriesAreSessions view
weak_sessions {R} view heal deeds last old mid new first w w2 history ok is none find led done
    follows end =
    let d = old.device in
    let x = through R view last (λ P at. at_answered R view last P ok at) deeds old mid new d d.chip
    (λ n. ⊥) None refl is (can_be_itself old is) none (heal d.chip (deeds ++ last ∷ []) find)
    (inr none) led done first w history follows in
    let A : World → Type 0 = λ v. AllLead view end.own v in (
      lead_on R view history end.own first x.lead (subst A (sym x.ends) (end.leads x.unread)),
      end_on R view history end.own first ∙ ap (λ (v : World). end_of end.own v) x.ends ∙ end.ends,
      x.sound,
      one_is_left new w2.device x.sound (end.can x.unread),
    )
