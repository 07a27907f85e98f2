-- The events of a session, by what is fed alone, at a device with weak pages and at an ordinary one
-- beside it.
use Rattle.std.proofs.Common.{⊎_elim, true, false, ◌≡◌, inl, inr, ℕ, ◌<◌, Bool, nat_lt}
use Rattle.std.proofs.Common.{if◌then◌else◌, IsTrue, List, [], ◌∷◌, Option, Some, None, Contains}
use Rattle.std.proofs.Common.{refl, sym, ◌∙◌, ap, subst, arith}
use Rattle.std.proofs.lemmas.Bool.{ltb-true}
use Rattle.stm_wire.specs.declared.intent.Intent.{Intent}
use Rattle.stm_wire.specs.declared.intent.Intent.TheVariants.{Erase}
use Rattle.stm_wire.proofs.Names.{ChipData, Connected, Device, erase_turns, intended_pages, IsDevice, page_count, settling_byte, Turn}
use Rattle.stm_session.proofs.Names.{Adds, pages_of_intent, Sends}
use Rattle.stm_weak.specs.Weak.{WeakEvent, breaks, does, settles, intent_after, intent_behind}
use Rattle.stm_weak.specs.Weak.{weak_after, weak_behind}
use Rattle.stm_weak.specs.Believed.{AreAtWork, NoneBelieved}
use Rattle.stm_weak.specs.FedEvents.{AreFedAsOrdinary, FedEvents, IsRefusedDialogue}
use Rattle.stm_weak.specs.FedEvents.{StoppedSettlingIsUnread, WaitsForMore, WaitsIfIntended}
use Rattle.stm_weak.specs.SettledBatches.{EndsAnswered}
use Rattle.stm_weak.specs.WeakDevice.{CanBe, NoneIsWeak, WeakDevice}
use Rattle.stm_weak.proofs.Batches.{batches_leave_it_waiting}
use Rattle.stm_weak.proofs.CalmDevices.{IsCalm}
use Rattle.stm_weak.proofs.Calming.{IsSafeFor, settled_safe, settled_sound, settled_unread, still_none}
use Rattle.stm_weak.proofs.FedFrames.{IsReadyFor, leaves_safe, ready_safe, tame_in}
use Rattle.stm_weak.proofs.Leading.{led_as_ordinary}
use Rattle.stm_weak.proofs.Mending.{no_page}
use Rattle.stm_weak.proofs.Stepping.{AmongThese, chip_led, sound_along}
use Rattle.stm_weak.proofs.SameChip.{chip_along}

-- what the next event needs of the device
abbrev pub StandsFor : List WeakEvent → Option Intent → WeakDevice → Type 0
StandsFor [] intent w = IsSafeFor (settling_byte intent) w
StandsFor (settles own ∷ events) intent w = IsSafeFor (settling_byte intent) w
StandsFor (does step ∷ events) intent w = IsReadyFor w
StandsFor (breaks turns ∷ events) intent w = IsReadyFor w

pub byte_small : (intent : Option Intent) → settling_byte intent < 256
byte_small (Some (Erase n)) = by (nat_lt n 256) refl
  where
    by : (t : Bool) → nat_lt n 256 ≡ t → (if t then n else 0x02) < 256
    by true e = ltb-true n 256 e
    by false e = omega arith
byte_small intent = omega arith

-- without an intent no page may be weak
none_without : (chip : ChipData) (both : Bool) (MayBe : ℕ → Type 0) (intent : Option Intent)
    (w : WeakDevice) → w.device.chip ≡ chip → None ≡ intent → AreAtWork both MayBe intent
    → AmongThese chip MayBe w → NoneIsWeak w
none_without chip both MayBe intent w same none at_work among n lt weak =
    let P : Option Intent → Type 0 = λ i. Contains (pages_of_intent i both) n in
    no_page n (subst P (sym none)
    (at_work n (among n (subst (λ (c : ChipData). n < page_count c) same lt) weak)))

-- a device that is ready stands for all
ready_stands : (events : List WeakEvent) (intent : Option Intent) (w : WeakDevice) → IsReadyFor w
    → StandsFor events intent w
ready_stands (does step ∷ events) intent w ready = ready
ready_stands (breaks turns ∷ events) intent w ready = ready
ready_stands events intent w ready = ready_safe w (settling_byte intent) ready

-- and so does one that is safe, where it waits for more
safe_stands : (events : List WeakEvent) (intent : Option Intent) (w : WeakDevice)
    → IsSafeFor (settling_byte intent) w → WaitsForMore events w → StandsFor events intent w
safe_stands (does step ∷ events) intent w safe waits = inr waits
safe_stands (breaks turns ∷ events) intent w safe waits = inr waits
safe_stands events intent w safe waits = safe

-- settled under an intent it waits, and without one no page is weak
settled_stands : (events : List WeakEvent) (own intent : Option Intent) (w : WeakDevice)
    → IsSafeFor (settling_byte intent) w → (None ≡ own → NoneIsWeak w)
    → WaitsIfIntended own events w → StandsFor events intent w
settled_stands events None intent w safe none waits =
    ready_stands events intent w (inl (none refl))
settled_stands events (Some i) intent w safe none waits = safe_stands events intent w safe waits

-- one that answered the calls of a settling waits, or has no weak page
answered_ready : (intent : Option Intent) (old new : WeakDevice)
    → new.device.chip ≡ old.device.chip → IsSafeFor (settling_byte intent) old
    → EndsAnswered intent old new → IsReadyFor new
answered_ready intent old new same safe a =
    let byte = settling_byte intent in
    let mid = a.mid in
    let f = a.first in
    ⊎_elim (λ (calm : IsCalm byte mid). (let ready : IsReadyFor new =
    inr (batches_leave_it_waiting byte a.limit a.calls mid new a.some
    (tame_in mid.device.chip mid.device.codes byte mid.device.phase calm) a.ends a.answers).phase in
    ready))
    (λ (none : NoneIsWeak mid). (let ready : IsReadyFor new =
    inl (still_none mid new (same ∙ sym (chip_along f.happenings old mid f.led)) a.sound none) in
    ready))
    (settled_safe byte (intended_pages intent) f.happenings old mid safe f.led f.alone)

-- and one to which a whole frame was sent
whole_stands : (events : List WeakEvent) (intent : Option Intent) (turns : List Turn)
    (w : WeakDevice) → ((byte : ℕ) → byte < 256 → IsSafeFor byte w)
    → ((IsRefusedDialogue turns → w.device.phase ≡ Connected []) → IsReadyFor w)
    → (IsRefusedDialogue turns → WaitsForMore events w) → StandsFor events intent w
whole_stands [] intent turns w safe ready waits = safe (settling_byte intent) (byte_small intent)
whole_stands (settles own ∷ events) intent turns w safe ready waits =
    safe (settling_byte intent) (byte_small intent)
whole_stands events intent turns w safe ready waits = ready waits

-- What comes of the device and of the ordinary one beside it.
pub record EndsAs (chip : ChipData) (MayBe : ℕ → Type 0) (byte : ℕ) (new : WeakDevice)
    (Ordinary : Device → Type 0) : Type 0 where
  pub end : Device
  pub ordinary : Ordinary end
  pub can : CanBe new end
  pub is : IsDevice end
  pub same : end.chip ≡ chip
  pub among : AmongThese chip MayBe new
  pub safe : IsSafeFor byte new

-- where nothing is fed
pub ends_now : (chip : ChipData) (MayBe : ℕ → Type 0) (byte : ℕ) (old new : WeakDevice)
    (d : Device) → new ≡ old → d.chip ≡ chip → IsDevice d → CanBe old d → AmongThese chip MayBe old
    → IsSafeFor byte old → EndsAs chip MayBe byte new (λ e. e ≡ d)
ends_now chip MayBe byte old new d nothing same is can among safe = record {
  end = d;
  ordinary = refl;
  can = subst (λ (w : WeakDevice). CanBe w d) (sym nothing) can;
  is = is;
  same = same;
  among = λ n lt weak. among n lt (subst (λ (w : WeakDevice). IsTrue (w.weak n)) nothing weak);
  safe = subst (IsSafeFor byte) (sym nothing) safe;
}

-- and where more was fed before
pub ends_behind : (chip : ChipData) (MayBe : ℕ → Type 0) (byte : ℕ) (new : WeakDevice)
    (P Q : Device → Type 0) → EndsAs chip MayBe byte new P → ((e : Device) → P e → Q e)
    → EndsAs chip MayBe byte new Q
ends_behind chip MayBe byte new P Q x more = record {
  end = x.end;
  ordinary = more x.end x.ordinary;
  can = x.can;
  is = x.is;
  same = x.same;
  among = x.among;
  safe = x.safe;
}

-- What events lead to.
abbrev pub FedTo : ChipData → (ℕ → Type 0) → Option Intent → (events : List WeakEvent)
    → (old new : WeakDevice) → FedEvents events old new → Device → Type 0
FedTo chip MayBe intent events old new led d =
    EndsAs chip (λ n. weak_behind chip MayBe events n) (settling_byte (intent_behind intent events))
    new (λ e. AreFedAsOrdinary events old new led d e)

pub fed_from : (events : List WeakEvent) (old new : WeakDevice) (d : Device) (chip : ChipData)
    (MayBe : ℕ → Type 0) (both : Bool) (intent : Option Intent) → d.chip ≡ chip → IsDevice d
    → CanBe old d → AmongThese chip MayBe old → NoneBelieved chip both MayBe intent events
    → StandsFor events intent old → (led : FedEvents events old new)
    → FedTo chip MayBe intent events old new led d
fed_from [] old new d chip MayBe both intent same is can among believed stands led =
    ends_now chip MayBe (settling_byte intent) old new d led same is can among stands
fed_from (settles own ∷ events) old new d chip MayBe both intent same is can among believed stands
    (mid, s, waits, led) =
    let byte = settling_byte own in
    let own_is : settling_byte own ≡ settling_byte intent =
    ap (λ (i : Option Intent). settling_byte i) believed.0 in
    let safe : IsSafeFor byte old = subst (λ (b : ℕ). IsSafeFor b old) (sym own_is) stands in
    let unread = settled_unread byte (intended_pages own) s.happenings old mid safe s.led s.alone in
    let one = led_as_ordinary s.happenings old mid d s.are_bytes is can s.led unread in
    let after : AmongThese chip (λ n. weak_after chip MayBe (settles own) n) mid =
    λ n lt weak. ⊎_elim (λ (w : IsTrue (old.weak n)). inl (among n lt w)) (λ c. inr (lt, c))
    (settled_sound byte (intended_pages own) s.happenings old mid s.led s.alone n weak) in
    let left : IsSafeFor (settling_byte intent) mid = subst (λ (b : ℕ). IsSafeFor b mid) own_is
    (settled_safe byte (intended_pages own) s.happenings old mid safe s.led s.alone) in
    let rest = fed_from events mid new one.0 chip (λ n. weak_after chip MayBe (settles own) n) both
    intent (chip_led chip s.happenings old mid d s.led same can one) one.3 one.2 after believed.2
    (⊎_elim (λ well. settled_stands events own intent mid left (λ none. none_without chip both
    (λ n. weak_after chip MayBe (settles own) n) intent mid
    (chip_along s.happenings old mid s.led ∙ sym can.chip ∙ same) (none ∙ believed.0) believed.1
    after) (well unread))
    (λ (a : EndsAnswered own old mid). ready_stands events intent mid
    (answered_ready own old mid (chip_along s.happenings old mid s.led) safe a)) waits) led in
    ends_behind chip _ _ new _ _ rest (λ e ordinary. (unread, (one.0, one.1, ordinary)))
fed_from (does (Adds entries) ∷ events) old new d chip MayBe both intent same is can among believed
    stands led =
    fed_from events old new d chip (λ n. weak_after chip MayBe (does (Adds entries)) n)
    both (intent_after intent (does (Adds entries))) same is can among believed.2
    (ready_stands events (intent_after intent (does (Adds entries))) old stands) led
fed_from (does (Sends turns) ∷ events) old new d chip MayBe both intent same is can among believed
    stands (mid, s, waits, led) =
    let b = s.part in
    let leaves = leaves_safe turns old mid d chip MayBe intent same is can among believed.0 b stands
    in
    let one = led_as_ordinary b.happenings old mid d b.are_bytes is can b.led leaves.unread in
    let after : AmongThese chip (λ n. weak_after chip MayBe (does (Sends turns)) n) mid =
    λ n lt weak. (
      among n lt (sound_along b.happenings old mid n b.no_reset b.led b.sound weak),
      (λ e. (let R : ChipData → Type 0 = λ c. n < page_count c in
          let T : ChipData → Type 0 = λ c. turns ≡ erase_turns c.kind n in
          let at : chip ≡ old.device.chip = sym same ∙ can.chip in
          leaves.heals s.whole n (subst R at lt) (subst T at e) weak)),
    ) in
    let rest = fed_from events mid new one.0 chip
    (λ n. weak_after chip MayBe (does (Sends turns)) n) both intent
    (chip_led chip b.happenings old mid d b.led same can one) one.3 one.2 after believed.2
    (whole_stands events intent turns mid leaves.safe (leaves.ready s.whole) waits) led in
    ends_behind chip _ _ new _ _ rest (λ e ordinary. (leaves.unread, (one.0, one.1, ordinary)))
fed_from (breaks turns ∷ events) old new d chip MayBe both intent same is can among believed stands
    (mid, b, waits, led) =
    let leaves = leaves_safe turns old mid d chip MayBe intent same is can among believed.0 b stands
    in
    let one = led_as_ordinary b.happenings old mid d b.are_bytes is can b.led leaves.unread in
    let after : AmongThese chip (λ n. weak_after chip MayBe (breaks turns) n) mid =
    λ n lt weak. inl (among n lt (sound_along b.happenings old mid n b.no_reset b.led b.sound weak))
    in
    let rest = fed_from events mid new one.0 chip (λ n. weak_after chip MayBe (breaks turns) n) both
    intent (chip_led chip b.happenings old mid d b.led same can one) one.3 one.2 after believed.2
    (safe_stands events intent mid (leaves.safe (settling_byte intent) (byte_small intent)) waits)
    led in
    ends_behind chip _ _ new _ _ rest (λ e ordinary. (leaves.unread, (one.0, one.1, ordinary)))

pub stopped_settling_is_unread : StoppedSettlingIsUnread
stopped_settling_is_unread old mid new d may_be intent turns byte pages happenings small is can
    waits among may part led alone =
    settled_unread byte pages happenings mid new
    ((leaves_safe turns old mid d d.chip (λ n. IsTrue (may_be n)) intent refl is can among may part
    (inr waits)).safe byte small) led alone
