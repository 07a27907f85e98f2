-- All that befalls a device with weak pages, and an ordinary one beside it.
use Rattle.std.proofs.Common.{◌≡◌, ℕ, List, [], ◌∷◌, drop, refl, sym, ◌∙◌, ap, subst}
use Rattle.stm_wire.proofs.Names.{ChipData, Device, Feeds, Fresh, IsDevice, IsOpenPhase, Phase, reset}
use Rattle.stm_weak.specs.WeakDevice.{AgreesOutside, CanBe, WeakDevice}
use Rattle.stm_weak.specs.WeakRuns.{Feed, Reset, Take, IsNow, StayWeak}
use Rattle.stm_weak.specs.WeakLaws.{LedAsOrdinary, OneIsLeft, SoundIsOrdinary}
use Rattle.stm_weak.proofs.Agreeing.{agrees_none, agrees_weaker}
use Rattle.stm_weak.proofs.Ordinary.{fed_as_ordinary}
use Rattle.stm_weak.proofs.Opening.{with_parts}

-- with other owed bytes and another phase, both
pub can_be_now : (old new : WeakDevice) (d : Device) (owed : List ℕ) (phase : Phase) → CanBe old d
    → IsNow (record old.device { owed = owed; phase = phase }) old new
    → CanBe new (record d { owed = owed; phase = phase })
can_be_now old new d owed phase can now =
    let is = sym now.device in
    let A : Device → Type 0 = λ x. AgreesOutside x.chip new.weak x.flash d.flash in
    record {
      chip = can.chip ∙ ap (λ (x : Device). x.chip) is;
      version = can.version ∙ ap (λ (x : Device). x.version) is;
      codes = can.codes ∙ ap (λ (x : Device). x.codes) is;
      owed = ap (λ (x : Device). x.owed) is;
      phase = ap (λ (x : Device). x.phase) is;
      flash = subst A is (agrees_weaker old.device.chip old.weak new.weak old.device.flash d.flash
          now.stays can.flash);
      bytes = can.bytes;
    }

pub device_now : (d : Device) (owed : List ℕ) (phase : Phase) → IsDevice d
    → IsOpenPhase d.chip d.codes phase → IsDevice (record d { owed = owed; phase = phase })
device_now d owed phase is waits = with_parts d d.flash owed phase is refl is.flash waits

-- with other owed bytes, both
pub can_be_owing : (old new : WeakDevice) (d : Device) (owed : List ℕ) → CanBe old d
    → IsNow (record old.device { owed = owed }) old new → CanBe new (record d { owed = owed })
can_be_owing old new d owed can now =
    let make : Phase → Device = λ p. record d { owed = owed; phase = p } in
    subst (CanBe new) (ap make (sym can.phase)) (can_be_now old new d owed old.device.phase can now)

-- so many owed bytes are taken from both
pub can_be_taken : (old new : WeakDevice) (d : Device) (n : ℕ) → CanBe old d
    → IsNow (record old.device { owed = drop n old.device.owed }) old new
    → CanBe new (record d { owed = drop n d.owed })
can_be_taken old new d n can now =
    let make : List ℕ → Device = λ owed. record d { owed = drop n owed } in
    subst (CanBe new) (ap make (sym can.owed)) (can_be_owing old new d
    (drop n old.device.owed) can now)

-- nothing befell both, but that more pages may be weak
pub can_be_still : (old new : WeakDevice) (d : Device) → CanBe old d → new.device ≡ old.device
    → StayWeak old new → CanBe new d
can_be_still old new d can same stays =
    let make : List ℕ → Device = λ owed. record d { owed = owed } in
    subst (CanBe new) (ap make (sym can.owed)) (can_be_owing old new d old.device.owed can
    (record { device = same; stays = stays }))

pub led_as_ordinary : LedAsOrdinary
led_as_ordinary [] old new d small is can led unread =
    (d, refl, subst (λ (w : WeakDevice). CanBe w d) (sym led) can, is)
led_as_ordinary (Feed byte ∷ more) old new d small is can (mid, feeds, led) unread =
    let one = fed_as_ordinary byte old mid d small.0 is can feeds unread.0 in
    let rest = led_as_ordinary more mid new one.0 small.1 one.3 one.2 led unread.1 in
    (rest.0, (one.0, one.1, rest.1), rest.2, rest.3)
led_as_ordinary (Take n ∷ more) old new d small is can (mid, now, led) unread =
    led_as_ordinary more mid new (record d { owed = drop n d.owed }) small
    (device_now d (drop n d.owed) d.phase is is.phase)
    (can_be_taken old mid d n can now) led unread
led_as_ordinary (Reset ∷ more) old new d small is can (mid, now, led) unread =
    led_as_ordinary more mid new (reset d) small (device_now d [] Fresh is tt)
    (can_be_now old mid d [] Fresh can now) led unread

pub one_is_left : OneIsLeft
one_is_left w d none can =
    let make : ChipData → ℕ → List ℕ → List ℕ → List ℕ → Phase
    → Device = λ chip version codes flash owed phase. record
    { chip = chip; version = version; codes = codes; flash = flash; owed = owed; phase = phase }
    in
    let o = w.device in
    ap (λ c. make c d.version d.codes d.flash d.owed d.phase) can.chip
    ∙ ap (λ v. make o.chip v d.codes d.flash d.owed d.phase) can.version
    ∙ ap (λ k. make o.chip o.version k d.flash d.owed d.phase) can.codes
    ∙ ap (λ f. make o.chip o.version o.codes f d.owed d.phase)
    (agrees_none o.chip w.weak o.flash d.flash none can.flash)
    ∙ ap (λ x. make o.chip o.version o.codes o.flash x d.phase) can.owed
    ∙ ap (λ p. make o.chip o.version o.codes o.flash o.owed p) can.phase

pub sound_is_ordinary : SoundIsOrdinary
sound_is_ordinary byte old new none feeds =
    subst (λ (d : Device). Feeds byte d new.device)
    (one_is_left old feeds.now none feeds.can_be) feeds.feeds
