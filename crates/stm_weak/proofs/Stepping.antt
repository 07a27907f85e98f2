-- The events of a history at a device with weak pages, and at an ordinary one beside it.
use Rattle.std.proofs.Common.{⊎_elim, ◌≡◌, inl, inr, ℕ, ◌<◌, Bool, IsTrue, List, [], ◌∷◌, ◌++◌}
use Rattle.std.proofs.Common.{Option, refl, sym, ◌∙◌, ap, subst, append_assoc}
use Rattle.stm_wire.specs.declared.chip.EraseKind.{EraseKind}
use Rattle.stm_wire.specs.declared.chip.EraseKind.TheVariants.{Page, Extended}
use Rattle.stm_wire.specs.declared.intent.Intent.{Intent}
use Rattle.stm_wire.proofs.Names.{ChipData, Device, erase_frame, erase_turns, IsDevice, ListsKind, page_count, sent_bytes, Turn}
use Rattle.stm_wire.specs.lemmas.DialogueLaws.{erase_sends}
use Rattle.stm_session.proofs.Names.{Adds, Sends}
use Rattle.stm_weak.specs.Weak.{WeakEvent, breaks, does, settles, intent_after, weak_after, weak_behind}
use Rattle.stm_weak.specs.Believed.{MayPutBelieving, NoneBelieved}
use Rattle.stm_weak.specs.WeakDevice.{CanBe, WeakDevice}
use Rattle.stm_weak.specs.WeakRuns.{Befall, Feed, WeakHappening, HasNoReset, IsUnread, Reset, Take}
use Rattle.stm_weak.specs.WeakRuns.{WeakBefall, fed_bytes}
use Rattle.stm_weak.specs.WeakBelieved.{AreAmong}
use Rattle.stm_weak.specs.WeakEvents.{AreAsOrdinary, EventsAreOrdinary, IsFrameBegun, IsSent}
use Rattle.stm_weak.specs.WeakEvents.{NoneBecomesWeak, WeakEvents}
use Rattle.stm_weak.proofs.Leading.{led_as_ordinary}
use Rattle.stm_weak.proofs.Meaning.{erase_heals_at}
use Rattle.stm_weak.proofs.Putting.{put_is_unread}
use Rattle.stm_weak.proofs.SameChip.{chip_along, chip_fed}
use Rattle.stm_weak.proofs.Openness.{open_erase}
use Rattle.stm_weak.proofs.Unread.{Has, HasBefore, IsOpenTo, has_at_first, has_fed, has_taken}

-- what is weak behind was weak before
pub sound_along : (happenings : List WeakHappening) (old new : WeakDevice) (n : ℕ) → HasNoReset happenings
    → (led : WeakBefall happenings old new) → NoneBecomesWeak happenings old new led
    → IsTrue (new.weak n) → IsTrue (old.weak n)
sound_along [] old new n no_reset led sound weak = subst
    (λ (w : WeakDevice). IsTrue (w.weak n)) led weak
sound_along (Feed byte ∷ more) old new n no_reset led sound weak =
    (sound.0 n (sound_along more led.0 new n no_reset led.2 sound.1 weak)).0
sound_along (Take k ∷ more) old new n no_reset led sound weak = sound.0 n
    (sound_along more led.0 new n no_reset led.2 sound.1 weak)
sound_along (Reset ∷ more) old new n no_reset led sound weak = absurd no_reset

-- pages that are weak at first are among these, and so they are as each byte comes
among_along : (happenings : List WeakHappening) (old new : WeakDevice) (chip : ChipData)
    (MayBe : ℕ → Type 0) → HasNoReset happenings → (led : WeakBefall happenings old new)
    → NoneBecomesWeak happenings old new led
    → ((n : ℕ) → n < page_count chip → IsTrue (old.weak n) → MayBe n) → old.device.chip ≡ chip
    → AreAmong MayBe happenings old new led
among_along [] old new chip MayBe no_reset led sound among same = tt
among_along (Feed byte ∷ more) old new chip MayBe no_reset led sound among same =
    let P : ChipData → Type 0 = λ c. (n : ℕ) → n < page_count c → IsTrue (old.weak n) → MayBe n in (
      subst P (sym same) among,
      among_along more led.0 new chip MayBe no_reset led.2 sound.1
          (λ n lt w. among n lt (sound.0 n w).0) (chip_fed byte old led.0 led.1 ∙ same),
    )
among_along (Take k ∷ more) old new chip MayBe no_reset led sound among same =
    among_along more led.0 new chip MayBe no_reset led.2 sound.1
    (λ n lt w. among n lt (sound.0 n w)) (ap (λ (d : Device). d.chip) led.1.device ∙ same)
among_along (Reset ∷ more) old new chip MayBe no_reset led sound among same = absurd no_reset

-- a frame that erases page n leaves it sound
healed_from : (chip : ChipData) (codes : List ℕ) (happenings : List WeakHappening) (w new : WeakDevice)
    (n : ℕ) (done : List ℕ) → ListsKind chip.kind codes → n < page_count chip
    → HasNoReset happenings
    → (fed_bytes happenings ≡ [] → ⊥) → HasBefore chip codes done (fed_bytes happenings) w
    → IsOpenTo chip codes done (fed_bytes happenings)
    → done ++ fed_bytes happenings ≡ erase_frame chip.kind n
    → (led : WeakBefall happenings w new) → NoneBecomesWeak happenings w new led
    → IsTrue (new.weak n) → ⊥
healed_from chip codes [] w new n done lists exists no_reset some has waits frame led sound weak =
    some refl
healed_from chip codes (Reset ∷ more) w new n done lists exists no_reset some has waits frame led
    sound weak = absurd no_reset
healed_from chip codes (Take k ∷ more) w new n done lists exists no_reset some has waits frame led
    sound weak =
    healed_from chip codes more led.0 new n done lists exists no_reset some
    (has_taken chip codes done (fed_bytes more) k w led.0 has led.1) waits frame led.2 sound.1
    weak
healed_from chip codes (Feed byte ∷ more) w new n done lists exists no_reset some has waits frame
    led sound weak =
    by (fed_bytes more) refl (λ next some_next has_next waits_next frame_next. healed_from chip
    codes more led.0 new n next lists exists no_reset some_next has_next waits_next frame_next
    led.2 sound.1 weak)
  where
    at_last : done ++ byte ∷ [] ≡ erase_frame chip.kind n → ⊥
    at_last whole =
        let P : ChipData → Type 0 = λ c. ListsKind c.kind codes in
        let Q : List ℕ → Type 0 = λ k. ListsKind w.device.chip.kind k in
        let R : ChipData → Type 0 = λ c. n < page_count c in
        let F : ChipData → Type 0 = λ c. done ++ byte ∷ [] ≡ erase_frame c.kind n in
        let back = sym has.same_chip in
        (sound.0 n (sound_along more led.0 new n no_reset led.2 sound.1 weak)).1
        (erase_heals_at w.device done byte n (subst Q (sym has.same_codes) (subst P back lists))
        (subst R back exists) has.same_phase (subst F back whole))

    by : (rest : List ℕ) → fed_bytes more ≡ rest
        → ((so_far : List ℕ) → (fed_bytes more ≡ [] → ⊥)
        → HasBefore chip codes so_far (fed_bytes more) led.0
        → IsOpenTo chip codes so_far (fed_bytes more)
        → so_far ++ fed_bytes more ≡ erase_frame chip.kind n → ⊥) → ⊥
    by [] e again =
        let F : List ℕ → Type 0 = λ xs. done ++ byte ∷ xs ≡ erase_frame chip.kind n in
        at_last (subst F e frame)
    by (next ∷ rest) e again =
        let O : List ℕ → Type 0 = λ xs. IsOpenTo chip codes done (byte ∷ xs) in
        let P : List ℕ → Type 0 = λ xs. IsOpenTo chip codes (done ++ byte ∷ []) xs in
        let H : List ℕ → Type 0 = λ xs. HasBefore chip codes (done ++ byte ∷ []) xs led.0 in
        let here : IsOpenTo chip codes done (byte ∷ next ∷ rest) = subst O e waits in
        let now : Has chip codes (done ++ byte ∷ []) led.0 = has_fed chip codes done byte w led.0
        has led.1 here.0 in
        let some_more : fed_bytes more ≡ [] → ⊥ = λ none. let h : next ∷ rest ≡ [] = sym e ∙ none
        in absurd (cc) in
        again (done ++ byte ∷ []) some_more (subst H (sym e) now) (subst P (sym e) here.1)
        (append_assoc done (byte ∷ []) (fed_bytes more) ∙ frame)

some_frame : (kind : EraseKind) (n : ℕ) → erase_frame kind n ≡ [] → ⊥
some_frame Page n e = absurd (cc)
some_frame Extended n e = absurd (cc)

pub healed : (d : Device) (old new : WeakDevice) (n : ℕ) (turns : List Turn) → IsDevice d → CanBe old d
    → n < page_count d.chip → (s : IsSent (sent_bytes turns) old new)
    → turns ≡ erase_turns d.chip.kind n → IsTrue (new.weak n) → ⊥
healed d old new n turns is can exists s e weak =
    let b = s.begun in
    let whole : fed_bytes b.happenings ≡ erase_frame d.chip.kind n = s.whole
    ∙ ap (λ (l : List Turn). sent_bytes l) e ∙ erase_sends d.chip.kind n in
    let O : List ℕ → Type 0 = λ xs. IsOpenTo d.chip d.codes [] xs in
    healed_from d.chip d.codes b.happenings old new n [] is.erase exists b.no_reset
    (λ none. some_frame d.chip.kind n (sym whole ∙ none))
    (has_at_first old d (fed_bytes b.happenings) can (can.phase ∙ b.waits))
    (subst O (sym whole) (open_erase d.chip d.codes d.chip.kind n is.erase)) whole b.led b.sound
    weak

-- the pages that are weak are among these
abbrev pub AmongThese : ChipData → (ℕ → Type 0) → WeakDevice → Type 0
AmongThese chip MayBe w = (n : ℕ) → n < page_count chip → IsTrue (w.weak n) → MayBe n

-- what led the ordinary device: where it is then
abbrev pub Led : List WeakHappening → WeakDevice → Device → Type 0
Led happenings new d = (e : Device) × Befall happenings d e × CanBe new e × IsDevice e

pub chip_led : (chip : ChipData) (happenings : List WeakHappening) (old new : WeakDevice) (d : Device)
    → WeakBefall happenings old new → d.chip ≡ chip → CanBe old d → (r : Led happenings new d)
    → r.0.chip ≡ chip
chip_led chip happenings old new d led same can r = r.2.chip ∙ chip_along happenings old new led
    ∙ sym can.chip ∙ same

-- a beginning of a frame that may be sent
pub begun : (turns : List Turn) (old mid : WeakDevice) (d : Device) (chip : ChipData)
    (MayBe : ℕ → Type 0) (intent : Option Intent) → d.chip ≡ chip → IsDevice d → CanBe old d
    → AmongThese chip MayBe old → MayPutBelieving chip MayBe intent turns
    → (b : IsFrameBegun (sent_bytes turns) old mid)
    → IsUnread b.happenings old mid b.led × Led b.happenings mid d
begun turns old mid d chip MayBe intent same is can among may b =
    let P : ChipData → Type 0 = λ c. MayPutBelieving c MayBe intent turns in
    let unread = put_is_unread b.happenings old mid d MayBe intent turns is can
    (can.phase ∙ b.waits) (subst P (sym same) may) b.begins b.no_reset b.led
    (among_along b.happenings old mid chip MayBe b.no_reset b.led b.sound among
    (sym can.chip ∙ same)) in
    (unread, led_as_ordinary b.happenings old mid d b.are_bytes is can b.led unread)

pub events_from : (events : List WeakEvent) (old new : WeakDevice) (d : Device) (chip : ChipData)
    (MayBe : ℕ → Type 0) (both : Bool) (intent : Option Intent) → d.chip ≡ chip → IsDevice d
    → CanBe old d → AmongThese chip MayBe old
    → NoneBelieved chip both MayBe intent events → (led : WeakEvents events old new)
    → ((e : Device) × AreAsOrdinary events old new led d e × CanBe new e × IsDevice e
    × (e.chip ≡ chip)) × AmongThese chip (λ n. weak_behind chip MayBe events n) new
events_from [] old new d chip MayBe both intent same is can among believed led = (
  (d, refl, subst (λ (w : WeakDevice). CanBe w d) (sym led) can, is, same),
  λ n lt weak. among n lt (subst (λ (w : WeakDevice). IsTrue (w.weak n)) led weak),
)
events_from (settles own ∷ events) old new d chip MayBe both intent same is can among believed
    (mid, s, led) =
    let one = led_as_ordinary s.happenings old mid d s.are_bytes is can s.led s.unread in
    let after : AmongThese chip (λ n. weak_after chip MayBe (settles own) n) mid =
    λ n lt weak. ⊎_elim (λ (w : IsTrue (old.weak n)). inl (among n lt w)) (λ c. inr (lt, c))
    (s.sound n weak) in
    let rest = events_from events mid new one.0 chip
    (λ n. weak_after chip MayBe (settles own) n) both (intent_after intent (settles own))
    (chip_led chip s.happenings old mid d s.led same can one) one.3 one.2 after believed.2 led
    in
    ((rest.0.0, (one.0, one.1, rest.0.1), rest.0.2, rest.0.3, rest.0.4), rest.1)
events_from (does (Adds entries) ∷ events) old new d chip MayBe both intent same is can among
    believed led =
    events_from events old new d chip (λ n. weak_after chip MayBe (does (Adds entries)) n) both
    (intent_after intent (does (Adds entries))) same is can among believed.2 led
events_from (does (Sends turns) ∷ events) old new d chip MayBe both intent same is can among
    believed (mid, s, led) =
    let b = s.begun in
    let begin = begun turns old mid d chip MayBe intent same is can among believed.0 b in
    let one = begin.1 in
    let after : AmongThese chip (λ n. weak_after chip MayBe (does (Sends turns)) n) mid =
    λ n lt weak. (
      among n lt (sound_along b.happenings old mid n b.no_reset b.led b.sound weak),
      (λ e. let R : ChipData → Type 0 = λ c. n < page_count c in let T : ChipData
          → Type 0 = λ c. turns ≡ erase_turns c.kind n
          in healed d old mid n turns is can (subst R (sym same) lt) s (subst T (sym same) e) weak),
    ) in
    let rest = events_from events mid new one.0 chip
    (λ n. weak_after chip MayBe (does (Sends turns)) n) both
    (intent_after intent (does (Sends turns))) (chip_led chip b.happenings old mid d b.led same
    can one) one.3 one.2 after believed.2 led in
    ((rest.0.0, (begin.0, (one.0, one.1, rest.0.1)), rest.0.2, rest.0.3, rest.0.4), rest.1)
events_from (breaks turns ∷ events) old new d chip MayBe both intent same is can among believed
    (mid, b, led) =
    let begin = begun turns old mid d chip MayBe intent same is can among believed.0 b in
    let one = begin.1 in
    let after : AmongThese chip (λ n. weak_after chip MayBe (breaks turns) n) mid =
    λ n lt weak. inl (among n lt (sound_along b.happenings old mid n b.no_reset b.led b.sound weak))
    in
    let rest = events_from events mid new one.0 chip
    (λ n. weak_after chip MayBe (breaks turns) n) both (intent_after intent (breaks turns))
    (chip_led chip b.happenings old mid d b.led same can one) one.3 one.2 after believed.2 led
    in
    ((rest.0.0, (begin.0, (one.0, one.1, rest.0.1)), rest.0.2, rest.0.3, rest.0.4), rest.1)

pub events_are_ordinary : EventsAreOrdinary
events_are_ordinary events old new d may_be both intent is can among believed led =
    let r = events_from events old new d d.chip (λ n. IsTrue (may_be n)) both intent refl is can
    among believed led in
    ((r.0.0, r.0.1, r.0.2, r.0.3), r.1)
