-- A device with weak pages is asked which board it is.
use Rattle.std.proofs.Common.{◌≡◌, inl, inr, ⊎_elim, ℕ, ◌<◌, IsTrue, List, [], ◌∷◌, Option, refl}
use Rattle.std.proofs.Common.{append-nil, sym, ◌∙◌, subst}
use Rattle.stm_wire.specs.declared.intent.Intent.{Intent}
use Rattle.stm_wire.proofs.Names.{ChipData, Device, intended_pages, IsDevice, settling_byte}
use Rattle.stm_weak.specs.Weak.{settles, weak_after}
use Rattle.stm_weak.specs.FedAsking.{AreQuestionsAsOrdinary, FedQuestions, IsAskedAlone}
use Rattle.stm_weak.specs.FedAsking.{IsAskedAsOrdinary, IsBoardQuestion, WaitsForQuestions}
use Rattle.stm_weak.specs.FedAsking.{WholeIfMore}
use Rattle.stm_weak.specs.WeakRuns.{fed_bytes}
use Rattle.stm_weak.specs.WeakDevice.{CanBe, WeakDevice}
use Rattle.stm_weak.proofs.CalmSending.{calm_frame_unread, frame_left}
use Rattle.stm_weak.proofs.Calming.{IsSafeFor, settled_safe, settled_sound, settled_unread}
use Rattle.stm_weak.proofs.FedStepping.{EndsAs, byte_small, ends_behind, ends_now}
use Rattle.stm_weak.proofs.Leading.{led_as_ordinary}
use Rattle.stm_weak.proofs.Questions.{question_calm}
use Rattle.stm_weak.proofs.Stepping.{AmongThese, chip_led, sound_along}
use Rattle.stm_weak.proofs.Unread.{Has}

-- what the questions lead to
abbrev AskedTo : ChipData → (ℕ → Type 0) → ℕ → (frames : List (List ℕ)) → (old new : WeakDevice)
    → FedQuestions frames old new → Device → Type 0
AskedTo chip MayBe byte frames old new led d =
    EndsAs chip MayBe byte new (λ e. AreQuestionsAsOrdinary frames old new led d e)

asked_from : (frames : List (List ℕ)) (old new : WeakDevice) (d : Device) (chip : ChipData)
    (MayBe : ℕ → Type 0) (byte : ℕ) → byte < 256 → d.chip ≡ chip → IsDevice d → CanBe old d
    → AmongThese chip MayBe old → IsSafeFor byte old → WaitsForQuestions frames old
    → (led : FedQuestions frames old new) → AskedTo chip MayBe byte frames old new led d
asked_from [] old new d chip MayBe byte small same is can among safe waits led =
    ends_now chip MayBe byte old new d led same is can among safe
asked_from (frame ∷ frames) old new d chip MayBe byte small same is can among safe waits
    (mid, question, part, whole, led) =
    let has : Has d.chip d.codes [] old = record {
      same_chip = sym can.chip;
      same_codes = sym can.codes;
      same_phase = waits;
    } in
    let Q : ChipData → Type 0 = λ c. IsBoardQuestion c frame in
    let calm = question_calm d frame is (subst Q (sym can.chip) question) in
    let unread = calm_frame_unread d.chip d.codes frame part.happenings old mid part.begins.0 calm
    part.no_reset part.are_bytes part.begins.1 has part.led in
    let one = led_as_ordinary part.happenings old mid d part.are_bytes is can part.led unread in
    let left = frame_left d.chip d.codes frame byte part.happenings old mid part.begins.0 calm small
    part.no_reset part.begins.1 has part.led in
    let after : AmongThese chip MayBe mid = λ n lt weak. among n lt
    (sound_along part.happenings old mid n part.no_reset part.led part.sound weak) in
    let rest = asked_from frames mid new one.0 chip MayBe byte small
    (chip_led chip part.happenings old mid d part.led same can one) one.3 one.2 after
    (inl left.calm) (next frames whole) led in
    ends_behind chip _ _ new _ _ rest (λ e ordinary. (unread, (one.0, one.1, ordinary)))
  where
    next : (more : List (List ℕ)) → WholeIfMore more (fed_bytes part.happenings) frame
        → WaitsForQuestions more mid
    next [] all = tt
    next (question2 ∷ more) all =
        let Q : ChipData → Type 0 = λ c. IsBoardQuestion c frame in
        (frame_left d.chip d.codes frame byte part.happenings old mid []
        (question_calm d frame is (subst Q (sym can.chip) question)) small part.no_reset
        (append-nil (fed_bytes part.happenings) ∙ all)
        (record {
          same_chip = sym can.chip;
          same_codes = sym can.codes;
          same_phase = waits;
        }) part.led).waits refl

-- and all of it
abbrev pub BoardAskedTo : ChipData → (ℕ → Type 0) → (intent : Option Intent)
    → (old new : WeakDevice) → IsAskedAlone intent old new → Device → Type 0
BoardAskedTo chip MayBe intent old new asked d =
    EndsAs chip (λ n. weak_after chip MayBe (settles intent) n) (settling_byte intent) new
    (λ e. IsAskedAsOrdinary intent old new asked d e)

pub board_asked : (intent : Option Intent) (old new : WeakDevice) (d : Device) (chip : ChipData)
    (MayBe : ℕ → Type 0) → d.chip ≡ chip → IsDevice d → CanBe old d → AmongThese chip MayBe old
    → IsSafeFor (settling_byte intent) old → (asked : IsAskedAlone intent old new)
    → BoardAskedTo chip MayBe intent old new asked d
board_asked intent old new d chip MayBe same is can among safe asked =
    let byte = settling_byte intent in
    let pages = intended_pages intent in
    let s = asked.settling in
    let mid = asked.settled in
    let unread = settled_unread byte pages s.happenings old mid safe s.led s.alone in
    let one = led_as_ordinary s.happenings old mid d s.are_bytes is can s.led unread in
    let after : AmongThese chip (λ n. weak_after chip MayBe (settles intent) n) mid =
    λ n lt weak. ⊎_elim (λ (w : IsTrue (old.weak n)). inl (among n lt w)) (λ c. inr (lt, c))
    (settled_sound byte pages s.happenings old mid s.led s.alone n weak) in
    let rest = asked_from asked.frames mid new one.0 chip
    (λ n. weak_after chip MayBe (settles intent) n) byte (byte_small intent)
    (chip_led chip s.happenings old mid d s.led same can one) one.3 one.2 after
    (settled_safe byte pages s.happenings old mid safe s.led s.alone) (asked.waits unread)
    asked.questions in
    ends_behind chip _ _ new _ _ rest (λ e ordinary. (unread, (one.0, one.1, ordinary)))
