-- A frame that may be sent while pages may be weak, fed to a device that waits, or has no weak page.
use Rattle.std.proofs.Common.{◌≡◌, ◌⊎◌, inl, inr, ⊎_elim, ℕ, ◌+◌, ◌<◌, Bool, true, false}
use Rattle.std.proofs.Common.{◌==◌, if◌then◌else◌, IsTrue, List, [], length, Option, Some}
use Rattle.std.proofs.Common.{None, refl, sym, ◌∙◌, ap, subst, append-nil, arith}
use Rattle.std.proofs.lemmas.Bool.{eqb-true}
use Rattle.stm_wire.specs.declared.intent.Intent.{Intent}
use Rattle.stm_wire.specs.declared.places.UniquePlace.{UniquePlace}
use Rattle.stm_wire.proofs.Names.{ChipData, command, Connected, Device, erase_frame, erase_turns, IsDevice, page_count, Phase, read_frame, sent_bytes, Turn, write_frame}
use Rattle.stm_weak.specs.SettledBatches.{IsTameIn}
use Rattle.stm_wire.specs.lemmas.DialogueLaws.{erase_sends, get_id_sends, get_sends, read_sends}
use Rattle.stm_wire.specs.lemmas.DialogueLaws.{write_sends}
use Rattle.stm_session.proofs.Names.{page_address, place_of_bytes}
use Rattle.stm_weak.specs.Weak.{NoneIs}
use Rattle.stm_weak.specs.Believed.{MayPutBelieving, confirms, reads, refused, asks as put_asks}
use Rattle.stm_weak.specs.Believed.{names as put_names, erases as put_erases, writes as put_writes}
use Rattle.stm_weak.specs.FedEvents.{IsFedPart, IsRefusedDialogue, StoppedIsTame}
use Rattle.stm_weak.specs.WeakDevice.{CanBe, NoneIsWeak, WeakDevice}
use Rattle.stm_weak.specs.WeakEvents.{IsFrameBegun}
use Rattle.stm_weak.specs.WeakFrames.{BeginsOf}
use Rattle.stm_weak.specs.WeakRuns.{IsUnread, fed_bytes}
use Rattle.stm_weak.proofs.Calm.{calm_nothing}
use Rattle.stm_weak.proofs.CalmDevices.{IsCalmIn}
use Rattle.stm_weak.proofs.CalmFrames.{IsCalmFrame, erase_frame_calm, get_frame_calm}
use Rattle.stm_weak.proofs.CalmFrames.{get_id_frame_calm, unique_frame_calm, write_frame_calm}
use Rattle.stm_weak.proofs.CalmSending.{frame_left}
use Rattle.stm_weak.proofs.Calming.{IsSafeFor, none_along}
use Rattle.stm_weak.proofs.Putting.{begins_further, page_fits, refused_begins}
use Rattle.stm_weak.proofs.Putting.{refused_sends, told_at}
use Rattle.stm_weak.proofs.Stepping.{AmongThese, begun, healed}
use Rattle.stm_weak.proofs.SameChip.{chip_along}
use Rattle.stm_weak.proofs.Unread.{Has}

-- no page is weak, or it waits for a command
abbrev pub IsReadyFor : WeakDevice → Type 0
IsReadyFor w = NoneIsWeak w ⊎ (w.device.phase ≡ Connected [])

-- and then any byte settles it
pub ready_safe : (w : WeakDevice) (byte : ℕ) → IsReadyFor w → IsSafeFor byte w
ready_safe w byte (inl none) = inr none
ready_safe w byte (inr waits) =
    let P : Phase → Type 0 = λ p. IsCalmIn w.device.chip w.device.codes byte p in
    inl (subst P (sym waits) (calm_nothing w.device.chip w.device.codes byte))

-- the chip's unique id is as long as its place
told_long : (o : Option UniquePlace) (unique : List ℕ) (place : UniquePlace)
    → place_of_bytes o unique ≡ Some place → length unique ≡ place.length
told_long None unique place e = absurd (let h : None ≡ Some place = e in cc)
told_long (Some p) unique place e = by (length unique == p.length) refl e
  where
    by : (t : Bool) → (length unique == p.length) ≡ t → (if t then Some p else None) ≡ Some place
        → length unique ≡ place.length
    by true is e =
        eqb-true (length unique) p.length is ∙ ap long e
      where
        long : Option UniquePlace → ℕ
        long None = 0
        long (Some q) = q.length
    by false is e = absurd (let h : None ≡ Some place = e in cc)

-- What is sent is a beginning of a calm frame, and all of it where it isn't refused.
record IsOfCalm (d : Device) (turns : List Turn) : Type 0 where
  frame : List ℕ
  calm : IsCalmFrame d.chip d.codes frame
  begins : BeginsOf (sent_bytes turns) frame
  whole : IsRefusedDialogue turns ⊎ (sent_bytes turns ≡ frame)

all_of : (d : Device) (turns : List Turn) (frame : List ℕ) → IsCalmFrame d.chip d.codes frame
    → sent_bytes turns ≡ frame → IsOfCalm d turns
all_of d turns frame calm same = record {
  frame = frame;
  calm = calm;
  begins = ([], append-nil (sent_bytes turns) ∙ same);
  whole = inr same;
}

of_calm : (d : Device) (MayBe : ℕ → Type 0) (intent : Option Intent) (turns : List Turn)
    → IsDevice d → MayPutBelieving d.chip MayBe intent turns → NoneIs MayBe ⊎ IsOfCalm d turns
of_calm d MayBe intent turns is (put_asks version codes e) =
    inr (all_of d turns (command 0x00) (get_frame_calm d is)
    (ap (λ (l : List Turn). sent_bytes l) e ∙ get_sends version codes))
of_calm d MayBe intent turns is (put_names high low e) =
    inr (all_of d turns (command 0x02) (get_id_frame_calm d is)
    (ap (λ (l : List Turn). sent_bytes l) e ∙ get_id_sends high low))
of_calm d MayBe intent turns is (confirms place answer at e) =
    inr (all_of d turns (read_frame place.address (length answer))
    (unique_frame_calm d place (length answer) is
    (told_at d.chip.places.unique d.chip.unique place at)
    (told_long d.chip.places.unique d.chip.unique place at))
    (ap (λ (l : List Turn). sent_bytes l) e ∙ read_sends place.address answer))
of_calm d MayBe intent turns is (refused place frame at how) =
    let whole = read_frame place.address place.length in
    let sent = refused_sends place.address place.length frame turns how in
    let begins = refused_begins place.address place.length frame turns how in
    let B : List ℕ → Type 0 = λ xs. BeginsOf xs whole in
    inr (record {
      frame = whole;
      calm = unique_frame_calm d place place.length is
          (told_at d.chip.places.unique d.chip.unique place at)
          (told_long d.chip.places.unique d.chip.unique place at);
      begins = subst B (sym sent) begins;
      whole = inl (record {
        address = place.address;
        size = place.length;
        frame = frame;
        refused = how;
      });
    })
of_calm d MayBe intent turns is (reads address answer none e) = inl none
of_calm d MayBe intent turns is (put_erases n at e) =
    inr (all_of d turns (erase_frame d.chip.kind n)
    (erase_frame_calm d.chip d.codes d.chip.kind n is.erase)
    (ap (λ (l : List Turn). sent_bytes l) e ∙ erase_sends d.chip.kind n))
of_calm d MayBe intent turns is (put_writes n offset bytes at some within e) =
    let address = page_address d.chip n + offset in
    inr (all_of d turns (write_frame address bytes)
    (write_frame_calm d.chip d.codes address bytes is.write some
    (page_fits d.chip n offset (length bytes) within))
    (ap (λ (l : List Turn). sent_bytes l) e ∙ write_sends address bytes))

-- What a beginning of such a frame leaves.
pub record LeavesSafe (turns : List Turn) (old mid : WeakDevice)
    (part : IsFedPart (sent_bytes turns) old mid) : Type 0 where
  pub unread : IsUnread part.happenings old mid part.led
  pub safe : (byte : ℕ) → byte < 256 → IsSafeFor byte mid
  pub ready : fed_bytes part.happenings ≡ sent_bytes turns
      → (IsRefusedDialogue turns → mid.device.phase ≡ Connected []) → IsReadyFor mid
  pub heals : fed_bytes part.happenings ≡ sent_bytes turns → (n : ℕ)
      → n < page_count old.device.chip → turns ≡ erase_turns old.device.chip.kind n
      → IsTrue (mid.weak n) → ⊥

module _ (turns : List Turn) (old mid : WeakDevice) (d : Device) (chip : ChipData)
    (MayBe : ℕ → Type 0) (intent : Option Intent) (same : d.chip ≡ chip) (is : IsDevice d)
    (can : CanBe old d) (among : AmongThese chip MayBe old)
    (may : MayPutBelieving chip MayBe intent turns)
    (part : IsFedPart (sent_bytes turns) old mid) where
  of_none : NoneIsWeak old → LeavesSafe turns old mid part
  of_none none =
      let r = none_along part.happenings old mid part.no_reset part.led part.sound none in
      record {
        unread = r.0;
        safe = λ byte small. inr r.1;
        ready = λ whole refusal. inl r.1;
        heals = λ whole n lt e weak. r.1 n (subst (λ (c : ChipData). n < page_count c)
            (sym (chip_along part.happenings old mid part.led)) lt) weak;
      }

  -- as a beginning of a frame that is sent to a device that waits
  begun_here : old.device.phase ≡ Connected [] → IsFrameBegun (sent_bytes turns) old mid
  begun_here waits = record {
    waits = waits;
    happenings = part.happenings;
    begins = part.begins;
    no_reset = part.no_reset;
    are_bytes = part.are_bytes;
    led = part.led;
    sound = part.sound;
  }

  of_waiting : old.device.phase ≡ Connected [] → LeavesSafe turns old mid part
  unfolding begun_here
  of_waiting waits =
      let P : ChipData → Type 0 = λ c. MayPutBelieving c MayBe intent turns in
      ⊎_elim (λ (none : NoneIs MayBe). of_none (no_weak none)) (λ (c : IsOfCalm d turns). left c)
      (of_calm d MayBe intent turns is (subst P (sym same) may))
    where
      no_weak : NoneIs MayBe → NoneIsWeak old
      no_weak none n lt weak =
          none n (among n (subst (λ (c : ChipData). n < page_count c) (sym can.chip ∙ same) lt)
          weak)

      has : Has d.chip d.codes [] old
      has = record {
        same_chip = sym can.chip;
        same_codes = sym can.codes;
        same_phase = waits;
      }

      left : IsOfCalm d turns → LeavesSafe turns old mid part
      left c =
          let further = begins_further (fed_bytes part.happenings) (sent_bytes turns) c.frame
          part.begins c.begins in
          record {
            unread = (begun turns old mid d chip MayBe intent same is can among may (begun_here waits)).0;
            safe = λ byte small. inl (frame_left d.chip d.codes c.frame byte part.happenings old mid
                further.0 c.calm small part.no_reset further.1 has part.led).calm;
            ready = λ whole refusal. inr (⊎_elim (λ (r : IsRefusedDialogue turns). refusal r)
                (λ (all : sent_bytes turns ≡ c.frame).
                (frame_left d.chip d.codes c.frame 0 part.happenings old mid [] c.calm
                (omega arith) part.no_reset
                (append-nil (fed_bytes part.happenings) ∙ whole ∙ all) has part.led).waits refl)
                c.whole);
            heals = λ whole n lt e weak. healed d old mid n turns is can
                (subst (λ (c : ChipData). n < page_count c) (sym can.chip) lt)
                (record { begun = begun_here waits; whole = whole })
                (e ∙ ap (λ (c : ChipData). erase_turns c.kind n) (sym can.chip)) weak;
          }

  pub leaves_safe : IsReadyFor old → LeavesSafe turns old mid part
  leaves_safe (inl none) = of_none none
  leaves_safe (inr waits) = of_waiting waits

-- what has no list that reads, has none that is loose
pub tame_in : (chip : ChipData) (codes : List ℕ) (byte : ℕ) (p : Phase) → IsCalmIn chip codes byte p
    → IsTameIn chip codes byte p
tame_in chip codes byte (Connected rest) calm = λ k. (calm k).0
tame_in chip codes byte p calm = tt

pub stopped_is_tame : StoppedIsTame
stopped_is_tame old mid d may_be intent turns byte n small is can waits weak may part =
    ⊎_elim (λ (none : NoneIs (λ m. IsTrue (may_be m))). absurd (none n weak))
    (λ (c : IsOfCalm d turns).
    (let further = begins_further (fed_bytes part.happenings) (sent_bytes turns) c.frame part.begins
    c.begins in
    tame_in mid.device.chip mid.device.codes byte mid.device.phase
    (frame_left d.chip d.codes c.frame byte part.happenings old mid further.0 c.calm small
    part.no_reset further.1
    (record {
      same_chip = sym can.chip;
      same_codes = sym can.codes;
      same_phase = waits;
    }) part.led).calm))
    (of_calm d (λ m. IsTrue (may_be m)) intent turns is may)
