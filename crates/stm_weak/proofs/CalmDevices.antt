-- A device that was stopped in a frame, or waits, and how it is settled: no byte of that reads a
-- weak page.
use Rattle.std.proofs.Common.{◌≡◌, ℕ, ◌<◌, Bool, true, false, ◌==◌, if◌then◌else◌, List, [], ◌∷◌}
use Rattle.std.proofs.Common.{◌++◌, Option, Some, None, refl, sym, ◌∙◌, ap, subst, arith}
use Rattle.stm_wire.specs.declared.verdict.Verdict.{Verdict}
use Rattle.stm_wire.specs.declared.verdict.Verdict.TheVariants.{Done, Refused, Loose}
use Rattle.stm_wire.proofs.Names.{ack, ChipData, Connected, Device, flash_size, Fresh, Gone, Phase, phase_after, Receives, Takes, verdict}
use Rattle.stm_wire.specs.lemmas.PageLaws.{page_within}
use Rattle.stm_weak.specs.WeakDevice.{NoneIsWeak, ReadsPlace, ReadsWeak, WeakDevice, WeakFeeds}
use Rattle.stm_weak.proofs.Agreeing.{weak_exists}
use Rattle.stm_weak.proofs.Calm.{IsCalmRest, calm_nothing, calm_on}

-- what it has is calm for this byte
abbrev pub IsCalmIn : ChipData → List ℕ → ℕ → Phase → Type 0
IsCalmIn chip codes byte Fresh = Unit {0}
IsCalmIn chip codes byte (Connected rest) = IsCalmRest chip codes byte rest
IsCalmIn chip codes byte Gone = Unit {0}

abbrev pub IsCalmDevice : ℕ → Device → Type 0
IsCalmDevice byte d = IsCalmIn d.chip d.codes byte d.phase

abbrev pub IsCalm : ℕ → WeakDevice → Type 0
IsCalm byte w = IsCalmDevice byte w.device

calm_after : (chip : ChipData) (codes : List ℕ) (byte : ℕ) (bytes : List ℕ)
    → IsCalmIn chip codes byte (phase_after bytes)
calm_after chip codes byte [] = calm_nothing chip codes byte
calm_after chip codes byte (code ∷ rest) = by (code == 0x21)
  where
    by : (t : Bool) → IsCalmIn chip codes byte (if t then Gone else Connected [])
    by true = tt
    by false = calm_nothing chip codes byte

calm_takes : (byte : ℕ) (now new : Device) (bytes : List ℕ) (v : Option Verdict)
    → IsCalmRest now.chip now.codes byte bytes → (v ≡ Some Loose → ⊥) → Takes now bytes v new
    → IsCalmDevice byte new
calm_takes byte now new bytes None on never e = subst (IsCalmDevice byte) (sym e) on
calm_takes byte now new bytes (Some Refused) on never e =
    subst (IsCalmDevice byte) (sym e) (calm_nothing now.chip now.codes byte)
calm_takes byte now new bytes (Some Done) on never (flash, effect, e) =
    subst (IsCalmDevice byte) (sym e) (calm_after now.chip now.codes byte bytes)
calm_takes byte now new bytes (Some Loose) on never e = absurd (never refl)

calm_receives : (byte : ℕ) (now new : Device) (p : Phase) → IsCalmDevice byte now
    → IsCalmIn now.chip now.codes byte p → Receives now p byte new → IsCalmDevice byte new
calm_receives byte now new Fresh was calm e = by (byte == 0x7F) e
  where
    by : (t : Bool) → new ≡ (if t
        then record now { owed = now.owed ++ ack ∷ []; phase = Connected [] } else now)
        → IsCalmDevice byte new
    by true e = subst (IsCalmDevice byte) (sym e) (calm_nothing now.chip now.codes byte)
    by false e = subst (IsCalmDevice byte) (sym e) was
calm_receives byte now new Gone was calm e = subst (IsCalmDevice byte) (sym e) was
calm_receives byte now new (Connected rest) was calm takes =
    calm_takes byte now new (rest ++ byte ∷ []) (verdict now.chip now.codes (rest ++ byte ∷ []))
    (calm_on now.chip now.codes byte rest calm) ((calm 0).0) takes

calm_as_now : (byte : ℕ) (w mid : WeakDevice) → (feeds : WeakFeeds byte w mid) → (own : ℕ)
    → IsCalm own w → IsCalmDevice own feeds.now
calm_as_now byte w mid feeds own calm =
    let now = feeds.now in
    let can = feeds.can_be in
    let P : Phase → Type 0 = λ p. IsCalmIn w.device.chip w.device.codes own p in
    let Q : List ℕ → Type 0 = λ k. IsCalmIn w.device.chip k own now.phase in
    let S : ChipData → Type 0 = λ c. IsCalmIn c now.codes own now.phase in
    subst S (sym can.chip) (subst Q (sym can.codes) (subst P (sym can.phase) calm))

-- so it stays, fed with the byte
pub calm_fed : (byte : ℕ) (w mid : WeakDevice) → IsCalm byte w → WeakFeeds byte w mid
    → IsCalm byte mid
calm_fed byte w mid calm feeds =
    let at = calm_as_now byte w mid feeds byte calm in
    calm_receives byte feeds.now mid.device feeds.now.phase at at feeds.feeds.receives

-- a fresh device is so behind any byte
fresh_receives : (byte own : ℕ) (now new : Device) → now.phase ≡ Fresh
    → Receives now Fresh byte new → IsCalmDevice own new
fresh_receives byte own now new fresh e = by (byte == 0x7F) e
  where
    by : (t : Bool) → new ≡ (if t
        then record now { owed = now.owed ++ ack ∷ []; phase = Connected [] } else now)
        → IsCalmDevice own new
    by true e = subst (IsCalmDevice own) (sym e) (calm_nothing now.chip now.codes own)
    by false e =
        let P : Phase → Type 0 = λ p. IsCalmIn now.chip now.codes own p in
        subst (IsCalmDevice own) (sym e) (subst P (sym fresh) tt)

pub fresh_fed : (byte own : ℕ) (w mid : WeakDevice) → w.device.phase ≡ Fresh
    → WeakFeeds byte w mid → IsCalm own mid
fresh_fed byte own w mid fresh feeds =
    let at : feeds.now.phase ≡ Fresh = feeds.can_be.phase ∙ fresh in
    let P : Phase → Type 0 = λ p. Receives feeds.now p byte mid.device in
    fresh_receives byte own feeds.now mid.device at (subst P at feeds.feeds.receives)

-- The byte completes no read of a weak page.

pub calm_unread : (byte : ℕ) (w : WeakDevice) → IsCalm byte w → ReadsWeak byte w → ⊥
calm_unread byte w calm (bytes, place, completes, reads, weak) =
    let P : Phase → Type 0 = λ p. IsCalmIn w.device.chip w.device.codes byte p in
    let R : List ℕ → Type 0 = λ xs. ReadsPlace w.device.chip xs place in
    let here : IsCalmRest w.device.chip w.device.codes byte completes.rest =
    subst P completes.phase calm in
    let inside : place < flash_size w.device.chip =
    let h = page_within w.device.chip.sizes weak.page in omega (arith, weak.to) in
    (here 0).1 place
    (ap (λ xs. verdict w.device.chip w.device.codes xs) (sym completes.is) ∙ completes.done) inside
    (subst R completes.is reads)

pub fresh_unread : (byte : ℕ) (w : WeakDevice) → w.device.phase ≡ Fresh → ReadsWeak byte w → ⊥
fresh_unread byte w fresh r =
    let h : Fresh ≡ Connected r.2.rest = sym fresh ∙ r.2.phase in absurd (cc)

pub sound_unread : (byte : ℕ) (w : WeakDevice) → NoneIsWeak w → ReadsWeak byte w → ⊥
sound_unread byte w none r =
    none r.4.page (weak_exists w.device.chip w.weak r.1 r.4) r.4.is
