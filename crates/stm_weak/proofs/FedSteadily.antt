-- A byte of settling that is fed to a device with no loose list: what it leaves.
use Rattle.std.proofs.Common.{◌≡◌, ◌⊎◌, inl, inr, ℕ, suc, Bool, true, false, ◌==◌, if◌then◌else◌}
use Rattle.std.proofs.Common.{List, [], ◌∷◌, ◌++◌, replicate, Option, Some, None, refl, sym, ◌∙◌}
use Rattle.std.proofs.Common.{subst, append_assoc}
use Rattle.stm_wire.specs.declared.verdict.Verdict.{Verdict}
use Rattle.stm_wire.specs.declared.verdict.Verdict.TheVariants.{Done, Refused, Loose}
use Rattle.stm_wire.proofs.Names.{ack, ChipData, Connected, Device, Fresh, Gone, Phase, phase_after, Receives, Takes, verdict}
use Rattle.stm_weak.specs.SettledBatches.{IsTameFor, IsTameIn}
use Rattle.stm_weak.specs.WeakDevice.{WeakDevice, WeakFeeds}
use Rattle.stm_weak.proofs.Calm.{calm_nothing}
use Rattle.stm_weak.proofs.ShortReplies.{IsRepeating, OwesLittle, little, little_fresh}

-- no list by which the byte goes on with what it has is loose
abbrev pub IsTameDevice : ℕ → Device → Type 0
IsTameDevice byte d = IsTameIn d.chip d.codes byte d.phase

tame_nothing : (chip : ChipData) (codes : List ℕ) (byte : ℕ) → IsTameIn chip codes byte (Connected [])
tame_nothing chip codes byte k = (calm_nothing chip codes byte k).0

tame_after : (chip : ChipData) (codes : List ℕ) (byte : ℕ) (bytes : List ℕ)
    → IsTameIn chip codes byte (phase_after bytes) × IsRepeating byte (phase_after bytes)
tame_after chip codes byte [] = (tame_nothing chip codes byte, inl refl)
tame_after chip codes byte (code ∷ rest) = by (code == 0x21)
  where
    by : (t : Bool) → IsTameIn chip codes byte (if t then Gone else Connected [])
        × IsRepeating byte (if t then Gone else Connected [])
    by true = (tt, tt)
    by false = (tame_nothing chip codes byte, inl refl)

-- it stays tame, and the byte is the last that came
abbrev pub Steady : ℕ → Device → Type 0
Steady byte d = IsTameDevice byte d × IsRepeating byte d.phase

steady_takes : (byte : ℕ) (now new : Device) (rest : List ℕ) (v : Option Verdict)
    → IsTameIn now.chip now.codes byte (Connected rest) → (v ≡ Some Loose → ⊥)
    → Takes now (rest ++ byte ∷ []) v new → Steady byte new
steady_takes byte now new rest None tame never e =
    subst (Steady byte) (sym e) (
      λ k. (let P : List ℕ → Type 0 = λ xs. verdict now.chip now.codes xs ≡ Some Loose → ⊥ in
          subst P (sym (append_assoc rest (byte ∷ []) (replicate (suc k) byte))) (tame (suc k))),
      inr (rest, refl),
    )
steady_takes byte now new rest (Some Refused) tame never e =
    subst (Steady byte) (sym e) (tame_nothing now.chip now.codes byte, inl refl)
steady_takes byte now new rest (Some Done) tame never (flash, effect, e) =
    subst (Steady byte) (sym e) (tame_after now.chip now.codes byte (rest ++ byte ∷ []))
steady_takes byte now new rest (Some Loose) tame never e = absurd (never refl)

steady_fresh : (byte own : ℕ) (now new : Device) → now.phase ≡ Fresh → Receives now Fresh own new
    → Steady byte new
steady_fresh byte own now new fresh e = by (own == 0x7F) e
  where
    by : (t : Bool) → new ≡ (if t
        then record now { owed = now.owed ++ ack ∷ []; phase = Connected [] } else now)
        → Steady byte new
    by true e = subst (Steady byte) (sym e) (tame_nothing now.chip now.codes byte, inl refl)
    by false e =
        let P : Phase → Type 0 = λ p. IsTameIn now.chip now.codes byte p × IsRepeating byte p in
        subst (Steady byte) (sym e) (subst P (sym fresh) (tt, tt))

steady_receives : (byte : ℕ) (now new : Device) (p : Phase) → now.phase ≡ p
    → IsTameIn now.chip now.codes byte p → Receives now p byte new → Steady byte new
steady_receives byte now new Fresh is tame e = steady_fresh byte byte now new is e
steady_receives byte now new Gone is tame e =
    let P : Phase → Type 0 = λ p. IsTameIn now.chip now.codes byte p × IsRepeating byte p in
    subst (Steady byte) (sym e) (subst P (sym is) (tt, tt))
steady_receives byte now new (Connected rest) is tame t =
    steady_takes byte now new rest (verdict now.chip now.codes (rest ++ byte ∷ [])) tame
    (λ e. tame 0 e) t

tame_now : (byte own : ℕ) (w mid : WeakDevice) (feeds : WeakFeeds own w mid) → IsTameFor byte w
    → IsTameDevice byte feeds.now
tame_now byte own w mid feeds tame =
    let now = feeds.now in
    let can = feeds.can_be in
    let P : Phase → Type 0 = λ p. IsTameIn w.device.chip w.device.codes byte p in
    let Q : List ℕ → Type 0 = λ k. IsTameIn w.device.chip k byte now.phase in
    let S : ChipData → Type 0 = λ c. IsTameIn c now.codes byte now.phase in
    subst S (sym can.chip) (subst Q (sym can.codes) (subst P (sym can.phase) tame))

pub fed_steady : (byte own : ℕ) (w mid : WeakDevice) → (own ≡ byte) ⊎ (w.device.phase ≡ Fresh)
    → WeakFeeds own w mid → IsTameFor byte w → Steady byte mid.device
fed_steady byte own w mid (inl same) feeds tame =
    let P : ℕ → Type 0 = λ b. WeakFeeds b w mid in
    let f = subst P same feeds in
    steady_receives byte f.now mid.device f.now.phase refl (tame_now byte byte w mid f tame)
    f.feeds.receives
fed_steady byte own w mid (inr fresh) feeds tame =
    let at : feeds.now.phase ≡ Fresh = feeds.can_be.phase ∙ fresh in
    let P : Phase → Type 0 = λ p. Receives feeds.now p own mid.device in
    steady_fresh byte own feeds.now mid.device at (subst P at feeds.feeds.receives)

pub fed_little : (byte own : ℕ) (w mid : WeakDevice) → (own ≡ byte) ⊎ (w.device.phase ≡ Fresh)
    → WeakFeeds own w mid → Steady byte w.device → w.device.owed ≡ [] → OwesLittle mid.device
fed_little byte own w mid (inl same) feeds steady nothing =
    let P : ℕ → Type 0 = λ b. WeakFeeds b w mid in
    let f = subst P same feeds in
    let R : Phase → Type 0 = λ p. IsRepeating byte p in
    little byte f.now mid.device (f.can_be.owed ∙ nothing) f.now.phase
    (subst R (sym f.can_be.phase) steady.1) (tame_now byte byte w mid f steady.0) f.feeds.receives
fed_little byte own w mid (inr fresh) feeds steady nothing =
    let at : feeds.now.phase ≡ Fresh = feeds.can_be.phase ∙ fresh in
    let P : Phase → Type 0 = λ p. Receives feeds.now p own mid.device in
    little_fresh byte feeds.now mid.device (feeds.can_be.owed ∙ nothing) own
    (subst P at feeds.feeds.receives)
