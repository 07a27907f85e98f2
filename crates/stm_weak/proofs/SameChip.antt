-- The chip is the same all along.
use Rattle.std.proofs.Common.{Bool, true, false, ◌==◌, if◌then◌else◌, ◌≡◌, ℕ, List, [], ◌∷◌, ◌++◌}
use Rattle.std.proofs.Common.{Option, Some, ◌∙◌, ap}
use Rattle.stm_wire.specs.declared.verdict.Verdict.{Verdict}
use Rattle.stm_wire.specs.declared.verdict.Verdict.TheVariants.{Done, Loose}
use Rattle.stm_wire.proofs.Names.{ack, Connected, Device, Fresh, Gone, Phase, Receives, Takes, verdict}
use Rattle.stm_weak.specs.WeakDevice.{WeakDevice, WeakFeeds}
use Rattle.stm_weak.specs.WeakRuns.{Feed, Reset, Take, WeakBefall, WeakHappening}

chip_taken : (old new : Device) (bytes : List ℕ) (v : Option Verdict) → Takes old bytes v new
    → new.chip ≡ old.chip
chip_taken old new bytes (Some Done) (flash, effect, e) = ap (λ (d : Device). d.chip) e
chip_taken old new bytes (Some Loose) l = l.chip
chip_taken old new bytes v e = ap (λ (d : Device). d.chip) e

chip_received : (byte : ℕ) (old new : Device) (phase : Phase) → Receives old phase byte new
    → new.chip ≡ old.chip
chip_received byte old new Fresh e = by (byte == 0x7F) e
  where
    by : (t : Bool) → new ≡
        (if t then record old { owed = old.owed ++ ack ∷ []; phase = Connected [] } else old)
        → new.chip ≡ old.chip
    by true e = ap (λ (d : Device). d.chip) e
    by false e = ap (λ (d : Device). d.chip) e
chip_received byte old new (Connected rest) r = chip_taken old new (rest ++ byte ∷ [])
    (verdict old.chip old.codes (rest ++ byte ∷ [])) r
chip_received byte old new Gone e = ap (λ (d : Device). d.chip) e

pub chip_fed : (byte : ℕ) (old new : WeakDevice) → WeakFeeds byte old new
    → new.device.chip ≡ old.device.chip
chip_fed byte old new f = chip_received byte f.now new.device f.now.phase f.feeds.receives
    ∙ f.can_be.chip

pub chip_along : (happenings : List WeakHappening) (old new : WeakDevice) → WeakBefall happenings old new
    → new.device.chip ≡ old.device.chip
chip_along [] old new led = ap (λ (w : WeakDevice). w.device.chip) led
chip_along (Feed byte ∷ more) old new (mid, feeds, led) = chip_along more mid new led
    ∙ chip_fed byte old mid feeds
chip_along (Take k ∷ more) old new (mid, now, led) = chip_along more mid new led
    ∙ ap (λ (d : Device). d.chip) now.device
chip_along (Reset ∷ more) old new (mid, now, led) = chip_along more mid new led
    ∙ ap (λ (d : Device). d.chip) now.device
