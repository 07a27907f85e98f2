-- A device is settled: no byte of that reads a weak page.
use Rattle.std.proofs.Common.{◌≡◌, ◌⊎◌, inl, inr, ⊎_elim, ℕ, ◌<◌, List, [], ◌∷◌, drop, IsTrue}
use Rattle.std.proofs.Common.{Contains, sym, ap, subst}
use Rattle.stm_wire.proofs.Names.{ChipData, Device, Fresh, page_count, reset}
use Rattle.stm_weak.specs.WeakDevice.{NoneIsWeak, ReadsWeak, WeakDevice, WeakFeeds}
use Rattle.stm_weak.specs.WeakEvents.{NoneBecomesWeak}
use Rattle.stm_weak.specs.WeakRuns.{Feed, HasNoReset, IsNow, IsUnread, Reset, Take, WeakBefall}
use Rattle.stm_weak.specs.WeakRuns.{WeakHappening}
use Rattle.stm_weak.specs.WeakSettling.{IsFedAlone}
use Rattle.stm_weak.proofs.CalmDevices.{IsCalm, IsCalmIn, calm_fed, calm_unread, fresh_fed}
use Rattle.stm_weak.proofs.CalmDevices.{fresh_unread, sound_unread}
use Rattle.stm_weak.proofs.SameChip.{chip_fed}

-- no page is weak, and none becomes so
pub still_none : (old new : WeakDevice) → new.device.chip ≡ old.device.chip
    → ((n : ℕ) → IsTrue (new.weak n) → IsTrue (old.weak n)) → NoneIsWeak old → NoneIsWeak new
still_none old new same sound none n lt weak =
    let P : ChipData → Type 0 = λ c. n < page_count c in
    none n (subst P same lt) (sound n weak)

-- It is settled:

-- no page is weak, or what it has is calm
abbrev pub IsSafeFor : ℕ → WeakDevice → Type 0
IsSafeFor byte w = IsCalm byte w ⊎ NoneIsWeak w

calm_now : (byte : ℕ) (old new : WeakDevice) (d : Device) → new.device ≡ d
    → IsCalmIn d.chip d.codes byte d.phase → IsCalm byte new
calm_now byte old new d e calm =
    let P : Device → Type 0 = λ x. IsCalmIn x.chip x.codes byte x.phase in
    subst P (sym e) calm

-- with owed bytes taken
pub safe_taken : (byte k : ℕ) (old new : WeakDevice)
    → IsNow (record old.device { owed = drop k old.device.owed }) old new
    → ((n : ℕ) → IsTrue (new.weak n) → IsTrue (old.weak n)) → IsSafeFor byte old
    → IsSafeFor byte new
safe_taken byte k old new now sound (inl calm) =
    inl (calm_now byte old new (record old.device { owed = drop k old.device.owed }) now.device
    calm)
safe_taken byte k old new now sound (inr none) =
    inr (still_none old new (ap (λ (d : Device). d.chip) now.device) sound none)

-- and as it lost its power
pub safe_reset : (byte : ℕ) (old new : WeakDevice) → IsNow (reset old.device) old new
    → IsSafeFor byte new
safe_reset byte old new now = inl (calm_now byte old new (reset old.device) now.device tt)

safe_fed : (byte own : ℕ) (old new : WeakDevice) → WeakFeeds own old new
    → ((n : ℕ) → IsTrue (new.weak n) → IsTrue (old.weak n))
    → (own ≡ byte) ⊎ (old.device.phase ≡ Fresh) → IsSafeFor byte old → IsSafeFor byte new
safe_fed byte own old new feeds sound (inr fresh) safe = inl (fresh_fed own byte old new fresh feeds)
safe_fed byte own old new feeds sound (inl same) (inl calm) =
    let P : ℕ → Type 0 = λ b. WeakFeeds b old new in
    inl (calm_fed byte old new calm (subst P same feeds))
safe_fed byte own old new feeds sound (inl same) (inr none) =
    inr (still_none old new (chip_fed own old new feeds) sound none)

safe_unread : (byte own : ℕ) (old : WeakDevice) → (own ≡ byte) ⊎ (old.device.phase ≡ Fresh)
    → IsSafeFor byte old → ReadsWeak own old → ⊥
safe_unread byte own old (inr fresh) safe = fresh_unread own old fresh
safe_unread byte own old (inl same) (inl calm) =
    let P : ℕ → Type 0 = λ b. ReadsWeak b old → ⊥ in
    subst P (sym same) (calm_unread byte old calm)
safe_unread byte own old (inl same) (inr none) = sound_unread own old none

pub settled_unread : (byte : ℕ) (pages : List ℕ) (happenings : List WeakHappening)
    (old new : WeakDevice) → IsSafeFor byte old → (led : WeakBefall happenings old new)
    → IsFedAlone byte pages happenings old new led → IsUnread happenings old new led
settled_unread byte pages [] old new safe led alone = tt
settled_unread byte pages (Feed own ∷ more) old new safe (mid, feeds, led) (how, sound, alone) = (
  safe_unread byte own old how safe,
  settled_unread byte pages more mid new (safe_fed byte own old mid feeds sound how safe) led alone,
)
settled_unread byte pages (Take k ∷ more) old new safe (mid, now, led) (sound, alone) =
    settled_unread byte pages more mid new (safe_taken byte k old mid now sound safe) led alone
settled_unread byte pages (Reset ∷ more) old new safe (mid, now, led) (sound, alone) =
    settled_unread byte pages more mid new (safe_reset byte old mid now) led alone

-- and stays safe
pub settled_safe : (byte : ℕ) (pages : List ℕ) (happenings : List WeakHappening)
    (old new : WeakDevice) → IsSafeFor byte old → (led : WeakBefall happenings old new)
    → IsFedAlone byte pages happenings old new led → IsSafeFor byte new
settled_safe byte pages [] old new safe led alone = subst (IsSafeFor byte) (sym led) safe
settled_safe byte pages (Feed own ∷ more) old new safe (mid, feeds, led) (how, sound, alone) =
    settled_safe byte pages more mid new (safe_fed byte own old mid feeds sound how safe) led alone
settled_safe byte pages (Take k ∷ more) old new safe (mid, now, led) (sound, alone) =
    settled_safe byte pages more mid new (safe_taken byte k old mid now sound safe) led alone
settled_safe byte pages (Reset ∷ more) old new safe (mid, now, led) (sound, alone) =
    settled_safe byte pages more mid new (safe_reset byte old mid now) led alone

-- and no page is weak that wasn't, but those at risk
pub settled_sound : (byte : ℕ) (pages : List ℕ) (happenings : List WeakHappening)
    (old new : WeakDevice) → (led : WeakBefall happenings old new)
    → IsFedAlone byte pages happenings old new led → (n : ℕ) → IsTrue (new.weak n)
    → IsTrue (old.weak n) ⊎ Contains pages n
settled_sound byte pages [] old new led alone n weak =
    inl (subst (λ (w : WeakDevice). IsTrue (w.weak n)) led weak)
settled_sound byte pages (Feed own ∷ more) old new (mid, feeds, led) (how, sound, alone) n weak =
    ⊎_elim (λ (w : IsTrue (mid.weak n)). inl (sound n w)) (λ c. inr c)
    (settled_sound byte pages more mid new led alone n weak)
settled_sound byte pages (Take k ∷ more) old new (mid, now, led) (sound, alone) n weak =
    ⊎_elim (λ (w : IsTrue (mid.weak n)). inl (sound n w)) (λ c. inr c)
    (settled_sound byte pages more mid new led alone n weak)
settled_sound byte pages (Reset ∷ more) old new (mid, now, led) (sound, alone) n weak =
    ⊎_elim (λ (w : IsTrue (mid.weak n)). sound n w) (λ c. inr c)
    (settled_sound byte pages more mid new led alone n weak)

-- While no page is weak, and none becomes so, all is unread.
pub none_along : (happenings : List WeakHappening) (old new : WeakDevice)
    → HasNoReset happenings → (led : WeakBefall happenings old new)
    → NoneBecomesWeak happenings old new led → NoneIsWeak old
    → IsUnread happenings old new led × NoneIsWeak new
none_along [] old new no_reset led sound none = (tt, subst NoneIsWeak (sym led) none)
none_along (Feed byte ∷ more) old new no_reset (mid, feeds, led) sound none =
    let still = still_none old mid (chip_fed byte old mid feeds) (λ n w. (sound.0 n w).0) none in
    let rest = none_along more mid new no_reset led sound.1 still in
    ((sound_unread byte old none, rest.0), rest.1)
none_along (Take k ∷ more) old new no_reset (mid, now, led) sound none =
    let still = still_none old mid (ap (λ (d : Device). d.chip) now.device) sound.0 none in
    none_along more mid new no_reset led sound.1 still
none_along (Reset ∷ more) old new no_reset led sound none = absurd no_reset
