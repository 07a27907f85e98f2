-- A device with weak pages, fed a byte, and an ordinary one that it can be taken for.
use Rattle.std.proofs.Common.{◌≡◌, ◌⊎◌, ⊎_elim, inl, inr, ℕ, Bool, List, [], ◌∷◌, ◌++◌, Option}
use Rattle.std.proofs.Common.{Some, None, refl, sym, ◌∙◌, ap, subst, IsTrue}
use Rattle.stm_wire.specs.declared.verdict.Verdict.{Verdict}
use Rattle.stm_wire.specs.declared.verdict.Verdict.TheVariants.{Done, Refused, Loose}
use Rattle.stm_wire.proofs.Names.{change_of, ChipData, Connected, Device, Feeds, IsDevice, Phase, verdict}
use Rattle.stm_weak.specs.WeakDevice.{AgreesOutside, CanBe, Completes, ErasesPage, Heals}
use Rattle.stm_weak.specs.WeakDevice.{WeakDevice}
use Rattle.stm_weak.specs.WeakLaws.{FedAsOrdinary}
use Rattle.stm_weak.proofs.Agreeing.{agrees_both}
use Rattle.stm_weak.proofs.Feeding.{IsHealed, IsHealedIn, IsUnread, IsUnreadIn, IsWeakList}
use Rattle.stm_weak.proofs.Feeding.{receives_alongside, with_flash}

unread_in : (chip : ChipData) (codes : List ℕ) (weak : ℕ → Bool) (byte : ℕ) (p : Phase)
    → ((rest : List ℕ) → p ≡ Connected rest → verdict chip codes (rest ++ byte ∷ []) ≡ Some Done
    → IsWeakList chip weak (rest ++ byte ∷ []) → ⊥)
    → IsUnreadIn chip codes weak byte p
unread_in chip codes weak byte (Connected rest) unread = by
    (verdict chip codes (rest ++ byte ∷ [])) refl
  where
    by : (v : Option Verdict) → verdict chip codes (rest ++ byte ∷ []) ≡ v
        → IsUnread chip weak (rest ++ byte ∷ []) v
    by None e = tt
    by (Some Refused) e = tt
    by (Some Done) e = unread rest refl e
    by (Some Loose) e = tt
unread_in chip codes weak byte p unread = tt

healed_in : (chip : ChipData) (codes : List ℕ) (byte n : ℕ) (p : Phase) (rest : List ℕ)
    → p ≡ Connected rest → verdict chip codes (rest ++ byte ∷ []) ≡ Some Done
    → ErasesPage (change_of (rest ++ byte ∷ [])) n → IsHealedIn chip codes byte n p
healed_in chip codes byte n p rest at done erases =
    let P : Phase → Type 0 = λ x. IsHealedIn chip codes byte n x in
    let Q : Option Verdict → Type 0 = λ v. IsHealed (rest ++ byte ∷ []) n v in
    subst P (sym at) (subst Q (sym done) erases)

-- the ordinary device is the one that was fed, with its own flash
beside : (w : WeakDevice) (now d : Device) → CanBe w now → CanBe w d → d ≡ with_flash d.flash now
beside w now d n o =
    let make : ChipData → ℕ → List ℕ → List ℕ → Phase
    → Device = λ chip version codes owed phase. record {
      chip = chip;
      version = version;
      codes = codes;
      flash = d.flash;
      owed = owed;
      phase = phase;
    } in
    ap (λ c. make c d.version d.codes d.owed d.phase) (o.chip ∙ sym n.chip)
    ∙ ap (λ v. make now.chip v d.codes d.owed d.phase) (o.version ∙ sym n.version)
    ∙ ap (λ k. make now.chip now.version k d.owed d.phase) (o.codes ∙ sym n.codes)
    ∙ ap (λ x. make now.chip now.version now.codes x d.phase) (o.owed ∙ sym n.owed)
    ∙ ap (λ p. make now.chip now.version now.codes now.owed p) (o.phase ∙ sym n.phase)

completes_at : (byte : ℕ) (w : WeakDevice) (now : Device) (rest : List ℕ) → CanBe w now
    → now.phase ≡ Connected rest → verdict now.chip now.codes (rest ++ byte ∷ []) ≡ Some Done
    → Completes byte w.device (rest ++ byte ∷ [])
completes_at byte w now rest can at done = record {
  rest = rest;
  phase = sym can.phase ∙ at;
  is = refl;
  done = ap (λ c. verdict c w.device.codes (rest ++ byte ∷ [])) (sym can.chip)
      ∙ ap (λ k. verdict now.chip k (rest ++ byte ∷ [])) (sym can.codes) ∙ done;
}

heals_at : (byte n : ℕ) (w : WeakDevice) (now : Device) → CanBe w now → Heals byte w.device n
    → IsHealedIn now.chip now.codes byte n now.phase
heals_at byte n w now can (bytes, c, erases) =
    let P : List ℕ → Type 0 = λ x. ErasesPage (change_of x) n in
    healed_in now.chip now.codes byte n now.phase c.rest (can.phase ∙ c.phase)
    (ap (λ k. verdict k now.codes (c.rest ++ byte ∷ [])) can.chip
    ∙ ap (λ k. verdict w.device.chip k (c.rest ++ byte ∷ [])) can.codes
    ∙ ap (λ x. verdict w.device.chip w.device.codes x) (sym c.is) ∙ c.done)
    (subst P c.is erases)

pub fed_as_ordinary : FedAsOrdinary
fed_as_ordinary byte old new d small is can feeds unread =
    let now = feeds.now in
    let n = feeds.can_be in
    let flash = d.flash in
    let same = beside old now d n can in
    let P : Device → Type 0 = λ x. (e : Device) × Feeds byte x e × CanBe new e × IsDevice e in
    let A : ChipData → Type 0 = λ c. AgreesOutside c old.weak now.flash flash in
    let agrees : AgreesOutside now.chip old.weak now.flash flash = subst A (sym n.chip)
    (agrees_both old.device.chip old.weak old.device.flash now.flash flash n.flash can.flash) in
    let is_now : IsDevice (with_flash flash now) = subst IsDevice same is in
    let unread_now : (rest : List ℕ) → now.phase ≡ Connected rest
    → verdict now.chip now.codes (rest ++ byte ∷ []) ≡ Some Done
    → IsWeakList now.chip old.weak (rest ++ byte ∷ []) → ⊥ =
    λ rest at done w.
    let W : ChipData → Type 0 = λ c. IsWeakList c old.weak (rest ++ byte ∷ []) in
    let there = subst W n.chip w in
    unread (rest ++ byte ∷ [], there.0, completes_at byte old now rest n at done, there.1, there.2)
    in
    let stays : (m : ℕ) → IsTrue (old.weak m) → IsTrue (new.weak m)
    ⊎ IsHealedIn now.chip now.codes byte m now.phase =
    λ m w. ⊎_elim (λ (x : IsTrue (new.weak m)). inl x)
    (λ (h : Heals byte old.device m). inr (heals_at byte m old now n h)) (feeds.stays m w) in
    let r = receives_alongside old.weak new.weak now flash is_now agrees byte now.phase new.device
    small is_now.phase (unread_in now.chip now.codes old.weak byte now.phase unread_now) stays
    feeds.feeds.receives in
    subst P (sym same) (
      with_flash r.0 new.device,
      record { receives = r.1 },
      record {
        chip = refl;
        version = refl;
        codes = refl;
        owed = refl;
        phase = refl;
        flash = r.2;
        bytes = r.3.flash;
      },
      r.3,
    )
