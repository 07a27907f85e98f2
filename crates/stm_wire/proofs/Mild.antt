-- A device is harmless for a byte where every list that its rest can grow to by that byte has a verdict that fits.
use Rattle.std.proofs.Common.{◌≡◌, ℕ, zero, suc, ◌-◌, true, false, ◌&&◌, eqb, List, [], ◌∷◌, ◌++◌, length, replicate, refl, sym, ap, ◌∙◌, subst, arith, append_assoc, Option, Some, None}
use Rattle.std.specs.Prelude.{⊤}
use Rattle.std.proofs.lemmas.Bool.{cond_both, eqb-true}
use Rattle.std.proofs.lemmas.List.{append-nil}
use Rattle.stm_wire.proofs.Names.{ack, at_end, change_of, ChipData, command_verdict, complement, Connected, Device, Disturbance, Feed, flash_size, Fresh, Gone, Harmless, is_listed, IsListening}
use Rattle.stm_wire.proofs.Names.{IsUnharmed, Phase, phase_after, Reaches, Receives, Reset, reset, SameOutside, Takes, Verdict, verdict}
use Rattle.stm_wire.specs.declared.verdict.Verdict.TheVariants.{Done, Refused, Loose}
use Rattle.stm_wire.proofs.Flash.{IsConfined, same_flash, then_same, effect_within}

-- a device with this verdict on these bytes stays connected, and its flash is the same outside the pages
abbrev pub Fits : ChipData → List ℕ → List ℕ → Option Verdict → Type 0
Fits chip pages bytes None = ⊤
Fits chip pages bytes (Some Refused) = ⊤
Fits chip pages bytes (Some Done) = (phase_after bytes ≡ Connected []) × IsConfined chip pages (change_of bytes)
Fits chip pages bytes (Some Loose) = ⊥

abbrev pub FitsAll : ChipData → List ℕ → List ℕ → List ℕ → Type 0
FitsAll chip codes pages bytes = Fits chip pages bytes (verdict chip codes bytes)

-- whatever number of the byte follows the rest, the verdict fits
abbrev pub Mild : ChipData → List ℕ → ℕ → List ℕ → List ℕ → Type 0
Mild chip codes byte pages rest = (k : ℕ) → FitsAll chip codes pages (rest ++ replicate k byte)

abbrev pub Tame : ChipData → List ℕ → ℕ → List ℕ → Phase → Type 0
Tame chip codes byte pages Fresh = ⊤
Tame chip codes byte pages (Connected rest) = Mild chip codes byte pages rest
Tame chip codes byte pages Gone = ⊥

pub fits_end : (chip : ChipData) (pages bytes : List ℕ) (v : Verdict) → Fits chip pages bytes (Some v) → (rest : List ℕ) → Fits chip pages bytes (at_end v rest)
fits_end chip pages bytes v f [] = f
fits_end chip pages bytes v f (x ∷ rest) = tt

-- after a pair: refused where it is wrong or its code isn't listed
pub after_pair : (chip : ChipData) (codes pages : List ℕ) (c x : ℕ) (rest : List ℕ) → Fits chip pages (c ∷ x ∷ rest) (command_verdict chip c rest) → FitsAll chip codes pages (c ∷ x ∷ rest)
after_pair chip codes pages c x rest f =
    cond_both (eqb x (complement c) && is_listed codes c) (command_verdict chip c rest) (at_end Refused rest) (Fits chip pages (c ∷ x ∷ rest))
    (λ _. f) (λ _. fits_end chip pages (c ∷ x ∷ rest) Refused tt rest)

-- a byte is never its own complement
pub no_pair : (b : ℕ) → eqb b (complement b) ≡ false
no_pair b = elim (eqb b (complement b)) as (λ t. eqb b (complement b) ≡ t → eqb b (complement b) ≡ false)
    [ true ↦ λ e. absurd (let h : b ≡ 255 - b = eqb-true b (255 - b) e in omega arith) | false ↦ λ e. e ] refl

-- so two equal bytes are refused
pub mild_empty : (chip : ChipData) (codes : List ℕ) (byte : ℕ) (pages : List ℕ) → Mild chip codes byte pages []
mild_empty chip codes byte pages zero = tt
mild_empty chip codes byte pages (suc zero) = tt
mild_empty chip codes byte pages (suc (suc k)) = rw (no_pair byte) (fits_end chip pages (byte ∷ byte ∷ replicate k byte) Refused tt (replicate k byte))

pub mild_more : (chip : ChipData) (codes : List ℕ) (byte : ℕ) (pages rest : List ℕ) → Mild chip codes byte pages rest → Mild chip codes byte pages (rest ++ byte ∷ [])
mild_more chip codes byte pages rest m k = subst (FitsAll chip codes pages) (sym (append_assoc rest (byte ∷ []) (replicate k byte))) (m (suc k))

-- a rest is mild where it fits and is mild with one byte more
pub mild_less : (chip : ChipData) (codes : List ℕ) (byte : ℕ) (pages rest : List ℕ) → FitsAll chip codes pages rest → Mild chip codes byte pages (rest ++ byte ∷ []) → Mild chip codes byte pages rest
mild_less chip codes byte pages rest f m zero = rw append-nil f
mild_less chip codes byte pages rest f m (suc k) = subst (FitsAll chip codes pages) (append_assoc rest (byte ∷ []) (replicate k byte)) (m k)

-- the device has gone on, and stays so
pub record Goes (byte : ℕ) (pages : List ℕ) (old new : Device) : Type 0 where
  pub same_chip : new.chip ≡ old.chip
  pub phase : Tame new.chip new.codes byte pages new.phase
  pub flash : SameOutside old.chip pages old.flash new.flash

taken : (byte : ℕ) (pages : List ℕ) (old new : Device) (bytes : List ℕ) → length old.flash ≡ flash_size old.chip →
    Mild old.chip old.codes byte pages bytes → (v : Option Verdict) → Fits old.chip pages bytes v → Takes old bytes v new → Goes byte pages old new
taken byte pages old new bytes size m None f e =
    subst (Goes byte pages old) (sym e) (record { same_chip = refl; phase = m; flash = same_flash old.chip pages old.flash old.flash refl })
taken byte pages old new bytes size m (Some Refused) f e =
    subst (Goes byte pages old) (sym e) (record { same_chip = refl; phase = mild_empty old.chip old.codes byte pages; flash = same_flash old.chip pages old.flash old.flash refl })
taken byte pages old new bytes size m (Some Done) f (flash, effect, e) =
    subst (Goes byte pages old) (sym e) (record {
      same_chip = refl;
      phase = subst (Tame old.chip old.codes byte pages) (sym f.0) (mild_empty old.chip old.codes byte pages);
      flash = effect_within old.chip pages (change_of bytes) old.flash flash size f.1 effect;
    })
taken byte pages old new bytes size m (Some Loose) f e = absurd f

received : (byte : ℕ) (pages : List ℕ) (old new : Device) → length old.flash ≡ flash_size old.chip → (phase : Phase) →
    Tame old.chip old.codes byte pages phase → Tame old.chip old.codes byte pages old.phase → Receives old phase byte new → Goes byte pages old new
received byte pages old new size Fresh t t' e =
    subst (Goes byte pages old) (sym e) (cond_both (eqb byte 0x7F) (record old { owed = old.owed ++ ack ∷ []; phase = Connected [] }) old (Goes byte pages old)
    (λ _. record { same_chip = refl; phase = mild_empty old.chip old.codes byte pages; flash = same_flash old.chip pages old.flash old.flash refl })
    (λ _. record { same_chip = refl; phase = t'; flash = same_flash old.chip pages old.flash old.flash refl }))
received byte pages old new size (Connected rest) t t' r =
    taken byte pages old new (rest ++ byte ∷ []) size (mild_more old.chip old.codes byte pages rest t) (verdict old.chip old.codes (rest ++ byte ∷ [])) (t 1) r
received byte pages old new size Gone t t' r = absurd t

listening : (chip : ChipData) (codes : List ℕ) (byte : ℕ) (pages : List ℕ) (phase : Phase) → Tame chip codes byte pages phase → IsListening phase
listening chip codes byte pages Fresh t = tt
listening chip codes byte pages (Connected rest) t = tt
listening chip codes byte pages Gone t = t

pub unharmed : (byte : ℕ) (pages : List ℕ) (d : Device) → length d.flash ≡ flash_size d.chip → Tame d.chip d.codes byte pages d.phase →
    (events : List Disturbance) (new : Device) → Reaches byte events d new → IsUnharmed d pages new
unharmed byte pages d size t [] new e =
    subst (IsUnharmed d pages) (sym e) (record { phase = listening d.chip d.codes byte pages d.phase t; flash = same_flash d.chip pages d.flash d.flash refl })
unharmed byte pages d size t (Feed ∷ events) new (mid, feeds, reaches) =
    let goes = received byte pages d mid size d.phase t t feeds.receives in
    let after = unharmed byte pages mid (goes.flash.same_length ∙ size ∙ ap flash_size (sym goes.same_chip)) goes.phase events new reaches in
    record {
      phase = after.phase;
      flash = then_same d.chip pages d.flash mid.flash new.flash goes.flash (subst (λ (c : ChipData). SameOutside c pages mid.flash new.flash) goes.same_chip after.flash);
    }
unharmed byte pages d size t (Reset ∷ events) new reaches =
    let after = unharmed byte pages (reset d) size tt events new reaches in record { phase = after.phase; flash = after.flash }

pub harmless : (byte : ℕ) (pages : List ℕ) (d : Device) → length d.flash ≡ flash_size d.chip → Tame d.chip d.codes byte pages d.phase → Harmless d byte pages
harmless byte pages d size t = record { each = unharmed byte pages d size t }
