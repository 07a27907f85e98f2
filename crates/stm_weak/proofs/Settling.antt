-- A device that was reset is settled with no byte that completes a read.
use Rattle.std.proofs.Common.{◌≡◌, ◌⊎◌, ⊎_elim, inl, inr, ℕ, zero, suc, Bool, true, false, ◌==◌}
use Rattle.std.proofs.Common.{if◌then◌else◌, List, [], ◌∷◌, ◌++◌, refl, sym, ◌∙◌, ap, subst}
use Rattle.std.proofs.lemmas.Bool.{eqb-false, eqb-true}
use Rattle.stm_wire.proofs.Names.{ack, ChipData, Connected, Device, Fresh, Phase, Receives, settling_run}
use Rattle.stm_weak.specs.WeakDevice.{ReadsWeak, WeakDevice, WeakFeeds}
use Rattle.stm_weak.specs.WeakFrames.{FreshSettlingIsUnread}
use Rattle.stm_weak.specs.WeakRuns.{Feed, WeakHappening, HasNoReset, IsUnread, Reset, Take}
use Rattle.stm_weak.specs.WeakRuns.{WeakBefall, fed_bytes}
use Rattle.stm_weak.proofs.Unread.{Has, HasBefore, IsSilentAlong, LeavesRest, unread_from}

-- what follows the first 7F reads nothing
abbrev IsSilentOnce : ChipData → List ℕ → List ℕ → Type 0
IsSilentOnce chip codes [] = Unit {0}
IsSilentOnce chip codes (byte ∷ more) =
    (byte ≡ 0x7F → IsSilentAlong chip codes [] more)
    × ((byte ≡ 0x7F → ⊥) → IsSilentOnce chip codes more)

-- 7F after 7F is refused

one_left : (chip : ChipData) (codes more : List ℕ)
    → LeavesRest chip codes (0x7F ∷ []) (0x7F ∷ []) more
one_left chip codes [] = tt
one_left chip codes (byte ∷ more) = inl (refl, refl)

pair_refused : (chip : ChipData) (codes more : List ℕ)
    → LeavesRest chip codes (0x7F ∷ 0x7F ∷ []) [] more
pair_refused chip codes [] = tt
pair_refused chip codes (byte ∷ more) = inr (refl, refl)

-- behind none, and behind one
abbrev AreSilent : ChipData → List ℕ → List ℕ → Type 0
AreSilent chip codes bytes =
    IsSilentAlong chip codes [] bytes × IsSilentAlong chip codes (0x7F ∷ []) bytes

one_more : (chip : ChipData) (codes bytes : List ℕ) → AreSilent chip codes bytes
    → AreSilent chip codes (0x7F ∷ bytes)
one_more chip codes bytes both = (
  (λ p e lt r. r, (0x7F ∷ [], one_left chip codes bytes, both.1)),
  (λ p e lt r. r.1, ([], pair_refused chip codes bytes, both.0)),
)

all_silent : (chip : ChipData) (codes : List ℕ) (limit : ℕ)
    → AreSilent chip codes (settling_run 0x7F limit)
all_silent chip codes zero =
    one_more chip codes (0x7F ∷ 0x7F ∷ [])
    (one_more chip codes (0x7F ∷ []) (one_more chip codes [] (tt, tt)))
all_silent chip codes (suc k) =
    one_more chip codes (settling_run 0x7F k) (all_silent chip codes k)

run_silent : (chip : ChipData) (codes : List ℕ) (byte limit : ℕ)
    → IsSilentOnce chip codes (settling_run byte limit)
run_silent chip codes byte zero = (
  λ _. (λ p e lt r. r, (byte ∷ [], inl (refl, refl), (λ p e lt r. r.1, ([], tt, tt)))),
  λ other. absurd (other refl),
)
run_silent chip codes byte (suc k) = (
  λ same. (let P : ℕ → Type 0 = λ b. IsSilentAlong chip codes [] (settling_run b k) in
      subst P (sym same) (all_silent chip codes k).0),
  λ other. run_silent chip codes byte k,
)

-- of this make, and fresh
record IsFreshOf (chip : ChipData) (codes : List ℕ) (w : WeakDevice) : Type 0 where
  same_chip : w.device.chip ≡ chip
  same_codes : w.device.codes ≡ codes
  same_phase : w.device.phase ≡ Fresh

fed_fresh : (chip : ChipData) (codes : List ℕ) (byte : ℕ) (w mid : WeakDevice)
    → IsFreshOf chip codes w → WeakFeeds byte w mid
    → ((byte ≡ 0x7F) × Has chip codes [] mid) ⊎ ((byte ≡ 0x7F → ⊥) × IsFreshOf chip codes mid)
fed_fresh chip codes byte w mid is feeds =
    let P : Phase → Type 0 = λ p. Receives feeds.now p byte mid.device in
    by (byte == 0x7F) refl (subst P (feeds.can_be.phase ∙ is.same_phase) feeds.feeds.receives)
  where
    by : (t : Bool) → (byte == 0x7F) ≡ t
        → mid.device ≡ (if t
        then record feeds.now { owed = feeds.now.owed ++ ack ∷ []; phase = Connected [] }
        else feeds.now)
        → ((byte ≡ 0x7F) × Has chip codes [] mid) ⊎ ((byte ≡ 0x7F → ⊥) × IsFreshOf chip codes mid)
    by true t e =
        inl (
          eqb-true byte 0x7F t,
          record {
            same_chip = ap (λ (d : Device). d.chip) e ∙ feeds.can_be.chip ∙ is.same_chip;
            same_codes = ap (λ (d : Device). d.codes) e ∙ feeds.can_be.codes ∙ is.same_codes;
            same_phase = ap (λ (d : Device). d.phase) e;
          },
        )
    by false t e =
        inr (
          eqb-false byte 0x7F t,
          record {
            same_chip = ap (λ (d : Device). d.chip) e ∙ feeds.can_be.chip ∙ is.same_chip;
            same_codes = ap (λ (d : Device). d.codes) e ∙ feeds.can_be.codes ∙ is.same_codes;
            same_phase = ap (λ (d : Device). d.phase) e ∙ feeds.can_be.phase ∙ is.same_phase;
          },
        )

fresh_unread : (chip : ChipData) (codes : List ℕ) (byte : ℕ) (w : WeakDevice)
    → IsFreshOf chip codes w → ReadsWeak byte w → ⊥
fresh_unread chip codes byte w is r =
    let h : Fresh ≡ Connected r.2.rest = sym is.same_phase ∙ r.2.phase in absurd (cc)

has_before : (chip : ChipData) (codes bytes : List ℕ) (w : WeakDevice) → Has chip codes [] w
    → HasBefore chip codes [] bytes w
has_before chip codes [] w has = tt
has_before chip codes (byte ∷ bytes) w has = has

fresh_from : (chip : ChipData) (codes : List ℕ) (happenings : List WeakHappening) (w new : WeakDevice)
    (rest more : List ℕ) → HasNoReset happenings → rest ≡ fed_bytes happenings ++ more
    → IsFreshOf chip codes w → IsSilentOnce chip codes rest
    → (led : WeakBefall happenings w new) → IsUnread happenings w new led
fresh_from chip codes [] w new rest more no_reset is fresh silent led = tt
fresh_from chip codes (Take n ∷ happenings) w new rest more no_reset is fresh silent
    (mid, now, led) =
    fresh_from chip codes happenings mid new rest more no_reset is
    (record {
      same_chip = ap (λ (d : Device). d.chip) now.device ∙ fresh.same_chip;
      same_codes = ap (λ (d : Device). d.codes) now.device ∙ fresh.same_codes;
      same_phase = ap (λ (d : Device). d.phase) now.device ∙ fresh.same_phase;
    })
    silent led
fresh_from chip codes (Reset ∷ happenings) w new rest more no_reset is fresh silent led =
    absurd no_reset
fresh_from chip codes (Feed byte ∷ happenings) w new rest more no_reset is fresh silent
    (mid, feeds, led) =
    let after = fed_bytes happenings ++ more in
    let S : List ℕ → Type 0 = λ x. IsSilentOnce chip codes x in
    let once : IsSilentOnce chip codes (byte ∷ after) = subst S is silent in (
      fresh_unread chip codes byte w fresh,
      ⊎_elim
          (λ (c : (byte ≡ 0x7F) × Has chip codes [] mid).
          unread_from chip codes happenings mid new [] after more no_reset refl
          (has_before chip codes after mid c.1) (once.0 c.0) led)
          (λ (c : (byte ≡ 0x7F → ⊥) × IsFreshOf chip codes mid).
          fresh_from chip codes happenings mid new after more no_reset refl c.1 (once.1 c.0) led)
          (fed_fresh chip codes byte w mid fresh feeds),
    )

pub fresh_settling_is_unread : FreshSettlingIsUnread
fresh_settling_is_unread happenings old new byte limit fresh (rest, begins) no_reset led =
    let d = old.device in
    fresh_from d.chip d.codes happenings old new (settling_run byte limit) rest no_reset (sym begins)
    (record { same_chip = refl; same_codes = refl; same_phase = fresh })
    (run_silent d.chip d.codes byte limit) led
