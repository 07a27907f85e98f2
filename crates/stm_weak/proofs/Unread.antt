-- Bytes that follow one another, of which none completes a read.
use Rattle.std.proofs.Common.{◌≡◌, ◌⊎◌, inl, inr, ℕ, ◌<◌, List, [], ◌∷◌, ◌++◌, drop, Option, Some}
use Rattle.std.proofs.Common.{None, refl, sym, ◌∙◌, ap, subst, arith}
use Rattle.stm_wire.specs.declared.verdict.Verdict.{Verdict}
use Rattle.stm_wire.specs.declared.verdict.Verdict.TheVariants.{Done, Refused}
use Rattle.stm_wire.proofs.Names.{ChipData, Connected, Device, flash_size, Phase, Receives, Takes, verdict}
use Rattle.stm_wire.specs.lemmas.PageLaws.{page_within}
use Rattle.stm_weak.specs.WeakDevice.{CanBe, IsWeakAt, ReadsPlace, ReadsWeak, WeakDevice, WeakFeeds}
use Rattle.stm_weak.specs.WeakRuns.{Feed, WeakHappening, HasNoReset, IsNow, IsUnread, Reset, Take}
use Rattle.stm_weak.specs.WeakRuns.{WeakBefall, fed_bytes}

-- the first byte isn't that of a read
abbrev pub IsNoRead : List ℕ → Type 0
IsNoRead [] = Unit {0}
IsNoRead (byte ∷ bytes) = byte ≡ 0x11 → ⊥

-- while these follow what came, no verdict comes before the last of them
abbrev pub IsOpenTo : ChipData → List ℕ → List ℕ → List ℕ → Type 0
IsOpenTo chip codes done [] = Unit {0}
IsOpenTo chip codes done (byte ∷ []) = Unit {0}
IsOpenTo chip codes done (byte ∷ next ∷ more) = (verdict chip codes (done ++ byte ∷ []) ≡ None)
    × IsOpenTo chip codes (done ++ byte ∷ []) (next ∷ more)

-- these bytes are no list that is done and reads a place of the flash
abbrev pub IsSilent : ChipData → List ℕ → List ℕ → Type 0
IsSilent chip codes bytes = (place : ℕ) → verdict chip codes bytes ≡ Some Done
    → place < flash_size chip → ReadsPlace chip bytes place → ⊥

-- what it has once more is to come: these bytes, or none where they are refused
abbrev pub LeavesRest : ChipData → List ℕ → List ℕ → List ℕ → List ℕ → Type 0
LeavesRest chip codes bytes next [] = Unit {0}
LeavesRest chip codes bytes next (byte ∷ more) = ((verdict chip codes bytes ≡ None)
    × (next ≡ bytes)) ⊎ ((verdict chip codes bytes ≡ Some Refused) × (next ≡ []))

-- while these follow what came, each byte reads nothing
abbrev pub IsSilentAlong : ChipData → List ℕ → List ℕ → List ℕ → Type 0
IsSilentAlong chip codes done [] = Unit {0}
IsSilentAlong chip codes done (byte ∷ more) =
    IsSilent chip codes (done ++ byte ∷ []) × ((next : List ℕ)
    × LeavesRest chip codes (done ++ byte ∷ []) next more × IsSilentAlong chip codes next more)

-- it is of this make, and has these bytes
pub record Has (chip : ChipData) (codes done : List ℕ) (w : WeakDevice) : Type 0 where
  pub same_chip : w.device.chip ≡ chip
  pub same_codes : w.device.codes ≡ codes
  pub same_phase : w.device.phase ≡ Connected done

-- where more is to come
abbrev pub HasBefore : ChipData → List ℕ → List ℕ → List ℕ → WeakDevice → Type 0
HasBefore chip codes done [] w = Unit {0}
HasBefore chip codes done (byte ∷ more) w = Has chip codes done w

rest_of : Phase → List ℕ
rest_of (Connected rest) = rest
rest_of x = []

same_rest : (a b : List ℕ) → Connected a ≡ Connected b → a ≡ b
unfolding rest_of
same_rest a b e = ap rest_of e

code_of_read : (chip : ChipData) (code : ℕ) (bytes : List ℕ) (place : ℕ)
    → ReadsPlace chip (code ∷ bytes) place → code ≡ 0x11
code_of_read chip code (check ∷ rest) place (is, here) = is
code_of_read chip code [] place r = absurd r

no_read : (chip : ChipData) (done : List ℕ) (byte : ℕ) (more : List ℕ) (place : ℕ)
    → IsNoRead (done ++ byte ∷ more) → ReadsPlace chip (done ++ byte ∷ []) place → ⊥
no_read chip [] byte more place other reads = absurd reads
no_read chip (code ∷ done) byte more place other reads = other
    (code_of_read chip code (done ++ byte ∷ []) place reads)

no_read_on : (done : List ℕ) (byte : ℕ) (more : List ℕ) → IsNoRead (done ++ byte ∷ more)
    → IsNoRead ((done ++ byte ∷ []) ++ more)
no_read_on [] byte more other = other
no_read_on (code ∷ done) byte more other = other

pub silent_along : (chip : ChipData) (codes done bytes : List ℕ) → IsOpenTo chip codes done bytes
    → IsNoRead (done ++ bytes) → IsSilentAlong chip codes done bytes
silent_along chip codes done [] waits other = tt
silent_along chip codes done (byte ∷ []) waits other =
    (λ place e lt reads. no_read chip done byte [] place other reads, ([], tt, tt))
silent_along chip codes done (byte ∷ next ∷ more) waits other = (
  λ place e lt reads. no_read chip done byte (next ∷ more) place other reads,
  (
    done ++ byte ∷ [],
    inl (waits.0, refl),
    silent_along chip codes (done ++ byte ∷ [])
        (next ∷ more) waits.1 (no_read_on done byte (next ∷ more) other),
  ),
)

byte_unread : (chip : ChipData) (codes done : List ℕ) (byte : ℕ) (w : WeakDevice)
    → Has chip codes done w → IsSilent chip codes (done ++ byte ∷ []) → ReadsWeak byte w → ⊥
byte_unread chip codes done byte w has silent (bytes, place, completes, reads, weak) =
    let whole = done ++ byte ∷ [] in
    let same : bytes ≡ whole = completes.is ∙ ap (λ xs. xs ++ byte ∷ [])
    (same_rest completes.rest done (sym completes.phase ∙ has.same_phase)) in
    let P : List ℕ → Type 0 = λ x. ReadsPlace chip x place in
    let Q : ChipData → Type 0 = λ c. ReadsPlace c bytes place in
    let R : ChipData → Type 0 = λ c. IsWeakAt c w.weak place in
    let at : IsWeakAt chip w.weak place = subst R has.same_chip weak in
    let inside : place < flash_size chip = let h = page_within chip.sizes at.page
    in omega (arith, at.to) in
    let v : verdict chip codes whole ≡ Some Done = ap (λ c. verdict c codes whole)
    (sym has.same_chip) ∙ ap (λ k. verdict w.device.chip k whole) (sym has.same_codes)
    ∙ ap (λ xs. verdict w.device.chip w.device.codes xs) (sym same) ∙ completes.done in
    silent place v inside (subst P same (subst Q has.same_chip reads))

pub has_taken : (chip : ChipData) (codes done rest : List ℕ) (n : ℕ) (w mid : WeakDevice)
    → HasBefore chip codes done rest w → IsNow (record w.device { owed = drop n w.device.owed }) w
    mid → HasBefore chip codes done rest mid
has_taken chip codes done [] n w mid has now = tt
has_taken chip codes done (byte ∷ more) n w mid has now = record {
  same_chip = ap (λ (d : Device). d.chip) now.device ∙ has.same_chip;
  same_codes = ap (λ (d : Device). d.codes) now.device ∙ has.same_codes;
  same_phase = ap (λ (d : Device). d.phase) now.device ∙ has.same_phase;
}

pub has_fed : (chip : ChipData) (codes done : List ℕ) (byte : ℕ) (w mid : WeakDevice)
    → Has chip codes done w → WeakFeeds byte w mid → verdict chip codes (done ++ byte ∷ []) ≡ None
    → Has chip codes (done ++ byte ∷ []) mid
has_fed chip codes done byte w mid has feeds none =
    let now = feeds.now in
    let bytes = done ++ byte ∷ [] in
    let P : Phase → Type 0 = λ p. Receives now p byte mid.device in
    let Q : Option Verdict → Type 0 = λ v. Takes now bytes v mid.device in
    let chip_is : now.chip ≡ chip = feeds.can_be.chip ∙ has.same_chip in
    let codes_is : now.codes ≡ codes = feeds.can_be.codes ∙ has.same_codes in
    let open' : verdict now.chip now.codes bytes ≡ None = ap
    (λ c. verdict c now.codes bytes) chip_is ∙ ap (λ k. verdict chip k bytes) codes_is ∙ none in
    let takes : Takes now bytes None mid.device = subst Q open'
    (subst P (feeds.can_be.phase ∙ has.same_phase) feeds.feeds.receives) in
    record {
      same_chip = ap (λ (d : Device). d.chip) takes ∙ chip_is;
      same_codes = ap (λ (d : Device). d.codes) takes ∙ codes_is;
      same_phase = ap (λ (d : Device). d.phase) takes;
    }

has_refused : (chip : ChipData) (codes done : List ℕ) (byte : ℕ) (w mid : WeakDevice)
    → Has chip codes done w → WeakFeeds byte w mid → verdict chip codes
    (done ++ byte ∷ []) ≡ Some Refused → Has chip codes [] mid
has_refused chip codes done byte w mid has feeds none =
    let now = feeds.now in
    let bytes = done ++ byte ∷ [] in
    let P : Phase → Type 0 = λ p. Receives now p byte mid.device in
    let Q : Option Verdict → Type 0 = λ v. Takes now bytes v mid.device in
    let chip_is : now.chip ≡ chip = feeds.can_be.chip ∙ has.same_chip in
    let codes_is : now.codes ≡ codes = feeds.can_be.codes ∙ has.same_codes in
    let refused : verdict now.chip now.codes bytes ≡ Some Refused = ap
    (λ c. verdict c now.codes bytes) chip_is ∙ ap (λ k. verdict chip k bytes) codes_is ∙ none in
    let takes : Takes now bytes (Some Refused) mid.device = subst Q refused
    (subst P (feeds.can_be.phase ∙ has.same_phase) feeds.feeds.receives) in
    record {
      same_chip = ap (λ (d : Device). d.chip) takes ∙ chip_is;
      same_codes = ap (λ (d : Device). d.codes) takes ∙ codes_is;
      same_phase = ap (λ (d : Device). d.phase) takes;
    }

has_on : (chip : ChipData) (codes done : List ℕ) (byte : ℕ) (next more : List ℕ)
    (w mid : WeakDevice) → Has chip codes done w → WeakFeeds byte w mid
    → LeavesRest chip codes (done ++ byte ∷ []) next more → HasBefore chip codes next more mid
has_on chip codes done byte next [] w mid has feeds leaves = tt
has_on chip codes done byte next (b ∷ more) w mid has feeds (inl (none, same)) =
    let P : List ℕ → Type 0 = λ x. Has chip codes x mid in
    subst P (sym same) (has_fed chip codes done byte w mid has feeds none)
has_on chip codes done byte next (b ∷ more) w mid has feeds (inr (refused, same)) =
    let P : List ℕ → Type 0 = λ x. Has chip codes x mid in
    subst P (sym same) (has_refused chip codes done byte w mid has feeds refused)

pub unread_from : (chip : ChipData) (codes : List ℕ) (happenings : List WeakHappening)
    (w new : WeakDevice) (done rest more : List ℕ) → HasNoReset happenings
    → rest ≡ fed_bytes happenings ++ more → HasBefore chip codes done rest w
    → IsSilentAlong chip codes done rest
    → (led : WeakBefall happenings w new) → IsUnread happenings w new led
unread_from chip codes [] w new done rest more no_reset is has silent led = tt
unread_from chip codes (Take n ∷ happenings) w new done rest more no_reset is has silent
    (mid, now, led) =
    unread_from chip codes happenings mid new done rest more no_reset is
    (has_taken chip codes done rest n w mid has now) silent led
unread_from chip codes (Reset ∷ happenings) w new done rest more no_reset is has silent led = absurd
    no_reset
unread_from chip codes (Feed byte ∷ happenings) w new done rest more no_reset is has silent
    (mid, feeds, led) =
    let after = fed_bytes happenings ++ more in
    let H : List ℕ → Type 0 = λ x. HasBefore chip codes done x w in
    let S : List ℕ → Type 0 = λ x. IsSilentAlong chip codes done x in
    let here : Has chip codes done w = subst H is has in
    let along : IsSilentAlong chip codes done (byte ∷ after) = subst S is silent in
    let on = has_on chip codes done byte along.1.0 after w mid here feeds along.1.1 in (
      byte_unread chip codes done byte w here along.0,
      unread_from chip codes happenings mid new along.1.0 after more no_reset refl on along.1.2
          led,
    )

pub has_at_first : (w : WeakDevice) (d : Device) (frame : List ℕ) → CanBe w d
    → d.phase ≡ Connected [] → HasBefore d.chip d.codes [] frame w
has_at_first w d [] can waits = tt
has_at_first w d (byte ∷ more) can waits = record {
  same_chip = sym can.chip;
  same_codes = sym
      can.codes;
  same_phase = sym can.phase ∙ waits;
}
