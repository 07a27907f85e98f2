-- What a read of weak places may answer, and what an erase frame heals.
use Rattle.std.proofs.Common.{◌≡◌, ◌⊎◌, inl, inr, ℕ, ◌+◌, ◌-◌, ◌/◌, ◌%◌, ◌<◌, ◌≤◌, Bool, true, ◌&&◌}
use Rattle.std.proofs.Common.{◌==◌, nat_lt, List, [], ◌∷◌, ◌++◌, length, take, drop, Option, Some}
use Rattle.std.proofs.Common.{IsTrue, All, refl, sym, ◌∙◌, ap, ap₂, subst, arith, eq-eqb, lt-ltb}
use Rattle.std.proofs.lemmas.Bool.{cases_lt, or_left}
use Rattle.stm_wire.specs.declared.chip.EraseKind.{EraseKind}
use Rattle.stm_wire.specs.declared.chip.EraseKind.TheVariants.{Page, Extended}
use Rattle.stm_wire.specs.declared.verdict.Verdict.{Verdict}
use Rattle.stm_wire.specs.declared.verdict.Verdict.TheVariants.{Done}
use Rattle.stm_wire.proofs.Names.{ack, address_bytes, answer, can_read, change_of, ChipData, complement, Connected, Device, done_if, Effect, erase_frame, Feeds, fits_inside, is_inside, is_listed}
use Rattle.stm_wire.proofs.Names.{is_readable, IsDevice, ListsKind, page_count, pair_of, Phase, phase_after, read_frame, read_verdict, readable_bytes, Receives, reply_of, reply_to, Takes, verdict}
use Rattle.stm_wire.proofs.Names.{with_bytes, with_checksum, xor}
use Rattle.stm_wire.specs.lemmas.PageLaws.{fits-end, length-with_bytes, put_here}
use Rattle.stm_weak.specs.WeakDevice.{AgreesOutside, CanBe, ErasesPage, Heals, IsWeakAt, WeakDevice}
use Rattle.stm_weak.specs.WeakDevice.{WeakFeeds}
use Rattle.stm_weak.specs.WeakMeaning.{EraseHeals, ReadsAnything}
use Rattle.stm_weak.proofs.Agreeing.{put_beside}
use Rattle.stm_weak.proofs.Effects.{IsByte, bytes-with_bytes}
use Rattle.stm_weak.proofs.Feeding.{with_flash}
use Rattle.stm_weak.proofs.Openness.{after_right, inside_if_fits, same_number, verdict_listed}

readable_if_inside : (chip : ChipData) (address : ℕ) → IsTrue (is_inside chip address)
    → IsTrue (is_readable chip address)
unfolding is_readable
readable_if_inside chip address inside = or_left (is_inside chip address) _ inside

can_read_if_fits : (chip : ChipData) (address size : ℕ) → IsTrue (fits_inside chip address size)
    → IsTrue (can_read chip address size)
unfolding can_read
can_read_if_fits chip address size fits = or_left (fits_inside chip address size) _ fits

read_done : (chip : ChipData) (codes : List ℕ) (address size : ℕ) → IsTrue (is_listed codes 0x11)
    → 1 ≤ size → IsTrue (fits_inside chip address size)
    → verdict chip codes (read_frame address size) ≡ Some Done
read_done chip codes address size listed some fits =
    let n = size - 1 in
    let P : ℕ → Type 0 = λ m. Some
    (done_if (complement n == complement n && can_read chip address m)) ≡ Some Done in
    let choose : Bool → Bool → Option Verdict = λ x y. Some (done_if (x && y)) in
    let e : size ≡ n + 1 = omega (arith, some) in
    verdict_listed chip codes 0x11 (with_checksum (address_bytes address) ++ n ∷ complement n ∷ [])
    listed
    ∙ after_right (is_readable chip) (read_verdict chip) address (n ∷ complement n ∷ [])
    (readable_if_inside chip address (inside_if_fits chip address size some fits))
    ∙ subst P e (ap₂ choose (eq-eqb (complement n) (complement n) refl)
    (can_read_if_fits chip address size fits))

told_flash : (chip : ChipData) (flash : List ℕ) (address n : ℕ)
    → IsTrue (fits_inside chip address n) → readable_bytes chip flash address n ≡ take n
    (drop (address - chip.base) flash)
told_flash chip flash address n fits = rw fits refl

module _ (w : WeakDevice) (d : Device) (rest : List ℕ) (byte address : ℕ) (told : List ℕ)
    (is : IsDevice d) (can : CanBe w d) (waits : d.phase ≡ Connected rest)
    (frame : rest ++ byte ∷ [] ≡ read_frame address (length told))
    (some : 1 ≤ length told) (fits : IsTrue (fits_inside d.chip address (length told)))
    (weak : (place : ℕ) → address ≤ d.chip.base + place
    → d.chip.base + place < address + length told → IsWeakAt d.chip w.weak place)
    (small : All IsByte told) where
  abbrev at : ℕ
  at = address - d.chip.base

  abbrev flash : List ℕ
  flash = with_bytes at told d.flash

  abbrev bytes : List ℕ
  bytes = rest ++ byte ∷ []

  holds : at + length told ≤ length d.flash
  holds = let e = fits-end d.chip address (length told) fits in omega (arith, e.0, e.1, is.size)

  agrees : AgreesOutside w.device.chip w.weak w.device.flash flash
  agrees = record {
    same_length = length-with_bytes at told d.flash holds ∙ can.flash.same_length;
    elsewhere = λ place out. put_beside at told d.flash place holds
        (by place out (cases_lt place at) (cases_lt place (at + length told)))
        ∙ can.flash.elsewhere place out;
  }
    where
      by : (place : ℕ) → (IsWeakAt w.device.chip w.weak place → ⊥) → (place < at) ⊎ (at ≤ place)
          → (place < at + length told) ⊎ (at + length told ≤ place) → (place < at)
          ⊎ (at + length told ≤ place)
      by place out (inl before) _ = inl before
      by place out (inr from) (inr behind) = inr behind
      by place out (inr from) (inl to) =
          let e = fits-end d.chip address (length told) fits in
          let W : ChipData → Type 0 = λ c. IsWeakAt c w.weak place in
          absurd (out (subst W can.chip (weak place (omega (arith, from, e.0))
          (omega (arith, to, e.0)))))

  can_be_now : CanBe w (with_flash flash d)
  can_be_now = record {
    chip = can.chip;
    version = can.version;
    codes = can.codes;
    owed = can.owed;
    phase = can.phase;
    flash = agrees;
    bytes = bytes-with_bytes at told d.flash small is.flash;
  }

  done : verdict d.chip d.codes bytes ≡ Some Done
  done = ap (λ xs. verdict d.chip d.codes xs) frame
      ∙ read_done d.chip d.codes address (length told) is.read some fits

  effect : Effect d.chip (change_of bytes) flash flash
  effect = let P : List ℕ → Type 0 = λ xs. Effect d.chip (change_of xs) flash flash
      in subst P (sym frame) refl

  answered : readable_bytes d.chip flash address (length told) ≡ told
  answered = told_flash d.chip flash address (length told) fits ∙ put_here at told d.flash holds

  answer_told : answer d.chip d.version d.codes flash (read_frame address (length told)) ≡ told
  answer_told =
      let n = length told - 1 in
      let one : n + 1 ≡ length told = omega (arith, some) in
      ap₂ (λ a m. readable_bytes d.chip flash a m) (same_number address) one ∙ answered

  replied : reply_of (with_flash flash d) bytes ≡ ack ∷ told
  replied = ap (λ v. reply_to v d.chip d.version d.codes flash bytes) done
      ∙ ap (λ (xs : List ℕ). ack ∷ answer d.chip d.version d.codes flash xs) frame
      ∙ ap (λ (xs : List ℕ). ack ∷ xs) answer_told

  left : Device
  left = record d {
    flash = flash;
    owed = d.owed ++ reply_of
        (with_flash flash d) bytes;
    phase = phase_after bytes;
  }

  feeds : Feeds byte (with_flash flash d) left
  unfolding left
  feeds =
      let P : Phase → Type 0 = λ p. Receives (with_flash flash d) p byte left in
      let Q : Option Verdict → Type 0 = λ v. Takes (with_flash flash d) bytes v left in
      record { receives = subst P (sym waits) (subst Q (sym done) (flash, effect, refl)) }

  read_anything : (new : WeakDevice) × WeakFeeds byte w new
      × (new.device.owed ≡ d.owed ++ ack ∷ told)
  unfolding left
  read_anything = (
    record { device = left; weak = w.weak },
    record {
      now = with_flash flash d;
      can_be = can_be_now;
      feeds = feeds;
      stays = λ n is_weak. inl
          is_weak;
    },
    ap (λ (xs : List ℕ). d.owed ++ xs) replied,
  )

pub reads_anything : ReadsAnything
reads_anything w d rest byte address told is can waits frame some fits weak small = read_anything w
    d rest byte address told is can waits frame some fits weak small

erase_done : (chip : ChipData) (codes : List ℕ) (kind : EraseKind) (n : ℕ) → ListsKind kind codes
    → n < page_count chip → verdict chip codes (erase_frame kind n) ≡ Some Done
erase_done chip codes Page n lists exists =
    let check = xor (0 ∷ n ∷ []) in
    let choose : Bool → Bool → Option Verdict = λ x y. Some (done_if (x && (y && true))) in
    verdict_listed chip codes 0x43 (with_checksum (0 ∷ n ∷ [])) lists.0
    ∙ ap₂ choose (eq-eqb check check refl) (lt-ltb n (page_count chip) exists)
erase_done chip codes Extended n lists exists =
    let check = xor (0 ∷ 0 ∷ n / 256 ∷ n % 256 ∷ []) in
    let choose : Bool → Bool → Option Verdict = λ x y. Some (done_if (x && (y && true))) in
    let there : IsTrue (nat_lt (pair_of (n / 256) (n % 256)) (page_count chip)) = lt-ltb
    (pair_of (n / 256) (n % 256)) (page_count chip) (omega (arith, exists)) in
    verdict_listed chip codes 0x44 (with_checksum (0 ∷ 0 ∷ n / 256 ∷ n % 256 ∷ [])) lists.0
    ∙ ap₂ choose (eq-eqb check check refl) there

erases_page : (kind : EraseKind) (n : ℕ) → ErasesPage (change_of (erase_frame kind n)) n
erases_page Page n = (0, omega arith, refl)
erases_page Extended n = (
  0,
  omega arith,
  let e : pair_of (n / 256) (n % 256) ≡ n = omega arith
      in e,
)

pub erase_heals_at : (d : Device) (rest : List ℕ) (byte n : ℕ) → ListsKind d.chip.kind d.codes
    → n < page_count d.chip → d.phase ≡ Connected rest
    → rest ++ byte ∷ [] ≡ erase_frame d.chip.kind n → Heals byte d n
erase_heals_at d rest byte n lists exists waits frame = (
  erase_frame d.chip.kind n,
  record {
    rest = rest;
    phase = waits;
    is = sym frame;
    done =
        erase_done d.chip d.codes d.chip.kind n lists exists;
  },
  erases_page d.chip.kind n,
)

pub erase_heals : EraseHeals
erase_heals d rest byte n is exists waits frame = erase_heals_at d rest byte n is.erase exists waits
    frame
