-- A byte fed to a device with weak pages, and to an ordinary one beside it.
use Rattle.std.proofs.Common.{◌≡◌, ◌⊎◌, inl, inr, ℕ, ◌<◌, Bool, true, false}
use Rattle.std.proofs.Common.{◌==◌, if◌then◌else◌, List, [], ◌∷◌, ◌++◌, length, Option, Some}
use Rattle.std.proofs.Common.{None, refl, sym, ◌∙◌, ap, subst, IsTrue, All}
use Rattle.std.proofs.lemmas.List.Elements.{All-append, All-cons, All-nil}
use Rattle.stm_wire.specs.declared.verdict.Verdict.{Verdict}
use Rattle.stm_wire.specs.declared.verdict.Verdict.TheVariants.{Done, Refused, Loose}
use Rattle.stm_wire.proofs.Names.{ack, change_of, ChipData, Connected, Device, Effect, flash_size, Fresh, Gone, IsDevice, IsLoose, IsOpen, IsOpenPhase, Phase, phase_after, Receives, reply_of}
use Rattle.stm_wire.proofs.Names.{reply_to, Takes, verdict}
use Rattle.stm_weak.specs.WeakDevice.{AgreesOutside, ErasesPage, IsWeakAt, ReadsPlace}
use Rattle.stm_weak.proofs.Agreeing.{agrees_same, agrees_weaker}
use Rattle.stm_weak.proofs.Effects.{IsByte, does_alike, effect_length, erased_is_byte}
use Rattle.stm_weak.proofs.Answering.{answer_alike, small_change}
use Rattle.stm_weak.proofs.Opening.{open_after, open_more, open_nothing, with_parts}

-- The same device with another flash.
abbrev pub with_flash : List ℕ → Device → Device
with_flash flash d = record d { flash = flash }

-- What a byte may leave of the one with this flash: it agrees with new, but for weak pages.
abbrev Alongside : (ℕ → Bool) → List ℕ → ℕ → Device → Phase → Device → Type 0
Alongside weak flash byte old phase new =
    (left : List ℕ) × Receives (with_flash flash old) phase byte (with_flash left new)
    × AgreesOutside new.chip weak new.flash left × IsDevice (with_flash left new)

abbrev TakesAlongside : (ℕ → Bool) → List ℕ → List ℕ → Device → Option Verdict → Device → Type 0
TakesAlongside weak flash bytes old v new =
    (left : List ℕ) × Takes (with_flash flash old) bytes v (with_flash left new)
    × AgreesOutside new.chip weak new.flash left × IsDevice (with_flash left new)

-- a list that is done, with a place in a weak page
abbrev pub IsWeakList : ChipData → (ℕ → Bool) → List ℕ → Type 0
IsWeakList chip weak bytes = (place : ℕ) × ReadsPlace chip bytes place × IsWeakAt chip weak place

-- where the list is done it reads no weak page
abbrev pub IsUnread : ChipData → (ℕ → Bool) → List ℕ → Option Verdict → Type 0
IsUnread chip weak bytes None = Unit {0}
IsUnread chip weak bytes (Some Refused) = Unit {0}
IsUnread chip weak bytes (Some Done) = IsWeakList chip weak bytes → ⊥
IsUnread chip weak bytes (Some Loose) = Unit {0}

-- it is done, and erases page n
abbrev pub IsHealed : List ℕ → ℕ → Option Verdict → Type 0
IsHealed bytes n None = ⊥
IsHealed bytes n (Some Refused) = ⊥
IsHealed bytes n (Some Done) = ErasesPage (change_of bytes) n
IsHealed bytes n (Some Loose) = ⊥

-- the same of a byte that comes in this phase
abbrev pub IsUnreadIn : ChipData → List ℕ → (ℕ → Bool) → ℕ → Phase → Type 0
IsUnreadIn chip codes weak byte Fresh = Unit {0}
IsUnreadIn chip codes weak byte (Connected rest) = IsUnread chip weak (rest ++ byte ∷ [])
    (verdict chip codes (rest ++ byte ∷ []))
IsUnreadIn chip codes weak byte Gone = Unit {0}

abbrev pub IsHealedIn : ChipData → List ℕ → ℕ → ℕ → Phase → Type 0
IsHealedIn chip codes byte n Fresh = ⊥
IsHealedIn chip codes byte n (Connected rest) = IsHealed (rest ++ byte ∷ []) n
    (verdict chip codes (rest ++ byte ∷ []))
IsHealedIn chip codes byte n Gone = ⊥

still : (weak2 : ℕ → Bool) (n : ℕ) → IsTrue (weak2 n) ⊎ ⊥ → IsTrue (weak2 n)
still weak2 n (inl w) = w
still weak2 n (inr x) = absurd x

loose_device : (old new : Device) (flash bytes : List ℕ) → IsDevice (with_flash flash old)
    → length flash ≡ length old.flash → IsLoose old bytes new → IsDevice new
loose_device old new flash bytes is size l =
    let make : ChipData → ℕ → List ℕ → Device = λ chip version codes. record {
      chip = chip;
      version = version;
      codes = codes;
      flash = new.flash;
      owed = new.owed;
      phase =
          new.phase;
    } in
    let same : make old.chip old.version old.codes ≡ make new.chip new.version new.codes =
    ap (λ c. make c old.version old.codes) (sym l.chip)
    ∙ ap (λ v. make new.chip v old.codes) (sym l.version)
    ∙ ap (λ k. make new.chip new.version k) (sym l.codes) in
    let at : IsDevice (make old.chip old.version old.codes) = with_parts
    (with_flash flash old) new.flash new.owed new.phase is
    (l.same_length ∙ sym size) l.flash l.phase in
    subst IsDevice same at

module _ (weak weak2 : ℕ → Bool) (old : Device) (flash : List ℕ)
    (is : IsDevice (with_flash flash old)) (agrees : AgreesOutside old.chip weak old.flash flash)
  where
    -- the flash is as it was, and nothing was read or erased
    keeps_alongside : (owed : List ℕ) (phase : Phase) → IsOpenPhase old.chip old.codes phase
        → ((n : ℕ) → IsTrue (weak n) → IsTrue (weak2 n) ⊎ ⊥)
        → AgreesOutside old.chip weak2 old.flash flash
        × IsDevice (record old { flash = flash; owed = owed; phase = phase })
    keeps_alongside owed phase waits stays = (
      agrees_weaker old.chip weak weak2 old.flash flash (λ n w. still weak2 n (stays n w)) agrees,
      with_parts (with_flash flash old) flash owed phase is refl is.flash waits,
    )

    reply_alike : (bytes : List ℕ) (v : Option Verdict) → IsUnread old.chip weak bytes v
        → reply_to v old.chip old.version old.codes flash bytes ≡ reply_to v old.chip old.version
        old.codes old.flash bytes
    reply_alike bytes (Some Done) unread = ap (λ (xs : List ℕ). ack ∷ xs)
        (answer_alike old.chip old.version old.codes bytes old.flash flash agrees.same_length
        (λ place reads. agrees.elsewhere place (λ w. unread (place, reads, w))))
    reply_alike bytes v unread = refl

    reply_same : (bytes : List ℕ) (v : Option Verdict) → verdict old.chip old.codes bytes ≡ v
        → IsUnread old.chip weak bytes v → reply_of old bytes ≡ reply_of (with_flash flash old) bytes
    reply_same bytes v e unread =
        ap (λ w. reply_to w old.chip old.version old.codes old.flash bytes) e
        ∙ sym (reply_alike bytes v unread)
        ∙ sym (ap (λ w. reply_to w old.chip old.version old.codes flash bytes) e)

    takes_alongside : (rest : List ℕ) (byte : ℕ) (v : Option Verdict) (new : Device)
        → IsOpen old.chip old.codes rest → All IsByte (rest ++ byte ∷ [])
        → verdict old.chip old.codes (rest ++ byte ∷ []) ≡ v
        → IsUnread old.chip weak (rest ++ byte ∷ []) v
        → ((n : ℕ) → IsTrue (weak n) → IsTrue (weak2 n) ⊎ IsHealed (rest ++ byte ∷ []) n v)
        → Takes old (rest ++ byte ∷ []) v new → TakesAlongside weak2 flash
        (rest ++ byte ∷ []) old v new
    takes_alongside rest byte None new waits small e unread stays t =
        let bytes = rest ++ byte ∷ [] in
        let P : Device → Type 0 = λ x. TakesAlongside weak2 flash bytes old None x in
        let make : List ℕ → Device = λ xs. record old
        { flash = flash; owed = old.owed ++ xs; phase = Connected bytes } in
        let k = keeps_alongside (old.owed ++ reply_of old bytes) (Connected bytes)
        (open_more old.chip old.codes rest byte waits e, small) stays in
        subst P (sym t) (flash, ap make (reply_same bytes None e unread), k.0, k.1)
    takes_alongside rest byte (Some Refused) new waits small e unread stays t =
        let bytes = rest ++ byte ∷ [] in
        let P : Device → Type 0 = λ x. TakesAlongside weak2 flash bytes old (Some Refused) x in
        let make : List ℕ → Device = λ xs. record old
        { flash = flash; owed = old.owed ++ xs; phase = Connected [] } in
        let k = keeps_alongside (old.owed ++ reply_of old bytes) (Connected [])
        (open_nothing old.chip old.codes) stays in
        subst P (sym t) (flash, ap make (reply_same bytes (Some Refused) e unread), k.0, k.1)
    takes_alongside rest byte (Some Done) new waits small e unread stays (after, effect, t) =
        let bytes = rest ++ byte ∷ [] in
        let P : Device → Type 0 = λ x. TakesAlongside weak2 flash bytes old (Some Done) x in
        let size : length old.flash ≡ flash_size old.chip = sym agrees.same_length ∙ is.size in
        let did = does_alike old.chip weak weak2 old.flash flash size agrees is.flash
        (erased_is_byte old.chip.erased is.chip.erased) (change_of bytes) after
        (small_change bytes small) stays effect in
        let make : List ℕ → Device = λ xs. record old
        { flash = did.0; owed = old.owed ++ xs; phase = phase_after bytes } in
        let size2 : length did.0 ≡ length flash = same_size bytes did.0 did.1 in
        subst P (sym t) (
          did.0,
          (did.0, did.1, ap make (reply_same bytes (Some Done) e unread)),
          did.2,
          with_parts (with_flash flash old) did.0 (old.owed ++ reply_of old bytes)
              (phase_after bytes) is size2 did.3 (open_after old.chip old.codes bytes),
        )
      where
        same_size : (bytes left : List ℕ) → Effect old.chip (change_of bytes) flash left
            → length left ≡ length flash
        same_size bytes left effect = effect_length old.chip
            (change_of bytes) flash left is.size effect
    takes_alongside rest byte (Some Loose) new waits small e unread stays l =
        let bytes = rest ++ byte ∷ [] in (
          new.flash,
          record {
            chip = l.chip;
            version = l.version;
            codes = l.codes;
            same_length = l.same_length ∙ sym agrees.same_length;
            flash = l.flash;
            phase = l.phase;
            owed = λ p. l.owed p ∙ ap (λ (xs : List ℕ). old.owed ++ xs)
                (reply_same bytes (Some Loose) e unread);
          },
          agrees_same new.chip weak2 new.flash,
          loose_device old new flash bytes is agrees.same_length l,
        )

    pub receives_alongside : (byte : ℕ) (p : Phase) (new : Device) → byte < 256
        → IsOpenPhase old.chip old.codes p → IsUnreadIn old.chip old.codes weak byte p
        → ((n : ℕ) → IsTrue (weak n) → IsTrue (weak2 n) ⊎ IsHealedIn old.chip old.codes byte n p)
        → Receives old p byte new → Alongside weak2 flash byte old p new
    receives_alongside byte Fresh new small waits unread stays r = by (byte == 0x7F) r
      where
        by : (t : Bool) → new ≡ (if t then record old
            { owed = old.owed ++ ack ∷ []; phase = Connected [] } else old)
            → (left : List ℕ) × (with_flash left new ≡
            (if t then record old {
              flash = flash;
              owed = old.owed ++ ack ∷ [];
              phase = Connected
                  [];
            } else with_flash flash old)) × AgreesOutside new.chip weak2 new.flash left
            × IsDevice (with_flash left new)
        by true e =
            let P : Device → Type 0 = λ x. (left : List ℕ)
            × (with_flash left x ≡ record old {
              flash = flash;
              owed = old.owed ++ ack ∷ [];
              phase
                  = Connected [];
            }) × AgreesOutside x.chip weak2 x.flash left
            × IsDevice (with_flash left x) in
            let k = keeps_alongside (old.owed ++ ack ∷ []) (Connected [])
            (open_nothing old.chip old.codes) stays in
            subst P (sym e) (flash, refl, k.0, k.1)
        by false e =
            let P : Device → Type 0 = λ x. (left : List ℕ)
            × (with_flash left x ≡ with_flash flash old) × AgreesOutside x.chip weak2 x.flash left
            × IsDevice (with_flash left x) in
            let more = λ (n : ℕ) (w : IsTrue (weak n)). still weak2 n (stays n w) in
            subst P (sym e) (
              flash,
              refl,
              agrees_weaker old.chip weak weak2 old.flash flash more
                  agrees,
              is,
            )
    receives_alongside byte Gone new small waits unread stays e =
        let P : Device → Type 0 = λ x. (left : List ℕ) × (with_flash left x ≡ with_flash flash old)
        × AgreesOutside x.chip weak2 x.flash left × IsDevice (with_flash left x) in
        let more = λ (n : ℕ) (w : IsTrue (weak n)). still weak2 n (stays n w) in
        subst P (sym e) (
          flash,
          refl,
          agrees_weaker old.chip weak weak2 old.flash flash more agrees,
          is,
        )
    receives_alongside byte (Connected rest) new small waits unread stays r =
        takes_alongside rest byte (verdict old.chip old.codes (rest ++ byte ∷ [])) new waits.0
        (All-append IsByte rest (byte ∷ []) waits.1 (All-cons IsByte byte [] small (All-nil IsByte)))
        refl unread stays r
