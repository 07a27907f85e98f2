-- Frames that may be sent while pages may be weak are unread.
use Rattle.std.proofs.Common.{◌≡◌, ℕ, ◌+◌, ◌≤◌, ◌-◌, Bool, true, false, ◌==◌, if◌then◌else◌, List}
use Rattle.std.proofs.Common.{[], ◌∷◌, length, Option, Some, None, IsTrue, refl, sym, ◌∙◌, ap}
use Rattle.std.proofs.Common.{arith, le-leb, append_assoc, append-nil, ◌++◌}
use Rattle.std.proofs.lemmas.Bool.{and_from}
use Rattle.stm_wire.specs.declared.places.UniquePlace.{UniquePlace}
use Rattle.stm_wire.specs.declared.intent.Intent.{Intent}
use Rattle.stm_wire.proofs.Names.{address_bytes, at_address, at_code, at_count, ChipData, command, Connected, Device, fits_inside, flash_size, IsDevice, IsRefusedRead, page_size, read_frame}
use Rattle.stm_wire.proofs.Names.{sent_bytes, Turn, with_checksum}
use Rattle.stm_wire.specs.lemmas.DialogueLaws.{erase_sends, get_id_sends, get_sends, read_sends}
use Rattle.stm_wire.specs.lemmas.DialogueLaws.{write_sends}
use Rattle.stm_wire.specs.lemmas.PageLaws.{page_within}
use Rattle.stm_session.proofs.Names.{page_address, place_of_bytes}
use Rattle.stm_weak.specs.Weak.{NoneIs}
use Rattle.stm_weak.specs.Believed.{MayPutBelieving, asks as put_asks, names as put_names, confirms}
use Rattle.stm_weak.specs.Believed.{refused, reads, erases as put_erases, writes as put_writes}
use Rattle.stm_weak.specs.WeakDevice.{CanBe, WeakDevice}
use Rattle.stm_weak.specs.WeakFrames.{BeginsOf, asks, erases, names, tells, writes}
use Rattle.stm_weak.specs.WeakRuns.{Feed, WeakHappening, HasNoReset, IsUnread, Reset, Take, WeakBefall}
use Rattle.stm_weak.specs.WeakRuns.{fed_bytes}
use Rattle.stm_weak.specs.WeakBelieved.{AreAmong, MayPutIsUnread}
use Rattle.stm_weak.proofs.Agreeing.{weak_exists}
use Rattle.stm_weak.proofs.Silent.{frames_are_unread}

-- where no page is weak all is unread
none_is_read : (happenings : List WeakHappening) (old new : WeakDevice) (MayBe : ℕ → Type 0)
    → NoneIs MayBe → (led : WeakBefall happenings old new) → AreAmong MayBe happenings old new led
    → IsUnread happenings old new led
none_is_read [] old new MayBe none led among = tt
none_is_read (Feed byte ∷ more) old new MayBe none led among = (
  λ r. none r.4.page (among.0 r.4.page (weak_exists old.device.chip old.weak r.1 r.4) r.4.is),
  none_is_read more led.0 new MayBe none led.2 among.1,
)
none_is_read (Take n ∷ more) old new MayBe none led among = none_is_read more led.0 new MayBe none
    led.2 among
none_is_read (Reset ∷ more) old new MayBe none led among = none_is_read more led.0 new MayBe none
    led.2 among

-- what is told of the chip stands where the chip has it
pub told_at : (o : Option UniquePlace) (unique : List ℕ) (place : UniquePlace)
    → place_of_bytes o unique ≡ Some place → o ≡ Some place
told_at None unique place e = absurd (let h : None ≡ Some place = e in cc)
told_at (Some p) unique place e = by (length unique == p.length) e
  where
    by : (t : Bool) → (if t then Some p else None) ≡ Some place → Some p ≡ Some place
    by true e = e
    by false e = absurd (let h : None ≡ Some place = e in cc)

pub refused_sends : (address size : ℕ) (frame : List ℕ) (turns : List Turn)
    → IsRefusedRead address size frame turns → sent_bytes turns ≡ frame
refused_sends address size frame turns (at_code f t) = ap (λ (l : List Turn). sent_bytes l) t
    ∙ sym f
refused_sends address size frame turns (at_address f t) = ap (λ (l : List Turn). sent_bytes l) t
    ∙ sym f
refused_sends address size frame turns (at_count f t) = ap (λ (l : List Turn). sent_bytes l) t
    ∙ sym f

-- it is a beginning of the whole frame
pub refused_begins : (address size : ℕ) (frame : List ℕ) (turns : List Turn)
    → IsRefusedRead address size frame turns → BeginsOf frame (read_frame address size)
refused_begins address size frame turns (at_code f t) = (
  with_checksum (address_bytes address) ++ command (size - 1),
  ap
      (λ xs. xs ++ (with_checksum (address_bytes address) ++ command (size - 1))) f,
)
refused_begins address size frame turns (at_address f t) =
    (command (size - 1), ap (λ xs. xs ++ command (size - 1)) f)
refused_begins address size frame turns (at_count f t) =
    ([], ap (λ xs. xs ++ []) f ∙ append-nil (read_frame address size))

pub begins_further : (xs ys zs : List ℕ) → BeginsOf xs ys → BeginsOf ys zs → BeginsOf xs zs
begins_further xs ys zs (a, e) (b, f) = (a ++ b, sym (append_assoc xs a b) ∙ ap (λ r. r ++ b) e ∙ f)

pub begins_same : (xs ys zs : List ℕ) → BeginsOf xs ys → ys ≡ zs → BeginsOf xs zs
begins_same xs ys zs (a, e) same = (a, e ∙ same)

pub page_fits : (chip : ChipData) (n offset size : ℕ) → offset + size ≤ page_size chip n
    → IsTrue (fits_inside chip (page_address chip n + offset) size)
page_fits chip n offset size within =
    let h = page_within chip.sizes n in
    and_from _ _ (le-leb chip.base (page_address chip n + offset) (omega arith))
    (le-leb (page_address chip n + offset + size) (chip.base + flash_size chip)
    (omega (arith, h, within)))

pub put_is_unread : (happenings : List WeakHappening) (old new : WeakDevice) (d : Device)
    (MayBe : ℕ → Type 0) (intent : Option Intent) (turns : List Turn) → IsDevice d → CanBe old d
    → d.phase ≡ Connected [] → MayPutBelieving d.chip MayBe intent turns
    → BeginsOf (fed_bytes happenings) (sent_bytes turns) → HasNoReset happenings
    → (led : WeakBefall happenings old new) → AreAmong MayBe happenings old new led
    → IsUnread happenings old new led
put_is_unread happenings old new d MayBe intent turns is can waits
    (put_asks version codes e) begins no_reset led among =
    let same = ap (λ (l : List Turn). sent_bytes l) e ∙ get_sends version codes in
    frames_are_unread happenings old new d (sent_bytes turns) is can waits
    (asks same) begins no_reset led
put_is_unread happenings old new d MayBe intent turns is can waits
    (put_names high low e) begins no_reset led among =
    let same = ap (λ (l : List Turn). sent_bytes l) e ∙ get_id_sends high low in
    frames_are_unread happenings old new d (sent_bytes turns) is can waits
    (names same) begins no_reset led
put_is_unread happenings old new d MayBe intent turns is can waits
    (confirms place answer at e) begins no_reset led among =
    let same = ap (λ (l : List Turn). sent_bytes l) e ∙ read_sends place.address answer in
    let told = told_at d.chip.places.unique d.chip.unique place at in
    frames_are_unread happenings old new d (sent_bytes turns) is can waits
    (tells place (length answer) told same) begins no_reset led
put_is_unread happenings old new d MayBe intent turns is can waits
    (refused place frame at how) begins no_reset led among =
    let told = told_at d.chip.places.unique d.chip.unique place at in
    let whole = read_frame place.address place.length in
    let first = begins_same (fed_bytes happenings) (sent_bytes turns) frame begins
    (refused_sends place.address place.length frame turns how) in
    frames_are_unread happenings old new d whole is can waits (tells place place.length told refl)
    (begins_further (fed_bytes happenings) frame whole first
    (refused_begins place.address place.length frame turns how)) no_reset led
put_is_unread happenings old new d MayBe intent turns is can waits
    (reads address answer none e) begins no_reset led among = none_is_read happenings old new MayBe
    none led among
put_is_unread happenings old new d MayBe intent turns is can waits
    (put_erases n at e) begins no_reset led among =
    let same = ap (λ (l : List Turn). sent_bytes l) e ∙ erase_sends d.chip.kind n in
    frames_are_unread happenings old new d (sent_bytes turns) is can waits
    (erases n same) begins no_reset led
put_is_unread happenings old new d MayBe intent turns is can waits
    (put_writes n offset bytes at some within e) begins no_reset led among =
    let address = page_address d.chip n + offset in
    let same = ap (λ (l : List Turn). sent_bytes l) e ∙ write_sends address bytes in
    frames_are_unread happenings old new d (sent_bytes turns) is can waits
    (writes address bytes some (page_fits d.chip n offset (length bytes) within) same) begins
    no_reset led

pub may_put_is_unread : MayPutIsUnread
may_put_is_unread happenings old new d may_be intent turns is can waits may begins no_reset led
    among =
    put_is_unread happenings old new d (λ n. IsTrue (may_be n)) intent turns is can waits may begins
    no_reset led among
