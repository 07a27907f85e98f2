-- The frames of a session are open all along and done at their last byte, so that a stop in them leaves a harmless device.
use Rattle.std.proofs.Common.{lit<, ◌≡◌, ℕ, ◌+◌, ◌-◌, ◌/◌, ◌%◌, ◌<◌, ◌≤◌, Bool, true, false, ◌&&◌, ◌==◌, List, [], ◌∷◌, ◌++◌, length, take, get_or, Option, Some, None, IsTrue, lit≤, refl, sym, ap, ap₂, ◌∙◌, subst, arith, eq-eqb, ne_eqb, lt-ltb, inl, inr, if◌then◌else◌, length-append}
use Rattle.std.proofs.Math.Seq.{take-append_seam, get_or-append_seam}
use Rattle.std.specs.List.{Contains}
use Rattle.stm_wire.proofs.Names.{address_bytes, AskingChangesNothing, asks, can_read, ChipData, command, complement, Device, done_if, erase_frame, EraseKind, erases, fits_inside, get, intended_pages}
use Rattle.stm_wire.proofs.Names.{Intent, is_inside, is_readable, IsDevice, IsQuestion, IsSettled, IsStoppedSafely, ListsKind, most_for, most_under, number_of, page_count, page_limit, pair_of}
use Rattle.stm_wire.proofs.Names.{PartlyFed, read_frame, read_verdict, SendingIsHarmless, settling_byte, Verdict, with_checksum, write_frame, write_verdict, writes, xor}
use Rattle.stm_wire.specs.declared.intent.Intent.TheVariants.{Erase, Program}
use Rattle.stm_wire.specs.declared.chip.EraseKind.TheVariants.{Page, Extended}
use Rattle.stm_wire.specs.declared.verdict.Verdict.TheVariants.{Done}
use Rattle.stm_wire.specs.Stopped.{get_id, read}
use Rattle.stm_wire.proofs.Steps.{OpenAlong}
use Rattle.stm_wire.proofs.Address.{verdict-listed, command-waits, after_address-right, addressed, address-waits}
use Rattle.stm_wire.proofs.Writing.{data-waits}
use Rattle.stm_wire.proofs.Tellings.{fits-inside, readable-address, readable-few}
use Rattle.stm_wire.proofs.Mild.{Mild}
use Rattle.stm_wire.proofs.Bound.{IsCounted}
use Rattle.stm_wire.proofs.Ending.{at_least}
use Rattle.stm_wire.proofs.Enough.{byte_small, counts_none, counts_page, counts_write, enough_erase}
use Rattle.stm_wire.proofs.Stopped.{at_least_under, byte_of, enough_get, enough_id, enough_read, enough_write, fewer, fewer_outside, erasable, one_erasable, mild_get_frame, mild_id_frame, mild_read_frame, mild_erase_frame, mild_write_frame}
use Rattle.stm_wire.specs.lemmas.FlashLaws.{same_all}
use Rattle.stm_wire.proofs.Pages.{page_inside}
use Rattle.stm_wire.proofs.Stops.{IsWhole, Suffices, along-append, stopped_safely}

module _ (d : Device) (is : IsDevice d) where
  pub get_whole : IsWhole d (0x00 ∷ []) 0xFF
  get_whole = record {
    along = (refl, tt);
    done = verdict-listed d.chip d.codes 0x00 [] is.get;
    few = omega (arith, is.count, length-append d.codes (0x79 ∷ []));
  }

  pub id_whole : IsWhole d (0x02 ∷ []) 0xFD
  id_whole = record { along = (refl, tt); done = verdict-listed d.chip d.codes 0x02 [] is.get_id; few = lit≤ tt }

  module _ (address size : ℕ) (some : 1 ≤ size) (most : size ≤ 256) (fits : IsTrue (can_read d.chip address size)) where
    inside : IsTrue (is_readable d.chip address)
    inside = readable-address d.chip address size some fits

    to_address : OpenAlong d.chip d.codes [] (command 0x11 ++ with_checksum (address_bytes address))
    to_address = along-append d.chip d.codes [] (command 0x11) (with_checksum (address_bytes address)) (command-waits d.chip d.codes 0x11 is.read refl)
        (address-waits d.chip d.codes 0x11 address is.read (addressed d.chip 0x11 (inl refl)) inside)

    pub read_whole : IsWhole d (command 0x11 ++ with_checksum (address_bytes address) ++ (size - 1) ∷ []) (complement (size - 1))
    read_whole =
        let e : (size - 1) + 1 ≡ size = omega arith in
        let P : ℕ → Type 0 = λ n. Some (done_if (complement (size - 1) == complement (size - 1) && can_read d.chip address n)) ≡ Some Done in
        let choose : Bool → Bool → Option Verdict = λ x y. Some (done_if (x && y)) in
        record {
          along = along-append d.chip d.codes [] (command 0x11 ++ with_checksum (address_bytes address)) ((size - 1) ∷ []) to_address
              (verdict-listed d.chip d.codes 0x11 (with_checksum (address_bytes address) ++ (size - 1) ∷ []) is.read ∙ after_address-right (is_readable d.chip) (read_verdict d.chip) address ((size - 1) ∷ []) inside, tt);
          done = verdict-listed d.chip d.codes 0x11 (with_checksum (address_bytes address) ++ (size - 1) ∷ complement (size - 1) ∷ []) is.read
              ∙ after_address-right (is_readable d.chip) (read_verdict d.chip) address ((size - 1) ∷ complement (size - 1) ∷ []) inside
              ∙ subst P (sym e) (ap₂ choose (eq-eqb (complement (size - 1)) (complement (size - 1)) refl) fits);
          few = omega (arith, e, readable-few d.chip d.flash (number_of (address / 16777216) (address / 65536 % 256) (address / 256 % 256) (address % 256)) ((size - 1) + 1));
        }

  module _ (address : ℕ) (sent : List ℕ) (some : 1 ≤ length sent) (most : length sent ≤ 256) (fits : IsTrue (fits_inside d.chip address (length sent))) where
    is_in : IsTrue (is_inside d.chip address)
    is_in = fits-inside d.chip address (length sent) some fits

    abbrev count : ℕ
    count = length sent - 1

    counts : count + 1 ≡ length sent
    counts = omega arith

    count_waits : write_verdict d.chip address (count ∷ []) ≡ None
    count_waits = no (length {A = ℕ} [] == count + 2) (ne_eqb 0 (count + 2) (λ e. omega (arith, e)))
      where
        no : (b : Bool) → b ≡ false → (if b then Some (done_if (get_or {A = ℕ} [] (count + 1) 0 == xor (count ∷ take (count + 1) []) && fits_inside d.chip address (count + 1))) else None) ≡ None
        no b e = rw e refl

    write_along : OpenAlong d.chip d.codes [] (command 0x31 ++ with_checksum (address_bytes address) ++ count ∷ sent)
    write_along =
        let head = command 0x31 ++ with_checksum (address_bytes address) in
        along-append d.chip d.codes [] (head ++ count ∷ []) sent
        (along-append d.chip d.codes [] head (count ∷ [])
        (along-append d.chip d.codes [] (command 0x31) (with_checksum (address_bytes address)) (command-waits d.chip d.codes 0x31 is.write refl)
        (address-waits d.chip d.codes 0x31 address is.write (addressed d.chip 0x31 (inr refl)) is_in))
        (verdict-listed d.chip d.codes 0x31 (with_checksum (address_bytes address) ++ count ∷ []) is.write ∙ after_address-right (is_inside d.chip) (write_verdict d.chip) address (count ∷ []) is_in ∙ count_waits, tt))
        (data-waits d.chip d.codes address count is.write is_in [] sent (omega (arith, counts)))

    abbrev check : ℕ
    check = xor (count ∷ sent)

    write_done : write_verdict d.chip address (count ∷ (sent ++ check ∷ [])) ≡ Some Done
    write_done =
        let whole : length (sent ++ check ∷ []) ≡ count + 2 = omega (arith, length-append sent (check ∷ []), counts) in
        let data' : take (count + 1) (sent ++ check ∷ []) ≡ sent = ap (λ n. take n (sent ++ check ∷ [])) counts ∙ take-append_seam sent (check ∷ []) in
        let last : get_or (sent ++ check ∷ []) (count + 1) 0 ≡ check = ap (λ n. get_or (sent ++ check ∷ []) n 0) counts ∙ get_or-append_seam sent check [] 0 in
        let choose : Bool → ℕ → List ℕ → ℕ → Option Verdict = λ b l xs n. if b then Some (done_if (l == xor (count ∷ xs) && fits_inside d.chip address n)) else None in
        let tests : Bool → Bool → Option Verdict = λ x y. Some (done_if (x && y)) in
        ap (λ b. choose b (get_or (sent ++ check ∷ []) (count + 1) 0) (take (count + 1) (sent ++ check ∷ [])) (count + 1)) (eq-eqb (length (sent ++ check ∷ [])) (count + 2) whole)
        ∙ ap₂ (λ l xs. choose true l xs (count + 1)) last data' ∙ ap (λ n. choose true check sent n) counts ∙ ap₂ tests (eq-eqb check check refl) fits

    pub write_whole : IsWhole d (command 0x31 ++ with_checksum (address_bytes address) ++ count ∷ sent) check
    write_whole = record {
      along = write_along;
      done = verdict-listed d.chip d.codes 0x31 (with_checksum (address_bytes address) ++ count ∷ (sent ++ check ∷ [])) is.write
          ∙ after_address-right (is_inside d.chip) (write_verdict d.chip) address (count ∷ (sent ++ check ∷ [])) is_in ∙ write_done;
      few = omega (arith, most);
    }

-- an erase of one page, all but its last byte
abbrev pub erase_body : EraseKind → ℕ → List ℕ
erase_body Page N = command 0x43 ++ 0 ∷ N ∷ []
erase_body Extended N = command 0x44 ++ 0 ∷ 0 ∷ N / 256 ∷ N % 256 ∷ []

abbrev pub erase_check : EraseKind → ℕ → ℕ
erase_check Page N = xor (0 ∷ N ∷ [])
erase_check Extended N = xor (0 ∷ 0 ∷ N / 256 ∷ N % 256 ∷ [])

pub erase_whole : (d : Device) (kind : EraseKind) (N : ℕ) → ListsKind kind d.codes → N < page_count d.chip → IsWhole d (erase_body kind N) (erase_check kind N)
erase_whole d Page N lists here =
    let listed = lists.0 in
    let choose : Bool → Bool → Option Verdict = λ x y. Some (done_if (x && (y && true))) in
    record {
      along = (refl, (verdict-listed d.chip d.codes 0x43 [] listed, (verdict-listed d.chip d.codes 0x43 (0 ∷ []) listed, (verdict-listed d.chip d.codes 0x43 (0 ∷ N ∷ []) listed, tt))));
      done = verdict-listed d.chip d.codes 0x43 (0 ∷ N ∷ erase_check Page N ∷ []) listed
          ∙ ap₂ choose (eq-eqb (erase_check Page N) (erase_check Page N) refl) (lt-ltb N (page_count d.chip) here);
      few = lit≤ tt;
    }
erase_whole d Extended N lists here =
    let listed = lists.0 in
    let high = N / 256 in
    let low = N % 256 in
    let same : pair_of high low ≡ N = omega arith in
    let choose : Bool → Bool → Option Verdict = λ x y. Some (done_if (x && (y && true))) in
    record {
      along = (
        refl,
        (
          verdict-listed d.chip d.codes 0x44 [] listed,
          (
            verdict-listed d.chip d.codes 0x44 (0 ∷ []) listed,
            (
              verdict-listed d.chip d.codes 0x44 (0 ∷ 0 ∷ []) listed,
              (verdict-listed d.chip d.codes 0x44 (0 ∷ 0 ∷ high ∷ []) listed, (verdict-listed d.chip d.codes 0x44 (0 ∷ 0 ∷ high ∷ low ∷ []) listed, tt)),
            ),
          ),
        ),
      );
      done = verdict-listed d.chip d.codes 0x44 (0 ∷ 0 ∷ high ∷ low ∷ erase_check Extended N ∷ []) listed
          ∙ ap₂ choose (eq-eqb (erase_check Extended N) (erase_check Extended N) refl) (lt-ltb (pair_of high low) (page_count d.chip) (subst (λ n. n < page_count d.chip) (sym same) here));
      few = lit≤ tt;
    }

pub frame_of : (kind : EraseKind) (N : ℕ) → erase_body kind N ++ erase_check kind N ∷ [] ≡ erase_frame kind N
frame_of Page N = refl
frame_of Extended N = refl

-- a stop in a frame which is that of a whole body
safely : (old d : Device) (byte most : ℕ) (pages : List ℕ) (frame : List ℕ) (body : List ℕ) (last : ℕ) → 267 ≤ most → IsDevice old → IsSettled old → IsWhole old body last → frame ≡ body ++ last ∷ []
    → ((j : ℕ) → Mild old.chip old.codes byte pages (take j (body ++ last ∷ []))) → Suffices old byte most (body ++ last ∷ []) → PartlyFed frame old d → IsStoppedSafely old byte most pages d
safely old d byte most pages frame body last le is settled whole e mild enough fed =
    stopped_safely old body last is settled whole byte most pages (omega (arith, le)) mild enough d (subst (λ (f : List ℕ). PartlyFed f old d) e fed)

-- a read changes nothing, whatever the byte
pub read_suffices : (d : Device) (byte most address size : ℕ) → 267 ≤ most → Suffices d byte most (read_frame address size)
read_suffices d byte most address size le = record {
  counted = counts_none 0x11 0xEE (with_checksum (address_bytes address) ++ command (size - 1)) refl refl;
  enough = enough_read d byte most address size le;
}

pub erase_suffices : (d : Device) (kind : EraseKind) (byte N : ℕ) → ListsKind kind d.codes → byte < 256 → Suffices d byte (most_for kind byte) (erase_frame kind N)
erase_suffices d kind byte N lists small = record {
  counted = counts kind;
  enough = enough_erase d.chip d.codes kind byte N lists small;
}
  where
    counts : (kind : EraseKind) → (n : ℕ) → IsCounted (take n (erase_frame kind N))
    counts Page = counts_page 0xBC N (xor (0 ∷ N ∷ []))
    counts Extended = counts_none 0x44 0xBB (0 ∷ 0 ∷ N / 256 ∷ N % 256 ∷ xor (0 ∷ 0 ∷ N / 256 ∷ N % 256 ∷ []) ∷ []) refl refl

pub write_suffices : (d : Device) (byte address : ℕ) (sent : List ℕ) → byte < 256 → length sent ≤ 256 → Suffices d byte 267 (write_frame address sent)
write_suffices d byte address sent small most = record {
  counted = counts_write 0xCE (address / 16777216) (address / 65536 % 256) (address / 256 % 256) (address % 256) (xor (address_bytes address)) (length sent - 1) (sent ++ xor ((length sent - 1) ∷ sent) ∷ []) (omega (arith, most));
  enough = enough_write d byte address sent small;
}

question_safely : (old d : Device) (byte most : ℕ) (pages : List ℕ) (frame : List ℕ) → 267 ≤ most → IsDevice old → IsSettled old → IsQuestion old.chip frame → PartlyFed frame old d → IsStoppedSafely old byte most pages d
question_safely old d byte most pages frame le is settled (get e) fed =
    safely old d byte most pages frame (0x00 ∷ []) 0xFF le is settled (get_whole old is) e (mild_get_frame old.chip old.codes byte pages) (record { counted = counts_none 0x00 0xFF [] refl refl; enough = enough_get old byte most le }) fed
question_safely old d byte most pages frame le is settled (get_id e) fed =
    safely old d byte most pages frame (0x02 ∷ []) 0xFD le is settled (id_whole old is) e (mild_id_frame old.chip old.codes byte pages) (record { counted = counts_none 0x02 0xFD [] refl refl; enough = enough_id old byte most le }) fed
question_safely old d byte most pages frame le is settled (read address size some few fits e) fed =
    safely old d byte most pages frame (command 0x11 ++ with_checksum (address_bytes address) ++ (size - 1) ∷ []) (complement (size - 1)) le is settled (read_whole old is address size some few fits) e
    (mild_read_frame old.chip old.codes byte pages address size) (read_suffices old byte most address size le) fed

pub asking_changes_nothing : AskingChangesNothing
asking_changes_nothing old d byte frame is settled question fed =
    let s = question_safely old d byte 267 [] frame (lit≤ tt) is settled question fed in
    (s, same_all old.chip old.flash d.flash is.size s.flash)

erase_safely : (old d : Device) (N : ℕ) (frame : List ℕ) → IsDevice old → IsSettled old → N < page_count old.chip → frame ≡ erase_frame old.chip.kind N → PartlyFed frame old d
    → IsStoppedSafely old (settling_byte (Some (Erase N))) (most_under old.chip.kind (Some (Erase N))) (intended_pages (Some (Erase N))) d
erase_safely old d N frame is settled here e fed =
    let most = is.chip.last_page in
    let kind = old.chip.kind in
    let small : N < page_limit kind = omega (arith, here, most) in
    let byte = byte_of N in
    let named = intended_pages (Some (Erase N)) in
    let pages = erasable kind N in
    let s = safely old d byte (most_for kind byte) pages frame (erase_body kind N) (erase_check kind N) (at_least kind byte) is settled (erase_whole old kind N is.erase here) (e ∙ sym (frame_of kind N))
    (λ j. subst (λ (f : List ℕ). Mild old.chip old.codes byte pages (take j f)) (sym (frame_of kind N)) (mild_erase_frame old.chip old.codes kind N small j))
    (subst (Suffices old byte (most_for kind byte)) (sym (frame_of kind N)) (erase_suffices old kind byte N is.erase (byte_small (Some (Erase N))))) fed in
    let one : (n : ℕ) → n < page_count old.chip → Contains pages n → Contains named n = λ n le c. one_erasable kind N n (omega (arith, most, le)) c in
    record {
      same_chip = s.same_chip;
      same_version = s.same_version;
      same_codes = s.same_codes;
      harmless = fewer d byte named pages (λ n le c. one n (subst (λ (chip : ChipData). n < page_count chip) s.same_chip le) c) s.harmless;
      awaits = s.awaits;
      flash = fewer_outside old.chip named pages old.flash d.flash one s.flash;
      owed = s.owed;
    }

abbrev Stops : Device → Option Intent → Device → Type 0
Stops old intent d = IsStoppedSafely old (settling_byte intent) (most_under old.chip.kind intent) (intended_pages intent) d

under : (old d : Device) (i j : Option Intent) → i ≡ j → Stops old j d → Stops old i d
under old d i j e s = subst (λ (x : Option Intent). Stops old x d) (sym e) s

pub sending_is_harmless : SendingIsHarmless
sending_is_harmless old d intent frame is settled (asks question) fed =
    question_safely old d (settling_byte intent) (most_under old.chip.kind intent) (intended_pages intent) frame (at_least_under old.chip.kind intent) is settled question fed
sending_is_harmless old d intent frame is settled (erases page i here e) fed = under old d intent (Some (Erase page)) i (erase_safely old d page frame is settled here e fed)
sending_is_harmless old d intent frame is settled (writes page address sent i some most within e) fed =
    under old d intent (Some (Program page)) i
    (safely old d 2 267 (page ∷ []) frame (command 0x31 ++ with_checksum (address_bytes address) ++ (length sent - 1) ∷ sent) (xor ((length sent - 1) ∷ sent)) (lit≤ tt) is settled
    (write_whole old is address sent some most (page_inside old.chip page address (length sent) within)) e (mild_write_frame old.chip old.codes page address sent some within) (write_suffices old 2 address sent (lit< tt) most) fed)
