-- The four lines: whatever a stopped host left, the settling byte of its intent is harmless outside the intent's page.
use Rattle.std.proofs.Common.{lit≤, lit<, Bool, eqb, nat_lt, if◌then◌else◌, true, false, ⊎_elim, ◌∙◌, ap, ◌≡◌, ℕ, ◌+◌, ◌-◌, ◌/◌, ◌%◌, ◌<◌, ◌≤◌, List, [], ◌∷◌, ◌++◌, length, take, bit_xor, refl, sym, subst, arith, Option, Some, None}
use Rattle.std.specs.List.{Contains}
use Rattle.std.specs.Int.Bits.{xor_zero_l}
use Rattle.std.proofs.lemmas.Bool.{cases_lt, eqb-true}
use Rattle.std.proofs.lemmas.Bool.Decides.{nat_tests}
use Rattle.std.proofs.lemmas.List.{length-take}
use Rattle.stm_wire.proofs.Names.{address_bytes, Awaits, ChipData, command, Connected, Device, erase_frame, EraseKind, FreshIsHarmless, Harmless, in_erase, in_get, in_get_id, in_read, in_ready}
use Rattle.stm_wire.proofs.Names.{in_write, InPage, intended_pages, Intent, IsDevice, IsOpen, IsOpenPhase, IsReadyRest, IsRefusedIn, most_for, most_under, number_of, page_count, page_limit}
use Rattle.stm_wire.proofs.Names.{read_frame, SameOutside, settling_byte, StoppedAwaitsFew, StoppedIsHarmless, with_checksum, Write, write_frame, xor}
use Rattle.stm_wire.specs.declared.chip.EraseKind.TheVariants.{Page, Extended}
use Rattle.stm_wire.specs.declared.verdict.Verdict.TheVariants.{Refused}
use Rattle.stm_wire.specs.declared.intent.Intent.TheVariants.{Erase, Program}
use Rattle.stm_wire.proofs.Flash.{IsConfined}
use Rattle.stm_wire.proofs.Mild.{Mild, Tame, harmless, mild_empty}
use Rattle.stm_wire.proofs.Bound.{IsCounted, by_recursion, counted}
use Rattle.stm_wire.proofs.Ending.{at_least, awaits_at, ends_behind, ends_short, refused_empty, refused_other}
use Rattle.stm_wire.proofs.Enough.{Enough, byte_small, enough_erase, enough_short, no_count}
use Rattle.stm_wire.proofs.Plain.{mild_get, mild_id, mild_read, mild_ready}
use Rattle.stm_wire.proofs.EraseHigh.{companion, high_page, mild_high, or_none, page_named}
use Rattle.stm_wire.proofs.ErasePage.{mild_erase, contains_first}
use Rattle.stm_wire.proofs.ErasePair.{mild_extended, named_by}
use Rattle.stm_wire.proofs.WriteData.{mild_write}

pub fewer_outside : (chip : ChipData) (pages more : List ℕ) (old new : List ℕ) → ((n : ℕ) → n < page_count chip → Contains more n → Contains pages n) → SameOutside chip more old new → SameOutside chip pages old new
fewer_outside chip pages more old new f s = record { same_length = s.same_length; elsewhere = λ n here out. s.elsewhere n here (λ c. out (f n here c)) }

-- harmless for more pages, of which only these exist
pub fewer : (d : Device) (byte : ℕ) (pages more : List ℕ) → ((n : ℕ) → n < page_count d.chip → Contains more n → Contains pages n) → Harmless d byte more → Harmless d byte pages
fewer d byte pages more f h = record {
  each = λ events new reaches. let u = h.each events new reaches in record {
    phase = u.phase;
    flash = fewer_outside d.chip pages more d.flash new.flash f u.flash;
  };
}

pub number_of_bytes : (address : ℕ) → number_of (address / 16777216) (address / 65536 % 256) (address / 256 % 256) (address % 256) ≡ address
number_of_bytes address = omega arith

erase_extended : (N : ℕ) → N < 256 → erase_frame Extended N ≡ 0x44 ∷ 0xBB ∷ 0 ∷ 0 ∷ 0 ∷ N ∷ N ∷ []
erase_extended N small =
    let high : N / 256 ≡ 0 = omega arith in
    let low : N % 256 ≡ N = omega arith in
    let same : bit_xor 0 N ≡ N = xor_zero_l N in
    rw (high, low, same) refl

-- from page 256 on
erase_extended_high : (L : ℕ) → L < 256 → erase_frame Extended (256 + L) ≡ 0x44 ∷ 0xBB ∷ 0 ∷ 0 ∷ 1 ∷ L ∷ xor (0 ∷ 0 ∷ 1 ∷ L ∷ []) ∷ []
erase_extended_high L small =
    let high : (256 + L) / 256 ≡ 1 = omega arith in
    let low : (256 + L) % 256 ≡ L = omega arith in
    rw (high, low) refl

-- the byte that settles it
abbrev pub byte_of : ℕ → ℕ
byte_of N = settling_byte (Some (Erase N))

pub low_byte : (N : ℕ) → N < 256 → byte_of N ≡ N
low_byte N small = let t : nat_lt N 256 ≡ true = grind (arith, nat_tests) in rw t refl

pub high_byte : (N : ℕ) → 256 ≤ N → byte_of N ≡ 2
high_byte N large = let t : nat_lt N 256 ≡ false = grind (arith, nat_tests) in rw t refl

-- the pages that an erase of page N can come to, by the kind of the chip
abbrev pub erasable : EraseKind → ℕ → List ℕ
erasable Page N = N ∷ []
erasable Extended N = if nat_lt N 256 then named_by N else or_none N

-- on a chip of its kind these are page N alone, and page 257 with page 1
pub one_erasable : (kind : EraseKind) (N n : ℕ) → n < page_limit kind → Contains (erasable kind N) n → Contains (intended_pages (Some (Erase N))) n
one_erasable Page N n small c = page_named N n c
one_erasable Extended N n small c =
    ⊎_elim
    (λ low. let t : nat_lt N 256 ≡ true = grind (arith, nat_tests) in let named : Contains (named_by N) n = subst (λ b. Contains (if b then named_by N else or_none N) n) t c in companion N n small named)
    (λ high. let t : nat_lt N 256 ≡ false = grind (arith, nat_tests) in let named : Contains (or_none N) n = subst (λ b. Contains (if b then named_by N else or_none N) n) t c in page_named N n (high_page N n small named))
    (cases_lt N 256)

pub mild_erase_frame : (chip : ChipData) (codes : List ℕ) (kind : EraseKind) (N : ℕ) → N < page_limit kind → (n : ℕ) → Mild chip codes (byte_of N) (erasable kind N) (take n (erase_frame kind N))
mild_erase_frame chip codes Page N small n = rw (low_byte N small, xor_zero_l N) (mild_erase chip codes N n)
mild_erase_frame chip codes Extended N small n = ⊎_elim low high (cases_lt N 256)
  where
    low : N < 256 → Mild chip codes (byte_of N) (erasable Extended N) (take n (erase_frame Extended N))
    low h =
        let t : nat_lt N 256 ≡ true = grind (arith, nat_tests) in
        let m : Mild chip codes N (named_by N) (take n (erase_frame Extended N)) = subst (λ (frame : List ℕ). Mild chip codes N (named_by N) (take n frame)) (sym (erase_extended N h)) (mild_extended chip codes N h n) in
        rw t m

    high : 256 ≤ N → Mild chip codes (byte_of N) (erasable Extended N) (take n (erase_frame Extended N))
    high h =
        let L = N - 256 in
        let e : 256 + L ≡ N = omega (arith, h) in
        let t : nat_lt N 256 ≡ false = grind (arith, nat_tests) in
        let frame : erase_frame Extended N ≡ 0x44 ∷ 0xBB ∷ 0 ∷ 0 ∷ 1 ∷ L ∷ xor (0 ∷ 0 ∷ 1 ∷ L ∷ []) ∷ [] = ap (erase_frame Extended) (sym e) ∙ erase_extended_high L (omega (arith, small, e)) in
        let m : Mild chip codes 2 (or_none N) (take n (erase_frame Extended N)) = subst (λ (x : ℕ). Mild chip codes 2 (or_none x) (take n (erase_frame Extended N))) e
        (subst (λ (f : List ℕ). Mild chip codes 2 (or_none (256 + L)) (take n f)) (sym frame) (mild_high chip codes L (xor (0 ∷ 0 ∷ 1 ∷ L ∷ [])) n)) in
        rw t m

-- the bytes of a write at its address lie in the page
pub write_confined : (chip : ChipData) (N address : ℕ) (sent : List ℕ) → 1 ≤ length sent → InPage chip N address (length sent) → (data' : List ℕ) →
    IsConfined chip (N ∷ []) (Write (number_of (address / 16777216) (address / 65536 % 256) (address / 256 % 256) (address % 256)) (take (length sent - 1 + 1) data'))
write_confined chip N address sent some within data' =
    let same = number_of_bytes address in
    let len = length-take (length sent - 1 + 1) data' in
    let from = within.begins in
    let to = within.ends in
    (N, contains_first N [], omega arith, omega arith)

pub mild_write_frame : (chip : ChipData) (codes : List ℕ) (N address : ℕ) (sent : List ℕ) → 1 ≤ length sent → InPage chip N address (length sent) →
    (n : ℕ) → Mild chip codes 2 (N ∷ []) (take n (write_frame address sent))
mild_write_frame chip codes N address sent some within n =
    mild_write chip codes (N ∷ []) (address / 16777216) (address / 65536 % 256) (address / 256 % 256) (address % 256) (xor (address_bytes address)) (length sent - 1)
    (sent ++ xor ((length sent - 1) ∷ sent) ∷ []) (write_confined chip N address sent some within) n

pub mild_get_frame : (chip : ChipData) (codes : List ℕ) (byte : ℕ) (pages : List ℕ) (n : ℕ) → Mild chip codes byte pages (take n (command 0x00))
mild_get_frame chip codes byte pages n = mild_get chip codes byte pages (0xFF ∷ []) n

pub mild_id_frame : (chip : ChipData) (codes : List ℕ) (byte : ℕ) (pages : List ℕ) (n : ℕ) → Mild chip codes byte pages (take n (command 0x02))
mild_id_frame chip codes byte pages n = mild_id chip codes byte pages (0xFD ∷ []) n

pub mild_read_frame : (chip : ChipData) (codes : List ℕ) (byte : ℕ) (pages : List ℕ) (address size n : ℕ) → Mild chip codes byte pages (take n (read_frame address size))
mild_read_frame chip codes byte pages address size n = mild_read chip codes byte pages (0xEE ∷ with_checksum (address_bytes address) ++ command (size - 1)) n

pub enough_get : (d : Device) (byte most : ℕ) → 267 ≤ most → Enough d.chip d.codes byte most (command 0x00)
enough_get d byte most le = enough_short d.chip d.codes byte most 0x00 (0xFF ∷ []) le (no_count 0x00 byte refl refl) refl

pub enough_id : (d : Device) (byte most : ℕ) → 267 ≤ most → Enough d.chip d.codes byte most (command 0x02)
enough_id d byte most le = enough_short d.chip d.codes byte most 0x02 (0xFD ∷ []) le (no_count 0x02 byte refl refl) refl

pub enough_read : (d : Device) (byte most address size : ℕ) → 267 ≤ most → Enough d.chip d.codes byte most (read_frame address size)
enough_read d byte most address size le = enough_short d.chip d.codes byte most 0x11 (0xEE ∷ with_checksum (address_bytes address) ++ command (size - 1)) le (no_count 0x11 byte refl refl) refl

pub enough_write : (d : Device) (byte address : ℕ) (sent : List ℕ) → byte < 256 → Enough d.chip d.codes byte 267 (write_frame address sent)
enough_write d byte address sent small =
    enough_short d.chip d.codes byte 267 0x31 (0xCE ∷ with_checksum (address_bytes address) ++ with_checksum ((length sent - 1) ∷ sent)) (lit≤ tt) (λ _. small, λ _. small) refl

-- every intent's limit is that of a question, or more
pub at_least_under : (kind : EraseKind) (intent : Option Intent) → 267 ≤ most_under kind intent
at_least_under kind None = lit≤ tt
at_least_under kind (Some (Erase n)) = at_least kind (byte_of n)
at_least_under kind (Some (Program n)) = lit≤ tt

-- a rest that begins this frame
begun : (d : Device) (byte : ℕ) (pages rest frame : List ℕ) (n : ℕ) → IsDevice d → d.phase ≡ Connected rest → rest ≡ take n frame → ((j : ℕ) → Mild d.chip d.codes byte pages (take j frame)) → Harmless d byte pages
begun d byte pages rest frame n is at e m = harmless byte pages d is.size (subst (Tame d.chip d.codes byte pages) (sym (at ∙ ap Connected e)) (m n))

-- and how many of the byte suffice there
begun_awaits : (d : Device) (byte most : ℕ) (rest frame : List ℕ) (n : ℕ) → IsDevice d → d.phase ≡ Connected rest → rest ≡ take n frame → Enough d.chip d.codes byte most frame → Awaits byte most d
begun_awaits d byte most rest frame n is at e enough =
    let here : d.phase ≡ Connected (take n frame) = at ∙ ap Connected e in
    let open' : IsOpenPhase d.chip d.codes (Connected (take n frame)) = subst (IsOpenPhase d.chip d.codes) here is.phase in
    awaits_at d byte most (Connected (take n frame)) here (enough n (counted (take n frame) (by_recursion (take n frame) open'.1)) open'.0)

erase_stopped : (d : Device) (N n : ℕ) (rest : List ℕ) → IsDevice d → d.phase ≡ Connected rest → N < page_count d.chip →
    rest ≡ take n (erase_frame d.chip.kind N) → Harmless d (settling_byte (Some (Erase N))) (intended_pages (Some (Erase N)))
erase_stopped d N n rest is at here e =
    let most = is.chip.last_page in
    let small : N < page_limit d.chip.kind = omega (arith, here, most) in
    fewer d (byte_of N) (intended_pages (Some (Erase N))) (erasable d.chip.kind N) (λ m le c. one_erasable d.chip.kind N m (omega (arith, le, most)) c)
    (begun d (byte_of N) (erasable d.chip.kind N) rest (erase_frame d.chip.kind N) n is at e (mild_erase_frame d.chip d.codes d.chip.kind N small))

-- one byte, or none, of a Ready device
ready_mild : (d : Device) (rest : List ℕ) → IsReadyRest d.codes rest → Mild d.chip d.codes 0x7F [] rest
ready_mild d [] r = mild_empty d.chip d.codes 0x7F []
ready_mild d (c ∷ []) r = mild_ready d.chip d.codes [] c r
ready_mild d (c ∷ x ∷ rest) r = absurd r

under : (d : Device) (i j : Option Intent) → i ≡ j → Harmless d (settling_byte j) (intended_pages j) → Harmless d (settling_byte i) (intended_pages i)
under d i j e h = subst (λ (x : Option Intent). Harmless d (settling_byte x) (intended_pages x)) (sym e) h

pub stopped_is_harmless : StoppedIsHarmless
stopped_is_harmless d intent rest is at (in_get n e) = begun d (settling_byte intent) (intended_pages intent) rest (command 0x00) n is at e (mild_get_frame d.chip d.codes (settling_byte intent) (intended_pages intent))
stopped_is_harmless d intent rest is at (in_get_id n e) = begun d (settling_byte intent) (intended_pages intent) rest (command 0x02) n is at e (mild_id_frame d.chip d.codes (settling_byte intent) (intended_pages intent))
stopped_is_harmless d intent rest is at (in_read address size n e) =
    begun d (settling_byte intent) (intended_pages intent) rest (read_frame address size) n is at e (mild_read_frame d.chip d.codes (settling_byte intent) (intended_pages intent) address size)
stopped_is_harmless d intent rest is at (in_ready none r) = under d intent None none (harmless 0x7F [] d is.size (subst (Tame d.chip d.codes 0x7F []) (sym at) (ready_mild d rest r)))
stopped_is_harmless d intent rest is at (in_erase N n here i e) = under d intent (Some (Erase N)) i (erase_stopped d N n rest is at here e)
stopped_is_harmless d intent rest is at (in_write N address n sent i some within e) =
    under d intent (Some (Program N)) i (begun d 2 (N ∷ []) rest (write_frame address sent) n is at e (mild_write_frame d.chip d.codes N address sent some within))

-- behind one byte, or none, the second 7F is refused
ready_enough : (chip : ChipData) (codes rest : List ℕ) → IsReadyRest codes rest → IsOpen chip codes rest → IsCounted rest → IsRefusedIn chip codes 0x7F 267 rest
ready_enough chip codes [] r o by = refused_empty chip codes 0x7F 267 (lit≤ tt)
ready_enough chip codes (c ∷ []) r o by = go (eqb c 0x44) refl
  where
    go : (t : Bool) → eqb c 0x44 ≡ t → IsRefusedIn chip codes 0x7F 267 (c ∷ [])
    go true t = let same = eqb-true c 0x44 t in rw same (ends_behind chip codes 0x7F 0 Refused (0x44 ∷ []) 267 (refused_other chip codes 0x44 0x7F refl) (lit≤ tt))
    go false t = ends_short chip codes 0x7F c [] (λ _. lit< tt, λ _. lit< tt) by o t
ready_enough chip codes (c ∷ x ∷ rest) r o by = absurd r

few_under : (d : Device) (i j : Option Intent) → i ≡ j → Awaits (settling_byte j) (most_under d.chip.kind j) d → Awaits (settling_byte i) (most_under d.chip.kind i) d
few_under d i j e w = subst (λ (x : Option Intent). Awaits (settling_byte x) (most_under d.chip.kind x) d) (sym e) w

pub stopped_awaits_few : StoppedAwaitsFew
stopped_awaits_few d intent rest is at (in_get n e) = let most = most_under d.chip.kind intent in
    begun_awaits d (settling_byte intent) most rest (command 0x00) n is at e (enough_get d (settling_byte intent) most (at_least_under d.chip.kind intent))
stopped_awaits_few d intent rest is at (in_get_id n e) = let most = most_under d.chip.kind intent in
    begun_awaits d (settling_byte intent) most rest (command 0x02) n is at e (enough_id d (settling_byte intent) most (at_least_under d.chip.kind intent))
stopped_awaits_few d intent rest is at (in_read address size n e) = let most = most_under d.chip.kind intent in
    begun_awaits d (settling_byte intent) most rest (read_frame address size) n is at e (enough_read d (settling_byte intent) most address size (at_least_under d.chip.kind intent))
stopped_awaits_few d intent rest is at (in_ready none r) =
    let open' : IsOpenPhase d.chip d.codes (Connected rest) = subst (IsOpenPhase d.chip d.codes) at is.phase in
    few_under d intent None none (awaits_at d 0x7F 267 (Connected rest) at (ready_enough d.chip d.codes rest r open'.0 (counted rest (by_recursion rest open'.1))))
stopped_awaits_few d intent rest is at (in_erase N n here i e) = few_under d intent (Some (Erase N)) i
    (begun_awaits d (byte_of N) (most_for d.chip.kind (byte_of N)) rest (erase_frame d.chip.kind N) n is at e (enough_erase d.chip d.codes d.chip.kind (byte_of N) N is.erase (byte_small (Some (Erase N)))))
stopped_awaits_few d intent rest is at (in_write N address n sent i some within e) = few_under d intent (Some (Program N)) i
    (begun_awaits d 2 267 rest (write_frame address sent) n is at e (enough_write d 2 address sent (lit< tt)))

pub fresh_is_harmless : FreshIsHarmless
fresh_is_harmless d byte pages is e = harmless byte pages d is.size (subst (Tame d.chip d.codes byte pages) (sym e) tt)
