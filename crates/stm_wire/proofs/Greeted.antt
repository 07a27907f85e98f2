-- A stopped device is harmless behind one 7F.
use Rattle.std.proofs.Common.{lit≤, lit<, ◌≡◌, ℕ, zero, suc, ◌+◌, ◌-◌, ◌*◌, ◌/◌, ◌%◌, ◌<◌, ◌≤◌, ⊎_elim, false, ◌&&◌, eqb, List, [], ◌∷◌, ◌++◌, length, take, replicate, refl, sym, ap, ◌∙◌, subst, arith, Option, Some, None, IsTrue}
use Rattle.std.specs.List.{Contains}
use Rattle.std.proofs.lemmas.Bool.{cond_both, cases_lt, and_parts}
use Rattle.std.proofs.lemmas.List.{append-nil, length-replicate}
use Rattle.stm_wire.proofs.Names.{ack, address_bytes, Awaits, change_of, ChipData, command, command_verdict, complement, Connected, Device, erase_frame, EraseKind, Feeds, flash_size, Fresh}
use Rattle.stm_wire.proofs.Names.{FreshMayBeGreeted, Harmless, HarmlessWithin, in_erase, in_get, in_get_id, in_read, in_ready, in_write, InPage, intended_pages, Intent, is_listed, IsDevice}
use Rattle.stm_wire.proofs.Names.{IsGreetedSafely, IsOpen, IsOpenPhase, IsRefusedIn, IsStopped, ListsKind, MorePagesMayBeGreeted, most_greeted, most_under, page_count, page_limit, pair_of, Phase}
use Rattle.stm_wire.proofs.Names.{Receives, reply_of, reset, ResetMayBeGreeted, SameOutside, settling_byte, StoppedMayBeGreeted, Takes, Verdict, verdict, with_checksum, write_frame, xor}
use Rattle.stm_wire.specs.declared.chip.EraseKind.TheVariants.{Page, Extended}
use Rattle.stm_wire.specs.declared.intent.Intent.TheVariants.{Erase, Program}
use Rattle.stm_wire.specs.declared.verdict.Verdict.TheVariants.{Done, Refused, Loose}
use Rattle.stm_wire.proofs.Flash.{same_flash, effect_within}
use Rattle.stm_wire.proofs.Mild.{Fits, FitsAll, Mild, harmless, mild_empty}
use Rattle.stm_wire.proofs.Bound.{CanCount, IsBytes, IsCounted, by_recursion, counted}
use Rattle.stm_wire.proofs.Ending.{awaits_at, bytes_more, ends_behind, ends_short, more_suffice, open_more, refused_empty, refused_more}
use Rattle.stm_wire.proofs.Enough.{byte_small, no_count, pages_end}
use Rattle.stm_wire.proofs.Closed.{awaits_no_more, harmless_fed, unharmed_fed, same_make}
use Rattle.stm_wire.proofs.EraseHigh.{companion, page_named}
use Rattle.stm_wire.proofs.GreetedRests.{greeted_by, erase_greeted, extended_greeted, get_greeted, id_greeted, read_greeted, write_greeted}
use Rattle.stm_wire.proofs.Stopped.{at_least_under, byte_of, low_byte, high_byte, fewer, fewer_outside, write_confined, stopped_awaits_few, stopped_is_harmless, fresh_is_harmless}

-- How many of the byte suffice:

module _ (chip : ChipData) (codes : List ℕ) (none : IsTrue (is_listed codes 0x7F) → ⊥) where
  -- no device lists 7F
  first_refused : (byte : ℕ) → verdict chip codes (0x7F ∷ byte ∷ []) ≡ Some Refused
  first_refused byte = cond_both (eqb byte (complement 0x7F) && is_listed codes 0x7F) (command_verdict chip 0x7F []) (Some Refused) (λ v. v ≡ Some Refused)
      (λ t. absurd (none (and_parts (eqb byte (complement 0x7F)) (is_listed codes 0x7F) t).1)) (λ _. refl)

  pub first_enough : (byte most : ℕ) → 267 ≤ most → IsRefusedIn chip codes byte most (0x7F ∷ [])
  first_enough byte most le = ends_behind chip codes byte 0 Refused (0x7F ∷ []) most (first_refused byte) (omega arith)

  -- of a frame that is no erase by 44
  pub short : (byte most c : ℕ) (frame : List ℕ) → CanCount c byte → eqb c 0x44 ≡ false → 267 ≤ most → (n : ℕ) → IsCounted (take n (c ∷ frame) ++ 0x7F ∷ []) → IsOpen chip codes (take n (c ∷ frame) ++ 0x7F ∷ [])
      → IsRefusedIn chip codes byte most (take n (c ∷ frame) ++ 0x7F ∷ [])
  short byte most c frame can other le zero by o = first_enough byte most le
  short byte most c frame can other le (suc n) by o = refused_more chip codes byte 267 most (c ∷ (take n frame ++ 0x7F ∷ [])) le (ends_short chip codes byte c (take n frame ++ 0x7F ∷ []) can by o other)

  -- of an erase by 44
  module _ (byte h l check most : ℕ) (listed : IsTrue (is_listed codes 0x44)) (small : byte < 256) (le : 2 * byte + 65030 ≤ most) where
    behind : (a b : ℕ) (ys : List ℕ) (k : ℕ) (rest : List ℕ) → rest ++ replicate (suc k) byte ≡ 0x44 ∷ 0xBB ∷ a ∷ b ∷ ys → pair_of a b < 0xFFF0 → length ys ≡ 2 * (pair_of a b + 1) + 1 → k + 3 ≤ most
        → IsRefusedIn chip codes byte most rest
    behind a b ys k rest e few len enough =
        let end = pages_end chip codes a b ys listed few len in
        ends_behind chip codes byte k end.0 rest most (ap (verdict chip codes) e ∙ end.1) enough

    -- a whole list isn't open
    whole : (check : ℕ) (more : List ℕ) (P : Type 0) → IsOpen chip codes (0x44 ∷ 0xBB ∷ 0 ∷ 0 ∷ h ∷ l ∷ check ∷ more) → P
    whole check more P o =
        let end = pages_end chip codes 0 0 (h ∷ l ∷ check ∷ []) listed (lit< tt) refl in
        let e : None ≡ Some end.0 = sym (o 7) ∙ end.1 in
        absurd cc

    extended : (n : ℕ) → IsOpen chip codes (take n (0x44 ∷ 0xBB ∷ 0 ∷ 0 ∷ h ∷ l ∷ check ∷ []) ++ 0x7F ∷ []) → IsRefusedIn chip codes byte most (take n (0x44 ∷ 0xBB ∷ 0 ∷ 0 ∷ h ∷ l ∷ check ∷ []) ++ 0x7F ∷ [])
    extended zero o = first_enough byte most (omega arith)
    extended (suc zero) o = absurd (let e : Some Refused ≡ None = o 2 in cc)
    extended (suc (suc zero)) o =
        let size = 2 * (pair_of 0x7F byte + 1) + 1 in
        let len = length-replicate size byte in
        behind 0x7F byte (replicate size byte) size (0x44 ∷ 0xBB ∷ 0x7F ∷ []) refl (omega arith) len (omega arith)
    extended (suc (suc (suc zero))) o =
        let len = length-replicate 257 byte in
        behind 0 0x7F (replicate 257 byte) 256 (0x44 ∷ 0xBB ∷ 0 ∷ 0x7F ∷ []) refl (lit< tt) len (omega arith)
    extended (suc (suc (suc (suc zero)))) o = behind 0 0 (0x7F ∷ byte ∷ byte ∷ []) 1 (0x44 ∷ 0xBB ∷ 0 ∷ 0 ∷ 0x7F ∷ []) refl (lit< tt) refl (omega arith)
    extended (suc (suc (suc (suc (suc zero))))) o = behind 0 0 (h ∷ 0x7F ∷ byte ∷ []) 0 (0x44 ∷ 0xBB ∷ 0 ∷ 0 ∷ h ∷ 0x7F ∷ []) refl (lit< tt) refl (omega arith)
    extended (suc (suc (suc (suc (suc (suc zero)))))) o = whole 0x7F [] _ o
    extended (suc (suc (suc (suc (suc (suc (suc zero))))))) o = whole check (0x7F ∷ []) _ o
    extended (suc (suc (suc (suc (suc (suc (suc (suc n)))))))) o = whole check (0x7F ∷ []) _ o

  pub erase_enough : (kind : EraseKind) (N : ℕ) → ListsKind kind codes → (n : ℕ) → IsCounted (take n (erase_frame kind N) ++ 0x7F ∷ []) → IsOpen chip codes (take n (erase_frame kind N) ++ 0x7F ∷ [])
      → IsRefusedIn chip codes (byte_of N) (most_greeted kind (Some (Erase N))) (take n (erase_frame kind N) ++ 0x7F ∷ [])
  erase_enough Page N lists n by o = short (byte_of N) 267 0x43 (0xBC ∷ 0 ∷ N ∷ xor (0 ∷ N ∷ []) ∷ []) (λ _. byte_small (Some (Erase N)), λ _. byte_small (Some (Erase N))) refl (lit≤ tt) n by o
  erase_enough Extended N lists n by o = extended (byte_of N) (N / 256) (N % 256) (xor (0 ∷ 0 ∷ N / 256 ∷ N % 256 ∷ [])) (most_greeted Extended (Some (Erase N))) lists.0 (byte_small (Some (Erase N))) (omega arith) n o

-- What it changes:

-- the pages that the byte and 7F can name, by the kind of the chip
abbrev pub greetable : EraseKind → ℕ → List ℕ
greetable Page N = N ∷ []
greetable Extended N = greeted_by N (byte_of N)

-- on a chip of its kind these are page N alone, and page 257 with page 1
pub one_greetable : (kind : EraseKind) (N n : ℕ) → n < page_limit kind → Contains (greetable kind N) n → Contains (intended_pages (Some (Erase N))) n
one_greetable Page N n small c = page_named N n c
one_greetable Extended N n small (zero, k, e) = page_named N n (0, omega arith, e)
one_greetable Extended N n small (suc zero, k, e) = ⊎_elim
    (λ low. let same = low_byte N low in let f : pair_of N N ≡ n = ap (λ (b : ℕ). pair_of b b) (sym same) ∙ e in companion N n small (1, omega arith, f))
    (λ high. let same = high_byte N high in absurd (let f : 514 ≡ n = ap (λ (b : ℕ). pair_of b b) (sym same) ∙ e in omega arith))
    (cases_lt N 256)
one_greetable Extended N n small (suc (suc zero), k, e) = absurd (let f : pair_of 0x7F (byte_of N) ≡ n = e in omega (arith, f, small))
one_greetable Extended N n small (suc (suc (suc j)), k, e) = absurd (omega arith)

-- where the low half of the page is 7F, and the byte is its check, it is the page
low_half : (N : ℕ) → N < 512 → byte_of N ≡ xor (0 ∷ 0 ∷ N / 256 ∷ 0x7F ∷ []) → N ≡ pair_of (N / 256) 0x7F
low_half N small e = ⊎_elim
    (λ low.
    let q : N / 256 ≡ 0 = omega (arith, low) in
    let m : N ≡ 0x7F = sym (low_byte N low) ∙ e ∙ ap (λ (h : ℕ). xor (0 ∷ 0 ∷ h ∷ 0x7F ∷ [])) q in
    omega (arith, q, m))
    (λ high.
    let q : N / 256 ≡ 1 = omega (arith, high, small) in
    let m : 2 ≡ 0x7E = sym (high_byte N high) ∙ e ∙ ap (λ (h : ℕ). xor (0 ∷ 0 ∷ h ∷ 0x7F ∷ [])) q in
    absurd (omega (arith, m)))
    (cases_lt N 256)

pub erase_mild : (chip : ChipData) (codes : List ℕ) → (IsTrue (is_listed codes 0x7F) → ⊥) → (kind : EraseKind) (N : ℕ) → N < page_limit kind → (n : ℕ)
    → Mild chip codes (byte_of N) (greetable kind N) (take n (erase_frame kind N) ++ 0x7F ∷ [])
erase_mild chip codes none Page N small n = rw (low_byte N small) (erase_greeted chip codes none N (xor (0 ∷ N ∷ [])) n)
erase_mild chip codes none Extended N small n =
    extended_greeted chip codes none N (byte_of N) (N / 256) (N % 256) (byte_small (Some (Erase N))) (omega arith) (low_half N small) (xor (0 ∷ 0 ∷ N / 256 ∷ N % 256 ∷ [])) n

-- What one 7F leaves:

left_empty : (most byte : ℕ) (pages : List ℕ) (d new : Device) (flash owed : List ℕ) → 2 ≤ most → length d.flash ≡ flash_size d.chip → SameOutside d.chip pages d.flash flash
    → new ≡ record d { flash = flash; owed = owed; phase = Connected [] } → IsGreetedSafely most byte pages d new
left_empty most byte pages d new flash owed two size same e = subst (IsGreetedSafely most byte pages d) (sym e) (record {
  same_chip = refl;
  flash = same;
  harmless = record { harmless = harmless byte pages (record d { flash = flash; owed = owed; phase = Connected [] }) (same.same_length ∙ size) (mild_empty d.chip d.codes byte pages); awaits = refused_empty d.chip d.codes byte most two };
})

pub greet : (most byte : ℕ) (pages : List ℕ) (d new : Device) (rest : List ℕ) → 2 ≤ most → length d.flash ≡ flash_size d.chip → d.phase ≡ Connected rest → Mild d.chip d.codes byte pages (rest ++ 0x7F ∷ [])
    → (verdict d.chip d.codes (rest ++ 0x7F ∷ []) ≡ None → IsRefusedIn d.chip d.codes byte most (rest ++ 0x7F ∷ [])) → Feeds 0x7F d new → IsGreetedSafely most byte pages d new
greet most byte pages d new rest two size at m enough f = go (verdict d.chip d.codes bytes) refl fits (subst (λ (p : Phase). Receives d p 0x7F new) at f.receives)
  where
    bytes : List ℕ
    bytes = rest ++ 0x7F ∷ []

    fits : FitsAll d.chip d.codes pages bytes
    fits = subst (FitsAll d.chip d.codes pages) (append-nil bytes) (m 0)

    same : SameOutside d.chip pages d.flash d.flash
    same = same_flash d.chip pages d.flash d.flash refl

    go : (v : Option Verdict) → verdict d.chip d.codes bytes ≡ v → Fits d.chip pages bytes v → Takes d bytes v new → IsGreetedSafely most byte pages d new
    go None e f t = subst (IsGreetedSafely most byte pages d) (sym t) (record {
      same_chip = refl;
      flash = same;
      harmless = record { harmless = harmless byte pages (record d { owed = d.owed ++ reply_of d bytes; phase = Connected bytes }) size m; awaits = enough e };
    })
    go (Some Refused) e f t = left_empty most byte pages d new d.flash (d.owed ++ reply_of d bytes) two size same t
    go (Some Done) e f (flash, effect, t) = left_empty most byte pages d new flash (d.owed ++ reply_of d bytes) two size (effect_within d.chip pages (change_of bytes) d.flash flash size f.1 effect)
        (t ∙ ap (λ (p : Phase). let r : Device = record d { flash = flash; owed = d.owed ++ reply_of d bytes; phase = p } in r) f.0)
    go (Some Loose) e f t = absurd f

-- a rest that begins this frame
begun : (most byte : ℕ) (pages : List ℕ) (d : Device) (rest frame : List ℕ) (n : ℕ) → IsDevice d → d.phase ≡ Connected rest → rest ≡ take n frame → 2 ≤ most → Mild d.chip d.codes byte pages (take n frame ++ 0x7F ∷ [])
    → (IsCounted (take n frame ++ 0x7F ∷ []) → IsOpen d.chip d.codes (take n frame ++ 0x7F ∷ []) → IsRefusedIn d.chip d.codes byte most (take n frame ++ 0x7F ∷ [])) → (new : Device) → Feeds 0x7F d new → IsGreetedSafely most byte pages d new
begun most byte pages d rest frame n is at e two m enough new f =
    let here : d.phase ≡ Connected (take n frame) = at ∙ ap Connected e in
    let open' : IsOpenPhase d.chip d.codes (Connected (take n frame)) = subst (IsOpenPhase d.chip d.codes) here is.phase in
    let by : IsBytes (take n frame) = by_recursion (take n frame) open'.1 in
    greet most byte pages d new (take n frame) two is.size here m
    (λ v. enough (counted (take n frame ++ 0x7F ∷ []) (bytes_more (take n frame) 0x7F by (lit< tt))) (open_more d.chip d.codes (take n frame) 0x7F open'.0 v)) f

within_fewer : (most byte : ℕ) (pages more : List ℕ) (d : Device) → ((n : ℕ) → n < page_count d.chip → Contains more n → Contains pages n) → HarmlessWithin most d byte more → HarmlessWithin most d byte pages
within_fewer most byte pages more d f h = record { harmless = fewer d byte pages more f h.harmless; awaits = h.awaits }

pub greeted_fewer : (most byte : ℕ) (pages more : List ℕ) (d new : Device) → ((n : ℕ) → n < page_count d.chip → Contains more n → Contains pages n) → IsGreetedSafely most byte more d new → IsGreetedSafely most byte pages d new
greeted_fewer most byte pages more d new f g = record {
  same_chip = g.same_chip;
  flash = fewer_outside d.chip pages more d.flash new.flash f g.flash;
  harmless = within_fewer most byte pages more new (λ n le c. f n (subst (λ (chip : ChipData). n < page_count chip) g.same_chip le) c) g.harmless;
}

-- the limit behind a greeting is no less than without one
least : (kind : EraseKind) (intent : Option Intent) → most_under kind intent ≤ most_greeted kind intent
least Page None = lit≤ tt
least Page (Some (Erase n)) = lit≤ tt
least Page (Some (Program n)) = lit≤ tt
least Extended None = lit≤ tt
least Extended (Some (Erase n)) = omega arith
least Extended (Some (Program n)) = lit≤ tt

pub within_greeted : (d : Device) (intent : Option Intent) (pages : List ℕ) → Harmless d (settling_byte intent) pages → Awaits (settling_byte intent) (most_under d.chip.kind intent) d
    → HarmlessWithin (most_greeted d.chip.kind intent) d (settling_byte intent) pages
within_greeted d intent pages h w = record {
  harmless = h;
  awaits = more_suffice d (settling_byte intent) (most_under d.chip.kind intent) (most_greeted d.chip.kind intent) (least d.chip.kind intent) w;
}

pub short_least : (kind : EraseKind) (intent : Option Intent) → 267 ≤ most_greeted kind intent
short_least kind intent = let a = at_least_under kind intent in let b = least kind intent in omega arith

-- what one 7F leaves of it is harmless
abbrev pub Safe : Device → Option Intent → List ℕ → Type 0
Safe d intent pages = (new : Device) → Feeds 0x7F d new → IsGreetedSafely (most_greeted d.chip.kind intent) (settling_byte intent) pages d new

erase_stopped : (d : Device) (N n : ℕ) (rest : List ℕ) → IsDevice d → d.phase ≡ Connected rest → N < page_count d.chip → rest ≡ take n (erase_frame d.chip.kind N) → Safe d (Some (Erase N)) (intended_pages (Some (Erase N)))
erase_stopped d N n rest is at here e new f =
    let limit = is.chip.last_page in
    let kind = d.chip.kind in
    let small : N < page_limit kind = omega (arith, here, limit) in
    let most = most_greeted kind (Some (Erase N)) in
    greeted_fewer most (byte_of N) (intended_pages (Some (Erase N))) (greetable kind N) d new (λ m le c. one_greetable kind N m (omega (arith, le, limit)) c)
    (begun most (byte_of N) (greetable kind N) d rest (erase_frame kind N) n is at e (let l = short_least kind (Some (Erase N)) in omega arith) (erase_mild d.chip d.codes is.no_connect kind N small n) (erase_enough d.chip d.codes is.no_connect kind N is.erase n) new f)

-- of a frame that begins so, and is no erase by 44
short_stopped : (d : Device) (intent : Option Intent) (pages rest : List ℕ) (c : ℕ) (frame : List ℕ) (n : ℕ) → IsDevice d → d.phase ≡ Connected rest → rest ≡ take n (c ∷ frame) → CanCount c (settling_byte intent) → eqb c 0x44 ≡ false
    → Mild d.chip d.codes (settling_byte intent) pages (take n (c ∷ frame) ++ 0x7F ∷ []) → Safe d intent pages
short_stopped d intent pages rest c frame n is at e can other m new f =
    let most = most_greeted d.chip.kind intent in
    let l = short_least d.chip.kind intent in
    begun most (settling_byte intent) pages d rest (c ∷ frame) n is at e (omega arith) m (short d.chip d.codes is.no_connect (settling_byte intent) most c frame can other l n) new f

write_stopped : (d : Device) (N address n : ℕ) (sent rest : List ℕ) → IsDevice d → d.phase ≡ Connected rest → 1 ≤ length sent → InPage d.chip N address (length sent) → rest ≡ take n (write_frame address sent) → Safe d (Some (Program N)) (N ∷ [])
write_stopped d N address n sent rest is at some inside e =
    short_stopped d (Some (Program N)) (N ∷ []) rest 0x31 (0xCE ∷ with_checksum (address_bytes address) ++ with_checksum ((length sent - 1) ∷ sent)) n is at e (λ _. lit< tt, λ _. lit< tt) refl
    (write_greeted d.chip d.codes is.no_connect (N ∷ []) (address / 16777216) (address / 65536 % 256) (address / 256 % 256) (address % 256) (xor (address_bytes address)) (length sent - 1)
    (sent ++ xor ((length sent - 1) ∷ sent) ∷ []) (write_confined d.chip N address sent some inside) n)

pub safe_under : (d : Device) (i j : Option Intent) → i ≡ j → Safe d j (intended_pages j) → Safe d i (intended_pages i)
safe_under d i j e s = subst (λ (x : Option Intent). Safe d x (intended_pages x)) (sym e) s

-- without an intent 7F is the settling byte
pub ready_stopped : (d : Device) → HarmlessWithin (most_greeted d.chip.kind None) d 0x7F [] → Safe d None []
ready_stopped d h new f =
    let make = same_make 0x7F d new f in
    record {
      same_chip = make.chip;
      flash = unharmed_fed 0x7F [] d new h.harmless f;
      harmless = record { harmless = harmless_fed 0x7F [] d new h.harmless f; awaits = awaits_no_more d new 0x7F (most_greeted d.chip.kind None) [] h.harmless (let l = short_least d.chip.kind None in omega arith) h.awaits f };
    }

stopped_safe : (d : Device) (intent : Option Intent) (rest : List ℕ) → IsDevice d → d.phase ≡ Connected rest → IsStopped d intent rest → Safe d intent (intended_pages intent)
stopped_safe d intent rest is at (in_get n e) = let b = settling_byte intent in
    short_stopped d intent (intended_pages intent) rest 0x00 (0xFF ∷ []) n is at e (no_count 0x00 b refl refl) refl (get_greeted d.chip d.codes is.no_connect b (intended_pages intent) (0xFF ∷ []) n)
stopped_safe d intent rest is at (in_get_id n e) = let b = settling_byte intent in
    short_stopped d intent (intended_pages intent) rest 0x02 (0xFD ∷ []) n is at e (no_count 0x02 b refl refl) refl (id_greeted d.chip d.codes is.no_connect b (intended_pages intent) (0xFD ∷ []) n)
stopped_safe d intent rest is at (in_read address size n e) = let b = settling_byte intent in
    let frame = 0xEE ∷ with_checksum (address_bytes address) ++ command (size - 1) in
    short_stopped d intent (intended_pages intent) rest 0x11 frame n is at e (no_count 0x11 b refl refl) refl (read_greeted d.chip d.codes is.no_connect b (intended_pages intent) frame n)
stopped_safe d intent rest is at (in_ready none r) = let s = in_ready refl r in
    safe_under d intent None none (ready_stopped d (within_greeted d None [] (stopped_is_harmless d None rest is at s) (stopped_awaits_few d None rest is at s)))
stopped_safe d intent rest is at (in_erase N n here i e) = safe_under d intent (Some (Erase N)) i (erase_stopped d N n rest is at here e)
stopped_safe d intent rest is at (in_write N address n sent i some inside e) = safe_under d intent (Some (Program N)) i (write_stopped d N address n sent rest is at some inside e)

pub stopped_may_be_greeted : StoppedMayBeGreeted
stopped_may_be_greeted d intent rest is at s = record {
  now = within_greeted d intent (intended_pages intent) (stopped_is_harmless d intent rest is at s) (stopped_awaits_few d intent rest is at s);
  greeted = stopped_safe d intent rest is at s;
}

pub fresh_may_be_greeted : FreshMayBeGreeted
fresh_may_be_greeted d intent pages is e = record {
  now = record {
    harmless = fresh_is_harmless d (settling_byte intent) pages is e;
    awaits = awaits_at d (settling_byte intent) (most_greeted d.chip.kind intent) Fresh e (λ _. let l = short_least d.chip.kind intent in omega arith);
  };
  greeted = λ new f.
      let l = short_least d.chip.kind intent in
      let r : Receives d Fresh 0x7F new = subst (λ (p : Phase). Receives d p 0x7F new) e f.receives in
      left_empty (most_greeted d.chip.kind intent) (settling_byte intent) pages d new d.flash (d.owed ++ ack ∷ []) (omega arith) is.size (same_flash d.chip pages d.flash d.flash refl) r;
}

pub reset_may_be_greeted : ResetMayBeGreeted
reset_may_be_greeted d intent pages is g = fresh_may_be_greeted (reset d) intent pages (record {
  chip = is.chip;
  version = is.version;
  codes = is.codes;
  count = is.count;
  get = is.get;
  get_id = is.get_id;
  read = is.read;
  write = is.write;
  erase = is.erase;
  no_connect = is.no_connect;
  size = is.size;
  flash = is.flash;
  phase = tt;
}) refl

pub more_may_be_greeted : MorePagesMayBeGreeted
more_may_be_greeted d intent less more f g = record {
  now = within_fewer (most_greeted d.chip.kind intent) (settling_byte intent) more less d f g.now;
  greeted = λ new fed. greeted_fewer (most_greeted d.chip.kind intent) (settling_byte intent) more less d new f (g.greeted new fed);
}
