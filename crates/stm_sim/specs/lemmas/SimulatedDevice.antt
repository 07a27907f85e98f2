-- After a byte, the simulator is a device of the model.
use Rattle.std.proofs.Common.{take_all, length-append, ⊎_elim, ◌⊎◌, inl, inr, ◌||◌, replicate}
use Rattle.std.proofs.Common.{◌≡◌, ℕ, zero, suc, ◌+◌, ◌-◌, ◌<◌, ◌≤◌, Bool, true, false, ◌==◌}
use Rattle.std.proofs.Common.{if◌then◌else◌, List, [], ◌∷◌, ◌++◌, length, take, drop, All}
use Rattle.std.proofs.Common.{Option, Some, None, refl, ◌∙◌, ap, arith, length-take, length-drop}
use Rattle.std.proofs.lemmas.List.Elements.{All-take, All-append, All-drop}
use Rattle.std.proofs.lemmas.List.{length-replicate, take-append-le}
use Rattle.stm_wire.specs.declared.verdict.Verdict.{Verdict}
use Rattle.stm_wire.specs.declared.verdict.Verdict.TheVariants.{Done, Refused, Loose}
use Rattle.stm_wire.specs.Chip.{ChipData, IsErasedByte, erased_byte}
use Rattle.stm_wire.specs.Chip.{flash_size, page_offset, page_size, with_bytes}
use Rattle.stm_wire.specs.lemmas.PageLaws.{length-with_bytes, fits-end}
use Rattle.stm_wire.specs.lemmas.FlashLaws.{length-erased_pages}
use Rattle.stm_wire.specs.Exchange.{verdict, IsOpen}
use Rattle.stm_wire.specs.Effect.{erased_pages, Change, Nothing}
use Rattle.stm_wire.specs.Effect.{ErasePages, EraseAll, Write, change_of}
use Rattle.stm_wire.specs.Device.{Device, Phase, Fresh, Connected, Gone}
use Rattle.stm_wire.specs.Device.{IsOpenPhase, IsDevice, reply_of, phase_after}
use Rattle.stm_wire.specs.Reply.{ack, nack}
use Rattle.stm_sim.specs.Simulator.{simulated_device, Fits, stored_bytes, changed_flash}
use Rattle.stm_sim.specs.Simulator.{after_loose, after_verdict, after_byte}
use Rattle.stm_sim.specs.lemmas.Simulated.{Small, small-tail, small-change, done-change-fits}
use Rattle.stm_sim.specs.lemmas.Simulated.{open-nothing, bytes-erased, stored_byte-small}

abbrev pub IsByte : ℕ → Type 0
IsByte b = b < 256

bytes-with_bytes : (at : ℕ) (bytes flash : List ℕ) → All IsByte bytes → All IsByte flash
    → All IsByte (with_bytes at bytes flash)
bytes-with_bytes at bytes flash b f =
    All-append IsByte (take at flash ++ bytes) (drop (at + length bytes) flash)
    (All-append IsByte (take at flash) bytes (All-take IsByte at flash f) b)
    (All-drop IsByte (at + length bytes) flash f)

bytes-erased_pages : (chip : ChipData) (pages flash : List ℕ) → IsErasedByte (erased_byte chip)
    → All IsByte flash → All IsByte (erased_pages chip pages flash)
bytes-erased_pages chip [] flash one all = all
bytes-erased_pages chip (n ∷ pages) flash one all =
    bytes-erased_pages chip pages
    (with_bytes (page_offset chip n) (replicate (page_size chip n) (erased_byte chip)) flash) one
    (bytes-with_bytes (page_offset chip n) (replicate (page_size chip n) (erased_byte chip)) flash
    (bytes-erased (page_size chip n) (erased_byte chip) one) all)

length-stored_bytes : (erased : ℕ) (olds sents : List ℕ) → length olds ≡ length sents
    → length (stored_bytes erased olds sents) ≡ length sents
length-stored_bytes erased [] [] e = refl
length-stored_bytes erased (o ∷ olds) (s ∷ sents) e =
    ap suc (length-stored_bytes erased olds sents (omega (arith, e)))
length-stored_bytes erased olds sents e = absurd (omega (arith, e))

bytes-stored_bytes : (erased : ℕ) (olds sents : List ℕ) → All IsByte olds → All IsByte sents
    → All IsByte (stored_bytes erased olds sents)
bytes-stored_bytes erased (o ∷ olds) (s ∷ sents) before all zero e h =
    stored_byte-small erased o s (before 0 0 (omega arith)) (all 0 0 (omega arith))
bytes-stored_bytes erased (o ∷ olds) (s ∷ sents) before all (suc k) e h =
    bytes-stored_bytes erased olds sents (small-tail o olds before) (small-tail s sents all) k e
    (omega (arith, h))
bytes-stored_bytes erased olds sents before all k e h = absurd (omega (arith, h))

length-changed : (chip : ChipData) (change : Change) (old : List ℕ) → length old ≡ flash_size chip
    → Fits chip change → length (changed_flash chip change old) ≡ length old
length-changed chip Nothing old size fits = refl
length-changed chip (ErasePages pages) old size fits = length-erased_pages chip pages old size
length-changed chip EraseAll old size fits = length-replicate (length old) (erased_byte chip)
length-changed chip (Write address sent) old size fits =
    let e = fits-end chip address (length sent) fits in
    let part = take (length sent) (drop (address - chip.base) old) in
    let same : length part ≡ length sent =
    simp (length-take, length-drop) (omega (arith, size, e.0, e.1)) in
    length-with_bytes (address - chip.base) (stored_bytes (erased_byte chip) part sent) old
    (omega (arith, length-stored_bytes (erased_byte chip) part sent same, size, e.0, e.1))

bytes-changed : (chip : ChipData) (change : Change) (old : List ℕ) → IsErasedByte (erased_byte chip)
    → All IsByte old → Small change → All IsByte (changed_flash chip change old)
bytes-changed chip Nothing old one all small = all
bytes-changed chip (ErasePages pages) old one all small = bytes-erased_pages chip pages old one all
bytes-changed chip EraseAll old one all small = bytes-erased (length old) (erased_byte chip) one
bytes-changed chip (Write address sent) old one all small =
    let part = take (length sent) (drop (address - chip.base) old) in
    let before =
    All-take IsByte (length sent) (drop (address - chip.base) old)
    (All-drop IsByte (address - chip.base) old all) in
    bytes-with_bytes (address - chip.base) (stored_bytes (erased_byte chip) part sent) old
    (bytes-stored_bytes (erased_byte chip) part sent before small) all

-- another flash of bytes, other owed bytes and another phase
pub with-parts : (d : Device) (flash owed : List ℕ) (phase : Phase) → IsDevice d
    → length flash ≡ length d.flash → All IsByte flash → IsOpenPhase d.chip d.codes phase
    → IsDevice (record d { flash = flash; owed = owed; phase = phase })
with-parts d flash owed phase is size all waits =
    record {
      chip = is.chip;
      version = is.version;
      codes = is.codes;
      count = is.count;
      get = is.get;
      get_id = is.get_id;
      read = is.read;
      write = is.write;
      erase = is.erase;
      no_connect = is.no_connect;
      size = size ∙ is.size;
      flash = all;
      phase = waits;
    }

nothing-waits : (chip : ChipData) (codes : List ℕ) → IsOpenPhase chip codes (Connected [])
nothing-waits chip codes = (open-nothing chip codes, λ k e h. absurd (omega (arith, h)))

pub le-or-gt : (a b : ℕ) → (a ≤ b) ⊎ (b < a)
le-or-gt zero b = inl (omega arith)
le-or-gt (suc a) zero = inr (omega arith)
le-or-gt (suc a) (suc b) =
    ⊎_elim (λ l. inl (omega (arith, l))) (λ g. inr (omega (arith, g))) (le-or-gt a b)

pub open-more : (chip : ChipData) (codes rest : List ℕ) (byte : ℕ) → IsOpen chip codes rest
    → verdict chip codes (rest ++ byte ∷ []) ≡ None → IsOpen chip codes (rest ++ byte ∷ [])
open-more chip codes rest byte is none n =
    ⊎_elim (short n)
    (λ over.
    ap (λ xs. verdict chip codes xs)
    (take_all n (rest ++ byte ∷ []) (omega (arith, over, length-append rest (byte ∷ [])))) ∙ none)
    (le-or-gt n (length rest))
  where
    short : (k : ℕ) → k ≤ length rest → verdict chip codes (take k (rest ++ byte ∷ [])) ≡ None
    short k le = ap (λ xs. verdict chip codes xs) (take-append-le k rest (byte ∷ []) le) ∙ is k

phase-after : (chip : ChipData) (codes bytes : List ℕ) → IsOpenPhase chip codes (phase_after bytes)
phase-after chip codes [] = nothing-waits chip codes
phase-after chip codes (code ∷ rest) = by_code (code == 0x21)
  where
    by_code : (b : Bool) → IsOpenPhase chip codes (if b then Gone else Connected [])
    by_code true = tt
    by_code false = nothing-waits chip codes

loosened-device : (d : Device) (z xy : Bool) → IsDevice d
    → IsDevice
    (if z
    then record d {
      flash = replicate (length d.flash) (erased_byte d.chip);
      owed = d.owed ++ ack ∷ ack ∷ [];
      phase = Fresh;
    }
    else (if xy then record d { owed = d.owed ++ ack ∷ ack ∷ []; phase = Fresh }
    else record d { owed = d.owed ++ nack ∷ []; phase = Connected [] }))
loosened-device d true xy is =
    with-parts d (replicate (length d.flash) (erased_byte d.chip))
    (d.owed ++ ack ∷ ack ∷ []) Fresh is (length-replicate (length d.flash) (erased_byte d.chip))
    (bytes-erased (length d.flash) (erased_byte d.chip) is.chip.erased) tt
loosened-device d false true is =
    with-parts d d.flash (d.owed ++ ack ∷ ack ∷ []) Fresh is refl is.flash tt
loosened-device d false false is =
    with-parts d d.flash (d.owed ++ nack ∷ []) (Connected []) is refl is.flash
    (nothing-waits d.chip d.codes)

verdict-device : (d : Device) (rest : List ℕ) (byte : ℕ) (v : Option Verdict) → IsDevice d
    → IsOpen d.chip d.codes rest → All IsByte (rest ++ byte ∷ [])
    → verdict d.chip d.codes (rest ++ byte ∷ []) ≡ v
    → IsDevice (after_verdict d (rest ++ byte ∷ []) v)
verdict-device d rest byte None is waits small e =
    with-parts d d.flash (d.owed ++ reply_of d (rest ++ byte ∷ []))
    (Connected (rest ++ byte ∷ [])) is refl is.flash
    (open-more d.chip d.codes rest byte waits e, small)
verdict-device d rest byte (Some Refused) is waits small e =
    with-parts d d.flash (d.owed ++ reply_of d (rest ++ byte ∷ [])) (Connected []) is refl is.flash
    (nothing-waits d.chip d.codes)
verdict-device d rest byte (Some Done) is waits small e =
    let bytes = rest ++ byte ∷ [] in
    with-parts d (changed_flash d.chip (change_of bytes) d.flash) (d.owed ++ reply_of d bytes)
    (phase_after bytes) is
    (length-changed d.chip (change_of bytes) d.flash is.size
    (done-change-fits d.chip d.codes bytes e))
    (bytes-changed d.chip (change_of bytes) d.flash is.chip.erased is.flash
    (small-change bytes small)) (phase-after d.chip d.codes bytes)
verdict-device d rest byte (Some Loose) is waits small e = loosened-is (rest ++ byte ∷ [])
  where
    loosened-is : (bytes : List ℕ) → IsDevice (after_loose d bytes)
    loosened-is [] = is
    loosened-is (code ∷ more) = loosened-device d (code == 0x92) (code == 0x73 || code == 0x82) is

byte-device : (d : Device) (phase : Phase) (byte : ℕ) → byte < 256 → IsDevice d
    → IsOpenPhase d.chip d.codes phase → IsDevice (after_byte d phase byte)
byte-device d Fresh byte small is p = fresh (byte == 0x7F)
  where
    fresh : (b : Bool)
        → IsDevice (if b then record d { owed = d.owed ++ ack ∷ []; phase = Connected [] } else d)
    fresh true =
        with-parts d d.flash (d.owed ++ ack ∷ []) (Connected []) is refl is.flash
        (nothing-waits d.chip d.codes)
    fresh false = is
byte-device d Gone byte small is p = is
byte-device d (Connected rest) byte small is p =
    verdict-device d rest byte (verdict d.chip d.codes (rest ++ byte ∷ [])) is p.0
    (All-append IsByte rest (byte ∷ []) p.1 single) refl
  where
    single : All IsByte (byte ∷ [])
    single zero e h = small
    single (suc k) e h = absurd (omega (arith, h))

pub simulated_device-IsDevice : (byte : ℕ) (d : Device) → byte < 256 → IsDevice d
    → IsDevice (simulated_device byte d)
unfolding simulated_device
simulated_device-IsDevice byte d small is = byte-device d d.phase byte small is is.phase
