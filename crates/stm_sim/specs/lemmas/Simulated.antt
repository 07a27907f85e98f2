-- The simulator's choices are the model's.
use Rattle.std.proofs.Common.{◌||◌, inl, inr, replicate, true≢false, bit_and, bit_or, ◌≡◌, ℕ, zero}
use Rattle.std.proofs.Common.{suc, ◌-◌, ◌<◌, Bool, true, false, ◌==◌, if◌then◌else◌, List, [], ◌∷◌}
use Rattle.std.proofs.Common.{◌++◌, length, take, drop, All, Option, Some, None, refl, sym, ◌∙◌}
use Rattle.std.proofs.Common.{ap, arith, length-take, length-drop, mod-eq_of_lt, suc-le-suc}
use Rattle.std.proofs.lemmas.List.Elements.{All-take, All-drop, All-append}
use Rattle.std.proofs.lemmas.Nat.{and_le_r, and_comm, or_lt}
use Rattle.std.specs.Int.Bits.{or_zero_l}
use Rattle.std.proofs.lemmas.Grind.{and_numeral}
use Rattle.std.proofs.lemmas.List.{length-replicate}
use Rattle.stm_wire.specs.declared.verdict.Verdict.{Verdict}
use Rattle.stm_wire.specs.declared.verdict.Verdict.TheVariants.{Done, Refused, Loose}
use Rattle.stm_wire.specs.Chip.{ChipData, IsErasedByte, erased_byte, flash_size}
use Rattle.stm_wire.specs.lemmas.PageLaws.{fits-end}
use Rattle.stm_wire.specs.Exchange.{verdict, IsOpen}
use Rattle.stm_wire.specs.Effect.{Change, Nothing, ErasePages, EraseAll}
use Rattle.stm_wire.specs.Effect.{Write, Effect, Stores, change_of}
use Rattle.stm_wire.specs.Device.{Device, Phase, Fresh, Connected, Gone, IsOpenPhase}
use Rattle.stm_wire.specs.Device.{IsDevice, Feeds, Receives, Takes, IsLoose, is_protection}
use Rattle.stm_wire.specs.Reply.{ack, nack, reply_to}
use Rattle.stm_sim.specs.Simulator.{simulated_device, Fits, stored_byte, stored_bytes}
use Rattle.stm_sim.specs.Simulator.{changed_flash, after_loose, after_verdict, after_byte}
pub use Rattle.stm_sim.specs.lemmas.SimulatedChange.{done-change-fits, Small, small-change}

pub small-tail : (x : ℕ) (xs : List ℕ) → All (λ b. b < 256) (x ∷ xs) → All (λ b. b < 256) xs
small-tail x xs all k d h = all (suc k) d (suc-le-suc h)

and-full : (b : ℕ) → b < 256 → bit_and 255 b ≡ b
and-full b h = and_comm 255 b ∙ and_numeral b 254 refl ∙ mod-eq_of_lt h

-- what the simulator stores is a byte
pub stored_byte-small : (erased old sent : ℕ) → old < 256 → sent < 256
    → stored_byte erased old sent < 256
stored_byte-small erased old sent o s =
    elim (erased == 0) as
    (λ t. (if t then bit_or old sent else bit_and old sent) < 256)
    [ true ↦ or_lt 8 old sent o s | false ↦ omega (arith, and_le_r old sent, s) ]

-- and over an erased byte it is the byte sent
stored_byte-erased : (erased old sent : ℕ) → IsErasedByte erased → sent < 256 → old ≡ erased
    → stored_byte erased old sent ≡ sent
stored_byte-erased erased old sent (inl none) s e =
    ap (λ z. stored_byte z old sent) none ∙ ap (λ x. bit_or x sent) (e ∙ none) ∙ or_zero_l sent
stored_byte-erased erased old sent (inr all) s e =
    ap (λ z. stored_byte z old sent) all ∙ ap (λ x. bit_and x sent) (e ∙ all) ∙ and-full sent s

-- what the simulator stores is what a device may store
stores : (erased : ℕ) (olds sents : List ℕ) → IsErasedByte erased → length olds ≡ length sents
    → All (λ b. b < 256) olds → All (λ b. b < 256) sents
    → Stores erased olds sents (stored_bytes erased olds sents)
stores erased [] [] one e before small = tt
stores erased (o ∷ olds) (s ∷ sents) one e before small =
    let le : s < 256 = small 0 0 (omega arith) in
    let was : o < 256 = before 0 0 (omega arith) in (
      stored_byte-small erased o s was le,
      stored_byte-erased erased o s one le,
      stores erased olds sents one (omega (arith, e)) (small-tail o olds before)
          (small-tail s sents small),
    )
stores erased olds sents one e before small = absurd (omega (arith, e))

-- the simulator's change is one of the device's
effect : (chip : ChipData) (change : Change) (old : List ℕ) → IsErasedByte (erased_byte chip)
    → length old ≡ flash_size chip → All (λ b. b < 256) old → Fits chip change → Small change
    → Effect chip change old (changed_flash chip change old)
effect chip Nothing old one size before fits small = refl
effect chip (ErasePages pages) old one size before fits small = refl
effect chip EraseAll old one size before fits small = refl
effect chip (Write address sent) old one size before fits small =
    let e = fits-end chip address (length sent) fits in
    let part = take (length sent) (drop (address - chip.base) old) in
    let same : length part ≡ length sent =
    simp (length-take, length-drop) (omega (arith, size, e.0, e.1)) in
    let bytes =
    All-take (λ b. b < 256) (length sent) (drop (address - chip.base) old)
    (All-drop (λ b. b < 256) (address - chip.base) old before) in (
      stored_bytes (erased_byte chip) part sent,
      stores (erased_byte chip) part sent one same bytes small,
      refl,
    )

pub takes-done : (d : Device) (bytes : List ℕ) → IsDevice d → All (λ b. b < 256) bytes
    → verdict d.chip d.codes bytes ≡ Some Done
    → Takes d bytes (Some Done) (after_verdict d bytes (Some Done))
takes-done d bytes is small v = (
  changed_flash d.chip (change_of bytes) d.flash,
  effect d.chip (change_of bytes) d.flash is.chip.erased is.size is.flash
      (done-change-fits d.chip d.codes bytes v) (small-change bytes small),
  refl,
)

-- no byte has no verdict
pub open-nothing : (chip : ChipData) (codes : List ℕ) → IsOpen chip codes []
open-nothing chip codes zero = refl
open-nothing chip codes (suc n) = refl

-- an erased flash holds bytes
pub bytes-erased : (n erased : ℕ) → IsErasedByte erased → All (λ b. b < 256) (replicate n erased)
bytes-erased zero erased one k e h = absurd (omega (arith, h))
bytes-erased (suc n) erased (inl none) zero e h = omega (arith, none)
bytes-erased (suc n) erased (inr all) zero e h = omega (arith, all)
bytes-erased (suc n) erased one (suc k) e h = bytes-erased n erased one k e (omega (arith, h))

-- the tests for 73, 82 and 92
loose-by : (d : Device) (bytes : List ℕ) (x y z : Bool) → IsDevice d
    → verdict d.chip d.codes bytes ≡ Some Loose → is_protection bytes ≡ (x || (y || z))
    → IsLoose d bytes
    (if z
    then record d {
      flash = replicate (length d.flash) (erased_byte d.chip);
      owed = d.owed ++ ack ∷ ack ∷ [];
      phase = Fresh;
    }
    else (if x || y then record d { owed = d.owed ++ ack ∷ ack ∷ []; phase = Fresh }
    else record d { owed = d.owed ++ nack ∷ []; phase = Connected [] }))
loose-by d bytes x y true is v p =
    record {
      chip = refl;
      version = refl;
      codes = refl;
      same_length = length-replicate (length d.flash) (erased_byte d.chip);
      flash = bytes-erased (length d.flash) (erased_byte d.chip) is.chip.erased;
      phase = tt;
      owed = λ yes. ap (λ w. d.owed ++ reply_to w d.chip d.version d.codes d.flash bytes) (sym v);
    }
loose-by d bytes true y false is v p =
    record {
      chip = refl;
      version = refl;
      codes = refl;
      same_length = refl;
      flash = is.flash;
      phase = tt;
      owed = λ yes. ap (λ w. d.owed ++ reply_to w d.chip d.version d.codes d.flash bytes) (sym v);
    }
loose-by d bytes false true false is v p =
    record {
      chip = refl;
      version = refl;
      codes = refl;
      same_length = refl;
      flash = is.flash;
      phase = tt;
      owed = λ yes. ap (λ w. d.owed ++ reply_to w d.chip d.version d.codes d.flash bytes) (sym v);
    }
loose-by d bytes false false false is v p =
    record {
      chip = refl;
      version = refl;
      codes = refl;
      same_length = refl;
      flash = is.flash;
      phase = (open-nothing d.chip d.codes, λ k e h. absurd (omega (arith, h)));
      owed = λ yes. absurd (true≢false (sym yes ∙ p));
    }

takes-loose : (d : Device) (bytes : List ℕ) → IsDevice d → verdict d.chip d.codes bytes ≡ Some Loose
    → IsLoose d bytes (after_loose d bytes)
takes-loose d [] is v = cc
takes-loose d (code ∷ rest) is v =
    loose-by d (code ∷ rest) (code == 0x73) (code == 0x82) (code == 0x92) is v refl

takes : (d : Device) (bytes : List ℕ) (v : Option Verdict) → IsDevice d → All (λ b. b < 256) bytes
    → verdict d.chip d.codes bytes ≡ v → Takes d bytes v (after_verdict d bytes v)
takes d bytes None is small e = refl
takes d bytes (Some Refused) is small e = refl
takes d bytes (Some Done) is small e = takes-done d bytes is small e
takes d bytes (Some Loose) is small e = takes-loose d bytes is e

receives : (d : Device) (phase : Phase) (byte : ℕ) → byte < 256 → IsDevice d
    → IsOpenPhase d.chip d.codes phase → Receives d phase byte (after_byte d phase byte)
receives d Fresh byte small is p = refl
receives d Gone byte small is p = refl
receives d (Connected rest) byte small is p =
    let one : All (λ b. b < 256) (byte ∷ []) = single byte small in
    takes d (rest ++ byte ∷ []) (verdict d.chip d.codes (rest ++ byte ∷ [])) is
    (All-append (λ b. b < 256) rest (byte ∷ []) p.1 one) refl
  where
    single : (b : ℕ) → b < 256 → All (λ x. x < 256) (b ∷ [])
    single b h zero e k = h
    single b h (suc i) e k = absurd (omega (arith, k))

pub simulated_device-feeds : (byte : ℕ) (d : Device) → byte < 256 → IsDevice d
    → Feeds byte d (simulated_device byte d)
unfolding simulated_device
simulated_device-feeds byte d small is =
    record { receives = receives d d.phase byte small is is.phase }
