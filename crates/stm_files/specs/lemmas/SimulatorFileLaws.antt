-- How a simulator comes to stand where it stood.
use Rattle.std.proofs.Common.{◌≡◌, ℕ, ◌+◌, ◌<◌, Bool, true, false, ◌==◌, ◌||◌, if◌then◌else◌}
use Rattle.std.proofs.Common.{replicate, List, [], ◌∷◌, ◌++◌, length, take, Option, Some, None}
use Rattle.std.proofs.Common.{refl, sym, ◌∙◌, ap, arith, eqb-true, length-append}
use Rattle.stm_wire.specs.declared.verdict.Verdict.{Verdict}
use Rattle.stm_wire.specs.declared.verdict.Verdict.TheVariants.{Done, Refused, Loose}
use Rattle.stm_wire.specs.Chip.{erased_byte}
use Rattle.stm_wire.specs.Exchange.{verdict}
use Rattle.stm_wire.specs.Reply.{ack, nack}
use Rattle.stm_wire.specs.Device.{Device, Phase, Fresh, Connected, Gone, IsSettled}
use Rattle.stm_sim.specs.Memory.{MemoryData}
use Rattle.stm_sim.specs.Simulator.{after_byte, after_verdict, simulated_device}
use Rattle.stm_files.specs.SimulatorFile.{Becomes, fed_byte, standing_at}

-- 7F connects a fresh device
pub connects : (d : Device) → d.phase ≡ Fresh → fed_byte 0x7F d ≡ standing_at (Connected []) d
unfolding simulated_device
connects d fresh = ap (λ (p : Phase). record (after_byte d p 0x7F) { owed = [] }) fresh

-- what a list of which nothing is promised leaves, by two tests of its code
abbrev loosened : Device → Bool → Bool → Device
loosened d z xy =
    if z then record d {
      flash = replicate (length d.flash) (erased_byte d.chip);
      owed = d.owed ++ ack ∷ ack ∷ [];
      phase = Fresh;
    }
    else (if xy then record d { owed = d.owed ++ ack ∷ ack ∷ []; phase = Fresh }
    else record d { owed = d.owed ++ nack ∷ []; phase = Connected [] })

-- a rest of some bytes is not empty
not-empty : {A : Type 0} (r : List ℕ) → Connected [] ≡ Connected r → 0 < length r → A
not-empty r e some = let none : [] ≡ r = cc in absurd (omega (arith, ap length none))

-- a list that lengthens the rest has no verdict
lengthened : (d : Device) (bytes r : List ℕ) (v : Option Verdict) → 0 < length bytes
    → (after_verdict d bytes v).phase ≡ Connected r → 0 < length r → v ≡ None
lengthened d [] r v has phase some = absurd (omega (arith, has))
lengthened d (code ∷ more) r None has phase some = refl
lengthened d (code ∷ more) r (Some Refused) has phase some = not-empty r phase some
lengthened d (code ∷ more) r (Some Done) has phase some = by_code (code == 0x21) phase
  where
    by_code : {A : Type 0} (b : Bool) → (if b then Gone else Connected []) ≡ Connected r → A
    by_code true e = cc
    by_code false e = not-empty r e some
lengthened d (code ∷ more) r (Some Loose) has phase some =
    by_code (code == 0x92) (code == 0x73 || code == 0x82) phase
  where
    by_code : {A : Type 0} (z xy : Bool) → (loosened d z xy).phase ≡ Connected r → A
    by_code true xy e = cc
    by_code false true e = cc
    by_code false false e = not-empty r e some

pub lengthens : (byte : ℕ) (rest r : List ℕ) (d : Device) → d.phase ≡ Connected rest
    → (fed_byte byte d).phase ≡ Connected r → 0 < length r
    → fed_byte byte d ≡ standing_at (Connected (rest ++ byte ∷ [])) d
unfolding simulated_device
lengthens byte rest r d at phase some =
    let bytes = rest ++ byte ∷ [] in
    let now : after_byte d d.phase byte ≡ after_verdict d bytes (verdict d.chip d.codes bytes) =
    ap (λ p. after_byte d p byte) at in
    let none = lengthened d bytes r (verdict d.chip d.codes bytes)
    (omega (arith, length-append rest (byte ∷ [])))
    (sym (ap (λ (x : Device). x.phase) now) ∙ phase) some in
    ap (λ (x : Device). record x { owed = [] }) (now ∙ ap (λ v. after_verdict d bytes v) none)

-- a list that leaves the bootloader is a Go, which changes nothing else
left-done : (d : Device) (code check : ℕ) (more : List ℕ) (b : Bool) → code == 0x21 ≡ b
    → (if b then Gone else Connected []) ≡ Gone
    → record (after_verdict d (code ∷ check ∷ more) (Some Done)) { owed = [] } ≡ standing_at Gone d
left-done d code check more true is phase =
    rw (eqb-true code 0x21 is) refl
left-done d code check more false is phase = cc

left : (d : Device) (bytes : List ℕ) (v : Option Verdict) → 0 < length bytes
    → (after_verdict d bytes v).phase ≡ Gone
    → record (after_verdict d bytes v) { owed = [] } ≡ standing_at Gone d
left d [] v has phase = absurd (omega (arith, has))
left d (code ∷ more) None has phase = cc
left d (code ∷ more) (Some Refused) has phase = cc
left d (code ∷ []) (Some Done) has phase = ap (λ (p : Phase). standing_at p d) phase
left d (code ∷ check ∷ more) (Some Done) has phase =
    left-done d code check more (code == 0x21) refl phase
left d (code ∷ more) (Some Loose) has phase =
    by_code (code == 0x92) (code == 0x73 || code == 0x82) phase
  where
    by_code : {A : Type 0} (z xy : Bool) → (loosened d z xy).phase ≡ Gone → A
    by_code true xy e = cc
    by_code false true e = cc
    by_code false false e = cc

pub leaves : (byte : ℕ) (rest : List ℕ) (d : Device) → d.phase ≡ Connected rest
    → (fed_byte byte d).phase ≡ Gone → fed_byte byte d ≡ standing_at Gone d
unfolding simulated_device
leaves byte rest d at phase =
    let bytes = rest ++ byte ∷ [] in
    let v = verdict d.chip d.codes bytes in
    let now : after_byte d d.phase byte ≡ after_verdict d bytes v =
    ap (λ p. after_byte d p byte) at in
    ap (λ (x : Device). record x { owed = [] }) now ∙ left d bytes v
    (omega (arith, length-append rest (byte ∷ []))) (sym (ap (λ (x : Device). x.phase) now) ∙ phase)

-- a simulator that became one device and then another
pub becomes_then : (d e : Device) (old mid new : MemoryData) → Becomes d old mid → Becomes e mid new
    → Becomes e old new
becomes_then d e old mid new first second =
    record {
      device = second.device;
      journal = second.journal ∙ first.journal;
      plan = λ none. second.plan (first.plan none);
      honest = λ is. second.honest (first.honest is);
    }

pub becomes_as : (d e : Device) (old new : MemoryData) → d ≡ e → Becomes d old new
    → Becomes e old new
becomes_as d e old new same b =
    record { device = b.device ∙ same; journal = b.journal; plan = b.plan; honest = b.honest }

-- one byte more in the rest
pub one_more : (bytes : List ℕ) (i byte : ℕ) (d : Device) (old mid new : MemoryData)
    → take (i + 1) bytes ≡ take i bytes ++ byte ∷ []
    → Becomes (standing_at (Connected (take i bytes)) d) old mid
    → Becomes (fed_byte byte mid.device) mid new
    → (rest : List ℕ) × (new.device.phase ≡ Connected rest) × (length rest ≡ i + 1)
    → Becomes (standing_at (Connected (take (i + 1) bytes)) d) old new
one_more bytes i byte d old mid new more was now has =
    let at = take i bytes in
    let fed = lengthens byte at has.0 mid.device (ap (λ (x : Device). x.phase) was.device)
    (sym (ap (λ (x : Device). x.phase) now.device) ∙ has.1) (omega (arith, has.2)) in
    let there : fed_byte byte mid.device ≡ standing_at (Connected (take (i + 1) bytes)) d =
    fed ∙ ap (λ (x : Device). standing_at (Connected (at ++ byte ∷ [])) x) was.device
    ∙ ap (λ xs. standing_at (Connected xs) d) (sym more) in
    becomes_as (fed_byte byte mid.device)
    (standing_at (Connected (take (i + 1) bytes)) d) old new there
    (becomes_then (standing_at (Connected at) d) (fed_byte byte mid.device) old mid new was now)

-- a device that was connected, and then left
pub gone : (rest : List ℕ) (byte : ℕ) (d : Device) (old mid new : MemoryData)
    → Becomes (standing_at (Connected rest) d) old mid → Becomes (fed_byte byte mid.device) mid new
    → new.device.phase ≡ Gone
    → Becomes (standing_at Gone d) old new
gone rest byte d old mid new was now phase =
    let fed = leaves byte rest mid.device (ap (λ (x : Device). x.phase) was.device)
    (sym (ap (λ (x : Device). x.phase) now.device) ∙ phase) in
    becomes_as (fed_byte byte mid.device) (standing_at Gone d) old new
    (fed ∙ ap (λ (x : Device). standing_at Gone x) was.device)
    (becomes_then (standing_at (Connected rest) d) (fed_byte byte mid.device) old mid new was now)

-- a fresh device that was connected, and from then on
pub connected : (d : Device) (old mid : MemoryData) → old.device ≡ d → d.phase ≡ Fresh
    → Becomes (fed_byte 0x7F d) old mid → Becomes (standing_at (Connected []) d) old mid
connected d old mid is fresh b =
    becomes_as (fed_byte 0x7F d) (standing_at (Connected []) d) old mid (connects d fresh) b

pub settles : (d : Device) (old mid : MemoryData) → Becomes (standing_at (Connected []) d) old mid
    → IsSettled mid.device
settles d old mid b = record {
  phase = ap (λ (x : Device). x.phase) b.device;
  owed = ap (λ (x : Device). x.owed) b.device;
}

pub from_there : (p : Phase) (d : Device) (old mid new : MemoryData)
    → Becomes (standing_at (Connected []) d) old mid → Becomes (standing_at p mid.device) mid new
    → Becomes (standing_at p d) old new
from_there p d old mid new was now =
    becomes_as (standing_at p mid.device) (standing_at p d) old new
    (ap (λ (x : Device). standing_at p x) was.device)
    (becomes_then (standing_at (Connected []) d) (standing_at p mid.device) old mid new was now)
