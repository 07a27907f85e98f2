-- The device at first, and one that lost a byte owed, after one call more.
use Rattle.std.proofs.Common.{if◌then◌else◌, Bool, true, false, ◌==◌, ◌||◌, ◌≡◌, ℕ, List, [], ◌∷◌}
use Rattle.std.proofs.Common.{◌++◌, ◌-◌, drop, Option, Some, None, refl, sym, ◌∙◌, ap, ap₂}
use Rattle.stm_sim.specs.declared.past.PastStep.{PastStep}
use Rattle.stm_wire.specs.declared.rig.RigCall.{RigCall}
use Rattle.stm_wire.specs.declared.verdict.Verdict.{Verdict}
use Rattle.stm_wire.specs.declared.verdict.Verdict.TheVariants.{Done, Refused, Loose}
use Rattle.stm_wire.specs.Exchange.{verdict}
use Rattle.stm_wire.specs.Device.{Device, Phase, Fresh, Connected, Gone, IsDevice}
use Rattle.stm_sim.specs.Simulator.{simulated_device, after_byte, after_verdict, after_loose}
use Rattle.stm_sim.specs.lemmas.SimulatedDevice.{with-parts}
use Rattle.stm_wire.specs.Rig.{GetsFirst}
use Rattle.stm_sim.specs.Memory.{MemoryData, first_flash, first_device, with_call}

-- with another flash, fresh and owing nothing
abbrev pub restored : List ℕ → Device → Device
restored flash d = record d { flash = flash; owed = []; phase = Fresh }

restored-choice : (b : Bool) (flash : List ℕ) (old x y : Device)
    → restored flash x ≡ restored flash old → restored flash y ≡ restored flash old
    → restored flash (if b then x else y) ≡ restored flash old
restored-choice true flash old x y p q = p
restored-choice false flash old x y p q = q

restored-loose : (flash bytes : List ℕ) (d : Device)
    → restored flash (after_loose d bytes) ≡ restored flash d
restored-loose flash [] d = refl
restored-loose flash (code ∷ rest) d =
    restored-choice (code == 0x92) flash d _ _ refl
    (restored-choice (code == 0x73 || code == 0x82) flash d _ _ refl refl)

restored-verdict : (flash bytes : List ℕ) (d : Device) (v : Option Verdict)
    → restored flash (after_verdict d bytes v) ≡ restored flash d
restored-verdict flash bytes d None = refl
restored-verdict flash bytes d (Some Refused) = refl
restored-verdict flash bytes d (Some Done) = refl
restored-verdict flash bytes d (Some Loose) = restored-loose flash bytes d

restored-byte : (flash : List ℕ) (byte : ℕ) (d : Device) (phase : Phase)
    → restored flash (after_byte d phase byte) ≡ restored flash d
restored-byte flash byte d Fresh = restored-choice (byte == 0x7F) flash d _ _ refl refl
restored-byte flash byte d (Connected rest) =
    restored-verdict flash (rest ++ byte ∷ []) d (verdict d.chip d.codes (rest ++ byte ∷ []))
restored-byte flash byte d Gone = refl

restored-fed : (flash : List ℕ) (byte : ℕ) (d : Device)
    → restored flash (simulated_device byte d) ≡ restored flash d
unfolding simulated_device
restored-fed flash byte d = restored-byte flash byte d d.phase

-- the device at first is the same after a byte fed, where its flash was kept before
pub first-fed : (byte : ℕ) (d new : Device) (old now : Option (List ℕ)) (flash : List ℕ)
    → new ≡ simulated_device byte d → flash ≡ d.flash → now ≡ Some (first_flash old flash)
    → first_device now new ≡ first_device old d
first-fed byte d new old now flash is_new is_flash is_now =
    ap₂ (λ (o : Option (List ℕ)) (x : Device). first_device o x)
    (is_now ∙ ap (λ f. Some (first_flash old f)) is_flash) is_new
    ∙ restored-fed (first_flash old d.flash) byte d

-- a device that lost the first byte owed
pub taken-step : (byte : ℕ) (old new : Device) → GetsFirst (Some byte) old new
    → new ≡ record old { owed = drop 1 old.owed }
taken-step byte old new e =
    let P : Device → Device = λ d. record d { owed = drop 1 d.owed } in sym (ap P e)

pub taken-rest : (byte : ℕ) (old new : Device) → GetsFirst (Some byte) old new
    → new ≡ record old { owed = new.owed }
taken-rest byte old new e =
    let P : Device → Device = λ d. record d { owed = new.owed } in sym (ap P e)

pub taken-first : (first : Option (List ℕ)) (byte : ℕ) (old new : Device)
    → GetsFirst (Some byte) old new → first_device first new ≡ first_device first old
taken-first first byte old new e = sym (ap (λ d. first_device first d) e)

pub owed-device : (d : Device) (owed : List ℕ) → IsDevice d → IsDevice (record d { owed = owed })
owed-device d owed is = with-parts d d.flash owed d.phase is refl is.flash is.phase

pub taken-device : (byte : ℕ) (old new : Device) → GetsFirst (Some byte) old new → IsDevice old
    → IsDevice new
taken-device byte old new e is =
    rw (taken-rest byte old new e) (owed-device old new.owed is)

-- these parts make the value after one call more
pub is-with_call : (call : RigCall) (s : PastStep) (m : MemoryData) (device device' : Device)
    (calls : List RigCall) (room : ℕ) (first : Device) (past : List PastStep)
    → device ≡ device' → calls ≡ m.calls ++ call ∷ [] → room ≡ m.room - 1 → first ≡ m.first
    → past ≡ m.past ++ s ∷ []
    → record m { device = device; calls = calls; room = room; first = first; past = past }
    ≡ with_call call s device' m
is-with_call call s m device device' calls room first past d c r f p =
    let one : Device → List RigCall → MemoryData =
    λ x y. record m { device = x; calls = y; room = room; first = first; past = past } in
    let entered : ℕ → Device → List PastStep → MemoryData =
    λ k x y.
    record m { device = device'; calls = m.calls ++ call ∷ []; room = k; first = x; past = y } in
    ap₂ one d c ∙ ap (λ k. entered k first past) r ∙ ap₂ (λ x y. entered (m.room - 1) x y) f p
