-- Whatever its client was told, the device stands as if it had been fed alone.
use Rattle.std.proofs.Common.{◌≡◌, refl, sym, ◌∙◌, ap, ℕ, ◌==◌, ◌||◌, if◌then◌else◌, Bool, true, false}
use Rattle.std.proofs.Common.{List, [], ◌∷◌, ◌++◌, replicate, length, Option, Some, None}
use Rattle.stm_wire.specs.declared.verdict.Verdict.{Verdict}
use Rattle.stm_wire.specs.declared.verdict.Verdict.TheVariants.{Done, Refused, Loose}
use Rattle.stm_wire.proofs.Names.{ack, Connected, Device, erased_byte, Fresh, Gone, nack, Phase, verdict}
use Rattle.stm_sim.specs.Simulator.{after_byte, after_loose, after_verdict, simulated_device}
use Rattle.stm_files.specs.Replies.{Telling, telling_begun, drained, tell_one, telling}
use Rattle.stm_files.specs.Serving.{fed_all}

-- what a loose list leaves, by what its code is
abbrev loosened : Device → Bool → Bool → Device
loosened d is_readout is_protection =
    if is_readout
    then record d {
      flash = replicate (length d.flash) (erased_byte d.chip);
      owed = d.owed ++ ack ∷ ack ∷ [];
      phase = Fresh;
    }
    else (if is_protection then record d { owed = d.owed ++ ack ∷ ack ∷ []; phase = Fresh }
    else record d { owed = d.owed ++ nack ∷ []; phase = Connected [] })

loosened-alike : (d : Device) (owed : List ℕ) (a b : Bool)
    → drained (loosened (record d { owed = owed }) a b) ≡ drained (loosened d a b)
loosened-alike d owed true b = refl
loosened-alike d owed false true = refl
loosened-alike d owed false false = refl

loose-alike : (d : Device) (owed bytes : List ℕ)
    → drained (after_loose (record d { owed = owed }) bytes) ≡ drained (after_loose d bytes)
loose-alike d owed [] = refl
loose-alike d owed (code ∷ rest) =
    loosened-alike d owed (code == 0x92) (code == 0x73 || code == 0x82)

verdict-alike : (d : Device) (owed bytes : List ℕ) (v : Option Verdict)
    → drained (after_verdict (record d { owed = owed }) bytes v) ≡ drained (after_verdict d bytes v)
verdict-alike d owed bytes None = refl
verdict-alike d owed bytes (Some Refused) = refl
verdict-alike d owed bytes (Some Done) = refl
verdict-alike d owed bytes (Some Loose) = loose-alike d owed bytes

byte-alike : (d : Device) (owed : List ℕ) (phase : Phase) (byte : ℕ)
    → drained (after_byte (record d { owed = owed }) phase byte) ≡ drained (after_byte d phase byte)
byte-alike d owed Fresh byte = fresh (byte == 0x7F)
  where
    fresh : (b : Bool)
        → drained
        (if b then record d { owed = owed ++ ack ∷ []; phase = Connected [] }
        else record d { owed = owed })
        ≡ drained (if b then record d { owed = d.owed ++ ack ∷ []; phase = Connected [] } else d)
    fresh true = refl
    fresh false = refl
byte-alike d owed (Connected rest) byte =
    verdict-alike d owed (rest ++ byte ∷ []) (verdict d.chip d.codes (rest ++ byte ∷ []))
byte-alike d owed Gone byte = refl

-- what a device owes has no part in what a byte makes of the rest of it
simulated-alike : (byte : ℕ) (d : Device)
    → drained (simulated_device byte (drained d)) ≡ drained (simulated_device byte d)
unfolding simulated_device
simulated-alike byte d = byte-alike d [] d.phase byte

telling-alike : (t : Telling) (d : Device) (bytes : List ℕ) → drained t.device ≡ drained d
    → drained (telling t bytes).device ≡ drained (fed_all d bytes)
telling-alike t d [] e = e
telling-alike t d (byte ∷ bytes) e =
    telling-alike (tell_one t byte) (simulated_device byte d) bytes
    (sym (simulated-alike byte t.device)
    ∙ ap (λ (x : Device). drained (simulated_device byte x)) e
    ∙ simulated-alike byte d)

told-fed : (d : Device) (bytes : List ℕ)
    → (telling (telling_begun d) bytes).device
    ≡ record (fed_all d bytes) { owed = (telling (telling_begun d) bytes).device.owed }
told-fed d bytes =
    ap (λ (x : Device). record x { owed = (telling (telling_begun d) bytes).device.owed })
    (telling-alike (telling_begun d) d bytes refl)

-- a device whose client was told something of these bytes
pub told_serves : (d new : Device) (told bytes : List ℕ)
    → record { device = new; told = told } ≡ telling (telling_begun d) bytes
    → new ≡ record (fed_all d bytes) { owed = new.owed }
told_serves d new told bytes e =
    let same = ap (λ (t : Telling). t.device) e in
    same ∙ told-fed d bytes
    ∙ ap (λ (x : Device). record (fed_all d bytes) { owed = x.owed }) (sym same)
