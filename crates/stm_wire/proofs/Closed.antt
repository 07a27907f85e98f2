-- A harmless device stays so: when the byte is fed, when it is reset, and whatever it owes.
use Rattle.std.proofs.Common.{◌≡◌, ℕ, suc, ◌≤◌, Bool, true, false, cond, eqb, List, [], ◌∷◌, ◌++◌, refl, sym, ◌∙◌, subst, arith, Option, Some, None}
use Rattle.std.proofs.lemmas.Bool.{cond_both, eq-eqb}
use Rattle.stm_wire.proofs.Names.{ack, Awaits, AwaitsIn, ChipData, Connected, Device, Disturbance, FedAwaitsNoMore, Feed, Feeds, Fresh, Gone, Harmless, IsListening, IsLoose, IsRefusedIn, LosesOwed}
use Rattle.stm_wire.proofs.Names.{Phase, phase_after, Reaches, Receives, reply_of, Reset, reset, SameOutside, Takes, Verdict, verdict}
use Rattle.stm_wire.specs.declared.verdict.Verdict.TheVariants.{Done, Refused, Loose}
use Rattle.stm_wire.proofs.Ending.{awaits_at, more_suffice, nearer_open, refused_empty}

-- of the same chip, with the same version and codes
pub record IsSameMake (old new : Device) : Type 0 where
  pub chip : new.chip ≡ old.chip
  pub version : new.version ≡ old.version
  pub codes : new.codes ≡ old.codes

make_changed : (old new target : Device) → IsSameMake old target → new ≡ target → IsSameMake old new
make_changed old new target same e = subst (IsSameMake old) (sym e) same

make_taken : (old new : Device) (bytes : List ℕ) (v : Option Verdict) → Takes old bytes v new → IsSameMake old new
make_taken old new bytes None e = make_changed old new _ (record { chip = refl; version = refl; codes = refl }) e
make_taken old new bytes (Some Refused) e = make_changed old new _ (record { chip = refl; version = refl; codes = refl }) e
make_taken old new bytes (Some Done) (flash, effect, e) = make_changed old new _ (record { chip = refl; version = refl; codes = refl }) e
make_taken old new bytes (Some Loose) l = record { chip = l.chip; version = l.version; codes = l.codes }

make_received : (byte : ℕ) (old new : Device) (phase : Phase) → Receives old phase byte new → IsSameMake old new
make_received byte old new Fresh e =
    let connected : Device = record old { owed = old.owed ++ ack ∷ []; phase = Connected [] } in
    let same = cond_both (eqb byte 0x7F) connected old (IsSameMake old) (λ _. record { chip = refl; version = refl; codes = refl }) (λ _. record { chip = refl; version = refl; codes = refl }) in
    make_changed old new (cond (eqb byte 0x7F) connected old) same e
make_received byte old new (Connected rest) r = make_taken old new (rest ++ byte ∷ []) (verdict old.chip old.codes (rest ++ byte ∷ [])) r
make_received byte old new Gone e = make_changed old new old (record { chip = refl; version = refl; codes = refl }) e

pub same_make : (byte : ℕ) (old new : Device) → Feeds byte old new → IsSameMake old new
same_make byte old new f = make_received byte old new old.phase f.receives

-- two flashes that agree with a third outside the pages
from_first : (chip : ChipData) (pages : List ℕ) (first second third : List ℕ) → SameOutside chip pages first second → SameOutside chip pages first third → SameOutside chip pages second third
from_first chip pages first second third s t = record {
  same_length = t.same_length ∙ sym s.same_length;
  elsewhere = λ n here out. t.elsewhere n here out ∙ sym (s.elsewhere n here out);
}

-- where a done list leaves a device, a pair is left at most
awaits_after : (chip : ChipData) (codes : List ℕ) (byte left : ℕ) → 2 ≤ left → (bytes : List ℕ) → AwaitsIn chip codes byte left (phase_after bytes)
awaits_after chip codes byte left two [] = refused_empty chip codes byte left two
awaits_after chip codes byte left two (c ∷ rest) = cond_both (eqb c 0x21) Gone (Connected []) (AwaitsIn chip codes byte left) (λ _. tt) (λ _. refused_empty chip codes byte left two)

awaits_taken : (byte left : ℕ) (old new : Device) (rest : List ℕ) → (IsLoose old (rest ++ byte ∷ []) new → verdict old.chip old.codes (rest ++ byte ∷ []) ≡ Some Loose → ⊥) → 2 ≤ left
    → IsRefusedIn old.chip old.codes byte (suc left) rest → (v : Option Verdict) → verdict old.chip old.codes (rest ++ byte ∷ []) ≡ v → Takes old (rest ++ byte ∷ []) v new → Awaits byte left new
awaits_taken byte left old new rest never two w None e t = subst (Awaits byte left) (sym t) (nearer_open old.chip old.codes byte rest e left w)
awaits_taken byte left old new rest never two w (Some Refused) e t = subst (Awaits byte left) (sym t) (refused_empty old.chip old.codes byte left two)
awaits_taken byte left old new rest never two w (Some Done) e (flash, effect, t) = subst (Awaits byte left) (sym t) (awaits_after old.chip old.codes byte left two (rest ++ byte ∷ []))
awaits_taken byte left old new rest never two w (Some Loose) e l = absurd (never l e)

-- one of the bytes that it awaits was fed, and a pair can follow
pub awaits_fed : (byte left : ℕ) (pages : List ℕ) (old new : Device) → Harmless old byte pages → 2 ≤ left → Awaits byte (suc left) old → Feeds byte old new → Awaits byte left new
awaits_fed byte left pages old new h two w f = go old.phase refl w f.receives
  where
    go : (p : Phase) → old.phase ≡ p → AwaitsIn old.chip old.codes byte (suc left) p → Receives old p byte new → Awaits byte left new
    go Fresh at w e = by (eqb byte 0x7F) refl e
      where
        by : (t : Bool) → eqb byte 0x7F ≡ t → new ≡ cond t (record old { owed = old.owed ++ ack ∷ []; phase = Connected [] }) old → Awaits byte left new
        by true t e = subst (Awaits byte left) (sym e) (refused_empty old.chip old.codes byte left two)
        by false t e = subst (Awaits byte left) (sym e) (awaits_at old byte left Fresh at (λ same. absurd (let h = sym (eq-eqb byte 0x7F same) ∙ t in cc)))
    go (Connected rest) at w r = awaits_taken byte left old new rest never two w (verdict old.chip old.codes (rest ++ byte ∷ [])) refl r
      where
        -- else it might have left
        never : IsLoose old (rest ++ byte ∷ []) new → verdict old.chip old.codes (rest ++ byte ∷ []) ≡ Some Loose → ⊥
        never l v =
            let gone : Device = record new { phase = Gone } in
            let loose : IsLoose old (rest ++ byte ∷ []) gone = record { chip = l.chip; version = l.version; codes = l.codes; same_length = l.same_length; flash = l.flash; phase = tt; owed = l.owed } in
            let takes : Takes old (rest ++ byte ∷ []) (verdict old.chip old.codes (rest ++ byte ∷ [])) gone = subst (λ (o : Option Verdict). Takes old (rest ++ byte ∷ []) o gone) (sym v) loose in
            let feeds : Feeds byte old gone = record { receives = subst (λ (p : Phase). Receives old p byte gone) (sym at) takes } in
            (h.each (Feed ∷ []) gone (gone, feeds, refl)).phase
    go Gone at w e = subst (Awaits byte left) (sym e) (awaits_at old byte left Gone at tt)

pub harmless_fed : (byte : ℕ) (pages : List ℕ) (old new : Device) → Harmless old byte pages → Feeds byte old new → Harmless new byte pages
harmless_fed byte pages old new h f = record {
  each = λ events last reaches.
      let now = h.each (Feed ∷ []) new (new, f, refl) in
      let then' = h.each (Feed ∷ events) last (new, f, reaches) in
      record {
        phase = then'.phase;
        flash = subst (λ (c : ChipData). SameOutside c pages new.flash last.flash) (sym (same_make byte old new f).chip) (from_first old.chip pages old.flash new.flash last.flash now.flash then'.flash);
      };
}

-- nor more than before
pub awaits_no_more : FedAwaitsNoMore
awaits_no_more old new byte most pages h three w f = awaits_fed byte most pages old new h (omega arith) (more_suffice old byte most (suc most) (omega arith) w) f

pub unharmed_fed : (byte : ℕ) (pages : List ℕ) (old new : Device) → Harmless old byte pages → Feeds byte old new → SameOutside old.chip pages old.flash new.flash
unharmed_fed byte pages old new h f = (h.each (Feed ∷ []) new (new, f, refl)).flash

pub harmless_reset : (byte : ℕ) (pages : List ℕ) (d : Device) → Harmless d byte pages → Harmless (reset d) byte pages
harmless_reset byte pages d h = record {
  each = λ events last reaches. let u = h.each (Reset ∷ events) last reaches in record { phase = u.phase; flash = u.flash };
}

-- what is owed changes nothing else
pub record Alike (d new : Device) : Type 0 where
  pub owed : List ℕ
  pub is : new ≡ record d { owed = owed }

taken_alike : (d new : Device) (o : List ℕ) (bytes : List ℕ) (v : Option Verdict) → Takes (record d { owed = o }) bytes v new → (new' : Device) × Takes d bytes v new' × Alike new' new
taken_alike d new o bytes None e = (record d { owed = d.owed ++ reply_of d bytes; phase = Connected bytes }, refl, record { owed = o ++ reply_of d bytes; is = e })
taken_alike d new o bytes (Some Refused) e = (record d { owed = d.owed ++ reply_of d bytes; phase = Connected [] }, refl, record { owed = o ++ reply_of d bytes; is = e })
taken_alike d new o bytes (Some Done) (flash, effect, e) =
    (record d { flash = flash; owed = d.owed ++ reply_of d bytes; phase = phase_after bytes }, (flash, effect, refl), record { owed = o ++ reply_of d bytes; is = e })
taken_alike d new o bytes (Some Loose) l = (
  record new { owed = d.owed ++ reply_of d bytes },
  record { chip = l.chip; version = l.version; codes = l.codes; same_length = l.same_length; flash = l.flash; phase = l.phase; owed = λ p. refl },
  record { owed = new.owed; is = refl },
)

pub received_alike : (byte : ℕ) (d new : Device) (o : List ℕ) (phase : Phase) → Receives (record d { owed = o }) phase byte new → (new' : Device) × Receives d phase byte new' × Alike new' new
received_alike byte d new o Fresh e = go (eqb byte 0x7F) e
  where
    go : (t : Bool) → new ≡ cond t (record d { owed = o ++ ack ∷ []; phase = Connected [] }) (record d { owed = o }) →
        (new' : Device) × (new' ≡ cond t (record d { owed = d.owed ++ ack ∷ []; phase = Connected [] }) d) × Alike new' new
    go true e = (record d { owed = d.owed ++ ack ∷ []; phase = Connected [] }, refl, record { owed = o ++ ack ∷ []; is = e })
    go false e = (d, refl, record { owed = o; is = e })
received_alike byte d new o (Connected rest) r = taken_alike d new o (rest ++ byte ∷ []) (verdict d.chip d.codes (rest ++ byte ∷ [])) r
received_alike byte d new o Gone e = (d, refl, record { owed = o; is = e })

pub reaches_alike : (byte : ℕ) (events : List Disturbance) (d new : Device) (o : List ℕ) → Reaches byte events (record d { owed = o }) new → (new' : Device) × Reaches byte events d new' × Alike new' new
reaches_alike byte [] d new o e = (d, refl, record { owed = o; is = e })
reaches_alike byte (Feed ∷ events) d new o (mid, f, r) =
    let (mid', f', a) = received_alike byte d mid o d.phase f.receives in
    let (new', r', b) = reaches_alike byte events mid' new a.owed (subst (λ (x : Device). Reaches byte events x new) a.is r) in
    (new', (mid', record { receives = f' }, r'), b)
reaches_alike byte (Reset ∷ events) d new o r = (new, r, record { owed = new.owed; is = refl })

pub harmless_owed : (byte : ℕ) (pages : List ℕ) (d : Device) (o : List ℕ) → Harmless d byte pages → Harmless (record d { owed = o }) byte pages
harmless_owed byte pages d o h = record {
  each = λ events new reaches.
      let (new', r, a) = reaches_alike byte events d new o reaches in
      let u = h.each events new' r in
      record {
        phase = subst (λ (x : Device). IsListening x.phase) (sym a.is) u.phase;
        flash = subst (λ (x : Device). SameOutside d.chip pages d.flash x.flash) (sym a.is) u.flash;
      };
}

pub awaits_loses : (byte most : ℕ) (d new : Device) → LosesOwed d new → Awaits byte most d → Awaits byte most new
awaits_loses byte most d new (n, e) w = subst (Awaits byte most) (sym e) w

pub harmless_loses : (byte : ℕ) (pages : List ℕ) (d new : Device) → Harmless d byte pages → LosesOwed d new → Harmless new byte pages
harmless_loses byte pages d new h (n, e) = subst (λ (x : Device). Harmless x byte pages) (sym e) (harmless_owed byte pages d _ h)
