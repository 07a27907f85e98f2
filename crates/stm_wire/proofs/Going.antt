-- The loop of settling: what holds before each byte, and what the byte leaves.
use Rattle.std.proofs.Common.{lit≤, ◌≡◌, ℕ, suc, ◌+◌, ◌*◌, ◌<◌, ◌≤◌, ◌⊎◌, inl, inr, ⊎_elim, Bool, true, false, cond, eqb, List, [], ◌∷◌, ◌++◌, length, drop, refl, sym, ap, ◌∙◌, subst, subst₂, arith, Some}
use Rattle.std.proofs.lemmas.Bool.{eq-eqb, eqb-true}
use Rattle.std.proofs.lemmas.List.{length-drop, length-append, drop_all}
use Rattle.stm_wire.proofs.Names.{ack, Awaits, AwaitsIn, ChipData, Connected, Device, Feeds, Fresh, Gone, Harmless, IsDevice, IsGoing, IsListening, IsRefusedIn, IsSettled, IsSettling, LosesOwed, nack}
use Rattle.stm_wire.proofs.Names.{Phase, Receives, reply_to, SameOutside, Takes, verdict, with_nothing_owed}
use Rattle.stm_wire.specs.declared.verdict.Verdict.TheVariants.{Refused}
use Rattle.stm_wire.proofs.Flash.{same_flash, then_same}
use Rattle.stm_wire.proofs.Mild.{harmless, mild_empty, no_pair}
use Rattle.stm_wire.proofs.Awaited.{due, due_most, fed, Refuses, Advances}
use Rattle.stm_wire.proofs.Ending.{awaits_at, refused_empty, refused_some}
use Rattle.stm_wire.proofs.Enough.{empty_enough}
use Rattle.stm_wire.proofs.Closed.{IsSameMake, awaits_fed, awaits_loses, awaits_no_more, same_make, harmless_fed, unharmed_fed, harmless_owed, harmless_loses}

-- what settling keeps is kept when owed bytes are lost
pub settling_loses : (byte : ℕ) (pages : List ℕ) (start d new : Device) → IsSettling byte pages start d → LosesOwed d new → IsSettling byte pages start new
settling_loses byte pages start d new s (n, e) = record {
  same_chip = ap (λ (x : Device). x.chip) e ∙ s.same_chip;
  same_version = ap (λ (x : Device). x.version) e ∙ s.same_version;
  same_codes = ap (λ (x : Device). x.codes) e ∙ s.same_codes;
  harmless = harmless_loses byte pages d new s.harmless (n, e);
  awaits = λ most three w. awaits_loses byte most d new (n, e) (s.awaits most three w);
  flash = subst (λ (x : Device). SameOutside start.chip pages start.flash x.flash) (sym e) s.flash;
  owed = (let few = s.owed in let l = ap (λ (x : Device). length x.owed) e in let k = length-drop n d.owed in omega arith);
}

-- and when the byte is fed, where what is owed then stays small
pub settling_fed : (byte : ℕ) (pages : List ℕ) (start d new : Device) → IsSettling byte pages start d → Feeds byte d new → length new.owed ≤ 4096 → IsSettling byte pages start new
settling_fed byte pages start d new s f few = record {
  same_chip = (same_make byte d new f).chip ∙ s.same_chip;
  same_version = (same_make byte d new f).version ∙ s.same_version;
  same_codes = (same_make byte d new f).codes ∙ s.same_codes;
  harmless = harmless_fed byte pages d new s.harmless f;
  awaits = λ most three w. awaits_no_more d new byte most pages s.harmless three (s.awaits most three w) f;
  flash = then_same start.chip pages start.flash d.flash new.flash s.flash (subst (λ (c : ChipData). SameOutside c pages d.flash new.flash) s.same_chip (unharmed_fed byte pages d new s.harmless f));
  owed = few;
}

-- the reply says no
pub record IsOver (d : Device) : Type 0 where
  pub reply : d.owed ≡ nack ∷ []
  pub settled : IsSettled (with_nothing_owed d)

-- nothing, or first an acknowledgement
abbrev pub IsNoRefusal : Device → Type 0
IsNoRefusal d = (d.owed ≡ []) ⊎ ((more : List ℕ) × (d.owed ≡ ack ∷ more))

-- one byte of the loop
pub record Steps (byte : ℕ) (pages : List ℕ) (start : Device) (left : ℕ) (new : Device) : Type 0 where
  pub settling : IsSettling byte pages start new
  pub owes : length new.owed ≤ 261
  pub outcome : IsOver new ⊎ (IsNoRefusal new × IsGoing byte pages start left (with_nothing_owed new))

-- of the same make, wherever it is
awaits_made : (byte left : ℕ) (rest : List ℕ) (d new : Device) → IsSameMake d new → new.phase ≡ Connected rest → IsRefusedIn d.chip d.codes byte left rest → Awaits byte left new
awaits_made byte left rest d new same at w =
    awaits_at new byte left (Connected rest) at (subst₂ (λ (chip : ChipData) (codes : List ℕ). IsRefusedIn chip codes byte left rest) (sym same.chip) (sym same.codes) w)

steps : (byte : ℕ) (pages : List ℕ) (start : Device) (left : ℕ) (d new : Device) (phase : Phase) → IsDevice d → byte < 256 → IsSettling byte pages start d → d.owed ≡ [] →
    d.phase ≡ phase → AwaitsIn d.chip d.codes byte (suc left) phase → Feeds byte d new → Steps byte pages start left new
steps byte pages start left d new Fresh is small s quiet at w f = go (eqb byte 0x7F) refl (subst (λ (p : Phase). Receives d p byte new) at f.receives)
  where
    go : (t : Bool) → eqb byte 0x7F ≡ t → new ≡ cond t (record d { owed = d.owed ++ ack ∷ []; phase = Connected [] }) d → Steps byte pages start left new
    go true t e =
        let owed : new.owed ≡ ack ∷ [] = ap (λ (x : Device). x.owed) e ∙ ap (λ o. o ++ ack ∷ []) quiet in
        let few : length new.owed ≤ 261 = rw owed (lit≤ tt) in
        let now = settling_fed byte pages start d new s f (omega arith) in
        let three = w (eqb-true byte 0x7F t) in
        record {
          settling = now;
          owes = few;
          outcome = inr (
            inr ([], owed),
            record {
              settling = settling_loses byte pages start new (with_nothing_owed new) now (1, ap (λ o. record new { owed = drop 1 o }) (sym owed));
              quiet = refl;
              within = subst (λ (x : Device). Awaits byte left (with_nothing_owed x)) (sym e) (refused_empty d.chip d.codes byte left (omega arith));
            },
          );
        }
    go false t e =
        let owed : new.owed ≡ [] = ap (λ (x : Device). x.owed) e ∙ quiet in
        let few : length new.owed ≤ 261 = rw owed (lit≤ tt) in
        let now = settling_fed byte pages start d new s f (omega arith) in
        record {
          settling = now;
          owes = few;
          outcome = inr (
            inl owed,
            record {
              settling = settling_loses byte pages start new (with_nothing_owed new) now (1, ap (λ o. record new { owed = drop 1 o }) (sym owed));
              quiet = refl;
              within = awaits_at (with_nothing_owed new) byte left Fresh (ap (λ (x : Device). x.phase) e ∙ at) (λ same. absurd (let h = sym (eq-eqb byte 0x7F same) ∙ t in cc));
            },
          );
        }
steps byte pages start left d new (Connected rest) is small s quiet at w f = ⊎_elim over on (fed byte pages rest d new is at small s.harmless f)
  where
    over : Refuses byte rest d new → Steps byte pages start left new
    over r =
        let owed : new.owed ≡ nack ∷ [] = ap (λ (x : Device). x.owed) r.is ∙ ap (λ o. o ++ nack ∷ []) quiet in
        let few : length new.owed ≤ 261 = rw owed (lit≤ tt) in
        record {
          settling = settling_fed byte pages start d new s f (omega arith);
          owes = few;
          outcome = inl (record { reply = owed; settled = record { phase = ap (λ (x : Device). x.phase) r.is; owed = refl } });
        }

    on : Advances byte rest d new → Steps byte pages start left new
    on a =
        let none : length d.owed ≡ 0 = ap length quiet in
        let most = due_most byte rest in
        let owes = a.owes in
        let same = same_make byte d new f in
        let few : length new.owed ≤ 261 = omega arith in
        let now = settling_fed byte pages start d new s f (omega arith) in
        record {
          settling = now;
          owes = few;
          outcome = inr (
            ⊎_elim (λ e. inl (e ∙ quiet)) (λ (m : (more : List ℕ) × (new.owed ≡ d.owed ++ ack ∷ more)). inr (m.0, m.1 ∙ ap (λ o. o ++ ack ∷ m.0) quiet)) a.reply,
            record {
              settling = settling_loses byte pages start new (with_nothing_owed new) now (length new.owed, ap (λ o. record new { owed = o }) (sym (drop_all (length new.owed) new.owed (omega arith))));
              quiet = refl;
              within = awaits_made byte left a.left d (with_nothing_owed new) (record { chip = same.chip; version = same.version; codes = same.codes }) a.phase (a.nearer left w);
            },
          );
        }
steps byte pages start left d new Gone is small s quiet at w f = absurd (subst IsListening at (s.harmless.each [] d refl).phase)

pub step : (byte : ℕ) (pages : List ℕ) (start : Device) (left : ℕ) (d new : Device) → IsDevice d → byte < 256 → IsGoing byte pages start (suc left) d → Feeds byte d new → Steps byte pages start left new
step byte pages start left d new is small g f = steps byte pages start left d new d.phase is small g.settling g.quiet refl g.within f

-- from a harmless device that owes nothing, with enough bytes to come
pub going : (byte : ℕ) (pages : List ℕ) (d : Device) (left : ℕ) → Awaits byte left d → Harmless d byte pages → length d.owed ≤ 4096 →
    IsGoing byte pages d left (with_nothing_owed d)
going byte pages d left many h few = record {
  settling = record { same_chip = refl; same_version = refl; same_codes = refl; harmless = harmless_owed byte pages d [] h; awaits = λ most three w. w; flash = same_flash d.chip pages d.flash d.flash refl; owed = lit≤ tt };
  quiet = refl;
  within = many;
}

-- after the last byte
pub fresh_at_last : (byte : ℕ) (pages : List ℕ) (start d : Device) → IsGoing byte pages start 0 d → d.phase ≡ Fresh
fresh_at_last byte pages start d g = go d.phase refl g.within
  where
    go : (p : Phase) → d.phase ≡ p → AwaitsIn d.chip d.codes byte 0 p → d.phase ≡ Fresh
    go Fresh e w = e
    go (Connected rest) e w = absurd (refused_some d.chip d.codes byte rest w)
    go Gone e w = absurd (subst IsListening e (g.settling.harmless.each [] d refl).phase)

-- 7F connects a fresh device
pub connects : (d new : Device) → d.phase ≡ Fresh → Feeds 0x7F d new → new ≡ record d { owed = d.owed ++ ack ∷ []; phase = Connected [] }
connects d new at f = subst (λ (p : Phase). Receives d p 0x7F new) at f.receives

pub settling_connects : (byte : ℕ) (pages : List ℕ) (start d new : Device) → IsDevice d → IsSettling byte pages start d → d.phase ≡ Fresh → d.owed ≡ [] → Feeds 0x7F d new → IsSettling byte pages start new
settling_connects byte pages start d new is s at quiet f =
    let next : Device = record d { owed = d.owed ++ ack ∷ []; phase = Connected [] } in
    let few : length next.owed ≤ 4096 = rw quiet (lit≤ tt) in
    subst (IsSettling byte pages start) (sym (connects d new at f)) (record {
      same_chip = s.same_chip;
      same_version = s.same_version;
      same_codes = s.same_codes;
      harmless = harmless byte pages next is.size (mild_empty d.chip d.codes byte pages);
      awaits = λ most three w. empty_enough next byte most (omega (arith, three)) refl;
      flash = s.flash;
      owed = few;
    })

-- then the byte is quiet
pub waits : (byte : ℕ) (d new : Device) → d.phase ≡ Connected [] → Feeds byte d new → new ≡ record d { owed = d.owed ++ []; phase = Connected (byte ∷ []) }
waits byte d new at f = subst (λ (p : Phase). Receives d p byte new) at f.receives

-- and once more it is refused
pub refuses : (byte : ℕ) (d new : Device) → d.phase ≡ Connected (byte ∷ []) → Feeds byte d new → new ≡ record d { owed = d.owed ++ nack ∷ []; phase = Connected [] }
refuses byte d new at f =
    let bytes = byte ∷ byte ∷ [] in
    let v : verdict d.chip d.codes bytes ≡ Some Refused = rw (no_pair byte) refl in
    let t : Takes d bytes (verdict d.chip d.codes bytes) new = subst (λ (p : Phase). Receives d p byte new) at f.receives in
    let u : Takes d bytes (Some Refused) new = subst (λ w. Takes d bytes w new) v t in
    u ∙ ap (λ r. record d { owed = d.owed ++ r; phase = Connected [] }) (ap (λ w. reply_to w d.chip d.version d.codes d.flash bytes) v)

-- Bytes fed without a get between, as long as two are kept back: twice the bytes owed and what is due are n at most
abbrev pub due_at : ℕ → Phase → ℕ
due_at byte Fresh = 1
due_at byte (Connected rest) = due byte rest
due_at byte Gone = 0

pub record InBatch (byte : ℕ) (pages : List ℕ) (start : Device) (left n : ℕ) (d : Device) : Type 0 where
  pub settling : IsSettling byte pages start d
  pub within : Awaits byte left d
  pub owes : 2 * length d.owed + due_at byte d.phase ≤ n

pub batch_step : (byte : ℕ) (pages : List ℕ) (start : Device) (left n : ℕ) (d new : Device) → IsDevice d → byte < 256 → 2 ≤ left → n < 8192 →
    InBatch byte pages start (suc left) n d → Feeds byte d new → InBatch byte pages start left (suc n) new
batch_step byte pages start left n d new is small two room b f = record {
  settling = settling_fed byte pages start d new b.settling f (omega (arith, owes, room));
  within = awaits_fed byte left pages d new b.settling.harmless two b.within f;
  owes = owes;
}
  where
    -- that is no more than one for the byte
    go : (p : Phase) → d.phase ≡ p → 2 * length d.owed + due_at byte p ≤ n → 2 * length new.owed + due_at byte new.phase ≤ suc n
    go Fresh at o = by_cases (eqb byte 0x7F) (subst (λ (p : Phase). Receives d p byte new) at f.receives)
      where
        by_cases : (t : Bool) → new ≡ cond t (record d { owed = d.owed ++ ack ∷ []; phase = Connected [] }) d → 2 * length new.owed + due_at byte new.phase ≤ suc n
        by_cases true e = let one = length-append d.owed (ack ∷ []) in rw e (omega arith)
        by_cases false e = rw (e, at) (omega arith)
    go (Connected rest) at o = ⊎_elim over on (fed byte pages rest d new is at small b.settling.harmless f)
      where
        over : Refuses byte rest d new → 2 * length new.owed + due_at byte new.phase ≤ suc n
        over r = let one = length-append d.owed (nack ∷ []) in let some = r.due in rw r.is (omega arith)

        on : Advances byte rest d new → 2 * length new.owed + due_at byte new.phase ≤ suc n
        on a = let owes = a.owes in let phase = a.phase in rw phase (omega arith)
    go Gone at o = absurd (subst IsListening at (b.settling.harmless.each [] d refl).phase)

    owes : 2 * length new.owed + due_at byte new.phase ≤ suc n
    owes = go d.phase refl b.owes

-- a batch begins on a device that owes nothing, and its replies are taken at the end
pub batch_begins : (byte : ℕ) (pages : List ℕ) (start : Device) (left : ℕ) (d : Device) → IsGoing byte pages start left d → InBatch byte pages start left 521 d
batch_begins byte pages start left d g = record { settling = g.settling; within = g.within; owes = rw g.quiet (most d.phase) }
  where
    most : (p : Phase) → 0 + due_at byte p ≤ 521
    most Fresh = lit≤ tt
    most (Connected rest) = let m = due_most byte rest in omega arith
    most Gone = lit≤ tt

pub batch_ends : (byte : ℕ) (pages : List ℕ) (start : Device) (left n : ℕ) (d : Device) → InBatch byte pages start left n d → IsGoing byte pages start left (with_nothing_owed d)
batch_ends byte pages start left n d b = record {
  settling = settling_loses byte pages start d (with_nothing_owed d) b.settling (length d.owed, ap (λ o. record d { owed = o }) (sym (drop_all (length d.owed) d.owed (omega arith))));
  quiet = refl;
  within = b.within;
}
