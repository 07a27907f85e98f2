-- What settling keeps, from call to call.
use Rattle.std.proofs.Common.{eqb, inl, inr, ◌≡◌, ⊎_elim, ℕ, suc, ◌+◌, ◌-◌, ◌<◌, ◌≤◌, List, [], ◌∷◌, ◌++◌, length, drop, Option, Some, None, Result, Ok, Err, refl, sym, ◌∙◌, ap, subst, arith}
use Rattle.std.proofs.lemmas.List.{drop-drop, length-drop}
use Rattle.stm_wire.proofs.Names.{ack, Awaits, Connected, Device, EraseKind, Feeds, Fresh, GetsFirst, GetsHonestly, Harmless, IsDevice, IsGoing, IsModel, IsSettled, IsSettling, Keeps, KeepsSettling}
use Rattle.stm_wire.proofs.Names.{LeftByGet, LeftByPut, LeftBySettling, LeftWith, LosesOwed, most_awaited, nack, PutsHonestly, RigFault, RigState, with_nothing_owed, with_rest}
use Rattle.std.specs.Prelude.{MatchBool}
use Rattle.stm_wire.proofs.Flash.{same_flash}
use Rattle.stm_wire.specs.declared.chip.EraseKind.TheVariants.{Page, Extended}
use Rattle.stm_wire.specs.lemmas.MomentLaws.{started, joined, elapsed}
use Rattle.stm_wire.proofs.Ending.{awaited_limited, more_suffice}
use Rattle.stm_wire.proofs.Going.{going, settling_loses, settling_fed, connects, waits, refuses, step, Steps, IsOver, IsNoRefusal, InBatch, batch_step, batch_begins, batch_ends}

put_journal : {T : Type 0} (sent : ℕ) (result : Result T RigFault) (a b : RigState) → PutsHonestly sent result a b → b.journal ≡ a.journal
put_journal sent (Ok x) a b p = p.ok.1
put_journal sent (Err e) a b p = p.err.0

-- Of any P that stays where owed bytes are lost:
pub left_here : (P : Device → Type 0) (a b : RigState) → IsModel b → Keeps P a b → LeftWith P a.journal b.device b.journal
left_here P a b model k = k.moments.each b.device b.journal (model.counts_now a.moment b.device k.moments.later (0, refl))

-- and what follows keeps something that implies it
pub kept_then : (P Q : Device → Type 0) (a b c : RigState) → IsModel b → ((d : Device) → Q d → P d) → Keeps P a b → Keeps Q b c → Keeps P a c
kept_then P Q a b c model f k l =
    let same = (left_here P a b model k).0 in
    record {
      honest = l.honest;
      journal = l.journal ∙ k.journal;
      moments = joined (LeftWith P a.journal) (LeftWith Q b.journal) (LeftWith P a.journal) a b c k.moments l.moments
          (λ d journal p. p) (λ d journal q. (q.0 ∙ same, f d q.1));
    }

module _ (P : Device → Type 0) (survives : (d new : Device) → P d → LosesOwed d new → P new) where
  pub kept_start : (a : RigState) → IsModel a → a.is_honest → P a.device → Keeps P a a
  kept_start a model h s = record {
    honest = h;
    journal = refl;
    moments = started (LeftWith P a.journal) a model (λ d l. (refl, survives a.device d s l));
  }

  pub kept_get : (result : Result (Option ℕ) RigFault) (a b : RigState) → IsModel a → P a.device → GetsHonestly result a b → Keeps P a b
  kept_get result a b model s g = record {
    honest = g.honest;
    journal = g.journal;
    moments = elapsed (LeftByGet a) (LeftWith P a.journal) a b model g.time
        (λ d l. (refl, survives a.device d s l)) (λ d journal p. (p.0, survives a.device d s p.1));
  }

  -- a byte that leaves what has P
  pub kept_put : {T : Type 0} (sent : ℕ) (result : Result T RigFault) (a b : RigState) → IsModel a → P a.device → ((d : Device) → Feeds sent a.device d → P d) → PutsHonestly sent result a b → Keeps P a b
  kept_put sent result a b model s fed p = record {
    honest = p.honest;
    journal = put_journal sent result a b p;
    moments = elapsed (LeftByPut sent a) (LeftWith P a.journal) a b model p.time
        (λ d l. (refl, survives a.device d s l))
        (λ d journal q. (
          q.0,
          ⊎_elim
              (λ same. survives a.device d s (subst (λ (x : Device). LosesOwed x d) same q.1.2))
              (λ f. survives q.1.0 d (fed q.1.0 f) q.1.2) q.1.1,
        ));
  }

-- Of settling:
pub here : (byte : ℕ) (pages : List ℕ) (start : Device) (a b : RigState) → IsModel b → KeepsSettling byte pages start a b → LeftBySettling byte pages start a.journal b.device b.journal
here byte pages start a b model k = left_here (IsSettling byte pages start) a b model k

pub keeps_start : (byte : ℕ) (pages : List ℕ) (start : Device) (a : RigState) → IsModel a → a.is_honest → IsSettling byte pages start a.device → KeepsSettling byte pages start a a
keeps_start byte pages start a model h s = kept_start (IsSettling byte pages start) (settling_loses byte pages start) a model h s

pub keeps_then : (byte : ℕ) (pages : List ℕ) (start : Device) (a b c : RigState) → IsModel b → KeepsSettling byte pages start a b → KeepsSettling byte pages start b c → KeepsSettling byte pages start a c
keeps_then byte pages start a b c model k l = kept_then (IsSettling byte pages start) (IsSettling byte pages start) a b c model (λ d q. q) k l

pub keeps_get : (byte : ℕ) (pages : List ℕ) (start : Device) (result : Result (Option ℕ) RigFault) (a b : RigState) → IsModel a → IsSettling byte pages start a.device → GetsHonestly result a b → KeepsSettling byte pages start a b
keeps_get byte pages start result a b model s g = kept_get (IsSettling byte pages start) (settling_loses byte pages start) result a b model s g

pub keeps_put : {T : Type 0} (byte sent : ℕ) (pages : List ℕ) (start : Device) (result : Result T RigFault) (a b : RigState) → IsModel a → IsSettling byte pages start a.device →
    ((d : Device) → Feeds sent a.device d → IsSettling byte pages start d) → PutsHonestly sent result a b → KeepsSettling byte pages start a b
keeps_put byte sent pages start result a b model s fed p = kept_put (IsSettling byte pages start) (settling_loses byte pages start) sent result a b model s fed p

-- so many bytes were taken from the front
pub record IsTaken (n : ℕ) (old new : Device) : Type 0 where
  pub within : n ≤ length old.owed
  pub is : new ≡ record old { owed = drop n old.owed }

pub taken_more : (n byte : ℕ) (old mid new : Device) → IsTaken n old mid → GetsFirst (Some byte) mid new → IsTaken (n + 1) old new
taken_more n byte old mid new t e =
    let owed : mid.owed ≡ byte ∷ new.owed = ap (λ (x : Device). x.owed) e in
    let some : length (drop n old.owed) ≡ suc (length new.owed) = ap length (sym (ap (λ (x : Device). x.owed) t.is) ∙ owed) in
    let l = length-drop n old.owed in
    record {
      within = omega arith;
      is = ap (λ (x : Device). let r : Device = record x { owed = drop 1 x.owed } in r) (sym e) ∙ ap (λ (x : Device). let r : Device = record x { owed = drop 1 x.owed } in r) t.is
          ∙ ap (λ (o : List ℕ). let r : Device = record old { owed = o } in r) (drop-drop 1 n old.owed);
    }

pub taken_all : (n : ℕ) (old mid new : Device) → IsTaken n old mid → GetsFirst None mid new → new ≡ with_nothing_owed old
taken_all n old mid new t e = e.1 ∙ t.is ∙ ap (λ (o : List ℕ). let r : Device = record old { owed = o } in r) (sym (ap (λ (x : Device). x.owed) t.is) ∙ e.0)

-- the byte of the loop, put
pub going_put : {T : Type 0} (byte : ℕ) (pages : List ℕ) (start : Device) (left : ℕ) (result : Result T RigFault) (a b : RigState) → IsModel a → byte < 256 → IsGoing byte pages start (suc left) a.device →
    PutsHonestly byte result a b → KeepsSettling byte pages start a b
going_put byte pages start left result a b model small g p = keeps_put byte byte pages start result a b model g.settling (λ d f. (step byte pages start left a.device d model.device small g f).settling) p

-- after it nothing was owed
pub once_none : (byte : ℕ) (pages : List ℕ) (start : Device) (left : ℕ) (mid new : Device) → Steps byte pages start left mid → GetsFirst None mid new → IsGoing byte pages start left new
once_none byte pages start left mid new s t = ⊎_elim
    (λ (o : IsOver mid). absurd (let e = sym t.0 ∙ o.reply in cc))
    (λ (g : IsNoRefusal mid × IsGoing byte pages start left (with_nothing_owed mid)).
    subst (IsGoing byte pages start left) (ap (λ (o : List ℕ). let r : Device = record mid { owed = o } in r) (sym t.0) ∙ sym t.1) g.1)
    s.outcome

-- or this byte first
pub once_some : (byte : ℕ) (pages : List ℕ) (start : Device) (left first : ℕ) (mid after new : Device) → Steps byte pages start left mid → GetsFirst (Some first) mid after → new ≡ with_nothing_owed after →
    MatchBool (eqb first 0x1F) (IsSettled new) (IsGoing byte pages start left new)
once_some byte pages start left first mid after new s t e = subst P (sym same) (⊎_elim over on s.outcome)
  where
    P : Device → Type 0
    P d = MatchBool (eqb first 0x1F) (IsSettled d) (IsGoing byte pages start left d)

    same : new ≡ with_nothing_owed mid
    same = e ∙ ap (λ (d : Device). let r : Device = record d { owed = [] } in r) (sym t)

    owed : mid.owed ≡ first ∷ after.owed
    owed = ap (λ (d : Device). d.owed) t

    over : IsOver mid → P (with_nothing_owed mid)
    over o = let f : first ≡ nack = (let h = sym owed ∙ o.reply in cc) in rw f o.settled

    on : IsNoRefusal mid × IsGoing byte pages start left (with_nothing_owed mid) → P (with_nothing_owed mid)
    on (inl none, g) = absurd (let h = sym owed ∙ none in cc)
    on (inr (more, r), g) = let f : first ≡ ack = (let h = sym owed ∙ r in cc) in rw f g

-- what stands before a byte whose outcome is known
pub probed : (byte : ℕ) (d new : Device) → d.phase ≡ Connected [] → d.owed ≡ [] → Feeds byte d new → new ≡ with_rest (byte ∷ []) d
probed byte d new at quiet f = waits byte d new at f ∙ ap (λ (o : List ℕ). let r : Device = record d { owed = o ++ []; phase = Connected (byte ∷ []) } in r) quiet

pub confirmed : (byte : ℕ) (d new : Device) → d.phase ≡ Connected (byte ∷ []) → d.owed ≡ [] → Feeds byte d new → new ≡ record d { owed = nack ∷ []; phase = Connected [] }
confirmed byte d new at quiet f = refuses byte d new at f ∙ ap (λ (o : List ℕ). let r : Device = record d { owed = o ++ nack ∷ []; phase = Connected [] } in r) quiet

pub connected : (d new : Device) → d.phase ≡ Fresh → d.owed ≡ [] → Feeds 0x7F d new → new ≡ record d { owed = ack ∷ []; phase = Connected [] }
connected d new at quiet f = connects d new at f ∙ ap (λ (o : List ℕ). let r : Device = record d { owed = o ++ ack ∷ []; phase = Connected [] } in r) quiet

pub keeps_known : {T : Type 0} (byte : ℕ) (pages : List ℕ) (start : Device) (result : Result T RigFault) (a b : RigState) (target : Device) → IsModel a → IsSettling byte pages start a.device →
    ((d : Device) → Feeds byte a.device d → d ≡ target) → length target.owed ≤ 4096 → PutsHonestly byte result a b → KeepsSettling byte pages start a b
keeps_known byte pages start result a b target model s known few p =
    keeps_put byte byte pages start result a b model s
    (λ d f. settling_fed byte pages start a.device d s f (subst (λ (x : Device). length x.owed ≤ 4096) (sym (known d f)) few)) p

-- the one byte that was owed is taken
pub taken_one : (byte : ℕ) (d new : Device) → d.owed ≡ byte ∷ [] → (first : ℕ) → GetsFirst (Some first) d new → (first ≡ byte) × (new ≡ with_nothing_owed d)
taken_one byte d new e first t =
    let o : byte ∷ [] ≡ first ∷ new.owed = sym e ∙ ap (λ (x : Device). x.owed) t in
    let f : first ≡ byte = cc in
    let none : new.owed ≡ [] = cc in
    (f, ap (λ (o : List ℕ). let r : Device = record new { owed = o } in r) none ∙ ap (λ (x : Device). let r : Device = record x { owed = [] } in r) (sym t))

pub not_owed : (first : ℕ) (d new : Device) → d.owed ≡ [] → GetsFirst (Some first) d new → ⊥
not_owed first d new e t = let h = sym e ∙ ap (λ (x : Device). x.owed) t in cc

pub settling_start : (byte : ℕ) (pages : List ℕ) (d : Device) → Harmless d byte pages → length d.owed ≤ 4096 → IsSettling byte pages d d
settling_start byte pages d h few = record { same_chip = refl; same_version = refl; same_codes = refl; harmless = h; awaits = λ most three w. w; flash = same_flash d.chip pages d.flash d.flash refl; owed = few }

pub going_next : (byte limit sent : ℕ) (pages : List ℕ) (start d : Device) → sent < limit → IsGoing byte pages start (limit - sent) d → IsGoing byte pages start (suc (limit - (sent + 1))) d
going_next byte limit sent pages start d lt g =
    let e : limit - sent ≡ suc (limit - (sent + 1)) = omega arith in
    let P : ℕ → Type 0 = λ n. IsGoing byte pages start n d in
    subst P e g

pub going_last : (byte limit sent : ℕ) (pages : List ℕ) (start d : Device) → limit ≤ sent → IsGoing byte pages start (limit - sent) d → IsGoing byte pages start 0 d
going_last byte limit sent pages start d le g =
    let e : limit - sent ≡ 0 = omega arith in
    let P : ℕ → Type 0 = λ n. IsGoing byte pages start n d in
    subst P e g

pub settled_waiting : (d new : Device) → new ≡ with_rest [] d → IsSettled new
settled_waiting d new e = record { phase = ap (λ (x : Device). x.phase) e; owed = ap (λ (x : Device). x.owed) e }

pub going_begin : (byte left : ℕ) (pages : List ℕ) (start d : Device) → IsGoing byte pages start left d → IsGoing byte pages start (left - 0) d
going_begin byte left pages start d g =
    let e : left ≡ left - 0 = omega arith in
    let P : ℕ → Type 0 = λ n. IsGoing byte pages start n d in
    subst P e g

-- so many suffice for any device
pub enough_sent : (byte limit : ℕ) (d : Device) → IsDevice d → byte < 256 → 131047 ≤ limit → Awaits byte limit d
enough_sent byte limit d is small many = more_suffice d byte (most_awaited d.chip.kind) limit (within d.chip.kind) (awaited_limited d is byte small)
  where
    within : (kind : EraseKind) → most_awaited kind ≤ limit
    within Page = omega (arith, many)
    within Extended = many

pub going_drained : (byte limit : ℕ) (pages : List ℕ) (d new : Device) → Awaits byte limit d → Harmless d byte pages → length d.owed ≤ 4096 → new ≡ with_nothing_owed d → IsGoing byte pages d limit new
going_drained byte limit pages d new many h few e =
    let P : Device → Type 0 = IsGoing byte pages d limit in
    subst P (sym e) (going byte pages d limit many h few)

-- a byte of a batch, put
pub batch_put : {T : Type 0} (byte : ℕ) (pages : List ℕ) (start : Device) (left n : ℕ) (result : Result T RigFault) (a b : RigState) → IsModel a → byte < 256 → 2 ≤ left → n < 8192 →
    InBatch byte pages start (suc left) n a.device → PutsHonestly byte result a b → KeepsSettling byte pages start a b
batch_put byte pages start left n result a b model small two room g p =
    keeps_put byte byte pages start result a b model g.settling (λ d f. (batch_step byte pages start left n a.device d model.device small two room g f).settling) p

pub batch_next : (byte : ℕ) (pages : List ℕ) (start : Device) (left count sent : ℕ) (d : Device) → sent < count → InBatch byte pages start (left + (count - sent)) (521 + sent) d → InBatch byte pages start (suc (left + (count - (sent + 1)))) (521 + sent) d
batch_next byte pages start left count sent d lt g =
    let e : left + (count - sent) ≡ suc (left + (count - (sent + 1))) = omega arith in
    let P : ℕ → Type 0 = λ n. InBatch byte pages start n (521 + sent) d in
    subst P e g

pub batch_count : (byte : ℕ) (pages : List ℕ) (start : Device) (left sent : ℕ) (d : Device) → InBatch byte pages start left (suc (521 + sent)) d → InBatch byte pages start left (521 + (sent + 1)) d
batch_count byte pages start left sent d g =
    let e : suc (521 + sent) ≡ 521 + (sent + 1) = omega arith in
    let P : ℕ → Type 0 = λ n. InBatch byte pages start left n d in
    subst P e g

pub batch_first : (byte : ℕ) (pages : List ℕ) (start : Device) (left count : ℕ) (d : Device) → IsGoing byte pages start (left + count) d → InBatch byte pages start (left + (count - 0)) (521 + 0) d
batch_first byte pages start left count d g =
    let e : left + count ≡ left + (count - 0) = omega arith in
    let P : ℕ → Type 0 = λ n. InBatch byte pages start n (521 + 0) d in
    subst P e (batch_begins byte pages start (left + count) d g)

pub batch_last : (byte : ℕ) (pages : List ℕ) (start : Device) (left count sent : ℕ) (d new : Device) → count ≤ sent → InBatch byte pages start (left + (count - sent)) (521 + sent) d → new ≡ with_nothing_owed d → IsGoing byte pages start left new
batch_last byte pages start left count sent d new le g e =
    let same : left + (count - sent) ≡ left = omega arith in
    let P : ℕ → Type 0 = λ n. InBatch byte pages start n (521 + sent) d in
    subst (IsGoing byte pages start left) (sym e) (batch_ends byte pages start left (521 + sent) d (subst P same g))

pub going_split : (byte left count : ℕ) (pages : List ℕ) (start d : Device) → count ≤ left → IsGoing byte pages start left d → IsGoing byte pages start (left - count + count) d
going_split byte left count pages start d le g =
    let e : left ≡ left - count + count = omega arith in
    let P : ℕ → Type 0 = λ n. IsGoing byte pages start n d in
    subst P e g
