-- One 7F from a device that may be greeted, between two drainings.
use Rattle.std.proofs.Common.{lit<, ◌≡◌, ℕ, ◌+◌, ◌≤◌, List, [], ◌∷◌, ◌++◌, length, drop, Option, Some, None, Result, refl, sym, ap, ◌∙◌, subst, arith}
use Rattle.std.proofs.lemmas.List.{drop_all, length-append, length-drop}
use Rattle.stm_wire.proofs.Names.{ack, answer, ChipData, Connected, Device, Feeds, Fresh, GetsHonestly, Gone, HarmlessWithin, Intent, IsDevice, IsGreeting, IsListening, IsModel, IsOpenPhase}
use Rattle.stm_wire.proofs.Names.{IsSettling, Keeps, KeepsSettling, LosesOwed, MayBeGreeted, most_greeted, nack, Phase, PutsHonestly, Receives, reply_of, reply_to, RigFault, RigState, SameOutside}
use Rattle.stm_wire.proofs.Names.{settling_byte, step_reply, Takes, Verdict, verdict, with_nothing_owed}
use Rattle.stm_wire.specs.declared.verdict.Verdict.TheVariants.{Done, Refused, Loose}
use Rattle.stm_wire.proofs.Awaited.{answer_small, step_small}
use Rattle.stm_wire.proofs.Bound.{by_recursion}
use Rattle.stm_wire.proofs.Closed.{same_make}
use Rattle.stm_wire.proofs.Ending.{bytes_more}
use Rattle.stm_wire.proofs.Flash.{then_same}
use Rattle.stm_wire.proofs.Greeted.{short_least}
use Rattle.stm_wire.proofs.GreetedFrames.{loss_may_be_greeted, within_owed}
use Rattle.stm_wire.proofs.Keeping.{kept_get, kept_put, kept_start, kept_then, left_here, settling_start}

-- the bytes that 7F adds to those owed
owed_few : (d new : Device) → IsDevice d → ((n : Device) → Feeds 0x7F d n → IsListening n.phase) → Feeds 0x7F d new → length new.owed ≤ length d.owed + 259
owed_few d new is stays f = go d.phase refl f.receives
  where
    go : (p : Phase) → d.phase ≡ p → Receives d p 0x7F new → length new.owed ≤ length d.owed + 259
    go Fresh at e = let all = ap (λ (x : Device). length x.owed) e in let one = length-append d.owed (ack ∷ []) in omega arith
    go Gone at e = let all = ap (λ (x : Device). length x.owed) e in omega arith
    go (Connected rest) at t = by (verdict d.chip d.codes bytes) refl t
      where
        bytes : List ℕ
        bytes = rest ++ 0x7F ∷ []

        gone : Device
        gone = record d { owed = d.owed ++ reply_of d bytes; phase = Gone }

        by : (v : Option Verdict) → verdict d.chip d.codes bytes ≡ v → Takes d bytes v new → length new.owed ≤ length d.owed + 259
        by None v e =
            let r : reply_of d bytes ≡ step_reply bytes = ap (λ w. reply_to w d.chip d.version d.codes d.flash bytes) v in
            let all = ap (λ (x : Device). length x.owed) e in let more = length-append d.owed (reply_of d bytes) in let few = step_small bytes in let same = ap length r in omega arith
        by (Some Refused) v e =
            let r : reply_of d bytes ≡ nack ∷ [] = ap (λ w. reply_to w d.chip d.version d.codes d.flash bytes) v in
            let all = ap (λ (x : Device). length x.owed) e in let more = length-append d.owed (reply_of d bytes) in let same = ap length r in omega arith
        by (Some Done) v (flash, effect, e) =
            let a = answer d.chip d.version d.codes d.flash bytes in
            let r : reply_of d bytes ≡ ack ∷ a = ap (λ w. reply_to w d.chip d.version d.codes d.flash bytes) v in
            let all = ap (λ (x : Device). length x.owed) e in let more = length-append d.owed (reply_of d bytes) in let same = ap length r in
            let few = answer_small d is bytes (bytes_more rest 0x7F (by_recursion rest (subst (IsOpenPhase d.chip d.codes) at is.phase).1) (lit< tt)) in omega arith
        by (Some Loose) v l = absurd (stays gone (record {
          receives = subst (λ (p : Phase). Receives d p 0x7F gone) (sym at) (subst (λ w. Takes d bytes w gone) (sym v)
              (record { chip = refl; version = refl; codes = refl; same_length = refl; flash = is.flash; phase = tt; owed = λ p. refl }));
        }))

module _ (intent : Option Intent) (pages : List ℕ) where
  abbrev byte : ℕ
  byte = settling_byte intent

  abbrev IsLeft : Device → Device → Type 0
  IsLeft start d = IsGreeting intent pages start d

  -- so a device stays where owed bytes are lost
  pub greeting_loses : (start d new : Device) → IsLeft start d → LosesOwed d new → IsLeft start new
  greeting_loses start d new g (n, e) = subst (IsLeft start) (sym e) (record {
    safely = record {
      same_chip = g.safely.same_chip;
      flash = g.safely.flash;
      harmless = within_owed (most_greeted start.chip.kind intent) byte pages d (drop n d.owed) g.safely.harmless;
    };
    same_version = g.same_version;
    same_codes = g.same_codes;
    owed = (let fewer = length-drop n d.owed in let few = g.owed in omega arith);
  })

  -- and where settling keeps it, from here on
  pub greeting_on : (start mid d : Device) → IsLeft start mid → IsSettling byte pages mid d → IsLeft start d
  greeting_on start mid d g s = record {
    safely = record {
      same_chip = s.same_chip ∙ g.safely.same_chip;
      flash = then_same start.chip pages start.flash mid.flash d.flash g.safely.flash (subst (λ (chip : ChipData). SameOutside chip pages mid.flash d.flash) g.safely.same_chip s.flash);
      harmless = record { harmless = s.harmless; awaits = s.awaits (most_greeted start.chip.kind intent) (let l = short_least start.chip.kind intent in omega arith) g.safely.harmless.awaits };
    };
    same_version = s.same_version ∙ g.same_version;
    same_codes = s.same_codes ∙ g.same_codes;
    owed = s.owed;
  }

  -- before it
  pub greeting_start : (d : Device) → MayBeGreeted d intent pages → length d.owed ≤ 4096 → IsLeft d d
  greeting_start d m few = record {
    safely = record { same_chip = refl; flash = record { same_length = refl; elsewhere = λ n lt out. refl }; harmless = m.now };
    same_version = refl;
    same_codes = refl;
    owed = few;
  }

  -- 7F, behind the first draining
  pub greeting_fed : (start d new : Device) → IsDevice d → IsLeft start d → MayBeGreeted d intent pages → d.owed ≡ [] → Feeds 0x7F d new → IsLeft start new
  greeting_fed start d new is s m quiet f =
      let g = m.greeted new f in
      let make = same_make 0x7F d new f in
      let few = owed_few d new is (λ n fed. ((m.greeted n fed).harmless.harmless.each [] n refl).phase) f in
      let none = ap length quiet in
      record {
        safely = record {
          same_chip = g.same_chip ∙ s.safely.same_chip;
          flash = then_same start.chip pages start.flash d.flash new.flash s.safely.flash (subst (λ (chip : ChipData). SameOutside chip pages d.flash new.flash) s.safely.same_chip g.flash);
          harmless = subst (λ (chip : ChipData). HarmlessWithin (most_greeted chip.kind intent) new byte pages) s.safely.same_chip g.harmless;
        };
        same_version = make.version ∙ s.same_version;
        same_codes = make.codes ∙ s.same_codes;
        owed = omega arith;
      }

  -- still so where what is owed is taken
  pub greeted_quiet : (d new : Device) → MayBeGreeted d intent pages → new ≡ with_nothing_owed d → MayBeGreeted new intent pages
  greeted_quiet d new m e = loss_may_be_greeted d new intent pages m (length d.owed, e ∙ ap (λ o. record d { owed = o }) (sym (drop_all (length d.owed) d.owed (omega arith))))

  -- The calls of a greeting, one after another: none yet,
  pub greeting_begin : (a : RigState) → IsModel a → a.is_honest → MayBeGreeted a.device intent pages → length a.device.owed ≤ 4096 → Keeps (IsLeft a.device) a a
  greeting_begin a model h m few = kept_start (IsLeft a.device) (greeting_loses a.device) a model h (greeting_start a.device m few)

  -- a draining,
  pub greeting_drain : (start : Device) (a b c : RigState) → IsModel b → Keeps (IsLeft start) a b → (IsSettling byte pages b.device b.device → KeepsSettling byte pages b.device b c) → Keeps (IsLeft start) a c
  greeting_drain start a b c model k l =
      let g = (left_here (IsLeft start) a b model k).1 in
      kept_then (IsLeft start) (IsSettling byte pages b.device) a b c model (λ d s. greeting_on start b.device d g s) k (l (settling_start byte pages b.device g.safely.harmless.harmless g.owed))

  -- 7F,
  pub greeting_put : {T : Type 0} (start : Device) (result : Result T RigFault) (a b c : RigState) → IsModel b → Keeps (IsLeft start) a b → MayBeGreeted b.device intent pages → b.device.owed ≡ [] → PutsHonestly 0x7F result b c → Keeps (IsLeft start) a c
  greeting_put start result a b c model k m quiet p =
      let g = (left_here (IsLeft start) a b model k).1 in
      kept_then (IsLeft start) (IsLeft start) a b c model (λ d q. q) k
      (kept_put (IsLeft start) (greeting_loses start) 0x7F result b c model g (λ d f. greeting_fed start b.device d model.device g m quiet f) p)

  -- and an answer to it
  pub greeting_get : (start : Device) (result : Result (Option ℕ) RigFault) (a b c : RigState) → IsModel b → Keeps (IsLeft start) a b → GetsHonestly result b c → Keeps (IsLeft start) a c
  greeting_get start result a b c model k p =
      let g = (left_here (IsLeft start) a b model k).1 in
      kept_then (IsLeft start) (IsLeft start) a b c model (λ d q. q) k (kept_get (IsLeft start) (greeting_loses start) result b c model g p)
