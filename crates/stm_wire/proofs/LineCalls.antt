-- A put and a get as turns of a dialogue.
use Rattle.std.proofs.Common.{◌≡◌, ⊎_elim, ℕ, List, [], ◌∷◌, ◌++◌, drop, Option, Some, None, Ok, Err, refl, sym, ◌∙◌, ap, subst, inl, append-nil}
use Rattle.stm_wire.proofs.Names.{Acknowledged, Adds, BreaksOff, Call, call_of, Device, Expects, FailsBy, Get, GetsFirst, GetsHonestly, GoesOn, HasCause, IsBrokenOff, IsHeldToEnd, IsModel, Learns}
use Rattle.stm_wire.proofs.Names.{learns, LeftByGet, LeftByPut, LeftBySending, LosesOwed, Put, PutsHonestly, Records, RigFault, RigState, Says, says, SentHonestly, Turn, WireFault}
use Rattle.stm_wire.specs.declared.fault.WireFault.TheVariants.{Line, Nack, Quiet, Garbled}
use Rattle.stm_wire.specs.lemmas.MomentLaws.{elapsed, LosesOwed-refl}
use Rattle.stm_wire.proofs.Turns.{GoesOn-weaker}
use Rattle.stm_wire.proofs.Holding.{breaks_at, left-here, Holds-none}

left-put : (byte : ℕ) (a : RigState) (d : Device) (journal : List ℕ) → LeftByPut byte a d journal → LeftBySending (byte ∷ []) a d journal
left-put byte a d journal l = (
  l.0,
  ⊎_elim
      (λ same. let Q : Device → Type 0 = λ e. LosesOwed e d in (0, (a.device, refl, subst Q same l.1.2)))
      (λ feeds. (1, (l.1.0, (l.1.0, feeds, refl), l.1.2)))
      l.1.1,
)

recorded-ok : {T : Type 0} (call : Call) (u : T) (c d : Option (List Call)) → Records call (Ok u) c d → Adds (call ∷ []) c d
recorded-ok call u None d r = r
recorded-ok call u (Some past) d r = r

recorded-err : (T : Type 0) (turn : Turn) (call : Call) (e : RigFault) (c d : Option (List Call)) → FailsBy Line turn call → Records {T = T} call (Err e) c d → GoesOn (IsBrokenOff Line (turn ∷ [])) c d
recorded-err T turn call e None d fails r = r
recorded-err T turn call e (Some past) d fails r =
    ⊎_elim
    (λ in_it. (call ∷ [], in_it, inl (fails, refl)))
    (λ not_in_it. ([], not_in_it ∙ ap (λ zs. Some zs) (sym (append-nil past)), refl))
    r

-- a put that answered Ok
pub Holds-put : {T : Type 0} (byte : ℕ) (u : T) (a b : RigState) → (a.is_honest → IsModel a) → HasCause {T = T} a.line_failures b.line_failures (Ok u) → b.journal_failures ≡ a.journal_failures
    → Records {T = T} (Put byte) (Ok u) a.calls b.calls → (a.is_honest → PutsHonestly {T = T} byte (Ok u) a b) → IsHeldToEnd (byte ∷ []) (says (byte ∷ [])) a b
Holds-put byte u a b model line journal recorded honest =
    record {
      recorded = recorded-ok (Put byte) u a.calls b.calls recorded;
      line_count = line.done;
      journal_count = journal;
      honestly = λ h.
          let p = honest h in
          record {
            honest = p.honest;
            journal = p.ok.1;
            fed = (b.device, (b.device, p.ok.0, refl), LosesOwed-refl b.device);
            moments = elapsed (LeftByPut byte a) (LeftBySending (byte ∷ []) a) a b (model h) p.time (left-here (byte ∷ []) a) (left-put byte a);
          };
    }

-- a put that failed
pub BreaksOff-put : (T : Type 0) (byte : ℕ) (e : RigFault) (a b : RigState) → (a.is_honest → IsModel a) → HasCause {T = T} a.line_failures b.line_failures (Err e) → b.journal_failures ≡ a.journal_failures
    → Records {T = T} (Put byte) (Err e) a.calls b.calls → (a.is_honest → PutsHonestly {T = T} byte (Err e) a b) → BreaksOff Line (byte ∷ []) (says (byte ∷ [])) a b
BreaksOff-put T byte e a b model line journal recorded honest =
    record {
      recorded = recorded-err T (Says byte) (Put byte) e a.calls b.calls refl recorded;
      line_count = line.later;
      line_cause = λ _. line.failed;
      line_kept = tt;
      journal_count = journal;
      honestly = λ h.
          let p = honest h in
          let l = left-put byte a b.device b.journal p.err in
          record {
            honest = p.honest;
            journal = l.0;
            fed = l.1;
            moments = elapsed (LeftByPut byte a) (LeftBySending (byte ∷ []) a) a b (model h) p.time (left-here (byte ∷ []) a) (left-put byte a);
          };
    }

left-get : (a : RigState) (d : Device) (journal : List ℕ) → LeftByGet a d journal → LeftBySending [] a d journal
left-get a d journal l = (l.0, (0, (a.device, refl, l.1)))

gets-loses : (x : Option ℕ) (a b : Device) → GetsFirst x a b → LosesOwed a b
gets-loses None a b t = (0, t.1)
gets-loses (Some byte) a b t = (1, ap (λ (d : Device). let r : Device = record d { owed = drop 1 d.owed } in r) (sym t))

-- what a get that answered does to an honest Rig
pub got-honestly : (x : Option ℕ) (a b : RigState) → IsModel a → GetsHonestly (Ok x) a b → SentHonestly [] a b
got-honestly x a b model p =
    record {
      honest = p.honest;
      journal = p.journal;
      fed = (a.device, refl, gets-loses x a.device b.device p.ok);
      moments = elapsed (LeftByGet a) (LeftBySending [] a) a b model p.time (left-here [] a) (left-get a);
    }

-- a get that answered this byte, where the turn takes it
pub Holds-get : (turn : Turn) (byte : ℕ) (a b : RigState) → call_of turn ≡ Get (Some byte) → (a.is_honest → IsModel a) → HasCause {T = Option ℕ} a.line_failures b.line_failures (Ok (Some byte)) → b.journal_failures ≡ a.journal_failures
    → Records {T = Option ℕ} (Get (Some byte)) (Ok (Some byte)) a.calls b.calls → (a.is_honest → GetsHonestly (Ok (Some byte)) a b) → IsHeldToEnd [] (turn ∷ []) a b
Holds-get turn byte a b is model line journal recorded honest =
    let A : Call → Type 0 = λ call. Adds (call ∷ []) a.calls b.calls in
    record {
      recorded = subst A (sym is) (recorded-ok {T = Option ℕ} (Get (Some byte)) (Some byte) a.calls b.calls recorded);
      line_count = line.done;
      journal_count = journal;
      honestly = λ h. got-honestly (Some byte) a b (model h) (honest h);
    }

-- a get that failed, at a turn that takes a byte
pub BreaksOff-get : (turn : Turn) (e : RigFault) (a b : RigState) → FailsBy Line turn (Get None) → (a.is_honest → IsModel a) → HasCause {T = Option ℕ} a.line_failures b.line_failures (Err e) → b.journal_failures ≡ a.journal_failures
    → Records {T = Option ℕ} (Get None) (Err e) a.calls b.calls → (a.is_honest → GetsHonestly (Err e) a b) → BreaksOff Line [] (turn ∷ []) a b
BreaksOff-get turn e a b fails model line journal recorded honest =
    record {
      recorded = recorded-err (Option ℕ) turn (Get None) e a.calls b.calls fails recorded;
      line_count = line.later;
      line_cause = λ _. line.failed;
      line_kept = tt;
      journal_count = journal;
      honestly = λ h.
          let p = honest h in
          let l = left-get a b.device b.journal p.err in
          record {
            honest = p.honest;
            journal = l.0;
            fed = l.1;
            moments = elapsed (LeftByGet a) (LeftBySending [] a) a b (model h) p.time (left-here [] a) (left-get a);
          };
    }

-- a get that stayed quiet, or brought a byte that the turn does not take
pub BreaksOff-reply : (fault : WireFault) (turn : Turn) (x : Option ℕ) (a b : RigState) → (fault ≡ Line → ⊥) → FailsBy fault turn (Get x) → (a.is_honest → IsModel a) → HasCause {T = Option ℕ} a.line_failures b.line_failures (Ok x) → b.journal_failures ≡ a.journal_failures
    → Records {T = Option ℕ} (Get x) (Ok x) a.calls b.calls → (a.is_honest → GetsHonestly (Ok x) a b) → BreaksOff fault [] (turn ∷ []) a b
BreaksOff-reply fault turn x a b other fails model line journal recorded honest =
    breaks_at fault [] [] turn (Get x) a a b other fails (Holds-none a model) (recorded-ok {T = Option ℕ} (Get x) x a.calls b.calls recorded) line.done journal (λ h. got-honestly x a b (model h) (honest h))

-- the byte that was learned is one that the turn takes
pub Holds-retold : (x y : Turn) (a b : RigState) → call_of y ≡ call_of x → IsHeldToEnd [] (x ∷ []) a b → IsHeldToEnd [] (y ∷ []) a b
Holds-retold x y a b same p =
    let A : Call → Type 0 = λ call. Adds (call ∷ []) a.calls b.calls in
    record { recorded = subst A (sym same) p.recorded; line_count = p.line_count; journal_count = p.journal_count; honestly = p.honestly }

-- a turn at which the host hears
abbrev pub IsHeard : Turn → Type 0
IsHeard (Says byte) = ⊥
IsHeard Acknowledged = Unit {0}
IsHeard (Expects byte) = Unit {0}
IsHeard (Learns byte) = Unit {0}

fails-retold : (fault : WireFault) (x : ℕ) (turn : Turn) (call : Call) → IsHeard turn → FailsBy fault (Learns x) call → FailsBy fault turn call
fails-retold fault x (Says byte) call h f = absurd h
fails-retold Line x Acknowledged call h f = f
fails-retold Line x (Expects byte) call h f = f
fails-retold Line x (Learns byte) call h f = f
fails-retold Quiet x Acknowledged call h f = f
fails-retold Quiet x (Expects byte) call h f = f
fails-retold Quiet x (Learns byte) call h f = f
fails-retold Nack x turn call h f = absurd f
fails-retold Garbled x turn call h f = absurd f

broken-retold : (fault : WireFault) (x : ℕ) (turn : Turn) (calls : List Call) → IsHeard turn → IsBrokenOff fault (Learns x ∷ []) calls → IsBrokenOff fault (turn ∷ []) calls
broken-retold fault x turn [] h b = b
broken-retold fault x turn (call ∷ calls) h b = ⊎_elim (λ last. inl (fails-retold fault x turn call h last.0, last.1)) (λ on. absurd on.1) b

-- no byte came at a turn that takes one
pub BreaksOff-retold : (fault : WireFault) (x : ℕ) (turn : Turn) (a b : RigState) → IsHeard turn → BreaksOff fault [] (Learns x ∷ []) a b → BreaksOff fault [] (turn ∷ []) a b
BreaksOff-retold fault x turn a b h p =
    record {
      recorded = GoesOn-weaker (IsBrokenOff fault (Learns x ∷ [])) (IsBrokenOff fault (turn ∷ [])) a.calls b.calls p.recorded (λ cs q. broken-retold fault x turn cs h q);
      line_count = p.line_count;
      line_cause = p.line_cause;
      line_kept = p.line_kept;
      journal_count = p.journal_count;
      honestly = p.honestly;
    }

-- a byte came that ends the dialogue at this turn
pub BreaksOff-heard : (fault : WireFault) (bytes : List ℕ) (turns : List Turn) (turn : Turn) (x : ℕ) (a b c : RigState) → (fault ≡ Line → ⊥) → FailsBy fault turn (Get (Some x)) → IsHeldToEnd bytes turns a b → IsHeldToEnd [] (learns (x ∷ [])) b c
    → BreaksOff fault bytes (turns ++ turn ∷ []) a c
BreaksOff-heard fault bytes turns turn x a b c other fails p q = breaks_at fault bytes turns turn (Get (Some x)) a b c other fails p q.recorded q.line_count q.journal_count q.honestly
