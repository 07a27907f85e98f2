-- How runs of calls that hold a dialogue join.
use Rattle.std.proofs.Common.{IfErr, IsErrAnd, ◌≡◌, ℕ, List, [], ◌∷◌, ◌++◌, Option, Some, None, Result, Ok, Err, refl, sym, ◌∙◌, ap, subst, inl, arith, append-nil}
use Rattle.stm_wire.proofs.Names.{Adds, BreaksOff, Call, calls_of, Device, FailsBy, IsBrokenOff, IsHeldToEnd, IsModel, KeepsCount, LeftBySending, LosesOwed, RigState, Rises, says, SentHonestly}
use Rattle.stm_wire.proofs.Names.{step_turns, Turn, WireFault}
use Rattle.stm_wire.specs.declared.fault.WireFault.TheVariants.{Line, Nack, Quiet, Garbled}
use Rattle.stm_wire.specs.lemmas.MomentLaws.{started, joined, weaker, LosesOwed-refl}
use Rattle.stm_wire.proofs.Turns.{FedAndTaken-append, PartlyFed-first, PartlyFed-second, PartlyFed-all, calls_of-append, says-step, broken-first, broken-second, Adds-append, GoesOn-append, GoesOn-weaker, Adds-GoesOn}

LeftBySending-second : (xs ys : List ℕ) (a b : RigState) → SentHonestly xs a b → (d : Device) (journal : List ℕ) → LeftBySending ys b d journal → LeftBySending (xs ++ ys) a d journal
LeftBySending-second xs ys a b s d journal l = (l.0 ∙ s.journal, PartlyFed-second xs ys a.device b.device d s.fed l.1)

LeftBySending-first : (xs ys : List ℕ) (a : RigState) (d : Device) (journal : List ℕ) → LeftBySending xs a d journal → LeftBySending (xs ++ ys) a d journal
LeftBySending-first xs ys a d journal l = (l.0, PartlyFed-first xs ys a.device d l.1)

-- a fault that isn't the line's keeps the count
pub count_kept : (before now : ℕ) (fault : WireFault) → (fault ≡ Line → ⊥) → now ≡ before → KeepsCount before now fault
count_kept before now Line other same = tt
count_kept before now Nack other same = same
count_kept before now Quiet other same = same
count_kept before now Garbled other same = same

-- two dialogues, both held
pub Holds-append : (xs ys : List ℕ) (s t : List Turn) (a b c : RigState) → IsHeldToEnd xs s a b → IsHeldToEnd ys t b c → IsHeldToEnd (xs ++ ys) (s ++ t) a c
Holds-append xs ys s t a b c p q =
    let A : List Call → Type 0 = λ zs. Adds zs a.calls c.calls in
    record {
      recorded = subst A (sym (calls_of-append s t)) (Adds-append (calls_of s) (calls_of t) a.calls b.calls c.calls p.recorded q.recorded);
      line_count = q.line_count ∙ p.line_count;
      journal_count = q.journal_count ∙ p.journal_count;
      honestly = λ h.
          let f = p.honestly h in
          let g = q.honestly f.honest in
          record {
            honest = g.honest;
            journal = g.journal ∙ f.journal;
            fed = FedAndTaken-append xs ys a.device b.device c.device f.fed g.fed;
            moments = joined (LeftBySending xs a) (LeftBySending ys b) (LeftBySending (xs ++ ys) a) a b c f.moments g.moments (LeftBySending-first xs ys a) (LeftBySending-second xs ys a b f);
          };
    }

-- the second was broken off
pub BreaksOff-second : (fault : WireFault) (xs ys : List ℕ) (s t : List Turn) (a b c : RigState) → IsHeldToEnd xs s a b → BreaksOff fault ys t b c → BreaksOff fault (xs ++ ys) (s ++ t) a c
BreaksOff-second fault xs ys s t a b c p q =
    record {
      recorded = GoesOn-append (λ zs. zs ≡ calls_of s) (IsBrokenOff fault t) (IsBrokenOff fault (s ++ t)) a.calls b.calls c.calls (Adds-GoesOn (λ zs. zs ≡ calls_of s) (calls_of s) a.calls b.calls p.recorded refl) q.recorded
          (λ cs ds u v. let P : List Call → Type 0 = λ zs. IsBrokenOff fault (s ++ t) (zs ++ ds) in subst P (sym u) (broken-second fault s t ds v));
      line_count = omega (arith, p.line_count, q.line_count);
      line_cause = λ e. let R : ℕ → Type 0 = λ n. Rises n c.line_failures in subst R p.line_count (q.line_cause e);
      line_kept = (let K : ℕ → Type 0 = λ n. KeepsCount n c.line_failures fault in subst K p.line_count q.line_kept);
      journal_count = q.journal_count ∙ p.journal_count;
      honestly = λ h.
          let f = p.honestly h in
          let g = q.honestly f.honest in
          record {
            honest = g.honest;
            journal = g.journal ∙ f.journal;
            fed = PartlyFed-second xs ys a.device b.device c.device f.fed g.fed;
            moments = joined (LeftBySending xs a) (LeftBySending ys b) (LeftBySending (xs ++ ys) a) a b c f.moments g.moments (LeftBySending-first xs ys a) (LeftBySending-second xs ys a b f);
          };
    }

-- the first was broken off
pub BreaksOff-first : (fault : WireFault) (xs ys : List ℕ) (s t : List Turn) (a b : RigState) → BreaksOff fault xs s a b → BreaksOff fault (xs ++ ys) (s ++ t) a b
BreaksOff-first fault xs ys s t a b p =
    record {
      recorded = GoesOn-weaker (IsBrokenOff fault s) (IsBrokenOff fault (s ++ t)) a.calls b.calls p.recorded (broken-first fault s t);
      line_count = p.line_count;
      line_cause = p.line_cause;
      line_kept = p.line_kept;
      journal_count = p.journal_count;
      honestly = λ h.
          let f = p.honestly h in
          record {
            honest = f.honest;
            journal = f.journal;
            fed = PartlyFed-first xs ys a.device b.device f.fed;
            moments = weaker (LeftBySending xs a) (LeftBySending (xs ++ ys) a) a b f.moments (LeftBySending-first xs ys a);
          };
    }

-- the last turn was not as it should: another reply byte came, or none
pub breaks_at : (fault : WireFault) (bytes : List ℕ) (turns : List Turn) (turn : Turn) (call : Call) (a b c : RigState) → (fault ≡ Line → ⊥) → FailsBy fault turn call
    → IsHeldToEnd bytes turns a b → Adds (call ∷ []) b.calls c.calls → c.line_failures ≡ b.line_failures → c.journal_failures ≡ b.journal_failures
    → (b.is_honest → SentHonestly [] b c) → BreaksOff fault bytes (turns ++ turn ∷ []) a c
breaks_at fault bytes turns turn call a b c other fails p added line journal honest =
    record {
      recorded = GoesOn-append (λ zs. zs ≡ calls_of turns) (λ zs. zs ≡ call ∷ []) (IsBrokenOff fault (turns ++ turn ∷ [])) a.calls b.calls c.calls
          (Adds-GoesOn (λ zs. zs ≡ calls_of turns) (calls_of turns) a.calls b.calls p.recorded refl) (Adds-GoesOn (λ zs. zs ≡ call ∷ []) (call ∷ []) b.calls c.calls added refl)
          (λ cs ds u v.
          let P : List Call → Type 0 = λ zs. IsBrokenOff fault (turns ++ turn ∷ []) (zs ++ ds) in
          let Q : List Call → Type 0 = λ zs. IsBrokenOff fault (turn ∷ []) zs in
          subst P (sym u) (broken-second fault turns (turn ∷ []) ds (subst Q (sym v) (inl (fails, refl)))));
      line_count = omega (arith, line, p.line_count);
      line_cause = λ e. absurd (other e);
      line_kept = count_kept a.line_failures c.line_failures fault other (line ∙ p.line_count);
      journal_count = journal ∙ p.journal_count;
      honestly = λ h.
          let f = p.honestly h in
          let g = honest f.honest in
          let S : List ℕ → Type 0 = λ zs. SentHonestly zs a c in
          let both = subst S (append-nil bytes) (record {
            honest = g.honest;
            journal = g.journal ∙ f.journal;
            fed = FedAndTaken-append bytes [] a.device b.device c.device f.fed g.fed;
            moments = joined (LeftBySending bytes a) (LeftBySending [] b) (LeftBySending (bytes ++ []) a) a b c f.moments g.moments (LeftBySending-first bytes [] a) (LeftBySending-second bytes [] a b f);
          }) in
          record { honest = both.honest; journal = both.journal; fed = PartlyFed-all bytes a.device c.device both.fed; moments = both.moments };
    }

-- the same device
pub left-here : (xs : List ℕ) (a : RigState) (d : Device) → LosesOwed a.device d → LeftBySending xs a d a.journal
left-here xs a d l = (refl, (0, (a.device, refl, l)))

adds-none : (o : Option (List Call)) → Adds [] o o
adds-none None = refl
adds-none (Some past) = ap (λ zs. Some zs) (sym (append-nil past))

-- no call
pub Holds-none : (a : RigState) → (a.is_honest → IsModel a) → IsHeldToEnd [] [] a a
Holds-none a model =
    record {
      recorded = adds-none a.calls;
      line_count = refl;
      journal_count = refl;
      honestly = λ h.
          record { honest = h; journal = refl; fed = (a.device, refl, LosesOwed-refl a.device); moments = started (LeftBySending [] a) a (model h) (left-here [] a) };
    }

-- what holds of this fault, where no other is answered
pub on_fault : {T : Type 0} (P : WireFault → Type 0) (r : Result T WireFault) (e : WireFault) → IsErrAnd r (λ x. x ≡ e) → P e → IfErr r P
on_fault P (Ok x) e is p = tt
on_fault P (Err x) e is p = subst P (sym is) p

pub if_err_weaker : {T : Type 0} (P Q : WireFault → Type 0) (r : Result T WireFault) → ((e : WireFault) → P e → Q e) → IfErr r P → IfErr r Q
if_err_weaker P Q (Ok x) f p = tt
if_err_weaker P Q (Err e) f p = f e p

-- replies alone after the bytes
pub Holds-then : (xs : List ℕ) (s t : List Turn) (a b c : RigState) → IsHeldToEnd xs s a b → IsHeldToEnd [] t b c → IsHeldToEnd xs (s ++ t) a c
Holds-then xs s t a b c p q =
    let P : List ℕ → Type 0 = λ zs. IsHeldToEnd zs (s ++ t) a c in
    subst P (append-nil xs) (Holds-append xs [] s t a b c p q)

pub BreaksOff-then : (fault : WireFault) (xs : List ℕ) (s t : List Turn) (a b c : RigState) → IsHeldToEnd xs s a b → BreaksOff fault [] t b c → BreaksOff fault xs (s ++ t) a c
BreaksOff-then fault xs s t a b c p q =
    let P : List ℕ → Type 0 = λ zs. BreaksOff fault zs (s ++ t) a c in
    subst P (append-nil xs) (BreaksOff-second fault xs [] s t a b c p q)

-- broken off before these further turns
pub BreaksOff-early : (fault : WireFault) (bytes : List ℕ) (s t : List Turn) (a b : RigState) → BreaksOff fault bytes s a b → BreaksOff fault bytes (s ++ t) a b
BreaksOff-early fault bytes s t a b p =
    let P : List ℕ → Type 0 = λ zs. BreaksOff fault zs (s ++ t) a b in
    subst P (append-nil bytes) (BreaksOff-first fault bytes [] s t a b p)

-- broken off between these turns and those
pub BreaksOff-between : (fault : WireFault) (s t u : List Turn) (a b c : RigState) → IsHeldToEnd [] s a b → BreaksOff fault [] t b c → BreaksOff fault [] (s ++ (t ++ u)) a c
BreaksOff-between fault s t u a b c p q = BreaksOff-second fault [] [] s (t ++ u) a b c p (BreaksOff-early fault [] t u b c q)

-- bytes were sent, and a further step after them
pub Holds-says : (xs ys : List ℕ) (a b c : RigState) → IsHeldToEnd xs (says xs) a b → IsHeldToEnd ys (step_turns ys) b c → IsHeldToEnd (xs ++ ys) (step_turns (xs ++ ys)) a c
Holds-says xs ys a b c p q =
    let Q : List Turn → Type 0 = λ zs. IsHeldToEnd (xs ++ ys) zs a c in
    subst Q (says-step xs ys) (Holds-append xs ys (says xs) (step_turns ys) a b c p q)

pub BreaksOff-says : (fault : WireFault) (xs ys : List ℕ) (a b c : RigState) → IsHeldToEnd xs (says xs) a b → BreaksOff fault ys (step_turns ys) b c → BreaksOff fault (xs ++ ys) (step_turns (xs ++ ys)) a c
BreaksOff-says fault xs ys a b c p q =
    let Q : List Turn → Type 0 = λ zs. BreaksOff fault (xs ++ ys) zs a c in
    subst Q (says-step xs ys) (BreaksOff-second fault xs ys (says xs) (step_turns ys) a b c p q)

-- the bytes of a step were not all sent
pub BreaksOff-said : (fault : WireFault) (xs ys : List ℕ) (a b : RigState) → BreaksOff fault xs (says xs) a b → BreaksOff fault (xs ++ ys) (step_turns (xs ++ ys)) a b
BreaksOff-said fault xs ys a b p =
    let Q : List Turn → Type 0 = λ zs. BreaksOff fault (xs ++ ys) zs a b in
    subst Q (says-step xs ys) (BreaksOff-first fault xs ys (says xs) (step_turns ys) a b p)
