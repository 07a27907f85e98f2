-- Runs of puts and gets join, on any line.
use Rattle.std.proofs.Common.{◌≡◌, ◌≢◌, ⊎_elim, ℕ, zero, suc, ◌+◌, ◌*◌, ◌-◌, ◌<◌, ◌≤◌, min, List, [], ◌∷◌, ◌++◌, length, take, replicate, Option, Some, None, Result, Ok, Err, IsErrAnd, refl, sym, ◌∙◌, ap, subst, arith, append_assoc, append-nil, take_all}
use Rattle.std.proofs.Math.Seq.{take-append-add}
use Rattle.std.proofs.lemmas.List.{take_min, take-append-le, length-append}
use Rattle.stm_wire.proofs.Names.{Append, AreLineCalls, Call, Fetch, Get, GetsHonestly, GoesOn, HasCause, HasLineCause, KeepsCount, Put, puts_of, PutsAll, PutsHonestly, PutsPart, Records, RigFault}
use Rattle.stm_wire.proofs.Names.{RigState, Rises, settling_run, Speaks, SpeaksBatches, StaysHonest, Talks, WireFault}
use Rattle.stm_wire.specs.declared.fault.WireFault.TheVariants.{Line}
use Rattle.stm_wire.proofs.Holding.{count_kept}
use Rattle.stm_wire.proofs.Turns.{GoesOn-append, GoesOn-weaker}

pub puts_of-append : (xs ys : List Call) → puts_of (xs ++ ys) ≡ puts_of xs ++ puts_of ys
puts_of-append [] ys = refl
puts_of-append (Put byte ∷ xs) ys = ap (λ zs. byte ∷ zs) (puts_of-append xs ys)
puts_of-append (Get answer ∷ xs) ys = puts_of-append xs ys
puts_of-append (Append n ∷ xs) ys = puts_of-append xs ys
puts_of-append (Fetch ∷ xs) ys = puts_of-append xs ys

line-append : (xs ys : List Call) → AreLineCalls xs → AreLineCalls ys → AreLineCalls (xs ++ ys)
line-append [] ys a b = b
line-append (Put byte ∷ xs) ys a b = line-append xs ys a b
line-append (Get answer ∷ xs) ys a b = line-append xs ys a b
line-append (Append n ∷ xs) ys a b = absurd a
line-append (Fetch ∷ xs) ys a b = absurd a

talks_then : (P Q R : List ℕ → Type 0) (m n : ℕ) (xs ys : List Call) → ((us vs : List ℕ) → P us → Q vs → R (us ++ vs)) → Talks P m xs → Talks Q n ys → Talks R (m + n) (xs ++ ys)
talks_then P Q R m n xs ys join p q = record {
  line = line-append xs ys p.line q.line;
  puts = subst R (sym (puts_of-append xs ys)) (join (puts_of xs) (puts_of ys) p.puts q.puts);
  few = omega (arith, length-append xs ys, p.few, q.few);
}

talks_more : (P R : List ℕ → Type 0) (m n : ℕ) (xs : List Call) → m ≤ n → ((us : List ℕ) → P us → R us) → Talks P m xs → Talks R n xs
talks_more P R m n xs le f p = record { line = p.line; puts = f (puts_of xs) p.puts; few = omega (arith, p.few) }

pub all_then : (xs ys : List ℕ) (m n : ℕ) (a b c : Option (List Call)) → GoesOn (PutsAll xs m) a b → GoesOn (PutsAll ys n) b c → GoesOn (PutsAll (xs ++ ys) (m + n)) a c
all_then xs ys m n a b c p q = GoesOn-append (PutsAll xs m) (PutsAll ys n) (PutsAll (xs ++ ys) (m + n)) a b c p q (λ us vs u v.
    talks_then (λ us. us ≡ xs) (λ vs. vs ≡ ys) (λ ws. ws ≡ xs ++ ys) m n us vs (λ s t e f. ap (λ z. z ++ t) e ∙ ap (λ z. xs ++ z) f) u v)

pub part_then : (xs ys : List ℕ) (m n : ℕ) (a b c : Option (List Call)) → GoesOn (PutsAll xs m) a b → GoesOn (PutsPart ys n) b c → GoesOn (PutsPart (xs ++ ys) (m + n)) a c
part_then xs ys m n a b c p q = GoesOn-append (PutsAll xs m) (PutsPart ys n) (PutsPart (xs ++ ys) (m + n)) a b c p q (λ us vs u v.
    talks_then (λ us. us ≡ xs) (λ vs. (k : ℕ) × (vs ≡ take k ys)) (λ ws. (k : ℕ) × (ws ≡ take k (xs ++ ys))) m n us vs
    (λ s t e f. (length xs + f.0, ap (λ z. z ++ t) e ∙ ap (λ z. xs ++ z) f.1 ∙ sym (take-append-add xs ys f.0))) u v)

-- a beginning is one of a longer list
begins-longer : (k : ℕ) (xs ys : List ℕ) → (n : ℕ) × (take k xs ≡ take n (xs ++ ys))
begins-longer k xs ys =
    let n = min k (length xs) in
    let le : n ≤ length xs = omega arith in
    (n, sym (take-append-le n xs ys le ∙ take_min k xs))

pub part_more : (xs ys : List ℕ) (m n : ℕ) (a b : Option (List Call)) → m ≤ n → GoesOn (PutsPart xs m) a b → GoesOn (PutsPart (xs ++ ys) n) a b
part_more xs ys m n a b le p = GoesOn-weaker (PutsPart xs m) (PutsPart (xs ++ ys) n) a b p (λ us u.
    talks_more (λ us. (k : ℕ) × (us ≡ take k xs)) (λ us. (k : ℕ) × (us ≡ take k (xs ++ ys))) m n us le
    (λ s e. let b = begins-longer e.0 xs ys in (b.0, e.1 ∙ b.1)) u)

pub all_more : (xs : List ℕ) (m n : ℕ) (a b : Option (List Call)) → m ≤ n → GoesOn (PutsAll xs m) a b → GoesOn (PutsAll xs n) a b
all_more xs m n a b le p = GoesOn-weaker (PutsAll xs m) (PutsAll xs n) a b p (λ us u. talks_more (λ us. us ≡ xs) (λ us. us ≡ xs) m n us le (λ s e. e) u)

-- the whole is a beginning
pub all_part : (xs : List ℕ) (m : ℕ) (a b : Option (List Call)) → GoesOn (PutsAll xs m) a b → GoesOn (PutsPart xs m) a b
all_part xs m a b p = GoesOn-weaker (PutsAll xs m) (PutsPart xs m) a b p (λ us u.
    talks_more (λ us. us ≡ xs) (λ us. (k : ℕ) × (us ≡ take k xs)) m m us (omega arith) (λ s e. (length xs, e ∙ sym (take_all (length xs) xs (omega arith)))) u)

-- an honest Rig stays so through both
pub stays_then : (a b c : RigState) → (a.is_honest → StaysHonest a b) → (b.is_honest → StaysHonest b c) → a.is_honest → StaysHonest a c
stays_then a b c p q h =
    let f = p h in
    let g = q f.honest in
    record { honest = g.honest; journal = g.journal ∙ f.journal }

-- nothing but Ok so far
pub record Went (bytes : List ℕ) (most : ℕ) (a b : RigState) : Type 0 where
  pub line : b.line_failures ≡ a.line_failures
  pub journal : b.journal_failures ≡ a.journal_failures
  pub stays : a.is_honest → StaysHonest a b
  pub all : GoesOn (PutsAll bytes most) a.calls b.calls

-- a call of the line failed
pub record Failed (bytes : List ℕ) (most : ℕ) (a b : RigState) : Type 0 where
  pub later : a.line_failures ≤ b.line_failures
  pub rises : Rises a.line_failures b.line_failures
  pub journal : b.journal_failures ≡ a.journal_failures
  pub stays : a.is_honest → StaysHonest a b
  pub part : GoesOn (PutsPart bytes most) a.calls b.calls

pub goes_nowhere : (P : List Call → Type 0) (o : Option (List Call)) → P [] → GoesOn P o o
goes_nowhere P None p = refl
goes_nowhere P (Some past) p = ([], ap (λ zs. Some zs) (sym (append-nil past)), p)

pub went_nowhere : (a : RigState) → Went [] 0 a a
went_nowhere a = record { line = refl; journal = refl; stays = λ h. record { honest = h; journal = refl }; all = goes_nowhere (PutsAll [] 0) a.calls (record { line = tt; puts = refl; few = omega arith }) }

-- the call of an Ok stands in the record
pub recorded_ok : {T : Type 0} (call : Call) (u : T) (x y : Option (List Call)) → Records call (Ok u) x y → GoesOn (λ calls. calls ≡ call ∷ []) x y
recorded_ok call u None y r = r
recorded_ok call u (Some past) y r = (call ∷ [], r, refl)

recorded_err : (T : Type 0) (call : Call) (e : RigFault) (P : List Call → Type 0) (x y : Option (List Call)) → P [] → P (call ∷ []) → Records {T = T} call (Err e) x y → GoesOn P x y
recorded_err T call e P None y none one r = r
recorded_err T call e P (Some past) y none one r = ⊎_elim (λ in_it. (call ∷ [], in_it, one)) (λ not_in_it. ([], not_in_it ∙ ap (λ zs. Some zs) (sym (append-nil past)), none)) r

pub went_put : {T : Type 0} (byte : ℕ) (u : T) (a b : RigState) → HasCause {T = T} a.line_failures b.line_failures (Ok u) → b.journal_failures ≡ a.journal_failures → Records {T = T} (Put byte) (Ok u) a.calls b.calls → (a.is_honest → PutsHonestly {T = T} byte (Ok u) a b) → Went (byte ∷ []) 1 a b
went_put byte u a b cause journal recorded honest = record {
  line = cause.done;
  journal = journal;
  stays = λ h. let p = honest h in record { honest = p.honest; journal = p.ok.1 };
  all = GoesOn-weaker (λ calls. calls ≡ Put byte ∷ []) (PutsAll (byte ∷ []) 1) a.calls b.calls (recorded_ok (Put byte) u a.calls b.calls recorded)
      (λ calls e. subst (PutsAll (byte ∷ []) 1) (sym e) (record { line = tt; puts = refl; few = omega arith }));
}

pub failed_put : (T : Type 0) (byte : ℕ) (e : RigFault) (a b : RigState) → HasCause {T = T} a.line_failures b.line_failures (Err e) → b.journal_failures ≡ a.journal_failures → Records {T = T} (Put byte) (Err e) a.calls b.calls → (a.is_honest → PutsHonestly {T = T} byte (Err e) a b) → Failed (byte ∷ []) 1 a b
failed_put T byte e a b cause journal recorded honest = record {
  later = cause.later;
  rises = cause.failed;
  journal = journal;
  stays = λ h. let p = honest h in record { honest = p.honest; journal = p.err.0 };
  part = recorded_err T (Put byte) e (PutsPart (byte ∷ []) 1) a.calls b.calls (record { line = tt; puts = (0, refl); few = omega arith }) (record { line = tt; puts = (1, refl); few = omega arith }) recorded;
}

pub went_get : (answer : Option ℕ) (a b : RigState) → HasCause {T = Option ℕ} a.line_failures b.line_failures (Ok answer) → b.journal_failures ≡ a.journal_failures → Records {T = Option ℕ} (Get answer) (Ok answer) a.calls b.calls → (a.is_honest → GetsHonestly (Ok answer) a b) → Went [] 1 a b
went_get answer a b cause journal recorded honest = record {
  line = cause.done;
  journal = journal;
  stays = λ h. let p = honest h in record { honest = p.honest; journal = p.journal };
  all = GoesOn-weaker (λ calls. calls ≡ Get answer ∷ []) (PutsAll [] 1) a.calls b.calls (recorded_ok (Get answer) answer a.calls b.calls recorded)
      (λ calls e. subst (PutsAll [] 1) (sym e) (record { line = tt; puts = refl; few = omega arith }));
}

pub failed_get : (e : RigFault) (a b : RigState) → HasCause {T = Option ℕ} a.line_failures b.line_failures (Err e) → b.journal_failures ≡ a.journal_failures → Records {T = Option ℕ} (Get None) (Err e) a.calls b.calls → (a.is_honest → GetsHonestly (Err e) a b) → Failed [] 1 a b
failed_get e a b cause journal recorded honest = record {
  later = cause.later;
  rises = cause.failed;
  journal = journal;
  stays = λ h. let p = honest h in record { honest = p.honest; journal = p.journal };
  part = recorded_err (Option ℕ) (Get None) e (PutsPart [] 1) a.calls b.calls (record { line = tt; puts = (0, refl); few = omega arith }) (record { line = tt; puts = (0, refl); few = omega arith }) recorded;
}

pub went_then : (xs ys : List ℕ) (m n : ℕ) (a b c : RigState) → Went xs m a b → Went ys n b c → Went (xs ++ ys) (m + n) a c
went_then xs ys m n a b c p q = record { line = q.line ∙ p.line; journal = q.journal ∙ p.journal; stays = stays_then a b c p.stays q.stays; all = all_then xs ys m n a.calls b.calls c.calls p.all q.all }

pub failed_then : (xs ys : List ℕ) (m n : ℕ) (a b c : RigState) → Went xs m a b → Failed ys n b c → Failed (xs ++ ys) (m + n) a c
failed_then xs ys m n a b c p q = record {
  later = omega (arith, p.line, q.later);
  rises = subst (λ k. Rises k c.line_failures) p.line q.rises;
  journal = q.journal ∙ p.journal;
  stays = stays_then a b c p.stays q.stays;
  part = part_then xs ys m n a.calls b.calls c.calls p.all q.part;
}

pub went_up : (xs : List ℕ) (m n : ℕ) (a b : RigState) → m ≤ n → Went xs m a b → Went xs n a b
went_up xs m n a b le p = record { line = p.line; journal = p.journal; stays = p.stays; all = all_more xs m n a.calls b.calls le p.all }

-- so a part of settling ends: with Ok,
pub speaks_ok : {T : Type 0} (bytes : List ℕ) (most : ℕ) (u : T) (a b : RigState) → Went bytes most a b → Speaks bytes most (Ok u) a b
speaks_ok bytes most u a b p = record {
  cause = record { later = omega (arith, p.line); done = p.line; failed = tt; kept = tt; stays = p.stays; journal_count = p.journal };
  part = all_part bytes most a.calls b.calls p.all;
  whole = p.all;
}

-- with a fault of the line,
pub speaks_line : {T : Type 0} (xs ys : List ℕ) (m n : ℕ) (r : Result T WireFault) (a b : RigState) → m ≤ n → Failed xs m a b → IsErrAnd r (λ fault. fault ≡ Line) → Speaks (xs ++ ys) n r a b
speaks_line xs ys m n (Ok u) a b le p e = absurd e
speaks_line xs ys m n (Err fault) a b le p e = record {
  cause = record {
    later = p.later;
    done = tt;
    failed = λ _. p.rises;
    kept = (let K : WireFault → Type 0 = λ f. KeepsCount a.line_failures b.line_failures f in subst K (sym e) tt);
    stays = p.stays;
    journal_count = p.journal;
  };
  part = part_more xs ys m n a.calls b.calls le p.part;
  whole = tt;
}

-- with another fault,
pub speaks_other : {T : Type 0} (xs ys : List ℕ) (m n : ℕ) (fault : WireFault) (a b : RigState) → m ≤ n → fault ≢ Line → Went xs m a b → Speaks {T = T} (xs ++ ys) n (Err fault) a b
speaks_other xs ys m n fault a b le other p = record {
  cause = record {
    later = omega (arith, p.line);
    done = tt;
    failed = λ e. absurd (other e);
    kept = count_kept a.line_failures b.line_failures fault other p.line;
    stays = p.stays;
    journal_count = p.journal;
  };
  part = part_more xs ys m n a.calls b.calls le (all_part xs m a.calls b.calls p.all);
  whole = tt;
}

-- or as its last part ends
pub speaks_then : {T : Type 0} (xs ys : List ℕ) (m n : ℕ) (r : Result T WireFault) (a b c : RigState) → Went xs m a b → Speaks ys n r b c → Speaks (xs ++ ys) (m + n) r a c
speaks_then xs ys m n (Ok u) a b c p q = record {
  cause = record {
    later = omega (arith, p.line, q.cause.later);
    done = q.cause.done ∙ p.line;
    failed = tt;
    kept = tt;
    stays = stays_then a b c p.stays q.cause.stays;
    journal_count = q.cause.journal_count ∙ p.journal;
  };
  part = part_then xs ys m n a.calls b.calls c.calls p.all q.part;
  whole = all_then xs ys m n a.calls b.calls c.calls p.all q.whole;
}
speaks_then xs ys m n (Err fault) a b c p q = record {
  cause = record {
    later = omega (arith, p.line, q.cause.later);
    done = tt;
    failed = λ e. subst (λ k. Rises k c.line_failures) p.line (q.cause.failed e);
    kept = subst (λ k. KeepsCount k c.line_failures fault) p.line q.cause.kept;
    stays = stays_then a b c p.stays q.cause.stays;
    journal_count = q.cause.journal_count ∙ p.journal;
  };
  part = part_then xs ys m n a.calls b.calls c.calls p.all q.part;
  whole = tt;
}

-- a fault is handed on
pub speaks_fault : {T U : Type 0} (xs ys : List ℕ) (m n : ℕ) (fault : WireFault) (r : Result U WireFault) (a b : RigState) → m ≤ n → IsErrAnd r (λ e. e ≡ fault) → Speaks {T = T} xs m (Err fault) a b → Speaks (xs ++ ys) n r a b
speaks_fault xs ys m n fault (Ok u) a b le e p = absurd e
speaks_fault xs ys m n fault (Err f) a b le e p = record {
  cause = record {
    later = p.cause.later;
    done = tt;
    failed = λ g. p.cause.failed (sym e ∙ g);
    kept = (let K : WireFault → Type 0 = λ f. KeepsCount a.line_failures b.line_failures f in subst K (sym e) p.cause.kept);
    stays = p.cause.stays;
    journal_count = p.cause.journal_count;
  };
  part = part_more xs ys m n a.calls b.calls le p.part;
  whole = tt;
}

-- what a part did that ended with Ok
pub speaks_went : {T : Type 0} (bytes : List ℕ) (most : ℕ) (u : T) (a b : RigState) → Speaks bytes most (Ok u) a b → Went bytes most a b
speaks_went bytes most u a b p = record { line = p.cause.done; journal = p.cause.journal_count; stays = p.cause.stays; all = p.whole }

-- one copy more
pub replicate-more : {T : Type 0} (k : ℕ) (x : T) → replicate k x ++ x ∷ [] ≡ replicate (suc k) x
replicate-more zero x = refl
replicate-more (suc k) x = ap (λ xs. x ∷ xs) (replicate-more k x)

pub went_more : (byte sent : ℕ) (a b c : RigState) → Went (replicate sent byte) (4099 * sent) a b → Went (byte ∷ []) 4099 b c → Went (replicate (sent + 1) byte) (4099 * (sent + 1)) a c
went_more byte sent a b c p q =
    let both = went_then (replicate sent byte) (byte ∷ []) (4099 * sent) 4099 a b c p q in
    let one : suc sent ≡ sent + 1 = omega arith in
    let same : replicate sent byte ++ byte ∷ [] ≡ replicate (sent + 1) byte = replicate-more sent byte ∙ ap (λ k. replicate k byte) one in
    let count : 4099 * sent + 4099 ≡ 4099 * (sent + 1) = omega arith in
    subst (λ n. Went (replicate (sent + 1) byte) n a c) count (subst (λ xs. Went xs (4099 * sent + 4099) a c) same both)

-- the byte put, and an answer taken
pub went_both : {T : Type 0} (byte : ℕ) (u : T) (answer : Option ℕ) (a b c : RigState) → HasCause {T = T} a.line_failures b.line_failures (Ok u) → b.journal_failures ≡ a.journal_failures → Records {T = T} (Put byte) (Ok u) a.calls b.calls
    → HasCause {T = Option ℕ} b.line_failures c.line_failures (Ok answer) → c.journal_failures ≡ b.journal_failures → Records {T = Option ℕ} (Get answer) (Ok answer) b.calls c.calls → (a.is_honest → PutsHonestly {T = T} byte (Ok u) a b) → (b.is_honest → GetsHonestly (Ok answer) b c) → Went (byte ∷ []) 2 a c
went_both byte u answer a b c cause journal recorded cause' journal' recorded' honest honest' =
    went_then (byte ∷ []) [] 1 1 a b c (went_put byte u a b cause journal recorded honest) (went_get answer b c cause' journal' recorded' honest')

pub cause_then : {T : Type 0} (xs : List ℕ) (m : ℕ) (r : Result T WireFault) (a b c : RigState) → Went xs m a b → HasLineCause r b c → HasLineCause r a c
cause_then xs m (Ok u) a b c p q = record {
  later = omega (arith, p.line, q.later);
  done = q.done ∙ p.line;
  failed = tt;
  kept = tt;
  stays = stays_then a b c p.stays q.stays;
  journal_count = q.journal_count ∙ p.journal;
}
cause_then xs m (Err fault) a b c p q = record {
  later = omega (arith, p.line, q.later);
  done = tt;
  failed = λ e. subst (λ k. Rises k c.line_failures) p.line (q.failed e);
  kept = subst (λ k. KeepsCount k c.line_failures fault) p.line q.kept;
  stays = stays_then a b c p.stays q.stays;
  journal_count = q.journal_count ∙ p.journal;
}

pub part_up : (xs : List ℕ) (m n : ℕ) (a b : Option (List Call)) → m ≤ n → GoesOn (PutsPart xs m) a b → GoesOn (PutsPart xs n) a b
part_up xs m n a b le p = GoesOn-weaker (PutsPart xs m) (PutsPart xs n) a b p (λ us u. talks_more (λ us. (k : ℕ) × (us ≡ take k xs)) (λ us. (k : ℕ) × (us ≡ take k xs)) m n us le (λ s e. e) u)

pub replicate-add : (m n x : ℕ) → replicate (m + n) x ≡ replicate m x ++ replicate n x
replicate-add zero n x = ap (λ k. replicate k x) (omega arith)
replicate-add (suc m) n x =
    let e : suc m + n ≡ suc (m + n) = omega arith in
    ap (λ k. replicate k x) e ∙ ap (λ xs. x ∷ xs) (replicate-add m n x)

-- some of the copies are a beginning of settling
pub part_run : (byte limit sent m n : ℕ) (a b : Option (List Call)) → sent ≤ limit → m ≤ n → GoesOn (PutsPart (replicate sent byte) m) a b → GoesOn (PutsPart (settling_run byte limit) n) a b
part_run byte limit sent m n a b le le' p =
    let rest = 0x7F ∷ byte ∷ byte ∷ [] in
    let e : sent + (limit - sent) ≡ limit = omega arith in
    let same : replicate sent byte ++ (replicate (limit - sent) byte ++ rest) ≡ settling_run byte limit =
    sym (append_assoc (replicate sent byte) (replicate (limit - sent) byte) rest) ∙ ap (λ xs. xs ++ rest) (sym (replicate-add sent (limit - sent) byte) ∙ ap (λ k. replicate k byte) e) in
    subst (λ xs. GoesOn (PutsPart xs n) a b) same (part_more (replicate sent byte) (replicate (limit - sent) byte ++ rest) m n a b le' p)

-- one byte more, whose sending failed
pub speaks_more : {T : Type 0} (byte sent : ℕ) (r : Result T WireFault) (a b c : RigState) → Went (replicate sent byte) (4099 * sent) a b → Speaks (byte ∷ []) 4099 r b c → Speaks (replicate (sent + 1) byte) (4099 * (sent + 1)) r a c
speaks_more byte sent r a b c p q =
    let both = speaks_then (replicate sent byte) (byte ∷ []) (4099 * sent) 4099 r a b c p q in
    let one : suc sent ≡ sent + 1 = omega arith in
    let same : replicate sent byte ++ byte ∷ [] ≡ replicate (sent + 1) byte = replicate-more sent byte ∙ ap (λ k. replicate k byte) one in
    let count : 4099 * sent + 4099 ≡ 4099 * (sent + 1) = omega arith in
    subst (λ n. Speaks (replicate (sent + 1) byte) n r a c) count (subst (λ xs. Speaks xs (4099 * sent + 4099) r a c) same both)

-- a fault is handed on
pub cause_fault : {T U : Type 0} (fault : WireFault) (r : Result U WireFault) (a b : RigState) → IsErrAnd r (λ e. e ≡ fault) → HasLineCause {T = T} (Err fault) a b → HasLineCause r a b
cause_fault fault (Ok u) a b e p = absurd e
cause_fault fault (Err f) a b e p = record {
  later = p.later;
  done = tt;
  failed = λ g. p.failed (sym e ∙ g);
  kept = (let K : WireFault → Type 0 = λ g. KeepsCount a.line_failures b.line_failures g in subst K (sym e) p.kept);
  stays = p.stays;
  journal_count = p.journal_count;
}

-- Bytes in batches:

-- one copy more, of calls that are counted otherwise
pub went_copy : (byte sent m n : ℕ) (a b c : RigState) → Went (replicate sent byte) m a b → Went (byte ∷ []) n b c → Went (replicate (sent + 1) byte) (m + n) a c
went_copy byte sent m n a b c p q =
    let one : suc sent ≡ sent + 1 = omega arith in
    let same : replicate sent byte ++ byte ∷ [] ≡ replicate (sent + 1) byte = replicate-more sent byte ∙ ap (λ k. replicate k byte) one in
    subst (λ xs. Went xs (m + n) a c) same (went_then (replicate sent byte) (byte ∷ []) m n a b c p q)

replicate-fits : (sent limit x : ℕ) → sent ≤ limit → replicate sent x ++ replicate (limit - sent) x ≡ replicate limit x
replicate-fits sent limit x le =
    let e : sent + (limit - sent) ≡ limit = omega arith in
    sym (replicate-add sent (limit - sent) x) ∙ ap (λ k. replicate k x) e

-- copies are a beginning of more copies
pub part_fits : (byte sent limit m n : ℕ) (a b : Option (List Call)) → sent ≤ limit → m ≤ n → GoesOn (PutsPart (replicate sent byte) m) a b → GoesOn (PutsPart (replicate limit byte) n) a b
part_fits byte sent limit m n a b le le' p =
    subst (λ xs. GoesOn (PutsPart xs n) a b) (replicate-fits sent limit byte le) (part_more (replicate sent byte) (replicate (limit - sent) byte) m n a b le' p)

-- the line failed at a byte of a batch
pub batch_line : {T : Type 0} (byte sent count n : ℕ) (r : Result T WireFault) (a b c : RigState) → sent < count → sent + 1 ≤ n → Went (replicate sent byte) sent a b → Failed (byte ∷ []) 1 b c → IsErrAnd r (λ fault. fault ≡ Line)
    → Speaks (replicate count byte) n r a c
batch_line byte sent count n r a b c lt le p q e =
    let one : suc sent ≡ sent + 1 = omega arith in
    let same : replicate sent byte ++ byte ∷ [] ≡ replicate (sent + 1) byte = replicate-more sent byte ∙ ap (λ k. replicate k byte) one in
    let failed = subst (λ xs. Failed xs (sent + 1) a c) same (failed_then (replicate sent byte) (byte ∷ []) sent 1 a b c p q) in
    subst (λ xs. Speaks xs n r a c) (replicate-fits (sent + 1) count byte (omega arith)) (speaks_line (replicate (sent + 1) byte) (replicate (count - (sent + 1)) byte) (sent + 1) n r a c le failed e)

-- all bytes of a batch, and a draining
pub batch_drained : {T : Type 0} (byte sent count : ℕ) (r : Result T WireFault) (a b c : RigState) → sent ≡ count → Went (replicate sent byte) sent a b → Speaks [] 4097 r b c → Speaks (replicate count byte) (count + 4097) r a c
batch_drained byte sent count r a b c e p q =
    let both = subst (λ xs. Speaks xs (sent + 4097) r a c) (append-nil (replicate sent byte)) (speaks_then (replicate sent byte) [] sent 4097 r a b c p q) in
    subst (λ k. Speaks (replicate k byte) (k + 4097) r a c) e both

-- no batch
pub batches_nowhere : (byte limit : ℕ) (a : RigState) → Went (replicate (limit - limit) byte) (4099 * (limit - limit)) a a
batches_nowhere byte limit a =
    let e : 0 ≡ limit - limit = omega arith in
    subst (λ k. Went (replicate k byte) (4099 * k) a a) e (went_nowhere a)

-- a batch more
pub batches_went_on : (byte limit left count : ℕ) (a b c : RigState) → 1 ≤ count → count ≤ left → left ≤ limit → Went (replicate (limit - left) byte) (4099 * (limit - left)) a b → Went (replicate count byte) (count + 4097) b c
    → Went (replicate (limit - (left - count)) byte) (4099 * (limit - (left - count))) a c
batches_went_on byte limit left count a b c some le le' p q =
    let sent = limit - left in
    let e : sent + count ≡ limit - (left - count) = omega arith in
    let both = went_then (replicate sent byte) (replicate count byte) (4099 * sent) (count + 4097) a b c p q in
    let same = subst (λ xs. Went xs (4099 * sent + (count + 4097)) a c) (sym (replicate-add sent count byte)) both in
    subst (λ k. Went (replicate k byte) (4099 * k) a c) e (went_up (replicate (sent + count) byte) (4099 * sent + (count + 4097)) (4099 * (sent + count)) a c (omega arith) same)

-- so batches end: with Ok,
pub batches_ok : (byte limit left : ℕ) (a b : RigState) → left ≤ limit → Went (replicate (limit - left) byte) (4099 * (limit - left)) a b → SpeaksBatches byte limit (Ok left) a b
batches_ok byte limit left a b le p = record {
  cause = record { later = omega (arith, p.line); done = p.line; failed = tt; kept = tt; stays = p.stays; journal_count = p.journal };
  part = part_fits byte (limit - left) limit (4099 * (limit - left)) (4099 * limit) a.calls b.calls (omega arith) (omega arith) (all_part (replicate (limit - left) byte) (4099 * (limit - left)) a.calls b.calls p.all);
  within = le;
  whole = p.all;
}

-- or with a fault of one of them
pub batches_fault : {T : Type 0} (byte limit left count : ℕ) (fault : WireFault) (r : Result ℕ WireFault) (a b c : RigState) → 1 ≤ count → count ≤ left → left ≤ limit
    → Went (replicate (limit - left) byte) (4099 * (limit - left)) a b → Speaks {T = T} (replicate count byte) (count + 4097) (Err fault) b c → IsErrAnd r (λ e. e ≡ fault) → SpeaksBatches byte limit r a c
batches_fault {T} byte limit left count fault (Ok u) a b c some le le' p q e = absurd e
batches_fault {T} byte limit left count fault (Err f) a b c some le le' p q e =
    let sent = limit - left in
    let failed : Result T WireFault = Err fault in
    let both = speaks_then (replicate sent byte) (replicate count byte) (4099 * sent) (count + 4097) failed a b c p q in
    let handed : Result ℕ WireFault = Err f in
    let same = subst (λ xs. GoesOn (PutsPart xs (4099 * sent + (count + 4097))) a.calls c.calls) (sym (replicate-add sent count byte)) both.part in
    record {
      cause = cause_fault {T = T} fault handed a c e both.cause;
      part = part_fits byte (sent + count) limit (4099 * sent + (count + 4097)) (4099 * limit) a.calls c.calls (omega arith) (omega arith) same;
      within = tt;
      whole = tt;
    }

pub batches_went : (byte limit left : ℕ) (a b : RigState) → SpeaksBatches byte limit (Ok left) a b → Went (replicate (limit - left) byte) (4099 * (limit - left)) a b
batches_went byte limit left a b p = record { line = p.cause.done; journal = p.cause.journal_count; stays = p.cause.stays; all = p.whole }

-- the bytes of batches and those after them
pub run_after : (byte limit left m n : ℕ) (a b c : Option (List Call)) → left ≤ limit → GoesOn (PutsAll (replicate (limit - left) byte) m) a b → GoesOn (PutsPart (settling_run byte left) n) b c → GoesOn (PutsPart (settling_run byte limit) (m + n)) a c
run_after byte limit left m n a b c le p q =
    let rest = 0x7F ∷ byte ∷ byte ∷ [] in
    let e : (limit - left) + left ≡ limit = omega arith in
    let same : replicate (limit - left) byte ++ settling_run byte left ≡ settling_run byte limit =
    sym (append_assoc (replicate (limit - left) byte) (replicate left byte) rest) ∙ ap (λ xs. xs ++ rest) (sym (replicate-add (limit - left) left byte) ∙ ap (λ k. replicate k byte) e) in
    subst (λ xs. GoesOn (PutsPart xs (m + n)) a c) same (part_then (replicate (limit - left) byte) (settling_run byte left) m n a b c p q)
