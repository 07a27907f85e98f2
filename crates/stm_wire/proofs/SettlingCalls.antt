-- How the calls of settling join, on any line.
use Rattle.std.proofs.Common.{◌≡◌, ◌≢◌, ℕ, suc, ◌+◌, ◌-◌, ◌<◌, ◌≤◌, Bool, true, false, ◌||◌, List, [], ◌∷◌, ◌++◌, length, replicate, Option, Some, None, Ok, refl, sym, ◌∙◌, ap, subst, eqb, eqb-true, arith, append_assoc}
use Rattle.std.proofs.lemmas.Bool.{eqb-false}
use Rattle.std.specs.Prelude.{MatchBool}
use Rattle.stm_wire.proofs.Names.{Adds, answered, Append, AreBatches, AreUnrefused, batch_size, Call, EndsByteByByte, EndsInBatches, EndsSettled, EndsSingly, Fetch, Get, GoesOn, has_nack, HearsNoNack}
use Rattle.stm_wire.proofs.Names.{IsBatch, IsBatched, IsConnected, IsDrained, IsReconnected, IsRefused, IsUnrefused, more, nack, none, Put, puts_of, reconnected, Records, refused, singly, taken}
use Rattle.stm_wire.proofs.Names.{used_up}
use Rattle.stm_wire.proofs.Turns.{Adds-append, Adds-GoesOn, GoesOn-append, GoesOn-weaker}
use Rattle.stm_wire.proofs.Talking.{puts_of-append, goes_nowhere, replicate-more}

-- the call of an Ok is added
pub adds_one : {T : Type 0} (call : Call) (u : T) (a b : Option (List Call)) → Records call (Ok u) a b → Adds (call ∷ []) a b
adds_one call u None b r = r
adds_one call u (Some past) b r = r

-- a get, and what it brought
pub adds_get : (answer value : Option ℕ) (a b : Option (List Call)) → answer ≡ value → Records {T = Option ℕ} (Get answer) (Ok answer) a b → Adds (Get value ∷ []) a b
adds_get answer value a b e r = subst (λ (o : Option ℕ). Adds (Get o ∷ []) a b) e (adds_one (Get answer) answer a b r)

-- a byte, and what came for it
pub adds_both : {T : Type 0} (byte : ℕ) (u : T) (answer value : Option ℕ) (a b c : Option (List Call)) → answer ≡ value → Records {T = T} (Put byte) (Ok u) a b → Records {T = Option ℕ} (Get answer) (Ok answer) b c
    → Adds (Put byte ∷ Get value ∷ []) a c
adds_both byte u answer value a b c e put got = Adds-append (Put byte ∷ []) (Get value ∷ []) a b c (adds_one (Put byte) u a b put) (adds_get answer value b c e got)

pub adds_goes : (calls : List Call) (a b : Option (List Call)) → Adds calls a b → GoesOn (λ zs. zs ≡ calls) a b
adds_goes calls a b p = Adds-GoesOn (λ zs. zs ≡ calls) calls a b p refl

-- Draining:

taken-more : (xs : List ℕ) (y : ℕ) → taken (xs ++ y ∷ []) ≡ taken xs ++ Get (Some y) ∷ []
taken-more [] y = refl
taken-more (x ∷ xs) y = ap (λ zs. Get (Some x) ∷ zs) (taken-more xs y)

or-assoc : (a b c : Bool) → ((a || b) || c) ≡ (a || (b || c))
or-assoc true b c = refl
or-assoc false b c = refl

or-false : (a : Bool) → (a || false) ≡ a
or-false true = refl
or-false false = refl

has_nack-more : (xs : List ℕ) (y : ℕ) → has_nack (xs ++ y ∷ []) ≡ (has_nack xs || eqb y nack)
has_nack-more [] y = or-false (eqb y nack)
has_nack-more (x ∷ xs) y = ap (λ b. eqb x nack || b) (has_nack-more xs y) ∙ sym (or-assoc (eqb x nack) (has_nack xs) (eqb y nack))

-- so many bytes were taken so far
pub record TookSoFar (count : ℕ) (seen : Bool) (calls : List Call) : Type 0 where
  pub bytes : List ℕ
  pub is : calls ≡ taken bytes
  pub many : length bytes ≡ count
  pub has : has_nack bytes ≡ seen

pub took_nothing : (o : Option (List Call)) → GoesOn (TookSoFar 0 false) o o
took_nothing o = goes_nowhere (TookSoFar 0 false) o (record { bytes = []; is = refl; many = refl; has = refl })

pub took_more : (count : ℕ) (seen : Bool) (byte : ℕ) (a b c : Option (List Call)) → GoesOn (TookSoFar count seen) a b → Adds (Get (Some byte) ∷ []) b c → GoesOn (TookSoFar (count + 1) (seen || eqb byte nack)) a c
took_more count seen byte a b c p q = GoesOn-append (TookSoFar count seen) (λ zs. zs ≡ Get (Some byte) ∷ []) (TookSoFar (count + 1) (seen || eqb byte nack)) a b c p (adds_goes (Get (Some byte) ∷ []) b c q)
    (λ us vs u v. record {
      bytes = u.bytes ++ byte ∷ [];
      is = ap (λ z. z ++ vs) u.is ∙ ap (λ z. taken u.bytes ++ z) v ∙ sym (taken-more u.bytes byte);
      many = omega (arith, length-push u.bytes byte, u.many);
      has = has_nack-more u.bytes byte ∙ ap (λ b. b || eqb byte nack) u.has;
    })
  where
    length-push : (xs : List ℕ) (y : ℕ) → length (xs ++ y ∷ []) ≡ length xs + 1
    length-push [] y = refl
    length-push (x ∷ xs) y = let e = length-push xs y in omega arith

pub took_all : (count : ℕ) (seen : Bool) (a b c : Option (List Call)) → GoesOn (TookSoFar count seen) a b → Adds (Get None ∷ []) b c → GoesOn (IsDrained seen) a c
took_all count seen a b c p q = GoesOn-append (TookSoFar count seen) (λ zs. zs ≡ Get None ∷ []) (IsDrained seen) a b c p (adds_goes (Get None ∷ []) b c q)
    (λ us vs u v. record { bytes = u.bytes; is = ap (λ z. z ++ vs) u.is ∙ ap (λ z. taken u.bytes ++ z) v; has = u.has })

drained-unrefused : (bytes : List ℕ) → IsUnrefused (taken bytes ++ Get None ∷ [])
drained-unrefused [] = tt
drained-unrefused (byte ∷ bytes) = drained-unrefused bytes

drained-puts : (bytes : List ℕ) → puts_of (taken bytes ++ Get None ∷ []) ≡ []
drained-puts [] = refl
drained-puts (byte ∷ bytes) = drained-puts bytes

-- Batches:

pub copies_more : (byte sent : ℕ) (a b c : Option (List Call)) → GoesOn (λ zs. zs ≡ replicate sent (Put byte)) a b → Adds (Put byte ∷ []) b c → GoesOn (λ zs. zs ≡ replicate (sent + 1) (Put byte)) a c
copies_more byte sent a b c p q = GoesOn-append (λ zs. zs ≡ replicate sent (Put byte)) (λ zs. zs ≡ Put byte ∷ []) (λ zs. zs ≡ replicate (sent + 1) (Put byte)) a b c p (adds_goes (Put byte ∷ []) b c q)
    (λ us vs u v.
    let one : suc sent ≡ sent + 1 = omega arith in
    ap (λ z. z ++ vs) u ∙ ap (λ z. replicate sent (Put byte) ++ z) v ∙ replicate-more sent (Put byte) ∙ ap (λ k. replicate k (Put byte)) one)

pub batch_calls : (byte count sent : ℕ) (seen : Bool) (a b c : Option (List Call)) → sent ≡ count → GoesOn (λ zs. zs ≡ replicate sent (Put byte)) a b → GoesOn (IsDrained seen) b c → GoesOn (IsBatch byte count seen) a c
batch_calls byte count sent seen a b c e p q = GoesOn-append (λ zs. zs ≡ replicate sent (Put byte)) (IsDrained seen) (IsBatch byte count seen) a b c p q
    (λ us vs u v. record { drained = vs; is = ap (λ z. z ++ vs) (u ∙ ap (λ k. replicate k (Put byte)) e); is_drained = v })

pub no_batches : (byte limit : ℕ) (o : Option (List Call)) → GoesOn (AreBatches byte limit limit false) o o
no_batches byte limit o = goes_nowhere (AreBatches byte limit limit false) o none

pub batches_more : (byte limit left count : ℕ) (seen : Bool) (a b c : Option (List Call)) → 2 < left → count ≡ batch_size (limit - left) left → GoesOn (AreBatches byte limit left false) a b → GoesOn (IsBatch byte count seen) b c
    → GoesOn (AreBatches byte limit (left - count) seen) a c
batches_more byte limit left count seen a b c some is p q = GoesOn-append (AreBatches byte limit left false) (IsBatch byte count seen) (AreBatches byte limit (left - count) seen) a b c p q
    (λ us vs u v. more left count seen us vs u some is v)

-- so batches end: the last brought a NACK,
pub batches_answered : (byte limit left : ℕ) (a b : Option (List Call)) → GoesOn (AreBatches byte limit left true) a b → GoesOn (IsBatched byte limit left) a b
batches_answered byte limit left a b p = GoesOn-weaker (AreBatches byte limit left true) (IsBatched byte limit left) a b p (λ us u. answered u)

-- or two bytes are left
pub batches_used_up : (byte limit left : ℕ) (a b : Option (List Call)) → left ≤ 2 → GoesOn (AreBatches byte limit left false) a b → GoesOn (IsBatched byte limit left) a b
batches_used_up byte limit left a b few p = GoesOn-weaker (AreBatches byte limit left false) (IsBatched byte limit left) a b p (λ us u. used_up few u)

-- Single bytes:

heard-append : (xs ys : List Call) → HearsNoNack xs → HearsNoNack (xs ++ ys)
heard-append [] ys h = absurd h
heard-append (Put byte ∷ xs) ys h = absurd h
heard-append (Get answer ∷ xs) ys h = h
heard-append (Append n ∷ xs) ys h = absurd h
heard-append (Fetch ∷ xs) ys h = absurd h

unrefused-append : (xs ys : List Call) → IsUnrefused xs → IsUnrefused ys → IsUnrefused (xs ++ ys)
unrefused-append [] ys u v = v
unrefused-append (Put byte ∷ xs) ys u v = (heard-append xs ys u.0, unrefused-append xs ys u.1 v)
unrefused-append (Get answer ∷ xs) ys u v = unrefused-append xs ys u v
unrefused-append (Append n ∷ xs) ys u v = unrefused-append xs ys u v
unrefused-append (Fetch ∷ xs) ys u v = unrefused-append xs ys u v

pub unrefused_nowhere : (byte : ℕ) (o : Option (List Call)) → GoesOn (AreUnrefused byte 0) o o
unrefused_nowhere byte o = goes_nowhere (AreUnrefused byte 0) o (record { each = tt; puts = refl })

pub unrefused_more : (byte sent : ℕ) (a b c : Option (List Call)) → GoesOn (AreUnrefused byte sent) a b → GoesOn (AreUnrefused byte 1) b c → GoesOn (AreUnrefused byte (sent + 1)) a c
unrefused_more byte sent a b c p q = GoesOn-append (AreUnrefused byte sent) (AreUnrefused byte 1) (AreUnrefused byte (sent + 1)) a b c p q
    (λ us vs u v.
    let one : suc sent ≡ sent + 1 = omega arith in
    record {
      each = unrefused-append us vs u.each v.each;
      puts = puts_of-append us vs ∙ ap (λ z. z ++ puts_of vs) u.puts ∙ ap (λ z. replicate sent byte ++ z) v.puts ∙ replicate-more sent byte ∙ ap (λ k. replicate k byte) one;
    })

-- a byte, and nothing came
pub unrefused_silence : (byte : ℕ) (a b : Option (List Call)) → Adds (Put byte ∷ Get None ∷ []) a b → GoesOn (AreUnrefused byte 1) a b
unrefused_silence byte a b p = Adds-GoesOn (AreUnrefused byte 1) (Put byte ∷ Get None ∷ []) a b p (record { each = ((λ e. cc), tt); puts = refl })

-- the byte, this answer first, and what was owed after it: refused or not
pub refused_or_not : (byte first : ℕ) (seen : Bool) (a b c : Option (List Call)) → Adds (Put byte ∷ Get (Some first) ∷ []) a b → GoesOn (IsDrained seen) b c
    → MatchBool (eqb first nack) (GoesOn (IsRefused byte) a c) (GoesOn (AreUnrefused byte 1) a c)
refused_or_not byte first seen a b c p q = by_cases (eqb first nack) refl
  where
    both : List Call
    both = Put byte ∷ Get (Some first) ∷ []

    by_cases : (t : Bool) → eqb first nack ≡ t → MatchBool t (GoesOn (IsRefused byte) a c) (GoesOn (AreUnrefused byte 1) a c)
    by_cases true same = GoesOn-append (λ zs. zs ≡ both) (IsDrained seen) (IsRefused byte) a b c (adds_goes both a b p) q
        (λ us vs u v. record { seen = seen; drained = vs; is = ap (λ z. z ++ vs) u ∙ ap (λ n. Put byte ∷ Get (Some n) ∷ vs) (eqb-true first nack same); is_drained = v })
    by_cases false other = GoesOn-append (λ zs. zs ≡ both) (IsDrained seen) (AreUnrefused byte 1) a b c (adds_goes both a b p) q
        (λ us vs u v.
        let is : us ++ vs ≡ Put byte ∷ Get (Some first) ∷ (taken v.bytes ++ Get None ∷ []) = ap (λ z. z ++ vs) u ∙ ap (λ z. both ++ z) v.is in
        let none_put : Some first ≢ Some nack = (λ e. eqb-false first nack other (let h = e in cc)) in
        subst (AreUnrefused byte 1) (sym is) (record { each = (none_put, drained-unrefused v.bytes); puts = ap (λ z. byte ∷ z) (drained-puts v.bytes) }))

-- one of the single bytes was refused,
pub singly_refused : (byte limit sent : ℕ) (a b c : Option (List Call)) → sent < limit → GoesOn (AreUnrefused byte sent) a b → GoesOn (IsRefused byte) b c → GoesOn (EndsSingly byte limit) a c
singly_refused byte limit sent a b c lt p q = GoesOn-append (AreUnrefused byte sent) (IsRefused byte) (EndsSingly byte limit) a b c p q
    (λ us vs u v. refused sent us vs lt u v refl)

-- or none
pub singly_reconnected : (byte limit sent : ℕ) (a b c : Option (List Call)) → sent ≡ limit → GoesOn (AreUnrefused byte sent) a b → GoesOn (IsReconnected byte) b c → GoesOn (EndsSingly byte limit) a c
singly_reconnected byte limit sent a b c e p q = GoesOn-append (AreUnrefused byte sent) (IsReconnected byte) (EndsSingly byte limit) a b c p q
    (λ us vs u v. reconnected us vs (subst (λ n. AreUnrefused byte n us) e u) v refl)

-- connected, and then the byte was put and stayed without an answer
pub record IsProbed (byte : ℕ) (calls : List Call) : Type 0 where
  pub connecting : List Call
  pub is_connected : IsConnected connecting
  pub is : calls ≡ connecting ++ Put byte ∷ Get None ∷ []

pub probed : (byte : ℕ) (a b c : Option (List Call)) → GoesOn IsConnected a b → Adds (Put byte ∷ Get None ∷ []) b c → GoesOn (IsProbed byte) a c
probed byte a b c p q =
    let two = Put byte ∷ Get None ∷ [] in
    GoesOn-append IsConnected (λ zs. zs ≡ two) (IsProbed byte) a b c p (adds_goes two b c q)
    (λ us vs u v. record { connecting = us; is_connected = u; is = ap (λ z. us ++ z) v })

pub reconnects : (byte : ℕ) (a b c : Option (List Call)) → GoesOn (IsProbed byte) a b → Adds (Put byte ∷ Get (Some nack) ∷ Get None ∷ []) b c → GoesOn (IsReconnected byte) a c
reconnects byte a b c p q =
    let two = Put byte ∷ Get None ∷ [] in
    let last = Put byte ∷ Get (Some nack) ∷ Get None ∷ [] in
    GoesOn-append (IsProbed byte) (λ zs. zs ≡ last) (IsReconnected byte) a b c p (adds_goes last b c q)
    (λ us vs u v. record { connecting = u.connecting; is_connected = u.is_connected; is = ap (λ z. z ++ vs) u.is ∙ ap (λ z. (u.connecting ++ two) ++ z) v ∙ append_assoc u.connecting two last })

-- draining and single bytes
pub single_calls : (byte limit : ℕ) (seen : Bool) (a b c : Option (List Call)) → GoesOn (IsDrained seen) a b → GoesOn (EndsSingly byte limit) b c → GoesOn (EndsByteByByte byte limit) a c
single_calls byte limit seen a b c p q = GoesOn-append (IsDrained seen) (EndsSingly byte limit) (EndsByteByByte byte limit) a b c p q
    (λ us vs u v. record { seen = seen; drained = us; singles = vs; is = refl; is_drained = u; end_singly = v })

-- or with batches between
pub batched_calls : (byte limit left : ℕ) (seen : Bool) (a b c d : Option (List Call)) → GoesOn (IsDrained seen) a b → GoesOn (IsBatched byte limit left) b c → GoesOn (EndsSingly byte left) c d → GoesOn (EndsInBatches byte limit) a d
batched_calls byte limit left seen a b c d p q r =
    let P : List Call → Type 0 = λ zs. (xs : List Call) × (ys : List Call) × (zs ≡ xs ++ ys) × IsDrained seen xs × IsBatched byte limit left ys in
    GoesOn-append P (EndsSingly byte left) (EndsInBatches byte limit) a c d (GoesOn-append (IsDrained seen) (IsBatched byte limit left) P a b c p q (λ us vs u v. (us, vs, refl, u, v))) r
    (λ us vs u v. record { seen = seen; left = left; drained = u.0; batches = u.1; singles = vs; is = ap (λ z. z ++ vs) u.2; is_drained = u.3; are_batched = u.4; end_singly = v })

-- so a settling ends
pub settled_singly : (byte limit : ℕ) (a b : Option (List Call)) → byte ≡ 0x7F → GoesOn (EndsByteByByte byte limit) a b → GoesOn (EndsSettled byte limit) a b
settled_singly byte limit a b same p = GoesOn-weaker (EndsByteByByte byte limit) (EndsSettled byte limit) a b p (λ us u. singly same u)
