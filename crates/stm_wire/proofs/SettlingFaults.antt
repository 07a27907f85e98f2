-- How the calls of settling end at a fault, on any line.
use Rattle.std.proofs.Common.{◌≡◌, inl, inr, ⊎_elim, ℕ, ◌+◌, List, [], ◌∷◌, ◌++◌, replicate, Bool, Option, None, Result, Ok, Err, IfErr, IsErrAnd, refl, sym, ◌∙◌, ap, subst, append_assoc}
use Rattle.stm_wire.proofs.Names.{Adds, answered_once, Call, EndsGarbled, FailsAs, Floods, Get, GoesOn, IsAnswerTo, IsConnected, IsGarbled, IsNoAck, IsPast, IsUnconfirmed, IsUnconnected, IsUnended}
use Rattle.stm_wire.proofs.Names.{Never, Put, puts_of, PutsAll, taken, unacknowledged, unconfirmed, WireFault}
use Rattle.stm_wire.specs.declared.fault.WireFault.TheVariants.{Quiet, Garbled}
use Rattle.stm_wire.proofs.Turns.{GoesOn-append, GoesOn-weaker}
use Rattle.stm_wire.proofs.Holding.{if_err_weaker}
use Rattle.stm_wire.proofs.Talking.{puts_of-append, replicate-add}
use Rattle.stm_wire.proofs.SettlingCalls.{IsProbed, TookSoFar, adds_goes}

pub fails_garbled : (quiet garbled : List Call → Type 0) (a b : Option (List Call)) → GoesOn garbled a b → FailsAs quiet garbled a b Garbled
fails_garbled quiet garbled a b p = record { named = λ n. cc; quiet_end = λ n. absurd (let h : Garbled ≡ Quiet = n in cc); garbled_end = λ _. p }

pub fails_quiet : (quiet garbled : List Call → Type 0) (a b : Option (List Call)) → GoesOn quiet a b → FailsAs quiet garbled a b Quiet
fails_quiet quiet garbled a b p = record { named = λ n. cc; quiet_end = λ _. p; garbled_end = λ n. absurd (let h : Quiet ≡ Garbled = n in cc) }

-- a part's fault is that of the whole
pub fails_weaker : (q g q' g' : List Call → Type 0) (a b c d : Option (List Call)) (fault : WireFault) → (GoesOn q a b → GoesOn q' c d) → (GoesOn g a b → GoesOn g' c d) → FailsAs q g a b fault → FailsAs q' g' c d fault
fails_weaker q g q' g' a b c d fault k l f = record { named = f.named; quiet_end = λ e. k (f.quiet_end e); garbled_end = λ e. l (f.garbled_end e) }

pub fails_all_weaker : {T : Type 0} (q g q' g' : List Call → Type 0) (a b c d : Option (List Call)) (r : Result T WireFault) → (GoesOn q a b → GoesOn q' c d) → (GoesOn g a b → GoesOn g' c d)
    → IfErr r (FailsAs q g a b) → IfErr r (FailsAs q' g' c d)
fails_all_weaker q g q' g' a b c d r k l f = if_err_weaker (FailsAs q g a b) (FailsAs q' g' c d) r (λ fault. fails_weaker q g q' g' a b c d fault k l) f

-- and where it is handed on
pub fails_on : {T : Type 0} (q g q' g' : List Call → Type 0) (a b c d : Option (List Call)) (fault : WireFault) (r : Result T WireFault) → (GoesOn q a b → GoesOn q' c d) → (GoesOn g a b → GoesOn g' c d)
    → FailsAs q g a b fault → IsErrAnd r (λ e. e ≡ fault) → IfErr r (FailsAs q' g' c d)
fails_on q g q' g' a b c d fault (Ok u) k l f e = absurd e
fails_on q g q' g' a b c d fault (Err x) k l f e = subst (FailsAs q' g' c d) (sym e) (fails_weaker q g q' g' a b c d fault k l f)

pub never_so : (P : List Call → Type 0) (a b : Option (List Call)) → GoesOn Never a b → GoesOn P a b
never_so P a b p = GoesOn-weaker Never P a b p (λ xs x. absurd x)

-- calls before the others
pub never_after : (P Q : List Call → Type 0) (a b c : Option (List Call)) → GoesOn P a b → GoesOn Never b c → GoesOn Q a c
never_after P Q a b c p q = GoesOn-append P Never Q a b c p q (λ us vs u v. absurd v)

pub floods_before : (us vs : List Call) → Floods vs → Floods (us ++ vs)
floods_before us vs v = record { before = us ++ v.before; bytes = v.bytes; is = ap (λ z. us ++ z) v.is ∙ sym (append_assoc us v.before (taken v.bytes)); many = v.many }

pub floods_after : (P : List Call → Type 0) (a b c : Option (List Call)) → GoesOn P a b → GoesOn Floods b c → GoesOn Floods a c
floods_after P a b c p q = GoesOn-append P Floods Floods a b c p q (λ us vs u v. floods_before us vs v)

pub floods : (seen : Bool) (a b : Option (List Call)) (count : ℕ) → count ≡ 4097 → GoesOn (TookSoFar count seen) a b → GoesOn Floods a b
floods seen a b count e p = GoesOn-weaker (TookSoFar count seen) Floods a b p (λ us u. record { before = []; bytes = u.bytes; is = u.is; many = u.many ∙ e })

-- the bytes of a part belong to the limit
past_calls : (byte m n limit : ℕ) (P : List Call → Type 0) (us vs : List Call) → m + n ≡ limit → puts_of us ≡ replicate m byte → IsPast byte n P vs → IsPast byte limit P (us ++ vs)
past_calls byte m n limit P us vs e u v = record {
  before = us ++ v.before;
  last = v.last;
  is = ap (λ z. us ++ z) v.is ∙ sym (append_assoc us v.before v.last);
  puts = puts_of-append us v.before ∙ ap (λ z. z ++ puts_of v.before) u ∙ ap (λ z. replicate m byte ++ z) v.puts ∙ sym (replicate-add m n byte) ∙ ap (λ k. replicate k byte) e;
  has = v.has;
}

pub past_after : (byte m n limit most : ℕ) (P : List Call → Type 0) (a b c : Option (List Call)) → m + n ≡ limit → GoesOn (PutsAll (replicate m byte) most) a b → GoesOn (IsPast byte n P) b c → GoesOn (IsPast byte limit P) a c
past_after byte m n limit most P a b c e p q = GoesOn-append (PutsAll (replicate m byte) most) (IsPast byte n P) (IsPast byte limit P) a b c p q (λ us vs u v. past_calls byte m n limit P us vs e u.puts v)

pub garbled_after : (byte m n limit most : ℕ) (a b c : Option (List Call)) → m + n ≡ limit → GoesOn (PutsAll (replicate m byte) most) a b → GoesOn (EndsGarbled byte n) b c → GoesOn (EndsGarbled byte limit) a c
garbled_after byte m n limit most a b c e p q = GoesOn-append (PutsAll (replicate m byte) most) (EndsGarbled byte n) (EndsGarbled byte limit) a b c p q
    (λ us vs u v. ⊎_elim
    (λ (f : Floods vs). inl (floods_before us vs f))
    (λ (f : IsPast byte n (IsGarbled byte) vs). inr (past_calls byte m n limit (IsGarbled byte) us vs e u.puts f)) v)

-- the whole limit was put, and then came these
pub past_now : (byte limit most : ℕ) (P : List Call → Type 0) (a b c : Option (List Call)) → GoesOn (PutsAll (replicate limit byte) most) a b → GoesOn P b c → GoesOn (IsPast byte limit P) a c
past_now byte limit most P a b c p q = GoesOn-append (PutsAll (replicate limit byte) most) P (IsPast byte limit P) a b c p q
    (λ us vs u v. record { before = us; last = vs; is = refl; puts = u.puts; has = v })

pub garbled_flood : (byte limit : ℕ) (a b : Option (List Call)) → GoesOn Floods a b → GoesOn (EndsGarbled byte limit) a b
garbled_flood byte limit a b p = GoesOn-weaker Floods (EndsGarbled byte limit) a b p (λ us u. inl u)

pub garbled_past : (byte limit most : ℕ) (a b c : Option (List Call)) → GoesOn (PutsAll (replicate limit byte) most) a b → GoesOn (IsUnended byte) b c → GoesOn (EndsGarbled byte limit) a c
garbled_past byte limit most a b c p q = GoesOn-append (PutsAll (replicate limit byte) most) (IsUnended byte) (EndsGarbled byte limit) a b c p q
    (λ us vs u v. ⊎_elim (λ (f : Floods vs). inl (floods_before us vs f)) (λ (f : IsGarbled byte vs). inr (record { before = us; last = vs; is = refl; puts = u.puts; has = f })) v)

-- Connecting:

-- another byte than ACK came for 7F, or too many after it,
pub garbled_first : (byte : ℕ) (a b : Option (List Call)) → GoesOn IsUnconnected a b → GoesOn (IsUnended byte) a b
garbled_first byte a b p = GoesOn-weaker IsUnconnected (IsUnended byte) a b p (λ us u. ⊎_elim (λ (f : Floods us). inl f) (λ (f : IsNoAck us). inr (unacknowledged f)) u)

-- or one for the byte after it,
pub garbled_second : (byte : ℕ) (a b c : Option (List Call)) → GoesOn IsConnected a b → GoesOn (IsAnswerTo byte) b c → GoesOn (IsUnended byte) a c
garbled_second byte a b c p q = GoesOn-append IsConnected (IsAnswerTo byte) (IsUnended byte) a b c p q (λ us vs u v. inr (answered_once us vs u v refl))

-- or for the next one not NACK alone
pub garbled_third : (byte : ℕ) (a b c : Option (List Call)) → GoesOn (IsProbed byte) a b → GoesOn (IsUnconfirmed byte) b c → GoesOn (IsUnended byte) a c
garbled_third byte a b c p q = GoesOn-append (IsProbed byte) (IsUnconfirmed byte) (IsUnended byte) a b c p q
    (λ us vs u v. inr (unconfirmed u.connecting vs u.is_connected v (ap (λ z. z ++ vs) u.is ∙ append_assoc u.connecting (Put byte ∷ Get None ∷ []) vs)))

-- these calls before the others
pub adds_before : (calls : List Call) (P Q : List Call → Type 0) (a b c : Option (List Call)) → Adds calls a b → GoesOn P b c → ((vs : List Call) → P vs → Q (calls ++ vs)) → GoesOn Q a c
adds_before calls P Q a b c p q f = GoesOn-append (λ zs. zs ≡ calls) P Q a b c (adds_goes calls a b p) q (λ us vs u v. subst (λ (zs : List Call). Q (zs ++ vs)) (sym u) (f vs v))
