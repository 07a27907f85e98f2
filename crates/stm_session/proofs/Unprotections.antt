-- Write Unprotect of a device that was reset, exit by exit.
use Rattle.std.proofs.Common.{◌≡◌, ◌≢◌, inl, inr, ⊎_elim, ◌⊎◌, ℕ, zero, suc, List, [], ◌∷◌, ◌++◌, length, take, Option, Some, None, Result, Ok, Err, IsErrAnd, IfErr, IsTrue, refl, sym, ◌∙◌, ap, subst, arith, append-nil}
use Rattle.std.proofs.Math.Seq.{take-nil}
use Rattle.stm_wire.specs.declared.fault.WireFault.{WireFault}
use Rattle.stm_wire.specs.declared.fault.WireFault.TheVariants.{Line}
use Rattle.stm_wire.specs.declared.protection.Protection.TheVariants.{WriteUnprotect}
use Rattle.stm_wire.proofs.Names.{Adds, BreaksOff, Call, calls_of, CanProtect, Device, FedAndTaken, GoesOn, is_listed, IsConnected, IsHeldToEnd, IsReady, IsReadyPhase, LossStaysHarmless, Phase}
use Rattle.stm_wire.proofs.Names.{protection_code, PutsPart, Receives, RigState}
use Rattle.stm_wire.specs.lemmas.DialogueLaws.{GoesOn-adds, GoesOn-append, GoesOn-weaker, line_calls_are_few}
use Rattle.stm_wire.specs.lemmas.MomentLaws.{weaker}
use Rattle.stm_journal.proofs.Names.{AreFetches, IsUntouched, journal_of}
use Rattle.stm_session.proofs.Names.{bad_refusal, BeginsNothing, CanLeave, Fault, fault_of, IsBegun, IsJournalOrMemory, IsOfLine, IsOutsideFault, IsReset, IsSafe, IsSettledSame, IsUnprotected}
use Rattle.stm_session.proofs.Names.{IsUnprotecting, Leaves, LeftByLeaving, LeftByUnprotecting, LoadsUnless, RefusesUnsent, unprotect_frame, unprotect_turns, UnprotectContract, WasUnprotected}
use Rattle.stm_session.specs.declared.fault.Fault.TheVariants as faults
use Rattle.stm_session.proofs.Asking.{line_outside}
use Rattle.stm_session.proofs.Leavings.{can_protect, frame_used, leaves_broken, leaves_fed, leaves_unread, leaves_unsettled, fails_unread}
use Rattle.stm_session.proofs.Openings.{line_is_no_memory, refused_nothing}
use Rattle.stm_session.proofs.Orders.{GoesOn-both}
use Rattle.stm_session.proofs.Sending.{few-begun, few-fetches, few-three}

-- a device that was reset is ready
pub reset_is_ready : (d : Device) → IsReset d → IsReady d
reset_is_ready d is =
    record { phase = subst (λ (p : Phase). IsReadyPhase d.codes p) (sym is.phase) tt; owed = omega (arith, ap (λ (xs : List ℕ). length xs) is.owed) }

-- What is put, on any line:

unprotecting : (xs ys zs : List Call) → AreFetches xs → PutsPart (0x7F ∷ []) 4099 ys → IsBegun unprotect_turns zs → (zs ≡ []) ⊎ IsConnected ys → IsUnprotecting (xs ++ (ys ++ zs))
unprotecting xs ys zs fetches connects begun behind =
    record {
      fetches = xs;
      are_fetches = fetches;
      connecting = ys;
      connects = connects;
      said = zs;
      begun = begun;
      behind = behind;
      is = refl;
      few = few-three 0 4099 4 xs ys zs (few-fetches xs fetches) (omega (arith, connects.few, line_calls_are_few ys connects.line)) (few-begun 4 unprotect_turns zs (omega arith) begun);
    }

-- the journal was read
pub unprotects_at_journal : (a b : Option (List Call)) → GoesOn AreFetches a b → GoesOn IsUnprotecting a b
unprotects_at_journal a b p =
    GoesOn-weaker AreFetches IsUnprotecting a b p
    (λ xs is.
    let P : List Call → Type 0 = λ zs. IsUnprotecting zs in
    let none : PutsPart (0x7F ∷ []) 4099 [] = record { line = tt; puts = (0, refl); few = omega arith } in
    subst P (append-nil xs) (unprotecting xs [] [] is none (inl refl) (inl refl)))

-- then the device was connected, or wasn't
pub unprotects_at_connecting : (a b c : Option (List Call)) → GoesOn AreFetches a b → GoesOn (PutsPart (0x7F ∷ []) 4099) b c → GoesOn IsUnprotecting a c
unprotects_at_connecting a b c p q =
    GoesOn-append AreFetches (PutsPart (0x7F ∷ []) 4099) IsUnprotecting a b c p q
    (λ xs ys is connects. let P : List Call → Type 0 = λ zs. IsUnprotecting (xs ++ zs) in subst P (append-nil ys) (unprotecting xs ys [] is connects (inl refl) (inl refl)))

-- and then the dialogue was begun
pub unprotects_at_dialogue : (a b c d : Option (List Call)) → GoesOn AreFetches a b → GoesOn (PutsPart (0x7F ∷ []) 4099) b c → GoesOn IsConnected b c → GoesOn (IsBegun unprotect_turns) c d → GoesOn IsUnprotecting a d
unprotects_at_dialogue a b c d p q r s =
    GoesOn-append AreFetches IsSaid IsUnprotecting a b d p
    (GoesOn-append Both (IsBegun unprotect_turns) IsSaid b c d (GoesOn-both (PutsPart (0x7F ∷ []) 4099) IsConnected b c q r) s (λ ys zs both begun. (ys, zs, refl, both, begun)))
    (λ xs rest is (ys, zs, e, both, begun). let P : List Call → Type 0 = λ ws. IsUnprotecting (xs ++ ws) in subst P (sym e) (unprotecting xs ys zs is both.0 begun (inr both.1)))
  where
    Both : List Call → Type 0
    Both ys = PutsPart (0x7F ∷ []) 4099 ys × IsConnected ys

    IsSaid : List Call → Type 0
    IsSaid calls = (ys : List Call) × (zs : List Call) × (calls ≡ ys ++ zs) × Both ys × IsBegun unprotect_turns zs

-- to its end
pub unprotected_then : (a b c d : Option (List Call)) → GoesOn AreFetches a b → GoesOn IsConnected b c → Adds (calls_of unprotect_turns) c d → GoesOn IsUnprotected a d
unprotected_then a b c d fetched connected said =
    GoesOn-append AreFetches Then IsUnprotected a b d fetched
    (GoesOn-append IsConnected (λ xs. xs ≡ calls_of unprotect_turns) Then b c d connected (GoesOn-adds (λ xs. xs ≡ calls_of unprotect_turns) (calls_of unprotect_turns) c d said refl) (λ xs ys x y. (xs, ap (λ (l : List Call). xs ++ l) y, x)))
    (λ fetches rest are x. record { fetches = fetches; are_fetches = are; connecting = x.0; connected = x.2; is = ap (λ (l : List Call). fetches ++ l) x.1 })
  where
    Then : List Call → Type 0
    Then xs = (connecting : List Call) × (xs ≡ connecting ++ calls_of unprotect_turns) × IsConnected connecting

-- What it leaves, on a line that follows the model:

-- a device that was fed fewer than the two bytes has its flash
by_count : (old d mid : Device) (n : ℕ) → IsSettledSame old mid → FedAndTaken (take n unprotect_frame) mid d → (d.flash ≡ old.flash) ⊎ WasUnprotected old d
by_count old d mid zero is fed = inl (ap (λ (x : Device). x.flash) fed.2.1 ∙ ap (λ (x : Device). x.flash) fed.1 ∙ is.flash)
by_count old d mid (suc zero) is fed =
    let code : ℕ = protection_code WriteUnprotect in
    let took : Device = fed.1.0 in
    let takes = subst (λ (p : Phase). Receives mid p code took) is.settled.phase fed.1.1.receives in
    inl (ap (λ (x : Device). x.flash) fed.2.1 ∙ ap (λ (x : Device). x.flash) fed.1.2 ∙ ap (λ (x : Device). x.flash) takes ∙ is.flash)
by_count old d mid (suc (suc n)) is fed =
    let F : List ℕ → Type 0 = λ rest. FedAndTaken (unprotect_frame ++ rest) mid d in
    inr (mid, is, subst F (take-nil n) fed)

pub spares_flash : (old : RigState) (d : Device) (journal : List ℕ) → LeftByLeaving unprotect_frame old d journal → LeftByUnprotecting old d journal
spares_flash old d journal left = ⊎_elim (λ u. (u.journal_same, inl u.flash)) (λ sent. (sent.0, by_count old.device d sent.1.0 sent.1.2.0 sent.1.1 sent.1.2.1)) left

-- a refusal, or the journal or memory failed
pub answered : (said : Option Fault) (refusal e : Fault) → said ≡ Some refusal → IsJournalOrMemory e ⊎ (said ≡ Some e) → (e ≡ refusal) ⊎ IsJournalOrMemory e
answered said refusal e is given = ⊎_elim (λ unsent. inr unsent) (λ same. inl (let h : Some e ≡ Some refusal = sym same ∙ is in cc)) given

module _ (lost : LossStaysHarmless) (old : RigState) (safely : old.is_honest → IsReset old.device → IsSafe old.device) where
  -- what is promised follows from what the call leaves
  contract : {U : Type 0} (new : RigState) (result : Result U Fault) → (old.is_honest → (refusal : Fault) → bad_refusal (journal_of old.journal) ≡ Some refusal → RefusesUnsent (IsUntouched old) refusal old new result)
      → (old.is_honest → (refusal : Fault) → bad_refusal (journal_of old.journal) ≡ Some refusal → GoesOn AreFetches old.calls new.calls) → (old.is_honest → IsReset old.device → Leaves unprotect_frame old new result)
      → (old.is_honest → IsReset old.device → bad_refusal (journal_of old.journal) ≡ None → IsTrue (is_listed old.device.codes (protection_code WriteUnprotect)) → IfErr result IsOutsideFault)
      → (old.is_honest → old.journal ≡ [] → IfErr result (λ e. e ≢ faults.Memory)) → UnprotectContract old new result
  contract new result refused calls leaves unprotects spared =
      record {
        refused = refused;
        refused_calls = calls;
        leaves = leaves;
        moments = λ h is. weaker (LeftByLeaving unprotect_frame old) (LeftByUnprotecting old) old new (leaves h is).moments (spares_flash old);
        left = λ h is. spares_flash old new.device new.journal (leaves h is).left;
        unprotects = unprotects;
        spared = spared;
      }

  -- the journal couldn't be read, or is bad
  pub unread : {T U : Type 0} (mid : RigState) (e : Fault) (result : Result U Fault) → GoesOn AreFetches old.calls mid.calls → (old.is_honest → LoadsUnless {T = T} (bad_refusal (journal_of old.journal)) old mid (Err e))
      → (old.is_honest → old.journal ≡ [] → e ≢ faults.Memory) → IsErrAnd result (λ x. x ≡ e) → UnprotectContract old mid result
  unread mid e (Ok x) fetched loads memory is = absurd is
  unread {U = U} mid e (Err y) fetched loads memory is =
      let C : Fault → Type 0 = λ x. UnprotectContract {T = U} old mid (Err x) in
      subst C (sym is)
      (contract {U = U} mid (Err e)
      (λ h refusal said. let l = loads h in record { moments = l.moments; honest = l.honest; left = l.left; answers = answered _ refusal e said l.refused })
      (λ h refusal said. fetched)
      (λ h fresh. leaves_unread lost unprotect_frame _ old mid (safely h fresh) e (Err e) (loads h) refl)
      (λ h fresh none listed. fails_unread {U = U} _ old mid e (Err e) (loads h) none refl)
      memory)

  -- the journal was read, and is good
  module _ (mid : RigState) (loads : old.is_honest → LoadsUnless {T = Unit {0}} (bad_refusal (journal_of old.journal)) old mid (Ok tt)) where
    fresh_then : old.is_honest → IsReset old.device → IsReset mid.device
    fresh_then h fresh = subst (λ (d : Device). IsReset d) (sym (loads h).same) fresh

    accepted : {A : Type 0} → old.is_honest → (refusal : Fault) → bad_refusal (journal_of old.journal) ≡ Some refusal → A
    accepted h refusal said = refused_nothing _ refusal (loads h).accepted said

    -- the device couldn't be connected
    pub unconnected : {T U : Type 0} {Done : T → Type 0} (new : RigState) (e : Fault) (result : Result U Fault) → (mid.is_honest → IsReset mid.device → BeginsNothing mid new (Err e) Done) → IsOfLine e → IsErrAnd result (λ x. x ≡ e)
        → UnprotectContract old new result
    unconnected new e (Ok x) begins of is = absurd is
    unconnected {U = U} new e (Err y) begins of is =
        let C : Fault → Type 0 = λ x. UnprotectContract {T = U} old new (Err x) in
        subst C (sym is)
        (contract {U = U} new (Err e) (λ h refusal said. accepted h refusal said) (λ h refusal said. accepted h refusal said)
        (λ h fresh. leaves_unsettled lost unprotect_frame _ old mid (safely h fresh) (loads h) new e (Err e) (begins (loads h).honest (fresh_then h fresh)) of refl)
        (λ h fresh none listed. (begins (loads h).honest (fresh_then h fresh)).fails)
        (λ h empty. line_is_no_memory e of))

    -- it was connected
    module _ {Done : Unit {0} → Type 0} (settled : RigState) (begins : mid.is_honest → IsReset mid.device → BeginsNothing mid settled (Ok tt) Done) where
      -- and the dialogue was broken off
      pub broken : {U : Type 0} (new : RigState) (e : WireFault) (result : Result U Fault) → BreaksOff e unprotect_frame unprotect_turns settled new
          → (settled.is_honest → CanProtect (protection_code WriteUnprotect) settled.device → e ≡ Line) → IsErrAnd result (λ x. x ≡ fault_of e) → UnprotectContract old new result
      broken new e (Ok x) breaks honest is = absurd is
      broken {U = U} new e (Err y) breaks honest is =
          let C : Fault → Type 0 = λ x. UnprotectContract {T = U} old new (Err x) in
          subst C (sym is)
          (contract {U = U} new (Err (fault_of e)) (λ h refusal said. accepted h refusal said) (λ h refusal said. accepted h refusal said)
          (λ h fresh. leaves_broken lost unprotect_frame _ old mid (safely h fresh) (loads h) settled (begins (loads h).honest (fresh_then h fresh)) new (Err (fault_of e)) breaks refl)
          (λ h fresh none listed.
          let b = begins (loads h).honest (fresh_then h fresh) in
          let can : CanLeave (protection_code WriteUnprotect) old.device = record { safe = safely h fresh; listed = listed } in
          line_outside e (honest b.honest (can_protect lost unprotect_frame _ old mid (safely h fresh) (loads h) settled b (protection_code WriteUnprotect) can)))
          (λ h empty. line_is_no_memory (fault_of e) (frame_used e)))

      -- or held to its end
      pub whole : {U : Type 0} (new : RigState) (x : U) → IsHeldToEnd unprotect_frame unprotect_turns settled new → UnprotectContract old new (Ok x)
      whole new x holds =
          contract new (Ok x) (λ h refusal said. accepted h refusal said) (λ h refusal said. accepted h refusal said)
          (λ h fresh. leaves_fed lost unprotect_frame _ old mid (safely h fresh) (loads h) settled (begins (loads h).honest (fresh_then h fresh)) new x holds)
          (λ h fresh none listed. tt)
          (λ h empty. tt)
