-- Puts and gets of a Rig in memory do what those of an honest Rig do.
use Rattle.std.proofs.Common.{◌≡◌, ◌⊎◌, inl, inr, ⊎_elim, ℕ, ◌+◌, ◌-◌, ◌^◌, ◌≤◌, ◌<◌, List, []}
use Rattle.std.proofs.Common.{◌∷◌, ◌++◌, length, take, drop, Option, Some, None, Result, Ok, Err, refl}
use Rattle.std.proofs.Common.{sym, ◌∙◌, ap, subst, arith, append-nil, take_all, drop-drop}
use Rattle.stm_wire.specs.declared.fault.RigFault.{RigFault}
use Rattle.stm_wire.specs.declared.fault.RigFault.TheVariants.{Line, File, Stopped}
use Rattle.stm_sim.specs.declared.past.PastStep.{PastStep}
use Rattle.stm_sim.specs.declared.past.PastStep.TheVariants.{Fed, Taken, Nothing}
use Rattle.stm_sim.specs.declared.plan.Plan.{Plan}
use Rattle.stm_wire.specs.declared.rig.RigCall.{RigCall}
use Rattle.stm_wire.specs.declared.rig.RigCall.TheVariants.{Put, Get}
use Rattle.stm_wire.specs.Device.{Device, IsDevice, LosesOwed}
use Rattle.stm_sim.specs.Simulator.{simulated_device}
use Rattle.stm_sim.specs.lemmas.Simulated.{simulated_device-feeds}
use Rattle.stm_sim.specs.lemmas.SimulatedDevice.{simulated_device-IsDevice}
use Rattle.stm_wire.specs.Rig.{RigState, Elapses, PutsHonestly, GetsHonestly, LeftByPut, LeftByGet}
use Rattle.stm_sim.specs.Memory.{MemoryData, IsMemory, rig_state, with_call, Fails, PutsInMemory}
use Rattle.stm_sim.specs.Memory.{GetsInMemory, takes_steps, counts_put, counts_get, after_past_step}
use Rattle.stm_sim.specs.Memory.{added_by}
use Rattle.stm_sim.specs.lemmas.Past.{AddsCall, keeps-call, elapses, beginnings, model, owed-device}

-- one call more, and what it may have left
pub record Entered (P : Device → List ℕ → Type 0) (m n : MemoryData) : Type 0 where
  pub honest : IsMemory n
  pub time : Elapses P (rig_state m) (rig_state n)
  pub begins : (t k : ℕ) (d : Device) → t ≤ length m.calls → length m.journal ≤ k
      → LosesOwed m.device d → (rig_state n).left_since t d (take k n.journal)

-- that Rig after the call
abbrev after_call : RigCall → PastStep → Device → List ℕ → ℕ → ℕ → Plan → MemoryData → MemoryData
after_call call s device journal lines journals plan m =
    with_call call s device
    (record m {
      journal = journal;
      line_failures = lines;
      journal_failures = journals;
      plan = plan;
    })

pub entered : (P : Device → List ℕ → Type 0) (call : RigCall) (s : PastStep) (bytes : List ℕ)
    (device : Device) (journal : List ℕ) (lines journals : ℕ) (plan : Plan) (m : MemoryData)
    → device ≡ after_past_step s m.device → journal ≡ m.journal ++ bytes → IsMemory m
    → IsDevice device → added_by (s ∷ []) ≡ length bytes → length journal ≤ 2 ^ 63 - 1
    → ((d : Device) (size : ℕ) → LosesOwed m.device d ⊎ LosesOwed device d
    → length m.journal ≤ size → size ≤ length journal → P d (take size journal))
    → Entered P m (after_call call s device journal lines journals plan m)
entered P call s bytes device journal lines journals plan m step grown is is_device size limit p =
    let n = after_call call s device journal lines journals plan m in
    let is_n : IsMemory n =
    keeps-call call s bytes m device journal n.calls n.first n.past step grown refl refl refl is
    is_device size limit in
    let goes : AddsCall call s bytes m n =
    record {
      device = step;
      journal = grown;
      calls = refl;
      first = refl;
      begun = refl;
      start = refl;
      past = refl;
    } in
    record {
      honest = is_n;
      time = elapses call s bytes m n is is_n goes P p;
      begins = beginnings call s bytes m n is is_n goes;
    }

-- the same for a call that left the journal as it was
quiet : (P : Device → List ℕ → Type 0) (call : RigCall) (s : PastStep) (device : Device)
    (lines journals : ℕ) (plan : Plan) (m : MemoryData) → device ≡ after_past_step s m.device
    → IsMemory m → IsDevice device → added_by (s ∷ []) ≡ 0
    → ((d : Device) → LosesOwed m.device d ⊎ LosesOwed device d → P d m.journal)
    → Entered P m (after_call call s device m.journal lines journals plan m)
quiet P call s device lines journals plan m step is is_device size p =
    entered P call s [] device m.journal lines journals plan m step (sym (append-nil m.journal)) is
    is_device size is.limit
    (λ d k lost above below.
    let J : List ℕ → Type 0 = λ j. P d j in subst J (sym (take_all k m.journal above)) (p d lost))

-- a call that did nothing but, where there was memory, stand in the record
pub record Idles (P : Device → List ℕ → Type 0) (m n : MemoryData) : Type 0 where
  pub honest : IsMemory n
  pub time : Elapses P (rig_state m) (rig_state n)
  pub device : n.device ≡ m.device
  pub journal : n.journal ≡ m.journal
  pub begins : (t k : ℕ) (d : Device) → t ≤ length m.calls → length m.journal ≤ k
      → LosesOwed m.device d → (rig_state n).left_since t d (take k n.journal)

pub idles-entry : (P : Device → List ℕ → Type 0)
    → (call : RigCall) (lines journals : ℕ) (plan : Plan) (m : MemoryData)
    → ((d : Device) → LosesOwed m.device d → P d m.journal) → IsMemory m
    → Idles P m
    (with_call call Nothing m.device
    (record m { line_failures = lines; journal_failures = journals; plan = plan }))
idles-entry P call lines journals plan m p is =
    let e =
    quiet P call Nothing m.device lines journals plan m refl is is.is_device refl
    (λ d lost. p d (⊎_elim (λ l. l) (λ l. l) lost)) in
    record {
      honest = e.honest;
      time = e.time;
      device = refl;
      journal = refl;
      begins = e.begins;
    }

-- a call that took no moment
pub still : (P : Device → List ℕ → Type 0) (rig : RigState) → Elapses P rig rig
still P rig =
    record {
      later = omega arith;
      nothing_else = λ t d journal le left. inl left;
      keeps = λ t d journal le left. left;
    }

idles-alone : (P : Device → List ℕ → Type 0) (lines journals : ℕ) (plan : Plan) (m : MemoryData)
    → IsMemory m
    → Idles P m (record m { line_failures = lines; journal_failures = journals; plan = plan })
idles-alone P lines journals plan m is =
    record {
      honest = is;
      time =
          let s = still P (rig_state m) in
          record { later = s.later; nothing_else = s.nothing_else; keeps = s.keeps };
      device = refl;
      journal = refl;
      begins = λ t k d le above lost.
          rw (take_all k m.journal above) ((model m is).counts_now t d le lost);
    }

pub idles : (P : Device → List ℕ → Type 0) (call : RigCall) (lines journals : ℕ) (plan : Plan)
    (m n : MemoryData) → ((d : Device) → LosesOwed m.device d → P d m.journal) → IsMemory m
    → Fails call (record m { line_failures = lines; journal_failures = journals; plan = plan }) n
    → Idles P m n
idles P call lines journals plan m n p is fails =
    ⊎_elim (λ e. rw e (idles-entry P call lines journals plan m p is))
    (λ e. rw e.0 (idles-alone P lines journals plan m is)) fails

put-idles : (byte : ℕ) (fault : RigFault) (m n : MemoryData)
    → Idles (LeftByPut byte (rig_state m)) m n
    → PutsHonestly {T = Unit {0}} byte (Err fault) (rig_state m) (rig_state n)
put-idles byte fault m n i =
    record {
      honest = i.honest;
      ok = tt;
      err = (i.journal, (m.device, inl refl, (0, i.device)));
      time = i.time;
    }

pub put-honest : (byte : ℕ) (result : Result (Unit {0}) RigFault) (m n : MemoryData) → byte < 256
    → IsMemory m → PutsInMemory byte result m n
    → PutsHonestly byte result (rig_state m) (rig_state n)
put-honest byte (Ok u) m n small is p =
    let x =
    with_call (Put byte) (Fed byte) (simulated_device byte m.device)
    (takes_steps 1 (counts_put m)) in
    let feeds = simulated_device-feeds byte m.device small is.is_device in
    let e =
    quiet (LeftByPut byte (rig_state m)) (Put byte) (Fed byte) x.device x.line_failures
    x.journal_failures x.plan m refl is
    (simulated_device-IsDevice byte m.device small is.is_device) refl
    (λ d lost.
    ⊎_elim (λ l. (refl, (m.device, inl refl, l))) (λ l. (refl, (x.device, inr feeds, l))) lost) in
    rw p.2 (record { honest = e.honest; ok = (feeds, refl); err = tt; time = e.time })
put-honest byte (Err Stopped) m n small is p =
    put-idles byte Stopped m n
    (idles (LeftByPut byte (rig_state m)) (Put byte) _ _ _ m n
    (λ d lost. (refl, (m.device, inl refl, lost))) is p.1)
put-honest byte (Err Line) m n small is p =
    put-idles byte Line m n
    (idles (LeftByPut byte (rig_state m)) (Put byte) _ _ _ m n
    (λ d lost. (refl, (m.device, inl refl, lost))) is p.1)
put-honest byte (Err File) m n small is p = absurd p

get-idles : (fault : RigFault) (m n : MemoryData) → Idles (LeftByGet (rig_state m)) m n
    → GetsHonestly (Err fault) (rig_state m) (rig_state n)
get-idles fault m n i =
    record {
      honest = i.honest;
      ok = tt;
      journal = i.journal;
      err = (i.journal, (0, i.device));
      time = i.time;
    }

-- what may be lost after the first byte owed was taken may be lost before
lost-more : (m : MemoryData) (byte : ℕ) (rest : List ℕ) (d : Device) → m.device.owed ≡ byte ∷ rest
    → LosesOwed (record m.device { owed = rest }) d → LosesOwed m.device d
lost-more m byte rest d e lost =
    let P : List ℕ → Device = λ xs. record m.device { owed = xs } in (
      1 + lost.0,
      lost.1
          ∙ ap P (ap (λ xs. drop lost.0 (drop 1 xs)) (sym e) ∙ drop-drop lost.0 1 m.device.owed),
    )

pub get-honest : (result : Result (Option ℕ) RigFault) (m n : MemoryData) → IsMemory m
    → GetsInMemory result m n → GetsHonestly result (rig_state m) (rig_state n)
get-honest (Ok None) m n is p =
    let x = with_call (Get None) Nothing m.device (counts_get m) in
    let e =
    quiet (LeftByGet (rig_state m)) (Get None) Nothing m.device x.line_failures x.journal_failures
    x.plan m refl is is.is_device refl (λ d lost. (refl, ⊎_elim (λ l. l) (λ l. l) lost)) in
    rw p.3 (record { honest = e.honest; ok = (p.2, refl); journal = refl; err = tt; time = e.time })
get-honest (Ok (Some byte)) m n is p =
    let rest = p.2.0 in
    let owed = p.2.1 in
    let left : List ℕ → Device = λ xs. record m.device { owed = xs } in
    let dropped : List ℕ → Device = λ xs. record m.device { owed = drop 1 xs } in
    let x = with_call (Get (Some byte)) Taken (left rest) (takes_steps 1 (counts_get m)) in
    let taken : left rest ≡ dropped m.device.owed = ap dropped (sym owed) in
    let e =
    quiet (LeftByGet (rig_state m)) (Get (Some byte)) Taken (left rest) x.line_failures
    x.journal_failures x.plan m taken is (owed-device m.device rest is.is_device) refl
    (λ d lost. (refl, ⊎_elim (λ l. l) (λ l. lost-more m byte rest d owed l) lost)) in
    rw p.2.2 (record { honest = e.honest; ok = ap left owed; journal = refl; err = tt; time = e.time })
get-honest (Err Stopped) m n is p =
    get-idles Stopped m n
    (idles (LeftByGet (rig_state m)) (Get None) _ _ _ m n (λ d lost. (refl, lost)) is p.1)
get-honest (Err Line) m n is p =
    get-idles Line m n
    (idles (LeftByGet (rig_state m)) (Get None) _ _ _ m n (λ d lost. (refl, lost)) is p.1)
get-honest (Err File) m n is p = absurd p
