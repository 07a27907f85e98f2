-- A Rig in memory follows the model: what its calls do is what an honest Rig's calls do.
use Rattle.std.proofs.Common.{◌≡◌, ⊎_elim, ℕ, ◌+◌, ◌-◌, ◌^◌, ◌≤◌, List}
use Rattle.std.proofs.Common.{◌++◌, length, take, drop, Result, Ok, Err, refl, sym}
use Rattle.std.proofs.Common.{◌∙◌, ap, arith, length-take, length-drop, append-nil, take_all}
use Rattle.std.proofs.Math.Seq.{take-append-add}
use Rattle.std.proofs.lemmas.List.{take-append-le, take-take}
use Rattle.stm_wire.specs.declared.fault.RigFault.{RigFault}
use Rattle.stm_wire.specs.declared.fault.RigFault.TheVariants.{Line, File, Stopped}
use Rattle.stm_sim.specs.declared.past.PastStep.TheVariants.{Added, Nothing}
use Rattle.stm_sim.specs.declared.plan.Plan.{Plan}
use Rattle.stm_wire.specs.declared.rig.RigCall.TheVariants.{Append, Fetch}
use Rattle.stm_wire.specs.Device.{Device, LosesOwed}
use Rattle.stm_sim.specs.lemmas.SimulatedDevice.{le-or-gt}
use Rattle.stm_wire.specs.Rig.{AppendsHonestly, FetchesHonestly, LeftByGet, LeftByAppend}
use Rattle.stm_sim.specs.Memory.{MemoryData, IsMemory, rig_state, with_call, with_append}
use Rattle.stm_sim.specs.Memory.{AppendsInMemory, FetchesInMemory, StaysWithin, takes_steps}
use Rattle.stm_sim.specs.Memory.{counts_append, counts_journal, stopped, steps_left}
use Rattle.stm_sim.specs.lemmas.HonestLine.{Entered, entered, Idles, idles, idles-entry}
pub use Rattle.stm_sim.specs.lemmas.HonestLine.{put-honest, get-honest}

-- a beginning of a beginning
pub take-of-take : (j k : ℕ) (xs : List ℕ) → (n : ℕ) × (take j (take k xs) ≡ take n xs)
take-of-take j k xs =
    ⊎_elim (λ h. (j, take-take j k xs h))
    (λ h. (k, take_all j (take k xs) (omega (arith, h, length-take k xs)))) (le-or-gt j k)

-- a beginning of a journal that is longer than it was
pub beginning : (size : ℕ) (journal bytes : List ℕ) → length journal ≤ size
    → take size (journal ++ bytes) ≡ journal ++ take (size - length journal) bytes
beginning size journal bytes h =
    let split : size ≡ length journal + (size - length journal) = omega (arith, h) in
    ap (λ k. take k (journal ++ bytes)) split
    ∙ take-append-add journal bytes (size - length journal)

-- an append that added a beginning of the bytes
adds : (bytes added : List ℕ) (lines journals : ℕ) (plan : Plan) (m : MemoryData)
    → ((j : ℕ) → (k : ℕ) × (take j added ≡ take k bytes)) → IsMemory m
    → length (m.journal ++ added) ≤ 2 ^ 63 - 1
    → Entered (LeftByAppend bytes (rig_state m)) m
    (with_append added
    (record m { line_failures = lines; journal_failures = journals; plan = plan }))
adds bytes added lines journals plan m part is limit =
    entered (LeftByAppend bytes (rig_state m)) (Append (length added)) (Added (length added)) added
    m.device (m.journal ++ added) lines journals plan m refl refl is is.is_device (omega arith) limit
    (λ d size lost above below.
    let some = part (size - length m.journal) in (
      (some.0, beginning size m.journal added above ∙ ap (λ xs. m.journal ++ xs) some.1),
      ⊎_elim (λ l. l) (λ l. l) lost,
    ))

append-idles : (bytes : List ℕ) (fault : RigFault) (m n : MemoryData)
    → Idles (LeftByAppend bytes (rig_state m)) m n
    → AppendsHonestly {T = Unit {0}} bytes (Err fault) (rig_state m) (rig_state n)
append-idles bytes fault m n i =
    record {
      honest = i.honest;
      ok = tt;
      err = ((0, i.journal ∙ sym (append-nil m.journal)), (0, i.device));
      time = i.time;
      beginnings = i.begins;
    }

pub append-honest : (bytes : List ℕ) (result : Result (Unit {0}) RigFault) (m n : MemoryData)
    → StaysWithin result n.journal → IsMemory m → AppendsInMemory bytes result m n
    → AppendsHonestly bytes result (rig_state m) (rig_state n)
append-honest bytes (Ok u) m n limit is p =
    let k : MemoryData = takes_steps (length bytes) (counts_append m) in
    let a =
    adds bytes bytes m.line_failures m.journal_failures k.plan m (λ j. (j, refl)) is
    (rw p.2 at limit) in
    rw p.2 (record {
      honest = a.honest;
      ok = (refl, refl);
      err = tt;
      time = a.time;
      beginnings = a.begins;
    })
append-honest bytes (Err Stopped) m n limit is p =
    let some = steps_left m.plan.stop in
    let nothing : (d : Device) → LosesOwed m.device d
    → LeftByAppend bytes (rig_state m) d m.journal =
    λ d lost. ((0, sym (append-nil m.journal)), lost) in
    ⊎_elim
    (λ e.
    let k : MemoryData = counts_journal (stopped m) in
    let a =
    adds bytes (take some bytes) k.line_failures k.journal_failures k.plan m
    (λ j. take-of-take j some bytes) is (rw e at (limit refl)) in
    rw e (record {
      honest = a.honest;
      ok = tt;
      err = ((some, refl), (0, refl));
      time = a.time;
      beginnings = a.begins;
    }))
    (λ e.
    append-idles bytes Stopped m n
    (idles (LeftByAppend bytes (rig_state m)) (Append 0) _ _ _ m n nothing is e))
    p.1
append-honest bytes (Err File) m n limit is p =
    append-idles bytes File m n
    (idles (LeftByAppend bytes (rig_state m)) (Append 0) _ _ _ m n
    (λ d lost. ((0, sym (append-nil m.journal)), lost)) is p.1)
append-honest bytes (Err Line) m n limit is p = absurd p

fetch-idles : (at : ℕ) (before after : List ℕ) (fault : RigFault) (m n : MemoryData)
    → Idles (LeftByGet (rig_state m)) m n
    → FetchesHonestly at before after (Err fault) (rig_state m) (rig_state n)
fetch-idles at before after fault m n i =
    record {
      honest = i.honest;
      ok = tt;
      bytes = tt;
      more = tt;
      err = (i.journal, (0, i.device));
      time = i.time;
    }

-- the part that was copied
copied : (n at : ℕ) (journal before after : List ℕ) → n ≤ length journal - at
    → after ≡ take n (drop at journal) ++ drop n before → take n after ≡ take n (drop at journal)
copied n at journal before after le e =
    let part = take n (drop at journal) in
    let size : length part ≡ n = simp (length-take, length-drop) (omega (arith, le)) in
    ap (λ xs. take n xs) e ∙ take-append-le n part (drop n before) (omega (arith, size))
    ∙ take_all n part (omega (arith, size))

pub fetch-honest : (at : ℕ) (before after : List ℕ) (result : Result ℕ RigFault) (m n : MemoryData)
    → IsMemory m → FetchesInMemory at before after result m n
    → FetchesHonestly at before after result (rig_state m) (rig_state n)
fetch-honest at before after (Ok size) m n is p =
    let x = with_call Fetch Nothing m.device m in
    let i =
    idles-entry (LeftByGet (rig_state m)) Fetch m.line_failures m.journal_failures m.plan m
    (λ d lost. (refl, lost)) is in
    let within : size ≤ length m.journal - at = omega (arith, p.1) in
    rw p.3 (record {
      honest = i.honest;
      ok = (refl, refl);
      bytes = copied size at m.journal before after within p.2;
      more = λ none inside. omega (arith, none, inside, p.1);
      err = tt;
      time = i.time;
    })
fetch-honest at before after (Err Stopped) m n is p =
    fetch-idles at before after Stopped m n
    (idles (LeftByGet (rig_state m)) Fetch _ _ _ m n (λ d lost. (refl, lost)) is p.1)
fetch-honest at before after (Err File) m n is p =
    fetch-idles at before after File m n
    (idles (LeftByGet (rig_state m)) Fetch _ _ _ m n (λ d lost. (refl, lost)) is p.1)
fetch-honest at before after (Err Line) m n is p = absurd p
