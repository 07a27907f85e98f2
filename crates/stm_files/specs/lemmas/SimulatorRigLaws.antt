-- A simulated device with a journal in a file follows the model, as the Rig in memory beneath it
-- does: but for the count of journal failures it tells what that tells.
use Rattle.std.proofs.Common.{◌≡◌, ◌⊎◌, inl, inr, ℕ, List, [], ◌∷◌, ◌++◌, length, take}
use Rattle.std.proofs.Common.{Option, Some, None, Result, Ok, Err, refl, sym, ◌∙◌, ap, subst, arith}
use Rattle.std.proofs.Common.{append-nil, take_all}
use Rattle.stm_wire.specs.Call.{Call, Append}
use Rattle.stm_wire.specs.declared.fault.RigFault.{RigFault}
use Rattle.stm_wire.specs.Device.{Device}
use Rattle.stm_wire.specs.Rig.{RigState, IsModel, Elapses, LeftByPut, LeftByGet, LeftByAppend}
use Rattle.stm_wire.specs.Rig.{PutsHonestly, GetsHonestly, AppendsHonestly, FetchesHonestly}
use Rattle.stm_wire.specs.Rig.{RecordsAppend}
use Rattle.stm_sim.specs.Memory.{MemoryData, IsMemory, rig_state}
use Rattle.stm_sim.specs.lemmas.HonestLine.{still}
use Rattle.stm_sim.specs.lemmas.Past.{model}
use Rattle.stm_files.specs.SimulatorRig.{SimulatorState, simulator_rig_state}

-- what a Rig tells, with another count of journal failures and no room in its record
abbrev pub counted : ℕ → RigState → RigState
counted count rig = record rig { journal_failures = count; has_room = ⊥ }

pub follows : (s : SimulatorState) → IsMemory s.memory → IsModel (simulator_rig_state s)
follows s is =
    let m = model s.memory is in
    record {
      device = m.device;
      journal = m.journal;
      counts_now = m.counts_now;
      only_now = m.only_now;
    }

-- no call reads the count
elapses : (P : Device → List ℕ → Type 0) (before after : ℕ) (old new : RigState)
    → Elapses P old new → Elapses P (counted before old) (counted after new)
elapses P before after old new time =
    record { later = time.later; nothing_else = time.nothing_else; keeps = time.keeps }

pub puts : (byte : ℕ) (result : Result (Unit {0}) RigFault) (before after : ℕ) (old new : RigState)
    → PutsHonestly byte result old new
    → PutsHonestly byte result (counted before old) (counted after new)
puts byte result before after old new p =
    record {
      honest = p.honest;
      ok = p.ok;
      err = p.err;
      time = elapses (LeftByPut byte old) before after old new p.time;
    }

pub gets : (result : Result (Option ℕ) RigFault) (before after : ℕ) (old new : RigState)
    → GetsHonestly result old new → GetsHonestly result (counted before old) (counted after new)
gets result before after old new g =
    record {
      honest = g.honest;
      ok = g.ok;
      journal = g.journal;
      err = g.err;
      time = elapses (LeftByGet old) before after old new g.time;
    }

pub appends : (bytes : List ℕ) (result : Result (Unit {0}) RigFault) (before after : ℕ)
    (old new : RigState)
    → AppendsHonestly bytes result old new
    → AppendsHonestly bytes result (counted before old) (counted after new)
appends bytes result before after old new a =
    record {
      honest = a.honest;
      ok = a.ok;
      err = a.err;
      time = elapses (LeftByAppend bytes old) before after old new a.time;
      beginnings = a.beginnings;
    }

left : (bytes : List ℕ) (answer : Result (Unit {0}) RigFault) (old new : RigState)
    → AppendsHonestly bytes answer old new
    → LeftByAppend bytes old new.device new.journal
left bytes (Ok done) old new a = (
  (
    length bytes,
    a.ok.1 ∙ ap (λ added. old.journal ++ added)
        (sym (take_all (length bytes) bytes (omega arith))),
  ),
  (0, a.ok.0),
)
left bytes (Err fault) old new a = a.err

-- An append that memory took, and the file refused: all its bytes are a beginning of them.
pub refused : (bytes : List ℕ) (answer : Result (Unit {0}) RigFault) (fault : RigFault)
    (before after : ℕ) (old new : RigState)
    → AppendsHonestly bytes answer old new
    → AppendsHonestly {T = Unit {0}} bytes (Err fault) (counted before old) (counted after new)
refused bytes answer fault before after old new a =
    record {
      honest = a.honest;
      ok = tt;
      err = left bytes answer old new a;
      time = elapses (LeftByAppend bytes old) before after old new a.time;
      beginnings = a.beginnings;
    }

pub fetches : (at : ℕ) (buf after_buf : List ℕ) (result : Result ℕ RigFault) (before after : ℕ)
    (old new : RigState)
    → FetchesHonestly at buf after_buf result old new
    → FetchesHonestly at buf after_buf result (counted before old) (counted after new)
fetches at buf after_buf result before after old new f =
    record {
      honest = f.honest;
      ok = f.ok;
      bytes = f.bytes;
      more = f.more;
      err = f.err;
      time = elapses (LeftByGet old) before after old new f.time;
    }

-- an append that is refused at once
pub appends_nothing : (bytes : List ℕ) (fault : RigFault) (before after : ℕ)
    (m : MemoryData) → IsMemory m
    → AppendsHonestly {T = Unit {0}} bytes (Err fault) (counted before (rig_state m))
    (counted after (rig_state m))
appends_nothing bytes fault before after m is =
    let rig = rig_state m in
    record {
      honest = is;
      ok = tt;
      err = ((0, sym (append-nil m.journal)), (0, refl));
      time =
          elapses (LeftByAppend bytes rig) before after rig rig
          (still (LeftByAppend bytes rig) rig);
      beginnings = λ t n d le above lost.
          rw (take_all n m.journal above) ((model m is).counts_now t d le lost);
    }

-- the same, of an append that is refused once the file failed
pub refused_at_once : (bytes : List ℕ) (result : Result (Unit {0}) RigFault) (fault : RigFault)
    (old new : SimulatorState)
    → result ≡ Err fault → new.memory ≡ old.memory → IsMemory old.memory
    → AppendsHonestly bytes result (simulator_rig_state old) (simulator_rig_state new)
refused_at_once bytes result fault old new is_fault same is =
    let before = old.journal_failures in
    let after = new.journal_failures in
    rw is_fault (rw same (appends_nothing bytes fault before after old.memory is))

-- the same, of an append that goes to memory first and then to the file
pub appended : (bytes : List ℕ) (answer result : Result (Unit {0}) RigFault) (fault : RigFault)
    (old new : SimulatorState) (memory : MemoryData)
    → new.memory ≡ memory → (result ≡ answer) ⊎ (result ≡ Err fault)
    → AppendsHonestly bytes answer (rig_state old.memory) (rig_state memory)
    → AppendsHonestly bytes result (simulator_rig_state old) (simulator_rig_state new)
appended bytes answer result fault old new memory same is a =
    let before = old.journal_failures in
    let after = new.journal_failures in
    let R : Result (Unit {0}) RigFault → Type 0 =
    λ r. AppendsHonestly bytes r (simulator_rig_state old) (counted after (rig_state memory)) in
    rw same (elim is [
      | inl e ↦ subst R (sym e)
          (appends bytes answer before after (rig_state old.memory) (rig_state memory) a)
      | inr e ↦ subst R (sym e)
          (refused bytes answer fault before after (rig_state old.memory) (rig_state memory) a)
    ])

-- An append stands in the record as the memory's does. Where the memory took it, and the file
-- refused it, all its bytes are a beginning of them.
record-refused : (bytes : List ℕ) (answer : Result (Unit {0}) RigFault) (fault : RigFault)
    (past now : Option (List Call))
    → RecordsAppend bytes answer past now → RecordsAppend {T = Unit {0}} bytes (Err fault) past now
record-refused bytes answer fault None now is = is
record-refused bytes (Ok done) fault (Some past) now is =
    let whole : take (length bytes) bytes ≡ bytes = take_all (length bytes) bytes (omega arith) in
    inl (length bytes, is ∙ ap (λ (xs : List ℕ). Some (past ++ Append xs ∷ [])) (sym whole))
record-refused bytes (Err e) fault (Some past) now is = is

pub append_recorded : (bytes : List ℕ) (answer result : Result (Unit {0}) RigFault)
    (fault : RigFault) (old new : SimulatorState) (memory : MemoryData)
    → new.memory ≡ memory → (result ≡ answer) ⊎ (result ≡ Err fault)
    → RecordsAppend bytes answer (rig_state old.memory).calls (rig_state memory).calls
    → RecordsAppend bytes result (simulator_rig_state old).calls (simulator_rig_state new).calls
append_recorded bytes answer result fault old new memory same is r =
    let past = (rig_state old.memory).calls in
    let R : Result (Unit {0}) RigFault → Type 0 =
    λ x. RecordsAppend bytes x past (rig_state memory).calls in
    rw same (elim is [
      | inl e ↦ subst R (sym e) r
      | inr e ↦ subst R (sym e) (record-refused bytes answer fault past (rig_state memory).calls r)
    ])

-- the same, of a fetch that goes to memory
pub fetched : (at : ℕ) (buf after_buf : List ℕ) (answer result : Result ℕ RigFault)
    (old new : SimulatorState) (memory : MemoryData)
    → new.memory ≡ memory → result ≡ answer
    → FetchesHonestly at buf after_buf answer (rig_state old.memory) (rig_state memory)
    → FetchesHonestly at buf after_buf result (simulator_rig_state old) (simulator_rig_state new)
fetched at buf after_buf answer result old new memory same is f =
    let before = old.journal_failures in
    let after = new.journal_failures in
    rw same (rw is
    (fetches at buf after_buf answer before after (rig_state old.memory) (rig_state memory) f))
