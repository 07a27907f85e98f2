-- Each call of a Rig in memory stands in its record, as the record of any Rig has it.
use Rattle.std.proofs.Common.{◌≡◌, ◌⊎◌, inl, inr, ⊎_elim, ℕ, ◌<◌, List, [], ◌∷◌, ◌++◌, length, take}
use Rattle.std.proofs.Common.{Option, Some, None, Result, Ok, Err, refl, sym, ◌∙◌, ap, arith}
use Rattle.std.proofs.Common.{take_all}
use Rattle.stm_wire.specs.Call.{Call, Put, Get, Append, Fetch}
use Rattle.stm_wire.specs.declared.fault.RigFault.{RigFault}
use Rattle.stm_wire.specs.declared.fault.RigFault.TheVariants.{Line, File, Stopped}
use Rattle.stm_wire.specs.declared.rig.RigCall.{RigCall}
use Rattle.stm_wire.specs.declared.rig.RigCall.TheVariants.{Put as EnteredPut, Get as EnteredGet}
use Rattle.stm_wire.specs.declared.rig.RigCall.TheVariants.{Append as EnteredAppend}
use Rattle.stm_wire.specs.declared.rig.RigCall.TheVariants.{Fetch as EnteredFetch}
use Rattle.stm_sim.specs.Memory.{MemoryData, rig_state, Fails, PutsInMemory, GetsInMemory}
use Rattle.stm_sim.specs.Memory.{AppendsInMemory, FetchesInMemory, steps_left}
use Rattle.stm_sim.specs.lemmas.Recorded.{appended, calls_told, quiet_call, told_append, told_entry}
use Rattle.stm_wire.specs.Rig.{Records, RecordsAppend, Enters, EntersAppend, entry_of_get}

abbrev record_of : MemoryData → Option (List Call)
record_of m = Some (calls_told m.journal m.calls)

-- the call stands behind those before it
abbrev CallStands : Call → MemoryData → MemoryData → Type 0
CallStands call old new = record_of new ≡ Some (calls_told old.journal old.calls ++ call ∷ [])

-- or there was no room
abbrev StandsOrNot : Call → MemoryData → MemoryData → Type 0
StandsOrNot call old new = CallStands call old new ⊎ ((record_of new ≡ record_of old) × (old.room ≡ 0))

stands : (entry : RigCall) (old mid new : MemoryData) → appended (entry ∷ []) ≡ 0
    → mid.journal ≡ old.journal → mid.calls ≡ old.calls ++ entry ∷ [] → new ≡ mid
    → CallStands (quiet_call entry) old new
stands entry old mid new none journal calls is =
    ap record_of is ∙ ap (λ (j : List ℕ). Some (calls_told j mid.calls)) journal
    ∙ ap (λ (es : List RigCall). Some (calls_told old.journal es)) calls
    ∙ ap (λ (xs : List Call). Some xs) (told_entry old.journal old.calls entry none)

fails : (entry : RigCall) (old new : MemoryData) → appended (entry ∷ []) ≡ 0
    → Fails entry old new → StandsOrNot (quiet_call entry) old new
fails entry old new none is =
    ⊎_elim (λ e. inl (stands entry old _ new none refl refl e))
    (λ e. inr (ap record_of e.0, e.1)) is

-- where there is room
stays : (call : Call) (old new : MemoryData) → StandsOrNot call old new → 0 < old.room
    → CallStands call old new
stays call old new is room = ⊎_elim (λ e. e) (λ e. absurd (omega (arith, room, e.1))) is

either : (call : Call) (old new : MemoryData) → StandsOrNot call old new
    → CallStands call old new ⊎ (record_of new ≡ record_of old)
either call old new is = ⊎_elim (λ e. inl e) (λ e. inr e.0) is

put-stands : (byte : ℕ) (fault : RigFault) (old new : MemoryData)
    → PutsInMemory byte (Err fault) old new → StandsOrNot (Put byte) old new
put-stands byte Line old new is = fails (EnteredPut byte) _ new refl is.1
put-stands byte Stopped old new is = fails (EnteredPut byte) _ new refl is.1
put-stands byte File old new is = absurd is

pub put_recorded : (byte : ℕ) (result : Result (Unit {0}) RigFault) (old new : MemoryData)
    → PutsInMemory byte result old new → Records (Put byte) result (record_of old) (record_of new)
put_recorded byte (Ok u) old new is = stands (EnteredPut byte) old _ new refl refl refl is.2
put_recorded byte (Err fault) old new is =
    either (Put byte) old new (put-stands byte fault old new is)

pub put_entered : (byte : ℕ) (result : Result (Unit {0}) RigFault) (old new : MemoryData)
    → PutsInMemory byte result old new → Enters (Put byte) (rig_state old) (rig_state new)
put_entered byte (Ok u) old new is room = stands (EnteredPut byte) old _ new refl refl refl is.2
put_entered byte (Err fault) old new is room =
    stays (Put byte) old new (put-stands byte fault old new is) room

get-stands : (fault : RigFault) (old new : MemoryData)
    → GetsInMemory (Err fault) old new → StandsOrNot (Get None) old new
get-stands Line old new is = fails (EnteredGet None) _ new refl is.1
get-stands Stopped old new is = fails (EnteredGet None) _ new refl is.1
get-stands File old new is = absurd is

got-stands : (answer : Option ℕ) (old new : MemoryData)
    → GetsInMemory (Ok answer) old new → CallStands (Get answer) old new
got-stands None old new is = stands (EnteredGet None) old _ new refl refl refl is.3
got-stands (Some byte) old new is =
    stands (EnteredGet (Some byte)) old _ new refl refl refl is.2.2

pub get_recorded : (result : Result (Option ℕ) RigFault) (old new : MemoryData)
    → GetsInMemory result old new
    → Records (entry_of_get result) result (record_of old) (record_of new)
get_recorded (Ok answer) old new is = got-stands answer old new is
get_recorded (Err fault) old new is = either (Get None) old new (get-stands fault old new is)

pub get_entered : (result : Result (Option ℕ) RigFault) (old new : MemoryData)
    → GetsInMemory result old new → Enters (entry_of_get result) (rig_state old) (rig_state new)
get_entered (Ok answer) old new is room = got-stands answer old new is
get_entered (Err fault) old new is room =
    stays (Get None) old new (get-stands fault old new is) room

appends : (bytes : List ℕ) (old mid new : MemoryData) → mid.journal ≡ old.journal ++ bytes
    → mid.calls ≡ old.calls ++ EnteredAppend (length bytes) ∷ [] → new ≡ mid
    → CallStands (Append bytes) old new
appends bytes old mid new journal calls is =
    ap record_of is ∙ ap (λ (j : List ℕ). Some (calls_told j mid.calls)) journal
    ∙ ap (λ (es : List RigCall). Some (calls_told (old.journal ++ bytes) es)) calls
    ∙ ap (λ (xs : List Call). Some xs) (told_append old.journal bytes old.calls)

-- of an append that failed a beginning of its bytes
abbrev StandsInPart : List ℕ → MemoryData → MemoryData → Type 0
StandsInPart bytes old new = (n : ℕ) × StandsOrNot (Append (take n bytes)) old new

append-stands : (bytes : List ℕ) (fault : RigFault) (old new : MemoryData)
    → AppendsInMemory bytes (Err fault) old new → StandsInPart bytes old new
append-stands bytes Stopped old new is =
    let some = steps_left old.plan.stop in
    ⊎_elim (λ e. (some, inl (appends (take some bytes) old _ new refl refl e)))
    (λ e. (0, fails (EnteredAppend 0) _ new refl e)) is.1
append-stands bytes File old new is = (0, fails (EnteredAppend 0) _ new refl is.1)
append-stands bytes Line old new is = absurd is

pub append_recorded : (bytes : List ℕ) (result : Result (Unit {0}) RigFault)
    (old new : MemoryData) → AppendsInMemory bytes result old new
    → RecordsAppend bytes result (record_of old) (record_of new)
append_recorded bytes (Ok u) old new is = appends bytes old _ new refl refl is.2
append_recorded bytes (Err fault) old new is =
    let part = append-stands bytes fault old new is in
    ⊎_elim (λ e. inl (part.0, e)) (λ e. inr e)
    (either (Append (take part.0 bytes)) old new part.1)

pub append_entered : (bytes : List ℕ) (result : Result (Unit {0}) RigFault)
    (old new : MemoryData) → AppendsInMemory bytes result old new
    → EntersAppend bytes (rig_state old) (rig_state new)
append_entered bytes (Ok u) old new is room =
    let whole = take_all (length bytes) bytes (omega arith) in (
      length bytes,
      appends bytes old _ new refl refl is.2
          ∙ ap (λ (xs : List ℕ). Some (calls_told old.journal old.calls ++ Append xs ∷ []))
          (sym whole),
    )
append_entered bytes (Err fault) old new is room =
    let part = append-stands bytes fault old new is in
    (part.0, stays (Append (take part.0 bytes)) old new part.1 room)

fetch-stands : (at : ℕ) (before after : List ℕ) (fault : RigFault) (old new : MemoryData)
    → FetchesInMemory at before after (Err fault) old new → StandsOrNot Fetch old new
fetch-stands at before after Stopped old new is = fails EnteredFetch _ new refl is.1
fetch-stands at before after File old new is = fails EnteredFetch _ new refl is.1
fetch-stands at before after Line old new is = absurd is

pub fetch_recorded : (at : ℕ) (before after : List ℕ) (result : Result ℕ RigFault)
    (old new : MemoryData) → FetchesInMemory at before after result old new
    → Records Fetch result (record_of old) (record_of new)
fetch_recorded at before after (Ok n) old new is =
    stands EnteredFetch old _ new refl refl refl is.3
fetch_recorded at before after (Err fault) old new is =
    either Fetch old new (fetch-stands at before after fault old new is)

pub fetch_entered : (at : ℕ) (before after : List ℕ) (result : Result ℕ RigFault)
    (old new : MemoryData) → FetchesInMemory at before after result old new
    → Enters Fetch (rig_state old) (rig_state new)
fetch_entered at before after (Ok n) old new is room =
    stands EnteredFetch old _ new refl refl refl is.3
fetch_entered at before after (Err fault) old new is room =
    stays Fetch old new (fetch-stands at before after fault old new is) room
