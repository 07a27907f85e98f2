-- Each call of a bad line stands in its record, as the record of any Rig has it.
use Rattle.std.proofs.Common.{◌≡◌, inl, inr, ⊎_elim, ℕ, ◌-◌, List, [], ◌∷◌, ◌++◌, length, take}
use Rattle.std.proofs.Common.{Option, Some, None, Result, Ok, Err, refl, sym, ◌∙◌, ap, ap₂, arith}
use Rattle.std.proofs.Common.{append-nil, length-append}
use Rattle.stm_sim.specs.BadLines.{ListData, ListsLineCall, ListsAppend}
use Rattle.stm_sim.specs.BadLines.{GetsFromList, FetchesNothing, GoesUnlisted, FlipData, PutsOn}
use Rattle.stm_sim.specs.BadLines.{GetsOn, AppendsOn, FetchesOn}
use Rattle.stm_wire.specs.Call.{Call, Put, Append, Fetch}
use Rattle.stm_wire.specs.declared.fault.RigFault.{RigFault}
use Rattle.stm_wire.specs.declared.fault.RigFault.TheVariants.{Line, File, Stopped}
use Rattle.stm_wire.specs.declared.rig.RigCall.{RigCall}
use Rattle.stm_wire.specs.declared.rig.RigCall.TheVariants.{Put as EnteredPut, Get as EnteredGet}
use Rattle.stm_wire.specs.declared.rig.RigCall.TheVariants.{Append as EnteredAppend}
use Rattle.stm_wire.specs.declared.rig.RigCall.TheVariants.{Fetch as EnteredFetch}
use Rattle.stm_sim.specs.Memory.{MemoryData, PutsInMemory, GetsInMemory, AppendsInMemory}
use Rattle.stm_sim.specs.Memory.{FetchesInMemory, Fails, steps_left}
use Rattle.stm_sim.specs.lemmas.Recorded.{appended, calls_told, quiet_call, told_append, told_entry}
use Rattle.stm_wire.specs.Rig.{Records, RecordsAppend, entry_of_get}

-- A line that answers from a list:

abbrev list_told : ListData → Option (List Call)
list_told d = Some (calls_told d.written d.calls)

abbrev ListStands : Call → ListData → ListData → Type 0
ListStands call old new = list_told new ≡ Some (calls_told old.written old.calls ++ call ∷ [])

list-stands : (entry : RigCall) (old mid new : ListData) → appended (entry ∷ []) ≡ 0
    → mid.written ≡ old.written → mid.calls ≡ old.calls ++ entry ∷ [] → new ≡ mid
    → ListStands (quiet_call entry) old new
list-stands entry old mid new none written calls is =
    ap list_told is ∙ ap₂ (λ (j : List ℕ) (es : List RigCall). Some (calls_told j es)) written calls
    ∙ ap (λ (xs : List Call). Some xs) (told_entry old.written old.calls entry none)

unlisted : (fault : RigFault) (old new : ListData) → GoesUnlisted fault old new
    → list_told new ≡ list_told old
unlisted Line old new is = ap list_told is
unlisted File old new is = ap list_told is
unlisted Stopped old new is = absurd is

pub list_line_recorded : (entry : RigCall) (result : Result (Unit {0}) RigFault)
    (old new : ListData) → appended (entry ∷ []) ≡ 0 → ListsLineCall entry result old new
    → Records (quiet_call entry) result (list_told old) (list_told new)
list_line_recorded entry (Ok u) old new none is = list-stands entry old _ new none refl refl is
list_line_recorded entry (Err fault) old new none is = inr (unlisted fault old new is.1)

pub list_get_recorded : (result : Result (Option ℕ) RigFault) (old new : ListData)
    → GetsFromList result old new
    → Records (entry_of_get result) result (list_told old) (list_told new)
list_get_recorded (Ok answer) old new is =
    list-stands (EnteredGet answer) old _ new refl refl refl is.1
list_get_recorded (Err fault) old new is = inr (unlisted fault old new is.1)

pub list_append_recorded : (bytes : List ℕ) (result : Result (Unit {0}) RigFault)
    (old new : ListData) → ListsAppend bytes result old new
    → RecordsAppend bytes result (list_told old) (list_told new)
list_append_recorded bytes (Ok u) old new is =
    ap list_told is ∙ ap (λ (xs : List Call). Some xs) (told_append old.written bytes old.calls)
list_append_recorded bytes (Err fault) old new is = inr (unlisted fault old new is.1)

pub list_fetch_recorded : (before after : List ℕ) (result : Result ℕ RigFault)
    (old new : ListData) → FetchesNothing before after result old new
    → Records Fetch result (list_told old) (list_told new)
list_fetch_recorded before after (Ok n) old new is =
    list-stands EnteredFetch old _ new refl refl refl is.2
list_fetch_recorded before after (Err fault) old new is = inr (unlisted fault old new is.2)

-- A line that complements a byte:

abbrev flip_told : FlipData → Option (List Call)
flip_told d = Some (calls_told d.inner.journal d.calls)

abbrev FlipStands : Call → FlipData → FlipData → Type 0
FlipStands call old new = flip_told new ≡ Some (calls_told old.inner.journal old.calls ++ call ∷ [])

flip-stands : (entry : RigCall) (old mid new : FlipData) → appended (entry ∷ []) ≡ 0
    → mid.inner.journal ≡ old.inner.journal → mid.calls ≡ old.calls ++ entry ∷ [] → new ≡ mid
    → FlipStands (quiet_call entry) old new
flip-stands entry old mid new none journal calls is =
    ap flip_told is ∙ ap₂ (λ (j : List ℕ) (es : List RigCall). Some (calls_told j es)) journal calls
    ∙ ap (λ (xs : List Call). Some xs) (told_entry old.inner.journal old.calls entry none)

-- what the calls of the inner Rig add to its journal

abbrev journal_of_memory : MemoryData → List ℕ
journal_of_memory m = m.journal

failed-same : (entry : RigCall) (mid new : MemoryData)
    → Fails entry mid new → new.journal ≡ mid.journal
failed-same entry mid new is =
    ⊎_elim (λ e. ap journal_of_memory e) (λ e. ap journal_of_memory e.0) is

put-same : (byte : ℕ) (result : Result (Unit {0}) RigFault) (old new : MemoryData)
    → PutsInMemory byte result old new → new.journal ≡ old.journal
put-same byte (Ok u) old new is = ap journal_of_memory is.2
put-same byte (Err Line) old new is = failed-same (EnteredPut byte) _ new is.1
put-same byte (Err Stopped) old new is = failed-same (EnteredPut byte) _ new is.1
put-same byte (Err File) old new is = absurd is

get-same : (result : Result (Option ℕ) RigFault) (old new : MemoryData)
    → GetsInMemory result old new → new.journal ≡ old.journal
get-same (Ok None) old new is = ap journal_of_memory is.3
get-same (Ok (Some byte)) old new is = ap journal_of_memory is.2.2
get-same (Err Line) old new is = failed-same (EnteredGet None) _ new is.1
get-same (Err Stopped) old new is = failed-same (EnteredGet None) _ new is.1
get-same (Err File) old new is = absurd is

fetch-same : (at : ℕ) (before after : List ℕ) (result : Result ℕ RigFault) (old new : MemoryData)
    → FetchesInMemory at before after result old new → new.journal ≡ old.journal
fetch-same at before after (Ok n) old new is = ap journal_of_memory is.3
fetch-same at before after (Err Stopped) old new is = failed-same EnteredFetch _ new is.1
fetch-same at before after (Err File) old new is = failed-same EnteredFetch _ new is.1
fetch-same at before after (Err Line) old new is = absurd is

append-part : (bytes : List ℕ) (fault : RigFault) (old new : MemoryData)
    → AppendsInMemory bytes (Err fault) old new
    → (n : ℕ) × (new.journal ≡ old.journal ++ take n bytes)
append-part bytes Stopped old new is =
    ⊎_elim (λ e. (steps_left old.plan.stop, ap journal_of_memory e))
    (λ e. (0, failed-same (EnteredAppend 0) _ new e ∙ sym (append-nil old.journal))) is.1
append-part bytes File old new is =
    (0, failed-same (EnteredAppend 0) _ new is.1 ∙ sym (append-nil old.journal))
append-part bytes Line old new is = absurd is

pub flip_put_recorded : (byte : ℕ) (result : Result (Unit {0}) RigFault) (old new : FlipData)
    → PutsOn byte result old new → Records (Put byte) result (flip_told old) (flip_told new)
flip_put_recorded byte (Ok u) old new is =
    flip-stands (EnteredPut byte) old _ new refl (put-same byte (Ok u) old.inner new.inner is.0)
    refl is.1
flip_put_recorded byte (Err fault) old new is =
    ⊎_elim
    (λ e.
    inl
    (flip-stands (EnteredPut byte) old _ new refl
    (put-same byte (Err fault) old.inner new.inner e.0) refl e.1))
    (λ e. inr (ap flip_told e.1)) is

pub flip_get_recorded : (result : Result (Option ℕ) RigFault) (old new : FlipData)
    → GetsOn result old new
    → Records (entry_of_get result) result (flip_told old) (flip_told new)
flip_get_recorded (Ok given) old new is =
    flip-stands (EnteredGet given) old _ new refl (get-same (Ok is.0) old.inner new.inner is.1)
    refl is.3
flip_get_recorded (Err fault) old new is =
    ⊎_elim
    (λ e.
    inl
    (flip-stands (EnteredGet None) old _ new refl
    (get-same (Err fault) old.inner new.inner e.0) refl e.1))
    (λ e. inr (ap flip_told e.1)) is

flip-appends : (bytes : List ℕ) (size : ℕ) (old mid new : FlipData)
    → mid.inner.journal ≡ old.inner.journal ++ bytes → size ≡ length bytes
    → mid.calls ≡ old.calls ++ EnteredAppend size ∷ [] → new ≡ mid
    → FlipStands (Append bytes) old new
flip-appends bytes size old mid new journal is_size calls is =
    let entries : mid.calls ≡ old.calls ++ EnteredAppend (length bytes) ∷ [] =
    calls ∙ ap (λ n. old.calls ++ EnteredAppend n ∷ []) is_size in
    ap flip_told is
    ∙ ap₂ (λ (j : List ℕ) (es : List RigCall). Some (calls_told j es)) journal entries
    ∙ ap (λ (xs : List Call). Some xs) (told_append old.inner.journal bytes old.calls)

pub flip_append_recorded : (bytes : List ℕ) (result : Result (Unit {0}) RigFault)
    (old new : FlipData) → AppendsOn bytes result old new
    → RecordsAppend bytes result (flip_told old) (flip_told new)
flip_append_recorded bytes (Ok u) old new is =
    flip-appends bytes (length bytes) old _ new (ap journal_of_memory is.0.2) refl refl is.1
flip_append_recorded bytes (Err fault) old new is =
    ⊎_elim
    (λ e.
    let part = append-part bytes fault old.inner new.inner e.0 in
    let size : length new.inner.journal - length old.inner.journal ≡ length (take part.0 bytes) =
    omega (arith, ap length part.1, length-append old.inner.journal (take part.0 bytes)) in
    inl (part.0, flip-appends (take part.0 bytes) _ old _ new part.1 size refl e.1))
    (λ e. inr (ap flip_told e.1)) is

pub flip_fetch_recorded : (at : ℕ) (before after : List ℕ) (result : Result ℕ RigFault)
    (old new : FlipData) → FetchesOn at before after result old new
    → Records Fetch result (flip_told old) (flip_told new)
flip_fetch_recorded at before after (Ok n) old new is =
    flip-stands EnteredFetch old _ new refl
    (fetch-same at before after (Ok n) old.inner new.inner is.0) refl is.1
flip_fetch_recorded at before after (Err fault) old new is =
    ⊎_elim
    (λ e.
    inl
    (flip-stands EnteredFetch old _ new refl
    (fetch-same at before after (Err fault) old.inner new.inner e.0) refl e.1))
    (λ e. inr (ap flip_told e.2)) is
