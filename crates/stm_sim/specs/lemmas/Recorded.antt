-- The calls that a record in memory tells. It keeps of an append how many bytes it added: these
-- stand in the journal, to which nothing else was added since, but for later appends.
use Rattle.std.proofs.Common.{◌≡◌, ℕ, suc, ◌+◌, ◌-◌, List, [], ◌∷◌, ◌++◌, length, take, drop, refl}
use Rattle.std.proofs.Common.{sym, ◌∙◌, ap, ap₂, arith, length-append, append-nil, take_all}
use Rattle.std.proofs.Math.Seq.{drop-append_seam}
use Rattle.std.proofs.lemmas.List.{take-append-le, drop_all}
use Rattle.stm_wire.specs.Call.{Call, Put, Get, Append, Fetch}
use Rattle.stm_wire.specs.declared.rig.RigCall.{RigCall}
use Rattle.stm_wire.specs.declared.rig.RigCall.TheVariants.{Put as EnteredPut, Get as EnteredGet}
use Rattle.stm_wire.specs.declared.rig.RigCall.TheVariants.{Append as EnteredAppend}
use Rattle.stm_wire.specs.declared.rig.RigCall.TheVariants.{Fetch as EnteredFetch}

-- how many bytes these calls added
abbrev pub appended : List RigCall → ℕ
appended [] = 0
appended (EnteredPut byte ∷ entries) = appended entries
appended (EnteredGet answer ∷ entries) = appended entries
appended (EnteredAppend n ∷ entries) = n + appended entries
appended (EnteredFetch ∷ entries) = appended entries

-- so many bytes of the journal, before so many that were added later
abbrev pub bytes_before : ℕ → ℕ → List ℕ → List ℕ
bytes_before later n journal =
    drop (length journal - later - n) (take (length journal - later) journal)

-- the call of an entry behind which so many bytes were added
abbrev pub call_told : List ℕ → ℕ → RigCall → Call
call_told journal later (EnteredPut byte) = Put byte
call_told journal later (EnteredGet answer) = Get answer
call_told journal later (EnteredAppend n) = Append (bytes_before later n journal)
call_told journal later EnteredFetch = Fetch

-- the calls of all entries, beside the journal as it is behind them
pub calls_told : List ℕ → List RigCall → List Call
calls_told journal [] = []
calls_told journal (entry ∷ entries) =
    call_told journal (appended entries) entry ∷ calls_told journal entries

pub length_told : (journal : List ℕ) (entries : List RigCall)
    → length (calls_told journal entries) ≡ length entries
unfolding calls_told
length_told journal [] = refl
length_told journal (entry ∷ entries) = ap suc (length_told journal entries)

appended-more : (entries : List RigCall) (entry : RigCall)
    → appended (entries ++ entry ∷ []) ≡ appended entries + appended (entry ∷ [])
appended-more [] entry = omega arith
appended-more (EnteredPut byte ∷ entries) entry = appended-more entries entry
appended-more (EnteredGet answer ∷ entries) entry = appended-more entries entry
appended-more (EnteredAppend n ∷ entries) entry = omega (arith, appended-more entries entry)
appended-more (EnteredFetch ∷ entries) entry = appended-more entries entry

before-more : (later more n : ℕ) (journal bytes : List ℕ) → more ≡ later + length bytes
    → bytes_before more n (journal ++ bytes) ≡ bytes_before later n journal
before-more later more n journal bytes is =
    let size : length (journal ++ bytes) - more ≡ length journal - later =
    omega (arith, is, length-append journal bytes) in
    ap (λ k. drop (k - n) (take k (journal ++ bytes))) size
    ∙ ap (λ xs. drop (length journal - later - n) xs)
    (take-append-le (length journal - later) journal bytes (omega arith))

told-same : (later more : ℕ) (journal bytes : List ℕ) (entry : RigCall)
    → more ≡ later + length bytes
    → call_told (journal ++ bytes) more entry ≡ call_told journal later entry
told-same later more journal bytes (EnteredPut byte) is = refl
told-same later more journal bytes (EnteredGet answer) is = refl
told-same later more journal bytes (EnteredAppend n) is =
    ap (λ xs. Append xs) (before-more later more n journal bytes is)
told-same later more journal bytes EnteredFetch is = refl

-- one entry more, with the bytes that its call added
told-more : (journal bytes : List ℕ) (entries : List RigCall) (entry : RigCall)
    → appended (entry ∷ []) ≡ length bytes
    → calls_told (journal ++ bytes) (entries ++ entry ∷ [])
    ≡ calls_told journal entries ++ call_told (journal ++ bytes) 0 entry ∷ []
unfolding calls_told
told-more journal bytes [] entry is = refl
told-more journal bytes (first ∷ entries) entry is =
    ap₂ (λ (x : Call) (xs : List Call). x ∷ xs)
    (told-same (appended entries) (appended (entries ++ entry ∷ [])) journal bytes first
    (appended-more entries entry ∙ ap (λ n. appended entries + n) is))
    (told-more journal bytes entries entry is)

-- an append
pub told_append : (journal bytes : List ℕ) (entries : List RigCall)
    → calls_told (journal ++ bytes) (entries ++ EnteredAppend (length bytes) ∷ [])
    ≡ calls_told journal entries ++ Append bytes ∷ []
told_append journal bytes entries =
    let whole = journal ++ bytes in
    let size : length whole ≡ length journal + length bytes = length-append journal bytes in
    let start : length whole - 0 - length bytes ≡ length journal = omega (arith, size) in
    let own : bytes_before 0 (length bytes) whole ≡ bytes =
    ap₂ (λ k (xs : List ℕ). drop k xs) start (take_all (length whole - 0) whole (omega arith))
    ∙ drop-append_seam journal bytes in
    told-more journal bytes entries (EnteredAppend (length bytes)) (omega arith)
    ∙ ap (λ (xs : List ℕ). calls_told journal entries ++ Append xs ∷ []) own

-- the call of an entry that tells no bytes
abbrev pub quiet_call : RigCall → Call
quiet_call (EnteredPut byte) = Put byte
quiet_call (EnteredGet answer) = Get answer
quiet_call (EnteredAppend n) = Append []
quiet_call EnteredFetch = Fetch

told-quiet : (journal : List ℕ) (entry : RigCall) → appended (entry ∷ []) ≡ 0
    → call_told journal 0 entry ≡ quiet_call entry
told-quiet journal (EnteredPut byte) is = refl
told-quiet journal (EnteredGet answer) is = refl
told-quiet journal (EnteredAppend n) is =
    let all : take (length journal - 0) journal ≡ journal =
    take_all (length journal - 0) journal (omega arith) in
    ap (λ (xs : List ℕ). Append xs)
    (drop_all (length journal - 0 - n) (take (length journal - 0) journal)
    (omega (arith, is, ap length all)))
told-quiet journal EnteredFetch is = refl

-- a call that added nothing
pub told_entry : (journal : List ℕ) (entries : List RigCall) (entry : RigCall)
    → appended (entry ∷ []) ≡ 0
    → calls_told journal (entries ++ entry ∷ [])
    ≡ calls_told journal entries ++ quiet_call entry ∷ []
told_entry journal entries entry is =
    let Told : List ℕ → List Call = λ j. calls_told j (entries ++ entry ∷ []) in
    ap Told (sym (append-nil journal)) ∙ told-more journal [] entries entry is
    ∙ ap (λ (x : Call). calls_told journal entries ++ x ∷ [])
    (ap (λ (j : List ℕ). call_told j 0 entry) (append-nil journal) ∙ told-quiet journal entry is)
