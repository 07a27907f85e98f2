-- What the calls of a watched Rig promise, where those of the inner one do.
use Rattle.std.proofs.Common.{◌≡◌, inl, ⊎_elim, ℕ, ◌+◌, false, true≢false, List, [], ◌∷◌, ◌++◌}
use Rattle.std.proofs.Common.{Option, Some, None, is_some, Result, Ok, Err, OnOk, OnErr, IfOk, refl}
use Rattle.std.proofs.Common.{sym, ◌∙◌, ap}
use Rattle.stm_watch.specs.declared.sight.Sight.TheVariants.{Lost}
use Rattle.stm_wire.specs.declared.fault.RigFault.{RigFault}
use Rattle.stm_wire.specs.declared.fault.RigFault.TheVariants.{Line}
use Rattle.stm_wire.proofs.Names.{AppendsHonestly, Call, Device, entry_of_get, Feeds, FetchesHonestly, Get, GetsFirst, GetsHonestly, PutsHonestly, Records, RigState}
use Rattle.stm_watch.specs.Known.{Known, IsFed, IsWhole, fed, is_due}
use Rattle.stm_watch.specs.Seen.{IsSeen}
use Rattle.stm_watch.specs.Watching.{quieted, quieted_record, watched, IsHeard}
use Rattle.stm_watch.proofs.Seeing.{seen-fed}
use Rattle.stm_watch.proofs.Hearing.{seen-heard}

-- The record of a get whose byte was refused:

quieted-last : (past : List Call) (call : Call) → quieted (past ++ call ∷ [])
    ≡ past ++ Get None ∷ []
quieted-last [] call = refl
quieted-last (first ∷ []) call = refl
quieted-last (first ∷ next ∷ past) call = ap (λ xs. first ∷ xs) (quieted-last (next ∷ past) call)

quieted-record : (old new : Option (List Call)) (call : Call)
    → Records {T = Unit {0}} call (Ok tt) old new
    → Records {T = Unit {0}} (Get None) (Ok tt) old (quieted_record new)
quieted-record None new call is = ap quieted_record is
quieted-record (Some past) new call is =
    ap quieted_record is ∙ ap (λ (xs : List Call). Some xs) (quieted-last past call)

as-done : {T : Type 0} (call : Call) (x : T) (old new : Option (List Call))
    → Records call (Ok x) old new → Records {T = Unit {0}} call (Ok tt) old new
as-done call x None new is = is
as-done call x (Some past) new is = is

as-failed : (T : Type 0) (call : Call) (e : RigFault) (old new : Option (List Call))
    → Records {T = Unit {0}} call (Ok tt) old new → Records {T = T} call (Err e) old new
as-failed T call e None new is = is
as-failed T call e (Some past) new is = inl is

pub refused-record : (T : Type 0) (x : Option ℕ) (e : RigFault) (old new : Option (List Call))
    → Records (entry_of_get (Ok x)) (Ok x) old new
    → Records {T = T} (Get None) (Err e) old (quieted_record new)
refused-record T x e old new is =
    as-failed T (Get None) e old (quieted_record new)
    (quieted-record old new (Get x) (as-done (Get x) x old new is))

pub refused-enters : (x : Option ℕ) (old new : Option (List Call))
    → Records (entry_of_get (Ok x)) (Ok x) old new
    → Records {T = Unit {0}} (Get None) (Ok tt) old (quieted_record new)
refused-enters x old new is = quieted-record old new (Get x) (as-done (Get x) x old new is)

-- On a Rig that follows the model:

lost-seen : (k : Known) (d : Device) → k.sight ≡ Lost → IsSeen k d
lost-seen k d is = rw is tt

fed-seen : (byte : ℕ) (k now : Known) (old new : Device) → IsSeen k old → Feeds byte old new
    → IsFed byte k now → IsSeen now new
fed-seen byte k now old new seen feeds is =
    ⊎_elim (λ e. rw e (seen-fed byte k old new seen feeds)) (λ e. lost-seen now new e) is

pub put-honest : {A : Type 0} (byte : ℕ) (result : Result (Unit {0}) RigFault) (k now : Known)
    (refusal : Option A) (line journal : ℕ) (old new : RigState)
    → (old.is_honest → PutsHonestly byte result old new)
    → OnOk result (IsFed byte k now) → OnErr result (now.sight ≡ Lost)
    → (watched k refusal line journal old).is_honest
    → PutsHonestly byte result (watched k refusal line journal old) (watched now refusal line
    journal new)
put-honest byte result k now (Some r) line journal old new inner ok err honest = absurd honest
put-honest byte (Ok u) k now None line journal old new inner ok err honest =
    let p = inner honest.0 in
    assumption (fed-seen byte k now old.device new.device honest.1 p.ok.0 ok, p)
put-honest byte (Err e) k now None line journal old new inner ok err honest =
    let p = inner honest.0 in
    assumption (lost-seen now new.device err, p)

kept-seen : (k now : Known) (old new : Device) → new ≡ old → now ≡ k → IsSeen k old → IsSeen now new
kept-seen k now old new same is seen = rw (same, is) seen

-- what a get leaves of what is known
abbrev pub Hears : Result (Option ℕ) RigFault → Known → Known → Type 0
Hears (Ok answer) k now = IsHeard answer k now
Hears (Err e) k now = now.sight ≡ Lost

gets-seen : (result : Result (Option ℕ) RigFault) (k now : Known) (old new : Device) → IsWhole k
    → IsSeen k old → IfOk result (λ answer. GetsFirst answer old new) → Hears result k now
    → IsSeen now new
gets-seen (Ok None) k now old new whole seen first hears =
    kept-seen k now old new first.1 hears seen
gets-seen (Ok (Some byte)) k now old new whole seen first hears =
    rw hears.1 (seen-heard byte k old new whole seen first).1
gets-seen (Err e) k now old new whole seen first hears = lost-seen now new hears

pub get-honest : {A : Type 0} (result : Result (Option ℕ) RigFault) (k now : Known)
    (refusal : Option A) (line journal : ℕ) (old new : RigState) → IsWhole k
    → (old.is_honest → GetsHonestly result old new) → Hears result k now
    → (watched k refusal line journal old).is_honest
    → GetsHonestly result (watched k refusal line journal old) (watched now refusal line journal
    new)
get-honest result k now (Some r) line journal old new whole inner hears honest = absurd honest
get-honest result k now None line journal old new whole inner hears honest =
    let p = inner honest.0 in
    assumption (gets-seen result k now old.device new.device whole honest.1 p.ok hears, p)

-- no byte is refused there
pub none-refused : (byte : ℕ) (k : Known) (old new : RigState) → IsWhole k
    → (old.is_honest → GetsHonestly (Ok (Some byte)) old new) → is_due byte k ≡ false
    → old.is_honest → IsSeen k old.device → ⊥
none-refused byte k old new whole inner refused honest seen =
    let p = inner honest in
    true≢false (sym (seen-heard byte k old.device new.device whole seen p.ok).0 ∙ refused)

pub append-honest : {A : Type 0} (bytes : List ℕ) (result : Result (Unit {0}) RigFault) (k now :
    Known)
    (refusal : Option A) (line journal : ℕ) (old new : RigState)
    → (old.is_honest → AppendsHonestly bytes result old new)
    → OnOk result (now ≡ k) → OnErr result (now.sight ≡ Lost)
    → (watched k refusal line journal old).is_honest
    → AppendsHonestly bytes result (watched k refusal line journal old) (watched now refusal line
    journal new)
append-honest bytes result k now (Some r) line journal old new inner ok err honest = absurd honest
append-honest bytes (Ok u) k now None line journal old new inner ok err honest =
    let p = inner honest.0 in
    assumption (kept-seen k now old.device new.device p.ok.0 ok honest.1, p)
append-honest bytes (Err e) k now None line journal old new inner ok err honest =
    let p = inner honest.0 in
    assumption (lost-seen now new.device err, p)

pub fetch-honest : {A : Type 0} (at : ℕ) (before after : List ℕ) (result : Result ℕ RigFault)
    (k now : Known) (refusal : Option A) (line journal : ℕ) (old new : RigState)
    → (old.is_honest → FetchesHonestly at before after result old new)
    → OnOk result (now ≡ k) → OnErr result (now.sight ≡ Lost)
    → (watched k refusal line journal old).is_honest
    → FetchesHonestly at before after result
    (watched k refusal line journal old) (watched now refusal line journal new)
fetch-honest at before after result k now (Some r) line journal old new inner ok err honest =
    absurd honest
fetch-honest at before after (Ok n) k now None line journal old new inner ok err honest =
    let p = inner honest.0 in
    assumption (kept-seen k now old.device new.device p.ok.0 ok honest.1, p)
fetch-honest at before after (Err e) k now None line journal old new inner ok err honest =
    let p = inner honest.0 in
    assumption (lost-seen now new.device err, p)

-- In the form of the calls' ways out:

pub put-done : {A : Type 0} (byte : ℕ) (result : Result (Unit {0}) RigFault) (u : Unit {0})
    (k now : Known) (refusal : Option A) (line journal : ℕ) (old new : RigState) → result ≡ Ok u
    → (old.is_honest → PutsHonestly byte result old new) → IsFed byte k now
    → (watched k refusal line journal old).is_honest
    → PutsHonestly byte result (watched k refusal line journal old) (watched now refusal line
    journal new)
put-done byte result u k now refusal line journal old new is inner fed honest =
    put-honest byte result k now refusal line journal old new inner (rw is fed) (rw is tt) honest

pub none-of : {A : Type 0} (refusal : Option A) → is_some refusal ≡ false → refusal ≡ None
none-of None e = refl
none-of (Some r) e = absurd (true≢false e)

pub never-honest : {A : Type 0} (k : Known) (refusal : Option A) (line journal : ℕ) (old : RigState)
    → (old.is_honest → IsSeen k old.device → ⊥) → (watched k refusal line journal old).is_honest → ⊥
never-honest k (Some r) line journal old none honest = honest
never-honest k None line journal old none honest = none honest.0 honest.1

pub refused-recorded : {A : Type 0} (k : Known) (refusal : Option A) (line journal : ℕ) (old :
    RigState)
    (new : Option (List Call)) (byte : ℕ) → refusal ≡ None
    → Records (entry_of_get (Ok (Some byte))) (Ok (Some byte)) old.calls new
    → Records {T = Option ℕ} (Get None) (Err Line) (watched k refusal line journal old).calls
    (quieted_record new)
refused-recorded k refusal line journal old new byte none is =
    rw none (refused-record (Option ℕ) (Some byte) Line old.calls new is)

pub refused-entered : {A : Type 0} (k : Known) (refusal : Option A) (line journal : ℕ) (old :
    RigState)
    (new : Option (List Call)) (byte : ℕ) → refusal ≡ None
    → Records (entry_of_get (Ok (Some byte))) (Ok (Some byte)) old.calls new
    → Records {T = Unit {0}} (Get None) (Ok tt) (watched k refusal line journal old).calls
    (quieted_record new)
refused-entered k refusal line journal old new byte none is =
    rw none (refused-enters (Some byte) old.calls new is)
