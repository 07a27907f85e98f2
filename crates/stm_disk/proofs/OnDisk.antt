-- What the calls of a Rig with its journal on a disk promise, from what its line and file do.
use Rattle.std.proofs.Common.{◌≡◌, inl, inr, ◌+◌, ◌-◌, ◌^◌, ◌≤◌, ℕ, List, [], ◌∷◌, ◌++◌, length}
use Rattle.std.proofs.Common.{take, Bool, true, false, not, is_ok, true≢false, Option, Some, None}
use Rattle.std.proofs.Common.{Result, Ok, Err, OnOk, refl, sym, ◌∙◌, ap, subst, arith, append-nil}
use Rattle.std.proofs.Common.{take_all, length-append}
use Rattle.std.specs.Result.{IsErr}
use Rattle.std.proofs.Math.Seq.{take-append-add, take-append_seam}
use Rattle.stm_sim.specs.lemmas.HonestLine.{still}
use Rattle.stm_wire.proofs.Names.{Append, AppendsHonestly, Call, Device, Fetch, FetchesHonestly, Get, HasCause, IsModel, LeftByAppend, LeftByGet, LeftByPut, LosesOwed, Put, PutsAside, PutsHonestly}
use Rattle.stm_wire.proofs.Names.{Records, RecordsAppend, RigState, TellsBehind, waited}
use Rattle.stm_wire.specs.declared.fault.RigFault.{RigFault}
use Rattle.stm_wire.specs.declared.rig.Patience.{Patience}
use Rattle.stm_wire.specs.declared.rig.Patience.TheVariants.{Brief, Long}
use Rattle.stm_journal.proofs.Names.{journal_of, text_of}
use Rattle.stm_disk.specs.Crash.{MayBeLeft}
use Rattle.stm_disk.specs.GrowingFile.{FileState, FollowsFileModel as IsFileModel}
use Rattle.stm_disk.specs.Lines.{LeftByAdding, StaysOnDisk}
use Rattle.stm_disk.specs.RigCalls.{PutsAsRig, GetsAsRig, AppendsAsRig, FetchesAsRig}
use Rattle.stm_disk.specs.DiskRig.{DiskState, HoldsJournal, IsDisk, IsOnDisk, SameLines}
use Rattle.stm_disk.specs.DiskRig.{disk_rig_state, LeftByCall, CrashesAreStopsIn}
use Rattle.stm_disk.specs.DiskRig.{CrashesAreStopsHere, CrashesInSessionsAreStops}
use Rattle.stm_disk.proofs.Crashes.{settled_left}
use Rattle.stm_disk.proofs.Stopping.{crashes_are_stops}

-- counts of a line and of what was refused
pub causes : {T : Type 0} (before now refused : ℕ) (result : Result T RigFault)
    → HasCause before now result → HasCause (before + refused) (now + refused) result
causes before now refused (Ok x) h = record {
  later = omega (arith, h.later);
  done = ap (λ (n : ℕ). n + refused) h.done;
  failed = tt;
}
causes before now refused (Err e) h = record {
  later = omega (arith, h.later);
  done = tt;
  failed = omega (arith, h.failed);
}

pub refusal_causes : {T : Type 0} (count before now : ℕ) (result : Result T RigFault)
    → HasCause before now result → HasCause (count + before) (count + now) result
refusal_causes count before now result h =
    let e : (n : ℕ) → count + n ≡ n + count = λ n. omega arith in
    rw (e before, e now) (causes before now count result h)

-- waits aren't counted
pub not_waited : (patience : Patience) → None ≡ waited patience None
not_waited Brief = refl
not_waited Long = refl

-- a fetch that is refused tells nothing
pub not_told : (after : List ℕ) (result : Result ℕ RigFault) (told : Option (List ℕ))
    → IsErr result → TellsBehind after result told told
not_told after (Ok x) told failed = absurd (true≢false (sym failed))
not_told after (Err e) None failed = refl
not_told after (Err e) (Some past) failed = refl

pub failed : {T : Type 0} {result : Result T RigFault} {fault : RigFault} → result ≡ Err fault
    → IsErr result
failed {T} {result} {fault} is =
    subst (λ (r : Result T RigFault). IsErr r) (sym is) refl

-- a call that did nothing stands in no record
unrecorded : {T : Type 0} (call : Call) (result : Result T RigFault) (calls : Option (List Call))
    → IsErr result → Records call result calls calls
unrecorded call (Ok x) calls failed = absurd (true≢false (sym failed))
unrecorded call (Err e) None failed = refl
unrecorded call (Err e) (Some past) failed = inr refl

unappended : (bytes : List ℕ) (fault : RigFault) (calls : Option (List Call))
    → RecordsAppend {T = Unit {0}} bytes (Err fault) calls calls
unappended bytes fault None = refl
unappended bytes fault (Some past) = inr refl

-- calls that are refused do nothing
pub put_refused : (byte : ℕ) (result : Result (Unit {0}) RigFault) (refused : ℕ)
    (old new : DiskState) → new ≡ record old { refused = refused } → IsErr result
    → HasCause old.refused refused result
    → PutsAsRig byte result (disk_rig_state old) (disk_rig_state new)
put_refused byte (Ok x) refused old new same failed count = absurd (true≢false (sym failed))
put_refused byte (Err e) refused old new same failed count =
    let rig = old.line in
    rw same (record {
      cause = refusal_causes rig.line_failures old.refused refused (Err e) count;
      journal_count = refl;
      recorded = unrecorded {T = Unit {0}} (Put byte) (Err e) rig.calls failed;
      entered = λ room. absurd room;
      aside = record { long_gets = refl; told = refl };
      honest = λ is. record {
        honest = record { line = is.line; file = is.file };
        ok = tt;
        err = (refl, (rig.device, inl refl, (0, refl)));
        time = assumption (still (LeftByPut byte rig) rig);
      };
    })

pub get_refused : (patience : Patience) (result : Result (Option ℕ) RigFault) (refused : ℕ)
    (old new : DiskState) → new ≡ record old { refused = refused } → IsErr result
    → HasCause old.refused refused result
    → GetsAsRig patience result (disk_rig_state old) (disk_rig_state new)
get_refused patience (Ok x) refused old new same failed count = absurd (true≢false (sym failed))
get_refused patience (Err e) refused old new same failed count =
    let rig = old.line in
    rw same (record {
      cause = refusal_causes rig.line_failures old.refused refused (Err e) count;
      journal_count = refl;
      recorded = unrecorded {T = Option ℕ} (Get None) (Err e) rig.calls failed;
      entered = λ room. absurd room;
      aside = record { long_gets = not_waited patience; told = refl };
      honest = λ is. record {
        honest = record { line = is.line; file = is.file };
        ok = tt;
        journal = refl;
        err = (refl, (0, refl));
        time = assumption (still (LeftByGet rig) rig);
      };
    })

pub append_refused : (bytes : List ℕ) (result : Result (Unit {0}) RigFault) (failures : ℕ)
    (old new : DiskState) → new ≡ record old { journal_failures = failures } → IsErr result
    → HasCause old.journal_failures failures result → (old.line.is_honest → IsModel old.line)
    → AppendsAsRig bytes result (disk_rig_state old) (disk_rig_state new)
append_refused bytes (Ok x) failures old new same failed count model =
    absurd (true≢false (sym failed))
append_refused bytes (Err e) failures old new same failed count model =
    let rig = old.line in
    rw same (record {
      cause = count;
      line_count = refl;
      recorded = unappended bytes e rig.calls;
      entered = λ room. absurd room;
      aside = record { long_gets = refl; told = refl };
      honest = λ is. record {
        honest = record { line = is.line; file = is.file };
        ok = tt;
        err = ((0, sym (append-nil rig.journal)), (0, refl));
        time = assumption (still (LeftByAppend bytes rig) rig);
        beginnings = λ t n d le above lost.
            rw (take_all n rig.journal above) ((model is.line).counts_now t d le lost);
      };
    })

pub fetch_refused : (at : ℕ) (buf : List ℕ) (result : Result ℕ RigFault) (failures : ℕ)
    (old new : DiskState) → new ≡ record old { journal_failures = failures } → IsErr result
    → HasCause old.journal_failures failures result
    → FetchesAsRig at buf buf result (disk_rig_state old) (disk_rig_state new)
fetch_refused at buf (Ok x) failures old new same failed count = absurd (true≢false (sym failed))
fetch_refused at buf (Err e) failures old new same failed count =
    let rig = old.line in
    rw same (record {
      within = record { same_length = refl; within = tt; last = λ from. tt };
      cause = count;
      line_count = refl;
      recorded = unrecorded {T = ℕ} Fetch (Err e) rig.calls failed;
      entered = λ room. absurd room;
      aside = record { long_gets = refl; told = not_told buf (Err e) rig.told failed };
      honest = λ is. record {
        honest = record { line = is.line; file = is.file };
        ok = tt;
        bytes = tt;
        more = tt;
        err = (refl, (0, refl));
        time = assumption (still (LeftByGet rig) rig);
      };
    })

-- the journal of a call that adds nothing
pub put_keeps : (byte : ℕ) (result : Result (Unit {0}) RigFault) (old new : RigState)
    → PutsHonestly byte result old new → new.journal ≡ old.journal
put_keeps byte (Ok x) old new p = p.ok.1
put_keeps byte (Err e) old new p = p.err.0

pub fetch_keeps : (at : ℕ) (buf after_buf : List ℕ) (result : Result ℕ RigFault)
    (old new : RigState) → FetchesHonestly at buf after_buf result old new
    → new.journal ≡ old.journal
fetch_keeps at buf after_buf (Ok x) old new f = f.ok.1
fetch_keeps at buf after_buf (Err e) old new f = f.err.0

pub holds_still : (journal journal2 : List ℕ) (size : ℕ) (file : FileState)
    → journal2 ≡ journal → HoldsJournal journal size file → HoldsJournal journal2 size file
holds_still journal journal2 size file same h = record {
  honest = h.honest;
  seen = h.seen ∙ sym same;
  settled = h.settled;
}

-- a call that adds nothing leaves line and file as one
kept_disk : (old : DiskState) (line : RigState) → line.is_honest
    → line.journal ≡ old.line.journal → IsDisk old → IsDisk (record old { line = line })
kept_disk old line honest keeps is = record {
  line = honest;
  file = λ e. holds_still old.line.journal line.journal old.size old.file keeps (is.file e);
}

-- calls that the line answers
pub put_done : (byte : ℕ) (result : Result (Unit {0}) RigFault) (old : DiskState) (line : RigState)
    → PutsAsRig byte result old.line line
    → PutsAsRig byte result (disk_rig_state old) (disk_rig_state (record old { line = line }))
put_done byte result old line p = record {
  cause = causes old.line.line_failures line.line_failures old.refused result p.cause;
  journal_count = refl;
  recorded = p.recorded;
  entered = λ room. absurd room;
  aside = record { long_gets = refl; told = p.aside.told };
  honest = λ is.
      let q = p.honest is.line in
      assumption (kept_disk old line q.honest (put_keeps byte result old.line line q) is, q);
}

pub get_done : (patience : Patience) (result : Result (Option ℕ) RigFault) (old : DiskState)
    (line : RigState) → GetsAsRig patience result old.line line
    → GetsAsRig patience result (disk_rig_state old) (disk_rig_state (record old { line = line }))
get_done patience result old line p = record {
  cause = causes old.line.line_failures line.line_failures old.refused result p.cause;
  journal_count = refl;
  recorded = p.recorded;
  entered = λ room. absurd room;
  aside = record { long_gets = not_waited patience; told = p.aside.told };
  honest = λ is.
      let q = p.honest is.line in
      assumption (kept_disk old line q.honest q.journal is, q);
}

pub fetch_done : (at : ℕ) (buf after_buf : List ℕ) (answer result : Result ℕ RigFault)
    (failures : ℕ) (line : RigState) (old new : DiskState)
    → new ≡ record old { line = line; journal_failures = failures } → result ≡ answer
    → HasCause old.journal_failures failures result
    → FetchesAsRig at buf after_buf answer old.line line
    → FetchesAsRig at buf after_buf result (disk_rig_state old) (disk_rig_state new)
fetch_done at buf after_buf answer result failures line old new same is_answer count by =
    let p = rw (← is_answer) at by in
    rw same (record {
      within = p.within;
      cause = count;
      line_count = ap (λ (n : ℕ). n + old.refused) p.line_count;
      recorded = p.recorded;
      entered = λ room. absurd room;
      aside = record { long_gets = refl; told = p.aside.told };
      honest = λ is.
          let q = p.honest is.line in
          let keeps = fetch_keeps at buf after_buf result old.line line q in
          assumption (kept_disk old line q.honest keeps is, q);
    })

-- the same bytes have the same lines
pub same_lines : (left journal : List ℕ) → left ≡ journal → SameLines left journal
same_lines left journal same = record {
  lines = ap (λ (xs : List ℕ). (text_of xs).lines) same;
  state = ap (λ (xs : List ℕ). journal_of xs) same;
}

-- what a crash leaves of a file that no call is adding to
pub held_left : (journal : List ℕ) (size : ℕ) (f : FileState) (left : List ℕ) → IsFileModel f
    → HoldsJournal journal size f → f.left_since f.moment left → left ≡ journal
held_left journal size f left model h since =
    settled_left f.seen left
    (subst (λ (n : ℕ). MayBeLeft n f.seen left) h.settled.synced (model.only_now left since))
    ∙ h.seen

-- a call that adds nothing
pub kept_covers : (P : Device → List ℕ → Type 0) (size : ℕ) (old new : RigState) (f : FileState)
    → IsFileModel f → HoldsJournal old.journal size f
    → ((d : Device) (journal : List ℕ) → P d journal → journal ≡ old.journal)
    → CrashesAreStopsHere P old new f f
kept_covers P size old new f model h keeps t d journal left le p stop since = (
  journal,
  stop,
  same_lines left journal (held_left old.journal size f left model h since ∙ sym (keeps d journal
      p)),
)

pub crashes_kept : (call : Call) (old new : DiskState) → new.file ≡ old.file
    → (old.file.is_honest → IsFileModel old.file)
    → ((d : Device) (journal : List ℕ) → LeftByCall call (disk_rig_state old) d journal
    → journal ≡ old.line.journal)
    → CrashesAreStopsIn call old new
crashes_kept call old new same model keeps is failed =
    let P = LeftByCall call (disk_rig_state old) in
    let held = is.file failed in
    rw same (kept_covers P old.size (disk_rig_state old) (disk_rig_state new) old.file
    (model held.honest) held keeps)

-- An append that the line didn't take, so that the file was left alone.
pub untaken_covers : (bytes : List ℕ) (size : ℕ) (old new : RigState) (f : FileState)
    → IsFileModel f → HoldsJournal old.journal size f
    → (n : ℕ) × (new.journal ≡ old.journal ++ take n bytes)
    → ((t n : ℕ) (d : Device) → t ≤ old.moment → length old.journal ≤ n
    → LosesOwed old.device d → new.left_since t d (take n new.journal))
    → CrashesAreStopsHere (LeftByAppend bytes old) old new f f
untaken_covers bytes size old new f model h some beginnings t d journal left le p stop since =
    let n = length old.journal in
    let begun : take n new.journal ≡ old.journal =
    ap (λ (xs : List ℕ). take n xs) some.1 ∙ take-append_seam old.journal (take some.0 bytes) in (
      take n new.journal,
      beginnings t n d le (omega arith) p.1,
      same_lines left (take n new.journal)
          (held_left old.journal size f left model h since ∙ sym begun),
    )

-- an append that the line took, and the file took or not
pub taken_covers : (bytes : List ℕ) (size : ℕ) (old new : RigState) (f f2 : FileState)
    → HoldsJournal old.journal size f → new.journal ≡ old.journal ++ bytes
    → ((t n : ℕ) (d : Device) → t ≤ old.moment → length old.journal ≤ n
    → LosesOwed old.device d → new.left_since t d (take n new.journal))
    → ((left : List ℕ) → f2.left_since f.moment left → LeftByAdding f.seen bytes left)
    → CrashesAreStopsHere (LeftByAppend bytes old) old new f f2
taken_covers bytes size old new f f2 h is beginnings each t d journal left le p stop since =
    let by = subst (λ (xs : List ℕ). LeftByAdding xs bytes left) h.seen (each left since) in
    let s = crashes_are_stops old.journal bytes left by in
    let n = length old.journal + s.0 in
    let begun : take n new.journal ≡ old.journal ++ take s.0 bytes =
    ap (λ (xs : List ℕ). take n xs) is ∙ take-append-add old.journal bytes s.0 in
    let same = same_lines (old.journal ++ take s.0 bytes) (take n new.journal) (sym begun) in (
      take n new.journal,
      beginnings t n d le (omega arith) p.1,
      record { lines = s.1 ∙ same.lines; state = s.2 ∙ same.state },
    )

-- what the append of a line leaves, whatever it answered
left_by : (bytes : List ℕ) (answer : Result (Unit {0}) RigFault) (old new : RigState)
    → AppendsHonestly bytes answer old new → LeftByAppend bytes old new.device new.journal
left_by bytes (Ok done) old new a = (
  (
    length bytes,
    a.ok.1 ∙ ap (λ (added : List ℕ). old.journal ++ added)
        (sym (take_all (length bytes) bytes (omega arith))),
  ),
  (0, a.ok.0),
)
left_by bytes (Err fault) old new a = a.err

-- An append whose line took its bytes, or not, and that has failed.
pub append_failed : (bytes : List ℕ) (answer result : Result (Unit {0}) RigFault)
    (old new : RigState) → IsErr result → AppendsHonestly bytes answer old new
    → AppendsHonestly bytes result old new
append_failed bytes answer (Ok x) old new failed a = absurd (true≢false (sym failed))
append_failed bytes answer (Err fault) old new failed a = assumption (
  a,
  left_by bytes answer old new a,
)

-- it stands in the record
pub failed_recorded : (bytes : List ℕ) (answer result : Result (Unit {0}) RigFault)
    (past now : Option (List Call)) → IsErr result → RecordsAppend bytes answer past now
    → RecordsAppend bytes result past now
failed_recorded bytes answer (Ok x) past now failed is = absurd (true≢false (sym failed))
failed_recorded bytes answer (Err fault) None now failed is = is
failed_recorded bytes (Ok done) (Err fault) (Some past) now failed is =
    let whole : take (length bytes) bytes ≡ bytes = take_all (length bytes) bytes (omega arith) in
    inl (length bytes, is ∙ ap (λ (xs : List ℕ). Some (past ++ Append xs ∷ [])) (sym whole))
failed_recorded bytes (Err e) (Err fault) (Some past) now failed is = is

-- all is there, in the file and in the journal
pub on_disk : (bytes : List ℕ) (size : ℕ) (journal journal2 : List ℕ) (f f2 : FileState)
    → HoldsJournal journal size f → journal2 ≡ journal ++ bytes → StaysOnDisk bytes f f2
    → IsOnDisk bytes size journal2 f f2
on_disk bytes size journal journal2 f f2 h is stays =
    let all : f2.seen ≡ journal2 =
    stays.seen ∙ ap (λ (xs : List ℕ). xs ++ bytes) h.seen ∙ sym is in
    record {
      stays = stays;
      holds = record {
        honest = stays.honest;
        seen = all;
        settled = record {
          place = omega (
            arith,
            h.settled.place,
            ap (λ (xs : List ℕ). length xs) stays.seen,
            length-append f.seen bytes,
          );
          synced = stays.synced;
        };
      };
    }

-- what is kept of an append, and then of its answer
pub appended : (line : RigState) (file : FileState) (size failures : ℕ) (has_failed : Bool)
    (old kept new : DiskState)
    → kept ≡ record old { line = line; file = file; size = size; has_failed = has_failed }
    → new ≡ record kept { journal_failures = failures }
    → new ≡ record old {
      line = line;
      file = file;
      size = size;
      has_failed = has_failed;
      journal_failures = failures;
    }
appended line file size failures has_failed old kept new first last =
    last ∙ ap (λ (d : DiskState). record d { journal_failures = failures }) first

-- An append that was added to both, or has failed: the Rig goes on, or is given up.
added_disk : (bytes : List ℕ) (answer : Result (Unit {0}) RigFault) (old new : DiskState)
    → new.has_failed ≡ not (is_ok answer)
    → (is_ok answer ≡ true → old.size + length bytes ≤ 2 ^ 64 - 1
    → new.size ≡ old.size + length bytes)
    → new.line.is_honest → (new.file.is_honest → IsFileModel new.file)
    → OnOk answer (IsOnDisk bytes old.size new.line.journal old.file new.file) → IsDisk new
added_disk bytes (Ok x) old new failed size_is honest model on =
    let small : old.size + length bytes ≤ 2 ^ 64 - 1 =
    omega (arith, on.holds.settled.place, (model on.holds.honest).limit) in
    record { line = honest; file = λ e. rw (size_is refl small) on.holds }
added_disk bytes (Err e) old new failed size_is honest model on = record {
  line = honest;
  file = λ e. absurd (true≢false (sym failed ∙ e));
}

pub cause_kept : (old kept new : ℕ) (answer result : Result (Unit {0}) RigFault) → kept ≡ old
    → result ≡ answer → HasCause kept new result → HasCause old new answer
cause_kept old kept new answer result same is_answer cause =
    rw is_answer at (subst (λ (n : ℕ). HasCause n new result) same cause)

pub append_done : (bytes : List ℕ) (answer result : Result (Unit {0}) RigFault)
    (old there new : DiskState) → new ≡ there → result ≡ answer
    → there.refused ≡ old.refused → there.has_failed ≡ not (is_ok answer)
    → HasCause old.journal_failures there.journal_failures answer
    → there.line.line_failures ≡ old.line.line_failures
    → RecordsAppend bytes answer old.line.calls there.line.calls
    → PutsAside old.line there.line
    → (old.line.is_honest → AppendsHonestly bytes answer old.line there.line)
    → (is_ok answer ≡ true → old.size + length bytes ≤ 2 ^ 64 - 1
    → there.size ≡ old.size + length bytes)
    → (there.file.is_honest → IsFileModel there.file)
    → (IsDisk old → OnOk answer (IsOnDisk bytes old.size there.line.journal old.file there.file))
    → AppendsAsRig bytes result (disk_rig_state old) (disk_rig_state new)
append_done bytes answer result old there new same is_answer refused failed cause count recorded
    aside honest size_is model on =
    rw same (rw is_answer (record {
      cause = cause;
      line_count = omega (arith, refused, count);
      recorded = recorded;
      entered = λ room. absurd room;
      aside = record { long_gets = refl; told = aside.told };
      honest = λ is.
          let by = honest is.line in
          assumption (added_disk bytes answer old there failed size_is by.honest model (on is), by);
    }))

pub append_crashes : (bytes : List ℕ) (old there new : DiskState) → new ≡ there
    → (IsDisk old → old.has_failed ≡ false
    → CrashesAreStopsHere (LeftByAppend bytes old.line) old.line there.line old.file there.file)
    → CrashesAreStopsIn (Append bytes) old new
append_crashes bytes old there new same crashes =
    rw same crashes

pub stays_kept : (bytes : List ℕ) (answer result : Result (Unit {0}) RigFault) (size : ℕ)
    (journal : List ℕ) (f file f2 : FileState) → result ≡ answer → f2 ≡ file
    → OnOk answer (IsOnDisk bytes size journal f file) → OnOk result (StaysOnDisk bytes f f2)
stays_kept bytes answer (Ok x) size journal f file f2 same same_file on =
    let R : Result (Unit {0}) RigFault → Type 0 = λ r. OnOk r (IsOnDisk bytes size journal f
    file) in
    let F : FileState → Type 0 = λ g. StaysOnDisk bytes f g in
    let there : OnOk {T = Unit {0}} {E = RigFault} (Ok x) (IsOnDisk bytes size journal f file) =
    subst R (sym same) on in
    subst F (sym same_file) there.stays
stays_kept bytes answer (Err e) size journal f file f2 same same_file on = tt

-- a call in a session
pub crashes_in_sessions : {R F : Type 0} (view : R → RigState) (file_view : F → FileState)
    → CrashesInSessionsAreStops view file_view
crashes_in_sessions view file_view call first old new last file file2 before here behind covers d
    journal left p stop since =
    let t = (view first).moment in
    let s = covers t d journal left before.later p stop since in
    (s.0, behind.keeps t d s.0 (omega (arith, before.later, here.later)) s.1, s.2)
