-- Steps that end with a fault: how the beginnings of steps join.
use Rattle.std.proofs.Common.{◌≡◌, inl, inr, ⊎_elim, ℕ, zero, suc, ◌+◌, ◌-◌, ◌*◌, ◌/◌, ◌%◌, ◌≤◌, Bool, List, [], ◌∷◌, ◌++◌, length, take, drop, replicate, Some, None, Result, Ok, Err, IsErrAnd, refl, sym, ◌∙◌, ap, ap₂, subst, arith, append_assoc, append-nil, length-append}
use Rattle.std.specs.Prelude.{IfErr}
use Rattle.std.proofs.lemmas.List.{length-replicate}
use Rattle.stm_wire.specs.declared.fault.WireFault.{WireFault}
use Rattle.stm_wire.specs.declared.fault.WireFault.TheVariants.{Line, Nack, Quiet, Garbled}
use Rattle.stm_wire.proofs.Names.{Call, ChipData, GoesOn, IsBrokenOff, page_size, read_turns, RigState, Turn}
use Rattle.stm_wire.specs.lemmas.DialogueLaws.{GoesOn-append, GoesOn-nothing, GoesOn-weaker, broken_off_is_cut_short}
use Rattle.stm_journal.specs.declared.entry.Entry.{Entry}
use Rattle.stm_journal.specs.declared.fault.JournalFault.{JournalFault}
use Rattle.stm_journal.specs.declared.fault.JournalFault.TheVariants.{File, Bad, OtherDevice, OtherBoard, Memory}
use Rattle.stm_journal.proofs.Names.{added_bytes, AppendsOnce, Loaded}
use Rattle.stm_session.proofs.Names.{acts_of, acts_of_steps, Adds, AreCutShort, AreReadsOf, Begin, Cause, cause_of, DoesSteps, Fault, fault_of, fault_of_journal, FaultEnds, IsInOrder, IsReadOf}
use Rattle.stm_session.proofs.Names.{of_memory, page_address, page_reads, read_steps, Sends, Step, step_in, StepFailsBy, StopsBy, torn_behind}
use Rattle.stm_session.specs.declared.fault.Fault.TheVariants as faults
use Rattle.stm_session.proofs.Orders.{acts-append, acts-line, does_reads, reads_next, reads_before, steps-append, torn-append}

-- the fault that is answered
pub by_fault : {U : Type 0} (P : Cause → Type 0) (e : Fault) (result : Result U Fault) → IsErrAnd result (λ x. x ≡ e) → P (cause_of e) → IfErr result (λ x. P (cause_of x))
by_fault P e (Ok x) is p = absurd is
by_fault P e (Err x) is p = let Q : Fault → Type 0 = λ f. P (cause_of f) in subst Q (sym is) p

-- all of these are allowed too
pub stop_as : (P Q : List Step → Type 0) (cause : Cause) (torn : Bool) (a b : RigState) → ((xs : List Step) → P xs → Q xs) → StopsBy P cause torn a b → StopsBy Q cause torn a b
stop_as P Q cause torn a b weaker stops =
    GoesOn-weaker (λ calls. AreCutShort P cause torn (acts_of calls)) (λ calls. AreCutShort Q cause torn (acts_of calls)) a.calls b.calls stops
    (λ calls cut. record { done = cut.done; failed = cut.failed; allowed = weaker (cut.done ++ step_in cut.failed) cut.allowed; last = cut.last; fails = cut.fails; is = cut.is })

-- steps are cut short behind others
module _ (P Q : List Step → Type 0) (cause : Cause) (torn : Bool) (xs : List Step) (longer : (ys : List Step) → P ys → Q (xs ++ ys)) where
  pub cut_after : (before later : List Call) → before ≡ acts_of_steps torn xs → AreCutShort P cause (torn_behind torn xs) later → AreCutShort Q cause torn (before ++ later)
  cut_after before later is cut =
      let F : Bool → Type 0 = λ t. StepFailsBy cause t cut.failed cut.last in
      record {
        done = xs ++ cut.done;
        failed = cut.failed;
        allowed = subst Q (sym (append_assoc xs cut.done (step_in cut.failed))) (longer (cut.done ++ step_in cut.failed) cut.allowed);
        last = cut.last;
        fails = subst F (sym (torn-append torn xs cut.done)) cut.fails;
        is = ap₂ (λ (l m : List Call). l ++ m) is cut.is ∙ sym (append_assoc (acts_of_steps torn xs) (acts_of_steps (torn_behind torn xs) cut.done) cut.last)
            ∙ ap (λ (l : List Call). l ++ cut.last) (sym (steps-append torn xs cut.done));
      }

  pub order_stops : (a b c : RigState) → GoesOn (IsInOrder torn xs) a.calls b.calls → StopsBy P cause (torn_behind torn xs) b c → StopsBy Q cause torn a c
  order_stops a b c first stops =
      GoesOn-append (IsInOrder torn xs) (λ calls. AreCutShort P cause (torn_behind torn xs) (acts_of calls)) (λ calls. AreCutShort Q cause torn (acts_of calls)) a.calls b.calls c.calls first stops
      (λ cs ds x y. let R : List Call → Type 0 = λ l. AreCutShort Q cause torn l in subst R (sym (acts-append cs ds)) (cut_after (acts_of cs) (acts_of ds) x y))

pub stop_after : (P Q : List Step → Type 0) (cause : Cause) (xs : List Step) (l l2 : Loaded) (a b c : RigState) → DoesSteps xs l l2 a b → StopsBy P cause l2.is_torn b c → ((ys : List Step) → P ys → Q (xs ++ ys))
    → StopsBy Q cause l.is_torn a c
stop_after P Q cause xs l l2 a b c does stops longer =
    let S : Bool → Type 0 = λ t. StopsBy P cause t b c in
    order_stops P Q cause l.is_torn xs longer a b c does.acts (subst S does.torn stops)

-- between two steps
pub halts : (Q : List Step → Type 0) (cause : Cause) (torn : Bool) (xs : List Step) (a b : RigState) → Q xs → StepFailsBy cause (torn_behind torn xs) None [] → GoesOn (IsInOrder torn xs) a.calls b.calls → StopsBy Q cause torn a b
halts Q cause torn xs a b allowed idle done =
    GoesOn-weaker (IsInOrder torn xs) (λ calls. AreCutShort Q cause torn (acts_of calls)) a.calls b.calls done
    (λ calls is. record { done = xs; failed = None; allowed = subst Q (sym (append-nil xs)) allowed; last = []; fails = idle; is = is ∙ sym (append-nil (acts_of_steps torn xs)) })

pub halts_first : (Q : List Step → Type 0) (cause : Cause) (torn : Bool) (a : RigState) → Q [] → StepFailsBy cause torn None [] → StopsBy Q cause torn a a
halts_first Q cause torn a allowed idle = halts Q cause torn [] a a allowed idle (GoesOn-nothing (IsInOrder torn []) a.calls refl)

-- a dialogue is broken off
broken_fails : (torn : Bool) (e : WireFault) (turns : List Turn) (calls : List Call) → IsBrokenOff e turns calls → StepFailsBy (cause_of (fault_of e)) torn (Some (Sends turns)) calls
broken_fails torn Line turns calls broken = broken
broken_fails torn Nack turns calls broken = (Nack, (λ (is : Nack ≡ Line). cc), broken)
broken_fails torn Quiet turns calls broken = (Quiet, (λ (is : Quiet ≡ Line). cc), broken)
broken_fails torn Garbled turns calls broken = (Garbled, (λ (is : Garbled ≡ Line). cc), broken)

pub sent_stops : (Q : List Step → Type 0) (torn : Bool) (e : WireFault) (turns : List Turn) (a b : RigState) → Q (Sends turns ∷ []) → GoesOn (IsBrokenOff e turns) a.calls b.calls → StopsBy Q (cause_of (fault_of e)) torn a b
sent_stops Q torn e turns a b allowed broken =
    GoesOn-weaker (IsBrokenOff e turns) (λ calls. AreCutShort Q (cause_of (fault_of e)) torn (acts_of calls)) a.calls b.calls broken
    (λ calls is. record { done = []; failed = Some (Sends turns); allowed = allowed; last = calls; fails = broken_fails torn e turns calls is; is = acts-line calls (broken_off_is_cut_short e turns calls is).line })

-- the file fails, or refuses before it is asked
pub line_stops : (T : Type 0) (Q : List Step → Type 0) (torn : Bool) (entries : List Entry) (e : JournalFault) (a b : RigState) → Q [] → Q (Adds entries ∷ [])
    → GoesOn (AppendsOnce {T = T} (added_bytes torn entries) (Err e)) a.calls b.calls → StopsBy Q (cause_of (fault_of_journal e)) torn a b
line_stops T Q torn entries e a b none one once =
    GoesOn-weaker (AppendsOnce {T = T} (added_bytes torn entries) (Err e)) (λ calls. AreCutShort Q (cause_of (fault_of_journal e)) torn (acts_of calls)) a.calls b.calls once (by_cause e)
  where
    by_cause : (e : JournalFault) (calls : List Call) → AppendsOnce {T = T} (added_bytes torn entries) (Err e) calls → AreCutShort Q (cause_of (fault_of_journal e)) torn (acts_of calls)
    by_cause File calls is =
        record {
          done = [];
          failed = Some (Adds entries);
          allowed = one;
          last = acts_of calls;
          fails = ⊎_elim (λ e. inl (ap acts_of e)) (λ e. inr (e.0, ap acts_of e.1)) is;
          is = refl;
        }
    by_cause (Bad line) calls is = record { done = []; failed = None; allowed = none; last = []; fails = refl; is = ap acts_of is }
    by_cause OtherDevice calls is = record { done = []; failed = None; allowed = none; last = []; fails = refl; is = ap acts_of is }
    by_cause OtherBoard calls is = record { done = []; failed = None; allowed = none; last = []; fails = refl; is = ap acts_of is }
    by_cause Memory calls is = record { done = []; failed = None; allowed = none; last = []; fails = refl; is = ap acts_of is }

-- Exits, by the fault of a command, of a line, of memory, of a part, and of a part behind others.
pub command_stops : {U : Type 0} (Q : List Step → Type 0) (torn : Bool) (e : WireFault) (turns : List Turn) (a b : RigState) (result : Result U Fault) → IsErrAnd result (λ x. x ≡ fault_of e) → Q (Sends turns ∷ [])
    → GoesOn (IsBrokenOff e turns) a.calls b.calls → FaultEnds Q torn a b result
command_stops Q torn e turns a b result is allowed broken = by_fault (λ k. StopsBy Q k torn a b) (fault_of e) result is (sent_stops Q torn e turns a b allowed broken)

pub append_stops : {U : Type 0} (T : Type 0) (Q : List Step → Type 0) (torn : Bool) (entries : List Entry) (e : JournalFault) (a b : RigState) (result : Result U Fault) → IsErrAnd result (λ x. x ≡ fault_of_journal e) → Q [] → Q (Adds entries ∷ [])
    → GoesOn (AppendsOnce {T = T} (added_bytes torn entries) (Err e)) a.calls b.calls → FaultEnds Q torn a b result
append_stops T Q torn entries e a b result is none one once = by_fault (λ k. StopsBy Q k torn a b) (fault_of_journal e) result is (line_stops T Q torn entries e a b none one once)

pub memory_stops : {U : Type 0} (Q : List Step → Type 0) (torn : Bool) (xs : List Step) (a b : RigState) (result : Result U Fault) → IsErrAnd result (λ x. x ≡ faults.Memory) → Q xs → GoesOn (IsInOrder torn xs) a.calls b.calls
    → FaultEnds Q torn a b result
memory_stops Q torn xs a b result is allowed done = by_fault (λ k. StopsBy Q k torn a b) faults.Memory result is (halts Q of_memory torn xs a b allowed refl done)

pub part_stops : {U : Type 0} (P Q : List Step → Type 0) (torn : Bool) (a b : RigState) (e : Fault) (result : Result U Fault) → IsErrAnd result (λ x. x ≡ e) → ((xs : List Step) → P xs → Q xs) → StopsBy P (cause_of e) torn a b
    → FaultEnds Q torn a b result
part_stops P Q torn a b e result is weaker stops = by_fault (λ k. StopsBy Q k torn a b) e result is (stop_as P Q (cause_of e) torn a b weaker stops)

pub then_stops : {U : Type 0} (P Q : List Step → Type 0) (xs : List Step) (l l2 : Loaded) (a b c : RigState) (e : Fault) (result : Result U Fault) → IsErrAnd result (λ x. x ≡ e) → DoesSteps xs l l2 a b
    → StopsBy P (cause_of e) l2.is_torn b c → ((ys : List Step) → P ys → Q (xs ++ ys)) → FaultEnds Q l.is_torn a c result
then_stops P Q xs l l2 a b c e result is does stops longer = by_fault (λ k. StopsBy Q k l.is_torn a c) e result is (stop_after P Q (cause_of e) xs l l2 a b c does stops longer)

-- Beginnings.

-- a beginning of what comes first
pub begin_on : (P Q : List Step → Type 0) → ((xs : List Step) → P xs → (more : List Step) × Q (xs ++ more)) → (ys : List Step) → Begin P ys → Begin Q ys
begin_on P Q longer ys (rest, p) = let whole = longer (ys ++ rest) p in (rest ++ whole.0, subst Q (append_assoc ys rest whole.0) whole.1)

-- and of what comes behind it
pub begin_after : (P Q : List Step → Type 0) (xs : List Step) → ((ys : List Step) → P ys → Q (xs ++ ys)) → (ys : List Step) → Begin P ys → Begin Q (xs ++ ys)
begin_after P Q xs longer ys (rest, p) = (rest, subst Q (sym (append_assoc xs ys rest)) (longer (ys ++ rest) p))

pub begin_as : (P Q : List Step → Type 0) → ((xs : List Step) → P xs → Q xs) → (ys : List Step) → Begin P ys → Begin Q ys
begin_as P Q weaker ys (rest, p) = (rest, weaker (ys ++ rest) p)

-- all of it
pub begin_all : (P : List Step → Type 0) (xs : List Step) → P xs → Begin P xs
begin_all P xs p = ([], subst P (sym (append-nil xs)) p)

-- Blocks of a page.

-- blocks that are read behind others
reads_later : (start m : ℕ) (bytes : List ℕ) (k : ℕ) → (rest : List Step) × (read_steps start (k + m) bytes ≡ read_steps start m bytes ++ rest)
reads_later start m bytes zero =
    let none : 0 + m ≡ m = omega arith in
    ([], ap (λ (n : ℕ). read_steps start n bytes) none ∙ sym (append-nil (read_steps start m bytes)))
reads_later start m bytes (suc k) =
    let before = reads_later start m bytes k in
    let own : List Step = Sends (read_turns (start + 256 * (k + m)) (take 256 (drop (256 * (k + m)) bytes))) ∷ [] in
    let one : suc k + m ≡ suc (k + m) = omega arith in
    (before.0 ++ own, ap (λ (n : ℕ). read_steps start n bytes) one ∙ ap (λ (l : List Step). l ++ own) before.1 ∙ append_assoc (read_steps start m bytes) before.0 own)

pub reads_begin : (start count : ℕ) → Begin (AreReadsOf start count) []
reads_begin start count = (read_steps start (count / 256) (replicate count 0), record { held = replicate count 0; size = length-replicate {A = ℕ} count 0; is = refl })

-- the next block is begun, behind whole ones
pub reads_begun : (start blocks count : ℕ) (bytes : List ℕ) (ys : List Step) → length bytes ≡ 256 * blocks → 256 * suc blocks ≤ count → count % 256 ≡ 0 → Begin (IsReadOf (start + 256 * blocks) 256) ys
    → Begin (AreReadsOf start count) (read_steps start blocks bytes ++ ys)
reads_begun start blocks count bytes ys many within even (rest, read) =
    let k : ℕ = count / 256 - suc blocks in
    let total : count / 256 ≡ k + suc blocks = omega (arith, within, even) in
    let spare : List ℕ = replicate (256 * k) 0 in
    let front : List ℕ = bytes ++ read.answer in
    let held : List ℕ = front ++ spare in
    let long : length front ≡ 256 * suc blocks = omega (arith, length-append bytes read.answer, many, read.size) in
    let whole : length held ≡ count = omega (arith, length-append front spare, length-replicate {A = ℕ} (256 * k) 0, long, within, even, total) in
    let later = reads_later start (suc blocks) held k in
    let own : List Step = Sends (read_turns (start + 256 * blocks) read.answer) ∷ [] in
    let same : read_steps start (suc blocks) held ≡ read_steps start blocks bytes ++ (ys ++ rest) =
    reads_before start (suc blocks) front spare (omega (arith, long)) ∙ reads_next start blocks bytes read.answer many read.size ∙ ap (λ (l : List Step). read_steps start blocks bytes ++ l) (sym read.is) in
    let all : read_steps start (count / 256) held ≡ (read_steps start blocks bytes ++ ys) ++ (rest ++ later.0) =
    ap (λ (n : ℕ). read_steps start n held) total ∙ later.1 ∙ ap (λ (l : List Step). l ++ later.0) (same ∙ sym (append_assoc (read_steps start blocks bytes) ys rest))
    ∙ append_assoc (read_steps start blocks bytes ++ ys) rest later.0 in
    (rest ++ later.0, record { held = held; size = whole; is = sym all })

-- Pages.

-- a page was read whole
pub page_was_read : (chip : ChipData) (n : ℕ) (l : Loaded) (start size : ℕ) (bytes held : List ℕ) (a b : RigState) → start ≡ page_address chip n → size ≡ page_size chip n → held ≡ bytes
    → GoesOn (IsInOrder l.is_torn (read_steps start (size / 256) bytes)) a.calls b.calls → DoesSteps (page_reads chip n held) l l a b
page_was_read chip n l start size bytes held a b at whole same p =
    let P : List Step → Type 0 = λ steps. GoesOn (IsInOrder l.is_torn steps) a.calls b.calls in
    let is : read_steps start (size / 256) bytes ≡ page_reads chip n held = ap₂ (λ (k z : ℕ). read_steps k (z / 256) bytes) at whole ∙ ap (λ (xs : List ℕ). page_reads chip n xs) (sym same) in
    does_reads l (page_address chip n) (page_size chip n / 256) held a b (subst P is p)

-- or in part, before what it is read for
pub page_stops : (Q : List Step → Type 0) (chip : ChipData) (n start size : ℕ) (cause : Cause) (torn : Bool) (a b : RigState) → start ≡ page_address chip n → size ≡ page_size chip n
    → ((held : List ℕ) → length held ≡ page_size chip n → (more : List Step) × Q (page_reads chip n held ++ more)) → StopsBy (Begin (AreReadsOf start size)) cause torn a b → StopsBy (Begin Q) cause torn a b
page_stops Q chip n start size cause torn a b at whole finish stops = stop_as (Begin (AreReadsOf start size)) (Begin Q) cause torn a b (begin_on (AreReadsOf start size) Q finished) stops
  where
    finished : (xs : List Step) → AreReadsOf start size xs → (more : List Step) × Q (xs ++ more)
    finished xs reads =
        let made = finish reads.held (reads.size ∙ whole) in
        let is : page_reads chip n reads.held ≡ xs = ap₂ (λ (k z : ℕ). read_steps k (z / 256) reads.held) (sym at) (sym whole) ∙ sym reads.is in
        let P : List Step → Type 0 = λ l. Q (l ++ made.0) in
        (made.0, subst P is made.1)

-- Frames that write.
