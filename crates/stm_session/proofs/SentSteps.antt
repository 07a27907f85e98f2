-- What steps put on any line, whole or cut short: frames of a chip, each in as many calls as it has turns.
use Rattle.std.proofs.Common.{◌≡◌, ⊎_elim, ℕ, ◌+◌, ◌≤◌, Bool, true, false, List, [], ◌∷◌, ◌++◌, length, Option, Some, None, Result, Ok, Err, refl, sym, ◌∙◌, ap, subst, arith}
use Rattle.std.specs.Prelude.{IfOk}
use Rattle.stm_wire.specs.declared.fault.WireFault.{WireFault}
use Rattle.stm_wire.specs.declared.fault.WireFault.TheVariants.{Line}
use Rattle.stm_wire.proofs.Names.{Append, Call, calls_of, ChipData, Get, gets_of, GoesOn, IsBrokenOff, IsFrame, IsPart, Put, puts_of, RigState, sent_bytes, Turn}
use Rattle.stm_wire.specs.lemmas.DialogueLaws.{GoesOn-weaker}
use Rattle.stm_wire.specs.lemmas.PartLaws.{broken_is_part, held_is_part, part_longer, parts_join, silent_is_part}
use Rattle.stm_journal.proofs.Names.{added_bytes, Loaded}
use Rattle.stm_session.proofs.Names.{acts_of, acts_of_steps, Adds, AreCutShort, Cause, cause_of, Fault, FaultEnds, Follows, is_whole, is_whole_at, IsInOrder, leaves_whole, of_file, of_line, of_memory}
use Rattle.stm_session.proofs.Names.{of_protocol, of_refusal, of_session, Sends, Step, step_in, StepFailsBy, StopsBy, torn_behind}

-- how many calls their frames are
abbrev pub count_of : List Step → ℕ
count_of [] = 0
count_of (Adds entries ∷ steps) = count_of steps
count_of (Sends turns ∷ steps) = length turns + count_of steps

abbrev pub AreSent : Option ChipData → List Step → Type 0
AreSent chip [] = Unit {0}
AreSent chip (Adds entries ∷ steps) = AreSent chip steps
AreSent chip (Sends turns ∷ steps) = IsFrame chip (sent_bytes turns) × AreSent chip steps

-- steps that put frames of this chip alone, and few
pub record PutFew (chip : Option ChipData) (most : ℕ) (steps : List Step) : Type 0 where
  pub sent : AreSent chip steps
  pub few : count_of steps ≤ most

pub sent_then : (chip : Option ChipData) (xs ys : List Step) → AreSent chip xs → AreSent chip ys → AreSent chip (xs ++ ys)
sent_then chip [] ys p q = q
sent_then chip (Adds entries ∷ xs) ys p q = sent_then chip xs ys p q
sent_then chip (Sends turns ∷ xs) ys (first, p) q = (first, sent_then chip xs ys p q)

pub sent_parts : (chip : Option ChipData) (xs ys : List Step) → AreSent chip (xs ++ ys) → AreSent chip xs × AreSent chip ys
sent_parts chip [] ys p = (tt, p)
sent_parts chip (Adds entries ∷ xs) ys p = sent_parts chip xs ys p
sent_parts chip (Sends turns ∷ xs) ys (first, p) = let parts = sent_parts chip xs ys p in ((first, parts.0), parts.1)

pub count-append : (xs ys : List Step) → count_of (xs ++ ys) ≡ count_of xs + count_of ys
count-append [] ys = omega arith
count-append (Adds entries ∷ xs) ys = count-append xs ys
count-append (Sends turns ∷ xs) ys = omega (arith, count-append xs ys)

module _ (chip : Option ChipData) where
  pub put_none : (most : ℕ) → PutFew chip most []
  put_none most = record { sent = tt; few = omega arith }

  pub put_as : (m n : ℕ) (xs ys : List Step) → m ≤ n → ys ≡ xs → PutFew chip m xs → PutFew chip n ys
  put_as m n xs ys le is p =
      let P : List Step → Type 0 = λ zs. PutFew chip n zs in
      subst P (sym is) (record { sent = p.sent; few = omega (arith, le, p.few) })

  pub put_then : (m n : ℕ) (xs ys : List Step) → PutFew chip m xs → PutFew chip n ys → PutFew chip (m + n) (xs ++ ys)
  put_then m n xs ys p q = record { sent = sent_then chip xs ys p.sent q.sent; few = omega (arith, count-append xs ys, p.few, q.few) }

  -- a beginning of such steps
  pub put_front : (most : ℕ) (xs ys : List Step) → PutFew chip most (xs ++ ys) → PutFew chip most xs
  put_front most xs ys p = record { sent = (sent_parts chip xs ys p.sent).0; few = omega (arith, count-append xs ys, p.few) }

-- Of calls that were recorded from the first on.

at_once : (P : List Call → Type 0) (calls : List Call) → GoesOn P (Some []) (Some calls) → P calls
at_once P calls (all, is, p) = let same : all ≡ calls = cc in subst P same p

part_as : (chip : Option ChipData) (whole : Bool) (m n : ℕ) (calls : List Call) → m ≤ n → IsPart chip whole m calls → IsPart chip whole n calls
part_as chip whole m n calls le p = at_once (IsPart chip whole n) calls (part_longer chip whole m n (Some []) (Some calls) le (calls, refl, p))

part_then : (chip : Option ChipData) (whole : Bool) (m n : ℕ) (xs ys : List Call) → IsPart chip true m xs → IsPart chip whole n ys → IsPart chip whole (m + n) (xs ++ ys)
part_then chip whole m n xs ys p q = at_once (IsPart chip whole (m + n)) (xs ++ ys) (parts_join chip whole m n (Some []) (Some xs) (Some (xs ++ ys)) (xs, refl, p) (ys, refl, q))

-- calls that put and get nothing
silent : (chip : Option ChipData) (whole : Bool) (calls : List Call) → puts_of calls ≡ [] → gets_of calls ≡ 0 → IsPart chip whole 0 calls
silent chip whole calls puts gets =
    let P : List Call → Type 0 = λ xs. (puts_of xs ≡ []) × (gets_of xs ≡ 0) in
    at_once (IsPart chip whole 0) calls (silent_is_part chip whole 0 P (Some []) (Some calls) (λ xs x. x.0) (λ xs x. x.1) (calls, refl, (puts, gets)))

no_calls : (chip : Option ChipData) (whole : Bool) (calls : List Call) → calls ≡ [] → IsPart chip whole 0 calls
no_calls chip whole calls is = silent chip whole calls (ap puts_of is) (ap gets_of is)

module _ (chip : Option ChipData) where
  steps_part : (torn : Bool) (steps : List Step) → AreSent chip steps → IsPart chip true (count_of steps) (acts_of_steps torn steps)
  steps_part torn [] sent = no_calls chip true [] refl
  steps_part torn (Adds entries ∷ steps) sent =
      let add : List Call = Append (added_bytes torn entries) ∷ [] in
      part_as chip true (0 + count_of steps) (count_of steps) (add ++ acts_of_steps false steps) (omega arith)
      (part_then chip true 0 (count_of steps) add (acts_of_steps false steps) (silent chip true add refl refl) (steps_part false steps sent))
  steps_part torn (Sends turns ∷ steps) (is, sent) =
      let own = at_once (IsPart chip true (length turns)) (calls_of turns) (held_is_part chip (length turns) (sent_bytes turns) turns (Some []) (Some (calls_of turns)) refl is (omega arith) refl) in
      part_then chip true (length turns) (count_of steps) (calls_of turns) (acts_of_steps torn steps) own (steps_part torn steps sent)

  broken : (fault : WireFault) (turns : List Turn) (last : List Call) → IsFrame chip (sent_bytes turns) → IsBrokenOff fault turns last → IsPart chip false (length turns + 0) last
  broken fault turns last is off =
      part_as chip false (length turns) (length turns + 0) last (omega arith)
      (at_once (IsPart chip false (length turns)) last (broken_is_part chip (length turns) (sent_bytes turns) turns fault (Some []) (Some last) refl is (omega arith) (last, refl, off)))

  failed_part : (cause : Cause) (torn : Bool) (failed : Option Step) (last : List Call) → AreSent chip (step_in failed) → StepFailsBy cause torn failed last → IsPart chip (leaves_whole cause) (count_of (step_in failed)) last
  failed_part of_line torn (Some (Sends turns)) last sent fails = broken Line turns last sent.0 fails
  failed_part of_protocol torn (Some (Sends turns)) last sent fails = broken fails.0 turns last sent.0 fails.2
  failed_part of_file torn (Some (Adds entries)) last sent fails = ⊎_elim (no_calls chip true last) (λ part. silent chip true last (ap puts_of part.1) (ap gets_of part.1)) fails
  failed_part of_file torn None last sent fails = no_calls chip true last fails
  failed_part of_memory torn None last sent fails = no_calls chip true last fails
  failed_part of_session torn None last sent fails = no_calls chip true last fails
  failed_part of_refusal torn None last sent fails = no_calls chip true last fails
  failed_part _ torn failed last sent fails = absurd fails

  cut_part : (cause : Cause) (torn : Bool) (most : ℕ) (Q : List Step → Type 0) (acts : List Call) → ((xs : List Step) → Q xs → PutFew chip most xs) → AreCutShort Q cause torn acts → IsPart chip (leaves_whole cause) most acts
  cut_part cause torn most Q acts few cut =
      let last = step_in cut.failed in
      let all = few (cut.done ++ last) cut.allowed in
      let parts = sent_parts chip cut.done last all.sent in
      let P : List Call → Type 0 = λ xs. IsPart chip (leaves_whole cause) most xs in
      subst P (sym cut.is)
      (part_as chip (leaves_whole cause) (count_of cut.done + count_of last) most (acts_of_steps torn cut.done ++ cut.last) (omega (arith, count-append cut.done last, all.few))
      (part_then chip (leaves_whole cause) (count_of cut.done) (count_of last) (acts_of_steps torn cut.done) cut.last (steps_part torn cut.done parts.0)
      (failed_part cause (torn_behind torn cut.done) cut.failed cut.last parts.1 cut.fails)))

-- fetches put and get nothing
puts-acts : (calls : List Call) → puts_of (acts_of calls) ≡ puts_of calls
puts-acts [] = refl
puts-acts (Put byte ∷ calls) = ap (λ (xs : List ℕ). byte ∷ xs) (puts-acts calls)
puts-acts (call ∷ calls) = puts-acts calls

gets-acts : (calls : List Call) → gets_of (acts_of calls) ≡ gets_of calls
gets-acts [] = refl
gets-acts (Get answer ∷ calls) = ap (λ (n : ℕ). 1 + n) (gets-acts calls)
gets-acts (call ∷ calls) = gets-acts calls

acts_part : (chip : Option ChipData) (whole : Bool) (most : ℕ) (calls : List Call) → IsPart chip whole most (acts_of calls) → IsPart chip whole most calls
acts_part chip whole most calls p =
    record {
      frames = p.frames;
      are_frames = p.are_frames;
      unsent = p.unsent;
      all_sent = p.all_sent;
      sent = ap (λ (xs : List ℕ). xs ++ p.unsent) (sym (puts-acts calls)) ∙ p.sent;
      few = omega (arith, p.few, ap (λ (xs : List ℕ). length xs) (puts-acts calls), gets-acts calls);
    }

-- Such steps were done,
pub done_puts : (chip : Option ChipData) (most : ℕ) (steps : List Step) (torn : Bool) (a b : RigState) → PutFew chip most steps
    → GoesOn (IsInOrder torn steps) a.calls b.calls → GoesOn (IsPart chip true most) a.calls b.calls
done_puts chip most steps torn a b few acts =
    GoesOn-weaker (IsInOrder torn steps) (IsPart chip true most) a.calls b.calls acts
    (λ calls is.
    let R : List Call → Type 0 = λ xs. IsPart chip true most xs in
    acts_part chip true most calls (subst R (sym is) (part_as chip true (count_of steps) most (acts_of_steps torn steps) few.few (steps_part chip torn steps few.sent))))

-- or a fault ended such,
pub stopped_puts : (chip : Option ChipData) (most : ℕ) (Q : List Step → Type 0) (e : Fault) (torn : Bool) (a b : RigState) → ((xs : List Step) → Q xs → PutFew chip most xs) → StopsBy Q (cause_of e) torn a b
    → GoesOn (IsPart chip (is_whole_at e) most) a.calls b.calls
stopped_puts chip most Q e torn a b few stops =
    GoesOn-weaker (λ calls. AreCutShort Q (cause_of e) torn (acts_of calls)) (IsPart chip (is_whole_at e) most) a.calls b.calls stops
    (λ calls short. acts_part chip (is_whole_at e) most calls (cut_part chip (cause_of e) torn most Q (acts_of calls) few short))

-- by the answer.
pub steps_put : {T : Type 0} (chip : Option ChipData) (most : ℕ) (P : T → List Step → Type 0) (Q : List Step → Type 0) (l l2 : Loaded) (a b : RigState) (result : Result T Fault)
    → ((x : T) (xs : List Step) → P x xs → PutFew chip most xs) → ((xs : List Step) → Q xs → PutFew chip most xs) → IfOk result (λ x. Follows (P x) l l2 a b) → FaultEnds Q l.is_torn a b result
    → GoesOn (IsPart chip (is_whole result) most) a.calls b.calls
steps_put chip most P Q l l2 a b (Ok x) done cut (steps, p, does) stops = done_puts chip most steps l.is_torn a b (done x steps p) does.acts
steps_put chip most P Q l l2 a b (Err e) done cut order stops = stopped_puts chip most Q e l.is_torn a b cut stops
