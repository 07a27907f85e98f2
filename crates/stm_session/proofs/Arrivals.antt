-- One block more came.
use Rattle.std.proofs.Common.{◌≡◌, ℕ, ◌+◌, List, [], ◌∷◌, ◌++◌, length, None, refl, sym, ◌∙◌, ap, subst, arith, append_assoc, append-nil, length-append, Bool, true, false, Result, Ok, Err, IsErrAnd}
use Rattle.std.specs.List.{AllByRecursion}
use Rattle.std.proofs.lemmas.Bool.{true≢false}
use Rattle.stm_image.specs.Pairs.{Pairs, IsNext}
use Rattle.stm_wire.proofs.Names.{ChipData, read_turns, RigState}
use Rattle.stm_session.proofs.Names.{Adds, AgreeInBlocks, cause_of, ComeInBlocks, CommandData, Fault, FaultEnds, FaultTells, first_difference, is_change, IsBegunBy, IsBegunIf, IsBegunTelling}
use Rattle.stm_session.proofs.Names.{IsReading, IsRefusal, Sends, Step, StopsBy, StopsTelling, verifies}
use Rattle.stm_journal.proofs.Names.{StateData}
use Rattle.stm_session.specs.declared.fault.Fault.TheVariants as fault
use Rattle.stm_session.specs.Meaning.{writes, erases, reads}
use Rattle.stm_session.proofs.CutShort.{stop_as}
use Rattle.stm_session.proofs.Reaching.{at_fault}

pub come_more : (start address : ℕ) (bytes answer : List ℕ) (xs : List Step) → address ≡ start + length bytes → ComeInBlocks start bytes xs → ComeInBlocks start (bytes ++ answer) (xs ++ Sends (read_turns address answer) ∷ [])
come_more start address bytes answer [] at come =
    let none : length bytes ≡ 0 = ap (λ (l : List ℕ). length l) come in
    let here : address ≡ start = omega (arith, at, none) in
    (answer, [], ap (λ (a : ℕ). read_turns a answer) here, ap (λ (l : List ℕ). l ++ answer) come ∙ sym (append-nil answer), refl)
come_more start address bytes answer (Adds entries ∷ xs) at come = absurd come
come_more start address bytes answer (Sends turns ∷ xs) at (first, later, is, e, rest) =
    let long : length bytes ≡ length first + length later = ap (λ (l : List ℕ). length l) e ∙ length-append first later in
    (first, later ++ answer, is, ap (λ (l : List ℕ). l ++ answer) e ∙ append_assoc first later answer, come_more (start + length first) address later answer xs (omega (arith, at, long)) rest)

pub agree_more : (image : Pairs) (from mid : ℕ) (next : ℕ × ℕ) (answer : List ℕ) (xs : List Step) → AgreeInBlocks image from mid xs → IsNext image mid next → first_difference image next.0 answer ≡ None
    → AgreeInBlocks image from (next.0 + length answer) (xs ++ Sends (read_turns next.0 answer) ∷ [])
agree_more image from mid next answer [] agree is none = (next, answer, subst (λ (m : ℕ). IsNext image m next) (sym agree) is, refl, none, refl)
agree_more image from mid next answer (Adds entries ∷ xs) agree is none = absurd agree
agree_more image from mid next answer (Sends turns ∷ xs) (first, came, is_next, sent, agrees, rest) is none =
    (first, came, is_next, sent, agrees, agree_more image (first.0 + length came) mid next answer xs rest is none)

-- Faults that tell no difference.
pub tells_unless : (e : Fault) (chip : ChipData) (c : CommandData) (steps : List Step) → (IsRefusal e → ⊥) → FaultTells e chip c steps
tells_unless (fault.Differs address) chip c steps other = absurd (other tt)
tells_unless e chip c steps other = tt

-- a write and an erase
pub change_tells : (e : Fault) (chip : ChipData) (c : CommandData) (steps : List Step) → is_change c ≡ true → FaultTells e chip c steps
change_tells (fault.Differs address) chip (writes image) steps change = tt
change_tells (fault.Differs address) chip (erases pages) steps change = tt
change_tells (fault.Differs address) chip (verifies image) steps change = absurd (true≢false (sym change))
change_tells (fault.Differs address) chip (reads start size) steps change = absurd (true≢false (sym change))
change_tells e chip c steps change = tt

pub change_stops : {T : Type 0} (chip : ChipData) (c : CommandData) (s : StateData) (torn : Bool) (a b : RigState) (result : Result T Fault) → is_change c ≡ true → FaultEnds (IsBegunBy chip c s) torn a b result
    → StopsTelling (IsBegunTelling chip c s) torn a b result
change_stops chip c s torn a b (Ok x) change stops = tt
change_stops chip c s torn a b (Err e) change stops = stop_as (IsBegunBy chip c s) (IsBegunTelling chip c s e) (cause_of e) torn a b (λ xs begun. (begun, change_tells e chip c xs change)) stops

-- reads that were broken off
pub reading_stops : {U : Type 0} (chip : ChipData) (c : CommandData) (s : StateData) (torn : Bool) (a b : RigState) (e : Fault) (result : Result U Fault) → is_change c ≡ false → IsErrAnd result (λ x. x ≡ e) → (IsRefusal e → ⊥)
    → StopsBy (AllByRecursion (IsReading chip)) (cause_of e) torn a b → StopsTelling (IsBegunTelling chip c s) torn a b result
reading_stops chip c s torn a b e result change is other stops =
    let P : Fault → Type 0 = λ x. StopsBy (IsBegunTelling chip c s x) (cause_of x) torn a b in
    let Q : Bool → List Step → Type 0 = λ k xs. IsBegunIf k chip c s xs in
    at_fault P e result is (stop_as (AllByRecursion (IsReading chip)) (IsBegunTelling chip c s e) (cause_of e) torn a b (λ xs are. (let R : Bool → Type 0 = λ k. Q k xs in subst R (sym change) are, tells_unless e chip c xs other)) stops)
