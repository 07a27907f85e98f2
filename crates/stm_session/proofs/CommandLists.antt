-- Lists of commands, one after another: what they change, answer and add to a journal.
use Rattle.std.proofs.Common.{◌≡◌, ℕ, suc, ◌+◌, ◌≤◌, Bool, true, false, if◌then◌else◌, List, [], ◌∷◌, ◌++◌, length, reverse, Option, Some, None, Result, Ok, Err, refl, sym, ap, ap₂, ◌∙◌, arith, append_assoc, append-nil}
use Rattle.std.specs.Prelude.{is_none}
use Rattle.std.proofs.lemmas.List.{reverse-append, length-append}
use Rattle.std.proofs.lemmas.List.Elements.{filter-append}
use Rattle.std.proofs.lemmas.List.Sums.{fold_push}
use Rattle.stm_wire.proofs.Names.{ChipData}
use Rattle.stm_journal.specs.declared.entry.Entry.{Entry}
use Rattle.stm_session.proofs.Names.{agreeing, agrees, answers_of, before_if, changes_of, CommandData, first_difference, flash_after, flash_after_all, flashes_before, in_front_of, is_change, lines_if}
use Rattle.stm_session.proofs.Names.{outcome_of, OutcomeData, run_entries, segment_entries, segments_of_command, verified_or, verifies}
use Rattle.stm_session.specs.Meaning.{reads}
use Rattle.stm_session.proofs.Whole.{same-after}

-- the commands that begin a segment
pub changes-append : (xs ys : List CommandData) → changes_of (xs ++ ys) ≡ changes_of xs ++ changes_of ys
changes-append xs ys = filter-append is_change xs ys

pub changes-one : (c : CommandData) → length (changes_of (c ∷ [])) ≡ segments_of_command c
changes-one c = at (is_change c)
  where
    at : (b : Bool) → length (if b then c ∷ [] else []) ≡ (if b then 1 else 0)
    at true = refl
    at false = refl

pub changes-push : (xs : List CommandData) (c : CommandData) → length (changes_of (xs ++ c ∷ [])) ≡ length (changes_of xs) + segments_of_command c
changes-push xs c = ap length (changes-append xs (c ∷ [])) ∙ length-append (changes_of xs) (changes_of (c ∷ [])) ∙ ap (λ (n : ℕ). length (changes_of xs) + n) (changes-one c)

-- alone they leave the same flash
pub after-changes : (chip : ChipData) (flash : List ℕ) (xs : List CommandData) → flash_after_all chip flash (changes_of xs) ≡ flash_after_all chip flash xs
after-changes chip flash [] = refl
after-changes chip flash (x ∷ xs) = at (is_change x) refl (λ f. after-changes chip f xs)
  where
    at : (b : Bool) → is_change x ≡ b → ((f : List ℕ) → flash_after_all chip f (changes_of xs) ≡ flash_after_all chip f xs)
        → flash_after_all chip flash (if b then x ∷ changes_of xs else changes_of xs) ≡ flash_after_all chip (flash_after chip flash x) xs
    at true e later = later (flash_after chip flash x)
    at false e later = later flash ∙ ap (λ (f : List ℕ). flash_after_all chip f xs) (sym (same-after chip flash x e))

pub after-push : (chip : ChipData) (flash : List ℕ) (xs : List CommandData) (c : CommandData) → flash_after_all chip flash (xs ++ c ∷ []) ≡ flash_after chip (flash_after_all chip flash xs) c
after-push chip flash xs c = fold_push (flash_after chip) flash xs c

-- the flashes before them
before_if-append : (b : Bool) (flash : List ℕ) (xs ys : List (List ℕ)) → before_if b flash (xs ++ ys) ≡ before_if b flash xs ++ ys
before_if-append true flash xs ys = refl
before_if-append false flash xs ys = refl

pub before-append : (chip : ChipData) (flash : List ℕ) (xs ys : List CommandData) → flashes_before chip flash (xs ++ ys) ≡ flashes_before chip flash xs ++ flashes_before chip (flash_after_all chip flash xs) ys
before-append chip flash [] ys = refl
before-append chip flash (x ∷ xs) ys =
    ap (before_if (is_change x) flash) (before-append chip (flash_after chip flash x) xs ys)
    ∙ before_if-append (is_change x) flash (flashes_before chip (flash_after chip flash x) xs) (flashes_before chip (flash_after_all chip flash (x ∷ xs)) ys)

pub before-push : (chip : ChipData) (flash : List ℕ) (xs : List CommandData) (c : CommandData) (flashes : List (List ℕ))
    → reverse (flashes_before chip flash (xs ++ c ∷ [])) ++ flashes ≡ before_if (is_change c) (flash_after_all chip flash xs) (reverse (flashes_before chip flash xs) ++ flashes)
before-push chip flash xs c flashes =
    ap (λ (fs : List (List ℕ)). reverse fs ++ flashes) (before-append chip flash xs (c ∷ []))
    ∙ at (is_change c)
  where
    hs : List (List ℕ)
    hs = flashes_before chip flash xs

    now : List ℕ
    now = flash_after_all chip flash xs

    at : (b : Bool) → reverse (hs ++ before_if b now []) ++ flashes ≡ before_if b now (reverse hs ++ flashes)
    at true = ap (λ (fs : List (List ℕ)). fs ++ flashes) (reverse-append hs (now ∷ []))
    at false = ap (λ (fs : List (List ℕ)). reverse fs ++ flashes) (append-nil hs)

-- a journal names a device once a segment was begun
abbrev pub named_after : Bool → List CommandData → Bool
named_after named [] = named
named_after named (c ∷ commands) = if is_change c then named_after true commands else named_after named commands

pub still-named : (commands : List CommandData) → named_after true commands ≡ true
still-named [] = refl
still-named (c ∷ commands) = at (is_change c) (still-named commands)
  where
    at : (b : Bool) → named_after true commands ≡ true → (if b then named_after true commands else named_after true commands) ≡ true
    at true later = later
    at false later = later

pub named-by-changes : (named : Bool) (commands : List CommandData) → 1 ≤ length (changes_of commands) → named_after named commands ≡ true
named-by-changes named [] some = absurd (omega (arith, some))
named-by-changes named (c ∷ commands) some = at (is_change c) some (named-by-changes named commands)
  where
    at : (b : Bool) → 1 ≤ length (if b then c ∷ changes_of commands else changes_of commands) → (1 ≤ length (changes_of commands) → named_after named commands ≡ true)
        → (if b then named_after true commands else named_after named commands) ≡ true
    at true le later = still-named commands
    at false le later = later le

pub named-as-before : (named : Bool) (commands : List CommandData) → length (changes_of commands) ≡ 0 → named_after named commands ≡ named
named-as-before named [] none = refl
named-as-before named (c ∷ commands) none = at (is_change c) none (named-as-before named commands)
  where
    at : (b : Bool) → length (if b then c ∷ changes_of commands else changes_of commands) ≡ 0 → (length (changes_of commands) ≡ 0 → named_after named commands ≡ named)
        → (if b then named_after true commands else named_after named commands) ≡ named
    at true e later = absurd (omega (arith, e))
    at false e later = later e

-- the lines that they add
pub entries-none : (named : Bool) (chip : ChipData) (below : ℕ) (flash : List ℕ) (commands : List CommandData) → length (changes_of commands) ≡ 0 → run_entries named chip below flash commands ≡ []
entries-none named chip below flash [] none = refl
entries-none named chip below flash (c ∷ commands) none = at (is_change c) none (entries-none named chip below flash commands)
  where
    at : (b : Bool) → length (if b then c ∷ changes_of commands else changes_of commands) ≡ 0 → (length (changes_of commands) ≡ 0 → run_entries named chip below flash commands ≡ [])
        → (if b then segment_entries named chip (below + 1) flash (flash_after chip flash c) ++ run_entries true chip (below + 1) (flash_after chip flash c) commands else run_entries named chip below flash commands) ≡ []
    at true e later = absurd (omega (arith, e))
    at false e later = later e

pub entries-append : (named : Bool) (chip : ChipData) (below : ℕ) (flash : List ℕ) (xs ys : List CommandData)
    → run_entries named chip below flash (xs ++ ys) ≡ run_entries named chip below flash xs ++ run_entries (named_after named xs) chip (below + length (changes_of xs)) (flash_after_all chip flash xs) ys
entries-append named chip below flash [] ys = ap (λ (k : ℕ). run_entries named chip k flash ys) (omega arith)
entries-append named chip below flash (x ∷ xs) ys = at (is_change x) refl (λ n k f. entries-append n chip k f xs ys)
  where
    next : List ℕ
    next = flash_after chip flash x

    segment : List Entry
    segment = segment_entries named chip (below + 1) flash next

    at : (b : Bool) → is_change x ≡ b
        → ((n : Bool) (k : ℕ) (f : List ℕ) → run_entries n chip k f (xs ++ ys) ≡ run_entries n chip k f xs ++ run_entries (named_after n xs) chip (k + length (changes_of xs)) (flash_after_all chip f xs) ys)
        → (if b then segment ++ run_entries true chip (below + 1) next (xs ++ ys) else run_entries named chip below flash (xs ++ ys))
        ≡ (if b then segment ++ run_entries true chip (below + 1) next xs else run_entries named chip below flash xs)
        ++ run_entries (if b then named_after true xs else named_after named xs) chip (below + length (if b then x ∷ changes_of xs else changes_of xs)) (flash_after_all chip next xs) ys
    at true e later =
        ap (λ (es : List Entry). segment ++ es)
        (later true (below + 1) next
        ∙ ap (λ (k : ℕ). run_entries true chip (below + 1) next xs ++ run_entries (named_after true xs) chip k (flash_after_all chip next xs) ys) (omega arith))
        ∙ sym (append_assoc segment (run_entries true chip (below + 1) next xs) (run_entries (named_after true xs) chip (below + suc (length (changes_of xs))) (flash_after_all chip next xs) ys))
    at false e later =
        later named below flash
        ∙ ap (λ (f : List ℕ). run_entries named chip below flash xs ++ run_entries (named_after named xs) chip (below + length (changes_of xs)) (flash_after_all chip f xs) ys) (sym (same-after chip flash x e))

pub entries-one : (named : Bool) (chip : ChipData) (below : ℕ) (flash : List ℕ) (c : CommandData)
    → run_entries named chip below flash (c ∷ []) ≡ lines_if (is_change c) (segment_entries named chip (below + 1) flash (flash_after chip flash c))
entries-one named chip below flash c = at (is_change c)
  where
    segment : List Entry
    segment = segment_entries named chip (below + 1) flash (flash_after chip flash c)

    at : (b : Bool) → (if b then segment ++ [] else []) ≡ lines_if b segment
    at true = append-nil segment
    at false = refl

-- what a command answers, and whether it agrees
pub answer-agrees : (chip : ChipData) (k : ℕ) (flash : List ℕ) (c : CommandData) (said : OutcomeData) → outcome_of chip k flash c ≡ Ok said → agrees chip flash c ≡ true
answer-agrees chip k flash (verifies image) said e = at (first_difference image chip.base flash) e
  where
    at : (o : Option ℕ) → verified_or o ≡ Ok said → is_none o ≡ true
    at None e = refl
    at (Some address) e = cc
answer-agrees chip k flash c said e = refl

pub difference-disagrees : (chip : ChipData) (k : ℕ) (flash : List ℕ) (c : CommandData) (address : ℕ) → outcome_of chip k flash c ≡ Err address → agrees chip flash c ≡ false
difference-disagrees chip k flash (verifies image) address e = at (first_difference image chip.base flash) e
  where
    at : (o : Option ℕ) → verified_or o ≡ Err address → is_none o ≡ false
    at None e = cc
    at (Some a) e = refl
difference-disagrees chip k flash c address e = cc

pub change-agrees : (chip : ChipData) (flash : List ℕ) (c : CommandData) → is_change c ≡ true → agrees chip flash c ≡ true
change-agrees chip flash (verifies image) e = cc
change-agrees chip flash (reads start size) e = cc
change-agrees chip flash c e = refl

-- answers of more than one command
record IsInFront (first : Result OutcomeData ℕ) (rest : Result (List OutcomeData) ℕ) (all : List OutcomeData) : Type 0 where
  said : OutcomeData
  later : List OutcomeData
  is_first : first ≡ Ok said
  is_rest : rest ≡ Ok later
  is_all : all ≡ said ∷ later

in_front : (first : Result OutcomeData ℕ) (rest : Result (List OutcomeData) ℕ) (all : List OutcomeData) → in_front_of first rest ≡ Ok all → IsInFront first rest all
in_front (Err address) rest all e = cc
in_front (Ok said) (Err address) all e = cc
in_front (Ok said) (Ok later) all e = record { said = said; later = later; is_first = refl; is_rest = refl; is_all = cc }

pub answers-push : (chip : ChipData) (below : ℕ) (flash : List ℕ) (xs : List CommandData) (c : CommandData) (all : List OutcomeData) (said : OutcomeData) → answers_of chip below flash xs ≡ Ok all
    → outcome_of chip (below + length (changes_of xs) + 1) (flash_after_all chip flash xs) c ≡ Ok said → answers_of chip below flash (xs ++ c ∷ []) ≡ Ok (all ++ said ∷ [])
answers-push chip below flash [] c all said first next =
    let n : below + 0 + 1 ≡ below + 1 = omega arith in
    let o : outcome_of chip (below + 1) flash c ≡ Ok said = ap (λ (k : ℕ). outcome_of chip k flash c) (sym n) ∙ next in
    let none : [] ≡ all = given first in
    ap (λ r. in_front_of r (Ok [])) o ∙ ap (λ (xs : List OutcomeData). let r : Result (List OutcomeData) ℕ = Ok (xs ++ said ∷ []) in r) none
  where
    given : answers_of chip below flash [] ≡ Ok all → [] ≡ all
    given e = cc
answers-push chip below flash (x ∷ xs) c all said first next =
    let split = in_front (outcome_of chip (below + 1) flash x) (answers_of chip (below + segments_of_command x) (flash_after chip flash x) xs) all first in
    let n : below + length (changes_of (x ∷ xs)) + 1 ≡ below + segments_of_command x + length (changes_of xs) + 1 = count (is_change x) in
    let now = flash_after_all chip flash (x ∷ xs) in
    let rest = answers-push chip (below + segments_of_command x) (flash_after chip flash x) xs c split.later said split.is_rest (ap (λ (k : ℕ). outcome_of chip k now c) (sym n) ∙ next) in
    ap₂ (λ a b. in_front_of a b) split.is_first rest ∙ ap (λ (ys : List OutcomeData). let r : Result (List OutcomeData) ℕ = Ok (ys ++ said ∷ []) in r) (sym split.is_all)
  where
    count : (b : Bool) → below + length (if b then x ∷ changes_of xs else changes_of xs) + 1 ≡ below + (if b then 1 else 0) + length (changes_of xs) + 1
    count true = omega arith
    count false = omega arith

pub answers-differ : (chip : ChipData) (below : ℕ) (flash : List ℕ) (xs : List CommandData) (c : CommandData) (ys : List CommandData) (all : List OutcomeData) (address : ℕ) → answers_of chip below flash xs ≡ Ok all
    → outcome_of chip (below + length (changes_of xs) + 1) (flash_after_all chip flash xs) c ≡ Err address → answers_of chip below flash (xs ++ c ∷ ys) ≡ Err address
answers-differ chip below flash [] c ys all address first next =
    let n : below + 0 + 1 ≡ below + 1 = omega arith in
    let o : outcome_of chip (below + 1) flash c ≡ Err address = ap (λ (k : ℕ). outcome_of chip k flash c) (sym n) ∙ next in
    ap (λ r. in_front_of r (answers_of chip (below + segments_of_command c) (flash_after chip flash c) ys)) o
answers-differ chip below flash (x ∷ xs) c ys all address first next =
    let split = in_front (outcome_of chip (below + 1) flash x) (answers_of chip (below + segments_of_command x) (flash_after chip flash x) xs) all first in
    let n : below + length (changes_of (x ∷ xs)) + 1 ≡ below + segments_of_command x + length (changes_of xs) + 1 = count (is_change x) in
    let now = flash_after_all chip flash (x ∷ xs) in
    let rest = answers-differ chip (below + segments_of_command x) (flash_after chip flash x) xs c ys split.later address split.is_rest (ap (λ (k : ℕ). outcome_of chip k now c) (sym n) ∙ next) in
    ap₂ (λ a b. in_front_of a b) split.is_first rest
  where
    count : (b : Bool) → below + length (if b then x ∷ changes_of xs else changes_of xs) + 1 ≡ below + (if b then 1 else 0) + length (changes_of xs) + 1
    count true = omega arith
    count false = omega arith

-- the commands before the first that doesn't agree: those that were answered, and more
pub agreeing-append : (chip : ChipData) (below : ℕ) (flash : List ℕ) (xs ys : List CommandData) (all : List OutcomeData) → answers_of chip below flash xs ≡ Ok all
    → agreeing chip flash (xs ++ ys) ≡ xs ++ agreeing chip (flash_after_all chip flash xs) ys
agreeing-append chip below flash [] ys all first = refl
agreeing-append chip below flash (x ∷ xs) ys all first =
    let split = in_front (outcome_of chip (below + 1) flash x) (answers_of chip (below + segments_of_command x) (flash_after chip flash x) xs) all first in
    let next = flash_after chip flash x in
    ap (λ (b : Bool). if b then x ∷ agreeing chip next (xs ++ ys) else []) (answer-agrees chip (below + 1) flash x split.said split.is_first)
    ∙ ap (λ (cs : List CommandData). x ∷ cs) (agreeing-append chip (below + segments_of_command x) next xs ys split.later split.is_rest)
