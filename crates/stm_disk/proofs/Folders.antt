-- Programs that add to a file only while they hold its lock add one behind the other.
use Rattle.std.proofs.Common.{◌≡◌, ◌≤◌, ◌⊎◌, inl, inr, ℕ, List, [], ◌∷◌, ◌++◌, length, map, true}
use Rattle.std.proofs.Common.{true≢false, Option, Some, None, is_none, refl, sym, ◌∙◌, ap, arith}
use Rattle.std.proofs.lemmas.Bool.{cases_Bool}
use Rattle.std.specs.Option.{option_map}
use Rattle.stm_disk.specs.Crash.{MayBeLeft}
use Rattle.stm_disk.specs.Folder.{Folder, Doing, Makes, Locks, LetsGo, SyncsFolder, Adds, SyncsFile}
use Rattle.stm_disk.specs.Folder.{FolderStep, folder_step, done, IsLet, IsCareful, after, CanHappen, IsStepAmong}
use Rattle.stm_disk.specs.Folder.{IsEmptyUnlessKept, of_one, held_by_one, ProgramsAreOne}
use Rattle.stm_disk.specs.Folder.{ProgramsTakeTurns}
use Rattle.stm_disk.specs.Folder.{LockedBeforeTheFirstByte, MayBeFound, UnkeptIsEmpty}

abbrev or_zero : Option ℕ → ℕ
or_zero None = 0
or_zero (Some n) = n

same_number : (p q : ℕ) → Some p ≡ Some q → p ≡ q
same_number p q e = ap or_zero e

none_some : (p : ℕ) → None ≡ Some p → ⊥
none_some p e = true≢false (ap (λ (o : Option ℕ). is_none o) e)

-- the steps before, and those behind
split : (before more : List FolderStep) (f : Folder) → CanHappen (before ++ more) f
    → CanHappen before f × CanHappen more (after before f)
split [] more f h = (tt, h)
split (x ∷ before) more f h =
    let rest = split before more (done x.who x.doing f) h.1 in
    ((h.0, rest.0), rest.1)

-- who holds the lock has got it
got_by : (p : ℕ) (doing : Doing) (f : Folder) (who : ℕ) → (done p doing f).holder ≡ Some who
    → (f.holder ≡ Some who) ⊎ (folder_step p doing ≡ folder_step who Locks)
got_by p Makes f who is = absurd (none_some who is)
got_by p Locks f who is = inr (ap (λ (n : ℕ). folder_step n Locks) (same_number p who is))
got_by p LetsGo f who is = absurd (none_some who is)
got_by p SyncsFolder f who is = inl is
got_by p (Adds bytes) f who is = inl is
got_by p SyncsFile f who is = inl is

got_lock : (steps : List FolderStep) (f : Folder) (who : ℕ) → (after steps f).holder ≡ Some who
    → (f.holder ≡ Some who) ⊎ IsStepAmong steps (folder_step who Locks)
got_lock [] f who is = inl is
got_lock (x ∷ steps) f who is = elim (got_lock steps (done x.who x.doing f) who is) as
    (λ _. (f.holder ≡ Some who) ⊎ IsStepAmong (x ∷ steps) (folder_step who Locks)) [
      | inl held ↦ elim (got_by x.who x.doing f who held) as
          (λ _. (f.holder ≡ Some who) ⊎ IsStepAmong (x ∷ steps) (folder_step who Locks)) [
            | inl was ↦ inl was
            | inr here ↦ inr (inl here)
          ]
      | inr later ↦ inr (inr later)
    ]

-- who has it keeps it until it lets go
keeps_by : (who : ℕ) (doing : Doing) (f : Folder) (p : ℕ) → IsLet who doing f
    → f.holder ≡ Some p → f.is_there ≡ true
    → (((done who doing f).holder ≡ Some p) × ((done who doing f).is_there ≡ true))
    ⊎ (folder_step who doing ≡ folder_step p LetsGo)
keeps_by who Makes f p let_it held there = absurd (true≢false (sym there ∙ let_it))
keeps_by who Locks f p let_it held there = absurd (none_some p (sym let_it.1 ∙ held))
keeps_by who LetsGo f p let_it held there =
    inr (ap (λ (n : ℕ). folder_step n LetsGo) (same_number who p (sym let_it ∙ held)))
keeps_by who SyncsFolder f p let_it held there = inl (held, there)
keeps_by who (Adds bytes) f p let_it held there = inl (held, there)
keeps_by who SyncsFile f p let_it held there = inl (held, there)

keeps_lock : (steps : List FolderStep) (f : Folder) (p q : ℕ) → CanHappen steps f → f.holder ≡ Some p
    → f.is_there ≡ true → (after steps f).holder ≡ Some q
    → (p ≡ q) ⊎ IsStepAmong steps (folder_step p LetsGo)
keeps_lock [] f p q h held there is = inl (same_number p q (sym held ∙ is))
keeps_lock (x ∷ steps) f p q h held there is =
    elim (keeps_by x.who x.doing f p h.0.0 held there) as
    (λ _. (p ≡ q) ⊎ IsStepAmong (x ∷ steps) (folder_step p LetsGo)) [
      | inl still ↦
          elim (keeps_lock steps (done x.who x.doing f) p q h.1 still.0 still.1 is) as
          (λ _. (p ≡ q) ⊎ IsStepAmong (x ∷ steps) (folder_step p LetsGo)) [
            | inl same ↦ inl same
            | inr later ↦ inr (inr later)
          ]
      | inr here ↦ inr (inl here)
    ]

pub programs_take_turns : ProgramsTakeTurns
programs_take_turns before between p q bytes more f h =
    let first = split before (folder_step p (Adds bytes) ∷ (between ++ folder_step q (Adds more) ∷ [])) f h in
    let f1 : Folder = after before f in
    let f2 : Folder = done p (Adds bytes) f1 in
    let second = split between (folder_step q (Adds more) ∷ []) f2 first.1.1 in
    let held : f2.holder ≡ Some p = first.1.0.1.0 in
    let there : f2.is_there ≡ true = first.1.0.0 in
    let is : (after between f2).holder ≡ Some q = second.1.0.1.0 in
    elim (keeps_lock between f2 p q second.0 held there is) as
    (λ _. (p ≡ q) ⊎ (IsStepAmong between (folder_step p LetsGo) × IsStepAmong between (folder_step q Locks))) [
      | inl same ↦ inl same
      | inr lost ↦ elim (got_lock between f2 q is) as
          (λ _. (p ≡ q) ⊎ (IsStepAmong between (folder_step p LetsGo) × IsStepAmong between (folder_step q Locks))) [
            | inl had ↦ inl (same_number p q (sym held ∙ had))
            | inr got ↦ inr (lost, got)
          ]
    ]

-- a name that is kept was kept at first, or the folder was synced
kept_by : (p : ℕ) (doing : Doing) (f : Folder) → (done p doing f).is_kept ≡ true
    → (f.is_kept ≡ true) ⊎ (folder_step p doing ≡ folder_step p SyncsFolder)
kept_by p Makes f is = absurd (true≢false (sym is))
kept_by p Locks f is = inl is
kept_by p LetsGo f is = inl is
kept_by p SyncsFolder f is = inr refl
kept_by p (Adds bytes) f is = inl is
kept_by p SyncsFile f is = inl is

was_kept : (steps : List FolderStep) (f : Folder) → (after steps f).is_kept ≡ true
    → (f.is_kept ≡ true) ⊎ ((other : ℕ) × IsStepAmong steps (folder_step other SyncsFolder))
was_kept [] f is = inl is
was_kept (x ∷ steps) f is = elim (was_kept steps (done x.who x.doing f) is) as
    (λ _. (f.is_kept ≡ true) ⊎ ((other : ℕ) × IsStepAmong (x ∷ steps) (folder_step other SyncsFolder))) [
      | inl kept ↦ elim (kept_by x.who x.doing f kept) as
          (λ _. (f.is_kept ≡ true) ⊎ ((other : ℕ) × IsStepAmong (x ∷ steps) (folder_step other SyncsFolder))) [
            | inl was ↦ inl was
            | inr here ↦ inr (x.who, inl here)
          ]
      | inr later ↦ inr (later.0, inr later.1)
    ]

pub locked_before_the_first_byte : LockedBeforeTheFirstByte
locked_before_the_first_byte before who bytes f free h =
    let at = split before (folder_step who (Adds bytes) ∷ []) f h in
    let locked : IsStepAmong before (folder_step who Locks) =
    elim (got_lock before f who at.1.0.1.0) as (λ _. IsStepAmong before (folder_step who Locks)) [
      | inl had ↦ absurd (none_some who (sym free ∙ had))
      | inr got ↦ got
    ] in
    (locked, was_kept before f at.1.0.1.1)

-- no step puts a byte under a name that isn't kept
stays_empty : (who : ℕ) (doing : Doing) (f : Folder) → IsLet who doing f → IsCareful who doing f
    → IsEmptyUnlessKept f → IsEmptyUnlessKept (done who doing f)
stays_empty who Makes f let_it careful is =
    record { unkept = λ e. refl; none = λ e. refl }
stays_empty who Locks f let_it careful is = record { unkept = is.unkept; none = is.none }
stays_empty who LetsGo f let_it careful is = record { unkept = is.unkept; none = is.none }
stays_empty who SyncsFolder f let_it careful is = record { unkept = is.none; none = is.none }
stays_empty who (Adds bytes) f let_it careful is = record {
  unkept = λ e. absurd (true≢false (sym careful.1 ∙ e));
  none = λ e. absurd (true≢false (sym let_it ∙ e));
}
stays_empty who SyncsFile f let_it careful is = record { unkept = is.unkept; none = is.none }

empty_after : (steps : List FolderStep) (f : Folder) → CanHappen steps f → IsEmptyUnlessKept f
    → IsEmptyUnlessKept (after steps f)
empty_after [] f h is = is
empty_after (x ∷ steps) f h is =
    empty_after steps (done x.who x.doing f) h.1 (stays_empty x.who x.doing f h.0.0 h.0.1 is)

no_bytes : (left : List ℕ) → length left ≤ 0 → left ≡ []
no_bytes [] le = refl
no_bytes (b ∷ left) le = absurd (omega (arith, le))

abbrev Found : Folder → Option (List ℕ) → Type 0
Found f found = ((f.is_kept ≡ true) × ((left : List ℕ) × (found ≡ Some left) × MayBeLeft f.synced
    f.seen left))
    ⊎ ((found ≡ None) ⊎ (found ≡ Some []))

found_kept : (f : Folder) (found : Option (List ℕ)) → f.is_kept ≡ true → MayBeFound f found
    → Found f found
found_kept f None kept m = absurd (true≢false (sym kept ∙ m))
found_kept f (Some left) kept m = inl (kept, (left, refl, m.1))

found_unkept : (f : Folder) (found : Option (List ℕ)) → f.seen ≡ [] → MayBeFound f found
    → Found f found
found_unkept f None empty m = inr (inl refl)
found_unkept f (Some left) empty m =
    let none : left ≡ [] =
    no_bytes left (omega (arith, m.1.most, ap (λ (xs : List ℕ). length xs) empty)) in
    inr (inr (ap (λ (xs : List ℕ). Some xs) none))

pub unkept_is_empty : UnkeptIsEmpty
unkept_is_empty steps f found is h m =
    let g : Folder = after steps f in
    elim (cases_Bool g.is_kept) as (λ _. Found g found) [
      | inl kept ↦ found_kept g found kept m
      | inr unkept ↦ found_unkept g found ((empty_after steps f h is).unkept unkept) m
    ]

-- one program that does all steps
abbrev one : Option ℕ → Option ℕ
one holder = option_map (λ who. 0) holder

one_let : (who : ℕ) (doing : Doing) (f : Folder) → IsLet who doing f
    → IsLet 0 doing (held_by_one f)
one_let who Makes f is = is
one_let who Locks f is = (is.0, ap one is.1)
one_let who LetsGo f is = ap one is
one_let who SyncsFolder f is = is
one_let who (Adds bytes) f is = is
one_let who SyncsFile f is = is

one_careful : (who : ℕ) (doing : Doing) (f : Folder) → IsCareful who doing f
    → IsCareful 0 doing (held_by_one f)
one_careful who Makes f is = is
one_careful who Locks f is = is
one_careful who LetsGo f is = is
one_careful who SyncsFolder f is = is
one_careful who (Adds bytes) f is = (ap one is.0, is.1)
one_careful who SyncsFile f is = is

one_done : (who : ℕ) (doing : Doing) (f : Folder)
    → done 0 doing (held_by_one f) ≡ held_by_one (done who doing f)
one_done who Makes f = refl
one_done who Locks f = refl
one_done who LetsGo f = refl
one_done who SyncsFolder f = refl
one_done who (Adds bytes) f = refl
one_done who SyncsFile f = refl

pub programs_are_one : ProgramsAreOne
programs_are_one [] f h = (tt, refl)
programs_are_one (x ∷ steps) f h =
    let rest = programs_are_one steps (done x.who x.doing f) h.1 in
    let same = one_done x.who x.doing f in (
      (
        (one_let x.who x.doing f h.0.0, one_careful x.who x.doing f h.0.1),
        rw same rest.0,
      ),
      ap (λ (g : Folder). after (map of_one steps) g) same ∙ rest.1,
    )
