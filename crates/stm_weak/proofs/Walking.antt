-- Steps one behind another, while pages may be weak: how they join, and what holds behind them.
use Rattle.std.proofs.Common.{◌≡◌, ⊎_elim, ℕ, zero, suc, Bool, List, [], ◌∷◌, ◌++◌, map, take}
use Rattle.std.proofs.Common.{Option, Some, None, sym, subst}
use Rattle.stm_wire.specs.declared.intent.Intent.{Intent}
use Rattle.stm_wire.proofs.Names.{ChipData}
use Rattle.stm_journal.specs.declared.entry.Entry.{Entry}
use Rattle.stm_session.proofs.Names.{Adds, Sends, Step, step_in}
use Rattle.stm_weak.specs.Weak.{WeakEvent, does, NoneIs, intent_behind, intent_with, intent_with_lines}
use Rattle.stm_weak.specs.Weak.{weak_after, weak_behind}
use Rattle.stm_weak.specs.Believed.{AreAtWork, MayPutBelieving, NoneBelieved}
use Rattle.stm_weak.specs.History.{left_events}
use Rattle.stm_weak.proofs.Frames.{changed_at_work}

-- steps as what befell
abbrev pub done_of : List Step → List WeakEvent
done_of steps = map (λ step. does step) steps

-- the pages that may be weak behind steps
abbrev pub past : ChipData → (ℕ → Type 0) → List Step → ℕ → Type 0
past chip W steps n = weak_behind chip W (done_of steps) n

-- and the intent
abbrev pub intended : Option Intent → List Step → Option Intent
intended o steps = intent_behind o (done_of steps)

-- behind each of the lines the pages that may be weak are at work
abbrev pub Within : Bool → (ℕ → Type 0) → Option Intent → List Entry → Type 0
Within both W o [] = Unit {0}
Within both W o (entry ∷ entries) =
    AreAtWork both W (intent_with o entry) × Within both W (intent_with o entry) entries

-- Steps that may come while these pages may be weak.
abbrev pub Goes : ChipData → Bool → (ℕ → Type 0) → Option Intent → List Step → Type 0
Goes chip both W o [] = Unit {0}
Goes chip both W o (Adds entries ∷ steps) =
    Within both W o entries × Goes chip both W (intent_with_lines o entries) steps
Goes chip both W o (Sends turns ∷ steps) =
    MayPutBelieving chip W o turns × Goes chip both (weak_after chip W (does (Sends turns))) o steps

-- what may be weak behind steps could be so before
pub still : (chip : ChipData) (W : ℕ → Type 0) (steps : List Step) (n : ℕ) → past chip W steps n
    → W n
still chip W [] n w = w
still chip W (Adds entries ∷ steps) n w = still chip W steps n w
still chip W (Sends turns ∷ steps) n w =
    (still chip (weak_after chip W (does (Sends turns))) steps n w).0

pub past_then : (chip : ChipData) (W : ℕ → Type 0) (xs ys : List Step) (n : ℕ)
    → past chip W (xs ++ ys) n → past chip (λ m. past chip W xs m) ys n
past_then chip W [] ys n w = w
past_then chip W (Adds entries ∷ xs) ys n w = past_then chip W xs ys n w
past_then chip W (Sends turns ∷ xs) ys n w =
    past_then chip (weak_after chip W (does (Sends turns))) xs ys n w

pub goes_then : (chip : ChipData) (both : Bool) (W : ℕ → Type 0) (o : Option Intent)
    (xs ys : List Step) → Goes chip both W o xs
    → Goes chip both (λ n. past chip W xs n) (intended o xs) ys → Goes chip both W o (xs ++ ys)
goes_then chip both W o [] ys p q = q
goes_then chip both W o (Adds entries ∷ xs) ys (first, p) q =
    (first, goes_then chip both W (intent_with_lines o entries) xs ys p q)
goes_then chip both W o (Sends turns ∷ xs) ys (first, p) q =
    (first, goes_then chip both (weak_after chip W (does (Sends turns))) o xs ys p q)

pub goes_front : (chip : ChipData) (both : Bool) (W : ℕ → Type 0) (o : Option Intent)
    (xs ys : List Step) → Goes chip both W o (xs ++ ys) → Goes chip both W o xs
goes_front chip both W o [] ys p = tt
goes_front chip both W o (Adds entries ∷ xs) ys (first, p) =
    (first, goes_front chip both W (intent_with_lines o entries) xs ys p)
goes_front chip both W o (Sends turns ∷ xs) ys (first, p) =
    (first, goes_front chip both (weak_after chip W (does (Sends turns))) o xs ys p)

pub goes_as : (chip : ChipData) (both : Bool) (W : ℕ → Type 0) (o : Option Intent)
    (xs ys : List Step) → ys ≡ xs → Goes chip both W o xs → Goes chip both W o ys
goes_as chip both W o xs ys is p =
    let P : List Step → Type 0 = λ l. Goes chip both W o l in
    subst P (sym is) p

-- where no page may be weak, lines may be any
pub within_none : (both : Bool) (W : ℕ → Type 0) (o : Option Intent) (entries : List Entry)
    → NoneIs W → Within both W o entries
within_none both W o [] none = tt
within_none both W o (entry ∷ entries) none =
    (λ n w. absurd (none n w), within_none both W (intent_with o entry) entries none)

within_take : (both : Bool) (W : ℕ → Type 0) (o : Option Intent) (whole : ℕ) (entries : List Entry)
    → AreAtWork both W o → Within both W o entries
    → AreAtWork both W (intent_with_lines o (take whole entries))
within_take both W o zero entries now p = now
within_take both W o (suc whole) [] now p = now
within_take both W o (suc whole) (entry ∷ entries) now (first, p) =
    within_take both W (intent_with o entry) whole entries first p

pub within_all : (both : Bool) (W : ℕ → Type 0) (o : Option Intent) (entries : List Entry)
    → AreAtWork both W o → Within both W o entries → AreAtWork both W (intent_with_lines o entries)
within_all both W o [] now p = now
within_all both W o (entry ∷ entries) now (first, p) =
    within_all both W (intent_with o entry) entries first p

-- Such steps, and what is left of one that failed, believe no page that may be weak.
pub none_believed : (chip : ChipData) (both : Bool) (W : ℕ → Type 0) (o : Option Intent) (whole : ℕ)
    (done : List Step) (failed : Option Step) → AreAtWork both W o
    → Goes chip both W o (done ++ step_in failed)
    → NoneBelieved chip both W o (done_of done ++ left_events whole failed)
none_believed chip both W o whole [] None now p = tt
none_believed chip both W o whole [] (Some (Sends turns)) now (put, p) = (
  put,
  λ n w. ⊎_elim (λ was. now n was)
      (λ changes. changed_at_work chip both W o turns n put changes) w,
  tt,
)
none_believed chip both W o whole [] (Some (Adds entries)) now (within, p) =
    (tt, within_take both W o whole entries now within, tt)
none_believed chip both W o whole (Adds entries ∷ done) failed now (within, p) =
    let later = within_all both W o entries now within in
    (tt, later, none_believed chip both W (intent_with_lines o entries) whole done failed later p)
none_believed chip both W o whole (Sends turns ∷ done) failed now (put, p) =
    let later : AreAtWork both (weak_after chip W (does (Sends turns))) o = λ n w. now n w.0 in (
      put,
      later,
      none_believed chip both (weak_after chip W (does
          (Sends turns))) o whole done failed later p,
    )

-- Steps that may come where no page may be weak: how these join.
abbrev pub Free : ChipData → Bool → List Step → Type 1
Free chip both steps = (W : ℕ → Type 0) (o : Option Intent) → NoneIs W → Goes chip both W o steps

pub free_then : (chip : ChipData) (both : Bool) (xs ys : List Step) → Free chip both xs
    → Free chip both ys → Free chip both (xs ++ ys)
free_then chip both xs ys p q W o none =
    goes_then chip both W o xs ys (p W o none)
    (q (λ n. past chip W xs n) (intended o xs) (λ n w. none n (still chip W xs n w)))

pub free_as : (chip : ChipData) (both : Bool) (xs ys : List Step) → ys ≡ xs → Free chip both xs
    → Free chip both ys
free_as chip both xs ys is p W o none = goes_as chip both W o xs ys is (p W o none)

pub free_front : (chip : ChipData) (both : Bool) (xs ys : List Step) → Free chip both (xs ++ ys)
    → Free chip both xs
free_front chip both xs ys p W o none = goes_front chip both W o xs ys (p W o none)

pub free_nothing : (chip : ChipData) (both : Bool) → Free chip both []
free_nothing chip both W o none = tt

pub free_lines : (chip : ChipData) (both : Bool) (entries : List Entry)
    → Free chip both (Adds entries ∷ [])
free_lines chip both entries W o none = (within_none both W o entries none, tt)
