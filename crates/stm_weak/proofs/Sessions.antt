-- How a session asks its device, while pages may be weak, and what comes behind that.
use Rattle.std.proofs.Common.{◌≡◌, inl, inr, ℕ, ◌/◌, ◌%◌, Bool, List, [], ◌++◌, Option, Some, None}
use Rattle.std.proofs.Common.{refl, sym, subst}
use Rattle.stm_wire.specs.declared.intent.Intent.{Intent}
use Rattle.stm_wire.specs.declared.places.UniquePlace.{UniquePlace}
use Rattle.stm_wire.proofs.Names.{ChipData}
use Rattle.stm_session.proofs.Names.{asking_steps, confirm_steps, confirmed_at, confirming, IsAsked, IsConfirmedInPart, IsConfirming, IsLookedAgain, Step}
use Rattle.stm_weak.specs.Weak.{NoneIs}
use Rattle.stm_weak.specs.Believed.{AreAtWork, asks, confirms, names, refused}
use Rattle.stm_weak.proofs.Walking.{Goes, goes_as, goes_front, goes_then, intended, past, past_then}
use Rattle.stm_weak.proofs.Walking.{still}

asking_goes : (chip : ChipData) (both : Bool) (W : ℕ → Type 0) (o : Option Intent) (version : ℕ)
    (codes : List ℕ) (id : ℕ) → Goes chip both W o (asking_steps version codes id)
asking_goes chip both W o version codes id =
    (asks version codes refl, (names (id / 256) (id % 256) refl, tt))

confirm_goes : (chip : ChipData) (both : Bool) (W : ℕ → Type 0) (o : Option Intent)
    (place : Option UniquePlace) (unique : List ℕ) → confirmed_at chip ≡ place
    → Goes chip both W o (confirm_steps place unique)
confirm_goes chip both W o None unique at = tt
confirm_goes chip both W o (Some place) unique at = (confirms place unique at refl, tt)

is_asked_goes : (chip : ChipData) (both : Bool) (W : ℕ → Type 0) (o : Option Intent)
    (place : UniquePlace) (came : Option (List ℕ)) (steps : List Step)
    → confirmed_at chip ≡ Some place → IsAsked place.address place.length came steps
    → Goes chip both W o steps
is_asked_goes chip both W o place (Some bytes) steps at (size, is) =
    goes_as chip both W o _ steps is (confirms place bytes at refl, tt)
is_asked_goes chip both W o place None steps at (frame, turns, is_refused, is) =
    goes_as chip both W o _ steps is (refused place frame at is_refused, tt)

confirming_goes : (chip : ChipData) (both : Bool) (W : ℕ → Type 0) (o : Option Intent)
    (place : Option UniquePlace) (steps : List Step) → confirmed_at chip ≡ place
    → IsConfirming place steps → Goes chip both W o steps
confirming_goes chip both W o None steps at is = goes_as chip both W o [] steps is tt
confirming_goes chip both W o (Some place) steps at (came, asked) =
    is_asked_goes chip both W o place came steps at asked

-- the question behind the last frame
pub looked_goes : (chip : ChipData) (both : Bool) (W : ℕ → Type 0) (o : Option Intent)
    (place : Option UniquePlace) (steps : List Step) → confirmed_at chip ≡ place
    → IsLookedAgain place steps → Goes chip both W o steps
looked_goes chip both W o None steps at is = goes_as chip both W o [] steps is tt
looked_goes chip both W o (Some place) steps at (high, low, (own, is, asked)) =
    goes_as chip both W o _ steps is
    (names high low refl, confirming_goes chip both _ o (Some place) own at asked)

-- asking leaves the intent as it was
confirm_leaves : (o : Option Intent) (place : Option UniquePlace) (unique : List ℕ)
    → intended o (confirm_steps place unique) ≡ o
confirm_leaves o None unique = refl
confirm_leaves o (Some place) unique = refl

-- Such steps behind the question whether the board is the chip's.
abbrev pub Own : ChipData → Bool → Option Intent → List Step → Type 1
Own chip both o own = (W : ℕ → Type 0) → AreAtWork both W o → Goes chip both W o own

after_confirming : (chip : ChipData) (both : Bool) (W : ℕ → Type 0) (o : Option Intent)
    (own : List Step) → AreAtWork both W o → Own chip both o own
    → Goes chip both W o (confirming chip ++ own)
after_confirming chip both W o own now go =
    let place = confirmed_at chip in
    let asked : List Step = confirm_steps place chip.unique in
    let W1 : ℕ → Type 0 = λ n. past chip W asked n in
    let P : Option Intent → Type 0 = λ i. Goes chip both W1 i own in
    goes_then chip both W o asked own (confirm_goes chip both W o place chip.unique refl)
    (subst P (sym (confirm_leaves o place chip.unique))
    (go W1 (λ n w. now n (still chip W asked n w))))

-- All was done.
pub reached_goes : (chip : ChipData) (both : Bool) (W : ℕ → Type 0) (o : Option Intent)
    (version : ℕ) (codes : List ℕ) (steps own : List Step) → AreAtWork both W o
    → steps ≡ confirming chip ++ own → Own chip both o own
    → Goes chip both W o (asking_steps version codes chip.id ++ steps)
reached_goes chip both W o version codes steps own now is go =
    let asked : List Step = asking_steps version codes chip.id in
    let W1 : ℕ → Type 0 = λ n. past chip W asked n in
    goes_then chip both W o asked steps (asking_goes chip both W o version codes chip.id)
    (goes_as chip both W1 o (confirming chip ++ own) steps is
    (after_confirming chip both W1 o own (λ n w. now n (still chip W asked n w)) go))

-- Behind all of them no page may be weak, where that is so behind the last of them.
pub reached_none : (chip : ChipData) (both : Bool) (W : ℕ → Type 0) (o : Option Intent)
    (version : ℕ) (codes : List ℕ) (steps own : List Step) → AreAtWork both W o
    → steps ≡ confirming chip ++ own
    → ((W1 : ℕ → Type 0) → AreAtWork both W1 o → NoneIs (λ n. past chip W1 own n))
    → NoneIs (λ n. past chip W (asking_steps version codes chip.id ++ steps) n)
reached_none chip both W o version codes steps own now is none n w =
    let asked : List Step = asking_steps version codes chip.id in
    let W1 : ℕ → Type 0 = λ m. past chip W asked m in
    let W2 : ℕ → Type 0 = λ m. past chip W1 (confirming chip) m in
    let P : List Step → Type 0 = λ l. past chip W1 l n in
    none W2
    (λ m v. now m (still chip W asked m (still chip W1 (confirming chip) m v)))
    n (past_then chip W1 (confirming chip) own n (subst P is (past_then chip W asked steps n w)))

-- A part was done, behind the question or within it.
pub stopped_goes : (chip : ChipData) (both : Bool) (W : ℕ → Type 0) (o : Option Intent)
    (version : ℕ) (codes : List ℕ) (P : List Step → Type 0) (steps own : List Step)
    → AreAtWork both W o → steps ≡ asking_steps version codes chip.id ++ own
    → IsConfirmedInPart chip P own → ((xs : List Step) → P xs → Own chip both o xs)
    → Goes chip both W o steps
stopped_goes chip both W o version codes P steps own now is confirmed go =
    let asked : List Step = asking_steps version codes chip.id in
    let W1 : ℕ → Type 0 = λ n. past chip W asked n in
    goes_as chip both W o (asked ++ own) steps is
    (goes_then chip both W o asked own (asking_goes chip both W o version codes chip.id)
    (in_part W1 (λ n w. now n (still chip W asked n w)) confirmed))
  where
    in_part : (W1 : ℕ → Type 0) → AreAtWork both W1 o → IsConfirmedInPart chip P own
        → Goes chip both W1 o own
    in_part W1 now1 (inl (rest, asking)) =
        goes_front chip both W1 o own rest
        (confirming_goes chip both W1 o (confirmed_at chip) (own ++ rest) refl asking)
    in_part W1 now1 (inr (last, same, p)) =
        goes_as chip both W1 o (confirming chip ++ last) own same
        (after_confirming chip both W1 o last now1 (go last p))
