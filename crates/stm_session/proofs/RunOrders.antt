-- The order of what a run puts and appends.
use Rattle.std.proofs.Common.{◌≡◌, ℕ, ◌≤◌, Bool, List, [], ◌∷◌, ◌++◌, length, refl, sym, subst}
use Rattle.std.specs.List.{AllByRecursion}
use Rattle.stm_wire.proofs.Names.{ChipData, GoesOn, InPage, read_turns, RigState}
use Rattle.stm_wire.specs.lemmas.DialogueLaws.{GoesOn-nothing}
use Rattle.stm_journal.proofs.Names.{Loaded}
use Rattle.stm_session.proofs.Names.{Begin, Cause, Follows, IsInOrder, IsReading, IsReadOf, OnlyReads, Sends, Step, StopsBy, torn_behind}
use Rattle.stm_session.proofs.CutShort.{order_stops}
use Rattle.stm_session.proofs.Orders.{order_then}

reads-torn : (chip : ChipData) (torn : Bool) (steps : List Step) → AllByRecursion (IsReading chip) steps → torn_behind torn steps ≡ torn
reads-torn chip torn [] are = refl
reads-torn chip torn (step ∷ steps) (is, are) = let P : Step → Type 0 = λ s. torn_behind torn (s ∷ steps) ≡ torn in subst P (sym is.is) (reads-torn chip torn steps are)

reads-append : (chip : ChipData) (xs ys : List Step) → AllByRecursion (IsReading chip) xs → AllByRecursion (IsReading chip) ys → AllByRecursion (IsReading chip) (xs ++ ys)
reads-append chip [] ys p q = q
reads-append chip (x ∷ xs) ys (first, rest) q = (first, reads-append chip xs ys rest q)

pub reads_nothing : (chip : ChipData) (P : List Step → Type 0) (a : RigState) → P [] → OnlyReads chip P a a
reads_nothing chip P a none torn = ([], tt, none, GoesOn-nothing (IsInOrder torn []) a.calls refl)

-- one block more
pub reading_step : (chip : ChipData) (page address : ℕ) (answer : List ℕ) → 1 ≤ length answer → length answer ≤ 256 → InPage chip page address (length answer) → IsReading chip (Sends (read_turns address answer))
reading_step chip page address answer some limit within = record { page = page; address = address; answer = answer; some = some; limit = limit; within = within; is = refl }

pub reads_more : (chip : ChipData) (P Q : List Step → Type 0) (page address : ℕ) (answer : List ℕ) (a b c : RigState) → ((xs : List Step) → P xs → Q (xs ++ Sends (read_turns address answer) ∷ []))
    → 1 ≤ length answer → length answer ≤ 256 → InPage chip page address (length answer) → OnlyReads chip P a b → ((torn : Bool) → GoesOn (IsInOrder torn (Sends (read_turns address answer) ∷ [])) b.calls c.calls) → OnlyReads chip Q a c
reads_more chip P0 Q page address answer a b c longer some limit within before reads torn =
    let p = before torn in
    let step : Step = Sends (read_turns address answer) in
    let P : Bool → Type 0 = λ t. GoesOn (IsInOrder t (step ∷ [])) b.calls c.calls in
    (p.0 ++ step ∷ [], reads-append chip p.0 (step ∷ []) p.1 (reading_step chip page address answer some limit within, tt), longer p.0 p.2, order_then torn p.0 (step ∷ []) a.calls b.calls c.calls p.3 (subst P (sym (reads-torn chip torn p.0 p.1)) (reads torn)))

-- or one that is begun
pub reads_stop : (chip : ChipData) (P : List Step → Type 0) (page address size : ℕ) (cause : Cause) (a b c : RigState) → 1 ≤ size → size ≤ 256 → InPage chip page address size → OnlyReads chip P a b
    → ((torn : Bool) → StopsBy (Begin (IsReadOf address size)) cause torn b c) → (torn : Bool) → StopsBy (AllByRecursion (IsReading chip)) cause torn a c
reads_stop chip P0 page address size cause a b c some limit within before stops torn =
    let p = before torn in
    order_stops (Begin (IsReadOf address size)) (AllByRecursion (IsReading chip)) cause torn p.0 (λ ys begun. reads-append chip p.0 ys p.1 (begun_reads ys begun)) a b c p.3 (stops (torn_behind torn p.0))
  where
    begun_reads : (ys : List Step) → Begin (IsReadOf address size) ys → AllByRecursion (IsReading chip) ys
    begun_reads [] begun = tt
    begun_reads (y ∷ ys) (rest, read) =
        let P : ℕ → Type 0 = λ n. (1 ≤ n) × (n ≤ 256) × InPage chip page address n in
        let fits = subst P (sym read.size) (some, limit, within) in
        let all : AllByRecursion (IsReading chip) ((y ∷ ys) ++ rest) = subst (λ (l : List Step). AllByRecursion (IsReading chip) l) (sym read.is) (reading_step chip page address read.answer fits.0 fits.1 fits.2, tt) in
        (all.0, reads_front ys rest all.1)
      where
        reads_front : (xs zs : List Step) → AllByRecursion (IsReading chip) (xs ++ zs) → AllByRecursion (IsReading chip) xs
        reads_front [] zs are = tt
        reads_front (x ∷ xs) zs (first, are) = (first, reads_front xs zs are)

-- the journal in memory is as it was
pub reads_follow : (chip : ChipData) (P : List Step → Type 0) (l : Loaded) (a b : RigState) → OnlyReads chip P a b → Follows (λ steps. AllByRecursion (IsReading chip) steps × P steps) l l a b
reads_follow chip P l a b reads = let p = reads l.is_torn in (p.0, (p.1, p.2), record { acts = p.3; torn = sym (reads-torn chip l.is_torn p.0 p.1) })
