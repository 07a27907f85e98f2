-- An undo reads only where no page may be weak; so it may read other bytes there.
use Rattle.std.proofs.Common.{◌≡◌, ◌⊎◌, inl, inr, ℕ, zero, suc, ◌+◌, ◌*◌, ◌/◌, Bool, List, [], ◌∷◌}
use Rattle.std.proofs.Common.{◌++◌, length, take, drop, Option, refl, sym, subst, arith}
use Rattle.stm_wire.specs.declared.intent.Intent.{Intent}
use Rattle.stm_wire.proofs.Names.{ChipData, erase_turns, erased_byte, page_size, read_turns}
use Rattle.stm_chip.specs.declared.plan.Frame.{Frame}
use Rattle.stm_chip.specs.Plan.{frames_of}
use Rattle.stm_journal.specs.declared.kept.Kept.{Kept}
use Rattle.stm_session.proofs.Names.{Adds, AreAllUndone, AreReadsOf, AreRewritten, Begin, closing, confirmed_at, elsewhere, EndsOtherwise, IsLookedAgain, misread, OrMisread, page_address, page_reads}
use Rattle.stm_session.proofs.Names.{pages_of_intent, read_steps, rewrite_steps, Sends, Step, such, Tells, tells_behind, write_step, write_steps}
use Rattle.stm_weak.specs.Weak.{does, NoneIs, weak_after}
use Rattle.stm_weak.specs.Believed.{AreAtWork}
use Rattle.stm_weak.proofs.Frames.{byte_at, first_of_erase, no_erase_reads}
use Rattle.stm_weak.proofs.Pieces.{free_page}
use Rattle.stm_weak.proofs.Mending.{all_mend, work_mends}
use Rattle.stm_weak.proofs.Sessions.{looked_goes}
use Rattle.stm_weak.proofs.Walking.{Goes, goes_as, goes_front, goes_then, intended, past}

-- each read comes where no page may be weak
abbrev pub Late : ChipData → (ℕ → Type 0) → List Step → Type 0
Late chip W [] = Unit {0}
Late chip W (Adds entries ∷ steps) = Late chip W steps
Late chip W (Sends turns ∷ steps) =
    (byte_at 0 turns ≡ 0x11 → NoneIs W) × Late chip (weak_after chip W (does (Sends turns))) steps

late_then : (chip : ChipData) (W : ℕ → Type 0) (xs ys : List Step) → Late chip W xs
    → Late chip (λ n. past chip W xs n) ys → Late chip W (xs ++ ys)
late_then chip W [] ys p q = q
late_then chip W (Adds entries ∷ xs) ys p q = late_then chip W xs ys p q
late_then chip W (Sends turns ∷ xs) ys (first, p) q =
    (first, late_then chip (weak_after chip W (does (Sends turns))) xs ys p q)

late_back : (chip : ChipData) (W : ℕ → Type 0) (xs ys : List Step) → Late chip W (xs ++ ys)
    → Late chip (λ n. past chip W xs n) ys
late_back chip W [] ys p = p
late_back chip W (Adds entries ∷ xs) ys p = late_back chip W xs ys p
late_back chip W (Sends turns ∷ xs) ys (first, p) =
    late_back chip (weak_after chip W (does (Sends turns))) xs ys p

late_front : (chip : ChipData) (W : ℕ → Type 0) (xs ys : List Step) → Late chip W (xs ++ ys)
    → Late chip W xs
late_front chip W [] ys p = tt
late_front chip W (Adds entries ∷ xs) ys p = late_front chip W xs ys p
late_front chip W (Sends turns ∷ xs) ys (first, p) =
    (first, late_front chip (weak_after chip W (does (Sends turns))) xs ys p)

late_as : (chip : ChipData) (W : ℕ → Type 0) (xs ys : List Step) → ys ≡ xs → Late chip W xs
    → Late chip W ys
late_as chip W xs ys is p = let P : List Step → Type 0 = λ l. Late chip W l in subst P (sym is) p

late_none : (chip : ChipData) (W : ℕ → Type 0) (steps : List Step) → NoneIs W → Late chip W steps
late_none chip W [] none = tt
late_none chip W (Adds entries ∷ steps) none = late_none chip W steps none
late_none chip W (Sends turns ∷ steps) none =
    (λ is. none, late_none chip (weak_after chip W (does (Sends turns))) steps (λ n w. none n w.0))

-- a page that is written reads nothing
late_writes : (chip : ChipData) (n : ℕ) (page : List ℕ) (frames : List Frame) (W : ℕ → Type 0)
    → Late chip W (write_steps chip n page frames)
late_writes chip n page [] W = tt
late_writes chip n page (f ∷ frames) W = (
  λ is. absurd (omega (arith, is)),
  late_writes chip n page frames (weak_after chip W (does
      (write_step chip n page f))),
)

late_rewrite : (chip : ChipData) (n : ℕ) (page : List ℕ) (frames : List Frame) (W : ℕ → Type 0)
    → Late chip W (rewrite_steps chip n page frames)
late_rewrite chip n page [] W =
    (λ is. absurd (omega (arith, is, first_of_erase chip.kind n)), tt)
late_rewrite chip n page (f ∷ frames) W = (
  λ is. absurd (omega (arith, is, first_of_erase chip.kind n)),
  late_writes chip n page (f ∷ frames) (weak_after chip W (does (Sends (erase_turns chip.kind n)))),
)

late_work : (chip : ChipData) (Told : Tells) (work : List ℕ) (steps : List Step) (W : ℕ → Type 0)
    → AreRewritten chip Told work steps → Late chip W steps
late_work chip Told [] steps W is = late_as chip W [] steps is tt
late_work chip Told (n ∷ work) steps W (first, rest, is, one, others) =
    let frames = frames_of (erased_byte chip) one.page (length one.page / 256) in
    late_as chip W (first ++ rest) steps is
    (late_then chip W first rest
    (late_as chip W _ first one.is (late_rewrite chip n one.page frames W))
    (late_work chip (tells_behind first Told) work rest (λ m. past chip W first m) others))

all_late : (again : Bool) (chip : ChipData) (both : Bool) (Told : Tells) (o : Option Intent)
    (W : ℕ → Type 0) (count : ℕ) (segments : List (List Kept)) (steps : List Step)
    → AreAtWork both W o
    → AreAllUndone again chip Told (pages_of_intent o both) count segments steps
    → Late chip W steps
all_late again chip both Told o W count segments steps own taken =
    let work = work_mends chip both Told o W taken.first own taken.is_first in
    late_as chip W (taken.first ++ taken.back) steps taken.is
    (late_then chip W taken.first taken.back
    (late_work chip Told (pages_of_intent o both) taken.first W taken.is_first)
    (late_none chip (λ n. past chip W taken.first n) taken.back work.none))

-- what reads leave
past_join : (chip : ChipData) (W : ℕ → Type 0) (xs ys : List Step) (n : ℕ)
    → past chip (λ m. past chip W xs m) ys n → past chip W (xs ++ ys) n
past_join chip W [] ys n w = w
past_join chip W (Adds entries ∷ xs) ys n w = past_join chip W xs ys n w
past_join chip W (Sends turns ∷ xs) ys n w =
    past_join chip (weak_after chip W (does (Sends turns))) xs ys n w

reads_leave : (chip : ChipData) (W : ℕ → Type 0) (address blocks : ℕ) (bytes : List ℕ) (n : ℕ)
    → W n → past chip W (read_steps address blocks bytes) n
reads_leave chip W address zero bytes n w = w
reads_leave chip W address (suc blocks) bytes n w =
    let answer = take 256 (drop (256 * blocks) bytes) in
    past_join chip W (read_steps address blocks bytes)
    (Sends (read_turns (address + 256 * blocks) answer) ∷ []) n (
      reads_leave chip W address blocks bytes n w,
      λ e. no_erase_reads chip.kind n (address + 256 * blocks) answer (sym e),
    )

-- reads that may come: no page may be weak, or there is none of them
none_where_read : (chip : ChipData) (W : ℕ → Type 0) (address blocks : ℕ) (bytes : List ℕ)
    → Late chip W (read_steps address blocks bytes) → (blocks ≡ 0) ⊎ NoneIs W
none_where_read chip W address zero bytes late = inl refl
none_where_read chip W address (suc blocks) bytes late =
    let answer = take 256 (drop (256 * blocks) bytes) in
    let before = read_steps address blocks bytes in
    let last = late_back chip W before (Sends (read_turns
    (address + 256 * blocks) answer) ∷ []) late in
    inr (λ n w. last.0 refl n (reads_leave chip W address blocks bytes n w))

other_reads : (chip : ChipData) (both : Bool) (W : ℕ → Type 0) (o : Option Intent) (n : ℕ)
    (page came : List ℕ) → Late chip W (page_reads chip n page)
    → Goes chip both W o (page_reads chip n came)
other_reads chip both W o n page came late =
    either (none_where_read chip W (page_address chip n) (page_size chip n / 256) page late)
  where
    either : (page_size chip n / 256 ≡ 0) ⊎ NoneIs W → Goes chip both W o (page_reads chip n came)
    either (inl nothing) =
        let P : ℕ → Type 0 = λ k. Goes chip both W o (read_steps (page_address chip n) k came) in
        subst P (sym nothing) tt
    either (inr none) = free_page chip both n came W o none

-- Steps that may come, but for what came behind the last question.
otherwise_goes : (chip : ChipData) (both : Bool) (W : ℕ → Type 0) (o : Option Intent)
    (P Comes : List Step → Type 0) (due steps : List Step) → ((xs : List Step) → P xs → Goes chip both W o xs)
    → (e : EndsOtherwise P due Comes steps) → ((xs : List Step) → Comes xs
    → Goes chip both (λ n. past chip W e.before n) (intended o e.before) xs)
    → Goes chip both W o steps
otherwise_goes chip both W o P Comes due steps may e comes =
    let W1 : ℕ → Type 0 = λ n. past chip W e.before n in
    let rest = e.begun.0 in
    goes_as chip both W o (e.before ++ e.came) steps e.is
    (goes_then chip both W o e.before e.came
    (goes_front chip both W o e.before due (may (e.before ++ due) e.own))
    (goes_front chip both W1 (intended o e.before) e.came rest (comes (e.came ++ rest) e.begun.1)))

begun_whole : (again : Bool) (chip : ChipData) (both : Bool) (Told : Tells) (o : Option Intent)
    (W : ℕ → Type 0) (count : ℕ) (segments : List (List Kept)) → AreAtWork both W o
    → (xs : List Step)
    → Begin (AreAllUndone again chip Told (pages_of_intent o both) count segments) xs
    → Goes chip both W o xs
begun_whole again chip both Told o W count segments own xs (rest, taken) =
    goes_front chip both W o xs rest
    (all_mend again chip both Told o W count segments (xs ++ rest) own taken).goes

-- A beginning of an undo, or one whose last question was answered otherwise.
pub begun_goes : (again : Bool) (chip : ChipData) (both : Bool) (Told : Tells) (o : Option Intent)
    (W : ℕ → Type 0) (count : ℕ) (segments : List (List Kept)) (steps : List Step)
    → AreAtWork both W o
    → OrMisread again chip
    (Begin (AreAllUndone again chip Told (pages_of_intent o both) count segments)) steps
    → Goes chip both W o steps
begun_goes again chip both Told o W count segments steps own (such p) =
    begun_whole again chip both Told o W count segments own steps p
begun_goes again chip both Told o W count segments steps own (elsewhere e) =
    otherwise_goes chip both W o _ (IsLookedAgain (confirmed_at chip)) (closing chip) steps
    (begun_whole again chip both Told o W count segments own) e
    (λ xs looked. looked_goes chip both _ _ (confirmed_at chip) xs refl looked)
begun_goes again chip both Told o W count segments steps own (misread is n page size e) =
    let reads = page_reads chip n page in
    let all : List Step = e.before ++ reads in
    let W1 : ℕ → Type 0 = λ m. past chip W e.before m in
    let late =
    late_back chip W e.before reads
    (late_front chip W all e.own.0 (all_late again chip both Told o W count segments
    (all ++ e.own.0) own e.own.1))
    in
    otherwise_goes chip both W o _ (AreReadsOf (page_address chip n) (page_size chip n)) reads
    steps (begun_whole again chip both Told o W count segments own) e
    (λ xs read. goes_as chip both W1 (intended o e.before) (page_reads chip n read.held) xs read.is
    (other_reads chip both W1 (intended o e.before) n page read.held late))
