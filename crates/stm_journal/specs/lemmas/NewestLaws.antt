-- What callers need to know of the newest segment between calls.
use Rattle.std.proofs.Common.{◌≡◌, ◌≤◌, ◌<◌, ◌∙◌, ℕ, zero, suc, ◌+◌, ◌-◌, max, not, Bool, true}
use Rattle.std.proofs.Common.{false, ◌&&◌, ◌||◌, ◌==◌, nat_le, if◌then◌else◌, List, [], ◌∷◌, length}
use Rattle.std.proofs.Common.{map, fold, Option, Some, None, option_map, refl, sym, ap, subst}
use Rattle.std.proofs.Common.{arith, IsTrue}
use Rattle.std.specs.Prelude.{option_and_then, slice_get, IsSome}
use Rattle.std.specs.List.{list_any, find}
use Rattle.std.proofs.lemmas.Bool.{true≢false}
use Rattle.std.proofs.lemmas.Bool.Decides.{nat_tests}
use Rattle.stm_journal.specs.declared.kept.Kept.{Kept}
use Rattle.stm_journal.specs.declared.header.JournalHeader.{JournalHeader}
use Rattle.stm_journal.specs.States.{StateData, SegmentData, newest_has, newest_is_open}
use Rattle.stm_journal.specs.States.{newest_keeps, newest_may_keep, is_open_stage, may_keep, keeps}
use Rattle.stm_journal.specs.States.{segment_of, kept_at}
use Rattle.stm_journal.specs.Newest.{KeepsSame, next_page}

pub KeepsSame-refl : (s : StateData) → KeepsSame s s
KeepsSame-refl s = record {
  header = refl;
  depth = refl;
  same = refl;
  entry = λ k i. refl;
  count = λ k. refl;
  below = refl;
  pages = refl;
  next = refl;
  keeps = λ n. refl;
  kept = λ k i. refl;
  bytes = λ k n. refl;
  flashes = λ chip flash. refl;
}

pub KeepsSame-trans : (a b c : StateData) → KeepsSame a b → KeepsSame b c → KeepsSame a c
KeepsSame-trans a b c first second =
    record {
      header = second.header ∙ first.header;
      depth = second.depth ∙ first.depth;
      same = second.same ∙ first.same;
      entry = λ k i. second.entry k i ∙ first.entry k i;
      count = λ k. second.count k ∙ first.count k;
      below = second.below ∙ first.below;
      pages = second.pages ∙ first.pages;
      next = second.next ∙ first.next;
      keeps = λ n. second.keeps n ∙ first.keeps n;
      kept = λ k i. second.kept k i ∙ first.kept k i;
      bytes = λ k n. second.bytes k n ∙ first.bytes k n;
      flashes = λ chip flash. second.flashes chip flash ∙ first.flashes chip flash;
    }

-- the newest segment has the greatest number
pub segment_of-newest : (header : Option JournalHeader) (segment : SegmentData)
    (below : List SegmentData)
    → segment_of (record { header = header; stack = segment ∷ below }) (length (segment ∷ below))
    ≡ Some segment
segment_of-newest header segment below =
    let count : ℕ = length (segment ∷ below) in
    let first : count - count ≡ 0 = omega arith in
    ap (λ (b : Bool). if b then slice_get (segment ∷ below) (count - count) else None)
    (both-within (length below)) ∙ ap (λ (j : ℕ). slice_get (segment ∷ below) j) first
  where
    both-within : (n : ℕ) → (nat_le 1 (suc n) && nat_le (suc n) (suc n)) ≡ true
    both-within n = grind (arith, nat_tests)

-- the numbers of these pages are below the next one
rises : (pages : List Kept) (start : ℕ)
    → start ≤ fold (λ next n. max next (n + 1)) start (map (λ k. k.page) pages)
rises [] start = omega arith
rises (x ∷ pages) start = omega (arith, rises pages (max start (x.page + 1)))

lacks-above : (n : ℕ) (pages : List Kept) (start : ℕ)
    → fold (λ next m. max next (m + 1)) start (map (λ k. k.page) pages) ≤ n
    → list_any (λ k. k.page == n) pages ≡ false
lacks-above n [] start above = refl
lacks-above n (x ∷ pages) start above =
    let other : (x.page == n) ≡ false =
    differs x.page n (omega (arith, rises pages (max start (x.page + 1)))) in
    ap (λ (b : Bool). b || list_any (λ k. k.page == n) pages) other
    ∙ lacks-above n pages (max start (x.page + 1)) above
  where
    differs : (a b : ℕ) → a < b → (a == b) ≡ false
    differs a b lt = grind (arith, nat_tests)

-- an open segment may keep a page behind all that it keeps
pub newest_may_keep_behind : (n : ℕ) (s : StateData) → IsTrue (newest_is_open s) → next_page s ≤ n
    → IsTrue (newest_may_keep n s)
newest_may_keep_behind n s is_open above = at s.stack is_open above
  where
    opened : (segment : SegmentData) → is_open_stage segment.stage ≡ true → keeps segment n ≡ false
        → may_keep n segment ≡ true
    opened segment is lacks =
        ap (λ (b : Bool). b && not (keeps segment n)) is ∙ ap (λ (b : Bool). not b) lacks

    at : (stack : List SegmentData)
        → newest_has (λ segment. is_open_stage segment.stage) stack ≡ true
        → next_page (record { header = s.header; stack = stack }) ≤ n
        → newest_has (may_keep n) stack ≡ true
    at [] is le = is
    at (segment ∷ below) is le = opened segment is (lacks-above n segment.pages 0 le)

or-true : (a b : Bool) → b ≡ true → (a || b) ≡ true
or-true true b h = refl
or-true false b h = h

equal-tested : (n m : ℕ) → n ≡ m → (n == m) ≡ true
equal-tested n m e = grind (arith, nat_tests)

any-kept : (n line : ℕ) (pages : List Kept) (i : ℕ)
    → option_map {U = ℕ × ℕ} (λ kept. (kept.page, kept.line)) (slice_get pages i) ≡ Some (n, line)
    → list_any (λ k. k.page == n) pages ≡ true
any-kept n line [] i is = cc
any-kept n line (x ∷ pages) zero is =
    let pair : (x.page, x.line) ≡ (n, line) = cc in
    ap (λ (b : Bool). b || list_any (λ k. k.page == n) pages)
    (equal-tested x.page n (ap (λ (p : ℕ × ℕ). p.0) pair))
any-kept n line (x ∷ pages) (suc i) is =
    or-true (x.page == n) (list_any (λ k. k.page == n) pages) (any-kept n line pages i is)

-- a page line of the newest segment is of a page that it keeps
pub newest_keeps_kept : (s : StateData) (k i n line : ℕ) → k ≡ length s.stack
    → kept_at s k i ≡ Some (n, line) → IsTrue (newest_keeps n s)
newest_keeps_kept s k i n line newest is =
    let K : ℕ → Type 0 = λ m. kept_at s m i ≡ Some (n, line) in
    at s.stack (subst K newest is)
  where
    at : (stack : List SegmentData)
        → kept_at (record { header = s.header; stack = stack }) (length stack) i ≡ Some (n, line)
        → IsTrue (newest_keeps n (record { header = s.header; stack = stack }))
    at [] e = cc
    at (segment ∷ below) e =
        any-kept n line segment.pages i
        (sym
        (ap (λ (o : Option SegmentData). option_map {U = ℕ × ℕ} (λ kept. (kept.page, kept.line))
        (option_and_then (λ x. slice_get x.pages i) o)) (segment_of-newest s.header segment below))
        ∙ e)

found-kept : (n : ℕ) (pages : List Kept) → list_any (λ k. k.page == n) pages ≡ true
    → IsSome (option_map (λ kept. kept.bytes) (find (λ k. k.page == n) pages))
found-kept n [] any = absurd (true≢false (sym any))
found-kept n (x ∷ pages) any = first (x.page == n) any (λ h. found-kept n pages h)
  where
    first : (b : Bool) → (b || list_any (λ k. k.page == n) pages) ≡ true
        → (list_any (λ k. k.page == n) pages ≡ true
        → IsSome (option_map (λ kept. kept.bytes) (find (λ k. k.page == n) pages)))
        → IsSome
        (option_map (λ kept. kept.bytes) (if b then Some x else find (λ k. k.page == n) pages))
    first true h rest = refl
    first false h rest = rest h
