-- A page that a segment lacks may be kept by it once.
use Rattle.std.proofs.Common.{◌≡◌, ℕ, Bool, true, false, not, ◌&&◌, ◌||◌, ◌==◌, List, [], ◌∷◌, ◌++◌, Option, Some, refl, sym, ◌∙◌, subst, arith, IsTrue, reverse, Result, Ok, Err, OnOk, OnErr}
use Rattle.std.specs.List.{list_any}
use Rattle.std.proofs.lemmas.Bool.{true≢false, not-true}
use Rattle.std.proofs.lemmas.List.Folds.{list_any-append}
use Rattle.std.proofs.lemmas.Bool.Decides.{nat_tests}
use Rattle.stm_journal.proofs.Names.{is_open_stage, IsSound, JournalHeader, keeping, keeps, Kept, LacksPage, may_keep, newest_has, PagesOnce, SegmentData, stack_of, StateData}
use Rattle.std.specs.declared.alloc.AllocError.{AllocError}
use Rattle.stm_journal.proofs.Intended.{intended-keep}

or-first : (a b : Bool) → (a || b) ≡ false → a ≡ false
or-first true b h = h
or-first false b h = refl

or-second : (a b : Bool) → (a || b) ≡ false → b ≡ false
or-second true b h = absurd (true≢false h)
or-second false b h = h

both-false : (a b : Bool) → a ≡ false → b ≡ false → (a || (b || false)) ≡ false
both-false true b h g = h
both-false false true h g = g
both-false false false h g = refl

and-second : (a b : Bool) → (a && b) ≡ true → b ≡ true
and-second true b h = h
and-second false b h = absurd (true≢false (sym h))

same-either : (a b : ℕ) → (a == b) ≡ false → (b == a) ≡ false
same-either a b h = grind (arith, nat_tests)

pub PagesOnce-push : (pages : List Kept) (k : Kept) → PagesOnce pages → LacksPage k.page pages → PagesOnce (pages ++ k ∷ [])
PagesOnce-push [] k once lacks = (refl, tt)
PagesOnce-push (x ∷ pages) k once lacks =
    let other : (k.page == x.page) ≡ false = same-either x.page k.page (or-first (x.page == k.page) (list_any (λ y. y.page == k.page) pages) lacks) in (
      list_any-append (λ y. y.page == x.page) pages (k ∷ []) ∙ both-false (list_any (λ y. y.page == x.page) pages) (k.page == x.page) once.0 other,
      PagesOnce-push pages k once.1 (or-second (x.page == k.page) (list_any (λ y. y.page == k.page) pages) lacks),
    )

pub IsSound-keep : (header : Option JournalHeader) (segment : SegmentData) (below : List SegmentData) (k : Kept) → IsSound (record { header = header; stack = segment ∷ below })
    → IsTrue (may_keep k.page segment) → IsSound (record { header = header; stack = keeping k segment ∷ below })
IsSound-keep header segment below k sound may =
    record {
      depth = sound.depth;
      named = sound.named;
      ended = sound.ended;
      once = (PagesOnce-push segment.pages k sound.once.0 (not-true (keeps segment k.page) (and-second (is_open_stage segment.stage) (not (keeps segment k.page)) may)), sound.once.1);
      intended = intended-keep header segment below k sound.intended;
    }

-- a segment that was to keep a page, and does or is as it was
pub IsSound-kept : (r : Result (Unit {0}) AllocError) (old : StateData) (header : Option JournalHeader) (newest : Option SegmentData) (segment new : SegmentData) (below : List SegmentData) (k : Kept)
    → record { header = header; stack = stack_of newest below } ≡ old → newest ≡ Some segment → IsTrue (newest_has (may_keep k.page) old.stack)
    → IsSound (record { header = header; stack = stack_of newest below }) → OnOk r (new ≡ keeping k segment) → OnErr r (new ≡ segment)
    → IsSound (record { header = header; stack = new ∷ reverse below })
IsSound-kept (Ok u) old header newest segment new below k view is may sound ok err =
    let S : SegmentData → Type 0 = λ x. IsSound (record { header = header; stack = x ∷ reverse below }) in
    let N : Option SegmentData → Type 0 = λ x. IsSound (record { header = header; stack = stack_of x below }) in
    let M : StateData → Type 0 = λ x. IsTrue (newest_has (may_keep k.page) x.stack) in
    let O : Option SegmentData → Type 0 = λ x. IsTrue (newest_has (may_keep k.page) (stack_of x below)) in
    subst S (sym ok) (IsSound-keep header segment (reverse below) k (subst N is sound) (subst O is (subst M (sym view) may)))
IsSound-kept (Err e) old header newest segment new below k view is may sound ok err =
    let S : SegmentData → Type 0 = λ x. IsSound (record { header = header; stack = x ∷ reverse below }) in
    let N : Option SegmentData → Type 0 = λ x. IsSound (record { header = header; stack = stack_of x below }) in
    subst S (sym err) (subst N is sound)
