-- Appends that follow one another leave what one append of all their bytes leaves.
use Rattle.std.proofs.Common.{◌≡◌, ℕ, ◌+◌, List, [], ◌∷◌, ◌++◌, Result, Ok, Err}
use Rattle.std.proofs.Common.{length, take, sym, ap, subst, ◌∙◌, inl, inr, arith, OnOk, OnErr}
use Rattle.std.proofs.lemmas.Bool.{cases_lt}
use Rattle.std.proofs.lemmas.List.{append_assoc, take_all, take-append-le}
use Rattle.std.proofs.Math.Seq.{take-append-add}
use Rattle.stm_disk.specs.GrowingFile.{FileState}
use Rattle.stm_disk.specs.Moments.{CrashLeavesOnly}
use Rattle.stm_disk.specs.Lines.{LeftByAdding, StaysOnDisk, AddsHonestly}
use Rattle.stm_disk.specs.Appends.{all_bytes, AppendsAreOne, LeftByAll, StoppedAppendsFollow}
use Rattle.stm_disk.proofs.Times.{joined}

-- a beginning of the first is one of both
first_begun : (n : ℕ) (bytes more : List ℕ) → (m : ℕ) × (take n bytes ≡ take m (bytes ++ more))
first_begun n bytes more = elim (cases_lt n (length bytes)) as
    (λ _. (m : ℕ) × (take n bytes ≡ take m (bytes ++ more))) [
      | inl lt ↦ (n, sym (take-append-le n bytes more (omega (arith, lt))))
      | inr le ↦ (
        length bytes,
        take_all n bytes le ∙ sym (take_all (length bytes) bytes (omega arith))
            ∙ sym (take-append-le (length bytes) bytes more (omega arith)),
      )
    ]

first_left : (old bytes more left : List ℕ) → LeftByAdding old bytes left
    → LeftByAdding old (bytes ++ more) left
first_left old bytes more left by =
    let some = first_begun by.0 bytes more in
    (some.0, by.1, by.2 ∙ ap (λ (xs : List ℕ). old ++ (xs ++ by.1)) some.1, by.3)

-- a beginning of the second, behind the first, is one of both
second_left : (old bytes more mid left : List ℕ) → mid ≡ old ++ bytes → LeftByAdding mid more left
    → LeftByAdding old (bytes ++ more) left
second_left old bytes more mid left is by =
    let n = by.0 in
    let tail = by.1 in (
      length bytes + n,
      tail,
      by.2 ∙ ap (λ (xs : List ℕ). xs ++ (take n more ++ tail)) is
          ∙ append_assoc old bytes (take n more ++ tail)
          ∙ ap (λ (xs : List ℕ). old ++ xs) (sym (append_assoc bytes (take n more) tail))
          ∙ ap (λ (xs : List ℕ). old ++ (xs ++ tail)) (sym (take-append-add bytes more n)),
      by.3,
    )

-- the second stays behind the first
second_stays : (bytes more : List ℕ) (a b c : FileState) → b.seen ≡ a.seen ++ bytes
    → StaysOnDisk more b c → StaysOnDisk (bytes ++ more) a c
second_stays bytes more a b c is s =
    let all : b.seen ++ more ≡ a.seen ++ (bytes ++ more) =
    ap (λ (xs : List ℕ). xs ++ more) is ∙ append_assoc a.seen bytes more in
    record {
      honest = s.honest;
      seen = s.seen ∙ all;
      synced = s.synced;
      left = λ left now. s.left left now ∙ all;
    }

ok_of_both : {T E : Type 0} (result : Result T E) (bytes more : List ℕ) (a b c : FileState)
    → b.seen ≡ a.seen ++ bytes → OnOk result (StaysOnDisk more b c)
    → OnOk result (StaysOnDisk (bytes ++ more) a c)
ok_of_both (Ok x) bytes more a b c is s = second_stays bytes more a b c is s
ok_of_both (Err e) bytes more a b c is s = tt

err_of_both : {T E : Type 0} (result : Result T E) (bytes more : List ℕ) (a b c : FileState)
    → b.seen ≡ a.seen ++ bytes → OnErr result ((n : ℕ) × (c.seen ≡ b.seen ++ take n more))
    → OnErr result ((n : ℕ) × (c.seen ≡ a.seen ++ take n (bytes ++ more)))
err_of_both (Ok x) bytes more a b c is s = tt
err_of_both (Err e) bytes more a b c is s = (
  length bytes + s.0,
  s.1 ∙ ap (λ (xs : List ℕ). xs ++ take s.0 more) is
      ∙ append_assoc a.seen bytes (take s.0 more)
      ∙ ap (λ (xs : List ℕ). a.seen ++ xs) (sym (take-append-add bytes more s.0)),
)

-- two appends, the first of which answered Ok
pub both_added : {T E : Type 0} (result : Result T E) (bytes more : List ℕ) (a b c : FileState)
    → StaysOnDisk bytes a b → CrashLeavesOnly (LeftByAdding a.seen bytes) a b → AddsHonestly more result b c
    → AddsHonestly (bytes ++ more) result a c
both_added result bytes more a b c stays time by = record {
  ok = ok_of_both result bytes more a b c stays.seen by.ok;
  err = err_of_both result bytes more a b c stays.seen by.err;
  time = joined (LeftByAdding a.seen bytes) (LeftByAdding b.seen more)
      (LeftByAdding a.seen (bytes ++ more)) a b c time by.time
      (λ left p. first_left a.seen bytes more left p)
      (λ left p. second_left a.seen bytes more b.seen left stays.seen p);
}

pub appends_are_one : (F E : Type 0) (view : F → FileState) → AppendsAreOne F E view
appends_are_one F E view [] last result a z by = by
appends_are_one F E view (bytes ∷ more) last result a z by =
    both_added result bytes (all_bytes more last) (view a) (view by.0) (view z) by.1.ok by.1.time
    (appends_are_one F E view more last result by.0 z by.2)

-- the rest follows a beginning of the first
rest_left : (bytes : List ℕ) (more : List (List ℕ)) (last : List ℕ) (a b : FileState)
    (left : List ℕ) → (n : ℕ) × (b.seen ≡ a.seen ++ take n bytes) → LeftByAll b.seen more last left
    → LeftByAll a.seen (bytes ∷ more) last left
rest_left bytes more last a b left some by =
    inr (some.0, subst (λ (xs : List ℕ). LeftByAll xs more last left) some.1 by)

pub stopped_appends_follow : (F : Type 0) (view : F → FileState) → StoppedAppendsFollow F view
stopped_appends_follow F view [] last a z by = by
stopped_appends_follow F view (bytes ∷ more) last a z by =
    let old : FileState = view a in
    let mid : FileState = view by.0 in
    joined (LeftByAdding old.seen bytes) (LeftByAll mid.seen more last)
    (LeftByAll old.seen (bytes ∷ more) last) old mid (view z) by.1.begun.time
    (stopped_appends_follow F view more last by.0 z by.2)
    (λ left p. inl p)
    (λ left p. rest_left bytes more last old mid left by.1.begun.some p)
