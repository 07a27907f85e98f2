use Rattle.std.proofs.Common.{◌≡◌, ◌≤◌, ◌<◌, ◌^◌, ◌+◌, ◌-◌, ◌++◌, ◌∷◌, [], ◌==◌, List, ℕ, Option, Some, length, take, drop, ap, sym, subst, ◌∙◌, arith, length-append, length-drop}
use Rattle.std.specs.List.{position}
use Rattle.std.proofs.lemmas.List.{length-take-le}
use Rattle.std.proofs.lemmas.Result.{err_from_is_err_and}
use Rattle.stm_journal.proofs.Names.{HasNoLF, IsRead}
use Rattle.stm_journal.proofs.Loads.{TakesBytes-join, TakesBytes-same, StopsAt-part}
use Rattle.stm_journal.proofs.FirstLF.{lf-at, lf-none, line-more, rest-is, part-is}
use Rattle.std.proofs.lemmas.List.{take-append-drop}
use Rattle.stm_journal.proofs.load.Loader.take.Goals as goal

-- the LF that was found, in what isn't done
found : (o : Option ℕ) (done : ℕ) (more : List ℕ) (x : Option ℕ) → o ≡ position (λ b. b == 10) (take (length more - done) (drop done more)) → o ≡ x → position (λ b. b == 10) (drop done more) ≡ x
found o done more x is e = ap (λ (ys : List ℕ). position (λ b. b == 10) ys) (sym (rest-is done more)) ∙ sym is ∙ e

-- the bytes up to it
up-to : (bytes more : List ℕ) (done lf : ℕ) → position (λ b. b == 10) (drop done more) ≡ Some lf
    → (bytes ++ take done more) ++ (take ((done + lf) - done) (drop done more) ++ 10 ∷ []) ≡ bytes ++ take (done + (lf + 1)) more
up-to bytes more done lf is = ap (λ (xs : List ℕ). (bytes ++ take done more) ++ (xs ++ 10 ∷ [])) (part-is done lf more) ∙ line-more bytes more done lf is

part-noLF : (done lf : ℕ) (more : List ℕ) → position (λ b. b == 10) (drop done more) ≡ Some lf → HasNoLF (take ((done + lf) - done) (drop done more))
part-noLF done lf more is = let N : List ℕ → Type 0 = λ xs. HasNoLF xs in subst N (sym (part-is done lf more)) (lf-at (drop done more) lf is).1

part-length : (done lf : ℕ) (more : List ℕ) → position (λ b. b == 10) (drop done more) ≡ Some lf → length (take ((done + lf) - done) (drop done more)) ≡ lf
part-length done lf more is =
    let at = lf-at (drop done more) lf is in
    ap (λ (xs : List ℕ). length xs) (part-is done lf more) ∙ length-take-le lf (drop done more) (omega (arith, at.0))

fits : (bytes more : List ℕ) (done lf : ℕ) → position (λ b. b == 10) (drop done more) ≡ Some lf → done ≤ length more → length bytes + length more < 2 ^ 63
    → length (bytes ++ take done more) + length (take ((done + lf) - done) (drop done more)) < 2 ^ 63
fits bytes more done lf is within short =
    let at = lf-at (drop done more) lf is in
    omega (arith, at.0, within, short, part-length done lf more is, length-append bytes (take done more), length-take-le done more within, length-drop done more)

pub loop-lf-preserved : goal.loop-lf-preserved
loop-lf-preserved c =
    let more = c.args.more.now in
    let done = c.loop-lf.done in
    let lf = c.in-Some.lf in
    let is = found c.first_lf.result done more (Some lf) c.first_lf.ensures c.in-Some.is in
    let at = lf-at (drop done more) lf is in
    record {
      within = omega (arith, at.0, length-drop done more);
      size = omega (arith, c.loop-lf.invariant.size, c.in_ok-take_ended.ensures.size, part-length done lf more is);
      read = λ bytes read short.
          let R : List ℕ → Type 0 = λ xs. IsRead c.take_ended.new.self.journal c.take_ended.new.self.tail xs in
          subst R (up-to bytes more done lf is)
          (c.in_ok-take_ended.ensures.takes (bytes ++ take done more) (c.loop-lf.invariant.read bytes read short) (part-noLF done lf more is) (fits bytes more done lf is c.loop-lf.invariant.within short));
    }

pub returns-in_err-take_ended-clause-takes : goal.returns-in_err-take_ended-clause-takes
returns-in_err-take_ended-clause-takes c = λ bytes read short.
    let more = c.args.more.now in
    let done = c.loop-lf.done in
    let lf = c.in-Some.lf in
    let is = found c.first_lf.result done more (Some lf) c.first_lf.ensures c.in-Some.is in
    let p = err_from_is_err_and c.from_residual.result c.from_residual.ensures.1 in
    rw (p.1, p.2)
    (StopsAt-part bytes more ((bytes ++ take done more) ++ (take ((done + lf) - done) (drop done more) ++ 10 ∷ [])) (done + (lf + 1)) c.in_err-take_ended.field-0.0 (up-to bytes more done lf is)
    (c.in_err-take_ended.ensures.takes (bytes ++ take done more) (c.loop-lf.invariant.read bytes read short) (part-noLF done lf more is) (fits bytes more done lf is c.loop-lf.invariant.within short)))

pub returns-clause-takes : goal.returns-clause-takes
returns-clause-takes c = λ bytes read short.
    let more = c.args.more.now in
    let done = c.loop-lf.done in
    let rest : List ℕ = take (length more - done) (drop done more) in
    let same : rest ≡ drop done more = rest-is done more in
    let N : List ℕ → Type 0 = λ xs. HasNoLF xs in
    let none : HasNoLF rest = lf-none rest (sym c.first_lf.ensures ∙ c.in_default.is) in
    let short2 : length (bytes ++ take done more) + length rest < 2 ^ 63 =
    omega (arith, short, c.loop-lf.invariant.within, length-append bytes (take done more), length-take-le done more c.loop-lf.invariant.within, length-drop done more, ap (λ (xs : List ℕ). length xs) same)
    in
    TakesBytes-same bytes (take done more ++ rest) more c.take_part.new.self.journal c.take_part.new.self.tail c.take_part.result
    (ap (λ (xs : List ℕ). take done more ++ xs) same ∙ take-append-drop done more)
    (TakesBytes-join bytes (take done more) rest c.take_part.new.self.journal c.take_part.new.self.tail c.take_part.result
    (c.take_part.ensures.takes (bytes ++ take done more) (c.loop-lf.invariant.read bytes read short) none short2))
