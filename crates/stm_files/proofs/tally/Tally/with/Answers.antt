use Rattle.std.proofs.Common.{◌≡◌, ◌+◌, ◌<◌, ◌^◌, ◌++◌, ◌∷◌, [], ◌∙◌, List, ℕ, length, take, take_all, get_or, subst, sym, ap, arith, append_assoc, append-nil, length-append}
use Rattle.std.proofs.lemmas.List.{take_more, length-take-le}
use Rattle.stm_files.specs.Tally.{IsTallyOf}
use Rattle.stm_files.proofs.tally.Tally.with.Goals as goal

pub loop-byte-init : goal.loop-byte-init
loop-byte-init c = λ bytes is few. let T : List ℕ → Type 0 = λ xs. IsTallyOf xs c.args.self in subst T (sym (append-nil bytes)) is

pub loop-byte-preserved : goal.loop-byte-preserved
loop-byte-preserved c =
    λ bytes is few.
    let more : List ℕ = c.args.more.now in
    let i : ℕ = c.loop-byte.byte-index in
    let now = c.loop-byte.invariant bytes is few in
    let short : length (bytes ++ take i more) < 2 ^ 63 =
    omega (arith, few, length-append bytes (take i more), length-take-le i more c.loop-byte.auto.byte-index-end, c.loop-byte-test.true) in
    let same : (bytes ++ take i more) ++ get_or more i 0 ∷ [] ≡ bytes ++ take (i + 1) more =
    append_assoc bytes (take i more) (get_or more i 0 ∷ []) ∙ ap (λ (xs : List ℕ). bytes ++ xs) (sym (take_more more i 0 c.loop-byte-test.true)) in
    rw same at (c.with_byte-tally.ensures (bytes ++ take i more) now short)

pub returns : goal.returns
returns c =
    λ bytes is few.
    rw (ap (λ (xs : List ℕ). bytes ++ xs) (take_all c.loop-byte.byte-index c.args.more.now c.loop-byte-test.false)) at (c.loop-byte.invariant bytes is few)
