use Rattle.std.proofs.Common.{ℕ, List, ◌++◌, ◌∙◌, ap, decimal, sym, get_or, take, take_all, append-nil}
use Rattle.std.proofs.lemmas.List.{flat_map_more, take_more}
use Rattle.stm_work.specs.Numbers.{more_text}
use Rattle.stm_work.proofs.numbers.add_more.Goals as goal

pub loop-number-init : goal.loop-number-init
loop-number-init c = sym (append-nil c.args.out.now.items)

pub loop-number-preserved : goal.loop-number-preserved
loop-number-preserved c =
    let numbers : List ℕ = c.args.numbers.now in
    let head : List ℕ = c.args.out.now.items in
    let between : List ℕ = c.args.between.now in
    let i : ℕ = c.loop-number.number-index in
    let number : ℕ = get_or numbers i 0 in
    c.in_ok-add_number.ensures ∙ ap (λ (xs : List ℕ). xs ++ (between ++ decimal number)) c.loop-number.invariant
    ∙ flat_map_more (λ (n : ℕ). between ++ decimal n) head (take i numbers) number
    ∙ ap (λ (xs : List ℕ). head ++ more_text between xs) (sym (take_more numbers i 0 c.loop-number-test.true))

pub returns : goal.returns
returns c =
    c.loop-number.invariant
    ∙ ap (λ (xs : List ℕ). c.args.out.now.items ++ more_text c.args.between.now xs)
    (take_all c.loop-number.number-index c.args.numbers.now c.loop-number-test.false)
