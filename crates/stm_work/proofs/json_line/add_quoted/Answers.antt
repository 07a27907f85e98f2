use Rattle.std.proofs.Common.{ℕ, List, ◌++◌, ◌∙◌, ap, sym, get_or, take, take_all, append-nil}
use Rattle.std.proofs.lemmas.List.{flat_map_more, take_more}
use Rattle.stm_work.specs.JsonLine.{quoted, quoted_byte}
use Rattle.stm_work.proofs.json_line.add_quoted.Goals as goal

pub loop-byte-init : goal.loop-byte-init
loop-byte-init c = sym (append-nil c.args.out.now.items)

pub loop-byte-preserved : goal.loop-byte-preserved
loop-byte-preserved c =
    let text : List ℕ = c.args.text.now in
    let head : List ℕ = c.args.out.now.items in
    let i : ℕ = c.loop-byte.byte-index in
    let byte : ℕ = get_or text i 0 in
    c.in_ok-add_quoted_byte.ensures ∙ ap (λ (xs : List ℕ). xs ++ quoted_byte byte) c.loop-byte.invariant
    ∙ flat_map_more quoted_byte head (take i text) byte
    ∙ ap (λ (xs : List ℕ). head ++ quoted xs) (sym (take_more text i 0 c.loop-byte-test.true))

pub returns : goal.returns
returns c =
    c.loop-byte.invariant ∙ ap (λ (xs : List ℕ). c.args.out.now.items ++ quoted xs) (take_all c.loop-byte.byte-index c.args.text.now c.loop-byte-test.false)
