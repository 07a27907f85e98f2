use Rattle.std.proofs.Common.{ℕ, List, ◌++◌, ◌∷◌, [], ◌∙◌, sym, ap, codes, take, take_all, get_or, flat_map}
use Rattle.std.proofs.lemmas.List.{flat_map_more, take_more}
use Rattle.stm_work.specs.DeviceText.{code_text}
use Rattle.stm_work.proofs.TextParts.{ends, make_up}
use Rattle.stm_work.proofs.device_text.print_codes.Goals as goal

pub loop-code-preserved : goal.loop-code-preserved
loop-code-preserved g c =
    let list : List ℕ = c.args.codes.now in
    let i : ℕ = c.loop-code.code-index in
    make_up _ _ _ _ _ _
    (flat_map_more code_text (codes "codes") (take i list) (get_or list i 0)
    ∙ ap (λ (xs : List ℕ). codes "codes" ++ flat_map code_text xs)
    (sym (take_more list i 0 c.loop-code-test.true)))
    c.loop-code.invariant c.in_ok-print_code.ensures

pub returns : goal.returns
returns g c =
    let list : List ℕ = c.args.codes.now in
    ends _ _ _ _ _ _ _
    (ap (λ (xs : List ℕ). (codes "codes" ++ flat_map code_text xs) ++ 10 ∷ [])
    (take_all c.loop-code.code-index list c.loop-code-test.false))
    c.loop-code.invariant c.writeln.ensures.bytes
