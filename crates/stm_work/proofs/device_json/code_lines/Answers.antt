use Rattle.std.proofs.Common.{ℕ, List, [], ◌++◌, ◌∙◌, sym, ap, take, take_all, get_or, flat_map}
use Rattle.std.proofs.lemmas.List.{flat_map_more, take_more}
use Rattle.stm_work.specs.DeviceJson.{code_line}
use Rattle.stm_work.proofs.device_json.code_lines.Goals as goal

pub loop-code-preserved : goal.loop-code-preserved
loop-code-preserved c =
    let list : List ℕ = c.args.codes.now in
    let i : ℕ = c.loop-code.code-index in
    let code : ℕ = get_or list i 0 in
    c.in_ok-add_code.ensures ∙ ap (λ (xs : List ℕ). xs ++ code_line code) c.loop-code.invariant
    ∙ flat_map_more code_line [] (take i list) code
    ∙ ap (flat_map code_line) (sym (take_more list i 0 c.loop-code-test.true))

pub returns : goal.returns
returns c =
    c.loop-code.invariant
    ∙ ap (flat_map code_line) (take_all c.loop-code.code-index c.args.codes.now c.loop-code-test.false)
