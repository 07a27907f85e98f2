use Rattle.std.proofs.Common.{◌≡◌, ℕ, List, ◌++◌, ◌∙◌, ap, codes, append_assoc}
use Rattle.std.proofs.lemmas.Result.{IfOk-weaker}
use Rattle.stm_work.specs.JsonLine.{line_end, object_of, text_member}
use Rattle.stm_work.specs.ToldJson.{answer_name, beside_members, members_of, next_line}
use Rattle.stm_work.specs.declared.steps.Steps.{Steps}
use Rattle.stm_work.proofs.told_json.json_of_next.Goals as goal

-- the parts of the line, one behind the other
whole : (steps : Steps) (says begun told named hinted all : List ℕ)
    → begun ≡ object_of (codes "answer") (answer_name steps.answer)
    → told ≡ begun ++ members_of steps.answer
    → named ≡ told ++ beside_members steps.board steps.used
    → hinted ≡ named ++ text_member (codes "hint") says
    → all ≡ hinted ++ line_end
    → all ≡ next_line says steps
whole steps says begun told named hinted all a b c d e =
    e ∙ ap (λ (l : List ℕ). l ++ line_end)
    (d ∙ ap (λ (l : List ℕ). l ++ text_member (codes "hint") says)
    (c ∙ ap (λ (l : List ℕ). l ++ beside_members steps.board steps.used)
    (b ∙ ap (λ (l : List ℕ). l ++ members_of steps.answer) a)))
    ∙ simp append_assoc

pub returns : goal.returns
returns c =
    let hinted = c.in_ok-add_hint.ensures in
    let steps : Steps = c.args.steps.now in
    IfOk-weaker c.end.result _ _
    (λ line ended. (
      hinted.0,
      whole steps hinted.0 _ _ _ _ line.items
          (c.in_ok-line.ensures ∙ ap (object_of (codes "answer")) c.name_of.ensures)
          c.in_ok-add_members.ensures c.in_ok-add_beside.ensures hinted.1 ended,
    )) c.end.ensures
