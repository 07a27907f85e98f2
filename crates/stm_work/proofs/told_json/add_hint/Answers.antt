use Rattle.std.proofs.Common.{◌≡◌, ℕ, List, ◌++◌, Result, OnOk, codes}
use Rattle.std.proofs.lemmas.Result.{IfOk-weaker}
use Rattle.stm_work.specs.JsonLine.{text_member}
use Rattle.stm_work.proofs.told_json.add_hint.Goals as goal

-- a line that tells a text tells some
some-text : {E : Type 0} (told : Result (Unit {0}) E) (old new says : List ℕ)
    → OnOk told (new ≡ old ++ text_member (codes "hint") says)
    → OnOk told ((text : List ℕ) × (new ≡ old ++ text_member (codes "hint") text))
some-text told old new says is = IfOk-weaker told _ _ (λ done same. (says, same)) is

pub returns : goal.returns
returns c =
    some-text c.text.result c.args.line.now.text.items c.text.new.self.text.items
    c.as_str.result.now c.text.ensures
