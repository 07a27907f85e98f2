use Rattle.std.proofs.lemmas.Result.{IfOk-weaker}
use Rattle.stm_work.proofs.content.read_among.Goals as goal

pub returns : goal.returns
returns g c =
    IfOk-weaker c.among.result _ _ (λ set placed. (c.in_ok-content.content, c.in_ok-content.ensures, placed)) c.among.ensures
