use Rattle.stmflash.proofs.WriteUse.{all-uses, last-use}
use Rattle.stmflash.proofs.again.use_again.Goals as goal

pub returns-clause-acts : goal.returns-clause-acts
returns-clause-acts g c =
    let done = c.attempt_again.ensures in
    record {
      acts = done.acts;
      uses = all-uses _ _ _ done.acts _ _ done.lead;
      done = done.done;
    }

pub returns-clause-last : goal.returns-clause-last
returns-clause-last g c =
    let done = c.attempt_again.ensures in
    last-use _ _ _ _ done.acts _ done.done (all-uses _ _ _ done.acts _ _ done.lead)
