-- One answer fewer is to come.
use Rattle.std.proofs.Common.{List, Option, ℕ, drop, sym, ap, ◌∙◌}
use Rattle.std.proofs.lemmas.List.{drop-drop}
use Rattle.stm_sim.specs.BadLines.{ListData, list_data}
use Rattle.stm_sim.proofs.list_rig.ListRig.take_reply.Goals as goal

pub returns-then-self-len-clause-taken : goal.returns-then-self-len-clause-taken
returns-then-self-len-clause-taken c =
    let r = c.self.inside in
    let told : List (Option ℕ) → ListData = λ replies. list_data replies r.line_failures r.journal_failures r.calls.items r.written.items in
    ap told (sym (drop-drop 1 r.next r.replies.items))
    ∙ ap (λ (d : ListData). let n : ListData = record d { replies = drop 1 d.replies } in n) c.self.view_is
