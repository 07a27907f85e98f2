use Rattle.std.proofs.Common.{ap, ◌∙◌}
use Rattle.stm_journal.proofs.Names.{Loaded, page_place}
use Rattle.stm_journal.proofs.Kepts.{page-is-kept}
use Rattle.stm_journal.proofs.journal.Journal.page.Goals as goal

pub returns-clause-kept : goal.returns-clause-kept
returns-clause-kept c =
    page-is-kept c.args.self.now.state c.args.k c.args.n c.page.result (c.page.ensures ∙ ap (λ (l : Loaded). page_place l.state c.args.k c.args.n) c.self.view_is)
