use Rattle.std.proofs.Common.{◌∙◌, ap, arith}
use Rattle.stm_journal.proofs.Names.{filled, Loaded}
use Rattle.stm_journal.proofs.Preparing.{prepared}
use Rattle.stm_journal.proofs.journal.Journal.prepare.Goals as goal

pub returns-clause-after : goal.returns-clause-after
returns-clause-after c =
    let l = c.args.self.now in
    prepared l (filled c.args.entry c.args.held.now) c.args.entry c.mark.new.self c.apply.new.self c.in_ok-text.text.items c.print.new.out.items
    c.saturating_add-line.result c.saturating_add.result c.saturating_add-self-inside.result
    c.requires.held (c.mark.ensures ∙ ap (λ (x : Loaded). x.state) c.self.view_is) c.in_ok-print.ensures
    (omega (arith, c.saturating_add-line.ensures, c.marked_lines.ensures)) (omega (arith, c.saturating_add.ensures, c.marked_size-size.ensures, c.len.ensures, c.len-marked.ensures)) (omega (arith, c.saturating_add-self-inside.ensures, c.marked_size-size.ensures, c.len.ensures, c.len-marked.ensures))
    c.in_ok-apply.ensures.ok
