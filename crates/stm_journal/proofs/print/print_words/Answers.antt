use Rattle.std.proofs.Common.{◌++◌, List, ℕ, ◌∙◌, ap, append_assoc}
use Rattle.std.proofs.lemmas.Result.{on_ok_weaker}
use Rattle.stm_journal.proofs.Names.{device_text, header_word}
use Rattle.stm_journal.proofs.print.print_words.Goals as goal

pub returns-in_ok-print_header_word-in-Names : goal.returns-in_ok-print_header_word-in-Names
returns-in_ok-print_header_word-in-Names c =
    let device : List ℕ = device_text c.in-Names.version c.in-Names.id c.in-Names.unique in
    rw c.in-Names.is
    (on_ok_weaker c.print_device.result (λ e. e ∙ ap (λ (xs : List ℕ). xs ++ device) c.in_ok-print_header_word-in-Names.ensures ∙ append_assoc c.args.out.now.items (header_word c.in-Names.version) device)
    c.print_device.ensures)
