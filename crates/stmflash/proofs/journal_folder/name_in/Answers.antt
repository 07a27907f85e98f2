use Rattle.std.proofs.Common.{◌≡◌, ◌++◌, ◌∙◌, ℕ, List, append_assoc, codes, string_bytes, sym}
use Rattle.std.proofs.lemmas.Result.{IfOk-weaker}
use Rattle.hex.specs.Hex.{encode_upper}
use Rattle.stmflash.specs.TaskUse.{journal_name}
use Rattle.stmflash.proofs.journal_folder.name_in.Goals as goal

-- four parts, one behind the other
behind : (a b c d : List ℕ) → a ++ (b ++ (c ++ d)) ≡ a ++ b ++ c ++ d
behind a b c d = sym (append_assoc (a ++ b) c d ∙ append_assoc a b (c ++ d))

pub returns : goal.returns
returns c =
    let folder = c.args.folder.now in
    let digits = encode_upper c.args.board in
    IfOk-weaker c.format.result
    (λ name. string_bytes name ≡ folder ++ (codes "/" ++ (digits ++ codes ".journal")))
    (λ name. string_bytes name ≡ journal_name folder c.args.board)
    (λ name is. is ∙ behind folder (codes "/") digits (codes ".journal")) c.format.ensures.ok
