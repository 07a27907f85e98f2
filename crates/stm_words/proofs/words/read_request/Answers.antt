use Rattle.std.proofs.Common.{List, map}
use Rattle.clap.specs.Words.{Text, kind_of}
use Rattle.stm_words.proofs.Asked.{asked-for, help-asked}
use Rattle.stm_words.proofs.words.read_request.Goals as goal

pub returns-in-Ok-parse-clause-asked : goal.returns-in-Ok-parse-clause-asked
returns-in-Ok-parse-clause-asked c =
    let words : List Text = map (λ s. s.now) c.args.words.now in
    let (p, takes, faultless, reads) = c.in-Ok.ensures.value in
    asked-for c.args.environment words c.in-Ok.matches p c.in-Ok-parse.request takes faultless reads.1 c.in-Ok-parse.ensures

pub returns-clause-help : goal.returns-clause-help
returns-clause-help c =
    let words : List Text = map (λ s. s.now) c.args.words.now in
    help-asked c.args.environment words (kind_of c.in-Err.error) c.unread.result c.in-Err.ensures.fault c.unread.ensures
