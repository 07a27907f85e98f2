use Rattle.clap.specs.Words.{found_of}
use Rattle.stm_words.proofs.Asked.{asks-for, found-by}
use Rattle.stm_words.proofs.request.Request.parse.Goals as goal

pub returns-in-Some : goal.returns-in-Some
returns-in-Some c =
    let given = found_of c.in-Some.given.now in
    asks-for _ _ _ given _ (found-by _ _ given c.in-Some.ensures.name c.in-Some.ensures.rows) c.of.ensures
