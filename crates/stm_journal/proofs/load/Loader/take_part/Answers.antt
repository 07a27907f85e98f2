use Rattle.stm_journal.proofs.Loads.{IsRead-part}
use Rattle.stm_journal.proofs.load.Loader.take_part.Goals as goal

pub returns-clause-takes : goal.returns-clause-takes
returns-clause-takes c = λ bytes is none short.
    IsRead-part c.args.self.now.journal c.pass_bytes.new.self c.args.self.now.tail c.extend.new.self c.args.part.now bytes none c.pass_bytes.ensures is short
    c.in_ok-extend.ensures.none c.in_ok-extend.ensures.some
