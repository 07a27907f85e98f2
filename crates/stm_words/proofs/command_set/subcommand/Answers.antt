use Rattle.std.proofs.Common.{ap}
use Rattle.clap.specs.Words.{new_app}
use Rattle.clap.specs.Simple.{app_of_fields}
use Rattle.stm_words.proofs.Subcommands.{described}
use Rattle.stm_words.proofs.command_set.subcommand.Goals as goal

pub returns : goal.returns
returns c =
    c.with_words.ensures (new_app c.args.name.now)
    (described (new_app c.args.name.now) c.new.result c.about.result c.new.ensures.app c.new.ensures.local (ap app_of_fields c.about.ensures) (ap (λ f. f.has_globals) c.about.ensures))
