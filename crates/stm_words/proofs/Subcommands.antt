-- What adding an argument or a subcommand makes.
use Rattle.std.proofs.Common.{◌≡◌, ◌∙◌, ap, ap₂, ◌||◌, ◌++◌, List, [], ◌∷◌, codes, false, refl, true, Some}
use Rattle.std.specs.Borrow.{Bor}
use Rattle.clap.specs.Words.{App, AddsArg, AddsSubcommand, Rule, Text, app_of, new_app, rule_of, with_rule, with_subcommand}
use Rattle.clap.specs.Simple.{app_of_fields}
use Rattle.clap.specs.declared.builder.arg.Arg.{Arg}
use Rattle.clap.specs.declared.builder.command.Command.{Command}
use Rattle.clap.specs.declared.builder.command.Command.TheOpen.{Command-F}
use Rattle.clap.specs.declared.builder.command.Command.TheViews.{out-Command as fields_of}
use Rattle.stm_words.specs.CommandSet.{Makes, bare_app, with_rules}

pub adds : (a : App) (r : Rule) (old : Command) (x : Arg) (new : Command) → Makes a old → rule_of x ≡ r → x.global ≡ false → AddsArg old x new → Makes (with_rule a r) new
adds a r old x new m is local add =
    (add.shape local ∙ ap₂ with_rule m.0 is, add.globals ∙ ap₂ (λ p q. p || q) m.1 local)

pub adds_sub : (a s : App) (old sub new : Command) → Makes a old → Makes s sub → AddsSubcommand old sub new → Makes (with_subcommand a s.top) new
adds_sub a s old sub new m is add =
    (add.shape is.1 ∙ ap₂ with_subcommand m.0 (ap (λ (x : App). x.top) is.0), add.globals ∙ ap₂ (λ p q. p || q) m.1 is.1)

-- a command with a text that `clap` doesn't read words by
pub described : (a : App) (old new : Command) → app_of old ≡ a → (fields_of old).has_globals ≡ false
    → app_of_fields (fields_of new) ≡ app_of_fields (fields_of old) → (fields_of new).has_globals ≡ (fields_of old).has_globals → Makes a new
described a old new is local shape globals = (shape ∙ is, globals ∙ local)

-- the program itself
pub bare : (new about version required : Command) (text number : Bor Text) → app_of new ≡ new_app (codes "stmflash") → (fields_of new).has_globals ≡ false
    → fields_of about ≡ record (fields_of new) { about = Some text } → fields_of version ≡ record (fields_of about) { version = Some number }
    → fields_of required ≡ record (fields_of version) { subcommand_required = true } → Makes bare_app required
bare new about version required text number is local a v r =
    let f : fields_of required ≡ record (fields_of new) { about = Some text; version = Some number; subcommand_required = true } =
    r ∙ ap (λ (c : Command-F Command). record c { subcommand_required = true }) (v ∙ ap (λ (c : Command-F Command). record c { version = Some number }) a) in (
      ap app_of_fields f ∙ ap (λ (x : App). record x { top = record x.top { subcommand_required = true; has_version = true } }) is,
      ap (λ (c : Command-F Command). c.has_globals) f ∙ local,
    )

pub rules_more : (a : App) (rules : List Rule) (rule : Rule) → with_rules a (rules ++ rule ∷ []) ≡ with_rule (with_rules a rules) rule
unfolding with_rules
rules_more a [] rule = refl
rules_more a (first ∷ rules) rule = rules_more (with_rule a first) rules rule
