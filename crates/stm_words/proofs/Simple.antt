-- The command set is simple in `clap`'s sense, so its matches are known.
use Rattle.std.proofs.Common.{◌≡◌, ◌⊎◌, [], refl, true, Result, Ok, Err, IfOk, IfErr}
use Rattle.clap.proofs.OnLiterals.{clap_on_literals}
use Rattle.clap.specs.Words.{FailsBy, IsAmong, Kinds, is_simple, is_simple_and_free, kind_of}
use Rattle.clap.specs.declared.builder.value_parser.ValueParser.{ValueParser}
use Rattle.clap.specs.declared.error.Error.{Error}
use Rattle.clap.specs.declared.error.ErrorKind.TheVariants.{OutOfMemory}
use Rattle.stm_words.specs.declared.environment.Environment.{Environment}
use Rattle.stm_words.specs.CommandSet.{command_set, with_rules}

pub simple : (e : Environment) (kinds : ValueParser) → is_simple (command_set e kinds) ≡ true
unfolding clap_on_literals command_set with_rules
simple e kinds = refl

pub simple_and_free : (e : Environment) (kinds : ValueParser) → is_simple_and_free (command_set e kinds) ≡ true
unfolding clap_on_literals command_set with_rules
simple_and_free e kinds = refl

pub at_ok : {T : Type 0} (r : Result T Error) (kinds : Kinds) (P Q : T → Type 0) → FailsBy kinds r → IfOk r P → ((m : T) → kinds ≡ [] → P m → Q m) → IfOk r Q
at_ok (Ok m) kinds P Q none h f = f m none h
at_ok (Err e) kinds P Q k h f = h

pub at_err : {T : Type 0} (r : Result T Error) (kinds : Kinds) (Q : Error → Type 0) → FailsBy kinds r → ((e : Error) → (kind_of e ≡ OutOfMemory) ⊎ IsAmong (kind_of e) kinds → Q e) → IfErr r Q
at_err (Ok m) kinds Q none f = tt
at_err (Err e) kinds Q k f = f e k
