-- What the words ask for: a request, or help.
use Rattle.std.proofs.Common.{◌≡◌, ◌⊎◌, [], List, Option, Some, None, Result, Ok, Err, IfOk, ℕ, inl, inr, option_map, subst}
use Rattle.clap.specs.Words.{IsAmong, Text, fault_of, rows_of, subcommand_name_of, subcommand_of, subcommand_rows_of}
use Rattle.clap.specs.declared.builder.value_parser.ValueParser.{ValueParser}
use Rattle.clap.specs.declared.error.kind.ErrorKind.{ErrorKind}
use Rattle.clap.specs.declared.error.kind.ErrorKind.TheVariants.{DisplayHelp, DisplayVersion, OutOfMemory}
use Rattle.clap.specs.declared.parser.matches.ArgMatches.{ArgMatches}
use Rattle.clap.specs.declared.parser.matches.Found.{Found}
use Rattle.stm_words.specs.declared.environment.Environment.{Environment}
use Rattle.stm_words.specs.declared.request.Request.{Request}
use Rattle.stm_words.specs.declared.unread.Unread.{Unread}
use Rattle.stm_words.specs.declared.unread.Unread.TheVariants.{Help}
use Rattle.stm_words.specs.Request.{AskForHelp, AsksBySubcommand, AsksFor, IsAskedFor, OnHelp}
use Rattle.stm_words.specs.CommandSet.{TakesKinds, command_set}

-- a pair, by its parts
both : {X Y Z : Type 0} (found : Option X) (f : X → Y) (g : X → Z) (y : Y) (z : Z)
    → Some y ≡ option_map f found
    → Some z ≡ option_map (λ p. p.1) (option_map {U = Y × Z} (λ x. (f x, g x)) found)
    → option_map {U = Y × Z} (λ x. (f x, g x)) found ≡ Some (y, z)
both None f g y z first second = absurd (cc)
both (Some x) f g y z first second = cc

-- the subcommand that was found, by its name and its rows
pub found-by : (m : ArgMatches) (name : List ℕ) (given : Found) → Some name ≡ subcommand_name_of m
    → Some (rows_of given) ≡ option_map (λ p. p.1) (subcommand_rows_of m)
    → subcommand_rows_of m ≡ Some (name, rows_of given)
found-by m name given first second = both _ _ _ name (rows_of given) first second

pub asks-for : {E : Type 0} (e : Environment) (m : ArgMatches) (name : List ℕ) (given : Found) (result : Result Request E)
    → subcommand_rows_of m ≡ Some (name, rows_of given) → IfOk result (AsksBySubcommand e name given)
    → IfOk result (AsksFor e (subcommand_rows_of m))
asks-for e m name given (Ok request) named asks = record { name = name; given = given; named = named; asks = asks }
asks-for e m name given (Err why) named asks = tt

pub asked-for : (e : Environment) (words : List Text) (m : ArgMatches) (kinds : ValueParser) (request : Request)
    → TakesKinds kinds → fault_of (command_set e kinds) words ≡ []
    → subcommand_rows_of m ≡ subcommand_of (command_set e kinds) words
    → AsksFor e (subcommand_rows_of m) request → IsAskedFor e words request
asked-for e words m kinds request takes faultless reads asks =
    record { kinds = kinds; takes = takes; faultless = faultless; asks = subst (λ found. AsksFor e found request) reads asks }

-- `clap` gives help only where the words ask for it
pub help-asked : (e : Environment) (words : List Text) (kind : ErrorKind) (unread : Unread)
    → (kind ≡ OutOfMemory) ⊎ ((p : ValueParser) × TakesKinds p × IsAmong kind (fault_of (command_set e p) words))
    → OnHelp unread ((kind ≡ DisplayHelp) ⊎ (kind ≡ DisplayVersion)) → OnHelp unread (AskForHelp e words)
help-asked e words kind (Help text) (inl memory) (inl help) = absurd (cc)
help-asked e words kind (Help text) (inl memory) (inr version) = absurd (cc)
help-asked e words kind (Help text) (inr among) (inl help) =
    record { kinds = among.0; takes = among.1; is = inl (subst (λ k. IsAmong k (fault_of (command_set e among.0) words)) help among.2) }
help-asked e words kind (Help text) (inr among) (inr version) =
    record { kinds = among.0; takes = among.1; is = inr (subst (λ k. IsAmong k (fault_of (command_set e among.0) words)) version among.2) }
help-asked e words kind _ why h = tt
