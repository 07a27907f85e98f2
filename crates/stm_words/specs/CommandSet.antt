-- The program's subcommands, as `clap` sees them.
use Rattle.std.specs.Prelude.{◌≡◌, ℕ, List, [], ◌∷◌, Option, Some, None, codes, is_some, map, not}
use Rattle.std.specs.Prelude.{option_map, option_to_list, Bool, true, false, ◌&&◌}
use Rattle.std.specs.Prelude.{if◌then◌else◌, nat_le, nat_lt}
use Rattle.std.specs.Borrow.{Bor}
use Rattle.clap.specs.Words.{App, Rule, Text, app_of, found_of, matches_of, new_app, new_rule}
use Rattle.clap.specs.Words.{rows_of, subcommand_of, subcommand_rows_of, with_rule, with_subcommand}
use Rattle.clap.specs.declared.builder.ArgAction.TheVariants.{Append, SetTrue}
use Rattle.clap.specs.declared.builder.command.Command.{Command}
use Rattle.clap.specs.declared.builder.command.Command.TheViews.{out-Command as fields_of}
use Rattle.clap.specs.declared.builder.value_parser.ValueParser.{ValueParser}
use Rattle.clap.specs.declared.builder.value_parser.ValueParser.TheVariants.{Names}
use Rattle.clap.specs.declared.parser.matches.ArgMatches.{ArgMatches}
use Rattle.stm_words.specs.declared.argument.Word.{Word}
use Rattle.stm_words.specs.declared.argument.Word.TheVariants.{Flag, HiddenFlag, LetterFlag, LetterOption, Needed}
use Rattle.stm_words.specs.declared.argument.Word.TheVariants.{NeededOption, NeededRepeated, Repeated, RepeatedOption, Spare, SpareOption}
use Rattle.stm_words.specs.declared.environment.Environment.{Environment}
use Rattle.stm_words.specs.Number.{word_number}

-- the flag `--name`
abbrev pub flag_rule : Text → Rule
flag_rule name = record (new_rule name) { long = Some name; action = Some SetTrue }

-- a flag of one letter
abbrev pub letter_rule : Text → ℕ → Rule
letter_rule name letter = record (new_rule name) { short = Some letter; action = Some SetTrue }

-- an option of one letter
abbrev pub letter_option_rule : Text → ℕ → Rule
letter_option_rule name letter = record (new_rule name) { short = Some letter; value_names = 1 }

-- `--name VALUE`, in whose place this value stands
abbrev pub spare_option_rule : Text → Option Text → Rule
spare_option_rule name standing =
    record (new_rule name) {
      long = Some name;
      value_names = 1;
      defaults = option_to_list standing;
    }

-- the same, which has to be given where no value stands in its place
abbrev pub needed_option_rule : Text → Option Text → Rule
needed_option_rule name standing =
    record (spare_option_rule name standing) { required = not (is_some standing) }

-- the same, which may be given several times
abbrev pub repeated_option_rule : Text → Rule
repeated_option_rule name = record (spare_option_rule name None) { action = Some Append }

-- a further word, which has to be given
abbrev pub needed_rule : Text → Rule
needed_rule name = record (new_rule name) { required = true }

-- any number of further words
abbrev pub repeated_rule : Text → Rule
repeated_rule name = record (new_rule name) { action = Some Append }

-- further words, of which one has to be given
abbrev pub needed_repeated_rule : Text → Rule
needed_repeated_rule name = record (needed_rule name) { action = Some Append }

-- a further word that `kinds` reads
abbrev pub kind_rule : ValueParser → Rule
kind_rule kinds = record (needed_rule (codes "KIND")) { parser = Some kinds }

-- the text that stands for an option
abbrev pub option_text : Option (Bor Text) → Option Text
option_text = option_map (λ s. s.now)

-- what `clap` is told of a word
abbrev pub rule_for : Word → Rule
rule_for (Flag name _) = flag_rule name.now
rule_for (HiddenFlag name _) = flag_rule name.now
rule_for (LetterFlag name letter _) = letter_rule name.now letter
rule_for (LetterOption name letter _ _) = letter_option_rule name.now letter
rule_for (SpareOption name _ standing _) = spare_option_rule name.now (option_text standing)
rule_for (NeededOption name _ standing _) = needed_option_rule name.now (option_text standing)
rule_for (RepeatedOption name _ _) = repeated_option_rule name.now
rule_for (Spare name _) = new_rule name.now
rule_for (Needed name _) = needed_rule name.now
rule_for (Repeated name _) = repeated_rule name.now
rule_for (NeededRepeated name _) = needed_repeated_rule name.now

-- a command that takes these too
unfoldable pub with_rules : App → List Rule → App
with_rules a [] = a
with_rules a (rule ∷ rules) = with_rules (with_rule a rule) rules

-- how long a reply may take, in milliseconds, where no word says it
abbrev pub wait_word : Option (Bor Text) → Text
wait_word (Some word) = word.now
wait_word None = codes "400"

-- what every use of a device takes, where this is the wait that no word says
abbrev pub board_rules : Environment → Text → List Rule
board_rules e wait =
    (needed_option_rule (codes "table") (option_text e.table)
    ∷ needed_option_rule (codes "device") (option_text e.device)
    ∷ spare_option_rule (codes "journal") (option_text e.journal)
    ∷ spare_option_rule (codes "journals") (option_text e.journals)
    ∷ flag_rule (codes "no-lock")
    ∷ flag_rule (codes "trust-journal")
    ∷ spare_option_rule (codes "wait") (Some wait)
    ∷ spare_option_rule (codes "baud") (option_text e.baud)
    ∷ spare_option_rule (codes "give-up") None
    ∷ flag_rule (codes "fresh")
    ∷ flag_rule (codes "progress")
    ∷ flag_rule (codes "quiet")
    ∷ flag_rule (codes "watch")
    ∷ flag_rule (codes "json")
    ∷ spare_option_rule (codes "stop") None
    ∷ spare_option_rule (codes "board") (option_text e.board)
    ∷ flag_rule (codes "no-board")
    ∷ [])

-- a subcommand that uses a device
abbrev pub on_board : Environment → Text → App
on_board e name = with_rules (new_app name) (board_rules e (wait_word e.wait))

abbrev pub info_app : Environment → App
info_app e = with_rules (on_board e (codes "info")) (flag_rule (codes "raw") ∷ [])

abbrev pub range_rule : Rule
range_rule = letter_option_rule (codes "range") 83

abbrev pub read_app : Environment → App
read_app e =
    with_rules (on_board e (codes "read"))
    (range_rule
    ∷ flag_rule (codes "hex")
    ∷ flag_rule (codes "skip-blank")
    ∷ needed_rule (codes "OUT")
    ∷ [])

abbrev pub crc_app : Environment → App
crc_app e = with_rules (on_board e (codes "crc")) (range_rule ∷ [])

abbrev pub write_app : Environment → App
write_app e =
    with_rules (on_board e (codes "write"))
    (letter_rule (codes "force") 102
    ∷ letter_rule (codes "check") 118
    ∷ range_rule
    ∷ flag_rule (codes "keep")
    ∷ spare_option_rule (codes "keep-to") None
    ∷ spare_option_rule (codes "go") None
    ∷ spare_option_rule (codes "again") None
    ∷ needed_repeated_rule (codes "IMAGE")
    ∷ [])

abbrev pub verify_app : Environment → App
verify_app e =
    with_rules (on_board e (codes "verify"))
    (letter_rule (codes "force") 102 ∷ range_rule ∷ needed_repeated_rule (codes "IMAGE") ∷ [])

abbrev pub erase_app : Environment → App
erase_app e =
    with_rules (on_board e (codes "erase"))
    (flag_rule (codes "all") ∷ repeated_rule (codes "PAGE") ∷ [])

-- the number of a wait, and a shorter one than where nothing is said
abbrev pub is_short_number : Option ℕ → Bool
is_short_number None = false
is_short_number (Some n) = nat_le 1 n && nat_lt n 400

abbrev pub is_short_wait : Text → Bool
is_short_wait wait = is_short_number (word_number wait)

-- a wait that stands for the word, but a short one
abbrev pub wait_behind_a_stop : Option (Bor Text) → Option (Bor Text)
wait_behind_a_stop None = None
wait_behind_a_stop (Some wait) = if is_short_wait wait.now then None else Some wait

-- what stands in the place of an undo's words: the board may still be busy with what was stopped
abbrev pub behind_a_stop : Environment → Environment
behind_a_stop e = record e { wait = wait_behind_a_stop e.wait }

abbrev pub undo_app : Environment → App
undo_app e =
    with_rules (on_board (behind_a_stop e) (codes "undo"))
    (letter_rule (codes "check") 118
    ∷ flag_rule (codes "to-change")
    ∷ flag_rule (codes "recover")
    ∷ new_rule (codes "COUNT")
    ∷ [])

abbrev pub log_app : Environment → App
log_app e =
    with_rules (new_app (codes "log"))
    (needed_option_rule (codes "journal") (option_text e.journal)
    ∷ flag_rule (codes "json")
    ∷ flag_rule (codes "check")
    ∷ [])

abbrev pub keep_app : Environment → App
keep_app e =
    with_rules (new_app (codes "keep"))
    (needed_option_rule (codes "journal") (option_text e.journal)
    ∷ flag_rule (codes "json")
    ∷ flag_rule (codes "no-lock")
    ∷ flag_rule (codes "trust-journal")
    ∷ spare_option_rule (codes "last") None
    ∷ new_rule (codes "TO")
    ∷ [])

abbrev pub go_app : Environment → App
go_app e = with_rules (on_board e (codes "go")) (needed_rule (codes "ADDRESS") ∷ [])

abbrev pub protect_app : Environment → ValueParser → App
protect_app e kinds =
    with_rules (on_board e (codes "protect"))
    (flag_rule (codes "yes") ∷ flag_rule (codes "in-session") ∷ kind_rule kinds ∷ [])

abbrev pub sim_app : Environment → App
sim_app e =
    with_rules (new_app (codes "sim"))
    (needed_option_rule (codes "table") (option_text e.table)
    ∷ needed_option_rule (codes "id") None
    ∷ needed_option_rule (codes "flash") None
    ∷ spare_option_rule (codes "unique") None
    ∷ spare_option_rule (codes "size") None
    ∷ repeated_option_rule (codes "protected")
    ∷ flag_rule (codes "readout-protection")
    ∷ flag_rule (codes "no-lock")
    ∷ needed_option_rule (codes "socket") None
    ∷ spare_option_rule (codes "mode") (Some (codes "600"))
    ∷ spare_option_rule (codes "clients") (Some (codes "1"))
    ∷ [])

-- the program's name, where a subcommand has to follow, or a flag that asks for help or the version
abbrev pub bare_app : App
bare_app =
    let a = new_app (codes "stmflash") in
    record a { top = record a.top { subcommand_required = true; has_version = true } }

-- all subcommands, where these values stand in the place of options; `kinds`
-- reads the word of `protect`
unfoldable pub command_set : Environment → ValueParser → App
command_set e kinds =
    with_subcommand (with_subcommand (with_subcommand (with_subcommand (with_subcommand
    (with_subcommand (with_subcommand
    (with_subcommand (with_subcommand (with_subcommand (with_subcommand (with_subcommand bare_app
    (info_app e).top) (read_app e).top) (crc_app e).top) (write_app e).top) (verify_app e).top)
    (erase_app e).top)
    (undo_app e).top)
    (log_app e).top) (keep_app e).top) (go_app e).top) (protect_app e kinds).top) (sim_app e).top

-- c is the command that a stands for, with no global argument
abbrev pub Makes : App → Command → Type 0
Makes a c = (app_of c ≡ a) × ((fields_of c).has_globals ≡ false)

-- what `clap` finds in the words, for the subcommands of a
abbrev pub ReadsWords : App → List Text → ArgMatches → Type 0
ReadsWords a words m =
    (rows_of (found_of m) ≡ matches_of a words) × (subcommand_rows_of m ≡ subcommand_of a words)

abbrev pub kind_words : List Text
kind_words = codes "write-unprotect" ∷ codes "readout-protect" ∷ codes "readout-unprotect" ∷ []

-- p takes the three words of `protect`
abbrev pub TakesKinds : ValueParser → Type 0
TakesKinds p = (k : Bor (List (Bor Text))) × (p ≡ Names k) × (map (λ s. s.now) k.now ≡ kind_words)
