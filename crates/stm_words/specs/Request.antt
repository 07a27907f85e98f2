-- What a command line means: which request its words ask for, or that they ask for help.
use Rattle.std.specs.Prelude.{◌≡◌, ◌⊎◌, ◌||◌, ◌&&◌, ◌==◌, ◌-◌, bytes_eq, map, not, Bool, true, false, IfSome, IsSome, IsTrue}
use Rattle.std.specs.Prelude.{if◌then◌else◌, is_some, ◌<◌, codes, List, [], drop, length, ℕ, Option, None, Some}
use Rattle.std.specs.Char.{to_ascii_lowercase}
use Rattle.clap.specs.Words.{IsAmong, Row, Text, fault_of, first_value, rows_of, subcommand_of}
use Rattle.clap.specs.declared.builder.value_parser.ValueParser.{ValueParser}
use Rattle.clap.specs.declared.error.kind.ErrorKind.TheVariants.{DisplayHelp, DisplayVersion}
use Rattle.clap.specs.declared.parser.matches.Found.{Found}
use Rattle.stm_words.specs.declared.device.Device.{Device}
use Rattle.stm_words.specs.declared.device.Device.TheVariants.{Simulator, Socket}
use Rattle.stm_words.specs.declared.environment.Environment.{Environment}
use Rattle.stm_words.specs.declared.extent.Extent.{Extent}
use Rattle.stm_words.specs.declared.extent.Extent.TheVariants.{Newest, ToChange}
use Rattle.stm_words.specs.declared.image_file.ImageFile.{ImageFile}
use Rattle.stm_words.specs.declared.kept.Kept.{Kept}
use Rattle.stm_words.specs.declared.options.Options.{Options}
use Rattle.stm_words.specs.declared.progress.Progress.TheVariants.{Lines, OnTerminal, Silent}
use Rattle.stm_words.specs.declared.range.Range.{Range}
use Rattle.stm_words.specs.declared.request.Request.{Request}
use Rattle.stm_words.specs.declared.request.Request.TheVariants.{Use, Log, Keep, Serve}
use Rattle.stm_words.specs.declared.sequel.Sequel.{Sequel}
use Rattle.stm_words.specs.declared.served.Served.{Served}
use Rattle.stm_words.specs.declared.table_names.TableNames.{TableNames}
use Rattle.stm_words.specs.declared.task.Task.{Task}
use Rattle.stm_words.specs.declared.task.Task.TheVariants.{Info, Read, Write, Verify, Erase, Undo}
use Rattle.stm_words.specs.declared.task.Task.TheVariants.{Go, Protect, ReadHex, Sum}
use Rattle.stm_words.specs.declared.unread.Unread.{Unread}
use Rattle.stm_words.specs.declared.unread.Unread.TheVariants.{Help}
use Rattle.stm_words.specs.CommandSet.{TakesKinds, command_set}
use Rattle.stm_words.specs.Given.{Gives, GivesOrZero, NamesBoard, NamesText, are_board_digits, are_unique_digits, cut_at, has}
use Rattle.stm_words.specs.Given.{chip_id_of, is_of_simulator, is_word, mode_of, number_to, range_of}
use Rattle.stm_words.specs.Given.{simulator_of, texts_of, word_range_of}
use Rattle.stm_words.specs.Images.{AreImagesNamed}
use Rattle.stm_words.specs.Number.{word_number}
use Rattle.stm_words.specs.Pages.{NameAll}

-- a word names the only table; without one the tables are those of the environment
pub record AreTables (e : Environment) (given : Found) (t : TableNames) : Type 0 where
  pub lowest : first_value given (codes "table") ≡ Some t.lowest.now
  pub over : t.over ≡ (if is_word given (codes "table") then None else e.over)

-- `sim:ID:FILE` names a simulator in the process; every other word is a socket's path
abbrev pub NamesDevice : List ℕ → Device → Type 0
NamesDevice word (Simulator id file) = (is_of_simulator word ≡ true)
    × (simulator_of (cut_at 58 (drop 4 word)) ≡ Some (id, file.now))
NamesDevice word (Socket path) = (is_of_simulator word ≡ false) × (path.now ≡ word)
    × (0 < length word)

abbrev pub is_simulator : Device → Bool
is_simulator (Simulator id file) = true
is_simulator (Socket path) = false

-- The journal is the file, or in the folder, that is named; of two that which a word names alone.
abbrev pub goes_before : Found → List ℕ → List ℕ → Bool
goes_before given id other = not (is_some (first_value given other))
    || (is_word given id && not (is_word given other))

abbrev pub NamesJournal : Found → List ℕ → Bool → Type 0
NamesJournal given name false = (first_value given (codes "journal") ≡ Some name)
    × (goes_before given (codes "journal") (codes "journals") ≡ true)
NamesJournal given name true = (first_value given (codes "journals") ≡ Some name)
    × (goes_before given (codes "journals") (codes "journal") ≡ true)

-- the options that every use of a device has, as words give them, or the environment
pub record AreOptions (e : Environment) (given : Found) (o : Options) : Type 0 where
  pub table : AreTables e given o.table
  pub device : (word : List ℕ) × (first_value given (codes "device") ≡ Some word)
      × NamesDevice word o.device
  pub journal : NamesJournal given o.journal.now o.in_folder
  pub wait : Gives (number_to 60000) given (codes "wait") (Some o.wait)
  pub baud : Gives (number_to 4000000) given (codes "baud") o.baud
  pub give_up : Gives word_number given (codes "give-up") o.give_up
  pub board : NamesBoard given o.board
  pub digits : IfSome o.board (λ text. IsTrue (are_board_digits text.now))
  pub no_board : o.without_board ≡ has given (codes "no-board")
      || e.without_board && not (is_word given (codes "board") || is_word given (codes "journals"))
  pub asked : IsSome o.board → o.without_board ≡ false
  pub told : o.in_folder ≡ true → o.without_board ≡ false
  pub fresh : o.is_fresh ≡ has given (codes "fresh") || e.is_fresh
  pub no_lock : o.without_lock ≡ has given (codes "no-lock") || e.without_lock
  pub trust : o.trusts_others ≡ has given (codes "trust-journal")
  pub watch : o.watches ≡ has given (codes "watch")
  pub recover : o.recovers ≡ has given (codes "recover")
  pub one : o.recovers ≡ true → o.in_folder ≡ false
  pub progress : o.progress ≡ (if has given (codes "quiet") then Silent
      else (if has given (codes "progress") then Lines else OnTerminal))
  pub stop : Gives word_number given (codes "stop") o.stop

-- the images that words name, and where they lie if they are raw bytes
pub record AreImageFiles (given : Found) (images : List ImageFile) : Type 0 where
  pub range : Option Range
  pub is_range : Gives range_of given (codes "range") range
  pub named : AreImagesNamed (has given (codes "force")) range (texts_of given (codes "IMAGE")) images

-- the name of a file ends as that of one of HEX, in letters of either case
abbrev pub is_hex_name : List ℕ → Bool
is_hex_name out =
    bytes_eq (map to_ascii_lowercase (drop (length out - 4) out)) (codes ".hex")

-- what is read is written as HEX: the flag says so, or the end of the file's name
abbrev pub wants_hex : Found → List ℕ → Bool
wants_hex given out = has given (codes "hex") || is_hex_name out

-- how far back `undo` goes: so many, where 0 is all, or to the newest change
abbrev pub NamesExtent : Found → Extent → Type 0
NamesExtent given (Newest count) = (has given (codes "to-change") ≡ false)
    × GivesOrZero word_number given (codes "COUNT") count
NamesExtent given ToChange = (has given (codes "to-change") ≡ true)
    × (first_value given (codes "COUNT") ≡ None)

-- the subcommand of this name, with these words, asks for this
abbrev pub IsTask : List ℕ → Found → Task → Type 0
IsTask name given (Info is_raw) = (name ≡ codes "info") × (is_raw ≡ has given (codes "raw"))
IsTask name given (Read range out) = (name ≡ codes "read")
    × Gives range_of given (codes "range") range
    × (first_value given (codes "OUT") ≡ Some out.now) × (wants_hex given out.now ≡ false)
    × (has given (codes "skip-blank") ≡ false)
IsTask name given (ReadHex range out skips) = (name ≡ codes "read")
    × Gives range_of given (codes "range") range
    × (first_value given (codes "OUT") ≡ Some out.now) × (wants_hex given out.now ≡ true)
    × (skips ≡ has given (codes "skip-blank"))
IsTask name given (Sum range) = (name ≡ codes "crc") × Gives word_range_of given (codes "range") range
IsTask name given (Write images verifies) = (name ≡ codes "write") × AreImageFiles given images.items
    × (verifies ≡ has given (codes "check"))
IsTask name given (Verify images) = (name ≡ codes "verify") × AreImageFiles given images.items
IsTask name given (Erase is_all pages) = (name ≡ codes "erase")
    × (is_all ≡ has given (codes "all")) × NameAll (texts_of given (codes "PAGE")) pages.items
IsTask name given (Undo extent verifies) = (name ≡ codes "undo") × NamesExtent given extent
    × (verifies ≡ has given (codes "check"))
IsTask name given (Go address) =
    (name ≡ codes "go") × Gives word_number given (codes "ADDRESS") (Some address)
IsTask name given (Protect kind is_sure in_session) = (name ≡ codes "protect")
    × (first_value given (codes "KIND") ≡ Some kind.now) × (is_sure ≡ has given (codes "yes"))
    × (in_session ≡ has given (codes "in-session"))
    × (in_session ≡ true → kind.now ≡ codes "write-unprotect")

-- it may be done where a session was stopped
abbrev pub goes_in_session : Task → Bool
goes_in_session (Protect kind is_sure in_session) = in_session
goes_in_session _ = false

-- an erase of neither all pages nor some, or of both
abbrev pub wants_pages : Task → Bool
wants_pages (Erase is_all pages) = if length pages.items == 0 then not is_all else is_all
wants_pages _ = false

-- the journal that `keep` names, and where it goes, or how many of the newest aren't given up
pub record NamesKept (e : Environment) (given : Found) (kept : Kept) : Type 0 where
  pub journal : first_value given (codes "journal") ≡ Some kept.journal.now
  pub to : NamesText given (codes "TO") kept.to
  pub last : Gives (number_to 65535) given (codes "last") kept.last
  pub cut : IsSome kept.last → kept.to ≡ None
  pub no_lock : kept.without_lock ≡ has given (codes "no-lock") || e.without_lock
  pub trust : kept.trusts_others ≡ has given (codes "trust-journal")

-- the simulator that `sim` serves, and how
pub record NamesServed (e : Environment) (given : Found) (served : Served) : Type 0 where
  pub table : AreTables e given served.table
  pub id : Gives chip_id_of given (codes "id") (Some served.id)
  pub flash : first_value given (codes "flash") ≡ Some served.flash.now
  pub unique : NamesText given (codes "unique") served.unique
  pub digits : IfSome served.unique (λ text. IsTrue (are_unique_digits text.now))
  pub size : Gives (number_to 65534) given (codes "size") served.size
  pub protected : NameAll (texts_of given (codes "protected")) served.protected.items
  pub readout_protection : served.readout_protection ≡ has given (codes "readout-protection")
  pub socket : first_value given (codes "socket") ≡ Some served.socket.now
  pub mode : Gives mode_of given (codes "mode") (Some served.mode)
  pub clients : Gives (number_to 1000000) given (codes "clients") (Some served.clients)
  pub no_lock : served.without_lock ≡ has given (codes "no-lock") || e.without_lock

-- nothing follows
pub record IsAlone (sequel : Sequel) : Type 0 where
  pub stays : sequel.keeps ≡ false
  pub unmoved : sequel.to ≡ None
  pub held : sequel.go ≡ None
  pub once : sequel.again ≡ 0

-- `--keep`, or `--keep-to` with a name; a Go only behind these; and how often again
pub record IsSequel (given : Found) (sequel : Sequel) : Type 0 where
  pub to : NamesText given (codes "keep-to") sequel.to
  pub keeps : sequel.keeps ≡ has given (codes "keep") || is_some sequel.to
  pub go : Gives word_number given (codes "go") sequel.go
  pub behind : is_some sequel.go ≡ true → sequel.keeps ≡ true
  pub again : GivesOrZero (number_to 1000) given (codes "again") sequel.again

-- only a write is followed
pub record IsFollowedBy (name : List ℕ) (given : Found) (sequel : Sequel) : Type 0 where
  pub write : name ≡ codes "write" → IsSequel given sequel
  pub other : (name ≡ codes "write" → ⊥) → IsAlone sequel

-- the device isn't asked anything before its session
pub record IsUnasked (o : Options) : Type 0 where
  pub unwanted : o.board ≡ None
  pub named : o.in_folder ≡ false
  pub unwatched : o.watches ≡ false

-- A use of a device. Only a simulator is stopped, an erase names all pages or some, and what may be
-- done where a session was stopped has no question before it.
pub record IsUseAsked (e : Environment) (name : List ℕ) (given : Found) (o : Options) (t : Task)
    (s : Sequel) : Type 0 where
  pub options : AreOptions e given o
  pub task : IsTask name given t
  pub sequel : IsFollowedBy name given s
  pub stops : IsSome o.stop → is_simulator o.device ≡ true
  pub pages : wants_pages t ≡ false
  pub unasked : goes_in_session t ≡ true → IsUnasked o

-- the subcommand of this name, with these words, asks for this
abbrev pub AsksBySubcommand : Environment → List ℕ → Found → Request → Type 0
AsksBySubcommand e name given (Use options task sequel) = IsUseAsked e name given options task sequel
AsksBySubcommand e name given (Log journal is_whole) = (name ≡ codes "log")
    × (first_value given (codes "journal") ≡ Some journal.now)
    × (is_whole ≡ has given (codes "check"))
AsksBySubcommand e name given (Keep kept) = (name ≡ codes "keep") × NamesKept e given kept
AsksBySubcommand e name given (Serve served) = (name ≡ codes "sim") × NamesServed e given served

-- so does the subcommand that was found, by its name and its rows
pub record AsksFor (e : Environment) (row : Option (Text × List Row)) (r : Request) : Type 0 where
  pub name : List ℕ
  pub given : Found
  pub named : row ≡ Some (name, rows_of given)
  pub asks : AsksBySubcommand e name given r

-- The words have no fault by the command set, and ask for this.
pub record IsAskedFor (e : Environment) (words : List Text) (request : Request) : Type 0 where
  pub kinds : ValueParser
  pub takes : TakesKinds kinds
  pub faultless : fault_of (command_set e kinds) words ≡ []
  pub asks : AsksFor e (subcommand_of (command_set e kinds) words) request

-- By the command set the words ask for help, or for the version.
pub record AskForHelp (e : Environment) (words : List Text) : Type 0 where
  pub kinds : ValueParser
  pub takes : TakesKinds kinds
  pub is : IsAmong DisplayHelp (fault_of (command_set e kinds) words)
      ⊎ IsAmong DisplayVersion (fault_of (command_set e kinds) words)

-- where help is the answer, this holds
abbrev pub OnHelp : Unread → Type 0 → Type 0
OnHelp (Help text) P = P
OnHelp _ P = Unit {0}
