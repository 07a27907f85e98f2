-- What is so of every journal without a bad line.
use Rattle.std.proofs.Common.{◌≡◌, ◌≤◌, ℕ, ◌+◌, ◌*◌, ◌-◌, Bool, true, false, not, ◌&&◌, ◌||◌, ◌==◌, nat_le, nat_lt, if◌then◌else◌, List, [], ◌∷◌, length, fold, take, drop, Option, Some, None, option_map, refl, sym, subst, arith, codes}
use Rattle.std.specs.Prelude.{is_some, position, slice_index}
use Rattle.std.proofs.lemmas.Bool.{true≢false, not-true}
use Rattle.std.proofs.lemmas.Bool.Decides.{nat_tests}
use Rattle.std.proofs.lemmas.Option.{none-some}
use Rattle.stm_wire.specs.declared.intent.Intent.TheVariants.{Erase, Program}
use Rattle.stm_journal.proofs.Names.{after_entry, after_line, after_said, AllEnded, allows, bad, behind, board_at, board_header_of, board_of_fields, decimal_of, empty_state, EndedBelow, Entry}
use Rattle.stm_journal.proofs.Names.{entry_of, good, header_of, id_of, IntentIsKept, is_ended_stage, is_unfinished, is_void, IsSound, journal_of, JournalData, JournalHeader, keeping, Kept}
use Rattle.stm_journal.proofs.Names.{kept_entry_of, kept_in, may_keep, newest_has, newest_keeps, newest_may_keep, on_newest, page_at, page_of_fields, read_line, Reading, SegmentData, Stage}
use Rattle.stm_journal.proofs.Names.{stage_with, start, StateData, text_of, unique_id_of, with_digit, worded}
use Rattle.stm_journal.specs.declared.stage.Stage.TheVariants.{Open, Ended, Returning}
use Rattle.stm_journal.specs.declared.entry.Entry.TheVariants.{Names, Opens, Keeps, Erases, Programs, Ends, Undoes}
use Rattle.stm_journal.proofs.Intended.{intended-intend, intended-end, intended-ended}
use Rattle.stm_journal.proofs.Pages.{IsSound-keep}

first-true : (a b : Bool) → (a && b) ≡ true → a ≡ true
first-true true b e = refl
first-true false b e = e

second-true : (a b : Bool) → (a && b) ≡ true → b ≡ true
second-true true b e = e
second-true false b e = absurd (true≢false (sym e))

-- a number that is read is at most 65,535
abbrev IsWithin : Option ℕ → Type 0
IsWithin None = Unit {0}
IsWithin (Some n) = n ≤ 65535

within-taken : (b : Bool) (o : Option ℕ) → (b ≡ true → IsWithin o) → IsWithin (if b then o else None)
within-taken true o h = h refl
within-taken false o h = tt

within-refused : (b : Bool) (o : Option ℕ) → IsWithin o → IsWithin (if b then None else o)
within-refused true o h = tt
within-refused false o h = h

le-tested : (a b : ℕ) → nat_le a b ≡ true → a ≤ b
le-tested a b h = grind (arith, nat_tests)

within-digit : (o : Option ℕ) (c : ℕ) → IsWithin (with_digit o c)
within-digit None c = tt
within-digit (Some n) c =
    within-taken ((nat_le 48 c && nat_le c 57) && nat_le (n * 10 + (c - 48)) 65535) (Some (n * 10 + (c - 48)))
    (λ e. le-tested (n * 10 + (c - 48)) 65535 (second-true (nat_le 48 c && nat_le c 57) (nat_le (n * 10 + (c - 48)) 65535) e))

within-digits : (o : Option ℕ) (digits : List ℕ) → IsWithin o → IsWithin (fold with_digit o digits)
within-digits o [] h = h
within-digits o (c ∷ digits) h = within-digits (with_digit o c) digits (within-digit o c)

within-number : (digits : List ℕ) → IsWithin (decimal_of digits)
within-number digits = within-refused (length digits == 0 || (nat_lt 1 (length digits) && slice_index digits 0 == 48)) (fold with_digit (Some 0) digits) (within-digits (Some 0) digits (omega arith))

-- a segment's number, as an entry opens it, is at most 65,535
abbrev IsShort : Entry → Type 0
IsShort (Names version id unique) = Unit {0}
IsShort (Opens k) = k ≤ 65535
IsShort (Keeps n bytes) = Unit {0}
IsShort (Erases n) = Unit {0}
IsShort (Programs n) = Unit {0}
IsShort (Ends k) = Unit {0}
IsShort (Undoes k) = Unit {0}

abbrev SaysShort : Option Entry → Type 0
SaysShort None = Unit {0}
SaysShort (Some e) = IsShort e

short-opens : (o : Option ℕ) → IsWithin o → SaysShort (option_map (λ n. Opens n) o)
short-opens None h = tt
short-opens (Some n) h = h

short-erases : (o : Option ℕ) → SaysShort (option_map (λ n. Erases n) o)
short-erases None = tt
short-erases (Some n) = tt

short-programs : (o : Option ℕ) → SaysShort (option_map (λ n. Programs n) o)
short-programs None = tt
short-programs (Some n) = tt

short-ends : (o : Option ℕ) → SaysShort (option_map (λ n. Ends n) o)
short-ends None = tt
short-ends (Some n) = tt

short-undoes : (o : Option ℕ) → SaysShort (option_map (λ n. Undoes n) o)
short-undoes None = tt
short-undoes (Some n) = tt

short-names : (version : ℕ) (o : Option ℕ) → SaysShort (option_map (λ id. Names version id []) o)
short-names version None = tt
short-names version (Some id) = tt

short-board-fields : (o : Option ℕ) (u : Option (List ℕ)) → SaysShort (board_of_fields o u)
short-board-fields None u = tt
short-board-fields (Some id) None = tt
short-board-fields (Some id) (Some unique) = tt

short-board : (rest : List ℕ) (o : Option ℕ) → SaysShort (board_at rest o)
short-board rest None = tt
short-board rest (Some i) = short-board-fields (id_of (take i rest)) (unique_id_of (drop (i + 1) rest))

short-fields : (o : Option ℕ) (bytes : Option (List ℕ)) → SaysShort (page_of_fields o bytes)
short-fields (Some n) (Some bytes) = tt
short-fields (Some n) None = tt
short-fields None bytes = tt

short-page : (rest : List ℕ) (o : Option ℕ) → SaysShort (page_at rest o)
short-page rest None = tt
short-page rest (Some i) = short-fields _ _

short-behind : (o : Option (List ℕ)) (said : List ℕ → Option Entry) (other : Option Entry) → ((rest : List ℕ) → SaysShort (said rest)) → SaysShort other
    → SaysShort (elim o as (λ _. Option Entry) [ None ↦ other | Some rest ↦ said rest ])
short-behind None said other h g = g
short-behind (Some rest) said other h g = h rest

short-worded : (word : List ℕ) (said : List ℕ → Option Entry) (line : List ℕ) (other : Option Entry) → ((rest : List ℕ) → SaysShort (said rest)) → SaysShort other
    → SaysShort (worded word said line other)
short-worded word said line other h g = short-behind (behind word line) said other h g

short-entry : (line : List ℕ) → SaysShort (entry_of line)
short-entry line =
    short-worded (codes "page ") kept_entry_of line _ (λ rest. short-page rest (position (λ b. b == 32) rest))
    (short-worded (codes "stmjournal 1 ") (header_of 1) line _ (λ rest. short-names 1 (id_of rest))
    (short-worded (codes "stmjournal 2 ") (header_of 2) line _ (λ rest. short-names 2 (id_of rest))
    (short-worded (codes "stmjournal 3 ") board_header_of line _ (λ rest. short-board rest (position (λ b. b == 32) rest))
    (short-worded (codes "open ") (λ rest. option_map (λ n. Opens n) (decimal_of rest)) line _ (λ rest. short-opens (decimal_of rest) (within-number rest))
    (short-worded (codes "erase ") (λ rest. option_map (λ n. Erases n) (decimal_of rest)) line _ (λ rest. short-erases (decimal_of rest))
    (short-worded (codes "program ") (λ rest. option_map (λ n. Programs n) (decimal_of rest)) line _ (λ rest. short-programs (decimal_of rest))
    (short-worded (codes "end ") (λ rest. option_map (λ n. Ends n) (decimal_of rest)) line _ (λ rest. short-ends (decimal_of rest))
    (short-worded (codes "undone ") (λ rest. option_map (λ n. Undoes n) (decimal_of rest)) line None (λ rest. short-undoes (decimal_of rest)) tt))))))))

sound-change : (header : Option JournalHeader) (stack : List SegmentData) (stage : SegmentData → Stage) → IsSound (record { header = header; stack = stack })
    → IntentIsKept (record { header = header; stack = on_newest (λ segment. record segment { stage = stage segment }) stack })
    → IsSound (record { header = header; stack = on_newest (λ segment. record segment { stage = stage segment }) stack })
sound-change header [] stage sound intended = sound
sound-change header (segment ∷ below) stage sound intended = record { depth = sound.depth; named = sound.named; ended = sound.ended; once = sound.once; intended = intended }

sound-keep : (header : Option JournalHeader) (stack : List SegmentData) (k : Kept) → IsSound (record { header = header; stack = stack }) → newest_has (may_keep k.page) stack ≡ true
    → IsSound (record { header = header; stack = on_newest (keeping k) stack })
sound-keep header [] k sound may = sound
sound-keep header (segment ∷ below) k sound may = IsSound-keep header segment below k sound may

ended-rest : (below : List SegmentData) → AllEnded below → EndedBelow below
ended-rest [] ended = tt
ended-rest (segment ∷ below) ended = ended.1

sound-drop : (header : Option JournalHeader) (stack : List SegmentData) → IsSound (record { header = header; stack = stack })
    → IsSound (record { header = header; stack = drop 1 stack })
sound-drop header [] sound = sound
sound-drop header (segment ∷ below) sound =
    record {
      depth = omega (arith, sound.depth);
      named = λ some. sound.named (omega arith);
      ended = ended-rest below sound.ended;
      once = sound.once.1;
      intended = intended-ended header below sound.ended;
    }

ended-stage : (stage : Stage) → not (is_ended_stage stage) ≡ false → stage ≡ Ended
ended-stage (Open i) e = absurd (true≢false e)
ended-stage Ended e = refl
ended-stage (Returning i) e = absurd (true≢false e)

all-ended : (stack : List SegmentData) → EndedBelow stack → newest_has (λ segment. not (is_ended_stage segment.stage)) stack ≡ false → AllEnded stack
all-ended [] ended finished = tt
all-ended (segment ∷ below) ended finished = (ended-stage segment.stage finished, ended)

same-tested : (a b : ℕ) → (a == b) ≡ true → a ≡ b
same-tested a b h = grind (arith, nat_tests)

opens-parts : (a b c : Bool) → (a && b && c) ≡ true → (a ≡ true) × (b ≡ true) × (c ≡ true)
opens-parts true true c e = (refl, refl, e)
opens-parts true false c e = absurd (true≢false (sym e))
opens-parts false true c e = absurd (true≢false (sym e))
opens-parts false false c e = absurd (true≢false (sym e))

sound-open : (s : StateData) (k line ends : ℕ) → k ≤ 65535 → allows s (Opens k) ≡ true → IsSound s → IsSound (after_entry line ends s (Opens k))
sound-open s k line ends within may sound =
    let parts : (is_some s.header ≡ true) × (not (is_unfinished s) ≡ true) × ((k == length s.stack + 1) ≡ true) = opens-parts (is_some s.header) (not (is_unfinished s)) (k == length s.stack + 1) may in
    let number : k ≡ length s.stack + 1 = same-tested k (length s.stack + 1) parts.2 in
    record {
      depth = omega (arith, number, within);
      named = λ some. parts.0;
      ended = all-ended s.stack sound.ended (not-true (is_unfinished s) parts.1);
      once = (tt, sound.once);
      intended = λ i is. absurd (none-some i is);
    }

sound-entry : (line ends : ℕ) (s : StateData) (e : Entry) → IsShort e → allows s e ≡ true → IsSound s → IsSound (after_entry line ends s e)
sound-entry line ends s (Names version id unique) short may sound = record { depth = sound.depth; named = λ some. refl; ended = sound.ended; once = sound.once; intended = sound.intended }
sound-entry line ends s (Opens k) short may sound = sound-open s k line ends short may sound
sound-entry line ends s (Keeps n bytes) short may sound = sound-keep s.header s.stack (kept_in line ends n bytes) sound (second-true (is_some s.header) (newest_may_keep n s) may)
sound-entry line ends s (Erases n) short may sound =
    sound-change s.header s.stack (λ segment. stage_with (Erase n) segment.stage) sound (intended-intend s.header s.stack (Erase n) (second-true (is_some s.header) (newest_keeps n s) may))
sound-entry line ends s (Programs n) short may sound =
    sound-change s.header s.stack (λ segment. stage_with (Program n) segment.stage) sound (intended-intend s.header s.stack (Program n) (second-true (is_some s.header) (newest_keeps n s) may))
sound-entry line ends s (Ends k) short may sound = sound-change s.header s.stack (λ segment. Ended) sound (intended-end s.header s.stack)
sound-entry line ends s (Undoes k) short may sound = sound-drop s.header s.stack sound

abbrev IsSoundIfGood : JournalData → Type 0
IsSoundIfGood (good s) = IsSound s
IsSoundIfGood (bad line) = Unit {0}

sound-allowed : (b : Bool) (s : StateData) (line : ℕ) → (b ≡ true → IsSound s) → IsSoundIfGood (if b then good s else bad line)
sound-allowed true s line h = h refl
sound-allowed false s line h = tt

sound-said : (line ends : ℕ) (s : StateData) (o : Option Entry) → SaysShort o → IsSound s → IsSoundIfGood (after_said line ends s o)
sound-said line ends s None short sound = tt
sound-said line ends s (Some e) short sound = sound-allowed (allows s e) (after_entry line ends s e) line (λ may. sound-entry line ends s e short may sound)

sound-either : (b : Bool) (i j : JournalData) → IsSoundIfGood i → IsSoundIfGood j → IsSoundIfGood (if b then i else j)
sound-either true i j h g = h
sound-either false i j h g = g

sound-line : (line ends : ℕ) (j : JournalData) (text : List ℕ) → IsSoundIfGood j → IsSoundIfGood (after_line line ends j text)
sound-line line ends (bad first) text sound = tt
sound-line line ends (good s) text sound = sound-either (is_void text) (good s) (after_said line ends s (entry_of text)) sound (sound-said line ends s (entry_of text) (short-entry text) sound)

sound-lines : (r : Reading) (lines : List (List ℕ)) → IsSoundIfGood r.journal → IsSoundIfGood (fold read_line r lines).journal
sound-lines r [] sound = sound
sound-lines r (text ∷ lines) sound = sound-lines (read_line r text) lines (sound-line (r.lines + 1) (r.size + length text) r.journal text sound)

sound-empty : IsSound empty_state
sound-empty = record { depth = omega arith; named = λ some. absurd (omega (arith, some)); ended = tt; once = tt; intended = λ i is. absurd (none-some i is) }

pub journal-is-sound : (bytes : List ℕ) (s : StateData) → journal_of bytes ≡ good s → IsSound s
journal-is-sound bytes s is = subst IsSoundIfGood is (sound-lines start (text_of bytes).lines sound-empty)
