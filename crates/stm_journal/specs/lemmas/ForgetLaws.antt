-- A state in memory tells all that the text's state tells, but for the bytes of pages.
use Rattle.std.proofs.Common.{◌≡◌, ℕ, ◌+◌, ◌-◌, Bool, true, false, not, ◌&&◌, ◌||◌, ◌==◌, nat_le}
use Rattle.std.proofs.Common.{nat_lt, if◌then◌else◌, List, [], ◌∷◌, length, map, Option}
use Rattle.std.proofs.Common.{Some, None, option_map, refl, ◌∙◌, ap, ap₂}
use Rattle.std.specs.Prelude.{is_some, is_none, option_and_then, slice_get}
use Rattle.std.specs.List.{list_any}
use Rattle.std.specs.Option.{option_map_or}
use Rattle.std.proofs.lemmas.List.{length-map, length-replicate}
use Rattle.std.proofs.lemmas.Option.{slice_get-map}
use Rattle.stm_journal.specs.declared.kept.Kept.{Kept}
use Rattle.stm_journal.specs.declared.kept.PagePlace.{PagePlace}
use Rattle.stm_journal.specs.declared.header.JournalHeader.{JournalHeader}
use Rattle.stm_journal.specs.declared.entry.Entry.{Entry}
use Rattle.stm_journal.specs.declared.entry.Entry.TheVariants.{Names, Opens, Keeps, Erases}
use Rattle.stm_journal.specs.declared.entry.Entry.TheVariants.{Programs, Ends, Undoes}
use Rattle.stm_journal.specs.States.{StateData, SegmentData, allows, newest_has, newest_intent}
use Rattle.stm_journal.specs.States.{keeps, may_keep, is_open_stage, is_ended_stage, intent_of}
use Rattle.stm_journal.specs.States.{is_unfinished, newest_is_open, newest_keeps, newest_may_keep}
use Rattle.stm_journal.specs.States.{segment_of, kept_at, names_other}
use Rattle.stm_journal.specs.KeptPlaces.{kept_entry, place_of, kept_place}
use Rattle.stm_journal.specs.KeptPlaces.{kept_count}
use Rattle.stm_journal.specs.Newest.{newest_pages}
use Rattle.stm_journal.specs.Journals.{begin_entries, version_for}
use Rattle.stm_journal.specs.InMemory.{forget_entry, forget_kept, forget_segment, forget_state}

any-forgets : (n : ℕ) (pages : List Kept)
    → list_any (λ k. k.page == n) (map forget_kept pages) ≡ list_any (λ k. k.page == n) pages
any-forgets n [] = refl
any-forgets n (k ∷ pages) = ap (λ (b : Bool). (k.page == n) || b) (any-forgets n pages)

newest-forgets : (test : SegmentData → Bool) (stack : List SegmentData)
    → ((segment : SegmentData) → test (forget_segment segment) ≡ test segment)
    → newest_has test (map forget_segment stack) ≡ newest_has test stack
newest-forgets test [] same = refl
newest-forgets test (segment ∷ below) same = same segment

keeps-stack : (n : ℕ) (stack : List SegmentData)
    → newest_has (λ segment. keeps segment n) (map forget_segment stack)
    ≡ newest_has (λ segment. keeps segment n) stack
keeps-stack n stack =
    newest-forgets (λ segment. keeps segment n) stack (λ segment. any-forgets n segment.pages)

may_keep-stack : (n : ℕ) (stack : List SegmentData)
    → newest_has (may_keep n) (map forget_segment stack) ≡ newest_has (may_keep n) stack
may_keep-stack n stack =
    newest-forgets (may_keep n) stack (λ segment.
    ap (λ (b : Bool). is_open_stage segment.stage && not b) (any-forgets n segment.pages))

unfinished-stack : (stack : List SegmentData)
    → newest_has (λ segment. not (is_ended_stage segment.stage)) (map forget_segment stack)
    ≡ newest_has (λ segment. not (is_ended_stage segment.stage)) stack
unfinished-stack stack =
    newest-forgets (λ segment. not (is_ended_stage segment.stage)) stack (λ segment. refl)

open-stack : (stack : List SegmentData)
    → newest_has (λ segment. is_open_stage segment.stage) (map forget_segment stack)
    ≡ newest_has (λ segment. is_open_stage segment.stage) stack
open-stack stack = newest-forgets (λ segment. is_open_stage segment.stage) stack (λ segment. refl)

-- the line rules
pub allows-forgets : (s : StateData) (e : Entry)
    → allows (forget_state s) (forget_entry e) ≡ allows s e
allows-forgets s (Names version id unique) = refl
allows-forgets s (Opens k) =
    ap₂ (λ (b : Bool) (n : ℕ). is_some s.header && not b && (k == n + 1)) (unfinished-stack s.stack)
    (length-map s.stack forget_segment)
allows-forgets s (Keeps n bytes) =
    ap (λ (b : Bool). is_some s.header && b) (may_keep-stack n s.stack)
allows-forgets s (Erases n) = ap (λ (b : Bool). is_some s.header && b) (keeps-stack n s.stack)
allows-forgets s (Programs n) = ap (λ (b : Bool). is_some s.header && b) (keeps-stack n s.stack)
allows-forgets s (Ends k) =
    ap₂ (λ (b : Bool) (n : ℕ). is_some s.header && b && (k == n)) (open-stack s.stack)
    (length-map s.stack forget_segment)
allows-forgets s (Undoes k) =
    ap (λ (n : ℕ). is_some s.header && nat_lt 0 n && (k == n)) (length-map s.stack forget_segment)

-- the depth, the header and the stages
pub depth-forgets : (s : StateData) → length (forget_state s).stack ≡ length s.stack
depth-forgets s = length-map s.stack forget_segment

pub names_other-forgets : (id : ℕ) (s : StateData)
    → names_other id (forget_state s) ≡ names_other id s
names_other-forgets id s = refl

pub is_unfinished-forgets : (s : StateData) → is_unfinished (forget_state s) ≡ is_unfinished s
is_unfinished-forgets s = unfinished-stack s.stack

pub newest_is_open-forgets : (s : StateData) → newest_is_open (forget_state s) ≡ newest_is_open s
newest_is_open-forgets s = open-stack s.stack

pub newest_keeps-forgets : (n : ℕ) (s : StateData)
    → newest_keeps n (forget_state s) ≡ newest_keeps n s
newest_keeps-forgets n s = keeps-stack n s.stack

pub newest_may_keep-forgets : (n : ℕ) (s : StateData)
    → newest_may_keep n (forget_state s) ≡ newest_may_keep n s
newest_may_keep-forgets n s = may_keep-stack n s.stack

pub intent_of-forgets : (s : StateData) → intent_of (forget_state s) ≡ intent_of s
intent_of-forgets s = at s.stack
  where
    at : (stack : List SegmentData) → newest_intent (map forget_segment stack) ≡ newest_intent stack
    at [] = refl
    at (segment ∷ below) = refl

pub begin_entries-forgets : (id : ℕ) (unique : List ℕ) (s : StateData)
    → begin_entries id unique (forget_state s) ≡ begin_entries id unique s
begin_entries-forgets id unique s =
    ap (λ (n : ℕ). if is_none s.header
    then Names (version_for unique) id unique ∷ Opens (n + 1) ∷ []
    else Opens (n + 1) ∷ []) (depth-forgets s)

-- the pages of the newest segment
numbers-forget : (pages : List Kept)
    → map (λ k. k.page) (map forget_kept pages) ≡ map (λ k. k.page) pages
numbers-forget [] = refl
numbers-forget (k ∷ pages) = ap (λ (ns : List ℕ). k.page ∷ ns) (numbers-forget pages)

pub newest_pages-forgets : (s : StateData) → newest_pages (forget_state s) ≡ newest_pages s
newest_pages-forgets s = at s.header s.stack
  where
    at : (header : Option JournalHeader) (stack : List SegmentData)
        → newest_pages (forget_state (record { header = header; stack = stack }))
        ≡ newest_pages (record { header = header; stack = stack })
    at header [] = refl
    at header (segment ∷ below) = numbers-forget segment.pages

-- segments by number, and what they keep
pub segment_of-forgets : (s : StateData) (k : ℕ)
    → segment_of (forget_state s) k ≡ option_map forget_segment (segment_of s k)
segment_of-forgets s k =
    ap (λ (n : ℕ). if nat_le 1 k && nat_le k n then slice_get (map forget_segment s.stack) (n - k)
    else None) (depth-forgets s)
    ∙ at (nat_le 1 k && nat_le k (length s.stack))
  where
    at : (b : Bool)
        → (if b then slice_get (map forget_segment s.stack) (length s.stack - k) else None)
        ≡ option_map forget_segment (if b then slice_get s.stack (length s.stack - k) else None)
    at true = slice_get-map forget_segment s.stack (length s.stack - k)
    at false = refl

pub kept_entry-forgets : (s : StateData) (k i : ℕ)
    → kept_entry (forget_state s) k i ≡ option_map forget_kept (kept_entry s k i)
kept_entry-forgets s k i =
    ap (λ (o : Option SegmentData). option_and_then (λ segment. slice_get segment.pages i) o)
    (segment_of-forgets s k) ∙ at (segment_of s k)
  where
    at : (o : Option SegmentData)
        → option_and_then (λ segment. slice_get segment.pages i) (option_map forget_segment o)
        ≡ option_map forget_kept (option_and_then (λ segment. slice_get segment.pages i) o)
    at None = refl
    at (Some segment) = slice_get-map forget_kept segment.pages i

place-forgets : (o : Option Kept)
    → option_map place_of (option_map forget_kept o) ≡ option_map place_of o
place-forgets None = refl
place-forgets (Some kept) =
    ap (λ (n : ℕ). let p : PagePlace = record { at = kept.at; length = n; line = kept.line } in
    Some p) (length-replicate (length kept.bytes) 0)

pub kept_place-forgets : (s : StateData) (k i : ℕ)
    → kept_place (forget_state s) k i ≡ kept_place s k i
kept_place-forgets s k i =
    ap (λ (o : Option Kept). option_map place_of o) (kept_entry-forgets s k i)
    ∙ place-forgets (kept_entry s k i)

pub kept_at-forgets : (s : StateData) (k i : ℕ) → kept_at (forget_state s) k i ≡ kept_at s k i
kept_at-forgets s k i =
    ap (λ (o : Option Kept). option_map {U = ℕ × ℕ} (λ kept. (kept.page, kept.line)) o)
    (kept_entry-forgets s k i) ∙ at (kept_entry s k i)
  where
    at : (o : Option Kept)
        → option_map {U = ℕ × ℕ} (λ kept. (kept.page, kept.line)) (option_map forget_kept o)
        ≡ option_map {U = ℕ × ℕ} (λ kept. (kept.page, kept.line)) o
    at None = refl
    at (Some kept) = refl

pub kept_count-forgets : (s : StateData) (k : ℕ) → kept_count (forget_state s) k ≡ kept_count s k
kept_count-forgets s k =
    ap (λ (o : Option SegmentData). option_map_or (λ segment. length segment.pages) o 0)
    (segment_of-forgets s k) ∙ at (segment_of s k)
  where
    at : (o : Option SegmentData)
        → option_map_or (λ segment. length segment.pages) (option_map forget_segment o) 0
        ≡ option_map_or (λ segment. length segment.pages) o 0
    at None = refl
    at (Some segment) = length-map segment.pages forget_kept
