-- What each call makes of the newest segment.
use Rattle.std.proofs.Common.{◌≡◌, ◌≢◌, ◌<◌, ℕ, zero, suc, ◌+◌, ◌-◌, max, Bool, true, false, not, ◌&&◌, ◌||◌, ◌==◌, nat_le, if◌then◌else◌, List, [], ◌∷◌, ◌++◌, length, map, fold, drop, Option, Some, None, option_map, refl, sym, ◌∙◌, ap, subst, arith, IsTrue}
use Rattle.std.specs.Prelude.{option_and_then, slice_get, is_some, nat_lt}
use Rattle.std.specs.Option.{option_map_or}
use Rattle.std.specs.List.{list_any, find}
use Rattle.std.proofs.lemmas.Bool.{true≢false, not-true}
use Rattle.std.proofs.lemmas.Bool.Decides.{nat_tests}
use Rattle.std.proofs.lemmas.List.Folds.{list_any-append}
use Rattle.stm_wire.specs.declared.intent.Intent.{Intent}
use Rattle.stm_wire.specs.declared.intent.Intent.TheVariants.{Erase, Program}
use Rattle.stm_journal.proofs.Names.{after_entry, AllEnded, allows, blank, capped, ended_segment, EndedBelow, Entry, forget_entry, fresh_segment, HasAdded, HasBegun, HasEnded, HasIntended, HasKept}
use Rattle.stm_journal.proofs.Names.{HasUndone, header_board, intending, intent_at, intent_of, is_ended_stage, is_open_stage, is_other_board, IsSound, JournalHeader, keeping, keeps, KeepsSame, Kept}
use Rattle.stm_journal.proofs.Names.{kept_in, line_of, Loaded, loaded_after, newest_has, newest_keeps, newest_may_keep, on_newest, past_mark, SegmentData, Stage, stage_with, StateData}
use Rattle.stm_journal.specs.declared.stage.Stage.TheVariants.{Open, Ended, Returning}
use Rattle.stm_journal.specs.declared.entry.Entry.TheVariants.{Names, Opens, Keeps, Erases, Programs, Ends, Undoes}
use Rattle.stm_journal.specs.lemmas.NewestLaws.{segment_of-newest}
use Rattle.stm_journal.proofs.Ties.{mark-state}

-- an entry's state in memory, where a torn tail changes nothing
state-after : (e : Entry) (l : Loaded)
    → (loaded_after (e ∷ []) l).state ≡ after_entry (capped ((past_mark l).lines + 1)) (capped ((past_mark l).size + length (line_of e))) l.state (forget_entry e)
state-after e l = ap (λ (s : StateData). after_entry (capped ((past_mark l).lines + 1)) (capped ((past_mark l).size + length (line_of e))) s (forget_entry e)) (mark-state l)

abbrev with_stage : (SegmentData → Stage) → SegmentData → SegmentData
with_stage stage segment = record segment { stage = stage segment }

-- what is seen of a segment but for its stage, through a look-up that may fail
same-looked_up : {X : Type 0} (look : SegmentData → Option X) (stage : SegmentData → Stage) → ((segment : SegmentData) → look (with_stage stage segment) ≡ look segment)
    → (segment : SegmentData) (below : List SegmentData) (b : Bool) (j : ℕ)
    → option_and_then look (if b then slice_get (with_stage stage segment ∷ below) j else None) ≡ option_and_then look (if b then slice_get (segment ∷ below) j else None)
same-looked_up look stage same segment below false j = refl
same-looked_up look stage same segment below true zero = same segment
same-looked_up look stage same segment below true (suc j) = refl

same-mapped_up : (look : SegmentData → ℕ) (stage : SegmentData → Stage) → ((segment : SegmentData) → look (with_stage stage segment) ≡ look segment)
    → (segment : SegmentData) (below : List SegmentData) (b : Bool) (j : ℕ)
    → option_map_or look (if b then slice_get (with_stage stage segment ∷ below) j else None) 0 ≡ option_map_or look (if b then slice_get (segment ∷ below) j else None) 0
same-mapped_up look stage same segment below false j = refl
same-mapped_up look stage same segment below true zero = same segment
same-mapped_up look stage same segment below true (suc j) = refl

-- the newest one's stage is another
KeepsSame-stage : (header : Option JournalHeader) (stack : List SegmentData) (stage : SegmentData → Stage) → KeepsSame (record { header = header; stack = stack }) (record { header = header; stack = on_newest (with_stage stage) stack })
KeepsSame-stage header [] stage = record { header = refl; depth = refl; same = refl; entry = λ k i. refl; count = λ k. refl; below = refl; pages = refl; next = refl; keeps = λ n. refl; kept = λ k i. refl; bytes = λ k n. refl; flashes = λ chip flash. refl }
KeepsSame-stage header (segment ∷ below) stage =
    let count : ℕ = length (segment ∷ below) in
    record {
      header = refl;
      depth = refl;
      same = refl;
      entry = λ k i. same-looked_up (λ s. slice_get s.pages i) stage (λ s. refl) segment below (nat_le 1 k && nat_le k count) (count - k);
      count = λ k. same-mapped_up (λ s. length s.pages) stage (λ s. refl) segment below (nat_le 1 k && nat_le k count) (count - k);
      below = refl;
      pages = refl;
      next = refl;
      keeps = λ n. refl;
      kept = λ k i. ap (λ (o : Option Kept). option_map (λ kept. (kept.page, kept.line)) o) (same-looked_up (λ s. slice_get s.pages i) stage (λ s. refl) segment below (nat_le 1 k && nat_le k count) (count - k));
      bytes = λ k n. ap (λ (o : Option Kept). option_map (λ kept. kept.bytes) o) (same-looked_up (λ s. find (λ kept. kept.page == n) s.pages) stage (λ s. refl) segment below (nat_le 1 k && nat_le k count) (count - k));
      flashes = λ chip flash. refl;
    }

stage_with-open : (i : Intent) (stage : Stage) → is_open_stage (stage_with i stage) ≡ is_open_stage stage
stage_with-open i (Open old) = refl
stage_with-open i Ended = refl
stage_with-open i (Returning old) = refl

stage_with-intent : (i : Intent) (stage : Stage) → intent_at (stage_with i stage) ≡ Some i
stage_with-intent i (Open old) = refl
stage_with-intent i Ended = refl
stage_with-intent i (Returning old) = refl

stage_with-unfinished : (i : Intent) (stage : Stage) → not (is_ended_stage (stage_with i stage)) ≡ true
stage_with-unfinished i (Open old) = refl
stage_with-unfinished i Ended = refl
stage_with-unfinished i (Returning old) = refl

intended : (i : Intent) (n : ℕ) (header : Option JournalHeader) (stack : List SegmentData) → IsTrue (newest_keeps n (record { header = header; stack = stack }))
    → HasIntended n i (record { header = header; stack = stack }) (record { header = header; stack = on_newest (intending i) stack })
intended i n header [] may = absurd (true≢false (sym may))
intended i n header (segment ∷ below) may =
    record {
      same = KeepsSame-stage header (segment ∷ below) (λ s. stage_with i s.stage);
      is_open = stage_with-open i segment.stage;
      keeps = may;
      newest = stage_with-intent i segment.stage;
      unfinished = stage_with-unfinished i segment.stage;
    }

pub HasIntended-entry_erase : (line ends n : ℕ) (s : StateData) → IsTrue (newest_keeps n s) → HasIntended n (Erase n) s (after_entry line ends s (Erases n))
HasIntended-entry_erase line ends n s may = intended (Erase n) n s.header s.stack may

pub HasIntended-entry_program : (line ends n : ℕ) (s : StateData) → IsTrue (newest_keeps n s) → HasIntended n (Program n) s (after_entry line ends s (Programs n))
HasIntended-entry_program line ends n s may = intended (Program n) n s.header s.stack may

pub HasIntended-erase : (n : ℕ) (l : Loaded) → IsTrue (newest_keeps n l.state) → HasIntended n (Erase n) l.state (loaded_after (Erases n ∷ []) l).state
HasIntended-erase n l may =
    let H : StateData → Type 0 = λ s. HasIntended n (Erase n) l.state s in
    subst H (sym (state-after (Erases n) l)) (intended (Erase n) n l.state.header l.state.stack may)

pub HasIntended-program : (n : ℕ) (l : Loaded) → IsTrue (newest_keeps n l.state) → HasIntended n (Program n) l.state (loaded_after (Programs n ∷ []) l).state
HasIntended-program n l may =
    let H : StateData → Type 0 = λ s. HasIntended n (Program n) l.state s in
    subst H (sym (state-after (Programs n) l)) (intended (Program n) n l.state.header l.state.stack may)

ended : (header : Option JournalHeader) (stack : List SegmentData) → HasEnded (record { header = header; stack = stack }) (record { header = header; stack = on_newest ended_segment stack })
ended header [] = record { same = KeepsSame-stage header [] (λ s. Ended); finished = refl; intent = refl }
ended header (segment ∷ below) = record { same = KeepsSame-stage header (segment ∷ below) (λ s. Ended); finished = refl; intent = refl }

pub HasEnded-entry : (line ends k : ℕ) (s : StateData) → HasEnded s (after_entry line ends s (Ends k))
HasEnded-entry line ends k s = ended s.header s.stack

pub HasEnded-after : (k : ℕ) (l : Loaded) → HasEnded l.state (loaded_after (Ends k ∷ []) l).state
HasEnded-after k l =
    let H : StateData → Type 0 = λ s. HasEnded l.state s in
    subst H (sym (state-after (Ends k) l)) (ended l.state.header l.state.stack)

finished-below : (below : List SegmentData) → AllEnded below → (newest_has (λ segment. not (is_ended_stage segment.stage)) below ≡ false) × (intent_of (record { header = None; stack = below }) ≡ None)
finished-below [] all = (refl, refl)
finished-below (segment ∷ below) all =
    (ap (λ (stage : Stage). not (is_ended_stage stage)) all.0, ap (λ (stage : Stage). intent_at stage) all.0)

undone : (header : Option JournalHeader) (stack : List SegmentData) → 0 < length stack → EndedBelow stack
    → HasUndone (record { header = header; stack = stack }) (record { header = header; stack = drop 1 stack })
undone header [] some sound = absurd (omega (arith, some))
undone header (segment ∷ below) some sound =
    let rest = finished-below below sound in
    record { header = refl; stack = refl; depth = omega arith; finished = rest.0; intent = rest.1 }

pub HasUndone-entry : (line ends k : ℕ) (s : StateData) → 0 < length s.stack → IsSound s → HasUndone s (after_entry line ends s (Undoes k))
HasUndone-entry line ends k s some sound = undone s.header s.stack some sound.ended

pub HasUndone-after : (k : ℕ) (l : Loaded) → 0 < length l.state.stack → IsSound l.state → HasUndone l.state (loaded_after (Undoes k ∷ []) l).state
HasUndone-after k l some sound =
    let H : StateData → Type 0 = λ s. HasUndone l.state s in
    subst H (sym (state-after (Undoes k) l)) (undone l.state.header l.state.stack some sound.ended)

-- a page more
or-first : (a b : Bool) → a ≡ true → (a || b) ≡ true
or-first true b h = refl
or-first false b h = absurd (true≢false (sym h))

or-last : (a b : Bool) → b ≡ true → (a || (b || false)) ≡ true
or-last true b h = refl
or-last false true h = refl
or-last false false h = h

or-none : (a b : Bool) → b ≡ false → (a || (b || false)) ≡ a
or-none true b h = refl
or-none false true h = absurd (true≢false h)
or-none false false h = refl

and-both : (a b : Bool) → (a && b) ≡ true → (a ≡ true) × (b ≡ true)
and-both true b h = (refl, h)
and-both false b h = absurd (true≢false (sym h))

find-append : (p : Kept → Bool) (pages : List Kept) (kept : Kept) → list_any p pages ≡ false → p kept ≡ true → find p (pages ++ kept ∷ []) ≡ Some kept
find-append p [] kept lacks is = rw is
find-append p (x ∷ pages) kept lacks is = found (p x) lacks (λ h. find-append p pages kept h is)
  where
    found : (b : Bool) → (b || list_any p pages) ≡ false → (list_any p pages ≡ false → find p (pages ++ kept ∷ []) ≡ Some kept) → (if b then Some x else find p (pages ++ kept ∷ [])) ≡ Some kept
    found true h rest = absurd (true≢false h)
    found false h rest = rest h

map-append : (pages : List Kept) (kept : Kept) → map (λ k. k.page) (pages ++ kept ∷ []) ≡ map (λ k. k.page) pages ++ kept.page ∷ []
map-append [] kept = refl
map-append (x ∷ pages) kept = ap (λ (ns : List ℕ). x.page ∷ ns) (map-append pages kept)

equal-tested : (n : ℕ) → (n == n) ≡ true
equal-tested n = grind (arith, nat_tests)

other-tested : (n m : ℕ) → m ≢ n → (n == m) ≡ false
other-tested n m other = grind (arith, nat_tests)

next-push : (ns : List ℕ) (n start : ℕ) → fold (λ next m. max next (m + 1)) start (ns ++ n ∷ []) ≡ max (fold (λ next m. max next (m + 1)) start ns) (n + 1)
next-push [] n start = refl
next-push (m ∷ ns) n start = next-push ns n (max start (m + 1))

kept-more : (header : Option JournalHeader) (stack : List SegmentData) (kept : Kept) → IsTrue (newest_may_keep kept.page (record { header = header; stack = stack }))
    → HasKept kept.page kept.bytes (record { header = header; stack = stack }) (record { header = header; stack = on_newest (keeping kept) stack })
kept-more header [] kept may = absurd (true≢false (sym may))
kept-more header (segment ∷ below) kept may =
    let n : ℕ = kept.page in
    let parts = and-both (is_open_stage segment.stage) (not (keeps segment n)) may in
    let lacks : keeps segment n ≡ false = not-true (keeps segment n) parts.1 in
    let more = λ (m : ℕ). list_any-append (λ k. k.page == m) segment.pages (kept ∷ []) in
    let others = λ (m : ℕ) (other : m ≢ n). more m ∙ or-none (keeps segment m) (n == m) (other-tested n m other) in
    let free = λ (m : ℕ) (other : m ≢ n). ap (λ (b : Bool). is_open_stage segment.stage && not b) (others m other) in
    let count : ℕ = length below in
    record {
      header = refl;
      depth = refl;
      kept = kept;
      page = refl;
      held = refl;
      stack = refl;
      pages = map-append segment.pages kept;
      is_open = parts.0;
      keeps = more n ∙ or-last (keeps segment n) (n == n) (equal-tested n);
      still = λ m had. more m ∙ or-first (keeps segment m) ((n == m) || false) had;
      free = free;
      next = ap (λ (ns : List ℕ). fold (λ next m. max next (m + 1)) 0 ns) (map-append segment.pages kept) ∙ next-push (map (λ k. k.page) segment.pages) n 0;
      found = ap (λ (o : Option Kept). option_map (λ k. k.bytes) o) (ap (λ (o : Option SegmentData). option_and_then (λ s. find (λ k. k.page == n) s.pages) o) (segment_of-newest header (keeping kept segment) below) ∙ find-append (λ k. k.page == n) segment.pages kept lacks (equal-tested n));
      intent = refl;
    }

pub HasKept-entry : (line ends n : ℕ) (bytes : List ℕ) (s : StateData) → IsTrue (newest_may_keep n s) → HasKept n bytes s (after_entry line ends s (Keeps n bytes))
HasKept-entry line ends n bytes s may = kept-more s.header s.stack (kept_in line ends n bytes) may

pub HasKept-after : (n : ℕ) (bytes : List ℕ) (l : Loaded) → IsTrue (newest_may_keep n l.state) → HasKept n (blank (length bytes)) l.state (loaded_after (Keeps n bytes ∷ []) l).state
HasKept-after n bytes l may =
    let H : StateData → Type 0 = λ s. HasKept n (blank (length bytes)) l.state s in
    subst H (sym (state-after (Keeps n bytes) l))
    (HasKept-entry (capped ((past_mark l).lines + 1)) (capped ((past_mark l).size + length (line_of (Keeps n bytes)))) n (blank (length bytes)) l.state may)

-- a segment more
pub HasBegun-opened : (id k : ℕ) (unique : List ℕ) (header : Option JournalHeader) (stack : List SegmentData) (old : StateData) → option_map (λ h. h.id) header ≡ Some id
    → is_other_board unique (option_and_then header_board header) ≡ false → old.stack ≡ stack
    → HasBegun id unique old (record { header = header; stack = fresh_segment ∷ stack })
HasBegun-opened id k unique header stack old named board same =
    record {
      named = named;
      board = board;
      stack = ap (λ (xs : List SegmentData). fresh_segment ∷ xs) (sym same);
      depth = omega (arith, ap (λ (xs : List SegmentData). length xs) same);
      is_open = refl;
      pages = refl;
      next = refl;
      intent = refl;
      unfinished = refl;
    }

all-of : (a b : Bool) → (a && b) ≡ true → (a ≡ true) × (b ≡ true)
all-of true b h = (refl, h)
all-of false b h = absurd (true≢false (sym h))

is-some : (n : ℕ) → nat_lt 0 n ≡ true → 0 < n
is-some n h = grind (arith, nat_tests)

-- what an entry that is allowed makes of the text's state
pub HasAdded-entry : (line ends : ℕ) (s : StateData) (e : Entry) → IsSound s → IsTrue (allows s e) → HasAdded e s (after_entry line ends s e)
HasAdded-entry line ends s (Names version id unique) sound may = record { named = refl; board = refl; written = refl; stack = refl }
HasAdded-entry line ends s (Opens k) sound may = (refl, λ id unique named mine. HasBegun-opened id k unique s.header s.stack s named mine refl)
HasAdded-entry line ends s (Keeps n bytes) sound may = HasKept-entry line ends n bytes s (all-of (is_some s.header) (newest_may_keep n s) may).1
HasAdded-entry line ends s (Erases n) sound may = HasIntended-entry_erase line ends n s (all-of (is_some s.header) (newest_keeps n s) may).1
HasAdded-entry line ends s (Programs n) sound may = HasIntended-entry_program line ends n s (all-of (is_some s.header) (newest_keeps n s) may).1
HasAdded-entry line ends s (Ends k) sound may = HasEnded-entry line ends k s
HasAdded-entry line ends s (Undoes k) sound may =
    let some = all-of (is_some s.header && nat_lt 0 (length s.stack)) (k == length s.stack) may in
    HasUndone-entry line ends k s (is-some (length s.stack) (all-of (is_some s.header) (nat_lt 0 (length s.stack)) some.0).1) sound
