-- A greeting keeps what can be undone, at each moment.
use Rattle.std.proofs.Common.{◌≡◌, ◌⊎◌, inl, inr, ⊎_elim, ℕ, ◌<◌, ◌≤◌, Bool, true, false, not, ◌&&◌, List, [], ◌∷◌, ◌++◌, length, take, Option, Some, None, Result, Ok, Err, IsErrAnd, refl, sym, ◌∙◌, ap, ap₂, subst, subst₂, arith, append-nil, take_all}
use Rattle.std.specs.Prelude.{Contains, IfErr, is_some, option_map}
use Rattle.std.proofs.lemmas.Bool.{and_parts, true≢false}
use Rattle.stm_wire.specs.declared.fault.WireFault.{WireFault}
use Rattle.stm_wire.specs.declared.fault.WireFault.TheVariants.{Line}
use Rattle.stm_wire.specs.declared.intent.Intent.{Intent}
use Rattle.stm_wire.proofs.Names.{Append, Awaits, AwaitsUnder, Call, ChipData, Device, FreshMayBeGreeted, GoesOn, HasLineCause, intended_pages, IsDevice, IsGreeting, IsModel, IsSettling, Keeps}
use Rattle.stm_wire.proofs.Names.{KeepsCount, LeavesOnly, LeftByAppend, LeftWith, LosesOwed, LossMayBeGreeted, MayBeGreeted, MorePagesMayBeGreeted, most_greeted, page_count, PutsPart, RigState, Rises}
use Rattle.stm_wire.proofs.Names.{SameOutside, SendingIsHarmless, SendingMayBeGreeted, settling_byte, Talks}
use Rattle.stm_wire.specs.lemmas.DialogueLaws.{GoesOn-append, GoesOn-weaker}
use Rattle.stm_wire.specs.lemmas.MomentLaws.{joined, weaker}
use Rattle.stm_journal.specs.declared.fault.JournalFault.{JournalFault}
use Rattle.stm_journal.specs.declared.fault.JournalFault.TheVariants.{File, Bad, OtherDevice, OtherBoard, Memory}
use Rattle.stm_journal.proofs.Names.{AddsBytes, allows_greeting, AppendsInPart, AppendsOnce, AreFetches, good, greeting_line, GreetingsCountAsNothing, intent_at, intent_of, is_ended_stage, is_greeted}
use Rattle.stm_journal.proofs.Names.{is_unfinished, IsFaultOf, IsLoaded, IsSound, IsUntouched, journal_of, Loaded, Loads, may_greet, newest_has, newest_intent, SegmentData, StateData}
use Rattle.stm_journal.specs.declared.stage.Stage.{Stage}
use Rattle.stm_journal.specs.declared.stage.Stage.TheVariants.{Open, Ended, Returning}
use Rattle.stm_session.proofs.Names.{AmidGreeting, asking_refusal, chip_with, Fault, fault_of, fault_of_journal, FreshIsGreetable, good_state, Greeting, greets, greets_loaded, GreetsBy, GreetsInPart}
use Rattle.stm_session.proofs.Names.{GreetsInPartBy, GreetsOnce, GreetsSafely, HasSessionCause, is_doubtful, is_erase, is_extended, is_long_list, is_wide, IsGreetable, IsGreetableAs}
use Rattle.stm_session.proofs.Names.{IsJournalOrMemory, IsOutsideFault, KeepsFileCount, KeepsFlashes, KeepsLineCount, lists_wide, LossIsGreetable, ReadsFirst, RisesFor, risked_at, risked_pages}
use Rattle.stm_session.proofs.Names.{SameMake, state_at, StepLaws, StoppedIsGreetable, Undoable, wants_greeting, wants_loaded, WritesFirst}
use Rattle.stm_session.specs.declared.greeting.Greeting.TheVariants.{Brief, Fresh, Plain}
use Rattle.stm_session.proofs.Awaiting.{greeted_under}
use Rattle.stm_session.proofs.Going.{at_exit}
use Rattle.stm_session.proofs.Keeping.{keeps_over, risked_is, text_is, undoable_with}
use Rattle.stm_session.proofs.PowerLosses.{intent-risked, owed-keeps}
use Rattle.stm_session.proofs.Settlings.{intent_text, settling_stands}
use Rattle.stm_session.proofs.Unread.{IsBadLine, bad_good, by_fault, of_outside, untouched_make}

-- what is asked of the journal in memory is so of its bytes
wants_text : (l : Loaded) (journal : List ℕ) → IsLoaded l journal → wants_loaded l ≡ wants_greeting journal
wants_text l journal loaded =
    ap₂ (λ (o : Option Intent) (a : Bool). is_some o && (not (is_doubtful o) && a)) (intent_text l journal loaded)
    (ap₂ (λ (t g : Bool). not t && not g) loaded.is_torn loaded.greeted)

long_text : (table : List ChipData) (l : Loaded) (journal : List ℕ) → IsLoaded l journal → (id : ℕ) → option_map (λ h. h.id) l.state.header ≡ Some id → (chip : ChipData) → chip_with table id ≡ Some chip
    → (is_erase (intent_of l.state) && is_extended chip.kind) ≡ is_long_list table (state_at journal)
long_text table l journal loaded id named chip has =
    let header = ap (λ (s : StateData). s.header) loaded.state ∙ ap (λ (s : StateData). s.header) (text_is l journal loaded) in
    let own = sym (ap (λ h. option_map (λ x. x.id) h) header) ∙ named in
    let wide : lists_wide table (option_map (λ x. x.id) (state_at journal).header) ≡ is_extended chip.kind =
    ap (λ (o : Option ℕ). lists_wide table o) own ∙ ap (λ (o : Option ChipData). is_wide o) has in
    ap₂ (λ (o : Option Intent) (b : Bool). is_erase o && b) (intent_text l journal loaded) (sym wide)

pub greets_text : (greeting : Greeting) (table : List ChipData) (l : Loaded) (journal : List ℕ) → IsLoaded l journal → (id : ℕ) → option_map (λ h. h.id) l.state.header ≡ Some id → (chip : ChipData) → chip_with table id ≡ Some chip
    → greets_loaded greeting chip l ≡ greets greeting table journal
greets_text Brief table l journal loaded id named chip has = ap₂ (λ (a b : Bool). a && not b) (wants_text l journal loaded) (long_text table l journal loaded id named chip has)
greets_text Plain table l journal loaded id named chip has = wants_text l journal loaded
greets_text Fresh table l journal loaded id named chip has = ap (λ (o : Option Intent). is_some o) (intent_text l journal loaded)

wanted_allows : (l : Loaded) → wants_loaded l ≡ true → allows_greeting l ≡ true
wanted_allows l w = (and_parts (not (is_doubtful (intent_of l.state))) (allows_greeting l) (and_parts (is_some (intent_of l.state)) _ w).1).1

-- without a line of the journal only a device that is said to be fresh is greeted
pub only_fresh : (greeting : Greeting) (chip : ChipData) (l : Loaded) → greets_loaded greeting chip l ≡ true → allows_greeting l ≡ false → greeting ≡ Fresh
only_fresh Brief chip l w none = absurd (true≢false (sym (wanted_allows l (and_parts (wants_loaded l) _ w).0) ∙ none))
only_fresh Plain chip l w none = absurd (true≢false (sym (wanted_allows l w) ∙ none))
only_fresh Fresh chip l w none = refl

-- what may be greeted so may be greeted
greetable_now : (greeting : Greeting) (d : Device) (journal : List ℕ) → FreshMayBeGreeted → IsDevice d → IsGreetableAs greeting d journal → IsGreetable d journal
greetable_now Fresh d journal law is may = λ wants. law d (intent_of (state_at journal)) (risked_at journal) is may.phase
greetable_now greeting d journal law is may = may

greetable_by : (greeting : Greeting) (table : List ChipData) (d : Device) (journal : List ℕ) → FreshMayBeGreeted → IsDevice d → IsGreetableAs greeting d journal → greets greeting table journal ≡ true
    → MayBeGreeted d (intent_of (state_at journal)) (risked_at journal)
greetable_by Brief table d journal law is may w = may (and_parts (wants_greeting journal) _ w).0
greetable_by Plain table d journal law is may w = may w
greetable_by Fresh table d journal law is may w = law d (intent_of (state_at journal)) (risked_at journal) is may.phase

-- one that has an intent is unfinished
pub intended_unfinished : (s : StateData) (b : Bool) → (is_some (intent_of s) && b) ≡ true → is_unfinished s ≡ true
intended_unfinished s b e = newest s.stack e
  where
    by : (stage : Stage) → (is_some (intent_at stage) && b) ≡ true → not (is_ended_stage stage) ≡ true
    by (Open i) e = refl
    by Ended e = absurd (true≢false (sym e))
    by (Returning i) e = refl

    newest : (stack : List SegmentData) → (is_some (newest_intent stack) && b) ≡ true → newest_has (λ segment. not (is_ended_stage segment.stage)) stack ≡ true
    newest [] e = absurd (true≢false (sym e))
    newest (segment ∷ below) e = by segment.stage e

-- a journal that may be greeted isn't yet
not_greeted : (journal : List ℕ) → may_greet journal ≡ true → is_greeted journal ≡ false
not_greeted journal may = go (is_greeted journal) (and_parts _ (not (is_greeted journal)) may).1
  where
    go : (g : Bool) → not g ≡ true → g ≡ false
    go true e = sym e
    go false e = refl

wanted_may : (journal : List ℕ) → wants_greeting journal ≡ true → may_greet journal ≡ true
wanted_may journal w = let o = intent_of (state_at journal) in
    (and_parts (not (is_doubtful o)) (may_greet journal) (and_parts (is_some o) _ w).1).1

-- so many of the byte suffice behind a greeting
within_under : (start d : Device) (o : Option Intent) → d.chip ≡ start.chip → Awaits (settling_byte o) (most_greeted start.chip.kind o) d → AwaitsUnder true o d
within_under start d None same w = tt
within_under start d (Some i) same w = subst (λ (c : ChipData). Awaits (settling_byte (Some i)) (most_greeted c.kind (Some i)) d) (sym same) w

module _ (laws : StepLaws) (counts : GreetingsCountAsNothing) (loses : LossMayBeGreeted) (flashes : List (List ℕ)) (start : Device) (before : List ℕ) (is : IsDevice start) (u : Undoable flashes start before) where
  abbrev s : StateData
  s = state_at before

  abbrev Amid : Device → List ℕ → Type 0
  Amid d journal = AmidGreeting flashes start before d journal

  same_pages : (d : Device) → LosesOwed start d → SameOutside start.chip (risked_at before) start.flash d.flash
  same_pages d less = let Out : List ℕ → Type 0 = λ bytes. SameOutside start.chip (risked_at before) start.flash bytes in
      subst Out (sym (ap (λ (x : Device). x.flash) less.1)) (record { same_length = refl; elsewhere = λ n here none. refl })

  -- nothing is appended yet
  pub unwritten : IsGreetable start before → (d : Device) (journal : List ℕ) → (journal ≡ before) × LosesOwed start d → Amid d journal
  unwritten may d journal left =
      let A : List ℕ → Type 0 = λ j. Amid d j in
      subst A (sym left.0)
      (record {
        undoable = owed-keeps laws.lost flashes start d before u left.1;
        greetable = λ wants. loses start d (intent_of s) (risked_at before) (may wants) left.1;
        make = untouched_make start d left.1;
        flash = same_pages d left.1;
        written = 0;
        lines = sym (append-nil before);
      })

  module _ (may_come : may_greet before ≡ true) (may : MayBeGreeted start (intent_of s) (risked_at before)) where
    abbrev part : ℕ → List ℕ
    part n = before ++ take n greeting_line

    part_good : (n : ℕ) → journal_of (part n) ≡ good s
    part_good n = (counts before s n u.good_journal may_come).0

    part_state : (n : ℕ) → state_at (part n) ≡ s
    part_state n = ap good_state (part_good n)

    kept : KeepsFlashes flashes start s
    kept = record { own = u.own; fits = u.fits; before = u.keeps }

    -- a part of the line is
    pub written : (d : Device) (journal : List ℕ) → ((n : ℕ) × (journal ≡ before ++ take n greeting_line)) × LosesOwed start d → Amid d journal
    written d journal left =
        let n = left.0.0 in
        let A : List ℕ → Type 0 = λ j. Amid d j in
        let awaits = greeted_under laws (is_greeted (part n)) start (intent_of s) (subst (λ (g : Bool). AwaitsUnder g (intent_of s) start) (not_greeted before may_come) u.awaits) in
        let here = undoable_with flashes start (part n) s (part_good n) kept u.harmless awaits u.owed in
        let M : StateData → Type 0 = λ t. MayBeGreeted d (intent_of t) (risked_pages t) in
        subst A (sym left.0.1)
        (record {
          undoable = owed-keeps laws.lost flashes start d (part n) here left.1;
          greetable = λ w. subst M (sym (part_state n)) (loses start d (intent_of s) (risked_at before) may left.1);
          make = untouched_make start d left.1;
          flash = same_pages d left.1;
          written = n;
          lines = refl;
        })

    abbrev all : ℕ
    all = length greeting_line

    whole : part all ≡ before ++ greeting_line
    whole = ap (λ (xs : List ℕ). before ++ xs) (take_all all greeting_line (omega arith))

    whole_greeted : is_greeted (part all) ≡ true
    whole_greeted = (counts before s all u.good_journal may_come).1.0

    whole_unwanted : wants_greeting (part all) ≡ true → ⊥
    whole_unwanted w = true≢false (sym (wanted_may (part all) w) ∙ (counts before s all u.good_journal may_come).1.1)

    -- all of it is, and 7F may have been sent
    pub said : (d : Device) (journal : List ℕ) → (journal ≡ before ++ greeting_line) × IsGreeting (intent_of s) (risked_at before) start d → Amid d journal
    said d journal left =
        let g = left.1 in
        let A : List ℕ → Type 0 = λ j. Amid d j in
        let make : SameMake start d = record { chip = g.safely.same_chip; version = g.same_version; codes = g.same_codes } in
        let keeps = keeps_over laws.changing flashes start d s (risked_pages s) is kept make g.safely.flash (λ n here c. risked_is s n c) in
        let awaits = subst (λ (b : Bool). AwaitsUnder b (intent_of s) d) (sym whole_greeted) (within_under start d (intent_of s) g.safely.same_chip g.safely.harmless.awaits) in
        subst A (sym (left.0 ∙ sym whole))
        (record {
          undoable = undoable_with flashes d (part all) s (part_good all) keeps g.safely.harmless.harmless awaits g.owed;
          greetable = λ w. absurd (whole_unwanted w);
          make = make;
          flash = g.safely.flash;
          written = all;
          lines = refl;
        })

-- What a greeting begins with: what was begun can be undone, and the device may be greeted so.
pub record Begins (flashes : List (List ℕ)) (greeting : Greeting) (old : RigState) : Type 0 where
  pub laws : StepLaws
  pub counts : GreetingsCountAsNothing
  pub loses : LossMayBeGreeted
  pub fresh : FreshMayBeGreeted
  pub undoable : Undoable flashes old.device old.journal
  pub may : IsGreetableAs greeting old.device old.journal
  pub model : IsModel old

-- The calls, one after another, and how the greeting ends.
module _ (table : List ChipData) (flashes : List (List ℕ)) (greeting : Greeting) (old : RigState) (begins : Begins flashes greeting old) where
  abbrev Amidst : Device → List ℕ → Type 0
  Amidst d journal = AmidGreeting flashes old.device old.journal d journal

  abbrev intent : Option Intent
  intent = intent_of (state_at old.journal)

  pub greets_so : (new : RigState) (result : Result Bool Fault) → new.is_honest → IsModel new → LeavesOnly Amidst old new
      → IfErr result (λ fault. IsOutsideFault fault ⊎ (asking_refusal (journal_of old.journal) table ≡ Some fault)) → GreetsSafely table flashes old new result
  greets_so new result honest model' moments fails = record { moments = moments; left = at_exit Amidst old new model' moments; honest = honest; fails = fails }

  -- the journal was read
  pub amid_read : (a : RigState) → LeavesOnly (IsUntouched old) old a → LeavesOnly Amidst old a
  amid_read a moments = weaker (IsUntouched old) Amidst old a moments
      (unwritten begins.laws begins.counts begins.loses flashes old.device old.journal begins.model.device begins.undoable
      (greetable_now greeting old.device old.journal begins.fresh begins.model.device begins.may))

  module _ (l : Loaded) (a : RigState) (loads : Loads old a (Ok l)) where
    -- 7F is sent and answered, without a line that says so
    pub amid_connected : (b : RigState) → may_greet old.journal ≡ false → Keeps (IsSettling (settling_byte intent) (risked_at old.journal) a.device) a b → LeavesOnly Amidst old b
    amid_connected b none keeps =
        let S : Device → Device → Type 0 = λ start d. IsSettling (settling_byte intent) (risked_at old.journal) start d in
        let L : Device → List ℕ → Device → List ℕ → Type 0 = λ start kept d j. (j ≡ kept) × S start d in
        joined Amidst (LeftWith (S a.device) a.journal) Amidst old a b (amid_read a loads.moments) keeps.moments (λ d journal p. p)
        (λ d journal q. by d journal (subst₂ (λ (x : Device) j. L x j d journal) loads.same_device loads.journal q))
      where
        by : (d : Device) (journal : List ℕ) → (journal ≡ old.journal) × IsSettling (settling_byte intent) (risked_at old.journal) old.device d → Amidst d journal
        by d journal left =
            let stands = (settling_stands begins.laws flashes l old a begins.model loads.loaded begins.undoable d journal left).0 in
            record {
              undoable = stands.undoable;
              greetable = λ w. absurd (true≢false (sym (wanted_may journal w) ∙ ap (λ (j : List ℕ). may_greet j) left.0 ∙ none));
              make = stands.make;
              flash = left.1.flash;
              written = 0;
              lines = left.0 ∙ sym (append-nil old.journal);
            }

    module _ (come : may_greet old.journal ≡ true) (due : greets greeting table old.journal ≡ true) where
      may_now : MayBeGreeted old.device intent (risked_at old.journal)
      may_now = greetable_by greeting table old.device old.journal begins.fresh begins.model.device begins.may due

      -- the line was appended, or a part of it
      pub amid_line : {T : Type 0} (b : RigState) (made : Result T JournalFault) → AddsBytes greeting_line a b made → LeavesOnly Amidst old b
      amid_line b made adds =
          let L : Device → List ℕ → Device → List ℕ → Type 0 = λ start journal d j. ((n : ℕ) × (j ≡ journal ++ take n greeting_line)) × LosesOwed start d in
          joined Amidst (LeftByAppend greeting_line a) Amidst old a b (amid_read a loads.moments) adds.moments (λ d journal p. p)
          (λ d journal q. written begins.laws begins.counts begins.loses flashes old.device old.journal begins.model.device begins.undoable come may_now d journal
          (subst₂ (λ (x : Device) j. L x j d journal) loads.same_device loads.journal q))

      -- and then 7F was sent, or not
      pub amid_said : (b c : RigState) → AddsBytes greeting_line a b (Ok (tt {0})) → Keeps (IsGreeting intent (risked_at old.journal) b.device) b c → LeavesOnly Amidst old c
      amid_said b c adds keeps =
          let pages = risked_at old.journal in
          let G : Device → List ℕ → Device → List ℕ → Type 0 = λ start kept d j. (j ≡ kept) × IsGreeting intent pages start d in
          let same = adds.same_device ∙ loads.same_device in
          let lines = adds.added ∙ ap (λ (j : List ℕ). j ++ greeting_line) loads.journal in
          joined Amidst (LeftWith (IsGreeting intent pages b.device) b.journal) Amidst old b c (amid_line b (Ok (tt {0})) adds) keeps.moments (λ d journal p. p)
          (λ d journal q. said begins.laws begins.counts begins.loses flashes old.device old.journal begins.model.device begins.undoable come may_now d journal
          (subst₂ (λ (x : Device) j. G x j d journal) same lines q))

      -- a device that may be greeted still may behind the line
      pub may_after : (b : RigState) → AddsBytes greeting_line a b (Ok (tt {0})) → MayBeGreeted b.device intent (risked_at old.journal)
      may_after b adds =
          let M : Device → Type 0 = λ d. MayBeGreeted d intent (risked_at old.journal) in
          subst M (sym (adds.same_device ∙ loads.same_device)) may_now

      pub few_after : (b : RigState) → AddsBytes greeting_line a b (Ok (tt {0})) → length b.device.owed ≤ 4096
      few_after b adds = let F : Device → Type 0 = λ d. length d.owed ≤ 4096 in subst F (sym (adds.same_device ∙ loads.same_device)) begins.undoable.owed

-- the faults
pub outside_as : {T : Type 0} (table : List ChipData) (journal : List ℕ) (result : Result T Fault) (e : Fault) → IsErrAnd result (λ x. x ≡ e) → IsOutsideFault e
    → IfErr result (λ fault. IsOutsideFault fault ⊎ (asking_refusal (journal_of journal) table ≡ Some fault))
outside_as table journal (Ok x) e is out = tt
outside_as table journal (Err x) e is out = inl (subst IsOutsideFault (sym is) out)

pub refused_as : {T : Type 0} (table : List ChipData) (journal : List ℕ) (result : Result T Fault) (e : Fault) → IsErrAnd result (λ x. x ≡ e) → asking_refusal (journal_of journal) table ≡ Some e
    → IfErr result (λ fault. IsOutsideFault fault ⊎ (asking_refusal (journal_of journal) table ≡ Some fault))
refused_as table journal (Ok x) e is r = tt
refused_as table journal (Err x) e is r = inr (r ∙ ap (λ (f : Fault). Some f) (sym is))

pub load_outside : (journal : List ℕ) (e : JournalFault) (s : StateData) → IsFaultOf journal e → journal_of journal ≡ good s → IsOutsideFault (fault_of_journal e)
load_outside journal e s f is = ⊎_elim (λ (m : IsJournalOrMemory (fault_of_journal e)). of_outside (fault_of_journal e) m)
    (λ (b : IsBadLine journal (fault_of_journal e)). bad_good (journal_of journal) b.0 s b.1 is) (by_fault journal e f)

pub line_cause : (e : WireFault) (a b : RigState) → HasLineCause {T = Unit {0}} (Err e) a b → HasSessionCause {T = Unit {0}} a b (Err (fault_of e))
line_cause e a b k = record {
  line_later = k.later;
  journal_later = omega (arith, k.journal_count);
  failed = rises e k.failed;
  line_done = tt;
  line_kept = kept e k.kept;
  journal_done = tt;
  journal_kept = same e;
  honest = λ h. (k.stays h).honest;
}
  where
    rises : (x : WireFault) → (x ≡ Line → Rises a.line_failures b.line_failures) → RisesFor a b (fault_of x)
    rises Line r = r refl
    rises x r = tt

    kept : (x : WireFault) → KeepsCount a.line_failures b.line_failures x → KeepsLineCount a b (fault_of x)
    kept Line c = tt
    kept x c = c

    same : (x : WireFault) → KeepsFileCount a b (fault_of x)
    same Line = k.journal_count
    same x = k.journal_count

-- What is called, on any line:

pub reads_then : (Then : List Call → Type 0) (a b c : Option (List Call)) → GoesOn AreFetches a b → GoesOn Then b c → GoesOn (ReadsFirst Then) a c
reads_then Then a b c p q = GoesOn-append AreFetches Then (ReadsFirst Then) a b c p q (λ us vs u v. record { fetches = us; are_fetches = u; rest = vs; is = refl; then = v })

pub writes_then : (Says : List Call → Type 0) (a b c : Option (List Call)) → GoesOn (λ calls. calls ≡ Append greeting_line ∷ []) a b → GoesOn Says b c → GoesOn (WritesFirst Says) a c
writes_then Says a b c p q = GoesOn-append (λ calls. calls ≡ Append greeting_line ∷ []) Says (WritesFirst Says) a b c p q (λ us vs u v. (vs, ap (λ (zs : List Call). zs ++ vs) u, v))

pub part_by : (greeting : Greeting) (calls : List Call) → GreetsInPart calls → GreetsInPartBy greeting calls
part_by Fresh calls u = inl u
part_by greeting calls u = u

pub once_by : (greeting : Greeting) (calls : List Call) → GreetsOnce calls → GreetsBy greeting calls
once_by Fresh calls u = inl u
once_by greeting calls u = u

-- so many calls are as few as more
pub more_calls : (P : List ℕ → Type 0) (a b : Option (List Call)) → GoesOn (Talks P 4099) a b → GoesOn (Talks P 8196) a b
more_calls P a b p = GoesOn-weaker (Talks P 4099) (Talks P 8196) a b p (λ us t. record { line = t.line; puts = t.puts; few = omega (arith, t.few) })

pub reads_alone : (greeting : Greeting) (a b : Option (List Call)) → GoesOn AreFetches a b → GoesOn (ReadsFirst (GreetsInPartBy greeting)) a b
reads_alone greeting a b p = GoesOn-weaker AreFetches (ReadsFirst (GreetsInPartBy greeting)) a b p (λ us u. record { fetches = us; are_fetches = u; rest = []; is = sym (append-nil us); then = part_by greeting [] (inl (inl refl)) })

pub reads_part : (greeting : Greeting) (a b c : Option (List Call)) → GoesOn AreFetches a b → GoesOn GreetsInPart b c → GoesOn (ReadsFirst (GreetsInPartBy greeting)) a c
reads_part greeting a b c p q = reads_then (GreetsInPartBy greeting) a b c p (GoesOn-weaker GreetsInPart (GreetsInPartBy greeting) b c q (part_by greeting))

pub line_in_part : (T : Type 0) (e : JournalFault) (a b : Option (List Call)) → GoesOn (AppendsOnce {T = T} greeting_line (Err e)) a b → GoesOn GreetsInPart a b
line_in_part T e a b p = GoesOn-weaker (AppendsOnce {T = T} greeting_line (Err e)) GreetsInPart a b p (λ us u. inl (by e us u))
  where
    by : (x : JournalFault) (us : List Call) → AppendsOnce {T = T} greeting_line (Err x) us → AppendsInPart greeting_line us
    by File us u = u
    by (Bad line) us u = inl u
    by OtherDevice us u = inl u
    by OtherBoard us u = inl u
    by Memory us u = inl u

pub said_in_part : (a b : Option (List Call)) → GoesOn (WritesFirst (PutsPart (0x7F ∷ []) 8196)) a b → GoesOn GreetsInPart a b
said_in_part a b p = GoesOn-weaker (WritesFirst (PutsPart (0x7F ∷ []) 8196)) GreetsInPart a b p (λ us u. inr u)

-- Laws of devices that may be greeted:

pub fresh_greetable : FreshMayBeGreeted → FreshIsGreetable
fresh_greetable law d journal is fresh wants = law d (intent_of (state_at journal)) (risked_at journal) is fresh

pub loss_greetable : LossMayBeGreeted → LossIsGreetable
loss_greetable law old new journal may less wants = law old new (intent_of (state_at journal)) (risked_at journal) (may wants) less

pub stopped_greetable : SendingMayBeGreeted → SendingIsHarmless → MorePagesMayBeGreeted → ((bytes : List ℕ) (s : StateData) → journal_of bytes ≡ good s → IsSound s) → StoppedIsGreetable
stopped_greetable greeted sending more sound flashes old d journal i frame is settled u intended under fed wants =
    let same = (sending old d (Some i) frame is settled under fed).same_chip in
    let pages = risked_at journal in
    let C : ChipData → Type 0 = λ c. (n : ℕ) → n < page_count c → Contains (intended_pages (Some i)) n → Contains pages n in
    let within : C d.chip = subst C (sym same) (λ n here c. intent-risked sound flashes old journal i n u intended here c) in
    let M : Option Intent → Type 0 = λ o. MayBeGreeted d o pages in
    subst M (sym intended) (more d (Some i) (intended_pages (Some i)) pages within (greeted old d (Some i) frame is settled under fed))
