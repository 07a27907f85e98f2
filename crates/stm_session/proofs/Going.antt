-- Steps, one after another, and what one step is.
use Rattle.std.proofs.Common.{◌≡◌, ◌⊎◌, ℕ, ◌+◌, Bool, true, false, List, [], ◌∷◌, ◌++◌, length, take, Some, Result, Ok, Err, IsErrAnd, IfOk, refl, sym, ap, ◌∙◌, subst, IsTrue}
use Rattle.stm_wire.specs.declared.fault.WireFault.{WireFault}
use Rattle.stm_wire.specs.declared.fault.WireFault.TheVariants.{Line}
use Rattle.stm_wire.specs.declared.intent.Intent.{Intent}
use Rattle.stm_wire.specs.declared.intent.Intent.TheVariants.{Erase, Program}
use Rattle.stm_wire.proofs.Names.{BreaksOff, ChipData, Device, flash_size, IsDevice, IsFrameUnder, IsHeldToEnd, IsModel, IsSettled, LeavesOnly, LeftByAppend, LeftBySending, page_of, RigState, Turn}
use Rattle.stm_wire.proofs.Names.{with_page}
use Rattle.stm_wire.specs.lemmas.MomentLaws.{joined, weaker}
use Rattle.stm_wire.specs.lemmas.PageLaws.{put_page}
use Rattle.stm_journal.specs.declared.entry.Entry.{Entry}
use Rattle.stm_journal.specs.declared.fault.JournalFault.{JournalFault}
use Rattle.stm_journal.proofs.Names.{added_bytes, allows, Appends, HasAdded, is_unfinished, IsLoaded, IsPrintable, LeavesLoaded, Loaded, loaded_after, StateData}
use Rattle.stm_session.proofs.Names.{AddsLines, Asks, Fault, fault_of, fault_of_journal, Goes, is_torn_at, IsOutsideFault, IsSteady, IsStill, IsUnder, KeepsFlashes, Stands, state_at, StepLaws}
use Rattle.stm_session.proofs.Names.{text_added, torn_after}
use Rattle.stm_session.specs.declared.fault.Fault.TheVariants.{Memory}
use Rattle.stm_session.proofs.Standing.{append_stands, frame_stands, journal_outside, makes_then, stands_now, still_stands}
use Rattle.stm_session.proofs.Texts.{adds_none, adds_then, behind_part, front_part, same_after, text_added-append}

-- the last moment is one of them
pub at_exit : (P : Device → List ℕ → Type 0) (a b : RigState) → IsModel b → LeavesOnly P a b → P b.device b.journal
at_exit P a b model moments = moments.each b.device b.journal (model.counts_now a.moment b.device moments.later (0, refl))

-- a beginning of some lines is one of those and more
pub stands_more : (xs ys : List Entry) (flashes : List (List ℕ)) (a : RigState) (d : Device) (journal : List ℕ) → Stands xs flashes a d journal → Stands (xs ++ ys) flashes a d journal
stands_more xs ys flashes a d journal s =
    let torn = is_torn_at a.journal in
    let part = front_part s.written (text_added torn xs) (text_added (torn_after torn xs) ys) in
    record {
      undoable = s.undoable;
      make = s.make;
      finished = s.finished;
      written = part.0;
      lines = s.lines ∙ ap (λ bytes. a.journal ++ bytes) (part.1 ∙ ap (λ bytes. take part.0 bytes) (sym (text_added-append torn xs ys)));
    }

-- a later step's moments, seen from the start
pub stands_later : (xs ys : List Entry) (flashes : List (List ℕ)) (a b : RigState) → Stands xs flashes a b.device b.journal → AddsLines xs a.journal b.journal
    → (d : Device) (journal : List ℕ) → Stands ys flashes b d journal → Stands (xs ++ ys) flashes a d journal
stands_later xs ys flashes a b at adds d journal later =
    let torn = is_torn_at a.journal in
    record {
      undoable = later.undoable;
      make = makes_then a.device b.device d at.make later.make;
      finished = λ f.
          let second = later.finished f in
          let first = at.finished second.0 in
          (first.0, second.1 ∙ first.1);
      written = length (text_added torn xs) + later.written;
      lines = later.lines ∙ ap (λ (j : List ℕ). j ++ take later.written (text_added (is_torn_at b.journal) ys)) adds.added
          ∙ ap (λ (t : Bool). (a.journal ++ text_added torn xs) ++ take later.written (text_added t ys)) adds.torn
          ∙ behind_part later.written a.journal (text_added torn xs) (text_added (torn_after torn xs) ys)
          ∙ ap (λ bytes. a.journal ++ take (length (text_added torn xs) + later.written) bytes) (sym (text_added-append torn xs ys));
    }

-- two steps, one after the other
pub goes_then : {T U : Type 0} {Done1 : T → Type 0} {Done2 Done : U → Type 0} (flashes : List (List ℕ)) (xs ys : List Entry) (l2 l3 : Loaded) (a b c : RigState) (x : T) (second : Result U Fault)
    → IsModel b → Goes flashes xs l2 a b (Ok x) Done1 → Goes flashes ys l3 b c second Done2 → ((y : U) → Done2 y → Done y) → Goes flashes (xs ++ ys) l3 a c second Done
goes_then {U = U} flashes xs ys l2 l3 a b c x second model first next gives =
    record {
      moments = joined (Stands xs flashes a) (Stands ys flashes b) (Stands (xs ++ ys) flashes a) a b c first.moments next.moments
          (λ d journal s. stands_more xs ys flashes a d journal s)
          (stands_later xs ys flashes a b (at_exit (Stands xs flashes a) a b model first.moments) first.lines);
      fails = next.fails;
      honest = next.honest;
      steady = next.steady;
      lines = lines_then second next.lines;
      done = ok_weaker second gives next.done;
    }
  where
    lines_then : (r : Result U Fault) → Rattle.std.specs.Prelude.OnOk r (AddsLines ys b.journal c.journal) → Rattle.std.specs.Prelude.OnOk r (AddsLines (xs ++ ys) a.journal c.journal)
    lines_then (Ok y) adds = adds_then xs ys a.journal b.journal c.journal first.lines adds
    lines_then (Err e) adds = tt

    ok_weaker : {V : Type 0} {P Q : V → Type 0} (r : Result V Fault) → ((y : V) → P y → Q y) → IfOk r P → IfOk r Q
    ok_weaker (Ok y) f p = f y p
    ok_weaker (Err e) f p = tt

-- the same with another value or another fault at its end
pub goes_ok : {T U : Type 0} {Done1 : T → Type 0} {Done : U → Type 0} (flashes : List (List ℕ)) (xs : List Entry) (l2 : Loaded) (a b : RigState) (x : T) (y : U) → Goes flashes xs l2 a b (Ok x) Done1 → (Done1 x → Done y)
    → Goes flashes xs l2 a b (Ok y) Done
goes_ok flashes xs l2 a b x y goes gives = record { moments = goes.moments; fails = tt; honest = goes.honest; steady = goes.steady; lines = goes.lines; done = gives goes.done }

-- the same lines, spelled otherwise
pub goes_as : {T : Type 0} {Done : T → Type 0} (flashes : List (List ℕ)) (xs ys : List Entry) (l2 : Loaded) (a b : RigState) (result : Result T Fault) → xs ≡ ys → Goes flashes xs l2 a b result Done → Goes flashes ys l2 a b result Done
goes_as {T} {Done} flashes xs ys l2 a b result same goes = let G : List Entry → Type 0 = λ es. Goes {T = T} flashes es l2 a b result Done in subst G same goes

-- a fault before all lines are there
pub goes_failed : {T U : Type 0} {Done1 : T → Type 0} {Done : U → Type 0} (flashes : List (List ℕ)) (xs ys : List Entry) (l2 l3 : Loaded) (a b : RigState) (e : Fault) (result : Result U Fault) → Goes flashes xs l2 a b (Err e) Done1
    → IsErrAnd result (λ x. x ≡ e) → Goes flashes (xs ++ ys) l3 a b result Done
goes_failed flashes xs ys l2 l3 a b e (Ok x) goes is = absurd is
goes_failed flashes xs ys l2 l3 a b e (Err y) goes is =
    record {
      moments = weaker (Stands xs flashes a) (Stands (xs ++ ys) flashes a) a b goes.moments (λ d journal s. stands_more xs ys flashes a d journal s);
      fails = subst IsOutsideFault (sym is) goes.fails;
      honest = goes.honest;
      steady = tt;
      lines = tt;
      done = tt;
    }

-- memory is refused after some steps
pub goes_refused : {T U : Type 0} {Done1 : T → Type 0} {Done : U → Type 0} (flashes : List (List ℕ)) (xs ys : List Entry) (l2 l3 : Loaded) (a b : RigState) (x : T) (result : Result U Fault) → Goes flashes xs l2 a b (Ok x) Done1
    → IsErrAnd result (λ y. y ≡ Memory) → Goes flashes (xs ++ ys) l3 a b result Done
goes_refused {T = T} flashes xs ys l2 l3 a b x result goes is =
    let refused : Goes {T = T} flashes xs l2 a b (Err Memory) (λ y. Unit {0}) = record { moments = goes.moments; fails = tt; honest = goes.honest; steady = tt; lines = tt; done = tt } in
    goes_failed flashes xs ys l2 l3 a b Memory result refused is

-- nothing yet
pub goes_nowhere : {T : Type 0} (laws : StepLaws) (flashes : List (List ℕ)) (l : Loaded) (a : RigState) (x : T) (Done : T → Type 0) → IsModel a → IsSteady flashes l a → Done x → Goes flashes [] l a a (Ok x) Done
goes_nowhere laws flashes l a x Done model steady done =
    record { moments = stands_now laws [] flashes l a model steady; fails = tt; honest = steady.honest; steady = steady; lines = adds_none a.journal; done = done }

-- an entry that may stand next, and leaves the flashes and an unfinished segment
pub record IsStep (e : Entry) (flashes : List (List ℕ)) (s : StateData) (d : Device) : Type 0 where
  pub allowed : IsTrue (allows s e)
  pub printable : IsPrintable e
  pub keeps : (s2 : StateData) → HasAdded e s s2 → KeepsFlashes flashes d s2
  pub unfinished : (s2 : StateData) → HasAdded e s s2 → is_unfinished s2 ≡ true

-- after a line no torn tail stands
untorn : (e : Entry) (l l2 : Loaded) → l2 ≡ loaded_after (e ∷ []) l → l2.is_torn ≡ false
untorn e l l2 after = ap (λ (m : Loaded). m.is_torn) after

-- a line is appended
module _ (laws : StepLaws) (e : Entry) (flashes : List (List ℕ)) (l l2 : Loaded) (old new : RigState)
    (model : IsModel old) (steady : IsSteady flashes l old) (step : IsStep e flashes (state_at old.journal) old.device) where
  line_moments : {T : Type 0} (result : Result T JournalFault) → Appends (e ∷ []) l l2 old new result → LeavesOnly (Stands (e ∷ []) flashes old) old new
  line_moments result appends =
      weaker (LeftByAppend (added_bytes l.is_torn (e ∷ [])) old) (Stands (e ∷ []) flashes old) old new appends.bytes.moments
      (append_stands laws e flashes l old model steady step.allowed step.printable step.keeps step.unfinished)

  pub line_goes : {T U : Type 0} (x : T) (y : U) → Appends (e ∷ []) l l2 old new (Ok x) → l2 ≡ loaded_after (e ∷ []) l → HasAdded e (state_at old.journal) (state_at new.journal)
      → Goes flashes (e ∷ []) l2 old new (Ok y) (λ z. new.device ≡ old.device)
  line_goes x y appends after has =
      let D : Device → Type 0 = λ d. KeepsFlashes flashes d (state_at new.journal) in
      record {
        moments = line_moments (Ok x) appends;
        fails = tt;
        honest = appends.bytes.honest;
        steady = record {
          honest = appends.bytes.honest;
          loaded = appends.loaded;
          settled = subst IsSettled (sym appends.bytes.same_device) steady.settled;
          keeps = subst D (sym appends.bytes.same_device) (step.keeps (state_at new.journal) has);
        };
        lines = record {
          added = appends.bytes.added ∙ ap (λ (t : Bool). old.journal ++ added_bytes t (e ∷ [])) steady.loaded.is_torn;
          torn = sym appends.loaded.is_torn ∙ untorn e l l2 after;
          same = same_after e (state_at old.journal) (state_at new.journal) has;
        };
        done = appends.bytes.same_device;
      }

  pub line_fails : {T U : Type 0} {Done : U → Type 0} (ys : List Entry) (l3 : Loaded) (fault : JournalFault) (result : Result U Fault) → Appends {T = T} (e ∷ []) l l2 old new (Err fault) → LeavesLoaded l l2 fault
      → IsErrAnd result (λ y. y ≡ fault_of_journal fault) → Goes flashes (e ∷ ys) l3 old new result Done
  line_fails ys l3 fault (Ok y) appends left is = absurd is
  line_fails ys l3 fault (Err y) appends left is =
      record {
        moments = weaker (Stands (e ∷ []) flashes old) (Stands (e ∷ ys) flashes old) old new (line_moments (Err fault) appends) (λ d journal s. stands_more (e ∷ []) ys flashes old d journal s);
        fails = subst IsOutsideFault (sym is) (journal_outside l l2 fault left);
        honest = appends.bytes.honest;
        steady = tt;
        lines = tt;
        done = tt;
      }

pub line_outside : (e : WireFault) → e ≡ Line → IsOutsideFault (fault_of e)
line_outside e is = subst (λ x. IsOutsideFault (fault_of x)) (sym is) tt

-- No line was added, and the flashes are kept that were.
pub goes_still : {T : Type 0} (flashes : List (List ℕ)) (l : Loaded) (old new : RigState) (y : T) (Done : T → Type 0) → LeavesOnly (Stands [] flashes old) old new → new.is_honest → new.journal ≡ old.journal
    → IsLoaded l old.journal → IsSettled new.device → KeepsFlashes flashes new.device (state_at old.journal) → Done y → Goes flashes [] l old new (Ok y) Done
goes_still flashes l old new y Done moments honest same loaded settled keeps done =
    let S : List ℕ → Type 0 = λ j. IsLoaded l j × (KeepsFlashes flashes new.device (state_at j) × AddsLines [] old.journal j) in
    let at = subst S (sym same) (loaded, (keeps, adds_none old.journal)) in
    record { moments = moments; fails = tt; honest = honest; steady = record { honest = honest; loaded = at.0; settled = settled; keeps = at.1.0 }; lines = at.1.1; done = done }

-- a frame is sent under an intent on a page that the newest segment keeps
module _ (laws : StepLaws) (flashes : List (List ℕ)) (l : Loaded) (n : ℕ) (i : Intent) (frame : List ℕ) (old new : RigState)
    (model : IsModel old) (steady : IsSteady flashes l old) (under : IsUnder n i (state_at old.journal)) (of : (i ≡ Erase n) ⊎ (i ≡ Program n)) (frames : IsFrameUnder old.device.chip (Some i) frame) where
  abbrev Both : Device → List ℕ → Type 0
  Both d journal = Stands [] flashes old d journal × KeepsFlashes flashes d (state_at old.journal)

  both : LeavesOnly (LeftBySending frame old) old new → LeavesOnly Both old new
  both moments = weaker (LeftBySending frame old) Both old new moments (frame_stands laws flashes l n i frame old model steady under of frames)

  stands : LeavesOnly Both old new → LeavesOnly (Stands [] flashes old) old new
  stands moments = weaker Both (Stands [] flashes old) old new moments (λ d journal p. p.0)

  pub frame_goes : {T : Type 0} {turns : List Turn} (y : T) (Done : T → Type 0) → IsHeldToEnd frame turns old new → (new.is_honest → IsModel new) → IsSettled new.device → Done y → Goes flashes [] l old new (Ok y) Done
  frame_goes y Done holds model_then settled done =
      let sent = holds.honestly steady.honest in
      let moments = both sent.moments in
      goes_still flashes l old new y Done (stands moments) sent.honest sent.journal steady.loaded settled (at_exit Both old new (model_then sent.honest) moments).1 done

  pub frame_fails : {U : Type 0} {turns : List Turn} {Done : U → Type 0} {fault : WireFault} (ys : List Entry) (l3 : Loaded) (result : Result U Fault) → BreaksOff fault frame turns old new → fault ≡ Line
      → IsErrAnd result (λ e. e ≡ fault_of fault) → Goes flashes ys l3 old new result Done
  frame_fails ys l3 (Ok y) breaks line is = absurd is
  frame_fails {fault = fault} ys l3 (Err y) breaks line is =
      let sent = breaks.honestly steady.honest in
      record {
        moments = weaker (Stands [] flashes old) (Stands ys flashes old) old new (stands (both sent.moments)) (λ d journal s. stands_more [] ys flashes old d journal s);
        fails = subst IsOutsideFault (sym is) (line_outside fault line);
        honest = sent.honest;
        steady = tt;
        lines = tt;
        done = tt;
      }

-- calls that only ask
module _ (laws : StepLaws) (flashes : List (List ℕ)) (l : Loaded) (old new : RigState) (steady : IsSteady flashes l old) where
  asked_moments : (ys : List Entry) → LeavesOnly (IsStill old) old new → LeavesOnly (Stands ys flashes old) old new
  asked_moments ys moments = weaker (IsStill old) (Stands ys flashes old) old new moments (still_stands laws ys flashes l old steady)

  pub asks_go : {T U : Type 0} {Done1 : T → Type 0} {Done : U → Type 0} (x : T) (y : U) → Asks old new (Ok x) Done1 → (Done1 x → Done y) → Goes flashes [] l old new (Ok y) Done
  asks_go {Done = Done} x y asks gives =
      let K : Device → Type 0 = λ d. IsSettled d × KeepsFlashes flashes d (state_at old.journal) in
      let at = subst K (sym asks.same) (steady.settled, steady.keeps) in
      goes_still flashes l old new y Done (asked_moments [] asks.moments) asks.honest asks.left.journal_same steady.loaded at.0 at.1 (gives asks.done)

  -- with nothing to tell
  pub asks_on : {T : Type 0} {Done1 : T → Type 0} (x : T) → Asks old new (Ok x) Done1 → Goes {T = Unit {0}} flashes [] l old new (Ok tt) (λ y. Unit {0})
  asks_on x asks = asks_go x (tt {0}) asks (λ done. tt)

  pub asks_fail : {T U : Type 0} {Done1 : T → Type 0} {Done : U → Type 0} (ys : List Entry) (l3 : Loaded) (e : Fault) (result : Result U Fault) → Asks old new (Err e) Done1 → IsErrAnd result (λ x. x ≡ e)
      → Goes flashes ys l3 old new result Done
  asks_fail ys l3 e (Ok y) asks is = absurd is
  asks_fail ys l3 e (Err y) asks is = record { moments = asked_moments ys asks.moments; fails = subst IsOutsideFault (sym is) asks.fails; honest = asks.honest; steady = tt; lines = tt; done = tt }

-- a page that holds the bytes already
pub page_held : (chip : ChipData) (n : ℕ) (page : List ℕ) (d : Device) → IsDevice d → d.chip ≡ chip → page ≡ page_of chip d.flash n → d.flash ≡ with_page chip n page d.flash
page_held chip n page d is chip_is holds =
    sym (put_page chip d.flash n (is.size ∙ ap (λ (c : ChipData). flash_size c) chip_is)) ∙ sym (ap (λ (xs : List ℕ). with_page chip n xs d.flash) holds)
