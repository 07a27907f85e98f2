-- Asking which board a device is: the frames of that, how they join and how they are cut short.
use Rattle.std.proofs.Common.{◌≡◌, ◌⊎◌, ⊎_elim, inl, inr, OnOk, ℕ, ◌+◌, ◌*◌, ◌/◌, ◌%◌, ◌≤◌, Bool, true, false, List, [], ◌∷◌, ◌++◌, length, Option, Some, None, Result, Ok, Err, IsErrAnd, refl, sym, ◌∙◌, ap, subst, arith, append_assoc, length-append}
use Rattle.stm_wire.specs.declared.fault.WireFault.{WireFault}
use Rattle.stm_wire.specs.declared.places.BoardPlaces.{BoardPlaces}
use Rattle.stm_wire.specs.declared.places.UniquePlace.{UniquePlace}
use Rattle.stm_wire.proofs.Names.{Adds, AreFew, AsksSafely, at_address, at_code, at_count, Call, calls_of, ChipData, command, Device, get_id_turns, get_turns, GoesOn, IsBrokenOff, IsDevice, IsModel}
use Rattle.stm_wire.proofs.Names.{IsPart, IsRefusedRead, IsSettled, LeftBySending, LossStaysHarmless, puts_of, read_turns, ReadsOrIsRefused, refusable_frame, RefusableReadsChangeNothing}
use Rattle.stm_wire.proofs.Names.{refused_turns, RigState, SettlesWithin, Turn}
use Rattle.stm_wire.specs.lemmas.DialogueLaws.{GoesOn-adds, GoesOn-append, GoesOn-weaker, broken_off_is_cut_short, calls_of-are_line, gets_of-append, length-calls_of, length-read_turns, line_calls_are_few, puts_of-append}
use Rattle.stm_wire.specs.lemmas.MomentLaws.{weaker, joined}
use Rattle.stm_session.proofs.Names.{acts_of, AmidUndo, AppendsNothing, AreCutShort, asking_refusal, asking_steps, Asks, AsksBoard, AsksFinished, AsksInOrder, AsksInPart, AsksSize, AsksUnfinished}
use Rattle.stm_session.proofs.Names.{AsksUnique, Begin, BeginsNothing, Board, byte_of, came_in, Cause, cause_of, EndsWell, Fault, fault_of, fault_of_journal, FaultEnds, Goes, IsAnswered, IsAsked}
use Rattle.stm_session.proofs.Names.{IsAsking, IsBoardOf, IsInOrder, IsOfTalking, IsOutside, IsOutsideFault, IsSafe, IsSteady, IsStill, IsUnbegun, IsUnheard, limit_of, LoadsUnless, of_protocol}
use Rattle.stm_session.proofs.Names.{of_refusal, of_session, places_in, Sends, SettlesThen, settling_way, size_of, size_told, Stands, Step, StepLaws, StopsBy, torn_behind, Undoable, unique_of}
use Rattle.stm_session.proofs.Names.{unique_told, unsent_refusal, Way}
use Rattle.stm_wire.specs.declared.chip.EraseKind.{EraseKind}
use Rattle.stm_wire.specs.declared.intent.Intent.{Intent}
use Rattle.stm_journal.specs.declared.fault.JournalFault.{JournalFault}
use Rattle.stm_journal.proofs.Names.{AreFetches, IsUntouched, journal_of, Loaded, Loads}
use Rattle.stm_session.proofs.AskingStops.{asked_puts}
use Rattle.stm_session.proofs.Freshness.{limit_most}
use Rattle.stm_session.proofs.Asking.{line_outside}
use Rattle.stm_session.proofs.Going.{asks_fail, asks_go, at_exit}
use Rattle.stm_session.proofs.Openings.{load_failed, untouched_is_unbegun}
use Rattle.stm_session.proofs.Reaching.{err_then, told_then}
use Rattle.stm_session.proofs.Sending.{fetches_get, fetches_put}
use Rattle.stm_session.proofs.Unbegun.{further}
use Rattle.stm_session.proofs.Unread.{stands_amid, untouched_amid}
use Rattle.stm_session.proofs.CutShort.{begin_after, begin_as, begin_on, by_fault, order_stops, part_stops}
use Rattle.stm_session.proofs.Orders.{acts-append, acts-line, fetches-act, order_sent, order_then, settles_and, torn-append}
use Rattle.stm_session.proofs.Unwritings.{held_appends_nothing}

-- A read that may be refused, on a device that follows the model.
module _ (law : RefusableReadsChangeNothing) (old new : RigState) (address size : ℕ) (some : 1 ≤ size) (most : size ≤ 256) (is : IsDevice old.device) (settled : IsSettled old.device) where
  left_by_read : (d : Device) (journal : List ℕ) → LeftBySending (refusable_frame old.device.chip address size) old d journal → IsStill old d journal
  left_by_read d journal left =
      let safely = law old.device d 0x7F address size is settled some most left.1 in
      record {
        journal_same = left.0;
        make = record { chip = safely.0.same_chip; version = safely.0.same_version; codes = safely.0.same_codes };
        flash = safely.1;
        harmless = λ byte. (law old.device d byte address size is settled some most left.1).0.harmless;
        awaits = λ byte. (law old.device d byte address size is settled some most left.1).0.awaits;
        owed = safely.0.owed;
      }

  pub place_asked : {U : Type 0} {Done : U → Type 0} (bytes : List ℕ) (x : Bool) (y : U) → AsksSafely address size bytes old new (Ok x) → Done y → Asks old new (Ok y) Done
  place_asked bytes x y asks done = record {
    moments = weaker (LeftBySending (refusable_frame old.device.chip address size) old) (IsStill old) old new asks.sent.moments left_by_read;
    fails = tt;
    left = left_by_read new.device new.journal (asks.sent.journal, asks.sent.fed);
    honest = asks.sent.honest;
    same = asks.same;
    done = done;
  }

  pub place_failed : {U : Type 0} {Done : U → Type 0} (bytes : List ℕ) (e : WireFault) (result : Result U Fault) → AsksSafely address size bytes old new (Err e) → IsErrAnd result (λ x. x ≡ fault_of e) → Asks old new result Done
  place_failed bytes e (Ok y) asks is_err = absurd is_err
  place_failed bytes e (Err x) asks is_err = record {
    moments = weaker (LeftBySending (refusable_frame old.device.chip address size) old) (IsStill old) old new asks.sent.moments left_by_read;
    fails = subst IsOutsideFault (sym is_err) (line_outside e asks.fails);
    left = left_by_read new.device new.journal (asks.sent.journal, asks.sent.fed);
    honest = asks.sent.honest;
    same = tt;
    done = tt;
  }

-- On any line: in few calls.
few_held : (most : ℕ) (turns : List Turn) (a b : Option (List Call)) → length turns ≤ most → Adds (calls_of turns) a b → GoesOn (AreFew most) a b
few_held most turns a b le adds =
    GoesOn-adds (AreFew most) (calls_of turns) a b adds (omega (arith, le, line_calls_are_few (calls_of turns) (calls_of-are_line turns), length-calls_of turns))

pub few_broken : (most : ℕ) (e : WireFault) (turns : List Turn) (a b : Option (List Call)) → length turns ≤ most → GoesOn (IsBrokenOff e turns) a b → GoesOn (AreFew most) a b
few_broken most e turns a b le broken =
    GoesOn-weaker (IsBrokenOff e turns) (AreFew most) a b broken
    (λ xs x. let cut = broken_off_is_cut_short e turns xs x in omega (arith, le, cut.few, line_calls_are_few xs cut.line))

pub few_then : (m n : ℕ) (a b c : Option (List Call)) → GoesOn (AreFew m) a b → GoesOn (AreFew n) b c → GoesOn (AreFew (m + n)) a c
few_then m n a b c p q =
    GoesOn-append (AreFew m) (AreFew n) (AreFew (m + n)) a b c p q
    (λ xs ys x y. omega (arith, x, y, ap length (puts_of-append xs ys), length-append (puts_of xs) (puts_of ys), gets_of-append xs ys))

pub few_more : (m n : ℕ) (a b : Option (List Call)) → m ≤ n → GoesOn (AreFew m) a b → GoesOn (AreFew n) a b
few_more m n a b le p = GoesOn-weaker (AreFew m) (AreFew n) a b p (λ xs x. omega (arith, le, x))

pub part_few : (chip : Option ChipData) (whole : Bool) (most : ℕ) (a b : Option (List Call)) → GoesOn (IsPart chip whole most) a b → GoesOn (AreFew most) a b
part_few chip whole most a b p = GoesOn-weaker (IsPart chip whole most) (AreFew most) a b p (λ xs x. x.few)

pub asked_few : (id : ℕ) (a b : RigState) → AsksInOrder id false a b
    → GoesOn (AreFew 268) a.calls b.calls
asked_few id a b asked = part_few None true 268 a.calls b.calls (asked_puts id a b asked)

pub read_broken_length : (address size : ℕ) (answer : List ℕ) → length answer ≡ size → length (read_turns address answer) ≤ 12 + size
read_broken_length address size answer same = omega (arith, same, length-read_turns address answer)

pub refused_length : (address size : ℕ) (frame : List ℕ) (turns : List Turn) → IsRefusedRead address size frame turns → length turns ≤ 12 + size
refused_length address size frame turns (at_code f t) = omega (arith, ap length t)
refused_length address size frame turns (at_address f t) = omega (arith, ap length t)
refused_length address size frame turns (at_count f t) = omega (arith, ap length t)

-- a read that was answered
module _ (address size : ℕ) (bytes : List ℕ) (a b : RigState) where
  pub read_unwritten : (told : Bool) → ReadsOrIsRefused address size bytes a b told → GoesOn AppendsNothing a.calls b.calls
  read_unwritten true held = held_appends_nothing (read_turns address bytes) a.calls b.calls held.recorded
  read_unwritten false (frame, turns, is, held) = held_appends_nothing turns a.calls b.calls held.recorded

  pub read_few : (told : Bool) → length bytes ≡ size → ReadsOrIsRefused address size bytes a b told → GoesOn (AreFew (12 + size)) a.calls b.calls
  read_few true same held = few_held (12 + size) (read_turns address bytes) a.calls b.calls (read_broken_length address size bytes same) held.recorded
  read_few false same (frame, turns, is, held) = few_held (12 + size) turns a.calls b.calls (refused_length address size frame turns is) held.recorded

  pub read_ordered : (told torn : Bool) → length bytes ≡ size → ReadsOrIsRefused address size bytes a b told
      → (steps : List Step) × IsAsked address size (came_in told bytes) steps × GoesOn (IsInOrder torn steps) a.calls b.calls
  read_ordered true torn same held = (Sends (read_turns address bytes) ∷ [], (same, refl), order_sent torn (read_turns address bytes) a.calls b.calls held.recorded)
  read_ordered false torn same (frame, turns, is, held) = (Sends turns ∷ [], (frame, turns, is, refl), order_sent torn turns a.calls b.calls held.recorded)

-- what came of a place is told
module _ (place : Option ℕ) (address : ℕ) (known : place ≡ Some address) (torn : Bool) (a b : RigState) where
  pub size_asked : (came : Option (List ℕ)) (size : Option ℕ) → size ≡ size_told came → (steps : List Step) × IsAsked address 2 came steps × GoesOn (IsInOrder torn steps) a.calls b.calls
      → (steps : List Step) × AsksSize place size steps × GoesOn (IsInOrder torn steps) a.calls b.calls
  size_asked came size told (steps, asked, goes) =
      let A : Option ℕ → Type 0 = λ p. AsksSize p size steps in
      (steps, subst A (sym known) (came, asked, told), goes)

  pub size_unasked : {U : Type 0} (e : Fault) (result : Result U Fault) → IsErrAnd result (λ x. x ≡ e) → StopsBy (Begin (λ steps. (came : Option (List ℕ)) × IsAsked address 2 came steps)) (cause_of e) torn a b
      → FaultEnds (Begin (λ steps. (size : Option ℕ) × AsksSize place size steps)) torn a b result
  size_unasked e result is stops =
      let P : List Step → Type 0 = λ steps. (came : Option (List ℕ)) × IsAsked address 2 came steps in
      let Q : List Step → Type 0 = λ steps. (size : Option ℕ) × AsksSize (Some address) size steps in
      let G : Option ℕ → Type 0 = λ p. FaultEnds (Begin (λ steps. (size : Option ℕ) × AsksSize p size steps)) torn a b result in
      subst G (sym known) (part_stops (Begin P) (Begin Q) torn a b e result is (begin_as P Q (λ xs x. (size_told x.0, (x.0, x.1, refl)))) stops)

module _ (place : Option UniquePlace) (here : UniquePlace) (known : place ≡ Some here) (torn : Bool) (a b : RigState) (count : ℕ) (long : count ≡ here.length) where
  pub unique_asked : (came : Option (List ℕ)) (unique : List ℕ) → unique ≡ unique_told came → (steps : List Step) × IsAsked here.address count came steps × GoesOn (IsInOrder torn steps) a.calls b.calls
      → (steps : List Step) × AsksUnique place unique steps × GoesOn (IsInOrder torn steps) a.calls b.calls
  unique_asked came unique told (steps, asked, goes) =
      let A : Option UniquePlace → Type 0 = λ p. AsksUnique p unique steps in
      let C : ℕ → Type 0 = λ n. IsAsked here.address n came steps in
      (steps, subst A (sym known) (came, subst C long asked, told), goes)

  pub unique_unasked : {U : Type 0} (e : Fault) (result : Result U Fault) → IsErrAnd result (λ x. x ≡ e) → StopsBy (Begin (λ steps. (came : Option (List ℕ)) × IsAsked here.address count came steps)) (cause_of e) torn a b
      → FaultEnds (Begin (λ steps. (unique : List ℕ) × AsksUnique place unique steps)) torn a b result
  unique_unasked e result is stops =
      let P : List Step → Type 0 = λ steps. (came : Option (List ℕ)) × IsAsked here.address count came steps in
      let Q : List Step → Type 0 = λ steps. (unique : List ℕ) × AsksUnique (Some here) unique steps in
      let C : (xs : List Step) → (came : Option (List ℕ)) → IsAsked here.address count came xs → IsAsked here.address here.length came xs = λ xs came asked. subst (λ (n : ℕ). IsAsked here.address n came xs) long asked in
      let G : Option UniquePlace → Type 0 = λ p. FaultEnds (Begin (λ steps. (unique : List ℕ) × AsksUnique p unique steps)) torn a b result in
      subst G (sym known) (part_stops (Begin P) (Begin Q) torn a b e result is (begin_as P Q (λ xs x. (unique_told x.0, (x.0, C xs x.0 x.1, refl)))) stops)

-- no line is added by them
asked_torn : (address size : ℕ) (came : Option (List ℕ)) (steps : List Step) → IsAsked address size came steps → (torn : Bool) → torn_behind torn steps ≡ torn
asked_torn address size None steps (frame, turns, is, e) torn = ap (λ (l : List Step). torn_behind torn l) e
asked_torn address size (Some bytes) steps (same, e) torn = ap (λ (l : List Step). torn_behind torn l) e

unique_torn : (place : Option UniquePlace) (unique : List ℕ) (steps : List Step) → AsksUnique place unique steps → (torn : Bool) → torn_behind torn steps ≡ torn
unique_torn None unique steps (e, none) torn = ap (λ (l : List Step). torn_behind torn l) e
unique_torn (Some place) unique steps (came, asked, is) torn = asked_torn place.address place.length came steps asked torn

-- both places are asked
abbrev Rest : BoardPlaces → List Step → Type 0
Rest places steps = (unique : List ℕ) × (size : Option ℕ) × (first : List Step) × AsksUnique places.unique unique first × (second : List Step) × AsksSize places.size size second × (steps ≡ first ++ second)

refused_at : (address count : ℕ) → (steps : List Step) × IsAsked address count None steps
refused_at address count =
    let turns = refused_turns (command 0x11) in
    (Sends turns ∷ [], (command 0x11, turns, at_code refl refl, refl))

some_unique : (place : Option UniquePlace) → (steps : List Step) × AsksUnique place [] steps
some_unique None = ([], (refl, refl))
some_unique (Some place) = let r = refused_at place.address place.length in (r.0, (None, r.1, refl))

some_size : (place : Option ℕ) → (steps : List Step) × AsksSize place None steps
some_size None = ([], (refl, refl))
some_size (Some address) = let r = refused_at address 2 in (r.0, (None, r.1, refl))

unique_begins : (places : BoardPlaces) (steps : List Step) → (unique : List ℕ) × AsksUnique places.unique unique steps → (more : List Step) × Rest places (steps ++ more)
unique_begins places steps (unique, asks) =
    let size = some_size places.size in
    (size.0, (unique, None, steps, asks, size.0, size.1, refl))

rest_answers : (table : List ChipData) (version : ℕ) (codes : List ℕ) (id : ℕ) (steps : List Step) → Rest (places_in table id) steps → AsksBoard table (asking_steps version codes id ++ steps)
rest_answers table version codes id steps (unique, size, first, asks, second, more, is) =
    let board : Board = record { id = id; unique = unique; size = size } in (
      board,
      record {
        version = version;
        codes = codes;
        high = id / 256;
        low = id % 256;
        id = omega arith;
        first = first;
        unique = asks;
        second = second;
        size = more;
        is = ap (λ (l : List Step). asking_steps version codes id ++ l) is;
      },
    )

asking_begins : (table : List ChipData) (steps : List Step) → IsAsking steps → (more : List Step) × AsksBoard table (steps ++ more)
asking_begins table steps asking =
    let high = asking.is_get_id.high in
    let low = asking.is_get_id.low in
    let id = 256 * high + low in
    let unique = some_unique (places_in table id).unique in
    let size = some_size (places_in table id).size in
    let more = unique.0 ++ size.0 in
    let version = asking.is_get.version in
    let codes = asking.is_get.codes in
    let get : List Step = Sends (get_turns version codes) ∷ [] in
    let get_id : List Step = Sends (get_id_turns high low) ∷ [] in
    let both : steps ≡ get ++ get_id = asking.is ∙ ap (λ (l : List Step). l ++ asking.second) asking.is_get.is ∙ ap (λ (l : List Step). get ++ l) asking.is_get_id.is in
    let board : Board = record { id = id; unique = []; size = None } in (
      more,
      (
        board,
        record {
          version = version;
          codes = codes;
          high = high;
          low = low;
          id = refl;
          first = unique.0;
          unique = unique.1;
          second = size.0;
          size = size.1;
          is = ap (λ (l : List Step). l ++ more) both;
        },
      ),
    )

-- Get or Get ID is cut short
pub asking_stops : {U : Type 0} (table : List ChipData) (torn : Bool) (a b : RigState) (e : Fault) (result : Result U Fault) → IsErrAnd result (λ x. x ≡ e) → StopsBy (Begin IsAsking) (cause_of e) torn a b
    → FaultEnds (Begin (AsksBoard table)) torn a b result
asking_stops table torn a b e result is stops = part_stops (Begin IsAsking) (Begin (AsksBoard table)) torn a b e result is (begin_on IsAsking (AsksBoard table) (asking_begins table)) stops

module _ (table : List ChipData) (torn : Bool) (version : ℕ) (codes : List ℕ) (id : ℕ) (places : BoardPlaces) (same : places ≡ places_in table id) (a b : RigState) (asked : GoesOn (IsInOrder torn (asking_steps version codes id)) a.calls b.calls) where
  abbrev asking : List Step
  asking = asking_steps version codes id

  answers : (steps : List Step) → Rest places steps → AsksBoard table (asking ++ steps)
  answers steps rest = rest_answers table version codes id steps (subst (λ (p : BoardPlaces). Rest p steps) same rest)

  -- the read of the unique id is
  pub unique_stops : {U : Type 0} (c : RigState) (e : Fault) (result : Result U Fault) → IsErrAnd result (λ x. x ≡ e) → StopsBy (Begin (λ steps. (unique : List ℕ) × AsksUnique places.unique unique steps)) (cause_of e) torn b c
      → FaultEnds (Begin (AsksBoard table)) torn a c result
  unique_stops c e result is stops =
      let P : List Step → Type 0 = λ steps. (unique : List ℕ) × AsksUnique places.unique unique steps in
      let longer : (ys : List Step) → Begin P ys → Begin (AsksBoard table) (asking ++ ys) =
      λ ys begins. begin_after (Rest places) (AsksBoard table) asking answers ys (begin_on P (Rest places) (unique_begins places) ys begins) in
      by_fault (λ (k : Cause). StopsBy (Begin (AsksBoard table)) k torn a c) e result is (order_stops (Begin P) (Begin (AsksBoard table)) (cause_of e) torn asking longer a b c asked stops)

  module _ (c : RigState) (unique : List ℕ) (first : List Step) (asks : AsksUnique places.unique unique first) (done : GoesOn (IsInOrder torn first) b.calls c.calls) where
    unique_done : GoesOn (IsInOrder torn (asking ++ first)) a.calls c.calls
    unique_done = order_then torn asking first a.calls b.calls c.calls asked done

    behind_unique : torn_behind torn (asking ++ first) ≡ torn
    behind_unique = torn-append torn asking first ∙ unique_torn places.unique unique first asks torn

    -- the read of the size is
    pub size_stops : {U : Type 0} (d : RigState) (e : Fault) (result : Result U Fault) → IsErrAnd result (λ x. x ≡ e) → StopsBy (Begin (λ steps. (size : Option ℕ) × AsksSize places.size size steps)) (cause_of e) torn c d
        → FaultEnds (Begin (AsksBoard table)) torn a d result
    size_stops d e result is stops =
        let P : List Step → Type 0 = λ steps. (size : Option ℕ) × AsksSize places.size size steps in
        let S : Bool → Type 0 = λ t. StopsBy (Begin P) (cause_of e) t c d in
        let whole : (ys : List Step) → P ys → AsksBoard table ((asking ++ first) ++ ys) =
        λ ys p. subst (AsksBoard table) (sym (append_assoc asking first ys)) (answers (first ++ ys) (unique, p.0, first, asks, ys, p.1, refl)) in
        let longer : (ys : List Step) → Begin P ys → Begin (AsksBoard table) ((asking ++ first) ++ ys) = λ ys begins. begin_after P (AsksBoard table) (asking ++ first) whole ys begins in
        by_fault (λ (k : Cause). StopsBy (Begin (AsksBoard table)) k torn a d) e result is
        (order_stops (Begin P) (Begin (AsksBoard table)) (cause_of e) torn (asking ++ first) longer a c d unique_done (subst S (sym behind_unique) stops))

    -- all was answered
    pub board_answered : (d : RigState) (size : Option ℕ) (board : Board) (second : List Step) → board.id ≡ id → board.unique ≡ unique → board.size ≡ size → AsksSize places.size size second → GoesOn (IsInOrder torn second) c.calls d.calls
        → (steps : List Step) × IsAnswered table board steps × GoesOn (IsInOrder torn steps) a.calls d.calls
    board_answered d size board second same_id same_unique same_size more then =
        let O : Bool → Type 0 = λ t. GoesOn (IsInOrder t second) c.calls d.calls in
        let here : places ≡ places_in table board.id = same ∙ ap (λ (n : ℕ). places_in table n) (sym same_id) in
        let own : AsksUnique (places_in table board.id).unique board.unique first = subst (λ (u : List ℕ). AsksUnique (places_in table board.id).unique u first) (sym same_unique) (subst (λ (p : BoardPlaces). AsksUnique p.unique unique first) here asks) in
        let rest : AsksSize (places_in table board.id).size board.size second = subst (λ (u : Option ℕ). AsksSize (places_in table board.id).size u second) (sym same_size) (subst (λ (p : BoardPlaces). AsksSize p.size size second) here more) in (
          (asking ++ first) ++ second,
          record {
            version = version;
            codes = codes;
            high = id / 256;
            low = id % 256;
            id = omega (arith, same_id);
            first = first;
            unique = own;
            second = second;
            size = rest;
            is = append_assoc asking first second;
          },
          order_then torn (asking ++ first) second a.calls c.calls d.calls unique_done (subst O (sym behind_unique) then),
        )

-- what was told, question by question, is told by a device of this chip
pub board_is : (table : List ChipData) (a b d : Device) (id : ℕ) (unique : List ℕ) (size : Option ℕ)
    (places : BoardPlaces) → places ≡ places_in table id → b ≡ a → d ≡ a → id ≡ a.chip.id
    → (places.unique ≡ b.chip.places.unique → unique ≡ unique_of b.chip)
    → (places.size ≡ d.chip.places.size → size ≡ size_of d.chip)
    → IsBoardOf table a.chip (record { id = id; unique = unique; size = size })
board_is table a b d id unique size places at was still own told sized =
    let here : places_in table a.chip.id ≡ a.chip.places → places ≡ a.chip.places =
    λ same. at ∙ ap (λ (n : ℕ). places_in table n) own ∙ same in
    let U : Device → Type 0 = λ x. places.unique ≡ x.chip.places.unique → unique ≡ unique_of x.chip in
    let S : Device → Type 0 = λ x. places.size ≡ x.chip.places.size → size ≡ size_of x.chip in
    record {
      id = own;
      unique = λ same. subst U was told (ap (λ (p : BoardPlaces). p.unique) (here same));
      size = λ same. subst S still sized (ap (λ (p : BoardPlaces). p.size) (here same));
    }

-- How a session is joined that asks: settling is in few calls,
pub settle_few : (byte limit : ℕ) (a b : Option (List Call)) → limit ≤ 131072 → GoesOn (SettlesWithin byte limit) a b → GoesOn (AreFew 537411600) a b
settle_few byte limit a b le p = GoesOn-weaker (SettlesWithin byte limit) (AreFew 537411600) a b p (λ xs x. omega (arith, le, x.few, line_calls_are_few xs x.line))

pub limit_small : (kind : EraseKind) (g : Bool) (intent : Option Intent) → limit_of (settling_way kind g intent) ≤ 131072
limit_small kind g None = limit_most kind g None
limit_small kind g (Some intent) = limit_most kind g (Some intent)

-- and so is reading the journal
pub fetch_few : (a b : Option (List Call)) → GoesOn AreFetches a b → GoesOn (AreFew 0) a b
fetch_few a b p = GoesOn-weaker AreFetches (AreFew 0) a b p (λ xs x. omega (arith, ap length (fetches_put xs x), fetches_get xs x))

module _ (table : List ChipData) (way : Way) (cause : Cause) (torn : Bool) where
  -- settling ends
  pub part_settled : (a b : Option (List Call)) → IsOfTalking cause → GoesOn (SettlesWithin (byte_of way) (limit_of way)) a b → GoesOn (AsksInPart table way cause torn) a b
  part_settled a b heard settles =
      GoesOn-weaker (SettlesWithin (byte_of way) (limit_of way)) (AsksInPart table way cause torn) a b settles
      (λ xs s. inl (heard, subst (λ (l : List Call). SettlesWithin (byte_of way) (limit_of way) l) (sym (acts-line xs s.line)) s))

  -- the questions do
  pub part_asked : (a b c : RigState) → GoesOn (SettlesWithin (byte_of way) (limit_of way)) a.calls b.calls → GoesOn (EndsWell way) a.calls b.calls → StopsBy (Begin (AsksBoard table)) cause torn b c → GoesOn (AsksInPart table way cause torn) a.calls c.calls
  part_asked a b c settles ends stops =
      let Cut : List Call → Type 0 = λ acts. AreCutShort (Begin (AsksBoard table)) cause torn acts in
      GoesOn-weaker (SettlesThen way Cut) (AsksInPart table way cause torn) a.calls c.calls (settles_and way (λ calls. Cut (acts_of calls)) Cut a.calls b.calls c.calls settles ends stops (λ xs x. x)) (λ xs s. inr s)

  -- the journal was read before
  pub part_fetched : (a b c : Option (List Call)) → GoesOn AreFetches a b → GoesOn (AsksInPart table way cause torn) b c → GoesOn (AsksInPart table way cause torn) a c
  part_fetched a b c fetches stops =
      GoesOn-append AreFetches (AsksInPart table way cause torn) (AsksInPart table way cause torn) a b c fetches stops
      (λ xs ys x y.
      let same : acts_of (xs ++ ys) ≡ acts_of ys = acts-append xs ys ∙ ap (λ (l : List Call). l ++ acts_of ys) (fetches-act xs x) in
      ⊎_elim (λ part. inl (part.0, subst (λ (l : List Call). SettlesWithin (byte_of way) (limit_of way) l) (sym same) part.1)) (λ s. inr (s.0, s.1, s.2, s.3, same ∙ s.4, s.5)) y)

-- On a line that follows the model.
pub goes_asked : {U : Type 0} {Done : U → Type 0} (laws : StepLaws) (flashes : List (List ℕ)) (l : Loaded) (old new : RigState) (steady : IsSteady flashes l old) (r : Result U Fault) → Asks old new r Done → Goes flashes [] l old new r Done
goes_asked laws flashes l old new steady (Ok x) asks = asks_go laws flashes l old new steady x x asks (λ d. d)
goes_asked laws flashes l old new steady (Err e) asks = asks_fail laws flashes l old new steady [] l e (Err e) asks refl

outside_of : (k : Cause) → IsUnheard k → IsOutside k
outside_of of_protocol is = is
outside_of of_session is = is
outside_of of_refusal is = is
outside_of k is = tt

-- the journal can't be read
pub finished_unread : (table : List ChipData) (law : LossStaysHarmless) (old new : RigState) (e : JournalFault) (result : Result Board Fault) → IsSafe old.device → Loads old new (Err e) → IsErrAnd result (λ x. x ≡ fault_of_journal e) → AsksFinished table old new result
finished_unread table law old new e (Ok x) safe loads is = absurd is
finished_unread table law old new e (Err x) safe loads is =
    let unless = load_failed {T = Board} unsent_refusal (λ line. refl) old new e (Err x) loads is in
    record {
      moments = weaker (IsUntouched old) (IsUnbegun old) old new unless.moments (untouched_is_unbegun law old safe);
      honest = unless.honest;
      left = untouched_is_unbegun law old safe new.device new.journal unless.left;
      settled = tt;
      told = tt;
      fails = ⊎_elim (λ unheard. inl (outside_of (cause_of x) unheard)) (λ refused. inr refused) unless.refused;
    }

-- or an unfinished one can't, or is refused
pub unfinished_unasked : {T : Type 0} (table : List ChipData) (laws : StepLaws) (flashes : List (List ℕ)) (old new : RigState) (e : Fault) (result : Result Board Fault) → Undoable flashes old.device old.journal
    → LoadsUnless {T = T} (asking_refusal (journal_of old.journal) table) old new (Err e) → IsErrAnd result (λ x. x ≡ e) → AsksUnfinished table flashes old new result
unfinished_unasked table laws flashes old new e (Ok x) u unless is = absurd is
unfinished_unasked table laws flashes old new e (Err x) u unless is =
    let F : Fault → Type 0 = λ y. IsOutsideFault y ⊎ (asking_refusal (journal_of old.journal) table ≡ Some y) in
    record {
      moments = weaker (IsUntouched old) (AmidUndo 0 flashes old) old new unless.moments (untouched_amid laws 0 flashes old u);
      honest = unless.honest;
      left = untouched_amid laws 0 flashes old u new.device new.journal unless.left;
      settled = tt;
      told = tt;
      fails = subst F (sym is) (⊎_elim (λ unheard. inl (outside_of (cause_of e) unheard)) (λ refused. inr refused) unless.refused);
    }

module _ (table : List ChipData) (l : Loaded) (old a b : RigState) (loads : Loads old a (Ok l)) where
  -- a finished journal was read, and the device settled and asked
  module _ (law : LossStaysHarmless) (safe : IsSafe old.device) where
    unread : (d : Device) (journal : List ℕ) → IsUntouched old d journal → IsUnbegun old d journal
    unread = untouched_is_unbegun law old safe

    read : IsUnbegun old a.device a.journal
    read = unread a.device a.journal (loads.journal, (0, loads.same_device))

    pub finished_asked : (r : Result Board Fault) → BeginsNothing a b r (IsBoardOf table a.device.chip) → AsksFinished table old b r
    finished_asked r begins =
        record {
          moments = joined (IsUntouched old) (IsUnbegun a) (IsUnbegun old) old a b loads.moments begins.moments unread (further old a read);
          honest = begins.honest;
          left = further old a read b.device b.journal begins.left;
          settled = begins.settled;
          told = told_then r (IsBoardOf table a.device.chip) (IsBoardOf table old.device.chip) (λ board is. subst (λ (d : Device). IsBoardOf table d.chip board) loads.same_device is) begins.done;
          fails = err_then r (λ fault. IsOutsideFault fault) (λ fault. IsOutsideFault fault ⊎ (unsent_refusal (journal_of old.journal) ≡ Some fault)) (λ e is. inl is) begins.fails;
        }

  -- and so with an unfinished one
  module _ (laws : StepLaws) (flashes : List (List ℕ)) (u : Undoable flashes old.device old.journal) where
    pub unfinished_asked : {l2 : Loaded} (model : IsModel b) (r : Result Board Fault) → Goes flashes [] l2 a b r (IsBoardOf table a.device.chip) → AsksUnfinished table flashes old b r
    unfinished_asked {l2 = l2} model r goes =
        let moments = joined (IsUntouched old) (Stands [] flashes a) (AmidUndo 0 flashes old) old a b loads.moments goes.moments (untouched_amid laws 0 flashes old u) (stands_amid l old a loads 0 flashes) in
        record {
          moments = moments;
          honest = goes.honest;
          left = at_exit (AmidUndo 0 flashes old) old b model moments;
          settled = steady_settled r goes.steady;
          told = told_then r (IsBoardOf table a.device.chip) (IsBoardOf table old.device.chip) (λ board is. subst (λ (d : Device). IsBoardOf table d.chip board) loads.same_device is) goes.done;
          fails = err_then r (λ fault. IsOutsideFault fault) (λ fault. IsOutsideFault fault ⊎ (asking_refusal (journal_of old.journal) table ≡ Some fault)) (λ e is. inl is) goes.fails;
        }
      where
        steady_settled : (r : Result Board Fault) → OnOk r (IsSteady flashes l2 b) → OnOk r (IsSettled b.device)
        steady_settled (Ok x) steady = steady.settled
        steady_settled (Err e) steady = tt
