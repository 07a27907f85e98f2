-- One deed: a line that is added, or a frame that is sent under an intent.
use Rattle.std.proofs.Common.{true, not, ◌≡◌, ◌⊎◌, ◌∙◌, ℕ, ◌+◌, ◌-◌, ◌<◌, ◌≤◌, List, [], ◌∷◌, length, take, drop, replicate, Some, Result, Ok, Err, IsTrue, inl, inr, ap, arith}
use Rattle.std.proofs.Common.{refl, subst, sym}
use Rattle.std.proofs.lemmas.Bool.{false≢true}
use Rattle.stm_wire.proofs.Names.{BreaksOff, CanErase, CanWrite, ChipData, Device, Does, erase_frame, erase_turns, erased_byte, erased_page, erases, fits_inside, flash_size, GoesOn, HasWritten}
use Rattle.stm_wire.proofs.Names.{InPage, IsErasedAt, IsFrameUnder, IsHeldToEnd, IsModel, IsSettled, page_count, page_limit, page_of, page_offset, page_size, RigState, Turn, with_bytes, with_page}
use Rattle.stm_wire.proofs.Names.{with_pages_erased, write_frame, write_turns, writes}
use Rattle.stm_journal.specs.declared.entry.Entry.TheVariants.{Keeps, Erases, Programs}
use Rattle.stm_journal.specs.lemmas.CallEntries.{allowed-keep_page, allowed-intend_erase, allowed-intend_program}
use Rattle.stm_journal.proofs.Names.{added_bytes, Appends, AppendsOnce, HasAdded, InText, is_ended_stage, is_open_stage, is_unfinished, IsLoaded, IsSound, LeavesLoaded, Loaded, loaded_after}
use Rattle.stm_journal.proofs.Names.{newest_has, newest_is_open, newest_keeps, newest_may_keep, SegmentData, StateData}
use Rattle.stm_journal.specs.declared.stage.Stage.{Stage}
use Rattle.stm_journal.specs.declared.stage.Stage.TheVariants.{Open, Ended, Returning}
use Rattle.stm_session.proofs.Names.{Adds, AllSuit, Are, Begin, Deed, DoesDeeds, Fault, fault_of, fault_of_journal, has_companion, IsSteady, IsUnder, MayDo, of_call, of_command, Performs, Sends}
use Rattle.stm_session.proofs.Names.{state_at, Step, StepLaws, Suits}
use Rattle.stm_session.proofs.Keeping.{keeps_keeping, may_keep_text, keeps_pages, good_at, keeps_text, unfinished_text}
use Rattle.std.specs.Borrow.{Bor}
use Rattle.std.specs.Prelude.{IfErr, OnOk}
use Rattle.std.proofs.lemmas.Bool.Decides.{nat_tests}
use Rattle.stm_wire.specs.declared.chip.EraseKind.{EraseKind}
use Rattle.stm_wire.specs.declared.chip.EraseKind.TheVariants.{Page, Extended}
use Rattle.stm_wire.specs.declared.fault.WireFault.{WireFault}
use Rattle.stm_wire.specs.declared.intent.Intent.{Intent}
use Rattle.stm_wire.specs.declared.intent.Intent.TheVariants.{Erase, Program}
use Rattle.stm_wire.specs.lemmas.FlashLaws.{writes_erased}
use Rattle.stm_wire.specs.lemmas.PageLaws.{page_within}
use Rattle.stm_chip.specs.declared.plan.Frame.{Frame}
use Rattle.stm_journal.specs.declared.entry.Entry.{Entry}
use Rattle.stm_journal.specs.declared.fault.JournalFault.{JournalFault}
use Rattle.stm_session.specs.declared.deed.Deed.TheVariants as deed
use Rattle.stm_session.proofs.Frames.{length-part}
use Rattle.stm_session.proofs.CutShort.{line_stops, sent_stops}
use Rattle.stm_session.proofs.Going.{IsStep, frame_fails, frame_goes, goes_ok, line_fails, line_goes}
use Rattle.stm_session.proofs.Orders.{does_add, order_sent}
use Rattle.stm_session.proofs.Settlings.{intent_text}

-- the deeds that are lines
abbrev pub IsLine : Deed → Type 0
IsLine (deed.Keep n held) = 0 < length held.now
IsLine (deed.IntendErase n) = Unit {0}
IsLine (deed.Erase n) = ⊥
IsLine (deed.IntendProgram n) = Unit {0}
IsLine (deed.Write n frame page) = ⊥

abbrev pub entry_of_deed : Deed → Entry
entry_of_deed (deed.Keep n held) = Keeps n held.now
entry_of_deed (deed.IntendErase n) = Erases n
entry_of_deed (deed.Erase n) = Erases n
entry_of_deed (deed.IntendProgram n) = Programs n
entry_of_deed (deed.Write n frame page) = Programs n

-- an open segment is unfinished
open_unfinished : (s : StateData) → IsTrue (newest_is_open s) → is_unfinished s ≡ true
open_unfinished s is_open = at s.stack is_open
  where
    stage : (x : Stage) → is_open_stage x ≡ true → not (is_ended_stage x) ≡ true
    stage (Open i) h = refl
    stage Ended h = absurd (false≢true h)
    stage (Returning i) h = refl

    at : (stack : List SegmentData) → newest_has (λ segment. is_open_stage segment.stage) stack ≡ true → newest_has (λ segment. not (is_ended_stage segment.stage)) stack ≡ true
    at [] h = h
    at (segment ∷ below) h = stage segment.stage h

-- a line that may come next
module _ (laws : StepLaws) (chip : ChipData) (few : page_count chip ≤ page_limit chip.kind)
    (flashes : List (List ℕ)) (l : Loaded) (a : RigState) (model : IsModel a)
    (steady : IsSteady flashes l a) (same : a.device.chip ≡ chip) where
  abbrev state : StateData
  state = state_at a.journal

  sound : IsSound state
  sound = laws.sound a.journal state (good_at l a.journal steady.loaded)

  small : (n : ℕ) → n < page_count chip → n ≤ 65535
  small n exists = at chip.kind few
    where
      at : (kind : EraseKind) → page_count chip ≤ page_limit kind → n ≤ 65535
      at Page few = omega (arith, few, exists)
      at Extended few = omega (arith, few, exists)

  kept_there : (n : ℕ) → IsTrue (newest_keeps n l.state) → IsTrue (newest_keeps n state)
  kept_there n kept = sym (keeps_text l a.journal n steady.loaded) ∙ kept

  line_step : (d : Deed) → MayDo chip d l.state → Suits chip a.device.flash d
      → IsLine d → IsStep (entry_of_deed d) flashes state a.device
  line_step (deed.Keep n held) may suits some =
      let there : IsTrue (newest_may_keep n state) =
      sym (may_keep_text l a.journal n steady.loaded) ∙ may.3 in
      let E : ChipData → Type 0 = λ c. n < page_count c in
      let S : ChipData → Type 0 = λ c. length held.now ≡ page_size c n in
      let R : ChipData → Type 0 = λ c. held.now ≡ page_of c a.device.flash n in
      let C : ChipData → Type 0 = λ c. IsTrue (has_companion c) in
      record {
        allowed = (allowed-keep_page n held.now state sound there).0;
        printable = (small n may.0, (some, may.2));
        keeps = λ s has.
            keeps_keeping laws.keeping flashes a.device state s n held.now model.device steady.keeps has
            (subst E (sym same) may.0) (subst R (sym same) suits) (subst S (sym same) may.1) there
            (λ one has_one. kept_there 257 (may.4 one (subst C same has_one)));
        unfinished = λ s has. open_unfinished s has.is_open;
      }
  line_step (deed.IntendErase n) may suits is = record {
    allowed = (allowed-intend_erase n state sound (kept_there n may.1)).0;
    printable = small n may.0;
    keeps = λ s has. keeps_pages flashes a.device state s has.same steady.keeps;
    unfinished = λ s has. has.unfinished;
  }
  line_step (deed.Erase n) may suits is = absurd is
  line_step (deed.IntendProgram n) may suits is = record {
    allowed = (allowed-intend_program n state sound (kept_there n may.1)).0;
    printable = small n may.0;
    keeps = λ s has. keeps_pages flashes a.device state s has.same steady.keeps;
    unfinished = λ s has. has.unfinished;
  }
  line_step (deed.Write n frame page) may suits is = absurd is

-- by its variant
pub as_deed : {chip : ChipData} {l l2 : Loaded} {a b : RigState} {x y : Deed}
    {r s : Result (Unit {0}) Fault} → x ≡ y → r ≡ s → MayDo chip x l.state
    → (MayDo chip y l.state → DoesDeeds chip (y ∷ []) l l2 a b s) → DoesDeeds chip (x ∷ []) l l2 a b r
as_deed {chip} {l} {l2} {a} {b} {x} {s = s} is answers may does =
    let D : Deed → Type 0 = λ d. DoesDeeds chip (d ∷ []) l l2 a b s in
    let M : Deed → Type 0 = λ d. MayDo chip d l.state in
    let R : Result (Unit {0}) Fault → Type 0 = λ r. DoesDeeds chip (x ∷ []) l l2 a b r in
    subst R (sym answers) (subst D (sym is) (does (subst M is may)))

-- a line
says : (laws : StepLaws) (e : Entry) {May : Type 0} {l l2 : Loaded} {a b : RigState}
    → (a.is_honest → IsModel a)
    → ((flashes : List (List ℕ)) → IsSteady flashes l a → May
    → IsStep e flashes (state_at a.journal) a.device)
    → (r : Result (Unit {0}) JournalFault)
    → GoesOn (AppendsOnce (added_bytes l.is_torn (e ∷ [])) r) a.calls b.calls
    → (a.is_honest → IsLoaded l a.journal → Appends (e ∷ []) l l2 a b r)
    → OnOk r (l2 ≡ loaded_after (e ∷ []) l) → IfErr r (LeavesLoaded l l2)
    → (a.is_honest → IsLoaded l a.journal → OnOk r (InText (HasAdded e) a.journal b.journal))
    → Performs (Are (Adds (e ∷ []) ∷ [])) (e ∷ []) May (λ y. b.device.flash ≡ a.device.flash) l l2
    a b (of_call r)
says laws e {l = l} {l2 = l2} {a = a} {b = b} model step (Ok x) calls call after left text =
    record {
      order = (
        Adds (e ∷ []) ∷ [],
        refl,
        does_add x (e ∷ []) l l2 a b calls (ap (λ (m : Loaded). m.is_torn) after),
      );
      stops = tt;
      honest = λ flashes steady may.
          let appends = call steady.honest steady.loaded in
          let has = text steady.honest steady.loaded (state_at a.journal) (state_at b.journal)
          (good_at l a.journal steady.loaded) (good_at l2 b.journal appends.loaded) in
          goes_ok flashes (e ∷ []) l2 a b (tt {0}) x
          (line_goes laws e flashes l l2 a b (model steady.honest) steady (step flashes steady may) x
          (tt {0}) appends after has) (λ same. ap (λ (d : Device). d.flash) same);
    }
says laws e {l = l} {l2 = l2} {a = a} {b = b} model step (Err fault) calls call after left text =
    let all : List Step = Adds (e ∷ []) ∷ [] in
    record {
      order = tt;
      stops = line_stops (Unit {0}) (Begin (Are all)) l.is_torn (e ∷ []) fault a b (all, refl)
          ([], refl) calls;
      honest = λ flashes steady may.
          line_fails laws e flashes l l2 a b (model steady.honest) steady (step flashes steady may) []
          l2 fault (Err (fault_of_journal fault)) (call steady.honest steady.loaded) left refl;
    }

pub line_does : (laws : StepLaws) (chip : ChipData) {l l2 : Loaded} {a b : RigState} {x d : Deed}
    {r : Result (Unit {0}) JournalFault} {made : Result (Unit {0}) Fault}
    → page_count chip ≤ page_limit chip.kind → (a.is_honest → IsModel a) → MayDo chip x l.state
    → x ≡ d → IsLine d → made ≡ of_call r
    → GoesOn (AppendsOnce (added_bytes l.is_torn (entry_of_deed d ∷ [])) r) a.calls b.calls
    → (a.is_honest → IsLoaded l a.journal → Appends (entry_of_deed d ∷ []) l l2 a b r)
    → OnOk r (l2 ≡ loaded_after (entry_of_deed d ∷ []) l) → IfErr r (LeavesLoaded l l2)
    → (a.is_honest → IsLoaded l a.journal
    → OnOk r (InText (HasAdded (entry_of_deed d)) a.journal b.journal))
    → DoesDeeds chip (x ∷ []) l l2 a b made
line_does laws chip {l} {l2} {a} {b} {d = d} {r = r} few model may is line answers calls call after left
    text =
    as_deed is answers may
    (λ may. by_deed d may line
    (says laws (entry_of_deed d) model
    (λ flashes steady fits.
    line_step laws chip few flashes l a (model steady.honest) steady fits.0 d may fits.1.0 line) r
    calls call after left text))
  where
    by_deed : (d : Deed) → MayDo chip d l.state → IsLine d
        → Performs (Are (Adds (entry_of_deed d ∷ []) ∷ [])) (entry_of_deed d ∷ [])
        ((a.device.chip ≡ chip) × AllSuit chip a.device.flash (d ∷ []))
        (λ y. b.device.flash ≡ a.device.flash) l l2 a b (of_call r)
        → DoesDeeds chip (d ∷ []) l l2 a b (of_call r)
    by_deed (deed.Keep n held) may line does = does
    by_deed (deed.IntendErase n) may line does = does
    by_deed (deed.Erase n) may line does = absurd line
    by_deed (deed.IntendProgram n) may line does = does
    by_deed (deed.Write n frame page) may line does = absurd line

under_text : (flashes : List (List ℕ)) (l : Loaded) (n : ℕ) (i : Intent) (a : RigState)
    → IsSteady flashes l a → IsUnder n i l.state → IsUnder n i (state_at a.journal)
under_text flashes l n i a steady under = record {
  kept = sym (keeps_text l a.journal n steady.loaded) ∙ under.kept;
  newest = sym (intent_text l a.journal steady.loaded) ∙ under.newest;
  unfinished = sym (unfinished_text l a.journal steady.loaded) ∙ under.unfinished;
}

-- a frame: of the device it makes this
sends : (laws : StepLaws) (n : ℕ) (i : Intent) (frame : List ℕ) {turns : List Turn} {May : Type 0}
    {l : Loaded} {a b : RigState} (after : List ℕ) → (a.is_honest → IsModel a)
    → (b.is_honest → IsModel b) → (i ≡ Erase n) ⊎ (i ≡ Program n) → IsUnder n i l.state
    → (r : Result (Unit {0}) WireFault) → OnOk r (IsHeldToEnd frame turns a b)
    → IfErr r (λ fault. BreaksOff fault frame turns a b)
    → (a.is_honest → IsSettled a.device → May → IsFrameUnder a.device.chip (Some i) frame
    × Does r (λ y. IsSettled b.device × (b.device.flash ≡ after)))
    → Performs (Are (Sends turns ∷ [])) [] May (λ y. b.device.flash ≡ after) l l a b (of_command r)
sends laws n i frame {turns} {l = l} {a = a} {b = b} after model later of under (Ok x) held broken can =
    record {
      order = (
        Sends turns ∷ [],
        refl,
        record { acts = order_sent l.is_torn turns a.calls b.calls held.recorded; torn = refl },
      );
      stops = tt;
      honest = λ flashes steady may.
          let own = can steady.honest steady.settled may in
          frame_goes laws flashes l n i frame a b (model steady.honest) steady
          (under_text flashes l n i a steady under) of own.0 x _ held later own.1.done.0 own.1.done.1;
    }
sends laws n i frame {turns} {l = l} {a = a} {b = b} after model later of under (Err e) held broken can =
    record {
      order = tt;
      stops = sent_stops (Begin (Are (Sends turns ∷ []))) l.is_torn e turns a b ([], refl)
          broken.recorded;
      honest = λ flashes steady may.
          let own = can steady.honest steady.settled may in
          frame_fails laws flashes l n i frame a b (model steady.honest) steady
          (under_text flashes l n i a steady under) of own.0 [] l (Err (fault_of e)) broken
          own.1.fails refl;
    }

gives : {P Q : Unit {0} → Type 0} (r : Result (Unit {0}) WireFault) → ((y : Unit {0}) → P y → Q y)
    → Does r P → Does r Q
gives (Ok y) more does = record { fails = tt; done = more y does.done }
gives (Err e) more does = record { fails = does.fails; done = tt }

module _ (laws : StepLaws) (chip : ChipData) (n : ℕ) {l : Loaded} {a b : RigState}
    (model : a.is_honest → IsModel a) (later : b.is_honest → IsModel b)
    (r : Result (Unit {0}) WireFault) where
  -- a page is erased
  pub erase_does : (kind : EraseKind) → kind ≡ chip.kind → MayDo chip (deed.Erase n) l.state
      → OnOk r (IsHeldToEnd (erase_frame kind n) (erase_turns kind n) a b)
      → IfErr r (λ fault. BreaksOff fault (erase_frame kind n) (erase_turns kind n) a b)
      → (a.is_honest → CanErase kind n a.device
      → Does r (λ y. b.device ≡ with_pages_erased (n ∷ []) a.device))
      → DoesDeeds chip (deed.Erase n ∷ []) l l a b (of_command r)
  erase_does kind kind_is may held broken can =
      let after = with_page chip n (erased_page chip n) a.device.flash in
      let P : EraseKind → Type 0 = λ k. Performs (Are (Sends (erase_turns k n) ∷ [])) []
      ((a.device.chip ≡ chip) × (Unit {0} × Unit {0})) (λ y. b.device.flash ≡ after) l l a b
      (of_command r) in
      subst P kind_is
      (sends laws n (Erase n) (erase_frame kind n) after model later (inl refl) may.1 r held broken
      (λ h settled fits.
      let same : kind ≡ a.device.chip.kind = kind_is ∙ sym (ap (λ (c : ChipData). c.kind) fits.0) in
      let C : ChipData → Type 0 = λ c. n < page_count c in
      let there : n < page_count a.device.chip = subst C (sym fits.0) may.0 in (
        erases n refl there (ap (λ (k : EraseKind). erase_frame k n) same),
        gives r
            (λ y erased. (
              let S : Device → Type 0 = λ d. IsSettled d in
                  subst S (sym erased) (record { phase = settled.phase; owed = settled.owed }),
              ap (λ (d : Device). d.flash) erased
                  ∙ ap (λ (c : ChipData). with_page c n (erased_page c n) a.device.flash) fits.0,
            ))
            (can h (record { settled = settled; same_kind = sym same; exists = there })),
      )))

  -- a frame is written
  pub write_does : (frame : Frame) (page : Bor (List ℕ)) (address : ℕ) (bytes : List ℕ)
      → address ≡ chip.base + page_offset chip n + frame.offset
      → bytes ≡ take frame.length (drop frame.offset page.now)
      → MayDo chip (deed.Write n frame page) l.state
      → OnOk r (IsHeldToEnd (write_frame address bytes) (write_turns address bytes) a b)
      → IfErr r (λ fault. BreaksOff fault (write_frame address bytes) (write_turns address bytes) a b)
      → (a.is_honest → CanWrite address (length bytes) a.device
      → Does r (λ y. HasWritten address bytes a.device b.device))
      → DoesDeeds chip (deed.Write n frame page ∷ []) l l a b (of_command r)
  write_does frame page address bytes at part may held broken can =
      let is = may.2 in
      let place = page_offset chip n + frame.offset in
      let after = with_bytes place (take frame.length (drop frame.offset page.now)) a.device.flash in
      let many : length bytes ≡ frame.length =
      ap (λ (xs : List ℕ). length xs) part
      ∙ length-part page.now frame (omega (arith, is.inside, is.limit)) in
      let inside : InPage chip n address (length bytes) = record {
        exists = may.0;
        begins = omega (arith, at);
        ends = omega (arith, at, many, may.1, is.inside, is.limit);
      } in
      let P : ℕ → List ℕ → Type 0 = λ k xs. Performs (Are (Sends (write_turns k xs) ∷ [])) []
      ((a.device.chip ≡ chip) × (IsErasedAt chip place frame.length a.device.flash × Unit {0}))
      (λ y. b.device.flash ≡ after) l l a b (of_command r) in
      let Q : ℕ → Type 0 = λ k. P k bytes in
      let R : List ℕ → Type 0 = λ xs. P (chip.base + page_offset chip n + frame.offset) xs in
      subst R part
      (subst Q at
      (sends laws n (Program n) (write_frame address bytes) after model later (inr refl) may.3 r held
      broken
      (λ h settled fits.
      let I : ChipData → Type 0 = λ c. InPage c n address (length bytes) in
      let F : ChipData → Type 0 = λ c. IsTrue (fits_inside c address (length bytes)) in
      let there = fits_at chip address (length bytes) (omega (arith, at))
      (omega (arith, inside.ends, page_within chip.sizes n)) in (
        writes n address bytes refl (omega (arith, many, is.some)) (omega (arith, many, is.limit))
            (subst I (sym fits.0) inside) refl,
        gives r
            (λ y has. (
              let S : Device → Type 0 = λ d. IsSettled d in
                  subst S (sym has.same) (record { phase = settled.phase; owed = settled.owed }),
              stored fits.0 many fits.1.0 has,
            ))
            (can h (record { settled = settled; inside = subst F (sym fits.0) there })),
      ))))
    where
      fits_at : (c : ChipData) (address size : ℕ) → c.base ≤ address
          → address + size ≤ c.base + flash_size c → IsTrue (fits_inside c address size)
      fits_at c address size low high = grind (arith, nat_tests)

      stored : a.device.chip ≡ chip → length bytes ≡ frame.length
          → IsErasedAt chip (page_offset chip n + frame.offset) frame.length a.device.flash
          → HasWritten address bytes a.device b.device
          → b.device.flash ≡ with_bytes (page_offset chip n + frame.offset)
          (take frame.length (drop frame.offset page.now)) a.device.flash
      stored chip_is many erased has =
          let place = page_offset chip n + frame.offset in
          let flash = a.device.flash in
          let base : a.device.chip.base ≡ chip.base = ap (λ (c : ChipData). c.base) chip_is in
          let from : address - a.device.chip.base ≡ place = omega (arith, at, base) in
          let here : IsErasedAt a.device.chip (address - a.device.chip.base) (length bytes) flash =
          ap (λ (k : ℕ). take (length bytes) (drop k flash)) from
          ∙ ap (λ (z : ℕ). take z (drop place flash)) many ∙ erased
          ∙ ap (λ (z : ℕ). replicate z (erased_byte chip)) (sym many)
          ∙ ap (λ (c : ChipData). replicate (length bytes) (erased_byte c)) (sym chip_is) in
          writes_erased a.device.chip address bytes flash b.device.flash here has.written
          ∙ ap (λ (k : ℕ). with_bytes k bytes flash) from
          ∙ ap (λ (xs : List ℕ). with_bytes place xs flash) part
