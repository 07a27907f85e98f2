-- The segment of a command begins.
use Rattle.std.proofs.Common.{◌≡◌, inl, inr, ⊎_elim, ℕ, ◌+◌, ◌<◌, ◌≤◌, Bool, true, false, not, ◌==◌, if◌then◌else◌, List, ◌∷◌, ◌++◌, length, take, Option, Some, None, Result, Ok, Err, IsErrAnd, refl, sym, ap, ◌∙◌, subst, arith}
use Rattle.std.specs.Prelude.{is_some}
use Rattle.std.proofs.lemmas.Bool.{false≢true, true≢false}
use Rattle.stm_wire.proofs.Names.{ChipData, Device, IsModel, IsSettled, IsUniqueId, LeavesOnly, LeftByAppend, RigState}
use Rattle.stm_wire.specs.lemmas.MomentLaws.{weaker}
use Rattle.stm_journal.specs.declared.entry.Entry.{Entry}
use Rattle.stm_journal.specs.declared.fault.JournalFault.{JournalFault}
use Rattle.stm_journal.specs.declared.fault.JournalFault.TheVariants.{Bad, OtherDevice, OtherBoard}
use Rattle.stm_journal.specs.declared.header.JournalHeader.{JournalHeader}
use Rattle.stm_journal.proofs.Names.{added_bytes, AllFit, Appends, begin_entries, BeginningsAreGood, EntriesLead, flashes_before_segments, fresh_segment, good, HasBegun, is_ended_stage, is_unfinished}
use Rattle.stm_journal.proofs.Names.{journal_of, LeavesUnbegun, Loaded, loaded_after, names_other, names_other_board, newest_has, SegmentData, StateData, version_for}
use Rattle.stm_journal.specs.lemmas.CallEntries.{allowed-begin, board-begin, printable-begin, stack-begin, names-begin}
use Rattle.stm_journal.specs.lemmas.ForgetLaws.{begin_entries-forgets, names_other-forgets}
use Rattle.stm_session.proofs.Names.{AllKeepCompanions, AmidCommand, AreIntents, Changes, depth_at, Fault, fault_of_journal, good_state, HasVersion, is_named_at, is_torn_at, IsOutsideFault, IsSteady}
use Rattle.stm_session.proofs.Names.{KeepsFlashes, opening_entries, state_at, StepLaws, text_added, torn_after}
use Rattle.stm_session.proofs.Keeping.{depth_text, good_at, text_is, unfinished_is, unfinished_text}
use Rattle.stm_session.proofs.Standing.{loses_nothing, same_make, settled_undoable}
use Rattle.stm_session.proofs.Texts.{whole_part}

-- what begins a segment, spelled as the lines of a session
text_begins_at : (id : ℕ) (unique : List ℕ) (t : Bool) (header : Option JournalHeader) (stack : List SegmentData)
    → added_bytes t (begin_entries id unique (record { header = header; stack = stack })) ≡ text_added t (opening_entries (is_some header) id unique (length stack + 1))
text_begins_at id unique t None stack = refl
text_begins_at id unique t (Some h) stack = refl

text_begins : (id : ℕ) (unique : List ℕ) (t : Bool) (s : StateData) → added_bytes t (begin_entries id unique s) ≡ text_added t (opening_entries (is_some s.header) id unique (length s.stack + 1))
text_begins id unique t s = text_begins_at id unique t s.header s.stack

torn_begins : (id : ℕ) (unique : List ℕ) (k : ℕ) (named t : Bool) → torn_after t (opening_entries named id unique k) ≡ false
torn_begins id unique k true t = refl
torn_begins id unique k false t = refl

opens_no_intent : (id : ℕ) (unique : List ℕ) (k : ℕ) (named : Bool) → AreIntents (opening_entries named id unique k) → ⊥
opens_no_intent id unique k true intents = intents
opens_no_intent id unique k false intents = intents

-- a header that begins a journal has version 2 or 3
new_version : (unique : List ℕ) → 2 ≤ version_for unique
new_version unique = by_test (length unique == 0)
  where
    by_test : (none : Bool) → 2 ≤ (if none then 2 else 3)
    by_test true = omega arith
    by_test false = omega arith

versioned_at : (chip : ChipData) (id : ℕ) (unique : List ℕ) (header : Option JournalHeader) (stack : List SegmentData) (s2 : StateData) → HasVersion chip header
    → EntriesLead (begin_entries id unique (record { header = header; stack = stack })) (record { header = header; stack = stack }) s2 → HasVersion chip s2.header
versioned_at chip id unique None stack s2 version leads =
    let H : StateData → Type 0 = λ s. HasVersion chip s.header in
    ⊎_elim
    (λ none. subst H (sym none) tt)
    (λ named. ⊎_elim (λ none. subst H (sym none) (λ many. new_version unique)) (λ begun. subst H (sym begun.2) (λ many. new_version unique)) named.2)
    leads
versioned_at chip id unique (Some h) stack s2 version leads =
    let H : StateData → Type 0 = λ s. HasVersion chip s.header in
    ⊎_elim (λ none. subst H (sym none) version) (λ begun. subst H (sym begun.2) version) leads

versioned : (chip : ChipData) (id : ℕ) (unique : List ℕ) (s s2 : StateData) → HasVersion chip s.header → EntriesLead (begin_entries id unique s) s s2 → HasVersion chip s2.header
versioned chip id unique s s2 version leads = versioned_at chip id unique s.header s.stack s2 version leads

-- a state with these segments
keeps_with : (flashes : List (List ℕ)) (d : Device) (s : StateData) (stack : List SegmentData) → s.stack ≡ stack → names_other d.chip.id s ≡ false → names_other_board d.chip.unique s ≡ false → HasVersion d.chip s.header → AllFit d.chip stack
    → AllKeepCompanions d.chip stack → flashes_before_segments d.chip stack d.flash ≡ flashes → KeepsFlashes flashes d s
keeps_with flashes d s stack is own board version fits companions before =
    let F : List SegmentData → Type 0 = λ xs. AllFit d.chip xs in
    let C : List SegmentData → Type 0 = λ xs. AllKeepCompanions d.chip xs in
    record {
      own = own;
      fits = record { board = board; version = version; pages = subst F (sym is) fits; companions = subst C (sym is) companions };
      before = ap (λ (xs : List SegmentData). flashes_before_segments d.chip xs d.flash) is ∙ before;
    }

-- one segment more, which keeps nothing yet
keeps_opened : (flashes : List (List ℕ)) (d : Device) (s s2 : StateData) → KeepsFlashes flashes d s → s2.stack ≡ fresh_segment ∷ s.stack → names_other d.chip.id s2 ≡ false → names_other_board d.chip.unique s2 ≡ false → HasVersion d.chip s2.header
    → KeepsFlashes (d.flash ∷ flashes) d s2
keeps_opened flashes d s s2 keeps is own board version =
    keeps_with (d.flash ∷ flashes) d s2 (fresh_segment ∷ s.stack) is own board version (tt, keeps.fits.pages) ((λ has one. absurd (false≢true one)), keeps.fits.companions)
    (ap (λ (fs : List (List ℕ)). d.flash ∷ fs) keeps.before)

unfinished_opened : (s : StateData) (stack : List SegmentData) → s.stack ≡ fresh_segment ∷ stack → is_unfinished s ≡ true
unfinished_opened s stack is = ap (λ (xs : List SegmentData). newest_has (λ segment. not (is_ended_stage segment.stage)) xs) is

unfinished_same : (s s2 : StateData) → s2.stack ≡ s.stack → is_unfinished s2 ≡ is_unfinished s
unfinished_same s s2 is = ap (λ (xs : List SegmentData). newest_has (λ segment. not (is_ended_stage segment.stage)) xs) is

-- the device is that of an honest Rig whose journal is finished
module _ (laws : StepLaws) (stopped_is_good : BeginningsAreGood) (flashes : List (List ℕ)) (after : List ℕ) (l : Loaded) (old : RigState) (id : ℕ) (unique : List ℕ) (model : IsModel old) (steady : IsSteady flashes l old)
    (own : id ≡ old.device.chip.id) (board : unique ≡ old.device.chip.unique) (small : id ≤ 65535) (room : length l.state.stack < 65535) (finished : is_unfinished l.state ≡ false) where
  abbrev Lines : List Entry
  Lines = opening_entries (is_named_at old.journal) id unique (depth_at old.journal + 1)

  mine : names_other id (state_at old.journal) ≡ false
  mine = ap (λ (i : ℕ). names_other i (state_at old.journal)) own ∙ steady.keeps.own

  mine_board : names_other_board unique (state_at old.journal) ≡ false
  mine_board = ap (λ (u : List ℕ). names_other_board u (state_at old.journal)) board ∙ steady.keeps.fits.board

  is_unique : IsUniqueId unique
  is_unique = subst IsUniqueId (sym board) model.device.chip.unique

  -- the bytes of the append
  bytes_are : added_bytes l.is_torn (begin_entries id unique l.state) ≡ text_added (is_torn_at old.journal) Lines
  bytes_are =
      ap (λ (s : StateData). added_bytes l.is_torn (begin_entries id unique s)) steady.loaded.state
      ∙ ap (λ (es : List Entry). added_bytes l.is_torn es) (begin_entries-forgets id unique steady.loaded.text)
      ∙ ap (λ (s : StateData). added_bytes l.is_torn (begin_entries id unique s)) (text_is l old.journal steady.loaded)
      ∙ ap (λ (t : Bool). added_bytes t (begin_entries id unique (state_at old.journal))) steady.loaded.is_torn
      ∙ text_begins id unique (is_torn_at old.journal) (state_at old.journal)

  -- what a beginning of them leaves
  reached : (n : ℕ) → (s2 : StateData) × (journal_of (old.journal ++ take n (text_added (is_torn_at old.journal) Lines)) ≡ good s2) × EntriesLead (begin_entries id unique (state_at old.journal)) (state_at old.journal) s2
  reached n =
      let fewer : length (state_at old.journal).stack < 65535 = let e = depth_text l old.journal steady.loaded in omega (arith, e, room) in
      let got = stopped_is_good l old.journal (state_at old.journal) (begin_entries id unique (state_at old.journal)) n steady.loaded (good_at l old.journal steady.loaded)
      (allowed-begin id unique (state_at old.journal) (sym (unfinished_text l old.journal steady.loaded) ∙ finished)) (printable-begin id unique (state_at old.journal) small is_unique fewer) in
      let same : added_bytes l.is_torn (begin_entries id unique (state_at old.journal)) ≡ text_added (is_torn_at old.journal) Lines =
      ap (λ (t : Bool). added_bytes t (begin_entries id unique (state_at old.journal))) steady.loaded.is_torn ∙ text_begins id unique (is_torn_at old.journal) (state_at old.journal) in
      let J : List ℕ → Type 0 = λ bytes. journal_of (old.journal ++ take n bytes) ≡ good got.0 in
      (got.0, subst J same got.1, got.2)

  owned : (s : StateData) → EntriesLead (begin_entries id unique (state_at old.journal)) (state_at old.journal) s → names_other old.device.chip.id s ≡ false
  owned s leads = ap (λ (i : ℕ). names_other i s) (sym own) ∙ names-begin id unique (state_at old.journal) s mine leads

  boarded : (s : StateData) → EntriesLead (begin_entries id unique (state_at old.journal)) (state_at old.journal) s → names_other_board old.device.chip.unique s ≡ false
  boarded s leads = ap (λ (u : List ℕ). names_other_board u s) (sym board) ∙ board-begin id unique (state_at old.journal) s mine_board leads

  aged : (s : StateData) → EntriesLead (begin_entries id unique (state_at old.journal)) (state_at old.journal) s → HasVersion old.device.chip s.header
  aged s leads = versioned old.device.chip id unique (state_at old.journal) s steady.keeps.fits.version leads

  begin_moment : (d : Device) (journal : List ℕ) → LeftByAppend (added_bytes l.is_torn (begin_entries id unique l.state)) old d journal → AmidCommand Lines flashes after old d journal
  begin_moment d journal left =
      let got = reached left.0.0 in
      let line : journal ≡ old.journal ++ take left.0.0 (text_added (is_torn_at old.journal) Lines) = left.0.1 ∙ ap (λ (bytes : List ℕ). old.journal ++ take left.0.0 bytes) bytes_are in
      let J : List ℕ → Type 0 = λ j. journal_of j ≡ good got.0 in
      let at : journal_of journal ≡ good got.0 = subst J (sym line) got.1 in
      let A : Device → Type 0 = λ x. AmidCommand Lines flashes after old x journal in
      subst A (sym (loses_nothing old.device d steady.settled left.1))
      (⊎_elim (before got.0 line at got.2) (opened got.0 line at got.2) (stack-begin id unique (state_at old.journal) got.0 got.2))
    where
      before : (s : StateData) → journal ≡ old.journal ++ take left.0.0 (text_added (is_torn_at old.journal) Lines) → journal_of journal ≡ good s
          → EntriesLead (begin_entries id unique (state_at old.journal)) (state_at old.journal) s → s.stack ≡ (state_at old.journal).stack → AmidCommand Lines flashes after old old.device journal
      before s line at leads same =
          inl (record {
            undoable = settled_undoable laws flashes old.device journal s model.device steady.settled at
                (keeps_with flashes old.device s (state_at old.journal).stack same (owned s leads) (boarded s leads) (aged s leads) steady.keeps.fits.pages steady.keeps.fits.companions steady.keeps.before);
            make = same_make old.device;
            finished = λ f. (sym (unfinished_same (state_at old.journal) s same) ∙ sym (unfinished_is journal s at) ∙ f, refl);
            written = left.0.0;
            lines = line;
          })

      opened : (s : StateData) → journal ≡ old.journal ++ take left.0.0 (text_added (is_torn_at old.journal) Lines) → journal_of journal ≡ good s
          → EntriesLead (begin_entries id unique (state_at old.journal)) (state_at old.journal) s → s.stack ≡ fresh_segment ∷ (state_at old.journal).stack → AmidCommand Lines flashes after old old.device journal
      opened s line at leads begun =
          inr (record {
            undoable = settled_undoable laws (old.device.flash ∷ flashes) old.device journal s model.device steady.settled at (keeps_opened flashes old.device (state_at old.journal) s steady.keeps begun (owned s leads) (boarded s leads) (aged s leads));
            make = same_make old.device;
            finished = λ f. absurd (true≢false (sym (unfinished_opened s (state_at old.journal).stack begun) ∙ sym (unfinished_is journal s at) ∙ f));
            written = left.0.0;
            lines = line;
          })

  begin_moments : {T : Type 0} (l2 : Loaded) (new : RigState) (result : Result T JournalFault) → Appends (begin_entries id unique l.state) l l2 old new result → LeavesOnly (AmidCommand Lines flashes after old) old new
  begin_moments l2 new result appends =
      weaker (LeftByAppend (added_bytes l.is_torn (begin_entries id unique l.state)) old) (AmidCommand Lines flashes after old) old new appends.bytes.moments begin_moment

  -- the segment doesn't begin
  pub unbegun : {T U : Type 0} {Done : U → Type 0} (l2 l3 : Loaded) (new : RigState) (fault : JournalFault) (result : Result U Fault) → Appends {T = T} (begin_entries id unique l.state) l l2 old new (Err fault)
      → LeavesUnbegun id unique l l2 fault → IsErrAnd result (λ y. y ≡ fault_of_journal fault) → Changes flashes (opening_entries (is_named_at old.journal) id unique (depth_at old.journal + 1)) after l3 old new result Done
  unbegun l2 l3 new fault (Ok y) appends left is = absurd is
  unbegun l2 l3 new fault (Err y) appends left is =
      record { moments = begin_moments l2 new (Err fault) appends; fails = subst IsOutsideFault (sym is) (outside fault left); honest = appends.bytes.honest; steady = tt; lines = tt; done = tt }
    where
      mine_here : names_other id l.state ≡ false
      mine_here = ap (λ (s : StateData). names_other id s) steady.loaded.state ∙ names_other-forgets id steady.loaded.text ∙ ap (λ (s : StateData). names_other id s) (text_is l old.journal steady.loaded) ∙ mine

      board_here : names_other_board unique l.state ≡ false
      board_here = ap (λ (s : StateData). names_other_board unique s) steady.loaded.state ∙ ap (λ (s : StateData). names_other_board unique s) (text_is l old.journal steady.loaded) ∙ mine_board

      outside : (e : JournalFault) → LeavesUnbegun id unique l l2 e → IsOutsideFault (fault_of_journal e)
      outside (Bad line) left = absurd left
      outside OtherDevice left = absurd (true≢false (sym left.0 ∙ mine_here))
      outside OtherBoard left = absurd (true≢false (sym left.1.0 ∙ board_here))
      outside e left = tt

  -- it has begun
  pub begins : {T U : Type 0} (l2 : Loaded) (new : RigState) (k : T) (y : U) → Appends (begin_entries id unique l.state) l l2 old new (Ok k) → l2.is_torn ≡ false → HasBegun id unique (state_at old.journal) (state_at new.journal)
      → Changes flashes (opening_entries (is_named_at old.journal) id unique (depth_at old.journal + 1)) after l2 old new (Ok y) (λ z. new.device ≡ old.device)
  begins l2 new k y appends untorn begun =
      let all : List ℕ = text_added (is_torn_at old.journal) Lines in
      let added : new.journal ≡ old.journal ++ all = appends.bytes.added ∙ ap (λ (bytes : List ℕ). old.journal ++ bytes) bytes_are in
      let got = reached (length all) in
      let J : List ℕ → Type 0 = λ j. journal_of j ≡ good got.0 in
      let at : journal_of new.journal ≡ good got.0 = subst J (sym (added ∙ ap (λ (bytes : List ℕ). old.journal ++ bytes) (whole_part all))) got.1 in
      let is : state_at new.journal ≡ got.0 = ap good_state at in
      let N : StateData → Type 0 = λ s. names_other old.device.chip.id s ≡ false in
      let B : StateData → Type 0 = λ s. names_other_board old.device.chip.unique s ≡ false in
      let H : StateData → Type 0 = λ s. HasVersion old.device.chip s.header in
      let D : Device → Type 0 = λ d. KeepsFlashes (old.device.flash ∷ flashes) d (state_at new.journal) in
      let S : Device → Type 0 = λ d. IsSettled d in
      record {
        moments = begin_moments l2 new (Ok k) appends;
        fails = tt;
        honest = appends.bytes.honest;
        steady = record {
          honest = appends.bytes.honest;
          loaded = appends.loaded;
          settled = subst S (sym appends.bytes.same_device) steady.settled;
          keeps = subst D (sym appends.bytes.same_device)
              (keeps_opened flashes old.device (state_at old.journal) (state_at new.journal) steady.keeps begun.stack (subst N (sym is) (owned got.0 got.2)) (subst B (sym is) (boarded got.0 got.2)) (subst H (sym is) (aged got.0 got.2)));
        };
        lines = record {
          added = added;
          torn = sym appends.loaded.is_torn ∙ untorn ∙ sym (torn_begins id unique (depth_at old.journal + 1) (is_named_at old.journal) (is_torn_at old.journal));
          same = λ intents. absurd (opens_no_intent id unique (depth_at old.journal + 1) (is_named_at old.journal) intents);
        };
        done = appends.bytes.same_device;
      }

-- after a line no torn tail stands
pub untorn_begin_at : (id : ℕ) (unique : List ℕ) (header : Option JournalHeader) (stack : List SegmentData) (l : Loaded) → (loaded_after (begin_entries id unique (record { header = header; stack = stack })) l).is_torn ≡ false
untorn_begin_at id unique None stack l = refl
untorn_begin_at id unique (Some h) stack l = refl

pub untorn_begin : (id : ℕ) (unique : List ℕ) (l l2 : Loaded) → l2 ≡ loaded_after (begin_entries id unique l.state) l → l2.is_torn ≡ false
untorn_begin id unique l l2 after = ap (λ (m : Loaded). m.is_torn) after ∙ untorn_begin_at id unique l.state.header l.state.stack l
