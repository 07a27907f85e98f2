-- The segment of a command ends, behind a question.
use Rattle.std.proofs.Common.{◌≡◌, ◌⊎◌, inl, inr, ℕ, Bool, List, [], ◌∷◌, ◌++◌, length, take, Result, Ok, Err, IsErrAnd, OnOk, refl, sym, ap, ◌∙◌, subst, IsTrue}
use Rattle.stm_wire.proofs.Names.{Device, IsModel, IsSettled, LeavesOnly, LeftByAppend, RigState}
use Rattle.stm_wire.specs.lemmas.MomentLaws.{joined, weaker}
use Rattle.stm_journal.specs.declared.entry.Entry.{Entry}
use Rattle.stm_journal.specs.declared.entry.Entry.TheVariants.{Ends}
use Rattle.stm_journal.specs.declared.fault.JournalFault.{JournalFault}
use Rattle.stm_journal.proofs.Names.{added_bytes, Appends, good, HasAdded, HasEnded, IsSound, journal_of, LeavesLoaded, Loaded, loaded_after, newest_is_open, StateData}
use Rattle.stm_journal.specs.lemmas.CallEntries.{allowed-end}
use Rattle.stm_journal.specs.lemmas.ForgetLaws.{newest_is_open-forgets}
use Rattle.stm_session.proofs.Names.{AddsLines, Asks, Closes, depth_at, Fault, fault_of_journal, is_torn_at, IsClosing, IsOutsideFault, IsSteady, IsStill, KeepsFlashes, state_at, StepLaws, text_added}
use Rattle.stm_session.proofs.Keeping.{depth_text, good_at, keeps_pages, text_is}
use Rattle.stm_session.proofs.Standing.{journal_outside, loses_nothing, makes_then, same_make, settled_undoable, still_stands}

-- the question wasn't answered, or told another board; or it was answered, and behind it comes the end
module _ (laws : StepLaws) (flashes : List (List ℕ)) (l : Loaded) (old mid : RigState) (steady : IsSteady flashes l old) where
  asking_moment : (entries : List Entry) (d : Device) (journal : List ℕ) → IsStill old d journal → IsClosing entries flashes old d journal
  asking_moment entries d journal still =
      let stands = still_stands laws entries flashes l old steady d journal still in
      record { undoable = stands.undoable; make = stands.make; flash = still.flash; written = stands.written; lines = stands.lines }

  pub unasked : {T U : Type 0} {Done : T → Type 0} (entries : List Entry) (l2 : Loaded) (e : Fault) (result : Result U Fault) → Asks {T = T} old mid (Err e) Done → IsErrAnd result (λ y. y ≡ e) → Closes flashes entries l2 old mid result
  unasked entries l2 e (Ok y) asks is = absurd is
  unasked entries l2 e (Err y) asks is =
      record { moments = weaker (IsStill old) (IsClosing entries flashes old) old mid asks.moments (asking_moment entries); fails = subst IsOutsideFault (sym is) asks.fails; honest = asks.honest; steady = tt; lines = tt; same_device = tt }

  pub behind_asking : {T U : Type 0} {Done : T → Type 0} (x : T) (l2 : Loaded) (new : RigState) (result : Result U Fault) → Asks old mid (Ok x) Done → Closes flashes (Ends (depth_at mid.journal) ∷ []) l2 mid new result
      → Closes flashes (Ends (depth_at old.journal) ∷ []) l2 old new result
  behind_asking {T} {U} x l2 new result asks closes =
      let same = asks.left.journal_same in
      let C : List ℕ → Type 0 = λ j. Closes {T = U} flashes (Ends (depth_at j) ∷ []) l2 mid new result in
      let own : List Entry = Ends (depth_at old.journal) ∷ [] in
      let then = subst C same closes in
      let A : List ℕ → Type 0 = λ j. OnOk result (AddsLines own j new.journal) in
      let D : Device → Type 0 = λ d. OnOk result (new.device ≡ d) in
      let later : (d : Device) (journal : List ℕ) → IsClosing own flashes mid d journal → IsClosing own flashes old d journal = λ d journal s. record {
        undoable = s.undoable;
        make = makes_then old.device mid.device d asks.left.make s.make;
        flash = s.flash ∙ asks.left.flash;
        written = s.written;
        lines = s.lines ∙ ap (λ (j : List ℕ). j ++ take s.written (text_added (is_torn_at j) own)) same;
      } in
      record {
        moments = joined (IsStill old) (IsClosing own flashes mid) (IsClosing own flashes old) old mid new asks.moments then.moments (asking_moment own) later;
        fails = then.fails;
        honest = then.honest;
        steady = then.steady;
        lines = subst A same then.lines;
        same_device = subst D asks.same then.same_device;
      }

module _ (laws : StepLaws) (flashes : List (List ℕ)) (l : Loaded) (old : RigState) (model : IsModel old) (steady : IsSteady flashes l old) (is_open : IsTrue (newest_is_open l.state)) where
  abbrev Line : Entry
  Line = Ends (depth_at old.journal)

  sound : IsSound (state_at old.journal)
  sound = laws.sound old.journal (state_at old.journal) (good_at l old.journal steady.loaded)

  open_there : IsTrue (newest_is_open (state_at old.journal))
  open_there =
      sym (ap (λ (s : StateData). newest_is_open s) steady.loaded.state ∙ newest_is_open-forgets steady.loaded.text ∙ ap (λ (s : StateData). newest_is_open s) (text_is l old.journal steady.loaded)) ∙ is_open

  bytes_are : added_bytes l.is_torn (Ends (length l.state.stack) ∷ []) ≡ text_added (is_torn_at old.journal) (Ends (depth_at old.journal) ∷ [])
  bytes_are =
      ap (λ (k : ℕ). added_bytes l.is_torn (Ends k ∷ [])) (depth_text l old.journal steady.loaded) ∙ ap (λ (t : Bool). added_bytes t (Ends (depth_at old.journal) ∷ [])) steady.loaded.is_torn

  keeps_after : (s : StateData) → (s ≡ state_at old.journal) ⊎ HasAdded (Ends (depth_at old.journal)) (state_at old.journal) s → KeepsFlashes flashes old.device s
  keeps_after s (inl same) = let K : StateData → Type 0 = λ t. KeepsFlashes flashes old.device t in subst K (sym same) steady.keeps
  keeps_after s (inr has) = keeps_pages flashes old.device (state_at old.journal) s has.same steady.keeps

  end_moment : (d : Device) (journal : List ℕ) → LeftByAppend (added_bytes l.is_torn (Ends (length l.state.stack) ∷ [])) old d journal → IsClosing (Ends (depth_at old.journal) ∷ []) flashes old d journal
  end_moment d journal left =
      let n = left.0.0 in
      let got = laws.entry l old.journal (state_at old.journal) (Ends (depth_at old.journal)) n steady.loaded (good_at l old.journal steady.loaded) (allowed-end (state_at old.journal) sound open_there).0 sound.depth in
      let torn : added_bytes l.is_torn (Ends (depth_at old.journal) ∷ []) ≡ text_added (is_torn_at old.journal) (Ends (depth_at old.journal) ∷ []) =
      ap (λ (t : Bool). added_bytes t (Ends (depth_at old.journal) ∷ [])) steady.loaded.is_torn in
      let line : journal ≡ old.journal ++ take n (text_added (is_torn_at old.journal) (Ends (depth_at old.journal) ∷ [])) = left.0.1 ∙ ap (λ (bytes : List ℕ). old.journal ++ take n bytes) bytes_are in
      let J : List ℕ → Type 0 = λ j. journal_of j ≡ good got.0 in
      let at : journal_of journal ≡ good got.0 = subst J (ap (λ (bytes : List ℕ). old.journal ++ take n bytes) torn ∙ sym line) got.1 in
      let C : Device → Type 0 = λ x. IsClosing (Ends (depth_at old.journal) ∷ []) flashes old x journal in
      subst C (sym (loses_nothing old.device d steady.settled left.1))
      (record {
        undoable = settled_undoable laws flashes old.device journal got.0 model.device steady.settled at (keeps_after got.0 got.2);
        make = same_make old.device;
        flash = refl;
        written = n;
        lines = line;
      })

  end_moments : {T : Type 0} (l2 : Loaded) (new : RigState) (result : Result T JournalFault) → Appends (Ends (length l.state.stack) ∷ []) l l2 old new result → LeavesOnly (IsClosing (Ends (depth_at old.journal) ∷ []) flashes old) old new
  end_moments l2 new result appends =
      weaker (LeftByAppend (added_bytes l.is_torn (Ends (length l.state.stack) ∷ [])) old) (IsClosing (Ends (depth_at old.journal) ∷ []) flashes old) old new appends.bytes.moments end_moment

  pub unended : {T U : Type 0} (l2 l3 : Loaded) (new : RigState) (fault : JournalFault) (result : Result U Fault) → Appends {T = T} (Ends (length l.state.stack) ∷ []) l l2 old new (Err fault) → LeavesLoaded l l2 fault
      → IsErrAnd result (λ y. y ≡ fault_of_journal fault) → Closes flashes (Ends (depth_at old.journal) ∷ []) l3 old new result
  unended l2 l3 new fault (Ok y) appends left is = absurd is
  unended l2 l3 new fault (Err y) appends left is =
      record { moments = end_moments l2 new (Err fault) appends; fails = subst IsOutsideFault (sym is) (journal_outside l l2 fault left); honest = appends.bytes.honest; steady = tt; lines = tt; same_device = tt }

  pub ended : {T U : Type 0} (l2 : Loaded) (new : RigState) (x : T) (y : U) → Appends (Ends (length l.state.stack) ∷ []) l l2 old new (Ok x) → l2 ≡ loaded_after (Ends (length l.state.stack) ∷ []) l
      → HasEnded (state_at old.journal) (state_at new.journal) → Closes flashes (Ends (depth_at old.journal) ∷ []) l2 old new (Ok y)
  ended l2 new x y appends after has =
      let D : Device → Type 0 = λ d. KeepsFlashes flashes d (state_at new.journal) in
      let S : Device → Type 0 = λ d. IsSettled d in
      record {
        moments = end_moments l2 new (Ok x) appends;
        fails = tt;
        honest = appends.bytes.honest;
        steady = record {
          honest = appends.bytes.honest;
          loaded = appends.loaded;
          settled = subst S (sym appends.bytes.same_device) steady.settled;
          keeps = subst D (sym appends.bytes.same_device) (keeps_pages flashes old.device (state_at old.journal) (state_at new.journal) has.same steady.keeps);
        };
        lines = record {
          added = appends.bytes.added ∙ ap (λ (bytes : List ℕ). old.journal ++ bytes) bytes_are;
          torn = sym appends.loaded.is_torn ∙ ap (λ (m : Loaded). m.is_torn) after;
          same = λ intents. absurd intents;
        };
        same_device = appends.bytes.same_device;
      }
