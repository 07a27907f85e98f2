-- How a session begins.
use Rattle.std.proofs.Common.{◌≡◌, ◌≢◌, ℕ, zero, suc, ◌⊎◌, ⊎_elim, inl, inr, true, false, not, nat_lt, List, [], ◌∷◌, length, Option, Some, None, Result, Ok, Err, IsErrAnd, IfErr, refl, sym, ◌∙◌, ap, subst, arith}
use Rattle.std.proofs.lemmas.Bool.{cases_eq, eq-eqb, ne_eqb}
use Rattle.std.proofs.lemmas.Bool.Decides.{nat_tests}
use Rattle.std.proofs.lemmas.List.{length-drop}
use Rattle.std.specs.Prelude.{Contains}
use Rattle.stm_wire.proofs.Names.{ChipData, Device, LeavesOnly, LosesOwed, LossStaysHarmless, RigState}
use Rattle.stm_wire.specs.lemmas.MomentLaws.{joined, weaker}
use Rattle.stm_journal.proofs.Names.{bad, forget_state, good, is_unfinished, IsFaultOf, IsLoaded, IsUntouched, journal_of, JournalData, KeepsDevice, Loaded, Loads, names_other, StateData}
use Rattle.stm_journal.specs.lemmas.ForgetLaws.{is_unfinished-forgets}
use Rattle.stm_session.proofs.Forgetting.{device-forgets}
use Rattle.stm_journal.specs.declared.fault.JournalFault.{JournalFault}
use Rattle.stm_journal.specs.declared.fault.JournalFault.TheVariants.{File, Bad, OtherDevice as OtherJournal, OtherBoard as OtherJournalBoard, Memory as JournalMemory}
use Rattle.stm_chip.specs.Document.{IsChipWith, IsNewId}
use Rattle.stm_wire.specs.declared.get_command.Commands.{Commands}
use Rattle.stm_session.proofs.Names.{AreCommandsOf, BeginsNothing, Cause, cause_of, chip_with, device_refusals, Fault, fault_of_journal, first_refusal, IsJournalOrMemory, IsLaterRefusal, IsOfLine}
use Rattle.stm_session.proofs.Names.{IsOutside, IsOutsideFault, IsSafe, IsUnbegun, IsUnheard, LoadsUnless, of_protocol, of_refusal, of_session, open_refusal, Opened, opening_refusal, Opens}
use Rattle.stm_session.proofs.Names.{table_refusal, TellsItself, Told, unsent_refusal}
use Rattle.stm_session.specs.declared.fault.Fault.TheVariants.{BadJournal, InSession, Memory, Unfinished}
use Rattle.stm_session.proofs.Unbegun.{further}

-- what a device tells of itself is what it would have told before
pub tells_first : (a b : RigState) → IsUnbegun a b.device b.journal → (told : Told) → TellsItself b.device told → TellsItself a.device told
tells_first a b left told tells =
    record {
      commands = record { version = tells.commands.version ∙ left.make.version; codes = tells.commands.codes ∙ left.make.codes };
      id = tells.id ∙ ap (λ (p : ChipData). p.id) left.make.chip;
    }

-- where owed bytes alone are lost, nothing is begun
pub untouched_is_unbegun : LossStaysHarmless → (old : RigState) → IsSafe old.device → (d : Device) (journal : List ℕ) → IsUntouched old d journal → IsUnbegun old d journal
untouched_is_unbegun law old safe d journal left =
    record {
      journal_same = left.0;
      make = record {
        chip = ap (λ (x : Device). x.chip) left.1.1;
        version = ap (λ (x : Device). x.version) left.1.1;
        codes = ap (λ (x : Device). x.codes) left.1.1;
      };
      flash = ap (λ (x : Device). x.flash) left.1.1;
      safe = record {
        harmless = law old.device d 0x7F [] safe.harmless left.1;
        owed = omega (arith, safe.owed, ap (λ (x : Device). length x.owed) left.1.1, length-drop left.1.0 old.device.owed);
      };
    }

-- no chip of the table has the id
pub lacks_chip : (table : List ChipData) (id : ℕ) → IsNewId table id → chip_with table id ≡ None
lacks_chip [] id all = refl
lacks_chip (c ∷ table) id all = rw (ne_eqb c.id id (all 0 c (omega arith))) (lacks_chip table id (λ k d lt. all (suc k) d (omega (arith, lt))))

-- the chip of the table that has it
has_only : (table : List ChipData) (id : ℕ) (chip : ChipData) → Contains table chip → chip.id ≡ id → ((other : ChipData) → Contains table other → other.id ≡ id → other ≡ chip) → chip_with table id ≡ Some chip
has_only [] id chip held is only = absurd (omega (arith, held.1))
has_only (c ∷ table) id chip held is only = ⊎_elim
    (λ same. rw (eq-eqb c.id id same) (ap (λ (x : ChipData). Some x) (only c (0, omega arith, refl) same)))
    (λ other. rw (ne_eqb c.id id other) (has_only table id chip (held_below held other) is (λ x h e. only x (suc h.0, omega (arith, h.1), h.2) e)))
    (cases_eq c.id id)
  where
    held_below : Contains (c ∷ table) chip → (c.id ≡ id → ⊥) → Contains table chip
    held_below (zero, lt, e) other = absurd (other (ap (λ (x : ChipData). x.id) e ∙ is))
    held_below (suc k, lt, e) other = (k, omega (arith, lt), e)

pub has_chip : (table : List ChipData) (id : ℕ) (chip : ChipData) → IsChipWith table id chip → chip_with table id ≡ Some chip
has_chip table id chip is = has_only table id chip is.held is.id_is is.only

-- the journal couldn't be read, or has a bad line
pub load_failed : {T : Type 0} (refusal : JournalData → Option Fault) (says : (line : ℕ) → refusal (bad line) ≡ Some (BadJournal line)) (old new : RigState) (e : JournalFault) (result : Result T Fault)
    → Loads old new (Err e) → IsErrAnd result (λ x. x ≡ fault_of_journal e) → LoadsUnless (refusal (journal_of old.journal)) old new result
load_failed refusal says old new e (Ok x) loads is = absurd is
load_failed refusal says old new e (Err x) loads is =
    let P : Fault → Type 0 = λ y. IsJournalOrMemory y ⊎ (refusal (journal_of old.journal) ≡ Some y) in
    record {
      moments = loads.moments;
      honest = loads.honest;
      left = (loads.journal, lost e loads.kept_device);
      same = tt;
      accepted = tt;
      refused = subst P (sym is) (by_fault e loads.faults);
    }
  where
    lost : (e : JournalFault) → KeepsDevice old new e → LosesOwed old.device new.device
    lost File kept = kept
    lost (Bad line) kept = (0, kept)
    lost OtherJournal kept = (0, kept)
    lost OtherJournalBoard kept = (0, kept)
    lost JournalMemory kept = (0, kept)

    by_fault : (e : JournalFault) → IsFaultOf old.journal e → IsJournalOrMemory (fault_of_journal e) ⊎ (refusal (journal_of old.journal) ≡ Some (fault_of_journal e))
    by_fault (Bad line) f = inr (ap refusal f ∙ says line)
    by_fault OtherJournal f = absurd f
    by_fault OtherJournalBoard f = absurd f
    by_fault e f = inl tt

-- what needs no bytes of pages refuses a journal and its state in memory alike
pub loaded_refusal : (refusal : JournalData → Option Fault) → ((s : StateData) → refusal (good (forget_state s)) ≡ refusal (good s)) → (journal : List ℕ) (l : Loaded) → IsLoaded l journal
    → refusal (journal_of journal) ≡ refusal (good l.state)
loaded_refusal refusal blind journal l is = ap refusal is.means ∙ sym (blind is.text) ∙ ap (λ (s : StateData). refusal (good s)) (sym is.state)

-- it was read, and is refused or isn't
pub load_refused : {T : Type 0} (refusal : JournalData → Option Fault) → ((s : StateData) → refusal (good (forget_state s)) ≡ refusal (good s)) → (old new : RigState) (l : Loaded) (fault : Fault) → Loads old new (Ok l) → refusal (good l.state) ≡ Some fault
    → LoadsUnless {T = T} (refusal (journal_of old.journal)) old new (Err fault)
load_refused refusal blind old new l fault loads says =
    record { moments = loads.moments; honest = loads.honest; left = (loads.journal, (0, loads.same_device)); same = tt; accepted = tt; refused = inr (loaded_refusal refusal blind old.journal l loads.loaded ∙ says) }

pub load_accepted : {T : Type 0} (refusal : JournalData → Option Fault) → ((s : StateData) → refusal (good (forget_state s)) ≡ refusal (good s)) → (old new : RigState) (l : Loaded) (x : T) → Loads old new (Ok l) → refusal (good l.state) ≡ None
    → LoadsUnless (refusal (journal_of old.journal)) old new (Ok x)
load_accepted refusal blind old new l x loads says =
    record { moments = loads.moments; honest = loads.honest; left = (loads.journal, (0, loads.same_device)); same = loads.same_device; accepted = loaded_refusal refusal blind old.journal l loads.loaded ∙ says; refused = tt }

-- of an empty journal there is no want of memory
pub load_spared : {T : Type 0} (old new : RigState) (e : JournalFault) (result : Result T Fault) → Loads old new (Err e) → old.journal ≡ [] → IsErrAnd result (λ x. x ≡ fault_of_journal e)
    → IfErr result (λ x. x ≢ Memory)
load_spared old new e (Ok x) loads empty is = absurd is
load_spared old new e (Err x) loads empty is = λ memory. by_fault e loads.faults (sym is ∙ memory)
  where
    by_fault : (e : JournalFault) → IsFaultOf old.journal e → fault_of_journal e ≡ Memory → ⊥
    by_fault File f m = cc
    by_fault (Bad line) f m = cc
    by_fault OtherJournal f m = f
    by_fault OtherJournalBoard f m = f
    by_fault JournalMemory f m = subst (λ (j : List ℕ). IsFaultOf j JournalMemory) empty f

-- an unfinished journal is refused, and a finished one isn't
pub unfinished_refused : (s : StateData) → is_unfinished s ≡ true → unsent_refusal (good s) ≡ Some Unfinished
unfinished_refused s e = rw e refl

pub finished_accepted : (s : StateData) → is_unfinished s ≡ false → unsent_refusal (good s) ≡ None
finished_accepted s e = rw e refl

-- the fault that a call answered
pub on_err : {T : Type 0} (P : Fault → Type 0) (r : Result T Fault) (e : Fault) → IsErrAnd r (λ x. x ≡ e) → P e → IfErr r P
on_err P (Ok x) e is p = tt
on_err P (Err x) e is p = subst P (sym is) p

pub alone : (x : Option Fault) → first_refusal (x ∷ []) ≡ x
alone None = refl
alone (Some fault) = refl

-- a journal that may be the device's is refused for the table alone
pub device_refusal : (s : StateData) (id : ℕ) (table : List ChipData) (found : Option ChipData) → not (names_other id s) ≡ true → chip_with table id ≡ found
    → first_refusal (device_refusals s id table) ≡ table_refusal s id found
device_refusal s id table found own e = rw (own, e) (alone (table_refusal s id found))

-- a journal that isn't refused
pub refused_nothing : {A : Type 0} (refusal : Option Fault) (fault : Fault) → refusal ≡ None → refusal ≡ Some fault → A
refused_nothing refusal fault none some = absurd (let h : None ≡ Some fault = sym none ∙ some in cc)

first_given : (x : Option Fault) (rest : List (Option Fault)) (fault : Fault) → x ≡ Some fault → first_refusal (x ∷ rest) ≡ Some fault
first_given x rest fault e = rw e refl

-- a failure of the journal or of memory is one outside
unheard_outside : (cause : Cause) → IsUnheard cause → IsOutside cause
unheard_outside of_protocol of = of
unheard_outside of_session of = of
unheard_outside of_refusal of = of
unheard_outside cause of = tt

pub unsent_outside : (e : Fault) → IsJournalOrMemory e → IsOutsideFault e
unsent_outside e of = unheard_outside (cause_of e) of

-- what is refused before a byte is sent is refused
pub unsent_is_first : (j : JournalData) (d : Device) (table : List ChipData) (fault : Fault) → unsent_refusal j ≡ Some fault → opening_refusal j d table ≡ Some fault
unsent_is_first (bad line) d table fault e = e
unsent_is_first (good s) d table fault e = first_given (unsent_refusal (good s)) (device_refusals s d.chip.id table) fault e

-- of a finished journal, what the device and the table make of it
pub opening_of : (s : StateData) (d : Device) (table : List ChipData) (id : ℕ) (x : Option Fault) → is_unfinished s ≡ false → id ≡ d.chip.id → first_refusal (device_refusals s id table) ≡ x
    → opening_refusal (good s) d table ≡ x
opening_of s d table id x finished same e = rw finished (ap (λ n. first_refusal (device_refusals s n table)) (sym same) ∙ e)

-- the journal was read, and nothing else was done
module _ (law : LossStaysHarmless) (old mid : RigState) (safe : IsSafe old.device) where
  pub left_by_loading : {T : Type 0} (refusal : Option Fault) (x : T) → LoadsUnless refusal old mid (Ok x) → IsUnbegun old mid.device mid.journal
  left_by_loading refusal x loads = untouched_is_unbegun law old safe mid.device mid.journal loads.left

  pub moments_of_loading : {T : Type 0} (refusal : Option Fault) (result : Result T Fault) → LoadsUnless refusal old mid result → LeavesOnly (IsUnbegun old) old mid
  moments_of_loading refusal result loads = weaker (IsUntouched old) (IsUnbegun old) old mid loads.moments (untouched_is_unbegun law old safe)

  -- a session that isn't opened, since the journal couldn't be read or is refused
  pub opens_unread : {T : Type 0} (table : List ChipData) (e : Fault) (opened : Result Opened Fault) → LoadsUnless {T = T} (unsent_refusal (journal_of old.journal)) old mid (Err e)
      → IsErrAnd opened (λ x. x ≡ e) → Opens table old mid opened
  opens_unread table e (Ok o) loads is = absurd is
  opens_unread table e (Err x) loads is =
      let P : Fault → Type 0 = λ z. IsOutsideFault z ⊎ (opening_refusal (journal_of old.journal) old.device table ≡ Some z) in
      record {
        moments = moments_of_loading (unsent_refusal (journal_of old.journal)) (Err e) loads;
        honest = loads.honest;
        left = untouched_is_unbegun law old safe mid.device mid.journal loads.left;
        answers = subst P (sym is) (⊎_elim (λ unsent. inl (unsent_outside e unsent)) (λ said. inr (unsent_is_first (journal_of old.journal) old.device table e said)) loads.refused);
      }

  -- the moments of reading the journal, and of asking the device then
  pub moments_of_asking : {T U : Type 0} {Done : U → Type 0} (refusal : Option Fault) (new : RigState) (x : T) (result : Result U Fault) → LoadsUnless refusal old mid (Ok x) → BeginsNothing mid new result Done
      → LeavesOnly (IsUnbegun old) old new
  moments_of_asking refusal new x result loads asks =
      joined (IsUnbegun old) (IsUnbegun mid) (IsUnbegun old) old mid new (moments_of_loading refusal (Ok x) loads) asks.moments (λ d journal u. u) (further old mid (left_by_loading refusal x loads))

  -- or since the device couldn't be reached
  pub opens_unreached : {T U : Type 0} {Done : U → Type 0} (table : List ChipData) (new : RigState) (x : T) (e : Fault) (opened : Result Opened Fault)
      → LoadsUnless (unsent_refusal (journal_of old.journal)) old mid (Ok x) → BeginsNothing {T = U} mid new (Err e) Done → IsErrAnd opened (λ y. y ≡ e) → Opens table old new opened
  opens_unreached table new x e (Ok o) loads asks is = absurd is
  opens_unreached table new x e (Err y) loads asks is =
      let P : Fault → Type 0 = λ z. IsOutsideFault z ⊎ (opening_refusal (journal_of old.journal) old.device table ≡ Some z) in
      record { moments = moments_of_asking (unsent_refusal (journal_of old.journal)) new x (Err e) loads asks; honest = asks.honest; left = further old mid (left_by_loading (unsent_refusal (journal_of old.journal)) x loads) new.device new.journal asks.left; answers = subst P (sym is) (inl asks.fails) }

  -- the device told who it is
  module _ (l : Loaded) (loaded : IsLoaded l old.journal) (finished : is_unfinished l.state ≡ false) (new : RigState) (table : List ChipData) (told : Told)
      (loads : LoadsUnless (unsent_refusal (journal_of old.journal)) old mid (Ok l)) (asks : BeginsNothing mid new (Ok told) (TellsItself mid.device)) where
    tells : TellsItself old.device told
    tells = tells_first old mid (left_by_loading (unsent_refusal (journal_of old.journal)) l loads) told asks.done

    refusal_is : (x : Option Fault) → first_refusal (device_refusals l.state told.id table) ≡ x → opening_refusal (journal_of old.journal) old.device table ≡ x
    refusal_is x e =
        let ended : is_unfinished loaded.text ≡ false = sym (is_unfinished-forgets loaded.text) ∙ ap (λ (s : StateData). is_unfinished s) (sym loaded.state) ∙ finished in
        let same : device_refusals loaded.text told.id table ≡ device_refusals l.state told.id table =
        sym (device-forgets loaded.text told.id table) ∙ ap (λ (s : StateData). device_refusals s told.id table) (sym loaded.state)
        in
        ap (λ (j : JournalData). opening_refusal j old.device table) loaded.means
        ∙ opening_of loaded.text old.device table told.id x ended tells.id (ap (λ refusals. first_refusal refusals) same ∙ e)

    pub opens_refused : (e : Fault) (opened : Result Opened Fault) → first_refusal (device_refusals l.state told.id table) ≡ Some e → IsErrAnd opened (λ y. y ≡ e) → Opens table old new opened
    opens_refused e (Ok o) said is = absurd is
    opens_refused e (Err y) said is =
        let P : Fault → Type 0 = λ z. IsOutsideFault z ⊎ (opening_refusal (journal_of old.journal) old.device table ≡ Some z) in
        record { moments = moments_of_asking (unsent_refusal (journal_of old.journal)) new l (Ok told) loads asks; honest = asks.honest; left = further old mid (left_by_loading (unsent_refusal (journal_of old.journal)) l loads) new.device new.journal asks.left; answers = subst P (sym is) (inr (refusal_is (Some e) said)) }

    pub opens_all : (opened : Opened) → first_refusal (device_refusals l.state told.id table) ≡ None → opened.journal ≡ l → opened.chip.now.id ≡ told.id → opened.commands ≡ told.commands
        → Opens table old new (Ok opened)
    opens_all opened accepted journal id commands =
        record {
          moments = moments_of_asking (unsent_refusal (journal_of old.journal)) new l (Ok told) loads asks;
          honest = asks.honest;
          left = further old mid (left_by_loading (unsent_refusal (journal_of old.journal)) l loads) new.device new.journal asks.left;
          answers = record {
            loaded = subst (λ (x : Loaded). IsLoaded x old.journal) (sym journal) loaded;
            settled = asks.settled;
            id = id ∙ tells.id;
            commands = subst (λ (x : Commands). AreCommandsOf old.device x) (sym commands) tells.commands;
            accepted = refusal_is None accepted;
          };
        }

-- faults of some kinds are no others
pub line_is_no_memory : (e : Fault) → IsOfLine e → e ≡ Memory → ⊥
line_is_no_memory e of is = subst IsOfLine is of

pub device_is_no_memory : (e : Fault) → IsLaterRefusal e → e ≡ Memory → ⊥
device_is_no_memory e of is = subst IsLaterRefusal is of

-- a journal with a segment is open
pub open_refused : (s : StateData) → nat_lt 0 (length s.stack) ≡ true → open_refusal (good s) ≡ Some InSession
open_refused s some = grind (arith, nat_tests)

pub closed_accepted : (s : StateData) → nat_lt 0 (length s.stack) ≡ false → open_refusal (good s) ≡ None
closed_accepted s none = grind (arith, nat_tests)
