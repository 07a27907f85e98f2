-- What is refused before the device is asked which board it is.
use Rattle.std.proofs.Common.{◌≡◌, ℕ, true, false, Bool, if◌then◌else◌, List, ◌++◌, Option, Some, None, option_map, Result, Ok, Err, IsErrAnd, refl, sym, ◌∙◌, ap, subst}
use Rattle.stm_wire.proofs.Names.{ChipData, RigState}
use Rattle.stm_chip.specs.Document.{IsChipWith}
use Rattle.stm_journal.specs.declared.header.JournalHeader.{JournalHeader}
use Rattle.stm_journal.proofs.Names.{good, is_unfinished, IsLoaded, IsUntouched, journal_of, Loaded, Loads, StateData}
use Rattle.stm_session.proofs.Names.{asking_refusal, begun_refusal, chip_with, Fault, fits_fewer, header_misfits, IsLaterRefusal, least, LoadsUnless, misfit_lines, names_no_board, RefusesUnsent}
use Rattle.stm_session.proofs.Names.{unasked_refusal, unlisted_refusal}
use Rattle.stm_session.specs.declared.fault.Fault.TheVariants.{BadJournal, OtherBoard}
use Rattle.stm_session.proofs.Forgetting.{asking-forgets}
use Rattle.stm_session.proofs.Openings.{has_chip, load_refused, loaded_refusal, refused_nothing}
use Rattle.stm_session.proofs.Unprotections.{answered}

-- it is refused for what the table makes of it
later_line : (line : Option ℕ) (fault : Fault) → option_map (λ n. BadJournal n) line ≡ Some fault → IsLaterRefusal fault
later_line None fault e = absurd (let h : None ≡ Some fault = e in cc)
later_line (Some n) fault e = let same : BadJournal n ≡ fault = (let h : Some (BadJournal n) ≡ Some fault = e in cc) in subst IsLaterRefusal same tt

later_if : (other fewer : Bool) (line : Option ℕ) (fault : Fault) → (if other then Some OtherBoard else if fewer then None else option_map (λ n. BadJournal n) line) ≡ Some fault → IsLaterRefusal fault
later_if true fewer line fault e = let same : OtherBoard ≡ fault = (let h : Some OtherBoard ≡ Some fault = e in cc) in subst IsLaterRefusal same tt
later_if false true line fault e = absurd (let h : None ≡ Some fault = e in cc)
later_if false false line fault e = later_line line fault e

pub unasked_later : (chip : ChipData) (s : StateData) (fault : Fault) → unasked_refusal chip s ≡ Some fault → IsLaterRefusal fault
unasked_later chip s fault e = later_if (names_no_board chip s) (fits_fewer chip s) (least (header_misfits chip s.header ++ misfit_lines chip s.stack)) fault e

-- a journal that is refused where it is loaded
pub unless_refuses : {T : Type 0} (said : Option Fault) (old new : RigState) (result : Result T Fault) → LoadsUnless said old new result → (refusal : Fault) → said ≡ Some refusal
    → RefusesUnsent (IsUntouched old) refusal old new result
unless_refuses said old new (Ok x) loads refusal is =
    record { moments = loads.moments; honest = loads.honest; left = loads.left; answers = refused_nothing said refusal loads.accepted is }
unless_refuses said old new (Err e) loads refusal is =
    record { moments = loads.moments; honest = loads.honest; left = loads.left; answers = answered said refusal e is loads.refused }

pub unless_as : {T U : Type 0} (said : Option Fault) (old new : RigState) (e : Fault) (result : Result U Fault) → LoadsUnless {T = T} said old new (Err e) → IsErrAnd result (λ x. x ≡ e)
    → LoadsUnless said old new result
unless_as said old new e (Ok x) loads is = absurd is
unless_as {U = U} said old new e (Err x) loads is =
    let L : Fault → Type 0 = λ y. LoadsUnless {T = U} said old new (Err y) in
    subst L (sym is) (record { moments = loads.moments; honest = loads.honest; left = loads.left; same = tt; accepted = tt; refused = loads.refused })

pub by_id : (s : StateData) (table : List ChipData) (header : Option JournalHeader) (id : ℕ) → option_map (λ h. h.id) header ≡ Some id
    → begun_refusal s table header ≡ unlisted_refusal s id (chip_with table id)
by_id s table None id named = absurd (let h : None ≡ Some id = named in cc)
by_id s table (Some header) id named =
    let h : Some header.id ≡ Some id = named in
    let same : header.id ≡ id = cc in
    ap (λ (n : ℕ). unlisted_refusal s n (chip_with table n)) same

pub no_header : (s : StateData) (table : List ChipData) (header : Option JournalHeader) → None ≡ option_map (λ h. h.id) header → begun_refusal s table header ≡ None
no_header s table None named = refl
no_header s table (Some header) named = absurd (let h : None ≡ Some header.id = named in cc)

-- an unfinished journal is refused for its chip alone, and a finished one isn't
unfinished_asks : (table : List ChipData) (s : StateData) (id : ℕ) → is_unfinished s ≡ true → option_map (λ h. h.id) s.header ≡ Some id
    → asking_refusal (good s) table ≡ unlisted_refusal s id (chip_with table id)
unfinished_asks table s id is named = ap (λ (b : Bool). if b then begun_refusal s table s.header else None) is ∙ by_id s table s.header id named

finished_asks : (table : List ChipData) (s : StateData) → is_unfinished s ≡ false → asking_refusal (good s) table ≡ None
finished_asks table s is = ap (λ (b : Bool). if b then begun_refusal s table s.header else None) is

module _ (table : List ChipData) (l : Loaded) (journal : List ℕ) (loaded : IsLoaded l journal) where
  text_asks : asking_refusal (journal_of journal) table ≡ asking_refusal (good l.state) table
  text_asks = loaded_refusal (λ j. asking_refusal j table) (asking-forgets table) journal l loaded

  pub none_finished : is_unfinished l.state ≡ false → asking_refusal (journal_of journal) table ≡ None
  none_finished is = text_asks ∙ finished_asks table l.state is

  pub unfinished_as : (id : ℕ) (said : Option Fault) → is_unfinished l.state ≡ true → Some id ≡ option_map (λ h. h.id) l.state.header → unlisted_refusal l.state id (chip_with table id) ≡ said
      → asking_refusal (journal_of journal) table ≡ said
  unfinished_as id said is named says = text_asks ∙ unfinished_asks table l.state id is (sym named) ∙ says

-- the journal was read, and no board has it
pub asks_refused : {T : Type 0} (table : List ChipData) (l : Loaded) (old a : RigState) (id : ℕ) (e : Fault) → Loads old a (Ok l) → is_unfinished l.state ≡ true → Some id ≡ option_map (λ h. h.id) l.state.header
    → unlisted_refusal l.state id (chip_with table id) ≡ Some e → LoadsUnless {T = T} (asking_refusal (journal_of old.journal) table) old a (Err e)
asks_refused table l old a id e loads is named says =
    load_refused (λ j. asking_refusal j table) (asking-forgets table) old a l e loads (unfinished_asks table l.state id is (sym named) ∙ says)

-- the chip that was found isn't refused
pub found_unasked : (table : List ChipData) (s : StateData) (id : ℕ) (chip : ChipData) → IsChipWith table id chip → unlisted_refusal s id (chip_with table id) ≡ None → unasked_refusal chip s ≡ None
found_unasked table s id chip is accepted = sym (ap (λ (o : Option ChipData). unlisted_refusal s id o) (has_chip table id chip is)) ∙ accepted
