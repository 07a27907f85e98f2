-- An undo of which the journal was read: one without a segment, and one whose chip isn't in the table.
use Rattle.std.proofs.Common.{◌≡◌, ⊎_elim, inl, ℕ, zero, suc, ◌≤◌, Bool, true, false, not, ◌==◌, ◌||◌, nat_lt, if◌then◌else◌, List, [], ◌∷◌, ◌++◌, length, Option, Some, None, option_map, Result, Ok, Err, IsErrAnd, refl, sym, ◌∙◌, ap, subst, arith, append-nil}
use Rattle.std.proofs.lemmas.Bool.{cases_eq, eq-eqb, ne_eqb, true≢false}
use Rattle.std.proofs.lemmas.Bool.Decides.{nat_tests}
use Rattle.stm_wire.proofs.Names.{ChipData, Device, GoesOn, IsModel, RigState}
use Rattle.stm_journal.specs.declared.entry.Entry.{Entry}
use Rattle.stm_session.proofs.Names.{AmidUndo, chip_with, Fault, good_state, is_torn_at, state_at, StepLaws, table_refusal, taken_count, text_added, undo_entries, undo_refusal, undo_refusal_of}
use Rattle.stm_session.proofs.Names.{Undoable, UndoContract, Undoes}
use Rattle.stm_wire.specs.lemmas.MomentLaws.{weaker}
use Rattle.stm_journal.specs.declared.header.JournalHeader.{JournalHeader}
use Rattle.stm_journal.proofs.Names.{AreFetches, forget_state, good, is_unfinished, IsLoaded, IsUntouched, journal_of, JournalData, Loaded, Loads, names_other, SegmentData, StateData}
use Rattle.stm_session.proofs.Fitting.{fits-unrefused}
use Rattle.stm_session.proofs.Forgetting.{misfit-forgets}
use Rattle.stm_session.proofs.UndoesOfSegments.{flashes_count}
use Rattle.stm_session.proofs.Keeping.{depth_text, good_at, text_is}
use Rattle.stm_session.proofs.Openings.{has_chip}
use Rattle.stm_session.proofs.Unread.{same_flash, untouched_amid, none_some}

-- the journal was read
module _ (table : List ChipData) (l : Loaded) (old a : RigState) (loads : Loads old a (Ok l)) where
  depth_is : length l.state.stack ≡ length (state_at old.journal).stack
  depth_is = depth_text l old.journal loads.loaded

  text_good : journal_of old.journal ≡ good (state_at old.journal)
  text_good = good_at l old.journal loads.loaded

  -- what is said of the old Rig is so of the one that was read
  pub undoable_then : (flashes : List (List ℕ)) → Undoable flashes old.device old.journal → Undoable flashes a.device a.journal
  undoable_then flashes u =
      let D : Device → Type 0 = λ d. Undoable flashes d old.journal in
      let J : List ℕ → Type 0 = λ j. Undoable flashes a.device j in
      subst J (sym loads.journal) (subst D (sym loads.same_device) u)

  pub loaded_then : IsLoaded l a.journal
  loaded_then = let J : List ℕ → Type 0 = λ j. IsLoaded l j in subst J (sym loads.journal) loads.loaded

  pub flashes_depth : (flashes : List (List ℕ)) → Undoable flashes old.device old.journal → length flashes ≡ length l.state.stack
  flashes_depth flashes u =
      let x = flashes_count old.device.chip (state_at old.journal).stack old.device.flash in
      let y = ap (λ (xs : List (List ℕ)). length xs) u.keeps in
      omega (arith, x, y, depth_is)

  pub depth_of : (s : StateData) → journal_of old.journal ≡ good s → length s.stack ≡ length l.state.stack
  depth_of s g = let h : good s ≡ good (state_at old.journal) = sym g ∙ text_good in ap (λ (j : JournalData). length (good_state j).stack) h ∙ sym depth_is

  pub not_empty : 1 ≤ length l.state.stack → old.journal ≡ [] → ⊥
  not_empty some empty =
      let z : length (state_at old.journal).stack ≡ 0 = ap (λ (j : List ℕ). length (state_at j).stack) empty in
      absurd (omega (arith, some, z, depth_is))

  unrefused_by : (b : Bool) → (length (state_at old.journal).stack == 0) ≡ b → undo_refusal (journal_of old.journal) table ≡ (if b then None else undo_refusal_of (state_at old.journal) table (state_at old.journal).header)
  unrefused_by b is = ap (λ (j : JournalData). undo_refusal j table) text_good ∙ ap (λ (c : Bool). if c then None else undo_refusal_of (state_at old.journal) table (state_at old.journal).header) is

  refusal_empty : length l.state.stack ≡ 0 → undo_refusal (journal_of old.journal) table ≡ None
  refusal_empty none = unrefused_by true (eq-eqb (length (state_at old.journal).stack) 0 (sym depth_is ∙ none))

  table_text : (id : ℕ) (o : Option ChipData) → table_refusal l.state id o ≡ table_refusal (state_at old.journal) id o
  table_text id o = ap (λ (s : StateData). table_refusal s id o) loads.loaded.state ∙ forgets o ∙ ap (λ (s : StateData). table_refusal s id o) (text_is l old.journal loads.loaded)
    where
      forgets : (o : Option ChipData) → table_refusal (forget_state loads.loaded.text) id o ≡ table_refusal loads.loaded.text id o
      forgets None = refl
      forgets (Some chip) = misfit-forgets chip loads.loaded.text

  pub header_text : l.state.header ≡ (state_at old.journal).header
  header_text = ap (λ (s : StateData). s.header) loads.loaded.state ∙ ap (λ (s : StateData). s.header) (text_is l old.journal loads.loaded)

  by_id : (s : StateData) (o : Option JournalHeader) (id : ℕ) → option_map (λ h. h.id) o ≡ Some id → undo_refusal_of s table o ≡ table_refusal s id (chip_with table id)
  by_id s None id e = absurd (let h : None ≡ Some id = e in cc)
  by_id s (Some header) id e =
      let h : Some header.id ≡ Some id = e in
      let same : header.id ≡ id = cc in
      ap (λ (n : ℕ). table_refusal s n (chip_with table n)) same

  pub refusal_some : 1 ≤ length l.state.stack → (id : ℕ) → option_map (λ h. h.id) l.state.header ≡ Some id → undo_refusal (journal_of old.journal) table ≡ table_refusal l.state id (chip_with table id)
  refusal_some some id named =
      unrefused_by false (ne_eqb (length (state_at old.journal).stack) 0 (λ e. absurd (omega (arith, some, e, depth_is))))
      ∙ by_id (state_at old.journal) (state_at old.journal).header id (ap (λ (o : Option JournalHeader). option_map (λ h. h.id) o) (sym header_text) ∙ named)
      ∙ sym (table_text id (chip_with table id))

  pub own_id : (id own : ℕ) → option_map (λ h. h.id) l.state.header ≡ Some id → names_other own (state_at old.journal) ≡ false → id ≡ own
  own_id id own named is = at (state_at old.journal).header (ap (λ (o : Option JournalHeader). option_map (λ h. h.id) o) (sym header_text) ∙ named) is
    where
      at : (o : Option JournalHeader) → option_map (λ h. h.id) o ≡ Some id → names_other own (record { header = o; stack = (state_at old.journal).stack }) ≡ false → id ≡ own
      at None e f = absurd (let h : None ≡ Some id = e in cc)
      at (Some header) e f =
          let h : Some header.id ≡ Some id = e in
          let same : header.id ≡ id = cc in
          sym same ∙ ⊎_elim (λ equal. equal) (λ other. absurd (true≢false (sym (ap (λ (b : Bool). not b) (ne_eqb header.id own other)) ∙ f))) (cases_eq header.id own)

  -- it has no segment
  pub contract_none : (laws : StepLaws) (count : ℕ) → IsModel a → length l.state.stack ≡ 0 → GoesOn AreFetches old.calls a.calls → UndoContract table count old a (Ok 0)
  contract_none laws count model none calls =
      let left : IsUntouched old a.device a.journal = (loads.journal, (0, loads.same_device)) in
      record {
        refused = λ h refusal r. none_some (undo_refusal (journal_of old.journal) table) refusal (refusal_empty none) r;
        refused_calls = λ h refusal r. calls;
        nothing = λ h s g z. record { moments = loads.moments; honest = loads.honest; left = left; answer = refl; fails = tt };
        nothing_calls = λ h s g z. calls;
        elsewhere = λ h accepted some header chip named listed harmless owed within refusal misfit.
            absurd (omega (arith, some, depth_is, none));
        undoes = λ h flashes u listed.
            let depth = flashes_depth flashes u in
            let zero_is : length flashes ≡ 0 = omega (arith, depth, none) in
            let taken : taken_count count (length flashes) ≡ 0 = ap (λ (n : ℕ). taken_count count n) zero_is ∙ none_taken count in
            let U : ℕ → Type 0 = λ n. Undoes n flashes old a (Ok 0) in
            let amid = untouched_amid laws 0 flashes old u a.device a.journal left in
            subst U (sym taken)
            (record {
              moments = weaker (IsUntouched old) (AmidUndo 0 flashes old) old a loads.moments (untouched_amid laws 0 flashes old u);
              honest = loads.honest;
              left = amid;
              answer = refl;
              done = record {
                finished = finished_empty (state_at a.journal) (ap (λ (j : List ℕ). length (state_at j).stack) loads.journal ∙ sym depth_is ∙ none);
                make = amid.make;
                flash = ap (λ (d : Device). d.flash) loads.same_device;
                undoable = undoable_then flashes u;
                settled = old.device.flash;
                is_settled = same_flash old old.device.flash refl;
                lines = loads.journal ∙ sym (append-nil old.journal)
                    ∙ ap (λ (es : List Entry). old.journal ++ text_added (is_torn_at old.journal) es) (sym (nothing_said old.device.chip (state_at old.journal).stack old.device.flash (sym depth_is ∙ none)));
              };
              settled = λ one. absurd (omega (arith, one));
              fails = tt;
            });
        spared = λ h empty. tt;
      }
    where
      nothing_said : (chip : ChipData) (stack : List SegmentData) (flash : List ℕ) → length stack ≡ 0 → undo_entries chip 0 stack flash ≡ []
      nothing_said chip [] flash none = refl
      nothing_said chip (segment ∷ below) flash none = absurd (omega (arith, none))

      none_taken : (count : ℕ) → taken_count count 0 ≡ 0
      none_taken zero = refl
      none_taken (suc n) =
          let less : nat_lt 0 (suc n) ≡ true = grind (arith, nat_tests) in
          let other : (suc n == 0) ≡ false = ne_eqb (suc n) 0 (λ e. absurd (omega (arith, e))) in
          ap (λ (b : Bool). if (b || nat_lt 0 (suc n)) then 0 else suc n) other ∙ ap (λ (b : Bool). if b then 0 else suc n) less

      finished_empty : (s : StateData) → length s.stack ≡ 0 → is_unfinished s ≡ false
      finished_empty s none = at s.stack none
        where
          at : (stack : List SegmentData) → length stack ≡ 0 → is_unfinished (record { header = s.header; stack = stack }) ≡ false
          at [] none = refl
          at (segment ∷ below) none = absurd (omega (arith, none))

  -- it has one, and a header
  module _ (some : 1 ≤ length l.state.stack) (id : ℕ) (named : option_map (λ h. h.id) l.state.header ≡ Some id) where
    pub contract_unfound : (count : ℕ) (e : Fault) (result : Result ℕ Fault) → GoesOn AreFetches old.calls a.calls → table_refusal l.state id (chip_with table id) ≡ Some e → IsErrAnd result (λ x. x ≡ e)
        → UndoContract table count old a result
    contract_unfound count e (Ok x) calls says is = absurd is
    contract_unfound count e (Err x) calls says is =
        let left : IsUntouched old a.device a.journal = (loads.journal, (0, loads.same_device)) in
        let said : undo_refusal (journal_of old.journal) table ≡ Some e = refusal_some some id named ∙ says in
        record {
          refused = λ h refusal r.
              let both : Some e ≡ Some refusal = sym said ∙ r in
              let same : e ≡ refusal = cc in
              record { moments = loads.moments; honest = loads.honest; left = left; answers = inl (is ∙ same) };
          refused_calls = λ h refusal r. calls;
          nothing = λ h s g z. let d = depth_of s g in absurd (omega (arith, d, z, some));
          nothing_calls = λ h s g z. calls;
          elsewhere = λ h accepted least header2 chip named2 listed harmless owed within refusal misfit. none_some (undo_refusal (journal_of old.journal) table) e accepted said;
          undoes = λ h flashes u listed.
              let own : id ≡ old.device.chip.id = own_id id old.device.chip.id named u.own in
              let fits = fits-unrefused old.device.chip (state_at old.journal) u.fits in
              let none = table_text id (chip_with table id) ∙ ap (λ (n : ℕ). table_refusal (state_at old.journal) n (chip_with table n)) own
              ∙ ap (λ (o : Option ChipData). table_refusal (state_at old.journal) old.device.chip.id o) (has_chip table old.device.chip.id old.device.chip listed) ∙ fits in
              none_some (table_refusal l.state id (chip_with table id)) e none says;
          spared = λ h empty. absurd (not_empty some empty);
        }
