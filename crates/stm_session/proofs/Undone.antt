-- An undo whose chip is in the table, exit by exit.
use Rattle.std.proofs.Common.{◌≡◌, ⊎_elim, inl, inr, ℕ, ◌≤◌, List, [], ◌++◌, length, take, drop, Option, Some, None, option_map, Result, Ok, Err, IsErrAnd, sym, ◌∙◌, ap, ap₂, subst, subst₂, arith, append-nil}
use Rattle.stm_chip.specs.Document.{IsChipWith}
use Rattle.stm_wire.proofs.Names.{Awaits, ChipData, Device, Harmless, IsModel, LeavesOnly, RigState, SameOutside}
use Rattle.stm_wire.specs.lemmas.MomentLaws.{joined}
use Rattle.stm_journal.proofs.Names.{intent_of, is_greeted, IsUntouched, journal_of, Loaded, Loads}
use Rattle.stm_journal.specs.declared.header.JournalHeader.{JournalHeader}
use Rattle.stm_session.proofs.Names.{AmidNewestBy, AmidUndo, byte_at_journal, chip_with, Fault, Goes, is_torn_at, IsElsewhere, IsFlashSettled, IsOutsideFault, IsWithinLimit, Meets, Refuses, risked_at}
use Rattle.stm_session.proofs.Names.{SameMake, settling_limit, Stands, state_at, StepLaws, table_refusal, taken_count, text_added, undo_lines, undo_misfit, undo_refusal, undo_text, Undoable}
use Rattle.stm_session.proofs.Names.{UndoContract, Undoes, UndoesBy}
use Rattle.stm_session.proofs.Going.{at_exit}
use Rattle.stm_session.proofs.GoingAll.{flash_at}
use Rattle.stm_session.proofs.Keeping.{good_at}
use Rattle.stm_session.proofs.Standing.{makes_then, settled_undoable}
use Rattle.stm_session.proofs.Unread.{stands_amid, untouched_amid, untouched_stray, none_some}
use Rattle.stm_session.proofs.UndoStarts.{depth_of, header_text, not_empty, own_id, refusal_some}

-- the journal was read, and has a segment and a header
module _ (table : List ChipData) (l : Loaded) (old a : RigState) (loads : Loads old a (Ok l)) (some : 1 ≤ length l.state.stack) (id : ℕ) (named : option_map (λ h. h.id) l.state.header ≡ Some id) where
  -- the table has its chip
  module _ (laws : StepLaws) (chip : ChipData) (listed_chip : IsChipWith table id chip) (accepted_chip : table_refusal l.state id (chip_with table id) ≡ None) where
    unrefused : undo_refusal (journal_of old.journal) table ≡ None
    unrefused = refusal_some table l old a loads some id named ∙ accepted_chip

    pub own_chip : (flashes : List (List ℕ)) → Undoable flashes old.device old.journal → IsChipWith table old.device.chip.id old.device.chip → a.device.chip ≡ chip
    own_chip flashes u listed =
        ap (λ (d : Device). d.chip) loads.same_device ∙ listed_chip.only old.device.chip listed.held (sym (own_id table l old a loads id old.device.chip.id named u.own))

    module _ (taken : ℕ) (flashes : List (List ℕ)) (u : Undoable flashes old.device old.journal) (b : RigState) where
      first_moments : LeavesOnly (Stands [] flashes a) a b → LeavesOnly (AmidUndo taken flashes old) old b
      first_moments moments =
          joined (IsUntouched old) (Stands [] flashes a) (AmidUndo taken flashes old) old a b loads.moments moments
          (untouched_amid laws taken flashes old u) (stands_amid l old a loads taken flashes)

      pub undoes_unmet : {T : Type 0} {Done : T → Type 0} (l2 : Loaded) (e : Fault) (x : Fault) → IsModel b → Goes flashes [] l2 a b (Err e) Done → x ≡ e → Undoes taken flashes old b (Err x)
      undoes_unmet l2 e x model goes is =
          let moments = first_moments goes.moments in
          record { moments = moments; honest = goes.honest; left = at_exit (AmidUndo taken flashes old) old b model moments; answer = tt; done = tt; settled = tt; fails = subst IsOutsideFault (sym is) goes.fails }

      module _ (model_b : IsModel b) (goes : Goes {T = Unit {0}} flashes [] l a b (Ok tt) (λ x. Unit {0})) (settled : IsFlashSettled old b.device.flash) (c : RigState) (l2 : Loaded) where
        at_b : Stands [] flashes a b.device b.journal
        at_b = at_exit (Stands [] flashes a) a b model_b goes.moments

        journal_b : b.journal ≡ old.journal
        journal_b = goes.lines.added ∙ append-nil a.journal ∙ loads.journal

        chip_as : b.device.chip ≡ old.device.chip
        chip_as = at_b.make.chip ∙ ap (λ (d : Device). d.chip) loads.same_device

        text_b : undo_text b taken b.device.flash ≡ undo_text old taken b.device.flash
        text_b = ap₂ (λ (j : List ℕ) (p : ChipData). text_added (is_torn_at j) (Rattle.stm_session.specs.Lines.undo_entries p taken (state_at j).stack b.device.flash)) journal_b chip_as

        back_amid : (d : Device) (journal : List ℕ) → AmidNewestBy (undo_lines taken b) taken flashes b d journal → AmidUndo taken flashes old d journal
        back_amid d journal amid =
            let M : Device → Type 0 = λ x. SameMake x b.device in
            record {
              undone = amid.undone;
              within = amid.within;
              make = makes_then old.device b.device d (subst M loads.same_device at_b.make) amid.make;
              undoable = amid.undoable;
              finished = λ f.
                  let p = amid.finished f in
                  p.1 ∙ flash_at amid.undone b.device.flash old.device.flash flashes (λ z.
                  (at_b.finished (p.0 z)).1 ∙ ap (λ (x : Device). x.flash) loads.same_device);
              settled = b.device.flash;
              is_settled = settled;
              written = amid.written;
              lines = amid.lines ∙ ap₂ (λ (j bytes : List ℕ). j ++ take amid.written bytes) journal_b text_b;
            }

        back_moments : LeavesOnly (AmidNewestBy (undo_lines taken b) taken flashes b) b c → LeavesOnly (AmidUndo taken flashes old) old c
        back_moments moments =
            joined (AmidUndo taken flashes old) (AmidNewestBy (undo_lines taken b) taken flashes b) (AmidUndo taken flashes old) old b c (first_moments goes.moments) moments (λ d journal m. m) back_amid

        pub undoes_stopped : {T : Type 0} (e x : Fault) → IsModel c → UndoesBy {T = T} (undo_lines taken b) taken flashes l2 b c (Err e) → x ≡ e → Undoes taken flashes old c (Err x)
        undoes_stopped e x model back is =
            let moments = back_moments back.moments in
            record { moments = moments; honest = back.honest; left = at_exit (AmidUndo taken flashes old) old c model moments; answer = tt; done = tt; settled = tt; fails = subst IsOutsideFault (sym is) back.fails }

        pub undoes_all : (n : ℕ) → n ≡ taken → 1 ≤ taken → IsModel c → UndoesBy {T = Unit {0}} (undo_lines taken b) taken flashes l2 b c (Ok tt) → Undoes taken flashes old c (Ok n)
        undoes_all n is one model back =
            let moments = back_moments back.moments in
            let left = at_exit (AmidUndo taken flashes old) old c model moments in
            record {
              moments = moments;
              honest = back.honest;
              left = left;
              answer = is;
              done = record {
                finished = back.finished one;
                make = left.make;
                flash = back.restored ∙ flash_at taken b.device.flash old.device.flash flashes (λ z. absurd (omega (arith, z, one)));
                undoable = settled_undoable laws (drop taken flashes) c.device c.journal (state_at c.journal) model.device back.steady.settled (good_at l2 c.journal back.steady.loaded) back.steady.keeps;
                settled = b.device.flash;
                is_settled = settled;
                lines = back.lines.added ∙ ap₂ (λ (j bytes : List ℕ). j ++ bytes) journal_b text_b;
              };
              settled = λ h. back.steady.settled;
              fails = tt;
            }

    -- the rest of the contract
    pub elsewhere_back : (d : Device) (journal : List ℕ) → IsElsewhere a d journal → IsElsewhere old d journal
    elsewhere_back d journal e =
        let M : Device → Type 0 = λ x. SameMake x d in
        let F : Device → Type 0 = λ x. SameOutside x.chip (risked_at a.journal) x.flash d.flash in
        let G : List ℕ → Type 0 = λ j. SameOutside old.device.chip (risked_at j) old.device.flash d.flash in
        let H : List ℕ → Type 0 = λ j. Harmless d (byte_at_journal j) (risked_at j) in
        let V : Device → Type 0 = λ x. (most : ℕ) → 267 ≤ most → Awaits (byte_at_journal a.journal) most x → Awaits (byte_at_journal a.journal) most d in
        let W : List ℕ → Type 0 = λ j. (most : ℕ) → 267 ≤ most → Awaits (byte_at_journal j) most old.device → Awaits (byte_at_journal j) most d in
        record {
          journal_same = e.journal_same ∙ loads.journal;
          make = subst M loads.same_device e.make;
          flash = subst G loads.journal (subst F loads.same_device e.flash);
          harmless = subst H loads.journal e.harmless;
          awaits = subst W loads.journal (subst V loads.same_device e.awaits);
          owed = e.owed;
        }

    pub harmless_then : Harmless old.device (byte_at_journal old.journal) (risked_at old.journal) → Harmless a.device (byte_at_journal a.journal) (risked_at a.journal)
    harmless_then h =
        let D : Device → Type 0 = λ d. Harmless d (byte_at_journal old.journal) (risked_at old.journal) in
        let J : List ℕ → Type 0 = λ j. Harmless a.device (byte_at_journal j) (risked_at j) in
        subst J (sym loads.journal) (subst D (sym loads.same_device) h)

    pub within_then : IsWithinLimit chip old → IsWithinLimit chip a
    within_then within =
        let P : List ℕ → Device → Type 0 = λ j d. Awaits (byte_at_journal j) (settling_limit chip.kind (is_greeted j) (intent_of (state_at j))) d in
        subst₂ P (sym loads.journal) (sym loads.same_device) within

    pub owed_then : length old.device.owed ≤ 4096 → length a.device.owed ≤ 4096
    owed_then le = let e = ap (λ (d : Device). length d.owed) loads.same_device in omega (arith, e, le)

    misfit_then : (header2 : JournalHeader) (chip2 : ChipData) (refusal : Fault) → (state_at old.journal).header ≡ Some header2 → IsChipWith table header2.id chip2 → undo_misfit chip2 header2.id old.device ≡ Some refusal
        → undo_misfit chip chip.id a.device ≡ Some refusal
    misfit_then header2 chip2 refusal named2 listed2 misfit =
        let both : Some header2.id ≡ Some id = sym (ap (λ (o : Option JournalHeader). option_map (λ h. h.id) o) (header_text table l old a loads ∙ named2)) ∙ named in
        let own : header2.id ≡ id = cc in
        let chips : chip2 ≡ chip = listed_chip.only chip2 listed2.held (listed2.id_is ∙ own) in
        ap (λ (d : Device). undo_misfit chip chip.id d) loads.same_device ∙ ap (λ (n : ℕ). undo_misfit chip n old.device) (listed_chip.id_is ∙ sym own) ∙ ap (λ (p : ChipData). undo_misfit p header2.id old.device) (sym chips) ∙ misfit

    limit_then : (header2 : JournalHeader) (chip2 : ChipData) → (state_at old.journal).header ≡ Some header2 → IsChipWith table header2.id chip2 → IsWithinLimit chip2 old → IsWithinLimit chip old
    limit_then header2 chip2 named2 listed2 within =
        let both : Some header2.id ≡ Some id = sym (ap (λ (o : Option JournalHeader). option_map (λ h. h.id) o) (header_text table l old a loads ∙ named2)) ∙ named in
        let own : header2.id ≡ id = cc in
        let chips : chip2 ≡ chip = listed_chip.only chip2 listed2.held (listed2.id_is ∙ own) in
        let P : ChipData → Type 0 = λ c. IsWithinLimit c old in
        subst P chips within

    module _ (count : ℕ) (new : RigState) where
      -- what doesn't come to this
      pub contract_after : (result : Result ℕ Fault)
          → ((refusal : Fault) → Harmless old.device (byte_at_journal old.journal) (risked_at old.journal) → length old.device.owed ≤ 4096 → IsWithinLimit chip old → undo_misfit chip chip.id a.device ≡ Some refusal → Refuses (IsElsewhere old) refusal old new result)
          → ((flashes : List (List ℕ)) → Undoable flashes old.device old.journal → IsChipWith table old.device.chip.id old.device.chip → Undoes (taken_count count (length flashes)) flashes old new result)
          → UndoContract table count old new result
      contract_after result elsewhere undoes =
          record {
            refused = λ h refusal r. none_some (undo_refusal (journal_of old.journal) table) refusal unrefused r;
            refused_calls = λ h refusal r. none_some (undo_refusal (journal_of old.journal) table) refusal unrefused r;
            nothing = λ h s g z. let d = depth_of table l old a loads s g in absurd (omega (arith, d, z, some));
            nothing_calls = λ h s g z. let d = depth_of table l old a loads s g in absurd (omega (arith, d, z, some));
            elsewhere = λ h accepted least header2 chip2 named2 listed2 harmless owed within refusal misfit.
                elsewhere refusal harmless owed (limit_then header2 chip2 named2 listed2 within) (misfit_then header2 chip2 refusal named2 listed2 misfit);
            undoes = λ h flashes u listed. undoes flashes u listed;
            spared = λ h empty. absurd (not_empty table l old a loads some empty);
          }

      pub refuses_elsewhere : (refusal e x : Fault) → x ≡ e → Harmless old.device (byte_at_journal old.journal) (risked_at old.journal) → length old.device.owed ≤ 4096 → undo_misfit chip chip.id a.device ≡ Some refusal → Meets {T = Unit {0}} chip a new (Err e) → Refuses {T = ℕ} (IsElsewhere old) refusal old new (Err x)
      refuses_elsewhere refusal e x is harmless owed misfit meets =
          record {
            moments = joined (IsUntouched old) (IsElsewhere a) (IsElsewhere old) old a new loads.moments meets.moments (untouched_stray laws old harmless owed) elsewhere_back;
            honest = meets.honest;
            left = elsewhere_back new.device new.journal meets.left;
            answers = ⊎_elim
                (λ outside. inr (subst IsOutsideFault (sym is) outside))
                (λ says. inl (let both : Some e ≡ Some refusal = sym says ∙ misfit in let same : e ≡ refusal = cc in is ∙ same))
                meets.refused;
          }

-- each promise is one of an honest Rig
pub contract_when : (table : List ChipData) (count : ℕ) (old new : RigState) (result : Result ℕ Fault) → (old.is_honest → UndoContract table count old new result) → UndoContract table count old new result
contract_when table count old new result f =
    record {
      refused = λ h. (f h).refused h;
      refused_calls = λ h. (f h).refused_calls h;
      nothing = λ h. (f h).nothing h;
      nothing_calls = λ h. (f h).nothing_calls h;
      elsewhere = λ h. (f h).elsewhere h;
      undoes = λ h. (f h).undoes h;
      spared = λ h. (f h).spared h;
    }

-- the fault that a call hands on
pub err_as : {T : Type 0} (P : Result T Fault → Type 0) (result : Result T Fault) (e : Fault) → IsErrAnd result (λ x. x ≡ e) → ((x : Fault) → x ≡ e → P (Err x)) → P result
err_as P (Ok x) e is f = absurd is
err_as P (Err x) e is f = f x is
