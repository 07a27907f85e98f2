-- What an undo puts on any line.
use Rattle.std.proofs.Common.{◌≡◌, ℕ, ◌+◌, ◌<◌, ◌≤◌, Bool, true, false, List, Option, Some, None, Result, Ok, Err, IsErrAnd, refl, sym, ◌∙◌, subst, arith}
use Rattle.std.specs.Prelude.{IfOk}
use Rattle.stm_wire.specs.declared.intent.Intent.{Intent}
use Rattle.stm_wire.proofs.Names.{ChipData, GoesOn, IsPart, IsSession, RigState}
use Rattle.stm_wire.specs.lemmas.PartLaws.{session_joins, session_longer, session_of_any, silent_is_session, silent_then_session}
use Rattle.stm_chip.specs.Document.{IsChipWith}
use Rattle.stm_journal.proofs.Names.{AreFetches}
use Rattle.stm_session.proofs.Names.{byte_of, Fault, is_whole, limit_of, most_of_confirming, most_of_reaching, most_of_undo, SendsAsUndo, settling_way}
use Rattle.stm_session.proofs.Sending.{fetches_get, fetches_put}

-- a fault that is passed on
pub sends_failed : (table : List ChipData) (count : ℕ) (old new : RigState) (e : Fault) (result : Result ℕ Fault) → IsErrAnd result (λ x. x ≡ e) → SendsAsUndo table count old new (Err e) → SendsAsUndo table count old new result
sends_failed table count old new e (Ok n) is p = absurd is
sends_failed table count old new e (Err x) is p = let P : Fault → Type 0 = λ y. SendsAsUndo table count old new (Err y) in subst P (sym is) p

-- the chip of the table that was found by an id
pub own-id : (table : List ChipData) (id : ℕ) (chip : ChipData) → IsChipWith table id chip → IsChipWith table chip.id chip
own-id table id chip is = record { id_is = refl; held = is.held; only = λ other held same. is.only other held (same ∙ is.id_is) }

module _ (table : List ChipData) (count : ℕ) (old : RigState) where
  -- nothing was sent
  pub sends_nothing : (new : RigState) (result : Result ℕ Fault) → GoesOn AreFetches old.calls new.calls → IfOk result (λ n. n ≡ 0) → SendsAsUndo table count old new result
  sends_nothing new result fetches none =
      record {
        chip = None;
        listed = tt;
        greeted = false;
        intent = None;
        taken = 0;
        limit = omega arith;
        asked = λ some. omega arith;
        told = none;
        calls = silent_is_session None 0x7F 0 (is_whole result) (most_of_reaching 0 + (most_of_confirming + most_of_undo 0)) AreFetches old.calls new.calls fetches_put fetches_get fetches;
      }

  -- the journal is one of a chip of the table
  module _ (greeted : Bool) (intent : Option Intent) (id : ℕ) (chip : ChipData) (listed : IsChipWith table id chip) where
    -- a device was met, or not
    pub sends_met : (mid new : RigState) (e : Fault) → GoesOn AreFetches old.calls mid.calls
        → (let way = settling_way chip.kind greeted intent in GoesOn (IsSession None (byte_of way) (limit_of way) (is_whole {T = ℕ} (Err e)) (most_of_reaching (limit_of way))) mid.calls new.calls) → SendsAsUndo table count old new (Err e)
    sends_met mid new e fetches meets =
        let way = settling_way chip.kind greeted intent in
        let byte = byte_of way in
        let limit = limit_of way in
        let whole = is_whole {T = ℕ} (Err e) in
        record {
          chip = Some chip;
          listed = own-id table id chip listed;
          greeted = greeted;
          intent = intent;
          taken = 0;
          limit = omega arith;
          asked = λ some. omega arith;
          told = tt;
          calls = session_longer (Some chip) byte limit whole (most_of_reaching limit) (most_of_reaching limit + (most_of_confirming + most_of_undo 0)) old.calls new.calls (omega arith)
              (session_of_any (Some chip) byte limit whole (most_of_reaching limit) old.calls new.calls (silent_then_session None byte limit whole (most_of_reaching limit) AreFetches old.calls mid.calls new.calls fetches_put fetches_get fetches meets));
        }

    -- and segments were undone
    pub sends_back : (taken : ℕ) (mid met new : RigState) (result : Result ℕ Fault) → taken ≤ 65535 → (0 < count → taken ≤ count) → IfOk result (λ n. n ≡ taken)
        → GoesOn AreFetches old.calls mid.calls → (let way = settling_way chip.kind greeted intent in GoesOn (IsSession None (byte_of way) (limit_of way) true (most_of_reaching (limit_of way))) mid.calls met.calls)
        → GoesOn (IsPart (Some chip) (is_whole result) (most_of_confirming + most_of_undo taken)) met.calls new.calls → SendsAsUndo table count old new result
    sends_back taken mid met new result most asked told fetches meets back =
        let way = settling_way chip.kind greeted intent in
        let byte = byte_of way in
        let limit = limit_of way in
        record {
          chip = Some chip;
          listed = own-id table id chip listed;
          greeted = greeted;
          intent = intent;
          taken = taken;
          limit = most;
          asked = asked;
          told = told;
          calls = session_joins (Some chip) byte limit (is_whole result) (most_of_reaching limit) (most_of_confirming + most_of_undo taken) old.calls met.calls new.calls
              (session_of_any (Some chip) byte limit true (most_of_reaching limit) old.calls met.calls (silent_then_session None byte limit true (most_of_reaching limit) AreFetches old.calls mid.calls met.calls fetches_put fetches_get fetches meets)) back;
        }
