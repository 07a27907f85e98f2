-- Asking a device who it is, exit by exit.
use Rattle.std.proofs.Common.{◌≡◌, ◌≢◌, [], Some, Result, Ok, Err, IfErr, IsErrAnd, sym, ◌∙◌, subst, inl, inr, ⊎_elim}
use Rattle.stm_wire.proofs.Names.{GoesOn, LossStaysHarmless, RigState}
use Rattle.stm_journal.proofs.Names.{AreFetches, journal_of}
use Rattle.stm_session.proofs.Names.{BeginsNothing, Fault, IdentifyContract, IsOfLine, IsSafe, LoadsUnless, TellsItself, Told, unsent_refusal}
use Rattle.stm_session.specs.declared.fault.Fault.TheVariants as fault
use Rattle.stm_session.proofs.Openings.{left_by_loading, line_is_no_memory, moments_of_asking, moments_of_loading, refused_nothing, tells_first, unsent_outside, untouched_is_unbegun}
use Rattle.stm_session.proofs.Reaching.{err_then, told_then}
use Rattle.stm_session.proofs.Unbegun.{further}

-- the journal couldn't be read, or is refused
pub identify_unread : {T : Type 0} (law : LossStaysHarmless) (old mid : RigState) (e : Fault) (result : Result Told Fault) → (old.is_honest → LoadsUnless {T = T} (unsent_refusal (journal_of old.journal)) old mid (Err e))
    → GoesOn AreFetches old.calls mid.calls → (old.is_honest → old.journal ≡ [] → e ≢ fault.Memory) → IsErrAnd result (λ x. x ≡ e)
    → IdentifyContract old mid result
identify_unread law old mid e (Ok told) loads calls memory is = absurd is
identify_unread law old mid e (Err y) loads calls memory is =
    let C : Fault → Type 0 = λ x. IdentifyContract old mid (Err x) in
    subst C (sym is)
    (record {
      unsent = λ h refusal said.
          let unread = loads h in
          record {
            moments = unread.moments;
            honest = unread.honest;
            left = unread.left;
            answers = ⊎_elim (λ failed. inr failed) (λ refused. inl (same refusal refused said)) unread.refused;
          };
      unsent_calls = λ h refusal said. calls;
      tells = λ h safe accepted.
          let unread = loads h in
          record {
            moments = moments_of_loading law old mid safe (unsent_refusal (journal_of old.journal)) (Err e) unread;
            fails = ⊎_elim (λ failed. unsent_outside e failed) (λ refused. refused_nothing (unsent_refusal (journal_of old.journal)) e accepted refused) unread.refused;
            left = untouched_is_unbegun law old safe mid.device mid.journal unread.left;
            honest = unread.honest;
            settled = tt;
            done = tt;
          };
      spared = memory;
    })
  where
    same : (refusal : Fault) → unsent_refusal (journal_of old.journal) ≡ Some e → unsent_refusal (journal_of old.journal) ≡ Some refusal → e ≡ refusal
    same refusal first second = let h : Some e ≡ Some refusal = sym first ∙ second in cc

-- it was read, and the device was asked
pub identify_asked : {T : Type 0} (law : LossStaysHarmless) (old mid new : RigState) (journal : T) (result : Result Told Fault) → (old.is_honest → LoadsUnless (unsent_refusal (journal_of old.journal)) old mid (Ok journal))
    → (mid.is_honest → IsSafe mid.device → BeginsNothing mid new result (TellsItself mid.device)) → IfErr result IsOfLine
    → IdentifyContract old new result
identify_asked law old mid new journal result loads asks heard =
    record {
      unsent = λ h refusal said. refused_nothing (unsent_refusal (journal_of old.journal)) refusal (loads h).accepted said;
      unsent_calls = λ h refusal said. refused_nothing (unsent_refusal (journal_of old.journal)) refusal (loads h).accepted said;
      tells = λ h safe accepted.
          let read = loads h in
          let left = left_by_loading law old mid safe (unsent_refusal (journal_of old.journal)) journal read in
          let asked = asks read.honest left.safe in
          record {
            moments = moments_of_asking law old mid safe (unsent_refusal (journal_of old.journal)) new journal result read asked;
            fails = asked.fails;
            left = further old mid left new.device new.journal asked.left;
            honest = asked.honest;
            settled = asked.settled;
            done = told_then result (TellsItself mid.device) (TellsItself old.device) (λ told tells. tells_first old mid left told tells) asked.done;
          };
      spared = λ h empty. err_then result IsOfLine (λ e. e ≢ fault.Memory) line_is_no_memory heard;
    }
