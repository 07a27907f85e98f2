-- Info, exit by exit.
use Rattle.std.proofs.Common.{◌≡◌, ◌≢◌, List, [], Some, Result, Ok, Err, IsErrAnd, refl, sym, subst}
use Rattle.stm_wire.proofs.Names.{ChipData, GoesOn, RigState}
use Rattle.stm_journal.proofs.Names.{AreFetches, IsUntouched, journal_of}
use Rattle.stm_session.proofs.Names.{Fault, Info, InfoContract, IsSafe, Opened, Opens, RefusesUnsent, unsent_refusal}
use Rattle.stm_session.specs.declared.fault.Fault.TheVariants as fault
use Rattle.stm_session.proofs.Informing.{informs_all, informs_nothing}

-- the session isn't opened
pub info_unopened : (table : List ChipData) (old new : RigState) (e : Fault) (result : Result Info Fault)
    → (old.is_honest → (refusal : Fault) → unsent_refusal (journal_of old.journal) ≡ Some refusal → RefusesUnsent {T = Opened} (IsUntouched old) refusal old new (Err e))
    → (old.is_honest → (refusal : Fault) → unsent_refusal (journal_of old.journal) ≡ Some refusal → GoesOn AreFetches old.calls new.calls)
    → (old.is_honest → IsSafe old.device → Opens table old new (Err e)) → (old.is_honest → old.journal ≡ [] → e ≢ fault.Memory) → IsErrAnd result (λ x. x ≡ e)
    → InfoContract table old new result
info_unopened table old new e (Ok x) unsent calls opens memory is = absurd is
info_unopened table old new e (Err y) unsent calls opens memory is =
    let C : Fault → Type 0 = λ x. InfoContract table old new (Err x) in
    subst C (sym is)
    (record {
      unsent = λ h refusal said.
          let r = unsent h refusal said in
          record { moments = r.moments; honest = r.honest; left = r.left; answers = r.answers };
      unsent_calls = calls;
      informs = λ h safe. informs_nothing table old new e (Err e) (opens h safe) refl;
      spared = memory;
    })

-- it is opened
pub info_opened : (table : List ChipData) (old new : RigState) (opened : Opened) (info : Info)
    → (old.is_honest → (refusal : Fault) → unsent_refusal (journal_of old.journal) ≡ Some refusal → RefusesUnsent {T = Opened} (IsUntouched old) refusal old new (Ok opened))
    → (old.is_honest → (refusal : Fault) → unsent_refusal (journal_of old.journal) ≡ Some refusal → GoesOn AreFetches old.calls new.calls)
    → (old.is_honest → IsSafe old.device → Opens table old new (Ok opened)) → info.id ≡ opened.chip.now.id → info.commands ≡ opened.commands
    → InfoContract table old new (Ok info)
info_opened table old new opened info unsent calls opens id commands =
    record {
      unsent = λ h refusal said. absurd (unsent h refusal said).answers;
      unsent_calls = calls;
      informs = λ h safe. informs_all table old new opened info (opens h safe) id commands;
      spared = λ h empty. tt;
    }
