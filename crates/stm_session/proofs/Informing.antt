-- What an opened session tells.
use Rattle.std.proofs.Common.{◌≡◌, ◌⊎◌, List, Some, Result, Ok, Err, IsErrAnd, take, sym, ◌∙◌, ap, subst}
use Rattle.stm_wire.proofs.Names.{ChipData, RigState}
use Rattle.stm_journal.proofs.Names.{journal_of}
use Rattle.stm_session.proofs.Names.{Fault, Info, Informs, IsOutsideFault, Opened, opening_refusal, Opens}

-- a session that wasn't opened tells nothing
pub informs_nothing : (table : List ChipData) (old new : RigState) (e : Fault) (result : Result Info Fault) → Opens table old new (Err e) → IsErrAnd result (λ x. x ≡ e) → Informs table old new result
informs_nothing table old new e (Ok x) opens is = absurd is
informs_nothing table old new e (Err x) opens is =
    let P : Fault → Type 0 = λ y. IsOutsideFault y ⊎ (opening_refusal (journal_of old.journal) old.device table ≡ Some y) in
    record { moments = opens.moments; honest = opens.honest; left = opens.left; told = tt; settled = tt; accepted = tt; fails = subst P (sym is) opens.answers }

pub informs_all : (table : List ChipData) (old new : RigState) (opened : Opened) (info : Info) → Opens table old new (Ok opened) → info.id ≡ opened.chip.now.id → info.commands ≡ opened.commands
    → Informs table old new (Ok info)
informs_all table old new opened info opens id commands =
    record {
      moments = opens.moments;
      honest = opens.honest;
      left = opens.left;
      told = record {
        id = id ∙ opens.answers.id;
        commands = record {
          version = ap (λ x. x.version) commands ∙ opens.answers.commands.version;
          codes = ap (λ x. take x.count x.codes) commands ∙ opens.answers.commands.codes;
        };
      };
      settled = opens.answers.settled;
      accepted = opens.answers.accepted;
      fails = tt;
    }
