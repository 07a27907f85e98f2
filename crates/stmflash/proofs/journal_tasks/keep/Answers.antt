use Rattle.std.proofs.Common.{◌≡◌, ℕ, None, Option, Result, Some, subst, sym}
use Rattle.std.specs.Prelude.{IfOk}
use Rattle.std.proofs.lemmas.Result.{IfOk-weaker}
use Rattle.stm_journal.proofs.Names.{StateData}
use Rattle.stm_work.specs.Keeping.{IsCutTo, IsGivenUp}
use Rattle.stm_work.specs.declared.answer.Answer.{Answer}
use Rattle.stmflash.specs.JournalTasks.{TellsKept}
use Rattle.stmflash.proofs.journal_tasks.keep.Goals as goal

tells : {E : Type 0} (P : Answer → Type 0) (o last : Option ℕ) (state : StateData) (r : Result Answer E) → o ≡ last → ((told : Answer) → P told → TellsKept last state told) → IfOk r P
    → IfOk r (λ told. (x : StateData) × TellsKept o x told)
tells P o last state r is gives done =
    IfOk-weaker r P (λ told. (x : StateData) × TellsKept o x told) (λ told p. (state, (let T : Option ℕ → Type 0 = λ q. TellsKept q state told in subst T (sym is) (gives told p)))) done

pub returns-in-Some-last : goal.returns-in-Some-last
returns-in-Some-last g c =
    let state = c.in_ok-journal.journal.state in
    tells (IsCutTo c.in-Some-last.last state) c.args.kept.now.last (Some c.in-Some-last.last) state c.keep_newest.result c.in-Some-last.is (λ told cut. cut) c.keep_newest.ensures

pub returns : goal.returns
returns g c =
    let state = c.in_ok-journal.journal.state in
    tells (IsGivenUp state) c.args.kept.now.last None state c.keep_loaded.result c.in-None.is (λ told up. up) c.keep_loaded.ensures
