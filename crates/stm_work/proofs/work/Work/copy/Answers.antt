use Rattle.std.proofs.Common.{rules, ◌≡◌, Option, Some, refl, subst, sym}
use Rattle.stm_work.specs.declared.action.Action.TheVariants as action
use Rattle.stm_work.specs.declared.content.Content.{Content}
use Rattle.stm_work.specs.declared.work.Work.{Work}
use Rattle.stm_work.specs.declared.work.Work.TheVariants as work
use Rattle.stm_work.specs.Action.{IsDoneAgain}
use Rattle.stm_work.proofs.work.Work.copy.Goals as goal

pub returns-in_ok-copy-in-Act-Write : goal.returns-in_ok-copy-in-Act-Write
returns-in_ok-copy-in-Act-Write c =
    let copy : Content = c.in_ok-copy-in-Act-Write.field-0 in
    let again : Option Work = Some (work.Act (action.Write copy)) in
    let is : c.args.self.now ≡ work.Act (action.Write c.in-Act-Write.content) = search rules in
    let P : Work → Type 0 = λ does. IsDoneAgain does again in
    subst P (sym is) (copy, c.in_ok-copy-in-Act-Write.ensures, refl)

pub returns-in_ok-copy-in-Act-WriteAndVerify : goal.returns-in_ok-copy-in-Act-WriteAndVerify
returns-in_ok-copy-in-Act-WriteAndVerify c =
    let copy : Content = c.in_ok-copy-in-Act-WriteAndVerify.field-0 in
    let again : Option Work = Some (work.Act (action.WriteAndVerify copy)) in
    let is : c.args.self.now ≡ work.Act (action.WriteAndVerify c.in-Act-WriteAndVerify.content) = search rules in
    let P : Work → Type 0 = λ does. IsDoneAgain does again in
    subst P (sym is) (copy, c.in_ok-copy-in-Act-WriteAndVerify.ensures, refl)
