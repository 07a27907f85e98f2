use Rattle.std.proofs.Common.{◌≡◌, Bool, List, refl, subst, sym}
use Rattle.stm_words.specs.declared.image_file.ImageFile.{ImageFile}
use Rattle.stm_words.specs.declared.task.Task.{Task}
use Rattle.stm_words.specs.declared.task.Task.TheVariants as task
use Rattle.stm_work.specs.declared.action.Action.{Action}
use Rattle.stm_work.specs.declared.action.Action.TheVariants as action
use Rattle.stm_work.specs.declared.content.Content.{Content}
use Rattle.stm_work.specs.Action.{IsFor}
use Rattle.stm_work.specs.Content.{ComeOfFiles}
use Rattle.stm_work.proofs.action.Action.of.Goals as goal

pub returns-then-verifies : goal.returns-then-verifies
returns-then-verifies g c =
    let content : Content = c.in_ok-content-in-Write.content in
    let does : Action = action.WriteAndVerify content in
    let F : List ImageFile → Type 0 = λ files. ComeOfFiles files content in
    let B : Bool → Type 0 = λ verifies. IsFor (task.Write c.in-Write.images verifies) does in
    let T : Task → Type 0 = λ asked. IsFor asked does in
    subst T (sym c.in-Write.is) (subst B (sym c.if-verifies.true)
    (content, refl, subst F c.deref.ensures.value (c.args.table.now, c.in_ok-content-in-Write.ensures)))

pub returns-in-Write : goal.returns-in-Write
returns-in-Write g c =
    let content : Content = c.in_ok-content-in-Write.content in
    let does : Action = action.Write content in
    let F : List ImageFile → Type 0 = λ files. ComeOfFiles files content in
    let B : Bool → Type 0 = λ verifies. IsFor (task.Write c.in-Write.images verifies) does in
    let T : Task → Type 0 = λ asked. IsFor asked does in
    subst T (sym c.in-Write.is) (subst B (sym c.if-verifies.false)
    (content, refl, subst F c.deref.ensures.value (c.args.table.now, c.in_ok-content-in-Write.ensures)))

pub returns-in-Verify : goal.returns-in-Verify
returns-in-Verify g c =
    let content : Content = c.in_ok-read_images-in-Verify.field-0 in
    let F : List ImageFile → Type 0 = λ files. ComeOfFiles files content in
    let T : Task → Type 0 = λ asked. IsFor asked (action.Verify content) in
    subst T (sym c.in-Verify.is)
    (content, refl, subst F c.deref-in-Verify.ensures.value (c.args.table.now, c.in_ok-read_images-in-Verify.ensures))
