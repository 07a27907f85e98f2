use Rattle.std.proofs.Common.{refl, subst, sym, Some}
use Rattle.stm_work.specs.Answer.{IsBeside}
use Rattle.stm_work.specs.TriedBoards.{table_texts}
use Rattle.stm_work.specs.declared.answer.Answer.{Answer}
use Rattle.stm_work.specs.declared.answer.Answer.TheVariants as answer
use Rattle.stm_work.proofs.answer.Answer.beside.Goals as goal

pub returns-in_ok-format-in-Identified : goal.returns-in_ok-format-in-Identified
returns-in_ok-format-in-Identified c =
    let told : Answer =
    answer.Identified c.in-Identified.told (Some c.in_ok-format-in-Identified.field-0) in
    let P : Answer → Type 0 = λ a. IsBeside (table_texts c.args.tables.now) a told in
    subst P (sym c.in-Identified.is) (c.in_ok-format-in-Identified.field-0, refl)
