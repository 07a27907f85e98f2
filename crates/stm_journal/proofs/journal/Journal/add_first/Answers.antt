use Rattle.std.proofs.Common.{◌∙◌, ◌∷◌, [], arith}
use Rattle.stm_journal.specs.declared.entry.Entry.TheVariants.{Names, Opens}
use Rattle.stm_journal.proofs.Names.{version_for}
use Rattle.stm_journal.proofs.Appending.{Appends-added}
use Rattle.std.proofs.lemmas.Result.{on_ok_weaker}
use Rattle.stm_journal.proofs.InTexts.{InText-first}
use Rattle.stm_journal.proofs.Rules.{AllAllowed-first}
use Rattle.stm_journal.proofs.journal.Journal.add_first.Goals as goal

pub returns-clause-honest : goal.returns-clause-honest
returns-clause-honest g c = λ honest tied.
    let V = g.R.Rig.view in
    let adds = c.append.ensures.honest honest in
    Appends-added (Names (version_for c.args.unique.now) c.args.id c.args.unique.now) (Opens 1 ∷ []) c.args.self.now c.prepare_first.new.self c.deref.result.now (V c.args.rig.now) (V c.append.new.rig) c.append.result (g.met.R.Rig.model c.append.new.rig adds.honest)
    (record { text = c.deref.ensures.value ∙ c.in_ok-text.ensures.text; after = c.in_ok-text.ensures.after }) tied (AllAllowed-first c.args.id c.args.unique.now c.args.self.now (omega arith) c.requires.told c.requires.fresh) adds

pub returns-clause-text : goal.returns-clause-text
returns-clause-text g c = λ honest tied.
    let V = g.R.Rig.view in
    on_ok_weaker c.append.result (λ more. InText-first c.args.self.now c.args.id c.args.unique.now (V c.args.rig.now).journal (V c.append.new.rig).journal tied c.requires.fresh (omega arith) c.requires.told more)
    (returns-clause-honest g c honest tied).bytes.added
