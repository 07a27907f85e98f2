use Rattle.std.proofs.Common.{◌∙◌, []}
use Rattle.std.proofs.lemmas.Result.{on_ok_weaker}
use Rattle.stm_journal.proofs.Names.{allows, Entry, filled}
use Rattle.stm_journal.proofs.Appending.{Appends-added}
use Rattle.stm_journal.proofs.InTexts.{InText-added}
use Rattle.stm_journal.proofs.Ties.{AllAllowed-one}
use Rattle.std.proofs.Common.{sym, subst, IsTrue}
use Rattle.stm_journal.proofs.journal.Journal.add.Goals as goal

pub returns-clause-honest : goal.returns-clause-honest
returns-clause-honest g c = λ honest tied printable.
    let V = g.R.Rig.view in
    let e = filled c.args.entry c.args.held.now in
    let A : Entry → Type 0 = λ x. IsTrue (allows c.args.self.now.state x) in
    let adds = c.append.ensures.honest honest in
    Appends-added e [] c.args.self.now c.prepare.new.self c.deref.result.now (V c.args.rig.now) (V c.append.new.rig) c.append.result (g.met.R.Rig.model c.append.new.rig adds.honest)
    (record { text = c.deref.ensures.value ∙ c.in_ok-text.ensures.text; after = c.in_ok-text.ensures.after }) tied (AllAllowed-one e c.args.self.now printable (subst A (sym c.requires.held) c.requires.allowed)) adds

pub returns-clause-text : goal.returns-clause-text
returns-clause-text g c = λ honest tied printable.
    let V = g.R.Rig.view in
    let e = filled c.args.entry c.args.held.now in
    let A : Entry → Type 0 = λ x. IsTrue (allows c.args.self.now.state x) in
    on_ok_weaker c.append.result (λ more. InText-added c.args.self.now e (V c.args.rig.now).journal (V c.append.new.rig).journal tied (subst A (sym c.requires.held) c.requires.allowed) printable more)
    (returns-clause-honest g c honest tied printable).bytes.added
