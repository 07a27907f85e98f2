use Rattle.std.proofs.Common.{List, subst, sym, ap, Err, Ok, ℕ, ◌+◌, ◌∷◌, [], ◌∙◌, arith, length}
use Rattle.std.proofs.lemmas.Result.{err_from_is_err_and}
use Rattle.stm_journal.proofs.Names.{Appends, Entry, first_entries, Loaded}
use Rattle.stm_journal.proofs.InTexts.{InText-opened}
use Rattle.stm_journal.proofs.Appending.{Appends-ok, Appends-err}
use Rattle.stm_journal.specs.declared.entry.Entry.TheVariants.{Opens}
use Rattle.stm_journal.proofs.Rules.{begin-first-of, begin-opens-of}
use Rattle.stm_journal.proofs.journal.Journal.begin.Goals as goal

pub returns-in_err-add_first-in-None-clause-honest : goal.returns-in_err-add_first-in-None-clause-honest
returns-in_err-add_first-in-None-clause-honest g c = λ honest tied.
    let V = g.R.Rig.view in
    let p = err_from_is_err_and c.from_residual-in_err-add_first-in-None.result c.from_residual-in_err-add_first-in-None.ensures.1 in
    let l = c.args.self.now in
    let l2 = c.add_first.new.self in
    let a = V c.args.rig.now in
    let b = V c.add_first.new.rig in
    let E : List Entry → Type 0 = λ entries. Appends {T = ℕ} entries l l2 a b (Err c.in_err-add_first-in-None.field-0.0) in
    rw (p.1, p.2) (subst E (sym (begin-first-of c.args.id c.args.unique.now c.self.inside.state l.state (ap (λ (x : Loaded). x.state) c.self.view_is) c.depth-k.ensures.sound (sym c.header.ensures ∙ c.in-None.is)))
    (Appends-err c.in_err-add_first-in-None.field-0.0 (first_entries c.args.id c.args.unique.now) l l2 a b (c.in_err-add_first-in-None.ensures.honest honest tied)))

pub returns-in_err-add-in-Some-clause-honest : goal.returns-in_err-add-in-Some-clause-honest
returns-in_err-add-in-Some-clause-honest g c = λ honest tied.
    let V = g.R.Rig.view in
    let p = err_from_is_err_and c.from_residual.result c.from_residual.ensures.1 in
    let l = c.args.self.now in
    let l2 = c.add.new.self in
    let a = V c.args.rig.now in
    let b = V c.add.new.rig in
    let k : ℕ = c.depth-k.result + 1 in
    let E : List Entry → Type 0 = λ entries. Appends {T = ℕ} entries l l2 a b (Err c.in_err-add-in-Some.field-0.0) in
    rw (p.1, p.2) (subst E (sym (begin-opens-of c.args.id c.args.unique.now c.self.inside.state l.state c.in-Some.header k (ap (λ (x : Loaded). x.state) c.self.view_is) (sym c.header.ensures ∙ c.in-Some.is) (omega (arith, c.depth-k.ensures.value))))
    (Appends-err c.in_err-add-in-Some.field-0.0 (Opens k ∷ []) l l2 a b (c.in_err-add-in-Some.ensures.honest honest tied (omega (arith, c.depth-k.ensures.value, c.requires.room, ap (λ (x : Loaded). length x.state.stack) c.self.view_is)))))

pub returns-in_ok-add_first-in-None-clause-honest : goal.returns-in_ok-add_first-in-None-clause-honest
returns-in_ok-add_first-in-None-clause-honest g c = λ honest tied.
    let V = g.R.Rig.view in
    let l = c.args.self.now in
    let l2 = c.add_first.new.self in
    let a = V c.args.rig.now in
    let b = V c.add_first.new.rig in
    let E : List Entry → Type 0 = λ entries. Appends {T = ℕ} entries l l2 a b (Ok (c.depth-k.result + 1)) in
    subst E (sym (begin-first-of c.args.id c.args.unique.now c.self.inside.state l.state (ap (λ (x : Loaded). x.state) c.self.view_is) c.depth-k.ensures.sound (sym c.header.ensures ∙ c.in-None.is))) (Appends-ok tt (c.depth-k.result + 1) (first_entries c.args.id c.args.unique.now) l l2 a b (c.in_ok-add_first-in-None.ensures.honest honest tied))

pub returns-in_ok-add-in-Some-clause-text : goal.returns-in_ok-add-in-Some-clause-text
returns-in_ok-add-in-Some-clause-text g c = λ honest tied.
    let V = g.R.Rig.view in
    let l = c.args.self.now in
    let header = c.in-Some.header in
    InText-opened l c.args.id c.args.unique.now header (V c.args.rig.now).journal (V c.add.new.rig).journal tied
    (sym (ap (λ (x : Loaded). x.state.header) c.self.view_is) ∙ sym c.header.ensures ∙ c.in-Some.is) (omega arith) (sym c.is_other_board.ensures ∙ c.if-is_other_board.false)
    (c.in_ok-add-in-Some.ensures.text honest tied (omega (arith, c.depth-k.ensures.value, c.requires.room, ap (λ (x : Loaded). length x.state.stack) c.self.view_is)))
