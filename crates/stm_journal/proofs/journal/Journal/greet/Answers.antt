use Rattle.std.proofs.Common.{◌≤◌, ◌-◌, ◌^◌, ◌++◌, ℕ, List, length, true, sym, subst, arith}
use Rattle.stm_journal.proofs.Names.{greeting_line, IsLoaded, Loaded, loaded_greeted}
use Rattle.stm_journal.proofs.Greeting.{pass-greeting, greeted-as, same-state, whole-of}
use Rattle.stm_journal.proofs.journal.Journal.greet.Goals as goal

pub returns-clause-honest : goal.returns-clause-honest
returns-clause-honest g c = λ honest tied.
    let V = g.R.Rig.view in
    let l : Loaded = c.args.self.now in
    let adds = c.in_ok-append.ensures.honest honest in
    let old : List ℕ = (V c.args.rig.now).journal in
    let J : List ℕ → Type 0 = λ xs. length xs ≤ 2 ^ 63 - 1 in
    let tied2 : IsLoaded (loaded_greeted l) (old ++ greeting_line) =
    pass-greeting l old tied (whole-of l.is_torn l.is_greeted c.requires) (subst J adds.added (g.met.R.Rig.model c.append.new.rig adds.honest).journal)
    in
    let L : Loaded → Type 0 = λ x. IsLoaded x (old ++ greeting_line) in
    let after = greeted-as l c.self.inside.state c.self.inside.lines c.self.inside.size c.saturating_add-self-inside.result c.saturating_add-self-inside-2.result c.self.inside.is_torn c.self.inside.is_greeted
    c.self.view_is (omega (arith, c.saturating_add-self-inside.ensures)) (omega (arith, c.saturating_add-self-inside-2.ensures))
    in
    let B : List ℕ → Type 0 = λ xs. IsLoaded (record { state = c.self.inside.state; lines = c.saturating_add-self-inside.result; size = c.saturating_add-self-inside-2.result; is_torn = c.self.inside.is_torn; is_greeted = true }) xs in
    record { bytes = adds; loaded = subst B (sym adds.added) (subst L (sym after) tied2) }

pub returns-clause-text : goal.returns-clause-text
returns-clause-text g c = λ honest tied s s2 means means2.
    let V = g.R.Rig.view in
    let l : Loaded = c.args.self.now in
    same-state l (V c.args.rig.now).journal (V c.append.new.rig).journal s s2 tied (whole-of l.is_torn l.is_greeted c.requires) (c.in_ok-append.ensures.honest honest).added means means2
