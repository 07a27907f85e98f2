use Rattle.std.proofs.Common.{sym, subst, refl, []}
use Rattle.stm_journal.proofs.Names.{empty_loaded, empty_state, IsRead, Loaded, Summary}
use Rattle.stm_journal.proofs.load.Loader.new.Goals as goal

pub returns : goal.returns
returns c =
    let L : Loaded → Type 0 = λ l. IsRead l c.new-2.result [] in
    let S : Summary → Type 0 = λ y. IsRead empty_loaded y [] in
    subst L (sym c.new.ensures) (subst S (sym c.new-2.ensures) (record { text = empty_state; means = refl; state = refl; lines = refl; size = refl; greeted = refl; rest = refl }))
