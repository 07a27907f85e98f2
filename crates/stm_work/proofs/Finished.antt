-- A journal that was loaded, none of whose writes and erases is unfinished.
use Rattle.std.proofs.Common.{◌≡◌, ℕ, List, false, sym, ◌∙◌, ap}
use Rattle.stm_journal.specs.lemmas.ForgetLaws.{depth-forgets, is_unfinished-forgets}
use Rattle.stm_journal.proofs.Names.{depth, is_unfinished, IsLoaded, Loaded, StateData}
use Rattle.stm_work.specs.Keeping.{IsFinished}

pub finished : (l : Loaded) (journal : List ℕ) (count : ℕ) → IsLoaded l journal
    → is_unfinished l.state ≡ false → count ≡ depth l.state → IsFinished journal count
finished l journal count is ended counted = record {
  state = is.text;
  means = is.means;
  ended =
      sym (is_unfinished-forgets is.text)
      ∙ ap (λ (s : StateData). is_unfinished s) (sym is.state) ∙ ended;
  count_is =
      sym (depth-forgets is.text) ∙ ap (λ (s : StateData). depth s) (sym is.state) ∙ sym counted;
}
