use Rattle.std.proofs.Common.{ℕ, ◌++◌, ◌+◌, ◌<◌, ◌∷◌, [], List, true, false, ap, sym, ◌∙◌, append_assoc, drop, subst}
use Rattle.stm_journal.proofs.Names.{StateData}
use Rattle.stm_files.specs.Logging.{kept_pages_text, numbers_of, logged_pages}
use Rattle.stm_files.proofs.LoggedPages.{counted, number-at, step}
use Rattle.stm_files.proofs.logging.add_pages.Goals as goal
use Rattle.stm_files.proofs.logging.add_pages.Goals.{then-not-follows+in_ok-add_range, else-not-follows}

pub unreachable-requires : goal.unreachable-requires
unreachable-requires c =
    counted c.args.journal.now.state c.args.k c.loop-i.i (sym c.in_default-kept.is ∙ c.kept-in-loop-i.ensures)
    (subst (λ m. c.loop-i.i < m) c.kept_count-i-end.ensures c.loop-i-test.true)

pub loop-i-init : goal.loop-i-init
loop-i-init c =
    λ segment is.
    let s : StateData = c.args.journal.now.state in
    let out : List ℕ = c.args.out.now.items in
    let p : ℕ = c.in-Some.page in
    let rest : List ℕ = drop 1 (numbers_of segment) in
    let at = number-at s c.args.k segment 0 p c.in-Some.field-0-1 is c.in-Some.ensures in
    ap (λ (xs : List ℕ). xs ++ logged_pages p p rest) c.in_ok-push.ensures.items
    ∙ append_assoc out (58 ∷ []) (logged_pages p p rest) ∙ ap (λ ns. out ++ kept_pages_text ns) (sym at)

pub loop-i-preserved : goal.loop-i-preserved
loop-i-preserved c =
    λ segment is.
    let s : StateData = c.args.journal.now.state in
    let n : ℕ = c.in-Some-kept.page in
    let pages : List ℕ = drop c.loop-i.i (numbers_of segment) in
    let rest : List ℕ = drop (c.loop-i.i + 1) (numbers_of segment) in
    let out : List ℕ = c.loop-i.out.items in
    let at = number-at s c.args.k segment c.loop-i.i n c.in-Some-kept.field-0-1 is c.in-Some-kept.ensures in
    elim c.if-not-follows.branch [
      | then-not-follows+in_ok-add_range w ↦
          rw (w.out-is, w.first-is)
          (ap (λ (xs : List ℕ). xs ++ logged_pages n n rest) w.in_ok-add_range.ensures
          ∙ step c.loop-i.first c.loop-i.last n pages rest out false at (sym w.if-not-follows.true ∙ c.follows.ensures)
          ∙ c.loop-i.invariant segment is)
      | else-not-follows w ↦
          rw (w.out-is, w.first-is)
          (step c.loop-i.first c.loop-i.last n pages rest out true at (sym w.if-not-follows.false ∙ c.follows.ensures)
          ∙ c.loop-i.invariant segment is)
    ]
