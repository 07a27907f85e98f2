-- Each block adds its frame, or none.
use Rattle.std.proofs.Common.{◌≡◌, ◌∙◌, ℕ, ◌+◌, ◌*◌, ◌/◌, ◌++◌, length, refl, sym, ap, arith}
use Rattle.std.proofs.lemmas.List.{append-nil}
use Rattle.stm_chip.specs.Plan.{frames_of}
use Rattle.stm_chip.proofs.Fitting.{frames_fit}
use Rattle.stm_chip.proofs.Programming.{frames_more, written_all}
use Rattle.stm_chip.proofs.plan.page_frames.Goals as goal
use Rattle.stm_chip.proofs.plan.page_frames.Goals.{in-Some+in_ok-push, in_default}

pub loop-n-init : goal.loop-n-init
unfolding frames_of
loop-n-init c = c.new-frames.ensures.items

pub loop-n-preserved : goal.loop-n-preserved
loop-n-preserved c =
    let n = c.loop-n.n in
    let more = frames_more c.args.erased c.args.page.now n (256 * n + 256) refl in
    let frames = c.loop-n.frames.items in
    elim c.match-frame_of.branch [
      | in-Some+in_ok-push w ↦ cc (more, w.in_ok-push.ensures.items, w.in-Some.ensures)
      | in_default w ↦ rw w.frames-is (c.loop-n.invariant ∙ sym (append-nil (frames_of c.args.erased c.args.page.now n)) ∙ ap (λ xs. frames_of c.args.erased c.args.page.now n ++ xs) w.in_default.ensures ∙ sym more)
    ]

pub returns-clause-gives : goal.returns-clause-gives
returns-clause-gives c =
    let erased = c.args.erased in
    let page = c.args.page.now in
    let all : c.loop-n.n ≡ length page / 256 = omega (arith, c.loop-n-test.false, c.loop-n.auto.n-end) in
    rw (c.loop-n.invariant ∙ ap (λ (n : ℕ). frames_of erased page n) all) (written_all erased page (length page) c.requires.blocks refl)

pub returns-clause-fits : goal.returns-clause-fits
returns-clause-fits c =
    let erased = c.args.erased in
    let page = c.args.page.now in
    let all : c.loop-n.n ≡ length page / 256 = omega (arith, c.loop-n-test.false, c.loop-n.auto.n-end) in
    rw (c.loop-n.invariant ∙ ap (λ (n : ℕ). frames_of erased page n) all) (frames_fit erased page c.requires.blocks)
