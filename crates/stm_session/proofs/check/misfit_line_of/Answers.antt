use Rattle.std.proofs.Common.{◌≡◌, ◌+◌, Some, if◌then◌else◌, Bool, List, Option, ℕ, refl, sym, ◌∙◌, ap, arith, drop}
use Rattle.stm_journal.proofs.Names.{StateData}
use Rattle.stm_journal.specs.declared.kept.Kept.{Kept}
use Rattle.stm_session.proofs.Names.{first_of, least_with, lesser, misfit_lines_of, segment_pages}
use Rattle.stm_session.proofs.Misfits.{below-limit, below-step, kept-within, sound-pages, misfit-step, misfit-end}
use Rattle.stm_session.proofs.check.misfit_line_of.Goals as goal
use Rattle.stm_session.proofs.check.misfit_line_of.Goals.{then-not-fits, else-not-fits}

pub loop-n-init : goal.loop-n-init
loop-n-init c =
    record {
      line = refl;
      count = omega (arith, below-limit 65536 (segment_pages c.args.journal.now.state c.args.k) (sound-pages c.args.journal.now.state c.args.k c.requires));
    }

pub loop-n-smaller : goal.loop-n-smaller
loop-n-smaller c = omega (arith, kept-within c.args.journal.now.state c.args.k c.loop-n.i c.in-Some.n c.in-Some.line c.in-Some.ensures)

pub loop-n-preserved : goal.loop-n-preserved
loop-n-preserved c =
    let s : StateData = c.args.journal.now.state in
    let pages : List Kept = segment_pages s c.args.k in
    let next : (o : Option ℕ) (b : Bool) → Option ℕ = λ o b. if b then o else Some (lesser o c.in-Some.line) in
    let least : c.if-not-fits.least ≡ next c.loop-n.least c.fits.result = elim c.if-not-fits.branch [
      | then-not-fits w ↦ w.least-is ∙ ap (λ (line : ℕ). Some line) w.lesser.ensures ∙ ap (next c.loop-n.least) (sym w.if-not-fits.true)
      | else-not-fits w ↦ w.least-is ∙ ap (next c.loop-n.least) (sym w.if-not-fits.false)
    ] in
    record {
      line =
          ap (λ o. least_with o (misfit_lines_of (first_of c.args.most c.args.chip.now) pages (drop (c.loop-n.i + 1) pages))) least
          ∙ sym (misfit-step (first_of c.args.most c.args.chip.now) s c.args.k c.loop-n.i c.in-Some.n c.in-Some.line c.loop-n.least c.fits.result c.requires c.in-Some.ensures c.fits.ensures.value)
          ∙ c.loop-n.invariant.line;
      count = omega (arith, below-step s c.args.k c.loop-n.i c.in-Some.n c.in-Some.line c.fits.ensures.number c.in-Some.ensures);
    }

pub returns : goal.returns
returns c = sym (misfit-end (first_of c.args.most c.args.chip.now) c.args.journal.now.state c.args.k c.loop-n.i c.loop-n.least c.in_default.ensures) ∙ c.loop-n.invariant.line
