use Rattle.std.proofs.Common.{◌≡◌, ◌∙◌, ◌/◌, [], ℕ, length, ap₂, append-nil, refl, arith}
use Rattle.stm_wire.proofs.Names.{page_size}
use Rattle.stm_session.proofs.Names.{AreReadsOf, Begin, of_refusal, page_address, page_reads, read_steps}
use Rattle.stm_session.proofs.CutShort.{halts}
use Rattle.stm_session.proofs.Exits.{in_page}
use Rattle.stm_session.proofs.reading_again.read_again.Goals as goal

pub returns-then-not-holds-clause-stops : goal.returns-then-not-holds-clause-stops
returns-then-not-holds-clause-stops g c torn =
    let V = g.R.Rig.view in
    let chip = c.args.chip.now in
    let n = c.args.n in
    let start = c.page_start-start.result in
    let size = c.page_size-size.result in
    let came = c.in_ok-came.came.items in
    let many : length came ≡ page_size chip n = omega (arith, c.in_ok-came.ensures.size, c.page_size-size.ensures.bytes) in
    let steps = read_steps start (size / 256) came in
    let are : steps ≡ page_reads chip n came = ap₂ (λ (k z : ℕ). read_steps k (z / 256) came) c.page_start-start.ensures.address c.page_size-size.ensures.bytes in
    let inside = in_page chip n start size c.requires.exists c.page_start-start.ensures.address c.page_size-size.ensures.bytes in
    halts (Begin (AreReadsOf (page_address chip n) (page_size chip n))) of_refusal torn steps (V c.args.rig.now) (V c.read_range.new.rig) ([], record { held = came; size = many; is = append-nil steps ∙ are }) refl
    (c.in_ok-came.ensures.order n inside c.page_size-size.ensures.blocks.1 torn)
