use Rattle.std.proofs.Common.{◌≡◌, [], take, sym, ◌∙◌, arith, fold}
use Rattle.std.proofs.lemmas.Grind.{common_steps}
use Rattle.std.specs.Io.KnownBytes.{IsAtEnd}
use Rattle.stm_files.specs.Beginning.{read_on}
use Rattle.stm_files.specs.NoJournal.{is_no_journal}
use Rattle.stm_files.proofs.Beginnings.{known-said, known-whole, read-more}
use Rattle.stm_files.proofs.beginning.is_no_journal.Goals as goal

pub returns-then-count-eq0 : goal.returns-then-count-eq0
returns-then-count-eq0 g c =
    let a = g.S.Read.remaining c.args.source.now in
    let b = g.S.Read.remaining c.loop.source in
    let d = g.S.Read.remaining c.read_some.new.source in
    let none : c.in_ok-count.count ≡ 0 = omega (arith, c.if-count-eq0.true) in
    let is = read-more a b d c.loop.file [] c.loop.invariant (rw none at c.in_ok-count.ensures.taken) in
    let end : IsAtEnd d = c.in_ok-count.ensures.end none (omega arith) in
    rw c.is_no_journal.ensures (known-whole a d c.loop.file is end)

pub returns-then-is_said : goal.returns-then-is_said
returns-then-is_said g c =
    let a = g.S.Read.remaining c.args.source.now in
    let b = g.S.Read.remaining c.loop.source in
    let d = g.S.Read.remaining c.read_some.new.source in
    let bytes = take c.in_ok-count.count c.read_some.new.window in
    let same : c.with-file.result ≡ fold read_on c.loop.file bytes = grind (arith, common_steps, c.with-file.ensures) in
    let is = rw (← same) at (read-more a b d c.loop.file bytes c.loop.invariant c.in_ok-count.ensures.taken) in
    rw c.is_no_journal-then-is_said.ensures (known-said a d c.with-file.result is (sym c.is_said.ensures ∙ c.if-is_said.true))

pub loop-preserved : goal.loop-preserved
loop-preserved g c =
    let a = g.S.Read.remaining c.args.source.now in
    let b = g.S.Read.remaining c.loop.source in
    let d = g.S.Read.remaining c.read_some.new.source in
    let bytes = take c.in_ok-count.count c.read_some.new.window in
    let same : c.with-file.result ≡ fold read_on c.loop.file bytes = grind (arith, common_steps, c.with-file.ensures) in
    rw same (read-more a b d c.loop.file bytes c.loop.invariant c.in_ok-count.ensures.taken)
