use Rattle.stm_journal.proofs.PageReads.{the_kept, kept-length, kept-within, kept-said, page-fetched}
use Rattle.stm_journal.proofs.journal.Journal.fetch_page.Goals as goal

pub returns-clause-honest : goal.returns-clause-honest
returns-clause-honest g c = λ honest tied.
    let V = g.R.Rig.view in
    let l = c.args.self.now in
    let place = c.args.place in
    let a = V c.args.rig.now in
    let b = V c.fetch_digits.new.rig in
    let is = c.requires.kept in
    let kept = the_kept l place a b tied is in
    page-fetched l place a b tied is c.fetch_digits.new.buf c.fetch_digits.result
    (c.fetch_digits.ensures.honest honest kept.0.bytes (kept-length l place a b tied is) (kept-within l place a b tied is) (kept-said l place a b tied is))
