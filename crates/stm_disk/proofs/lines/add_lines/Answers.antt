-- One piece more.
use Rattle.std.proofs.Common.{ℕ, ◌≡◌, ◌≤◌, ◌+◌, ◌-◌, ◌++◌, ◌∙◌, List, Option, ap, arith, drop, length, length-drop, sym, take, take_all}
use Rattle.std.proofs.KnownBytes.{Appends-trans, Appends-nil}
use Rattle.std.proofs.Math.Seq.{take-add}
use Rattle.std.specs.Io.KnownBytes.{Appends}
use Rattle.stm_disk.proofs.Adding.{so_far_none, so_far_settled, so_far_more, so_far_all, next_time, next_there, failed_adding}
use Rattle.stm_disk.proofs.lines.add_lines.Goals as goal

rest-is : (done : ℕ) (bytes : List ℕ) → take (length bytes - done) (drop done bytes) ≡ drop done bytes
rest-is done bytes = take_all (length bytes - done) (drop done bytes) (omega (arith, length-drop done bytes))

piece-is : (done count : ℕ) (bytes : List ℕ)
    → take count (take (length bytes - done) (drop done bytes)) ≡ take count (drop done bytes)
piece-is done count bytes = ap (λ rest. take count rest) (rest-is done bytes)

more-is : (done count : ℕ) (bytes : List ℕ)
    → take done bytes ++ take count (take (length bytes - done) (drop done bytes)) ≡ take (done + count) bytes
more-is done count bytes = ap (λ rest. take done bytes ++ take count rest) (rest-is done bytes) ∙ sym (take-add done count bytes)

added_more : (a b c : Option (List ℕ)) (done count : ℕ) (bytes : List ℕ) → Appends a b (take done bytes)
    → Appends b c (take count (take (length bytes - done) (drop done bytes))) → Appends a c (take (done + count) bytes)
added_more a b c done count bytes before piece =
    rw (more-is done count bytes) at (Appends-trans a b c (take done bytes) (take count (take (length bytes - done) (drop done bytes))) before piece)

within_more : (done count : ℕ) (bytes : List ℕ) → done ≤ length bytes
    → count ≤ length (take (length bytes - done) (drop done bytes)) → done + count ≤ length bytes
within_more done count bytes le within =
    omega (arith, le, within, ap (λ rest. length rest) (rest-is done bytes), length-drop done bytes)

pub loop-done-init : goal.loop-done-init
loop-done-init g c = record {
  within = omega arith;
  known = Appends-nil (g.F.GrowingFile.view c.args.file.now).known;
  honest = λ h s. so_far_none c.args.at c.args.bytes.now (g.F.GrowingFile.view c.args.file.now)
      (g.met.F.GrowingFile.model c.args.file.now h) h s;
}

pub loop-done-preserved : goal.loop-done-preserved
loop-done-preserved g c =
    let V = g.F.GrowingFile.view in
    let done = c.loop-done.done in
    let count = c.piece-count.result in
    let bytes = c.args.bytes.now in
    let i = c.loop-done.invariant in
    let a = V c.args.file.now in
    let b = V c.loop-done.file in
    record {
      within = within_more done count bytes i.within c.piece-count.ensures.within;
      known = added_more a.known b.known (V c.add_piece.new.file).known done count bytes i.known c.in_ok-add_piece.ensures.known;
      honest = λ h s.
          let so = i.honest h s in
          let m = g.met.F.GrowingFile.model c.loop-done.file so.honest in
          let settled = so_far_settled c.args.at c.saturating_add-place.result done bytes a b m s.place i.within (λ small. omega (arith, small, c.saturating_add-place.ensures)) so in
          let by = c.in_ok-add_piece.ensures.honest so.honest settled in
          so_far_more done count bytes _ a b (V c.add_piece.new.file) (piece-is done count bytes) so by.ok
          (next_time c.add_piece.result done count bytes _ a b (V c.add_piece.new.file) (piece-is done count bytes) so (c.add_piece.ensures.honest so.honest settled));
    }

pub returns-in_err-add_piece-clause-honest : goal.returns-in_err-add_piece-clause-honest
returns-in_err-add_piece-clause-honest g c = λ h s.
    let V = g.F.GrowingFile.view in
    let done = c.loop-done.done in
    let count = c.piece-count.result in
    let bytes = c.args.bytes.now in
    let i = c.loop-done.invariant in
    let a = V c.args.file.now in
    let b = V c.loop-done.file in
    let so = i.honest h s in
    let m = g.met.F.GrowingFile.model c.loop-done.file so.honest in
    let settled = so_far_settled c.args.at c.saturating_add-place.result done bytes a b m s.place i.within (λ small. omega (arith, small, c.saturating_add-place.ensures)) so in
    failed_adding c.from_residual.result _ bytes a (V c.add_piece.new.file) c.from_residual.ensures.1
    (next_there done count bytes _ a b (V c.add_piece.new.file) (piece-is done count bytes) so.seen (c.in_err-add_piece.ensures.honest so.honest settled).err)
    (next_time c.add_piece.result done count bytes _ a b (V c.add_piece.new.file) (piece-is done count bytes) so (c.add_piece.ensures.honest so.honest settled))

pub returns-clause-honest : goal.returns-clause-honest
returns-clause-honest g c = λ h s.
    let V = g.F.GrowingFile.view in
    let so = c.loop-done.invariant.honest h s in
    record {
      ok = so_far_all c.loop-done.done c.args.bytes.now (V c.args.file.now) (V c.loop-done.file)
          (g.met.F.GrowingFile.model c.loop-done.file so.honest) (omega (arith, c.loop-done-test.false)) so;
      err = tt;
      time = so.time;
    }
