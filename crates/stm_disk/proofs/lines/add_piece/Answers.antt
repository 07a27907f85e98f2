-- A piece that is appended, and synced.
use Rattle.std.proofs.Common.{◌≡◌, List, ℕ, Option, subst, sym}
use Rattle.std.specs.Io.KnownBytes.{Appends}
use Rattle.std.proofs.lemmas.Result.{on_ok_weaker}
use Rattle.stm_disk.proofs.Adding.{piece_appended, piece_added, failed_adding}
use Rattle.stm_disk.proofs.lines.add_piece.Goals as goal

still_appends : (a b c : Option (List ℕ)) (piece : List ℕ) → Appends a b piece → c ≡ b → Appends a c piece
still_appends a b c piece added same = subst (λ (x : Option (List ℕ)). Appends a x piece) (sym same) added

pub returns-clause-known : goal.returns-clause-known
returns-clause-known g c =
    let V = g.F.GrowingFile.view in
    on_ok_weaker c.sync.result
    (λ same. still_appends (V c.args.file.now).known (V c.append.new.self).known (V c.sync.new.self).known c.args.piece.now c.in_ok-append.ensures.known same)
    c.sync.ensures.known

pub returns-in_err-append-clause-honest : goal.returns-in_err-append-clause-honest
returns-in_err-append-clause-honest g c = λ h s.
    let V = g.F.GrowingFile.view in
    failed_adding c.from_residual.result _ c.args.piece.now (V c.args.file.now) (V c.append.new.self) c.from_residual.ensures.1
    (c.in_err-append.ensures.honest h).err
    (piece_appended c.append.result c.args.at c.args.piece.now (V c.args.file.now) (V c.append.new.self)
    (g.met.F.GrowingFile.model c.args.file.now h) c.requires s (c.append.ensures.honest h))

pub returns-clause-honest : goal.returns-clause-honest
returns-clause-honest g c = λ h s.
    let V = g.F.GrowingFile.view in
    let a = V c.args.file.now in
    let b = V c.append.new.self in
    let d = V c.sync.new.self in
    let by = c.in_ok-append.ensures.honest h in
    piece_added c.sync.result c.args.at c.args.piece.now a b d
    (g.met.F.GrowingFile.model c.args.file.now h)
    (g.met.F.GrowingFile.model c.append.new.self by.honest)
    (λ k. g.met.F.GrowingFile.model c.sync.new.self k)
    c.requires s by.ok by.synced
    (piece_appended c.append.result c.args.at c.args.piece.now a b (g.met.F.GrowingFile.model c.args.file.now h) c.requires s (c.append.ensures.honest h))
    (c.sync.ensures.honest by.honest)
