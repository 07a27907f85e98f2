use Rattle.std.proofs.Common.{◌≡◌, ◌+◌, [], ◌∷◌, ◌++◌, List, subst, sym, take}
use Rattle.std.proofs.lemmas.List.{take_more}
use Rattle.stm_image.specs.Pairs.{Pairs}
use Rattle.stm_words.specs.declared.image_file.ImageFile.{ImageFile}
use Rattle.stm_work.specs.Content.{ArePlacedOf}
use Rattle.stm_work.proofs.PlacedFiles.{placed_more}
use Rattle.stm_work.proofs.content.read_placed.Goals as goal

pub loop-file-preserved : goal.loop-file-preserved
loop-file-preserved g c =
    let table = c.args.table.now in
    let files = c.args.files.now in
    let n = c.loop-file.file-index in
    let sets : List Pairs = c.loop-file.images.items in
    let more = placed_more table (take n files) sets _ c.in_ok-read_named.field-0 c.loop-file.invariant c.in_ok-read_named.ensures.placed in
    let images : List Pairs = sets ++ c.in_ok-read_named.field-0 ∷ [] in
    subst (λ (items : List Pairs). ArePlacedOf table (take (n + 1) files) items) (sym c.in_ok-push.ensures.items)
    (subst (λ (done : List ImageFile). ArePlacedOf table done images) (sym (take_more files n _ c.loop-file-test.true)) more)
