use Rattle.std.proofs.Common.{◌∙◌, ap, length, sym}
use Rattle.stm_work.proofs.PlacedFiles.{as_many}
use Rattle.stm_work.proofs.content.read_images.Goals as goal

pub join_files-requires : goal.join_files-requires
join_files-requires g c = as_many c.args.table.now c.args.files.now c.in_ok-images.images.items c.in_ok-images.ensures ∙ ap length (sym c.deref.ensures.value)
