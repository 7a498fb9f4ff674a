use Rattle.std.specs.Prelude.{[]}
use Rattle.md_files.proofs.masks.images.masked_images.no_mask.Given as goal

-- where nothing is masked no byte of the disk counts
abbrev pub ghost-mask_of : goal.ghost-mask_of
ghost-mask_of a = []
