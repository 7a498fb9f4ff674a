use Rattle.md_files.proofs.masks.images.masked_images.mask_of.Given as goal

-- the disk's bytes are those that the caller has in mind
abbrev pub ghost-new : goal.ghost-new
ghost-new g a = g.disk
