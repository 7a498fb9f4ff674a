use Rattle.std.specs.Prelude.{[], map}
use Rattle.md_files.specs.Masks.Images.Copies.{AreMasked}
use Rattle.md_files.specs.Masks.Images.Masks.{KeepsAll}
use Rattle.md_files.proofs.masks.images.copies.mask_images.Given as goal

-- the program knows no byte of the disks
abbrev pub ghost-mask_of : goal.ghost-mask_of
ghost-mask_of g a = []

abbrev pub invariant-loop-image : goal.invariant-loop-image
invariant-loop-image g l = record {
  masks : AreMasked g.I.Images g.I.Dev.Device l.fn.images l.maps (map (λ s. s.now) l.names) l.image l.masked.masks;
  images : KeepsAll g.I.Images l.fn.images l.masked.images;
}
