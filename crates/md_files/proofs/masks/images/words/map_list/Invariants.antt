use Rattle.std.proofs.Common.{map}
use Rattle.md_files.specs.Masks.Images.Words.{AreMaps}
use Rattle.md_files.proofs.masks.images.words.map_list.Given as goal

abbrev pub invariant-loop-place : goal.invariant-loop-place
invariant-loop-place l = AreMaps (map (λ s. s.now) l.names) (map (λ s. s.now) l.words) l.place l.list.items
