use Rattle.std.proofs.Common.{map}
use Rattle.md_files.specs.Masks.Images.Words.{NamesNone}
use Rattle.md_files.proofs.masks.images.words.map_word.Given as goal

abbrev pub invariant-loop-image : goal.invariant-loop-image
invariant-loop-image l = NamesNone (map (λ s. s.now) l.names) l.image l.word
