use Rattle.std.proofs.Common.{◌≡◌, map}
use Rattle.md_images.specs.Taking.{may_miss, word_of}
use Rattle.md_images.proofs.Listed.{listed}
use Rattle.md_images.proofs.image_word.image_list.Given as goal

abbrev pub invariant-loop-index : goal.invariant-loop-index
invariant-loop-index l = map word_of l.list.items ≡ listed (may_miss l.missing) (map (λ s. s.now) l.words) l.index
