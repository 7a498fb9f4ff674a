use Rattle.std.proofs.Common.{◌≡◌, ◌*◌}
use Rattle.md_bitmap.specs.Marks.{count_set}
use Rattle.md_bitmap.proofs.words.count_below.Given as goal

abbrev pub invariant-loop-k : goal.invariant-loop-k
invariant-loop-k l = l.total ≡ count_set l.bytes (64 * l.k)
