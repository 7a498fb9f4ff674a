use Rattle.std.proofs.Common.{◌≡◌, ◌<◌, ℕ, true}
use Rattle.md_bitmap.specs.Marks.{is_set}
use Rattle.md_bitmap.proofs.marks.Marks.has_all_of.Given as goal

abbrev pub invariant-loop-chunk : goal.invariant-loop-chunk
invariant-loop-chunk l = (i : ℕ) → i < l.chunk → is_set l.others.bytes i ≡ true → is_set l.self.bytes i ≡ true
