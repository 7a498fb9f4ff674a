use Rattle.std.proofs.Common.{◌≡◌, map}
use Rattle.md_metadata.specs.Grow.Growth.{with_bitmap}
use Rattle.md_metadata.proofs.bitmap_grow.growth.with_bitmaps.Given as goal

abbrev pub invariant-loop-info : goal.invariant-loop-info
invariant-loop-info l = l.members.items ≡ map (with_bitmap l.header l.start) l.yielded
