use Rattle.std.proofs.Common.{◌≡◌, false, take}
use Rattle.std.specs.List.{list_any, range_with_len}
use Rattle.md_notices.specs.Kernel.{marks_below}
use Rattle.md_notices.proofs.kernel.is_marked_below.Given as goal

abbrev pub invariant-loop-chunk : goal.invariant-loop-chunk
invariant-loop-chunk g l =
    list_any (marks_below l.mirror.array l.sector) (take l.chunk (range_with_len 0 l.mirror.array.marks.chunks)) ≡ false
