use Rattle.std.proofs.Common.{◌≡◌}
use Rattle.md_bitmap.specs.Marks.{count_set}
use Rattle.md_raw_reports.proofs.raw_members.counting.count_bits.Given as goal

abbrev pub invariant-loop-i : goal.invariant-loop-i
invariant-loop-i l = l.total ≡ count_set l.bytes l.i
