use Rattle.std.proofs.Common.{◌-◌}
use Rattle.md_bitmap.proofs.Bits.{IsPassed}
use Rattle.md_bitmap.proofs.words.next_below.Given as goal

abbrev pub invariant-loop-at : goal.invariant-loop-at
invariant-loop-at l = IsPassed l.bytes l.from l.at

abbrev pub decreases-loop-at : goal.decreases-loop-at
decreases-loop-at l = l.end - l.at
