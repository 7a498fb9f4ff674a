use Rattle.std.proofs.Common.{◌≡◌, take}
use Rattle.md_messages.specs.Missing.{gap_count}
use Rattle.md_messages.proofs.missing.gap_count.Given as goal

abbrev pub invariant-loop-run : goal.invariant-loop-run
invariant-loop-run l = l.sectors ≡ gap_count (take l.run-index l.runs)
