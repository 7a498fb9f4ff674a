use Rattle.std.proofs.Common.{drop}
use Rattle.md_kept_members.proofs.EntryCounts.{IsWithin}
use Rattle.md_kept_members.proofs.entries.count_within.Given as goal

abbrev pub invariant-loop-run : goal.invariant-loop-run
invariant-loop-run l = IsWithin l.runs (drop l.run-index l.run-items) l.from l.to l.fn.counter l.next
