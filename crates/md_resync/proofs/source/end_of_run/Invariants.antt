use Rattle.std.proofs.Common.{ℕ, ◌<◌, ◌≤◌}
use Rattle.md_state.specs.Steps.CopyData.{IsSource}
use Rattle.md_resync.proofs.source.end_of_run.Given as goal

-- the sectors so far
abbrev pub invariant-loop-next : goal.invariant-loop-next
invariant-loop-next g l = record { run : (s : ℕ) → l.sector ≤ s → s < l.next → IsSource l.from s l.mirror.array }
