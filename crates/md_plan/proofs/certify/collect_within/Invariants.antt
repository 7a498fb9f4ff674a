use Rattle.std.proofs.Common.{◌≡◌, take}
use Rattle.md_plan.specs.Certificates.{chunks_within}
use Rattle.md_plan.proofs.certify.collect_within.Given as goal

abbrev pub invariant-loop-row : goal.invariant-loop-row
invariant-loop-row l = l.chunks.items ≡ chunks_within l.sources (take l.row-index l.rows)
