use Rattle.std.proofs.Common.{◌≡◌, ◌≤◌}
use Rattle.md_cert.specs.Sources.{has, count_below}
use Rattle.md_cert.proofs.sources.source_count.Given as goal

abbrev pub invariant-loop-source : goal.invariant-loop-source
invariant-loop-source l = record { counted : l.count ≡ count_below (has l.mask) l.source; few : l.count ≤ l.source }
