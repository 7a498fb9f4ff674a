use Rattle.std.proofs.Common.{◌≡◌, take, true}
use Rattle.std.specs.List.{list_all}
use Rattle.md_notices.specs.UngivenChunks.{gives_no_whole}
use Rattle.md_notices.proofs.ungiven_chunks.nobody_gives.Given as goal

abbrev pub invariant-loop-k : goal.invariant-loop-k
invariant-loop-k g l = record { none : list_all (gives_no_whole l.mirror.array l.chunk) (take l.k l.mirror.array.members) ≡ true }
