use Rattle.std.proofs.Common.{◌≡◌, ◌+◌, ◌*◌, ◌++◌, map, take}
use Rattle.std.specs.List.{flat_map, range_with_len}
use Rattle.byteorder.specs.Endian.{little_bytes}
use Rattle.md_badblocks.specs.Log.{entry_at}
use Rattle.md_badblocks.proofs.log.write_run.Given as goal

abbrev pub invariant-loop-k : goal.invariant-loop-k
invariant-loop-k l =
    take (8 * (l.place + l.k)) l.buf ≡ take (8 * l.place) l.initial.buf ++ flat_map (little_bytes 8) (map (entry_at l.run) (range_with_len 0 l.k))
